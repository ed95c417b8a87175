use Rattle.std.proofs.Common.{◌∙◌, ◌∷◌, List, ap}
use Rattle.std.proofs.lemmas.Result.{on_ok_weaker}
use Rattle.host_code.specs.declared.code_expr.Node.{Node}
use Rattle.host_code.specs.declared.instruction.Op.TheVariants as op
use Rattle.jif_tree.specs.Trees.{expr_tree}
use Rattle.split_rules.specs.Expressions.{nodes_of, released_by}
use Rattle.split_rules.specs.Walk.{emitted, expr_emissions, send_emissions, releasing}
use Rattle.control_split.specs.Trace.{TraceShape, traced, traced_one}
use Rattle.control_split.specs.Views.{planned_in}
use Rattle.control_split.proofs.Operands.{traced_then}
use Rattle.control_split.proofs.blocks.set_local.Goals as goal

pub returns : goal.returns
returns c =
    let place = c.args.place.now in
    let value = expr_tree c.args.expr.now in
    let sent = send_emissions (planned_in c.args.walk.now.split) place.host place.label.now place.statement c.args.x
    c.args.carried in
    on_ok_weaker c.send.result (λ is. traced_then c.args.trace.now c.value.new.trace c.send.new.trace
    (expr_emissions place.host place.label.now place.statement 0 value)
    (releasing place.host place.label.now place.statement (op.Let c.args.x (nodes_of 0 value))
    (released_by 0 value) ∷ sent)
    c.in_ok-nodes.ensures.trace
    (is ∙ ap (λ (trace : TraceShape). traced trace sent) (c.in_ok-instruction.ensures
    ∙ ap (λ (nodes : List Node). traced_one c.value.new.trace
    (emitted place.host place.label.now place.statement (op.Let c.args.x nodes))) c.in_ok-nodes.ensures.value)))
    c.send.ensures
