use Rattle.std.proofs.Common.{◌∙◌, ◌∷◌, List, ap, Some}
use Rattle.std.proofs.lemmas.Result.{on_ok_weaker}
use Rattle.host_code.specs.declared.code_expr.Node.{Node}
use Rattle.host_code.specs.declared.instruction.Op.TheVariants as op
use Rattle.jif_tree.specs.Trees.{expr_tree}
use Rattle.split_rules.specs.Expressions.{nodes_of, released_by}
use Rattle.split_rules.specs.Walk.{emitted, expr_emissions, pass_emissions, releasing}
use Rattle.control_split.specs.Trace.{TraceShape, traced, traced_one}
use Rattle.control_split.specs.Views.{planned_in}
use Rattle.control_split.proofs.Operands.{traced_then}
use Rattle.control_split.proofs.calls.argument.Goals as goal

pub returns : goal.returns
returns c =
    let place = c.args.place.now in
    let value = expr_tree c.args.argument.now in
    let passed = pass_emissions (planned_in c.args.walk.now.split) place.host place.label.now place.statement
    c.args.param (Some c.args.home) in
    on_ok_weaker c.pass.result (λ is. traced_then c.args.trace.now c.value.new.trace c.pass.new.trace
    (expr_emissions place.host place.label.now place.statement 0 value)
    (releasing place.host place.label.now place.statement (op.Arg c.args.param (nodes_of 0 value))
    (released_by 0 value) ∷ passed)
    c.in_ok-given.ensures.trace
    (is ∙ ap (λ (trace : TraceShape). traced trace passed) (c.in_ok-instruction.ensures
    ∙ ap (λ (nodes : List Node). traced_one c.value.new.trace
    (emitted place.host place.label.now place.statement (op.Arg c.args.param nodes))) c.in_ok-given.ensures.value)))
    c.pass.ensures
