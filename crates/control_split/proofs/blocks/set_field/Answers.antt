use Rattle.std.proofs.Common.{◌∙◌, ◌∷◌, [], List, ap}
use Rattle.std.proofs.lemmas.Result.{on_ok_weaker}
use Rattle.host_code.specs.declared.code_expr.Node.{Node}
use Rattle.host_code.specs.declared.instruction.Op.TheVariants as op
use Rattle.jif_tree.specs.Trees.{expr_tree}
use Rattle.split_rules.specs.Expressions.{first_element, nodes_of, released_by}
use Rattle.split_rules.specs.Walk.{emitted, expr_emissions, releasing}
use Rattle.control_split.specs.Trace.{traced_one}
use Rattle.control_split.proofs.Operands.{traced_then}
use Rattle.control_split.proofs.blocks.set_field.Goals as goal

pub returns : goal.returns
returns c =
    let place = c.args.place.now in
    let value = expr_tree c.args.expr.now in
    on_ok_weaker c.instruction.result (λ is. traced_then c.args.trace.now c.value.new.trace c.instruction.new.self
    (expr_emissions place.host place.label.now place.statement 0 value)
    (releasing place.host place.label.now place.statement (op.Put c.args.field first_element (nodes_of 0 value))
    (released_by 0 value) ∷ [])
    c.in_ok-nodes.ensures.trace
    (is ∙ ap (λ (index : List Node). traced_one c.value.new.trace
    (emitted place.host place.label.now place.statement (op.Put c.args.field index c.in_ok-nodes.nodes)))
    c.in_ok-index.ensures
    ∙ ap (λ (nodes : List Node). traced_one c.value.new.trace
    (emitted place.host place.label.now place.statement (op.Put c.args.field first_element nodes)))
    c.in_ok-nodes.ensures.value))
    c.instruction.ensures
