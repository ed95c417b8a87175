use Rattle.std.proofs.Common.{◌∙◌, List, sym, ap}
use Rattle.host_code.specs.declared.code_expr.Node.{Node}
use Rattle.host_code.specs.declared.instruction.Op.TheVariants as op
use Rattle.jif_tree.specs.Trees.{expr_tree}
use Rattle.split_rules.specs.Walk.{emitted, expr_emissions, result_emissions}
use Rattle.control_split.specs.Trace.{traced, traced_one}
use Rattle.control_split.specs.Views.{walked_of}
use Rattle.control_split.proofs.Operands.{traced_then, result_kept}
use Rattle.control_split.proofs.calls.give_back.Goals as goal

pub returns-in_ok-instruction : goal.returns-in_ok-instruction
returns-in_ok-instruction c =
    let place = c.args.place.now in
    let walked = walked_of c.args.walk.now in
    let value = expr_tree c.args.given.now in
    traced_then c.args.trace.now c.value.new.trace c.instruction.new.self
    (expr_emissions place.host place.label.now place.statement 0 value)
    (result_emissions walked place.host place.label.now place.statement value)
    c.in_ok-nodes.ensures.trace
    (c.in_ok-instruction.ensures
    ∙ ap (λ (nodes : List Node). traced_one c.value.new.trace
    (emitted place.host place.label.now place.statement (op.Ret c.in-Some.kept nodes))) c.in_ok-nodes.ensures.value
    ∙ ap (traced c.value.new.trace)
    (sym (result_kept walked place.host place.label.now place.statement value c.in-Some.kept c.in-Some.is)))
