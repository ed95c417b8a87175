use Rattle.std.proofs.Common.{◌≡◌, ◌∙◌, ℕ, ◌∷◌, [], ◌++◌, List, ap, arith}
use Rattle.std.proofs.lemmas.Result.{on_ok_weaker}
use Rattle.host_code.specs.declared.code_expr.Node.{Node}
use Rattle.host_code.specs.declared.instruction.Op.TheVariants as op
use Rattle.jif_tree.specs.Trees.{expr_tree}
use Rattle.split_rules.specs.Emissions.{Emission}
use Rattle.split_rules.specs.Expressions.{reads_in, nodes_of, released_by}
use Rattle.split_rules.specs.Walk.{emitted, expr_emissions, releasing}
use Rattle.control_split.specs.Trace.{traced, traced_one}
use Rattle.control_split.proofs.Operands.{traced_then}
use Rattle.split_rules.proofs.ExpressionNodes.{reads_few}
use Rattle.control_split.proofs.blocks.set_element.Goals as goal

pub add_reads-requires-2 : goal.add_reads-requires-2
add_reads-requires-2 c =
    omega (arith, c.in_ok-middle.ensures.next, reads_few (expr_tree c.args.index.now), c.requires)

pub code_expr-requires-2 : goal.code_expr-requires-2
code_expr-requires-2 c =
    omega (arith, c.in_ok-middle.ensures.next, reads_few (expr_tree c.args.index.now), c.requires)

pub returns : goal.returns
returns c =
    let place = c.args.place.now in
    let index = expr_tree c.args.index.now in
    let value = expr_tree c.args.expr.now in
    let start = c.args.trace.now in
    let middle : c.in_ok-middle.middle ≡ reads_in index = c.in_ok-middle.ensures.next ∙ omega arith in
    let firsts = expr_emissions place.host place.label.now place.statement 0 index in
    let seconds : ℕ → List Emission = λ first. expr_emissions place.host place.label.now place.statement first value in
    let both = traced_then start c.add_reads.new.trace c.add_reads-2.new.trace firsts (seconds (reads_in index))
    c.in_ok-middle.ensures.trace
    (c.in_ok-_next.ensures.trace ∙ ap (λ first. traced c.add_reads.new.trace (seconds first)) middle) in
    let nodes = c.in_ok-nodes.ensures ∙ ap (λ first. nodes_of first value) middle in
    on_ok_weaker c.instruction.result (λ is. traced_then start c.add_reads-2.new.trace c.instruction.new.self
    (firsts ++ seconds (reads_in index))
    (releasing place.host place.label.now place.statement
    (op.Put c.args.field (nodes_of 0 index) (nodes_of (reads_in index) value))
    (released_by 0 index ++ released_by (reads_in index) value) ∷ []) both
    (is ∙ ap (λ (at : List Node). traced_one c.add_reads-2.new.trace
    (emitted place.host place.label.now place.statement (op.Put c.args.field at c.in_ok-nodes.nodes)))
    c.in_ok-at.ensures
    ∙ ap (λ (kept : List Node). traced_one c.add_reads-2.new.trace
    (emitted place.host place.label.now place.statement (op.Put c.args.field (nodes_of 0 index) kept))) nodes))
    c.instruction.ensures
