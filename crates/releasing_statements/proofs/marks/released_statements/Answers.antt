use Rattle.std.proofs.Common.{◌∙◌, ◌++◌, false, List, [], refl, ap, map}
use Rattle.std.specs.List.{flat_map}
use Rattle.jif_tree.specs.declared.program.Method.{Method}
use Rattle.jif_tree.specs.declared.program.Stmt.{Stmt}
use Rattle.jif_tree.specs.Trees.{block_tree, method_tree}
use Rattle.releasing_statements.specs.Marks.{block_marks, method_marks}
use Rattle.releasing_statements.proofs.MarkParts.{marks_more, program_marks}
use Rattle.releasing_statements.proofs.marks.released_statements.Goals as goal

pub loop-method-preserved : goal.loop-method-preserved
loop-method-preserved c =
    marks_more (λ (m : Method). method_marks (method_tree m)) (λ (m : Method). false)
    (λ (m : Method). block_marks (block_tree m.body.items))
    [] _ _ _ _ _ _ (λ m. refl) c.loop-method-test.true c.method-item.is c.loop-method.invariant
    c.in_ok-push.ensures.items (c.in_ok-push_block.ensures
    ∙ ap (λ (body : List Stmt). c.push.new.self.items ++ block_marks (block_tree body)) c.deref.ensures.value)

pub returns : goal.returns
returns c =
    program_marks _ _ _ c.loop-method-test.false c.loop-method.invariant
    ∙ ap (λ (methods : List Method). flat_map method_marks (map method_tree methods)) c.deref-method-items.ensures.value
