use Rattle.std.proofs.Common.{◌++◌, List, [], ◌∷◌, refl, ap, ◌∙◌, map}
use Rattle.std.specs.List.{flat_map}
use Rattle.jif_tree.specs.Trees.{block_tree, method_tree}
use Rattle.jif_tree.specs.Numbering.{block_lines}
use Rattle.jif_tree.specs.declared.program.Stmt.{Stmt}
use Rattle.jif_tree.specs.declared.program.Method.{Method}
use Rattle.front_end.proofs.BlockParts.{parts_more, program_parts}
use Rattle.front_end.proofs.statements.statement_lines.Invariants.{lines_of}
use Rattle.front_end.proofs.statements.statement_lines.Goals as goal

pub loop-method-preserved : goal.loop-method-preserved
loop-method-preserved c =
    parts_more (λ (m : Method). lines_of (method_tree m)) (λ (m : Method). m.line ∷ [])
    (λ (m : Method). block_lines (block_tree m.body.items))
    [] _ _ _ _ _ _ (λ m. refl) c.loop-method-test.true c.method-item.is c.loop-method.invariant
    c.in_ok-push.ensures.items (c.in_ok-push_block.ensures
    ∙ ap (λ (body : List Stmt). c.push.new.self.items ++ block_lines (block_tree body)) c.deref.ensures.value)

pub returns : goal.returns
returns c =
    program_parts lines_of _ _ _ c.loop-method-test.false c.loop-method.invariant
    ∙ ap (λ (methods : List Method). flat_map lines_of (map method_tree methods)) c.deref-method-items.ensures.value
