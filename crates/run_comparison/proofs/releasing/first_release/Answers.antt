use Rattle.std.proofs.Common.{◌∙◌, ◌++◌, ℕ, List, [], refl, sym, ap, map, Option, slice_get, append-nil}
use Rattle.std.specs.List.{flat_map}
use Rattle.std.specs.Prelude.{unwrap_or}
use Rattle.jif_tree.specs.declared.program.Method.{Method}
use Rattle.jif_tree.specs.declared.program.Stmt.{Stmt}
use Rattle.jif_tree.specs.Trees.{block_tree, method_tree}
use Rattle.releasing_statements.specs.Releases.{block_releases, method_releases}
use Rattle.front_end.proofs.BlockParts.{parts_more, program_parts}
use Rattle.run_comparison.proofs.releasing.first_release.Goals as goal

pub loop-method-preserved : goal.loop-method-preserved
loop-method-preserved c =
    parts_more (λ (m : Method). method_releases (method_tree m)) (λ (m : Method). [])
    (λ (m : Method). block_releases (block_tree m.body.items))
    [] _ _ _ _ _ _ (λ m. refl) c.loop-method-test.true c.method-item.is c.loop-method.invariant
    (sym (append-nil c.loop-method.found.items)) (c.in_ok-push_block.ensures
    ∙ ap (λ (body : List Stmt). c.loop-method.found.items ++ block_releases (block_tree body)) c.deref.ensures.value)

pub returns : goal.returns
returns c =
    c.unwrap_or.ensures ∙ ap (λ (found : Option ℕ). unwrap_or found 0)
    (c.copied.ensures ∙ c.first.ensures.value
    ∙ ap (λ (xs : List ℕ). slice_get xs 0)
    (c.deref-2.ensures.value
    ∙ program_parts method_releases _ _ _ c.loop-method-test.false c.loop-method.invariant
    ∙ ap (λ (methods : List Method). flat_map method_releases (map method_tree methods))
    c.deref-method-items.ensures.value))
