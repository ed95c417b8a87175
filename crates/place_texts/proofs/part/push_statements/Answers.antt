use Rattle.std.proofs.Common.{◌++◌, ◌∙◌, ap, flat_map, map, sym}
use Rattle.std.proofs.lemmas.List.{take_all}
use Rattle.std.proofs.lemmas.List.Folds.{flat_map-map}
use Rattle.jif_tree.specs.Trees.{method_tree}
use Rattle.place_texts.specs.Parts.{method_parts, part_shape}
use Rattle.place_texts.proofs.part.push_statements.Goals as goal

pub returns : goal.returns
returns c =
    let methods = c.args.program.now.methods.items in
    c.loop-method.invariant
    ∙ ap (λ taken. map part_shape c.args.all.now.items
    ++ flat_map (λ method. method_parts (method_tree method)) taken)
    (take_all c.loop-method.method-index methods
    (rw c.deref-method-items.ensures.value at c.loop-method-test.false))
    ∙ ap (λ parts. map part_shape c.args.all.now.items ++ parts) (sym (flat_map-map method_parts method_tree methods))
