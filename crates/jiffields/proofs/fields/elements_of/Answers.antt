use Rattle.std.proofs.Common.{rules, ◌≡◌, [], ◌∷◌, ◌++◌, ap, ◌∙◌, SFits, w64}
use Rattle.std.specs.Prelude.{pos}
use Rattle.std.proofs.lemmas.Int.{to_z-of_z}
use Rattle.jif_tree.specs.Store.{element_at, row_of}
use Rattle.jiffields.proofs.FieldTexts.{one_element}
use Rattle.jiffields.proofs.fields.elements_of.Goals as goal

pub loop-index-preserved : goal.loop-index-preserved
loop-index-preserved c =
    let value : c.field.result
    ≡ element_at (row_of c.args.host.now.stores.rows c.args.field.0) (pos c.loop-index.index) = search rules in
    let fits : SFits w64 c.field.result = search rules in
    one_element c.args.host.now.stores.rows c.args.field.0 c.loop-index.index c.loop-index.row.items
    c.push.new.self.items c.field.result c.loop-index.invariant value
    (c.in_ok-push.ensures.items
    ∙ ap (λ element. c.loop-index.row.items ++ element ∷ []) (to_z-of_z w64 c.field.result fits))
