use Rattle.std.proofs.Common.{◌∙◌, ap, List, ℤ}
use Rattle.std.specs.Prelude.{flat_map}
use Rattle.host_stores.proofs.RowPlaces.{joined}
use Rattle.host_stores.proofs.rows.Rows.elements.Goals as goal

pub returns : goal.returns
returns c =
    c.deref.ensures.value ∙ joined c.self.inside.elements.items c.self.inside.offsets.items c.self.invariant
    ∙ ap (λ (rows : List (List ℤ)). flat_map (λ row. row) rows) c.self.view_is
