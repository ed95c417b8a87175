use Rattle.std.proofs.Common.{rules, to_z-of_z, SFits, w64, subst}
use Rattle.std.specs.Int.{FitsUnsignedBits}
use Rattle.host_stores.proofs.RowPlaces.{set_below}
use Rattle.host_stores.proofs.rows.Rows.set_element.Goals as goal

pub returns-in_default : goal.returns-in_default
returns-in_default c =
    let fits : SFits w64 c.args.index = search rules in
    set_below c.args.self.now c.args.field.0 c.args.index c.args.value fits
    (subst (λ index. FitsUnsignedBits 64 index → ⊥) (to_z-of_z fits) c.in_default.ensures)
