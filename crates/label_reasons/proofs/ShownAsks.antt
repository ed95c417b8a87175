-- What a search offers shows what is asked for at the spot that it sees.
use Rattle.std.proofs.Common.{◌≡◌, sym, ap₂}
use Rattle.std.specs.Prelude.{Option}
use Rattle.js_base.specs.declared.ids.VarId.{VarId}
use Rattle.js_base.specs.declared.ids.StmtId.{StmtId}
use Rattle.jif_tree.specs.Trees.{ExprTree}
use Rattle.label_reasons.specs.declared.reason.Trait.{Trait}
use Rattle.label_reasons.specs.declared.reason.Cause.{Cause}
use Rattle.label_reasons.specs.declared.search_place.Place.{Place}
use Rattle.label_reasons.specs.declared.search_place.Stand.{Stand}
use Rattle.label_reasons.specs.declared.search_place.Known.{Known}
use Rattle.label_reasons.specs.Causes.{or_else, expr_cause}
use Rattle.label_reasons.specs.Asks.{cause_at}
use Rattle.label_reasons.specs.Search.{setting_at, Sees, spot_at, cause_is}

pub cause_seen : (place : Place) (stand : Stand) (known : Known) (here : StmtId) (value : ExprTree)
    (of_pc : Trait → Option Cause) (causes : Trait → VarId → Option Cause) → Sees place.held stand known of_pc causes →
    cause_is place here stand known value ≡ cause_at (spot_at place stand known of_pc causes) here value place.held
cause_seen place stand known here value of_pc causes sees =
    sym (ap₂ (λ pc list. expr_cause place.held (setting_at place) here pc list value) sees.of_pc_is sees.causes_are)

-- a cause behind which that of the program label comes
pub joined_seen : (place : Place) (stand : Stand) (known : Known) (of_pc : Trait → Option Cause)
    (causes : Trait → VarId → Option Cause) (cause seen : Option Cause) → Sees place.held stand known of_pc causes →
    cause ≡ seen → or_else cause stand.of_pc ≡ or_else seen (of_pc place.held)
joined_seen place stand known of_pc causes cause seen sees is = ap₂ or_else is (sym sees.of_pc_is)
