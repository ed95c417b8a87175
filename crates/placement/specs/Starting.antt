-- Starting plans. The one for a host puts all that this host may hold there, and anything else on the first host that
-- may hold it.
use Rattle.std.specs.Prelude.{◌≡◌, ◌≢◌, ◌⊎◌, ℕ, ◌<◌, ◌≤◌}
use Rattle.std.specs.List.{AllZip}
use Rattle.std.specs.Int.{bit_at}
use Rattle.js_base.specs.declared.ids.HostId.{HostId}
use Rattle.need_labels.specs.Plan.{PlanShape}
use Rattle.place_rules.specs.Allowed.{AllowedShape}

-- the first host of a word
pub record IsFirstHost (word host : ℕ) : Type 0 where
  pub held : bit_at word host ≡ 1
  pub before : (earlier : ℕ) → earlier < host → bit_at word earlier ≢ 1

-- where the starting plan for a host puts what the hosts of a word may hold
abbrev pub StartsOn : ℕ → ℕ → HostId → Type 0
StartsOn preferred word host =
    ((bit_at word preferred ≡ 1) × (host.0 ≡ preferred))
    ⊎ ((bit_at word preferred ≢ 1) × IsFirstHost word host.0)

-- the starting plan for a host
pub record IsStartOf (allowed : AllowedShape) (preferred : ℕ) (plan : PlanShape) : Type 0 where
  pub fields : AllZip (StartsOn preferred) allowed.fields plan.fields
  pub statements : AllZip (StartsOn preferred) allowed.statements plan.statements

-- Of the starting plans for so many hosts this one costs least. Where others cost as little, it is the one for the
-- first of their hosts.
pub record IsCheapestStart (cost : PlanShape → ℕ) (allowed : AllowedShape) (count : ℕ) (plan : PlanShape) :
    Type 0 where
  pub host : ℕ
  pub known : host < count
  pub start : IsStartOf allowed host plan
  pub least : (other : ℕ) (another : PlanShape) → other < count → IsStartOf allowed other another →
      cost plan ≤ cost another
  pub first : (earlier : ℕ) (another : PlanShape) → earlier < host → IsStartOf allowed earlier another →
      cost plan < cost another
