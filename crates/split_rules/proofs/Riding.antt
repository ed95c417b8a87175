-- What has still to be sent, where one of it is sent, and where the rest rides with a call.
use Rattle.std.proofs.Common.{Bool, true, false, ◌&&◌, ℕ, List, [], ◌∷◌, if◌then◌else◌, nat_eq, refl}
use Rattle.std.specs.List.{AllByRecursion}
use Rattle.js_base.specs.declared.ids.HostId.{HostId}
use Rattle.js_base.specs.declared.ids.VarId.{VarId}
use Rattle.jif_tree.specs.Trees.{call}
use Rattle.msg_cost.specs.Moves.{PlannedShape, is_same}
use Rattle.split_rules.specs.Positions.{Forward, Calling, entering, Position, Entrance, with_forwards, without_forward}
use Rattle.split_rules.specs.Typing.{Enters, EntersWith, RidesAll}

-- what holds of each of them holds of those that are left
pub all_without : (P : Forward → Type 0) (x : VarId) (to : HostId) (forwards : List Forward) →
    AllByRecursion P forwards → AllByRecursion P (without_forward x to forwards)
all_without P x to [] all = tt
all_without P x to (forward ∷ others) all =
    by (nat_eq forward.variable.0 x.0 && is_same forward.host to) (all_without P x to others all.1)
  where
    by : (b : Bool) → AllByRecursion P (without_forward x to others) →
        AllByRecursion P (if b then others else forward ∷ without_forward x to others)
    by true left = all.1
    by false left = (all.0, left)

-- A call with which parameters ride enters as one does where nothing is left to be sent, and all that is left rides.
pub enters_riding : (planned : PlannedShape) (entries : List Entrance) (here : Position) (calling : Calling)
    (number : ℕ) (riders : List VarId) (on : HostId) →
    EntersWith planned entries here calling number riders on →
    Enters planned entries (with_forwards here []) calling number × RidesAll riders on here.forwards
enters_riding planned entries here (entering (call heading site method arguments into rest)) number riders on enters =
    ((enters.0, enters.1, enters.2, refl, enters.4), enters.3)
enters_riding planned entries here calling number riders on enters = absurd enters
