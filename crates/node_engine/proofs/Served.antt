-- Units one after the other.
use Rattle.std.proofs.Common.{◌≡◌, ◌⊎◌, ℕ, zero, suc, ◌+◌, ◌-◌, ◌<◌, Bool, true, false, List, inl, inr, refl, sym, ap}
use Rattle.std.proofs.Common.{ap₂, ◌∙◌}
use Rattle.std.proofs.Common.{subst, arith}
use Rattle.js_base.specs.declared.ids.HostId.{HostId}
use Rattle.js_base.specs.declared.status.Status.{Status}
use Rattle.js_base.specs.declared.status.Status.TheVariants as status
use Rattle.host_code.specs.Code.{CodeShape}
use Rattle.node_engine.specs.declared.node_error.NodeError.{NodeError}
use Rattle.node_engine.specs.NodeWorlds.{NodeWorld, NodePart, do_all, BreaksIn}
use Rattle.node_engine.specs.Statuses.{status_of}
use Rattle.node_engine.specs.Serving.{Closes, EndsAt, Serves, StopsIn, has_ended, stage_by, stage_of}
use Rattle.node_engine.specs.Serving.{is_told, halts, goes_on}
use Rattle.node_engine.specs.Told.{Seen, IsAllTold, TellsOf}
use Rattle.node_engine.specs.Units.{AreUnitParts, IsUnit}

-- ---- how it ends

abbrev NoUnits : Status → NodeWorld → NodeWorld → Type 0
NoUnits answer world new = (answer ≡ status.Spent) × (new ≡ world)

abbrev MoreUnits : CodeShape → HostId → ℕ → Status → NodeWorld → NodeWorld → Type 0
MoreUnits code me units answer world new =
    (parts : List NodePart) × AreUnitParts code me world parts
    × (StopsIn answer parts world new ⊎ (IsUnit world × Serves code me units answer (do_all parts world) new))

ends_halted : (code : CodeShape) (me : HostId) (answer : Status) (world new : NodeWorld) (Otherwise : Type 0) →
    stage_of code me world ≡ halts → Closes code me answer world new →
    EndsAt code me (stage_of code me world) answer world new Otherwise
ends_halted code me answer world new Otherwise stage closes =
    subst (λ it. EndsAt code me it answer world new Otherwise) (sym stage) closes

serves_halted : (code : CodeShape) (me : HostId) (units : ℕ) (answer : Status) (world new : NodeWorld) →
    stage_of code me world ≡ halts → Closes code me answer world new → Serves code me units answer world new
serves_halted code me zero answer world new stage closes = ends_halted code me answer world new _ stage closes
serves_halted code me (suc units) answer world new stage closes = ends_halted code me answer world new _ stage closes

serves_told : (code : CodeShape) (me : HostId) (units : ℕ) (world : NodeWorld) → stage_of code me world ≡ is_told →
    Serves code me units status.Done world world
serves_told code me zero world stage =
    subst (λ it. EndsAt code me it status.Done world world (NoUnits status.Done world world)) (sym stage) (refl, refl)
serves_told code me (suc units) world stage =
    subst (λ it. EndsAt code me it status.Done world world (MoreUnits code me units status.Done world world))
    (sym stage) (refl, refl)

serves_spent : (code : CodeShape) (me : HostId) (world : NodeWorld) → stage_of code me world ≡ goes_on →
    Serves code me 0 status.Spent world world
serves_spent code me world stage =
    subst (λ it. EndsAt code me it status.Spent world world (NoUnits status.Spent world world)) (sym stage)
    (refl, refl)

serves_broken : (code : CodeShape) (me : HostId) (units : ℕ) (answer : Status) (world new : NodeWorld)
    (parts : List NodePart) → stage_of code me world ≡ goes_on → AreUnitParts code me world parts →
    StopsIn answer parts world new → Serves code me (suc units) answer world new
serves_broken code me units answer world new parts stage are stops =
    subst (λ it. EndsAt code me it answer world new (MoreUnits code me units answer world new)) (sym stage)
    (parts, are, inl stops)

serves_more : (code : CodeShape) (me : HostId) (units : ℕ) (answer : Status) (world new : NodeWorld)
    (parts : List NodePart) → stage_of code me world ≡ goes_on → AreUnitParts code me world parts → IsUnit world →
    Serves code me units answer (do_all parts world) new → Serves code me (suc units) answer world new
serves_more code me units answer world new parts stage are unit serves =
    subst (λ it. EndsAt code me it answer world new (MoreUnits code me units answer world new)) (sym stage)
    (parts, are, inr (unit, serves))

-- ---- the stage of a world that is told

stage_is : (code : CodeShape) (me : HostId) (world : NodeWorld) (there : Seen) (ended : Bool) →
    IsAllTold world there → world.ended ≡ false → ended ≡ has_ended code me there.inside.host →
    stage_of code me world ≡ stage_by false ended
stage_is code me world there ended told not_yet is =
    ap₂ stage_by not_yet (ap (has_ended code me) (sym told.host_is) ∙ sym is)

-- ---- the units so far

-- Whatever follows from here in the units that are left follows in all of them from the start.
abbrev pub ServesOn : CodeShape → HostId → (units done : ℕ) → (old here : Seen) → Type 0
ServesOn code me units done old here =
    (world : NodeWorld) → IsAllTold world old → world.ended ≡ false →
    (now : NodeWorld) × IsAllTold now here × (now.ended ≡ false)
    × ((answer : Status) (new : NodeWorld) → Serves code me (units - done) answer now new →
    Serves code me units answer world new)

-- what a unit leaves, and what breaks one
abbrev UnitDone : CodeShape → HostId → (here there : Seen) → Bool → Type 0
UnitDone code me here there ended =
    (world : NodeWorld) → IsAllTold world here → world.ended ≡ false →
    (parts : List NodePart) × AreUnitParts code me world parts × IsUnit world × IsAllTold (do_all parts world) there
    × ((do_all parts world).ended ≡ ended)

abbrev UnitBroken : CodeShape → HostId → (here there : Seen) → NodeError → Type 0
UnitBroken code me here there error =
    (world : NodeWorld) → IsAllTold world here →
    (parts : List NodePart) × AreUnitParts code me world parts × TellsOf (BreaksIn error parts world) there

abbrev Ends : CodeShape → HostId → ℕ → Status → (old there : Seen) → Type 0
Ends code me units answer old there =
    (world : NodeWorld) → IsAllTold world old → world.ended ≡ false → TellsOf (Serves code me units answer world) there

-- of the code and the number of a node that are the same yet
pub same_unit : (code own : CodeShape) (me my : HostId) (here there : Seen) (ended : Bool) → own ≡ code → my ≡ me →
    UnitDone own my here there ended → UnitDone code me here there ended
same_unit code own me my here there ended codes numbers unit =
    subst (λ (m : HostId). UnitDone code m here there ended) numbers
    (subst (λ (k : CodeShape). UnitDone k my here there ended) codes unit)

pub same_break : (code own : CodeShape) (me my : HostId) (here there : Seen) (error : NodeError) → own ≡ code →
    my ≡ me → UnitBroken own my here there error → UnitBroken code me here there error
same_break code own me my here there error codes numbers unit =
    subst (λ (m : HostId). UnitBroken code m here there error) numbers
    (subst (λ (k : CodeShape). UnitBroken k my here there error) codes unit)

pub serves_on : (code : CodeShape) (me : HostId) (units done : ℕ) (old here there : Seen) → done < units →
    ServesOn code me units done old here → false ≡ has_ended code me here.inside.host →
    UnitDone code me here there false → ServesOn code me units (done + 1) old there
serves_on code me units done old here there lt on goes unit world told not_yet =
    let at = on world told not_yet in
    let did = unit at.0 at.1 at.2 in
    let left : units - done ≡ suc (units - (done + 1)) = omega arith in (
      do_all did.0 at.0,
      did.3,
      did.4,
      λ answer new serves.
          at.3 answer new
          (subst (λ left. Serves code me left answer at.0 new) (sym left)
          (serves_more code me (units - (done + 1)) answer at.0 new did.0
          (stage_is code me at.0 here false at.1 at.2 goes) did.1 did.2 serves)),
    )

pub ends_told : (code : CodeShape) (me : HostId) (units done : ℕ) (old here there : Seen) → done < units →
    ServesOn code me units done old here → false ≡ has_ended code me here.inside.host →
    UnitDone code me here there true → Ends code me units status.Done old there
ends_told code me units done old here there lt on goes unit world told not_yet =
    let at = on world told not_yet in
    let did = unit at.0 at.1 at.2 in
    let left : units - done ≡ suc (units - (done + 1)) = omega arith in
    let after = do_all did.0 at.0 in (
      after,
      did.3,
      at.3 status.Done after
          (subst (λ left. Serves code me left status.Done at.0 after) (sym left)
          (serves_more code me (units - (done + 1)) status.Done at.0 after did.0
          (stage_is code me at.0 here false at.1 at.2 goes) did.1 did.2
          (serves_told code me (units - (done + 1)) after
          (ap (λ (told : Bool). stage_by told (has_ended code me after.host)) did.4)))),
    )

pub ends_broken : (code : CodeShape) (me : HostId) (units done : ℕ) (old here there : Seen) (error : NodeError)
    (answer : Status) → done < units → ServesOn code me units done old here →
    false ≡ has_ended code me here.inside.host → answer ≡ status_of error →
    UnitBroken code me here there error → Ends code me units answer old there
ends_broken code me units done old here there error answer lt on goes is unit world told not_yet =
    let at = on world told not_yet in
    let did = unit at.0 at.1 in
    let end = did.2 in
    let left : units - done ≡ suc (units - (done + 1)) = omega arith in (
      end.0,
      end.1,
      at.3 answer end.0
          (subst (λ left. Serves code me left answer at.0 end.0) (sym left)
          (serves_broken code me (units - (done + 1)) answer at.0 end.0 did.0
          (stage_is code me at.0 here false at.1 at.2 goes) did.1 (error, is, end.2))),
    )

-- the closing frames, of the node's code and number
abbrev Closing : CodeShape → HostId → Status → (here there : Seen) → Type 0
Closing code me answer here there =
    (world : NodeWorld) → IsAllTold world here → TellsOf (Closes code me answer world) there

pub same_closing : (code own : CodeShape) (me my : HostId) (answer : Status) (here there : Seen) → own ≡ code →
    my ≡ me → Closing own my answer here there → Closing code me answer here there
same_closing code own me my answer here there codes numbers closing =
    subst (λ (m : HostId). Closing code m answer here there) numbers
    (subst (λ (k : CodeShape). Closing k my answer here there) codes closing)

pub ends_closed : (code : CodeShape) (me : HostId) (units done : ℕ) (old here there : Seen) (answer : Status) →
    ServesOn code me units done old here → true ≡ has_ended code me here.inside.host →
    Closing code me answer here there → Ends code me units answer old there
ends_closed code me units done old here there answer on halted closes world told not_yet =
    let at = on world told not_yet in
    let end = closes at.0 at.1 in (
      end.0,
      end.1,
      at.3 answer end.0
          (serves_halted code me (units - done) answer at.0 end.0
          (stage_is code me at.0 here true at.1 at.2 halted) end.2),
    )

pub ends_spent : (code : CodeShape) (me : HostId) (units done : ℕ) (old here : Seen) → units - done ≡ 0 →
    ServesOn code me units done old here → false ≡ has_ended code me here.inside.host →
    Ends code me units status.Spent old here
ends_spent code me units done old here none on goes world told not_yet =
    let at = on world told not_yet in (
      at.0,
      at.1,
      at.3 status.Spent at.0
          (subst (λ left. Serves code me left status.Spent at.0 at.0) (sym none)
          (serves_spent code me at.0 (stage_is code me at.0 here false at.1 at.2 goes))),
    )
