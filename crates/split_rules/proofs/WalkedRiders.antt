-- What rides with a thread that a walk hands over fits: variables of the program, not too many, and to another host.
use Rattle.std.proofs.Common.{◌≡◌, ℕ, ◌<◌, ◌≤◌, Bool, true, false, cond, inl, inr}
use Rattle.std.proofs.Common.{List, [], ◌∷◌, ◌++◌, length, refl, ap, sym, subst, arith, eq-eqb}
use Rattle.std.proofs.lemmas.Bool.Decides.{eqb_tells}
use Rattle.std.specs.Prelude.{Option, Some, None, ⊤}
use Rattle.std.specs.List.{AllByRecursion}
use Rattle.js_base.specs.declared.ids.HostId.{HostId}
use Rattle.js_base.specs.declared.ids.EntryId.{EntryId}
use Rattle.js_base.specs.declared.ids.VarId.{VarId}
use Rattle.js_base.specs.declared.ids.StmtId.{StmtId}
use Rattle.label_lattice.specs.declared.label.Label.{Label}
use Rattle.jif_tree.specs.Trees.{ExprTree}
use Rattle.host_code.specs.declared.riders.TheConstants.{MOST_RIDERS}
use Rattle.msg_cost.specs.declared.spot.Spot.{Spot}
use Rattle.msg_cost.specs.Moves.{PlannedShape, carried_to}
use Rattle.msg_cost.specs.Terms.{is_other_reader}
use Rattle.split_rules.specs.Emissions.{Emission}
use Rattle.split_rules.specs.Flow.{Scope, stopped, awaited, at, Pending, State, IsVariableInScope, IsOtherInScope}
use Rattle.split_rules.specs.Flow.{IsNamedEntryOn}
use Rattle.split_rules.specs.Flow.{AreRidingInScope, FlowGoes}
use Rattle.split_rules.specs.Walk.{emitted, riders_to, rides_behind, riding_params, go_with, call_with}
use Rattle.split_rules.proofs.WalkedStates.{state_of}

-- nothing rides, or variables of the program do, 1 to 8
abbrev pub CanRide : Scope → List VarId → Type 0
CanRide scope [] = ⊤
CanRide scope (x ∷ riders) = AreRidingInScope scope (x ∷ riders)

-- nothing rides, or such variables do to another host
abbrev pub CanRideTo : Scope → HostId → HostId → List VarId → Type 0
CanRideTo scope me on [] = ⊤
CanRideTo scope me on (x ∷ riders) = IsOtherInScope scope me on × AreRidingInScope scope (x ∷ riders)

-- a variable that is given a value, if one is, is one of the program
abbrev pub IsGivenOne : Scope → Option VarId → Type 0
IsGivenOne scope None = ⊤
IsGivenOne scope (Some x) = IsVariableInScope scope x

-- ---- what a walk lets ride

pub one_or_none : {X : Type 0} (P : List X → Type 0) (b : Bool) (x : X) → P (x ∷ []) → P [] →
    P (cond b (x ∷ []) [])
one_or_none P true x one none = one
one_or_none P false x one none = none

pub rides_fit : (scope : Scope) (planned : PlannedShape) (spot : Spot) (given : Option VarId)
    (others : List StmtId) → IsGivenOne scope given → CanRide scope (rides_behind planned spot given others)
rides_fit scope planned spot None others there = tt
rides_fit scope planned spot (Some x) others there = by (carried_to planned spot others)
  where
    by : (carried : Option HostId) → CanRide scope (riders_to planned spot.host x carried)
    by None = tt
    by (Some to) =
        one_or_none (CanRide scope) (is_other_reader planned spot.host x to.0) x
        ((omega arith, omega arith), (there, tt)) tt

-- of the parameters of a call no more ride than there are
rides_few : (planned : PlannedShape) (host home : HostId) (params : List VarId) (arguments : List ExprTree) →
    length (riding_params planned host home params arguments) ≤ length params
rides_few planned host home params [] = omega arith
rides_few planned host home [] (argument ∷ others) = omega arith
rides_few planned host home (param ∷ params) (argument ∷ others) =
    let more = rides_few planned host home params others in
    one_or_none (λ one. length (one ++ riding_params planned host home params others) ≤ length (param ∷ params))
    (is_other_reader planned host param home.0) param (omega arith) (omega arith)

rides_among : (P : VarId → Type 0) (planned : PlannedShape) (host home : HostId) (params : List VarId)
    (arguments : List ExprTree) → AllByRecursion P params →
    AllByRecursion P (riding_params planned host home params arguments)
rides_among P planned host home params [] all = tt
rides_among P planned host home [] (argument ∷ others) all = tt
rides_among P planned host home (param ∷ params) (argument ∷ others) all =
    let more = rides_among P planned host home params others all.1 in
    one_or_none (λ one. AllByRecursion P (one ++ riding_params planned host home params others))
    (is_other_reader planned host param home.0) param (all.0, more) more

-- nothing rides to the host of the call itself
none_home : (planned : PlannedShape) (host home : HostId) (params : List VarId) (arguments : List ExprTree) →
    home.0 ≡ host.0 → riding_params planned host home params arguments ≡ []
none_home planned host home params [] same = refl
none_home planned host home [] (argument ∷ others) same = refl
none_home planned host home (param ∷ params) (argument ∷ others) same =
    rw (eq-eqb home.0 host.0 same) (none_home planned host home params others same)

pub params_fit : (scope : Scope) (planned : PlannedShape) (host home : HostId) (params : List VarId)
    (arguments : List ExprTree) → home.0 < scope.hosts → AllByRecursion (IsVariableInScope scope) params →
    length params ≤ MOST_RIDERS → CanRideTo scope host home (riding_params planned host home params arguments)
params_fit scope planned host home params arguments within all few =
    elim (eqb_tells home.0 host.0) [
      | inl same ↦ subst (CanRideTo scope host home) (sym (none_home planned host home params arguments same.1)) tt
      | inr apart ↦ by (riding_params planned host home params arguments)
          (within, λ is. apart.1 (ap (λ (one : HostId). one.0) is))
          (rides_among (IsVariableInScope scope) planned host home params arguments all)
          (rides_few planned host home params arguments)
    ]
  where
    by : (riders : List VarId) → IsOtherInScope scope host home → AllByRecursion (IsVariableInScope scope) riders →
        length riders ≤ length params → CanRideTo scope host home riders
    by [] other fit less = tt
    by (x ∷ riders) other fit less = (other, ((omega arith, omega (arith, less, few)), fit))

-- ---- instructions with what rides

pub go_goes : (scope : Scope) (from on : HostId) (label : Label) (statement : StmtId) (there : EntryId)
    (riders : List VarId) (named : List HostId) (branches : ℕ) (owed opened : List Pending) →
    CanRide scope riders → IsNamedEntryOn named on there → IsOtherInScope scope from on →
    (others : List Emission) (last : State) →
    FlowGoes scope (state_of stopped named branches owed opened) others last →
    FlowGoes scope (state_of (at from 0) named branches owed opened)
    (emitted from label statement (go_with riders there on) ∷ others) last
go_goes scope from on label statement there [] named branches owed opened can is other others last follows =
    ((refl, (is, other)), follows)
go_goes scope from on label statement there (x ∷ riders) named branches owed opened can is other others last follows =
    ((refl, (is, other, can)), follows)

pub call_goes_with : (scope : Scope) (from on : HostId) (label : Label) (statement : StmtId) (there : EntryId)
    (riders : List VarId) (named : List HostId) (branches : ℕ) (owed opened : List Pending) →
    CanRideTo scope from on riders → IsNamedEntryOn named on there → on.0 < scope.hosts →
    (others : List Emission) (last : State) →
    FlowGoes scope (state_of (awaited from) named branches owed opened) others last →
    FlowGoes scope (state_of (at from 0) named branches owed opened)
    (emitted from label statement (call_with riders there on) ∷ others) last
call_goes_with scope from on label statement there [] named branches owed opened can is within others last follows =
    ((refl, (is, within)), follows)
call_goes_with scope from on label statement there (x ∷ riders) named branches owed opened can is within others last
    follows =
    ((refl, (is, can.0, can.1)), follows)
