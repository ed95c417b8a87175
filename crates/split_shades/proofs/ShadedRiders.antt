-- What rides may be told to the host to which it rides: the program label flows to it, and that host reads it.
use Rattle.std.proofs.Common.{◌≡◌, Bool, true, false, ◌&&◌, not, nat_eq, List, [], ◌∷◌, ◌++◌, refl, sym, subst}
use Rattle.std.specs.Prelude.{Option, Some, None, IfSome, if◌then◌else◌, ⊤}
use Rattle.std.specs.List.{AllByRecursion}
use Rattle.js_base.specs.declared.ids.HostId.{HostId}
use Rattle.js_base.specs.declared.ids.VarId.{VarId}
use Rattle.js_base.specs.declared.ids.StmtId.{StmtId}
use Rattle.js_base.specs.declared.ids.EntryId.{EntryId}
use Rattle.label_lattice.specs.declared.label.Label.{Label}
use Rattle.label_lattice.specs.Label.{ConfFlows}
use Rattle.jif_tree.specs.Trees.{ExprTree}
use Rattle.need_labels.specs.Needs.{label_of}
use Rattle.need_labels.specs.Plan.{statement_host}
use Rattle.msg_cost.specs.declared.spot.Spot.{Spot}
use Rattle.msg_cost.specs.Moves.{is_same, next_spot, straight_to}
use Rattle.msg_cost.specs.Terms.{reads_on, is_other_reader}
use Rattle.msg_cost.proofs.Spots.{next_host}
use Rattle.split_rules.specs.Walk.{riders_to, rides_behind, riding_params, go_with, call_with}
use Rattle.split_rules.proofs.BackedLabels.{all_both}
use Rattle.split_rules.proofs.WalkedMoves.{one_of_two}
use Rattle.split_shades.specs.Flows.{ArgumentsFlow, ResultFlows, AllFlow}
use Rattle.split_shades.specs.Shades.{Shade}
use Rattle.split_shades.specs.Shading.{Scene, MayTell, GoesToInShade, CallsOn, Rides, ShadeKnown, nowhere, with_place}
use Rattle.split_shades.specs.Shading.{ShadedOp}

-- ---- what rides

-- the host of the first of these statements, where there is one, may be told the value of a variable
abbrev pub IsToldNext : Scene → Label → List StmtId → VarId → Type 0
IsToldNext scene pc [] x = ⊤
IsToldNext scene pc (statement ∷ others) x = MayTell scene pc x (statement_host scene.planned.plan statement)

-- what rides may be told to the host of the next statement, before these
abbrev pub RidesWell : Scene → Label → List VarId → List StmtId → Type 0
RidesWell scene pc riders statements = AllByRecursion (IsToldNext scene pc statements) riders

-- the program label flows to the variable to which a statement gives a value
abbrev pub GivenWell : Scene → Label → Option VarId → Type 0
GivenWell scene pc given = IfSome given (λ x. ConfFlows pc (label_of scene.basis.labelled x))

pub result_given : (scene : Scene) (pc : Label) (result into : Option VarId) →
    ResultFlows scene.basis scene.planned pc result into → GivenWell scene pc into
result_given scene pc result None flows = tt
result_given scene pc None (Some into) flows = absurd flows
result_given scene pc (Some result) (Some into) flows = flows.program

and_second : (b c : Bool) → (b && c) ≡ true → c ≡ true
and_second true c is = is
and_second false c is = absurd (cc)

-- a variable rides to a host that reads it
riders_told : (scene : Scene) → AllFlow scene.basis scene.planned → (pc : Label) (x : VarId) →
    ConfFlows pc (label_of scene.basis.labelled x) → (host to : HostId) →
    AllByRecursion (λ one. MayTell scene pc one to) (riders_to scene.planned host x (Some to))
riders_told scene all pc x flows host to = by (is_other_reader scene.planned host x to.0) refl
  where
    by : (b : Bool) → is_other_reader scene.planned host x to.0 ≡ b →
        AllByRecursion (λ one. MayTell scene pc one to) (if b then x ∷ [] else [])
    by true reads =
        let there = and_second (not (nat_eq to.0 host.0)) (reads_on scene.planned x to.0) reads in
        ((flows, all.readers x to there), tt)
    by false none = tt

-- where the right to go on moves straight, it moves to the host of the next spot
straight_told : (scene : Scene) → AllFlow scene.basis scene.planned → (pc : Label) (x : VarId) →
    ConfFlows pc (label_of scene.basis.labelled x) → (host : HostId) (back : Option HostId) (to : HostId)
    (behind : Option HostId) → AllByRecursion (λ one. MayTell scene pc one to)
    (riders_to scene.planned host x
    (straight_to (record { host = host; back = back }) (record { host = to; back = behind })))
straight_told scene all pc x flows host back to behind = by back behind
  where
    P : Option HostId → Type 0
    P carried = AllByRecursion (λ one. MayTell scene pc one to) (riders_to scene.planned host x carried)

    by : (one two : Option HostId) →
        P (straight_to (record { host = host; back = one }) (record { host = to; back = two }))
    by None None = one_of_two P (is_same host to) None (Some to) tt (riders_told scene all pc x flows host to)
    by None (Some next) =
        one_of_two P (is_same host to) None _ tt
        (one_of_two P (is_same next host) (Some to) None (riders_told scene all pc x flows host to) tt)
    by (Some next) two = one_of_two P (is_same host to) None None tt tt

-- what a statement gives, with these behind it, rides to the host of the first of them
pub rides_well : (scene : Scene) → AllFlow scene.basis scene.planned → (pc : Label) (spot : Spot)
    (given : Option VarId) → GivenWell scene pc given → (others : List StmtId) →
    RidesWell scene pc (rides_behind scene.planned spot given others) others
rides_well scene all pc spot None flows others = tt
rides_well scene all pc spot (Some x) flows [] = tt
rides_well scene all pc spot (Some x) flows (statement ∷ others) =
    let next = next_spot scene.planned spot statement others in
    let P : HostId → Type 0 = λ to. AllByRecursion (λ one. MayTell scene pc one to)
    (riders_to scene.planned spot.host x (straight_to spot next)) in
    subst P (next_host scene.planned spot statement others)
    (straight_told scene all pc x flows spot.host spot.back next.host next.back)

-- parameters ride to the home of their method
pub params_told : (scene : Scene) → AllFlow scene.basis scene.planned → (pc : Label) (host home : HostId)
    (params : List VarId) (arguments : List ExprTree) →
    ArgumentsFlow scene.basis scene.planned pc params arguments →
    AllByRecursion (λ one. MayTell scene pc one home) (riding_params scene.planned host home params arguments)
params_told scene all pc host home params [] flows = tt
params_told scene all pc host home [] (argument ∷ others) flows = tt
params_told scene all pc host home (param ∷ params) (argument ∷ others) flows =
    all_both (λ one. MayTell scene pc one home) (riders_to scene.planned host param (Some home)) _
    (riders_told scene all pc param flows.0.program host home)
    (params_told scene all pc host home params others flows.1)

-- ---- instructions with what rides

-- the thread is handed over
pub go_with_shaded : (scene : Scene) (known : ShadeKnown) (me : HostId) (shade : Shade) (riders : List VarId)
    (there : EntryId)
    (on : HostId) → GoesToInShade scene known.entries shade there.0 on → Rides scene shade riders on →
    ShadedOp scene known me shade (go_with riders there on) (with_place known nowhere)
go_with_shaded scene known me shade [] there on goes rides = (goes, refl)
go_with_shaded scene known me shade (x ∷ riders) there on goes rides = ((goes, rides), refl)

-- a method is called
pub call_with_shaded : (scene : Scene) (known : ShadeKnown) (me : HostId) (shade : Shade) (riders : List VarId)
    (there : EntryId)
    (on : HostId) → CallsOn scene known.entries shade there.0 on → Rides scene shade riders on →
    ShadedOp scene known me shade (call_with riders there on) (with_place known nowhere)
call_with_shaded scene known me shade [] there on calls rides = (calls, refl)
call_with_shaded scene known me shade (x ∷ riders) there on calls rides = ((calls, rides), refl)
