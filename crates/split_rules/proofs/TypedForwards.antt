-- Behind a definition the value of a variable is sent to those who are told it, and what rides is left.
use Rattle.std.proofs.Common.{◌≡◌, ◌∙◌, ℕ, zero, suc, ◌+◌, ◌<◌, ◌≤◌, Bool, true, false, cond, ◌&&◌, not, inl, inr}
use Rattle.std.proofs.Common.{List, [], ◌∷◌, ◌++◌, map, filter, length, refl, ap, sym, subst, arith, append_assoc}
use Rattle.std.proofs.Common.{eq-eqb, ne_eqb, nat_eq, true≢false}
use Rattle.std.proofs.lemmas.Bool.Decides.{eqb_tells}
use Rattle.std.specs.Prelude.{Option, Some, None, ⊤}
use Rattle.std.specs.List.{AllByRecursion, range_with_len}
use Rattle.js_base.specs.declared.ids.HostId.{HostId}
use Rattle.js_base.specs.declared.ids.VarId.{VarId}
use Rattle.jif_tree.specs.Trees.{BlockTree}
use Rattle.host_code.specs.declared.instruction.Op.{Op}
use Rattle.host_code.specs.declared.instruction.Op.TheVariants as op
use Rattle.msg_cost.specs.Moves.{PlannedShape, is_same, is_trusted_for, is_to}
use Rattle.msg_cost.specs.Terms.{is_other_reader, is_told}
use Rattle.split_rules.specs.Walk.{emitted, riders_to, send_emissions, pass_emissions}
use Rattle.split_rules.specs.Positions.{is_on, Argument, arguing, no_call, Forward, Position, with_forwards}
use Rattle.split_rules.specs.Positions.{forwards_of}
use Rattle.split_rules.specs.Positions.{Entrance, number_of, IsOf, IsOut, without_forward}
use Rattle.split_rules.specs.Typing.{AreDueOn, AreSourced, GivesVariable, RidesAll, here, TypedOp, AreTyped}
use Rattle.split_rules.proofs.TypedStates.{known_at}
use Rattle.split_rules.proofs.TypedValues.{Site}
use Rattle.split_rules.proofs.BackedLabels.{all_both}

abbrev forwards_to : BlockTree → VarId → List HostId → List Forward
forwards_to source x hosts = map (λ host. record { variable = x; host = host; source = source }) hosts

abbrev hosts_of : List ℕ → List HostId
hosts_of numbers = map (λ number. record { 0 = number }) numbers

-- whether the host of this number reads the variable, and the value rides to it
abbrev gets_riding : PlannedShape → HostId → VarId → Option HostId → ℕ → Bool
gets_riding planned me x carried other = is_to carried other && is_other_reader planned me x other

-- what is left to be sent once all are told
abbrev pub out_behind : PlannedShape → HostId → BlockTree → VarId → Option HostId → List Forward
out_behind planned me source x carried =
    forwards_to source x
    (hosts_of (filter (gets_riding planned me x carried) (range_with_len 0 (length planned.hosts.hosts))))

-- ---- what is left rides

-- all that is left rides to where it is carried, and nothing is left where it is carried nowhere
abbrev pub IsCarried : List VarId → List Forward → Option HostId → Type 0
IsCarried riders out None = (riders ≡ []) × (out ≡ [])
IsCarried riders out (Some to) = RidesAll riders to out

pub none_out : (carried : Option HostId) → IsCarried [] [] carried
none_out None = (refl, refl)
none_out (Some to) = (refl, tt)

-- nothing is out where nothing rides
pub none_riding : (to : HostId) (out : List Forward) → RidesAll [] to out → out ≡ []
none_riding to [] rides = refl
none_riding to (forward ∷ others) rides = absurd (nothing rides.0)
  where
    nothing : map (λ (one : Forward). one.variable) (forward ∷ others) ≡ [] → ⊥
    nothing same = cc

-- the host to which something is carried, if it is, is one of the file
abbrev pub IsCarriedWithin : PlannedShape → Option HostId → Type 0
IsCarriedWithin planned None = ⊤
IsCarriedWithin planned (Some to) = to.0 < length planned.hosts.hosts

none_kept : (planned : PlannedShape) (me : HostId) (x : VarId) (numbers : List ℕ) →
    filter (gets_riding planned me x None) numbers ≡ []
none_kept planned me x [] = refl
none_kept planned me x (number ∷ numbers) = none_kept planned me x numbers

-- of numbers in a row those that are this one, where it is chosen
none_behind : (p : ℕ → Bool) (to first count : ℕ) → to < first →
    filter (λ other. nat_eq other to && p other) (range_with_len first count) ≡ []
none_behind p to first zero past = refl
none_behind p to first (suc count) past =
    rw (ne_eqb first to (omega arith)) (none_behind p to (first + 1) count (omega arith))

one_kept : (p : ℕ → Bool) (to first count : ℕ) → first ≤ to → to < first + count →
    filter (λ other. nat_eq other to && p other) (range_with_len first count) ≡ cond (p to) (to ∷ []) []
one_kept p to first zero from within = absurd (omega arith)
one_kept p to first (suc count) from within =
    elim (eqb_tells first to) [
      | inl same ↦ by_same same.1
      | inr apart ↦ rw (ne_eqb first to apart.1) (one_kept p to (first + 1) count (omega arith) (omega arith))
    ]
  where
    by_same : first ≡ to →
        filter (λ other. nat_eq other to && p other) (range_with_len first (suc count)) ≡ cond (p to) (to ∷ []) []
    by_same same = rw (eq-eqb first to same, none_behind p to (first + 1) count (omega arith), same) refl

pub out_rides : (planned : PlannedShape) (me : HostId) (source : BlockTree) (x : VarId) (carried : Option HostId) →
    IsCarriedWithin planned carried →
    IsCarried (riders_to planned me x carried) (out_behind planned me source x carried) carried
out_rides planned me source x None within = (
  refl,
  ap (λ numbers. forwards_to source x (hosts_of numbers))
      (none_kept planned me x (range_with_len 0 (length planned.hosts.hosts))),
)
out_rides planned me source x (Some to) within =
    let P : List ℕ → Type 0 = λ numbers. RidesAll (riders_to planned me x (Some to)) to
    (forwards_to source x (hosts_of numbers)) in
    subst P (sym (one_kept (is_other_reader planned me x) to.0 0 (length planned.hosts.hosts) (omega arith)
    (omega arith)))
    (by (is_other_reader planned me x to.0))
  where
    by : (b : Bool) → RidesAll (cond b (x ∷ []) []) to (forwards_to source x (hosts_of (cond b (to.0 ∷ []) [])))
    by true = (refl, (refl, tt))
    by false = (refl, tt)

-- ---- sources

-- a statement on this host, which is trusted for it, gives the variable its value
pub record IsGivenOn (planned : PlannedShape) (me : HostId) (source : BlockTree) (x : VarId) : Type 0 where
  pub on_host : is_on planned me source ≡ true
  pub trusted : is_trusted_for planned me (number_of source) ≡ true
  pub is_of : IsOf planned.program source
  pub gives : GivesVariable planned source x

are_sourced : (planned : PlannedShape) (me : HostId) (source : BlockTree) (x : VarId) →
    IsGivenOn planned me source x → (hosts : List HostId) → AreSourced planned me (forwards_to source x hosts)
are_sourced planned me source x given [] = tt
are_sourced planned me source x given (host ∷ hosts) =
    ((given.on_host, given.trusted, given.is_of, given.gives), are_sourced planned me source x given hosts)

pub out_sourced : (planned : PlannedShape) (me : HostId) (source : BlockTree) (x : VarId) (carried : Option HostId) →
    IsGivenOn planned me source x → AreSourced planned me (out_behind planned me source x carried)
out_sourced planned me source x carried given =
    are_sourced planned me source x given
    (hosts_of (filter (gets_riding planned me x carried) (range_with_len 0 (length planned.hosts.hosts))))

-- ---- sending

-- what has still to be sent is all carried
abbrev pub AreCarried : Option HostId → List Forward → Type 0
AreCarried carried out = AllByRecursion (λ forward. is_to carried forward.host.0 ≡ true) out

-- a host that is told is sent the first forward that is not carried
not_both : (b c : Bool) (X : Type 0) (one other : X) → c ≡ false → cond (b && c) one other ≡ other
not_both true c X one other is = rw is refl
not_both false c X one other is = refl

one_sent : (carried : Option HostId) (source : BlockTree) (x : VarId) (before : List Forward) →
    AreCarried carried before → (host : HostId) → is_to carried host.0 ≡ false → (hosts : List HostId) →
    without_forward x host (before ++ forwards_to source x (host ∷ hosts)) ≡ before ++ forwards_to source x hosts
one_sent carried source x [] all host is hosts = rw (eq-eqb x.0 x.0 refl, eq-eqb host.0 host.0 refl) refl
one_sent carried source x (forward ∷ before) all host is hosts =
    not_both (nat_eq forward.variable.0 x.0) (is_same forward.host host) (List Forward) _ _ other
    ∙ ap (λ more. forward ∷ more) (one_sent carried source x before all.1 host is hosts)
  where
    other : is_same forward.host host ≡ false
    other =
        ne_eqb forward.host.0 host.0
        (λ same. true≢false (sym all.0 ∙ ap (λ number. is_to carried number) same ∙ is))

is_out : (source : BlockTree) (x : VarId) (before : List Forward) (host : HostId) (hosts : List HostId) →
    IsOut (before ++ forwards_to source x (host ∷ hosts)) x host
is_out source x [] host hosts = inl (refl, refl)
is_out source x (forward ∷ before) host hosts = inr (is_out source x before host hosts)

-- an instruction for each host that is told, as it is typed where the variable is out for the host
abbrev SendsTo : PlannedShape → Site → Position → List Entrance → List Position → VarId → (HostId → Op) → Type 0
SendsTo planned site base entries branches x what =
    (out : List Forward) (to : HostId) → IsOut out x to →
    TypedOp planned (known_at (here site.me (with_forwards base out)) entries branches) site.me
    (with_forwards base out) (what to)
    (known_at (here site.me (with_forwards base (without_forward x to out))) entries branches)

all_told : (planned : PlannedShape) (site : Site) (base : Position) → AreDueOn planned site.me base.due →
    (entries : List Entrance) (branches : List Position) (source : BlockTree) (x : VarId) →
    IsGivenOn planned site.me source x → (what : HostId → Op) →
    SendsTo planned site base entries branches x what → (carried : Option HostId) (before : List Forward) →
    AreSourced planned site.me before → AreCarried carried before → (numbers : List ℕ) →
    AreTyped planned (known_at (here site.me (with_forwards base (before
    ++ forwards_to source x (hosts_of (filter (is_other_reader planned site.me x) numbers))))) entries branches)
    (map (λ host. emitted site.me site.label site.id (what host))
    (hosts_of (filter (is_told planned site.me x carried) numbers)))
    (known_at (here site.me (with_forwards base (before
    ++ forwards_to source x (hosts_of (filter (gets_riding planned site.me x carried) numbers))))) entries branches)
all_told planned site base due entries branches source x given what sends carried before sourced are [] = refl
all_told planned site base due entries branches source x given what sends carried before sourced are
    (number ∷ numbers) =
    by (λ more more_sourced more_are. all_told planned site base due entries branches source x given what sends carried
    more more_sourced more_are numbers)
    (is_other_reader planned site.me x number) (is_to carried number) refl
  where
    host : HostId
    host = record { 0 = number }

    readers : List ℕ
    readers = filter (is_other_reader planned site.me x) numbers

    told : List ℕ
    told = filter (is_told planned site.me x carried) numbers

    kept : List ℕ
    kept = filter (gets_riding planned site.me x carried) numbers

    Goal : Bool → Bool → Type 0
    Goal b c = AreTyped planned (known_at (here site.me (with_forwards base (before
        ++ forwards_to source x (hosts_of (cond b (number ∷ readers) readers))))) entries branches)
        (map (λ to. emitted site.me site.label site.id (what to))
        (hosts_of (cond (b && not c) (number ∷ told) told)))
        (known_at (here site.me (with_forwards base (before
        ++ forwards_to source x (hosts_of (cond (c && b) (number ∷ kept) kept))))) entries branches)

    Follows : Type 0
    Follows = (more : List Forward) → AreSourced planned site.me more → AreCarried carried more →
        AreTyped planned (known_at (here site.me (with_forwards base (more
        ++ forwards_to source x (hosts_of readers)))) entries branches)
        (map (λ to. emitted site.me site.label site.id (what to)) (hosts_of told))
        (known_at (here site.me (with_forwards base (more
        ++ forwards_to source x (hosts_of kept)))) entries branches)

    one : Forward
    one = record { variable = x; host = record { 0 = number }; source = source }

    one_given : AreSourced planned site.me (one ∷ [])
    one_given = are_sourced planned site.me source x given (host ∷ [])

    by : Follows → (b c : Bool) → is_to carried number ≡ c → Goal b c
    by follows false true is = follows before sourced are
    by follows false false is = follows before sourced are
    by follows true true is =
        let P : List Forward → Type 0 = λ out. AreTyped planned
        (known_at (here site.me (with_forwards base out)) entries branches)
        (map (λ to. emitted site.me site.label site.id (what to)) (hosts_of told))
        (known_at (here site.me (with_forwards base (before
        ++ forwards_to source x (hosts_of (number ∷ kept))))) entries branches) in
        let Q : List Forward → Type 0 = λ out. AreTyped planned
        (known_at (here site.me (with_forwards base ((before ++ one ∷ [])
        ++ forwards_to source x (hosts_of readers)))) entries branches)
        (map (λ to. emitted site.me site.label site.id (what to)) (hosts_of told))
        (known_at (here site.me (with_forwards base out)) entries branches) in
        subst P (append_assoc before (one ∷ []) (forwards_to source x (hosts_of readers)))
        (subst Q (append_assoc before (one ∷ []) (forwards_to source x (hosts_of kept)))
        (follows (before ++ one ∷ [])
        (all_both _ before (one ∷ []) sourced one_given)
        (all_both (λ forward. is_to carried forward.host.0 ≡ true) before (one ∷ []) are (is, tt))))
    by follows true false is =
        let all = before ++ forwards_to source x (hosts_of (number ∷ readers)) in
        let left = before ++ forwards_to source x (hosts_of readers) in
        let P : List Forward → Type 0 = λ out. TypedOp planned
        (known_at (here site.me (with_forwards base all)) entries branches) site.me
        (with_forwards base all) (what host) (known_at (here site.me (with_forwards base out)) entries branches) in (
          known_at (here site.me (with_forwards base left)) entries branches,
          (
            with_forwards base all,
            refl,
            (
              due,
              all_both _ before (forwards_to source x (hosts_of (number ∷ readers))) sourced
                  (are_sourced planned site.me source x given (hosts_of (number ∷ readers))),
            ),
            subst P (one_sent carried source x before are host is (hosts_of readers))
                (sends all host (is_out source x before host (hosts_of readers))),
          ),
          follows before sourced are,
        )

pub send_typed : (planned : PlannedShape) (site : Site) (base : Position) → base.reads ≡ [] →
    base.calling ≡ no_call → AreDueOn planned site.me base.due → (entries : List Entrance) (branches : List Position)
    (source : BlockTree) (x : VarId) → IsGivenOn planned site.me source x → (carried : Option HostId) →
    AreTyped planned
    (known_at (here site.me (with_forwards base (forwards_of planned site.me source x))) entries branches)
    (send_emissions planned site.me site.label site.id x carried)
    (known_at (here site.me (with_forwards base (out_behind planned site.me source x carried))) entries branches)
send_typed planned site base none no_calls due entries branches source x given carried =
    all_told planned site base due entries branches source x given (λ to. op.Send x to)
    (λ out to is. (with_forwards base (without_forward x to out), (no_calls, (none, is, refl)), refl)) carried [] tt tt
    (range_with_len 0 (length planned.hosts.hosts))

-- parameters before may ride as well
pub pass_typed : (planned : PlannedShape) (site : Site) (base : Position) → base.reads ≡ [] → (statement : BlockTree)
    (set left : List Argument) → base.calling ≡ arguing statement set left → AreDueOn planned site.me base.due →
    (entries : List Entrance) (branches : List Position) (source : BlockTree) (x : VarId) →
    IsGivenOn planned site.me source x → (carried : Option HostId) (before : List Forward) →
    AreSourced planned site.me before → AreCarried carried before →
    AreTyped planned
    (known_at (here site.me (with_forwards base (before ++ forwards_of planned site.me source x))) entries branches)
    (pass_emissions planned site.me site.label site.id x carried)
    (known_at (here site.me (with_forwards base (before ++ out_behind planned site.me source x carried))) entries
    branches)
pass_typed planned site base none statement set left is_call due entries branches source x given carried before sourced
    are =
    all_told planned site base due entries branches source x given (λ to. op.Pass x to)
    (λ out to is. (
      with_forwards base (without_forward x to out),
      (statement, set, left, is_call, (none, is, refl)),
      refl,
    ))
    carried before sourced are (range_with_len 0 (length planned.hosts.hosts))
