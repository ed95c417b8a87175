-- How many instructions may still come at each place of the hosts, as the walk says it, and where in the walk an entry
-- stands that a thread is handed to.
use Rattle.std.proofs.Common.{◌≡◌, ◌≢◌, ◌∙◌, ℕ, zero, suc, ◌+◌, ◌<◌, ◌≤◌, ◌⊎◌, inl, inr, List, [], ◌∷◌, ◌++◌, length}
use Rattle.std.proofs.Common.{refl, ap, sym, subst, arith, nat_eq, eq-eqb, append-nil}
use Rattle.std.proofs.lemmas.Bool.Decides.{eqb_tells}
use Rattle.std.proofs.lemmas.List.{append_cancel_left}
use Rattle.std.specs.Prelude.{Some, slice_get, unwrap_or, if◌then◌else◌, ⊤}
use Rattle.js_base.specs.declared.ids.HostId.{HostId}
use Rattle.js_base.specs.declared.ids.EntryId.{EntryId}
use Rattle.host_code.specs.declared.instruction.Op.{Op}
use Rattle.host_code.specs.declared.instruction.Op.TheVariants as op
use Rattle.host_code.specs.Code.{halt}
use Rattle.host_code.specs.Sound.{IsLeaving}
use Rattle.split_rules.specs.Emissions.{Emission, instruction, entry, stands, lands, Emitted}
use Rattle.split_rules.specs.Flow.{Scope, Flow, stopped, at, awaited, Pending, State, after, OperationFitsScope}
use Rattle.split_rules.specs.Flow.{InstructionFitsFlow, IsOwedFirst, FlowGoes}
use Rattle.split_rules.specs.Pace.{Allowance}
use Rattle.split_rules.specs.Walk.{entry_id}
use Rattle.split_rules.specs.SplitCode.{emitted_on, before_entry}
use Rattle.split_rules.proofs.Pendings.{Numbered, of_entries, of_branches, due, count, before, mark, before_mark}
use Rattle.split_rules.proofs.Pendings.{Passes, passes_mark, IsAbsent, IsAmong, not_among, keeps, adds, places}
use Rattle.split_rules.proofs.Pendings.{step_of, AreBelow, AreDistinct, AreOrdered, ordered_after, halves, GoesOn}
use Rattle.split_rules.proofs.Pendings.{goes_on_stand}
use Rattle.split_rules.proofs.Standing.{own_instruction, behind_instruction, Placed}
use Rattle.split_rules.proofs.PacedEmissions.{calls_first, at_op, ahead, OpPaces, Paces, paces_behind}

-- ---- numbers at places

-- what may still come at the instructions of a host
abbrev pub numbers_on : HostId → List Emission → List ℕ
numbers_on host [] = []
numbers_on host (instruction one ∷ others) =
    if nat_eq one.host.0 host.0 then ahead (instruction one ∷ others) ∷ numbers_on host others
    else numbers_on host others
numbers_on host (entry named ∷ others) = numbers_on host others
numbers_on host (stands on number ∷ others) = numbers_on host others
numbers_on host (lands on number ∷ others) = numbers_on host others

numbers_behind : (host : HostId) (xs ys : List Emission) (number : ℕ) →
    slice_get (numbers_on host (xs ++ ys)) (length (emitted_on host xs) + number)
    ≡ slice_get (numbers_on host ys) number
numbers_behind host [] ys number =
    let none : 0 + number ≡ number = omega arith in ap (slice_get (numbers_on host ys)) none
numbers_behind host (instruction one ∷ xs) ys number = elim (eqb_tells one.host.0 host.0) [
  | inl same ↦ rw same.0
      (let next : length (one ∷ emitted_on host xs) + number ≡ suc (length (emitted_on host xs) + number) = omega arith
      in ap (slice_get (ahead (instruction one ∷ xs ++ ys) ∷ numbers_on host (xs ++ ys))) next
      ∙ numbers_behind host xs ys number)
  | inr other ↦ rw other.0 (numbers_behind host xs ys number)
]
numbers_behind host (entry named ∷ xs) ys number = numbers_behind host xs ys number
numbers_behind host (stands on place ∷ xs) ys number = numbers_behind host xs ys number
numbers_behind host (lands on place ∷ xs) ys number = numbers_behind host xs ys number

-- where a host goes on, its next number is what may come
first_number : (host : HostId) (scope : Scope) (state : State) (xs : List Emission) (last : State) →
    FlowGoes scope state xs last → last.flow ≡ stopped → GoesOn host state.flow →
    slice_get (numbers_on host xs) 0 ≡ Some (ahead xs)
first_number host scope state [] last goes ended on =
    absurd (subst (GoesOn host) (ap (λ one. one.flow) goes ∙ ended) on)
first_number host scope state (instruction one ∷ xs) last goes ended on =
    let own = own_instruction host scope state one state.flow goes.0 on in
    rw (eq-eqb one.host.0 host.0 (ap (λ id. id.0) own)) refl
first_number host scope state (entry named ∷ xs) last goes ended on =
    first_number host scope (after state (entry named)) xs last goes.1 ended on
first_number host scope state (stands other number ∷ xs) last goes ended on =
    first_number host scope (after state (stands other number)) xs last goes.1 ended
    (goes_on_stand host other state.flow on goes.0.1)
first_number host scope state (lands other number ∷ xs) last goes ended on =
    absurd (subst (GoesOn host) goes.0.1 on)

-- the number at each place
unfoldable pub left_in : List Emission → Allowance
left_in emissions host place = unwrap_or (slice_get (numbers_on (record { 0 = host }) emissions) place) 0

left_there : (emissions : List Emission) (host : HostId) (place number : ℕ) →
    slice_get (numbers_on host emissions) place ≡ Some number → left_in emissions host.0 place ≡ number
unfolding left_in
left_there emissions host place number is = ap (λ found. unwrap_or found 0) is

-- ---- what is known at an instruction

-- an entry that is named has a number above that of the one that ends the program
pub numbered_from : (there : EntryId) (Holds : ℕ → Type 0) → (there ≡ halt → ⊥) → ((number : ℕ) → Holds (suc number)) →
    Holds there.0
numbered_from there Holds not_halt others = by there.0 refl
  where
    by : (number : ℕ) → there.0 ≡ number → Holds number
    by zero is = absurd (not_halt (ap entry_id is))
    by (suc number) is = others number

-- the instruction does not enter where the program ends
abbrev pub NamesNoHalt : Op → Type 0
NamesNoHalt (op.Go there on) = there ≢ halt
NamesNoHalt (op.Call there on) = there ≢ halt
NamesNoHalt (op.GoWith there on riders) = there ≢ halt
NamesNoHalt (op.CallWith there on riders) = there ≢ halt
NamesNoHalt other = ⊤

fits_no_halt : (scope : Scope) (state : State) (me : HostId) (read : ℕ) (what : Op) →
    OperationFitsScope scope state me read what → NamesNoHalt what
fits_no_halt scope state me read (op.Go there on) fits = fits.0.0
fits_no_halt scope state me read (op.Call there on) fits = fits.0.0
fits_no_halt scope state me read (op.GoWith there on riders) fits = fits.0.0
fits_no_halt scope state me read (op.CallWith there on riders) fits = fits.0.0
fits_no_halt scope state me read other fits = tt

no_halt : (scope : Scope) (state : State) (one : Emitted) (flow : Flow) → InstructionFitsFlow scope state one flow →
    NamesNoHalt one.op
no_halt scope state one stopped fits = absurd fits
no_halt scope state one (at host read) fits = fits_no_halt scope state host read one.op fits.1
no_halt scope state one (awaited host) fits = absurd fits

-- an instruction at a place of a host, and what is behind it
pub record Spot (scope : Scope) (emissions : List Emission) (me : HostId) (place : ℕ) (what : Op)
    (behind : List Emission) (last : State) : Type 0 where
  pub here : left_in emissions me.0 place ≡ at_op what (calls_first behind) (ahead behind)
  pub next : IsLeaving what ⊎ (left_in emissions me.0 (suc place) ≡ ahead behind)
  pub paces : OpPaces what behind
  pub names : NamesNoHalt what
  -- the state behind it, where the same host goes on unless the instruction leaves it
  pub state : State
  pub goes : FlowGoes scope state behind last
  pub flow : IsLeaving what ⊎ GoesOn me state.flow

pub spot_there : (scope : Scope) (first : State) (emissions before : List Emission) (one : Emitted)
    (behind : List Emission) (last : State) → emissions ≡ before ++ instruction one ∷ behind →
    FlowGoes scope first emissions last → last.flow ≡ stopped → Paces emissions → (me : HostId) → one.host ≡ me →
    Spot scope emissions me (length (emitted_on me before)) one.op behind last
spot_there scope first emissions before one behind last is goes ended paces me own =
    subst P (sym is) split goes paces
  where
    P : List Emission → Type 0
    P list = FlowGoes scope first list last → Paces list →
        Spot scope list me (length (emitted_on me before)) one.op behind last

    split : P (before ++ instruction one ∷ behind)
    split all paced =
        let parts = halves scope first before (instruction one ∷ behind) last all in
        let state = after parts.middle (instruction one) in
        let place = length (emitted_on me before) in
        let none : place + 0 ≡ place = omega arith in
        let next : place + 1 ≡ suc place = omega arith in
        let list = before ++ instruction one ∷ behind in
        let numbers = numbers_on me list in
        let same = eq-eqb one.host.0 me.0 (ap (λ it. it.0) own) in
        let own_first : slice_get (numbers_on me (instruction one ∷ behind)) 0
        ≡ Some (at_op one.op (calls_first behind) (ahead behind)) = rw same refl in
        let own_next : slice_get (numbers_on me (instruction one ∷ behind)) 1
        ≡ slice_get (numbers_on me behind) 0 = rw same refl in
        let leaves = behind_instruction scope parts.middle one parts.middle.flow parts.from.0 in
        let Q : HostId → Type 0 = λ host. IsLeaving one.op ⊎ GoesOn host state.flow in
        let flow = subst Q own leaves in
        record {
          here = left_there list me place _
              (ap (slice_get numbers) (sym none) ∙ numbers_behind me before (instruction one ∷ behind) 0 ∙ own_first);
          next = elim flow [
            | inl leaving ↦ inl leaving
            | inr on ↦ inr (left_there list me (suc place) _
                (ap (slice_get numbers) (sym next) ∙ numbers_behind me before (instruction one ∷ behind) 1 ∙ own_next
                ∙ first_number me scope state behind last parts.from.1 ended on))
          ];
          paces = (paces_behind before (instruction one ∷ behind) paced).0;
          names = no_halt scope parts.middle one parts.middle.flow parts.from.0;
          state = state;
          goes = parts.from.1;
          flow = flow;
        }

-- ---- where an entry stands, or a branch leads

mark_flow : (kind : Numbered) (state : State) (host : HostId) (number : ℕ) →
    GoesOn host (after state (mark kind host number)).flow
mark_flow of_entries state host number = refl
mark_flow of_branches state host number = refl

mark_paces : (kind : Numbered) (host : HostId) (number : ℕ) (behind : List Emission) →
    Paces (mark kind host number ∷ behind) → ahead behind ≤ 512
mark_paces of_entries host number behind paces = paces.0
mark_paces of_branches host number behind paces = paces.0

mark_numbers : (kind : Numbered) (host : HostId) (number : ℕ) (behind : List Emission) →
    numbers_on host (mark kind host number ∷ behind) ≡ numbers_on host behind
mark_numbers of_entries host number behind = refl
mark_numbers of_branches host number behind = refl

pub record MarkedAt (emissions : List Emission) (host : HostId) (place : ℕ) (behind : List Emission) : Type 0 where
  pub there : left_in emissions host.0 place ≡ ahead behind
  pub few : ahead behind ≤ 512

pub marked_there : (kind : Numbered) (scope : Scope) (first : State) (emissions front : List Emission) (host : HostId)
    (number : ℕ) (behind : List Emission) (last : State) → emissions ≡ front ++ mark kind host number ∷ behind →
    FlowGoes scope first emissions last → last.flow ≡ stopped → Paces emissions →
    MarkedAt emissions host (length (emitted_on host front)) behind
marked_there kind scope first emissions front host number behind last is goes ended paces =
    subst P (sym is) split goes paces
  where
    P : List Emission → Type 0
    P list = FlowGoes scope first list last → Paces list → MarkedAt list host (length (emitted_on host front)) behind

    split : P (front ++ mark kind host number ∷ behind)
    split all paced =
        let parts = halves scope first front (mark kind host number ∷ behind) last all in
        let place = length (emitted_on host front) in
        let none : place + 0 ≡ place = omega arith in
        let list = front ++ mark kind host number ∷ behind in
        record {
          there = left_there list host place _
              (ap (slice_get (numbers_on host list)) (sym none)
              ∙ numbers_behind host front (mark kind host number ∷ behind) 0
              ∙ ap (λ numbers. slice_get numbers 0) (mark_numbers kind host number behind)
              ∙ first_number host scope (after parts.middle (mark kind host number)) behind last parts.from.1 ended
              (mark_flow kind parts.middle host number));
          few = mark_paces kind host number behind (paces_behind front (mark kind host number ∷ behind) paced);
        }

-- ---- an entry stands once

-- what stood once is owed no more
absent_still : (kind : Numbered) (number : ℕ) (scope : Scope) (state : State) (xs : List Emission) (last : State) →
    FlowGoes scope state xs last → number < count kind state → IsAbsent number (due kind state) →
    IsAbsent number (due kind last)
absent_still kind number scope state [] last goes below absent =
    subst (λ (it : State). IsAbsent number (due kind it)) goes absent
absent_still kind number scope state (x ∷ xs) last goes below absent =
    let still = absent_still kind number scope (after state x) xs last goes.1 in
    elim (step_of kind scope state x goes.0) [
      | keeps same as_many passes ↦ still (omega (arith, as_many)) (subst (IsAbsent number) (sym same) absent)
      | adds other more one_more passes ↦ still (omega (arith, one_more))
          (subst (IsAbsent number) (sym more) ((λ same. omega (arith, same)), absent))
      | places here first is off as_many flow ↦ still (omega (arith, as_many)) (subst (IsAbsent number) off absent).1
    ]

-- nothing of this number stood before, where it is still owed
owed_passes : (kind : Numbered) (host : HostId) (number : ℕ) (scope : Scope) (state : State)
    (front more : List Emission) (last : State) → FlowGoes scope state front last → AreOrdered kind state →
    IsAmong host number (due kind last) → before kind number (front ++ more) ≡ front ++ before kind number more
owed_passes kind host number scope state [] more last goes ordered among = refl
owed_passes kind host number scope state (x ∷ front) more last goes ordered among =
    let step = step_of kind scope state x goes.0 in
    let so = ap (◌∷◌ x) (owed_passes kind host number scope (after state x) front more last goes.1
    (ordered_after kind state x step ordered) among) in
    elim step [
      | keeps same as_many passes ↦ passes number (front ++ more) ∙ so
      | adds other grown one_more passes ↦ passes number (front ++ more) ∙ so
      | places here first is off as_many flow ↦
          let below = (subst (AreBelow (count kind state)) off ordered.below).0 in
          let apart = (subst AreDistinct off ordered.distinct).0 in
          let gone = absent_still kind first scope (after state x) front last goes.1 (omega (arith, as_many)) apart in
          subst (Passes kind number) (sym is)
          (passes_mark kind here first number (not_among host number first (due kind last) gone among))
          (front ++ more) ∙ so
    ]

first_among : (host : HostId) (number : ℕ) (pendings : List Pending) → IsOwedFirst host number pendings →
    IsAmong host number pendings
first_among host number [] first = absurd first
first_among host number (pending ∷ others) first = inl first

same_behind : (host other : HostId) (number : ℕ) (one two : List Emission) →
    stands host number ∷ one ≡ stands other number ∷ two → one ≡ two
same_behind host other number one two same = cc

-- behind an entry of this number there is one list
pub stands_once : (scope : Scope) (first : State) (emissions front : List Emission) (host : HostId) (number : ℕ)
    (behind : List Emission) (last : State) → emissions ≡ front ++ stands host number ∷ behind →
    FlowGoes scope first emissions last → AreOrdered of_entries first → (other : HostId) →
    (placed : Placed of_entries other number emissions) → behind ≡ placed.behind
stands_once scope first emissions front host number behind last is goes ordered other placed =
    let parts = halves scope first front (stands host number ∷ behind) last
    (subst (λ (list : List Emission). FlowGoes scope first list last) is goes) in
    let passes = owed_passes of_entries host number scope first front (stands host number ∷ behind) parts.middle
    parts.to ordered (first_among host number parts.middle.owed parts.from.0.0) in
    let none = ap (λ list. front ++ list) (before_mark of_entries host number behind) in
    let front_is : before_entry number emissions ≡ front ++ [] = ap (before_entry number) is ∙ passes ∙ none in
    let two : front ++ stands host number ∷ behind ≡ front ++ stands other number ∷ placed.behind =
    sym is ∙ placed.is ∙ ap (λ list. list ++ stands other number ∷ placed.behind) (front_is ∙ append-nil front) in
    same_behind host other number behind placed.behind
    (append_cancel_left front (stands host number ∷ behind) (stands other number ∷ placed.behind) two)
