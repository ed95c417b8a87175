-- Entries that are owed and branches that are open: each of them stands where it is said to, once.
use Rattle.std.proofs.Common.{◌≡◌, ◌≢◌, ◌∙◌, ℕ, suc, ◌<◌, ◌≤◌, ◌⊎◌, inl, inr, List, [], ◌∷◌, ◌++◌, length, drop}
use Rattle.std.proofs.Common.{refl, ap, sym, subst, arith, eq-eqb, ne_eqb}
use Rattle.std.proofs.lemmas.List.{length-append}
use Rattle.std.specs.Prelude.{⊤}
use Rattle.js_base.specs.declared.ids.HostId.{HostId}
use Rattle.host_code.specs.declared.instruction.Op.{Op}
use Rattle.host_code.specs.declared.instruction.Op.TheVariants as op
use Rattle.split_rules.specs.Emissions.{Emission, instruction, entry, stands, lands, Emitted}
use Rattle.split_rules.specs.SplitCode.{before_entry, before_landing}
use Rattle.split_rules.specs.Flow.{Scope, Flow, stopped, at, awaited, Pending, State, branched, after, IsOwedFirst}
use Rattle.split_rules.specs.Flow.{MayEntryStand, EmissionFits, FlowGoes}

-- ---- lists of what is pending

abbrev pub IsAbsent : ℕ → List Pending → Type 0
IsAbsent number [] = ⊤
IsAbsent number (pending ∷ others) = (pending.number ≢ number) × IsAbsent number others

abbrev pub AreDistinct : List Pending → Type 0
AreDistinct [] = ⊤
AreDistinct (pending ∷ others) = IsAbsent pending.number others × AreDistinct others

abbrev pub AreBelow : ℕ → List Pending → Type 0
AreBelow bound [] = ⊤
AreBelow bound (pending ∷ others) = (pending.number < bound) × AreBelow bound others

abbrev pub IsAmong : HostId → ℕ → List Pending → Type 0
IsAmong host number [] = ⊥
IsAmong host number (pending ∷ others) =
    (pending ≡ record { host = host; number = number }) ⊎ IsAmong host number others

below_more : (bound larger : ℕ) (pendings : List Pending) → bound ≤ larger → AreBelow bound pendings →
    AreBelow larger pendings
below_more bound larger [] more below = tt
below_more bound larger (pending ∷ others) more below =
    let first = below.0 in
    (omega arith, below_more bound larger others more below.1)

below_absent : (bound : ℕ) (pendings : List Pending) → AreBelow bound pendings → IsAbsent bound pendings
below_absent bound [] below = tt
below_absent bound (pending ∷ others) below =
    let first = below.0 in
    ((λ same. omega (arith, same)), below_absent bound others below.1)

pub not_among : (host : HostId) (number other : ℕ) (pendings : List Pending) → IsAbsent other pendings →
    IsAmong host number pendings → other ≢ number
not_among host number other [] absent among = absurd among
not_among host number other (pending ∷ others) absent (inl first) =
    λ same. absent.0 (ap (λ one. one.number) first ∙ sym same)
not_among host number other (pending ∷ others) absent (inr more) =
    not_among host number other others absent.1 more

-- ---- entries and branches are kept alike

pub data Numbered : Type 0 where
  of_entries : Numbered
  of_branches : Numbered

abbrev pub due : Numbered → State → List Pending
due of_entries state = state.owed
due of_branches state = state.opened

abbrev pub count : Numbered → State → ℕ
count of_entries state = length state.named
count of_branches state = state.branches

abbrev pub before : Numbered → ℕ → List Emission → List Emission
before of_entries number emissions = before_entry number emissions
before of_branches number emissions = before_landing number emissions

abbrev pub mark : Numbered → HostId → ℕ → Emission
mark of_entries host number = stands host number
mark of_branches host number = lands host number

-- the emission does not place what has this number
abbrev pub Passes : Numbered → ℕ → Emission → Type 0
Passes kind number emission =
    (others : List Emission) → before kind number (emission ∷ others) ≡ emission ∷ before kind number others

pub before_mark : (kind : Numbered) (host : HostId) (number : ℕ) (others : List Emission) →
    before kind number (mark kind host number ∷ others) ≡ []
before_mark of_entries host number others = rw (eq-eqb number number refl) refl
before_mark of_branches host number others = rw (eq-eqb number number refl) refl

pub passes_mark : (kind : Numbered) (host : HostId) (other number : ℕ) → other ≢ number →
    Passes kind number (mark kind host other)
passes_mark of_entries host other number differ = λ others. rw (ne_eqb other number differ) refl
passes_mark of_branches host other number differ = λ others. rw (ne_eqb other number differ) refl

-- what one emission does to what is pending
pub data Step (kind : Numbered) (state : State) (emission : Emission) : Type 0 where
  keeps : due kind (after state emission) ≡ due kind state → count kind (after state emission) ≡ count kind state →
      ((number : ℕ) → Passes kind number emission) → Step kind state emission
  adds : (host : HostId) →
      due kind (after state emission) ≡ record { host = host; number = count kind state } ∷ due kind state →
      count kind (after state emission) ≡ suc (count kind state) →
      ((number : ℕ) → Passes kind number emission) → Step kind state emission
  places : (host : HostId) (number : ℕ) → emission ≡ mark kind host number →
      due kind state ≡ record { host = host; number = number } ∷ due kind (after state emission) →
      count kind (after state emission) ≡ count kind state → (after state emission).flow ≡ at host 0 →
      Step kind state emission

pub first_off : (host : HostId) (number : ℕ) (pendings : List Pending) → IsOwedFirst host number pendings →
    pendings ≡ record { host = host; number = number } ∷ drop 1 pendings
first_off host number [] first = absurd first
first_off host number (pending ∷ others) first = ap (λ one. one ∷ others) first

owed_branched : (state : State) (me : HostId) (what : Op) → (branched state me what).owed ≡ state.owed
owed_branched state me (op.Branch guard number) = refl
owed_branched state me other = refl

pub named_branched : (state : State) (me : HostId) (what : Op) → (branched state me what).named ≡ state.named
named_branched state me (op.Branch guard number) = refl
named_branched state me other = refl

branch_step : (state : State) (one : Emitted) (what : Op) →
    ((branched state one.host what).opened ≡ state.opened) × ((branched state one.host what).branches ≡ state.branches)
    ⊎ ((branched state one.host what).opened ≡ record { host = one.host; number = state.branches } ∷ state.opened)
    × ((branched state one.host what).branches ≡ suc state.branches)
branch_step state one (op.Branch guard number) = inr (refl, refl)
branch_step state one other = inl (refl, refl)

pub step_of : (kind : Numbered) (scope : Scope) (state : State) (emission : Emission) →
    EmissionFits scope state emission →
    Step kind state emission
step_of of_entries scope state (instruction one) fits =
    keeps (owed_branched state one.host one.op) (ap length (named_branched state one.host one.op))
    (λ number others. refl)
step_of of_entries scope state (entry named) fits =
    adds named.host refl (omega (arith, length-append state.named (named.host ∷ []))) (λ number others. refl)
step_of of_entries scope state (stands host number) fits =
    places host number refl (first_off host number state.owed fits.0) refl refl
step_of of_entries scope state (lands host number) fits = keeps refl refl (λ number others. refl)
step_of of_branches scope state (instruction one) fits = elim (branch_step state one one.op) [
  | inl kept ↦ keeps kept.0 kept.1 (λ number others. refl)
  | inr added ↦ adds one.host added.0 added.1 (λ number others. refl)
]
step_of of_branches scope state (entry named) fits = keeps refl refl (λ number others. refl)
step_of of_branches scope state (stands host number) fits = keeps refl refl (λ number others. refl)
step_of of_branches scope state (lands host number) fits =
    places host number refl (first_off host number state.opened fits.0) refl refl

-- ---- numbers are apart, and below the next

pub record AreOrdered (kind : Numbered) (state : State) : Type 0 where
  pub below : AreBelow (count kind state) (due kind state)
  pub distinct : AreDistinct (due kind state)

pub ordered_after : (kind : Numbered) (state : State) (emission : Emission) → Step kind state emission →
    AreOrdered kind state → AreOrdered kind (after state emission)
ordered_after kind state emission (keeps same as_many passes) ordered = record {
  below = subst (λ (list : List Pending). AreBelow (count kind (after state emission)) list) (sym same)
      (below_more (count kind state) (count kind (after state emission)) (due kind state) (omega (arith, as_many))
      ordered.below);
  distinct = subst AreDistinct (sym same) ordered.distinct;
}
ordered_after kind state emission (adds host more one_more passes) ordered = record {
  below = subst (λ (list : List Pending). AreBelow (count kind (after state emission)) list) (sym more) (
    omega (arith, one_more),
    below_more (count kind state) (count kind (after state emission)) (due kind state)
        (omega (arith, one_more)) ordered.below,
  );
  distinct = subst AreDistinct (sym more) (
    below_absent (count kind state) (due kind state) ordered.below,
    ordered.distinct,
  );
}
ordered_after kind state emission (places host number is first as_many flow) ordered =
    let below = subst (λ (list : List Pending). AreBelow (count kind state) list) first ordered.below in
    let distinct = subst AreDistinct first ordered.distinct in
    record {
      below = below_more (count kind state) (count kind (after state emission)) (due kind (after state emission))
          (omega (arith, as_many)) below.1;
      distinct = distinct.1;
    }

pub count_after : (kind : Numbered) (state : State) (emission : Emission) → Step kind state emission →
    count kind state ≤ count kind (after state emission)
count_after kind state emission (keeps same as_many passes) = omega (arith, as_many)
count_after kind state emission (adds host more one_more passes) = omega (arith, one_more)
count_after kind state emission (places host number is first as_many flow) = omega (arith, as_many)

pub count_kept : (kind : Numbered) (scope : Scope) (state : State) (emissions : List Emission) (last : State) →
    FlowGoes scope state emissions last → count kind state ≤ count kind last
count_kept kind scope state [] last goes = omega (arith, ap (count kind) goes)
count_kept kind scope state (emission ∷ others) last goes =
    let so = count_kept kind scope (after state emission) others last goes.1 in
    let one = count_after kind state emission (step_of kind scope state emission goes.0) in
    omega arith

-- ---- a walk in two

pub record Halves (scope : Scope) (state : State) (front more : List Emission) (last : State) : Type 0 where
  pub middle : State
  pub to : FlowGoes scope state front middle
  pub from : FlowGoes scope middle more last

pub halves : (scope : Scope) (state : State) (front more : List Emission) (last : State) →
    FlowGoes scope state (front ++ more) last → Halves scope state front more last
halves scope state [] more last goes = record { middle = state; to = refl; from = goes }
halves scope state (emission ∷ front) more last goes =
    let so = halves scope (after state emission) front more last goes.1 in
    record { middle = so.middle; to = (goes.0, so.to); from = so.from }

pub ordered_at : (kind : Numbered) (scope : Scope) (state : State) (front : List Emission) (last : State) →
    FlowGoes scope state front last → AreOrdered kind state → AreOrdered kind last
ordered_at kind scope state [] last goes ordered = subst (AreOrdered kind) goes ordered
ordered_at kind scope state (emission ∷ front) last goes ordered =
    ordered_at kind scope (after state emission) front last goes.1
    (ordered_after kind state emission (step_of kind scope state emission goes.0) ordered)

-- ---- what goes on has an instruction

-- the next instruction is one of the host
abbrev pub GoesOn : HostId → Flow → Type 0
GoesOn host stopped = ⊥
GoesOn host (at other count) = other ≡ host
GoesOn host (awaited other) = other ≡ host

pub goes_on_stand : (host other : HostId) (flow : Flow) → GoesOn host flow →
    MayEntryStand other flow → other ≡ host
goes_on_stand host other stopped on may = absurd on
goes_on_stand host other (at here count) on may = sym may ∙ on
goes_on_stand host other (awaited here) on may = sym may ∙ on
