-- What a walk in steps gives of each instruction of a host, one after another, and what is known of the one that comes
-- next. It is said once, whatever is known at a place and whatever is read off at an instruction.
use Rattle.std.proofs.Common.{◌≡◌, ◌∙◌, ℕ, suc, ◌+◌, inl, inr, List, [], ◌∷◌, ◌++◌, length, nat_eq, refl, ap, sym}
use Rattle.std.proofs.Common.{subst, arith, eq-eqb, if◌then◌else◌}
use Rattle.std.proofs.lemmas.Bool.Decides.{eqb_tells}
use Rattle.std.specs.Prelude.{Some, slice_get}
use Rattle.js_base.specs.declared.ids.HostId.{HostId}
use Rattle.split_rules.specs.Emissions.{Emission, instruction, entry, stands, lands, Emitted, NamedEntry}
use Rattle.split_rules.specs.SplitCode.{emitted_on}
use Rattle.split_shades.specs.Steps.{AreSteps}

-- what is read off at a step of an instruction
abbrev pub Item : {K : Type 0} → (K → Emission → K → Type 0) → Type 0 → Type 0
Item {K} Step I = (known : K) (one : Emitted) (after : K) → Step known (instruction one) after → I

-- of all instructions of a host
unfoldable pub items_on : {K I : Type 0} (Step : K → Emission → K → Type 0) (item : Item Step I) (host : HostId)
    (first : K) (xs : List Emission) (last : K) → AreSteps Step first xs last → List I
items_on Step item host first [] last steps = []
items_on Step item host first (instruction one ∷ xs) last steps =
    let others = items_on Step item host steps.0 xs last steps.2 in
    if nat_eq one.host.0 host.0 then item first one steps.0 steps.1 ∷ others else others
items_on Step item host first (entry named ∷ xs) last steps = items_on Step item host steps.0 xs last steps.2
items_on Step item host first (stands on number ∷ xs) last steps = items_on Step item host steps.0 xs last steps.2
items_on Step item host first (lands on number ∷ xs) last steps = items_on Step item host steps.0 xs last steps.2

-- ---- halves

-- a walk is cut in two
pub record Half {K I : Type 0} (Step : K → Emission → K → Type 0) (item : Item Step I) (host : HostId) (first : K)
    (xs ys : List Emission) (last : K) (steps : AreSteps Step first (xs ++ ys) last) : Type 0 where
  pub middle : K
  pub before : AreSteps Step first xs middle
  pub behind : AreSteps Step middle ys last
  pub places : (number : ℕ) → slice_get (items_on Step item host first (xs ++ ys) last steps)
      (length (emitted_on host xs) + number) ≡ slice_get (items_on Step item host middle ys last behind) number

pub half : {K I : Type 0} (Step : K → Emission → K → Type 0) (item : Item Step I) (host : HostId) (first : K)
    (xs ys : List Emission) (last : K) → (steps : AreSteps Step first (xs ++ ys) last) →
    Half Step item host first xs ys last steps
unfolding items_on
half Step item host first [] ys last steps = record {
  middle = first;
  before = refl;
  behind = steps;
  places = λ number. let none : 0 + number ≡ number = omega arith in
      ap (slice_get (items_on Step item host first ys last steps)) none;
}
half Step item host first (instruction one ∷ xs) ys last steps =
    let others = half Step item host steps.0 xs ys last steps.2 in
    let behind = items_on Step item host steps.0 (xs ++ ys) last steps.2 in
    record {
      middle = others.middle;
      before = (steps.0, steps.1, others.before);
      behind = others.behind;
      places = λ number. elim (eqb_tells one.host.0 host.0) [
        | inl same ↦ rw same.0
            (let next : length (one ∷ emitted_on host xs) + number ≡ suc (length (emitted_on host xs) + number) =
            omega arith in
            ap (slice_get (item first one steps.0 steps.1 ∷ behind)) next ∙ others.places number)
        | inr other ↦ rw other.0 (others.places number)
      ];
    }
half Step item host first (entry named ∷ xs) ys last steps =
    let others = half Step item host steps.0 xs ys last steps.2 in
    record {
      middle = others.middle;
      before = (steps.0, steps.1, others.before);
      behind = others.behind;
      places = others.places;
    }
half Step item host first (stands on number ∷ xs) ys last steps =
    let others = half Step item host steps.0 xs ys last steps.2 in
    record {
      middle = others.middle;
      before = (steps.0, steps.1, others.before);
      behind = others.behind;
      places = others.places;
    }
half Step item host first (lands on number ∷ xs) ys last steps =
    let others = half Step item host steps.0 xs ys last steps.2 in
    record {
      middle = others.middle;
      before = (steps.0, steps.1, others.before);
      behind = others.behind;
      places = others.places;
    }

-- ---- what comes next

-- A host goes on where something is known, and what comes next there meets it. What is known meets no less where an
-- entry is named or stands, or a branch leads.
pub record GoesOn {K I : Type 0} (Step : K → Emission → K → Type 0) (item : Item Step I)
    (Goes : K → HostId → Type 0) (Meet : K → HostId → I → Type 0) : Type 0 where
  pub own : (known : K) (one : Emitted) (after : K) (host : HostId) → (step : Step known (instruction one) after) →
      Goes known host → (one.host ≡ host) × Meet known host (item known one after step)
  pub named : (known : K) (named : NamedEntry) (after : K) (host : HostId) → Step known (entry named) after →
      Goes known host → Goes after host × ((i : I) → Meet after host i → Meet known host i)
  pub stands_there : (known : K) (on : HostId) (number : ℕ) (after : K) (host : HostId) →
      Step known (stands on number) after → Goes known host →
      Goes after host × ((i : I) → Meet after host i → Meet known host i)
  pub lands_there : (known : K) (on : HostId) (number : ℕ) (after : K) (host : HostId) →
      Step known (lands on number) after → Goes known host →
      Goes after host × ((i : I) → Meet after host i → Meet known host i)

-- the next instruction of a host that goes on
abbrev pub IsNext : {K I : Type 0} (Meet : K → HostId → I → Type 0) → HostId → K → List I → ℕ → Type 0
IsNext {K} {I} Meet host known items place = (i : I) × (slice_get items place ≡ Some i) × Meet known host i

pub first_is : {K I : Type 0} (Step : K → Emission → K → Type 0) (item : Item Step I)
    (Goes : K → HostId → Type 0) (Meet : K → HostId → I → Type 0) → GoesOn Step item Goes Meet → (host : HostId)
    (first : K) (xs : List Emission) (last : K) → (steps : AreSteps Step first xs last) → Goes first host →
    (Goes last host → ⊥) → IsNext Meet host first (items_on Step item host first xs last steps) 0
unfolding items_on
first_is {K} {I} Step item Goes Meet on host first [] last steps goes ends =
    let P : K → Type 0 = λ known. Goes known host in
    absurd (ends (subst P steps goes))
first_is {K} {I} Step item Goes Meet on host first (instruction one ∷ xs) last steps goes ends =
    let so = on.own first one steps.0 host steps.1 goes in
    (item first one steps.0 steps.1, rw (eq-eqb one.host.0 host.0 (ap (λ it. it.0) so.0)) refl, so.1)
first_is {K} {I} Step item Goes Meet on host first (entry named ∷ xs) last steps goes ends =
    let so = on.named first named steps.0 host steps.1 goes in
    let next = first_is Step item Goes Meet on host steps.0 xs last steps.2 so.0 ends in
    (next.0, next.1, so.1 next.0 next.2)
first_is {K} {I} Step item Goes Meet on host first (stands there number ∷ xs) last steps goes ends =
    let so = on.stands_there first there number steps.0 host steps.1 goes in
    let next = first_is Step item Goes Meet on host steps.0 xs last steps.2 so.0 ends in
    (next.0, next.1, so.1 next.0 next.2)
first_is {K} {I} Step item Goes Meet on host first (lands there number ∷ xs) last steps goes ends =
    let so = on.lands_there first there number steps.0 host steps.1 goes in
    let next = first_is Step item Goes Meet on host steps.0 xs last steps.2 so.0 ends in
    (next.0, next.1, so.1 next.0 next.2)

-- ---- one step of a walk

-- an instruction of a host, with what was before it and what is behind it
pub record InstructionRead {K I : Type 0} (Step : K → Emission → K → Type 0) (item : Item Step I)
    (Goes : K → HostId → Type 0) (Meet : K → HostId → I → Type 0) (host : HostId) (first : K)
    (before : List Emission) (one : Emitted) (behind : List Emission) (last : K) (items : List I) : Type 0 where
  pub known : K
  pub after : K
  pub to : AreSteps Step first before known
  pub step : Step known (instruction one) after
  pub from : AreSteps Step after behind last
  pub stands_at : slice_get items (length (emitted_on host before)) ≡ Some (item known one after step)
  pub next : Goes after host → IsNext Meet host after items (suc (length (emitted_on host before)))

pub instruction_read : {K I : Type 0} (Step : K → Emission → K → Type 0) (item : Item Step I)
    (Goes : K → HostId → Type 0) (Meet : K → HostId → I → Type 0) → GoesOn Step item Goes Meet → (host : HostId)
    (first : K) (emissions before : List Emission) (one : Emitted) (behind : List Emission) (last : K) →
    emissions ≡ before ++ instruction one ∷ behind → one.host ≡ host → (Goes last host → ⊥) →
    (steps : AreSteps Step first emissions last) →
    InstructionRead Step item Goes Meet host first before one behind last
    (items_on Step item host first emissions last steps)
unfolding items_on
instruction_read {K} {I} Step item Goes Meet on host first emissions before one behind last is own ends steps =
    subst P (sym is) split steps
  where
    P : List Emission → Type 0
    P list = (all : AreSteps Step first list last) →
        InstructionRead Step item Goes Meet host first before one behind last
        (items_on Step item host first list last all)

    split : P (before ++ instruction one ∷ behind)
    split all =
        let parts = half Step item host first before (instruction one ∷ behind) last all in
        let after = parts.behind.0 in
        let step = parts.behind.1 in
        let rest = parts.behind.2 in
        let place = length (emitted_on host before) in
        let none : place + 0 ≡ place = omega arith in
        let next : place + 1 ≡ suc place = omega arith in
        let items = items_on Step item host first (before ++ instruction one ∷ behind) last all in
        let own_first : slice_get (items_on Step item host parts.middle (instruction one ∷ behind) last parts.behind) 0
        ≡ Some (item parts.middle one after step) = rw (eq-eqb one.host.0 host.0 (ap (λ it. it.0) own)) refl in
        let own_next : slice_get (items_on Step item host parts.middle (instruction one ∷ behind) last parts.behind) 1
        ≡ slice_get (items_on Step item host after behind last rest) 0 =
        rw (eq-eqb one.host.0 host.0 (ap (λ it. it.0) own)) refl in
        record {
          known = parts.middle;
          after = after;
          to = parts.before;
          step = step;
          from = rest;
          stands_at = ap (slice_get items) (sym none) ∙ parts.places 0 ∙ own_first;
          next = λ goes. let there = first_is Step item Goes Meet on host after behind last rest goes ends in
              (there.0, ap (slice_get items) (sym next) ∙ parts.places 1 ∙ own_next ∙ there.1, there.2);
        }

-- an entry stands, or a branch leads somewhere, with what is behind it
pub record MarkRead {K I : Type 0} (Step : K → Emission → K → Type 0) (Goes : K → HostId → Type 0)
    (Meet : K → HostId → I → Type 0) (host : HostId) (mark : Emission) (behind : List Emission) (last : K)
    (items : List I) (place : ℕ) : Type 0 where
  pub known : K
  pub after : K
  pub step : Step known mark after
  pub from : AreSteps Step after behind last
  pub next : Goes after host → IsNext Meet host after items place

pub stands_read : {K I : Type 0} (Step : K → Emission → K → Type 0) (item : Item Step I)
    (Goes : K → HostId → Type 0) (Meet : K → HostId → I → Type 0) → GoesOn Step item Goes Meet → (host on : HostId)
    (number : ℕ) (first : K) (emissions before behind : List Emission) (last : K) →
    emissions ≡ before ++ stands on number ∷ behind → (Goes last host → ⊥) →
    (steps : AreSteps Step first emissions last) →
    MarkRead Step Goes Meet host (stands on number) behind last (items_on Step item host first emissions last steps)
    (length (emitted_on host before))
unfolding items_on
stands_read {K} {I} Step item Goes Meet goes_on host on number first emissions before behind last is ends steps =
    subst P (sym is) split steps
  where
    P : List Emission → Type 0
    P list = (all : AreSteps Step first list last) →
        MarkRead Step Goes Meet host (stands on number) behind last (items_on Step item host first list last all)
        (length (emitted_on host before))

    split : P (before ++ stands on number ∷ behind)
    split all =
        let parts = half Step item host first before (stands on number ∷ behind) last all in
        let rest = parts.behind.2 in
        let place = length (emitted_on host before) in
        let none : place + 0 ≡ place = omega arith in
        let items = items_on Step item host first (before ++ stands on number ∷ behind) last all in
        record {
          known = parts.middle;
          after = parts.behind.0;
          step = parts.behind.1;
          from = rest;
          next = λ goes.
              let there = first_is Step item Goes Meet goes_on host parts.behind.0 behind last rest goes ends in
              (there.0, ap (slice_get items) (sym none) ∙ parts.places 0 ∙ there.1, there.2);
        }

pub lands_read : {K I : Type 0} (Step : K → Emission → K → Type 0) (item : Item Step I)
    (Goes : K → HostId → Type 0) (Meet : K → HostId → I → Type 0) → GoesOn Step item Goes Meet → (host on : HostId)
    (number : ℕ) (first : K) (emissions before behind : List Emission) (last : K) →
    emissions ≡ before ++ lands on number ∷ behind → (Goes last host → ⊥) →
    (steps : AreSteps Step first emissions last) →
    MarkRead Step Goes Meet host (lands on number) behind last (items_on Step item host first emissions last steps)
    (length (emitted_on host before))
unfolding items_on
lands_read {K} {I} Step item Goes Meet goes_on host on number first emissions before behind last is ends steps =
    subst P (sym is) split steps
  where
    P : List Emission → Type 0
    P list = (all : AreSteps Step first list last) →
        MarkRead Step Goes Meet host (lands on number) behind last (items_on Step item host first list last all)
        (length (emitted_on host before))

    split : P (before ++ lands on number ∷ behind)
    split all =
        let parts = half Step item host first before (lands on number ∷ behind) last all in
        let rest = parts.behind.2 in
        let place = length (emitted_on host before) in
        let none : place + 0 ≡ place = omega arith in
        let items = items_on Step item host first (before ++ lands on number ∷ behind) last all in
        record {
          known = parts.middle;
          after = parts.behind.0;
          step = parts.behind.1;
          from = rest;
          next = λ goes.
              let there = first_is Step item Goes Meet goes_on host parts.behind.0 behind last rest goes ends in
              (there.0, ap (slice_get items) (sym none) ∙ parts.places 0 ∙ there.1, there.2);
        }
