-- At the moments of an altered run the plain run has made numbers of steps that do not fall.
use Rattle.std.proofs.Common.{◌≡◌, ap, refl, subst, arith, ℕ, zero, suc, ◌+◌, ◌≤◌, ℤ, List, [], ◌∷◌, length, Some}
use Rattle.std.proofs.Common.{slice_get}
use Rattle.std.specs.Prelude.{slice_index}
use Rattle.std.specs.List.Sorted.{IsNonDecreasing}
use Rattle.jif_tree.specs.declared.program.Program.{Program}
use Rattle.jif_tree.specs.SourceRun.{Configuration, IsAtEnd, HasLength, after_steps, configuration_at_start}
use Rattle.jif_tree.specs.Altered.{Exposure}
use Rattle.source_law.specs.Steady.{IsSteadyProgram}
use Rattle.source_law.specs.Related.{FieldsAgree, AreRelated}
use Rattle.source_law.specs.Follows.{ComesTo, EndsAfter, FollowsPlain}
use Rattle.source_law.proofs.AlteredSteps.{keeps_up, steps_joined}
use Rattle.source_law.proofs.RelatedStart.{starts}

-- ---- numbers that do not fall

pub one_rises : (n : ℕ) → IsNonDecreasing (n ∷ [])
one_rises n zero zero d le lt = omega arith
one_rises n zero (suc j) d le lt = absurd (omega arith)
one_rises n (suc i) zero d le lt = absurd (omega arith)
one_rises n (suc i) (suc j) d le lt = absurd (omega arith)

pub rises_before : (n m : ℕ) (numbers : List ℕ) → n ≤ m → IsNonDecreasing (m ∷ numbers) →
    IsNonDecreasing (n ∷ (m ∷ numbers))
rises_before n m numbers on rising zero zero d le lt = omega arith
rises_before n m numbers on rising zero (suc j) d le lt =
    let later = rising zero j d (omega arith) (omega (arith, lt)) in
    omega (arith, on, later)
rises_before n m numbers on rising (suc i) zero d le lt = absurd (omega (arith, le))
rises_before n m numbers on rising (suc i) (suc j) d le lt = rising i j d (omega (arith, le)) (omega (arith, lt))

rises_behind : (n : ℕ) (numbers : List ℕ) → IsNonDecreasing (n ∷ numbers) → IsNonDecreasing numbers
rises_behind n numbers rising i j d le lt = rising (suc i) (suc j) d (omega (arith, le)) (omega (arith, lt))

-- ---- moments

-- from a number of steps on, those of the plain run at each moment
record Along (program : Program) (exposure : Exposure) (start : Configuration) (most n : ℕ)
    (moments : List Configuration) : Type 0 where
  numbers : List ℕ
  many : length numbers ≡ length moments
  rising : IsNonDecreasing (n ∷ numbers)
  within : (place : ℕ) → slice_index numbers place ≤ most
  each : (place : ℕ) (c : Configuration) → slice_get moments place ≡ Some c →
      FieldsAgree exposure c.store (after_steps program (slice_index numbers place) start).store
      × (IsAtEnd c → slice_index numbers place ≡ most)

along : (program : Program) (exposure : Exposure) (start : Configuration) (most : ℕ) →
    IsSteadyProgram program exposure → (moments : List Configuration) (c : Configuration) (n left : ℕ) →
    n + left ≡ most → EndsAfter program left (after_steps program n start) →
    AreRelated program exposure c (after_steps program n start) → ComesTo program exposure c moments →
    Along program exposure start most n moments
along program exposure start most steady [] c n left sum ends r comes = record {
  numbers = [];
  many = refl;
  rising = one_rises n;
  within = λ place. omega arith;
  each = λ place it is. absurd (cc);
}
along program exposure start most steady (now ∷ moments) c n left sum ends r comes =
    let at = keeps_up program exposure left c (after_steps program n start) now comes.0.0 steady ends r comes.0.1 in
    let to : ℕ = at.steps + n in
    let total = at.total in
    let joined = steps_joined program at.steps n start in
    let P : Configuration → Type 0 = λ d. EndsAfter program at.further d in
    let Q : Configuration → Type 0 = λ d. AreRelated program exposure now d in
    let related = subst Q joined at.related in
    let rest = along program exposure start most steady moments now to at.further (omega (arith, sum, total))
    (subst P joined at.still) related comes.1 in
    record {
      numbers = to ∷ rest.numbers;
      many = ap suc rest.many;
      rising = rises_before n to rest.numbers (omega arith) rest.rising;
      within = below to rest.numbers (omega (arith, sum, total)) rest.within;
      each = there to rest.numbers related.fields
          (λ end. let none = at.ended end in omega (arith, sum, total, none)) rest.each;
    }
  where
    below : (to : ℕ) (numbers : List ℕ) → to ≤ most → ((place : ℕ) → slice_index numbers place ≤ most) → (place : ℕ) →
        slice_index (to ∷ numbers) place ≤ most
    below to numbers here others zero = here
    below to numbers here others (suc place) = others place

    Stands : Configuration → ℕ → Type 0
    Stands it steps =
        FieldsAgree exposure it.store (after_steps program steps start).store × (IsAtEnd it → steps ≡ most)

    there : (to : ℕ) (numbers : List ℕ) → FieldsAgree exposure now.store (after_steps program to start).store →
        (IsAtEnd now → to ≡ most) →
        ((place : ℕ) (it : Configuration) → slice_get moments place ≡ Some it → Stands it (slice_index numbers place)) →
        (place : ℕ) (it : Configuration) → slice_get (now ∷ moments) place ≡ Some it →
        Stands it (slice_index (to ∷ numbers) place)
    there to numbers fields ended each zero it is =
        let same : now ≡ it = cc in
        let P : Configuration → Type 0 = λ k. Stands k to in
        subst P same (fields, ended)
    there to numbers fields ended each (suc place) it is = each place it is

pub moments_follow : (program : Program) (exposure : Exposure) (store : List (List ℤ)) (length_of : ℕ)
    (moments : List Configuration) → IsSteadyProgram program exposure → HasLength program store length_of →
    ComesTo program exposure (configuration_at_start program store) moments →
    FollowsPlain program exposure store length_of (configuration_at_start program store ∷ moments)
moments_follow program exposure store length_of moments steady length_is comes =
    let start = configuration_at_start program store in
    let all = along program exposure start length_of steady (start ∷ moments) start 0 length_of (omega arith)
    length_is.ends (starts program exposure store steady) (([], refl), comes) in
    record {
      steps = all.numbers;
      many = all.many;
      rising = rises_behind 0 all.numbers all.rising;
      within = all.within;
      agrees = λ place c is. (all.each place c is).0;
      ends = λ place c is. (all.each place c is).1;
    }
