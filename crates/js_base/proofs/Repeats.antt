-- Texts that stand at two places of a list.
use Rattle.std.proofs.Common.{◌≡◌, ℕ, ◌<◌, ◌≤◌, ◌∙◌, sym, ap, subst, inl, inr, arith}
use Rattle.std.proofs.Common.{List, length, get_or, take, Some, slice_get}
use Rattle.std.specs.Prelude.{Contains}
use Rattle.std.specs.List.{IsDistinct}
use Rattle.std.specs.Str.{bytes_eq}
use Rattle.std.proofs.lemmas.Bool.{cases_lt, false≢true}
use Rattle.std.proofs.lemmas.List.{get_or-take, length-take, take_all}
use Rattle.std.proofs.lemmas.Map.Keys.{apart_from_distinct}
use Rattle.std.proofs.lemmas.Option.{slice_get_within, get_or_from_slice_get}
use Rattle.std.proofs.lemmas.Slice.Eq.{bytes_eq-Decides}
use Rattle.js_base.specs.Named.{IsFirstRepeated}

-- the texts of two places that are the same
not_apart : (texts : List (List ℕ)) (text : List ℕ) (i j : ℕ) →
    i < j → j < length texts → get_or texts i text ≡ text → get_or texts j text ≡ text → ¬ IsDistinct bytes_eq texts
not_apart texts text i j before within first second distinct =
    false≢true (sym (apart_from_distinct bytes_eq texts i j text distinct before within)
    ∙ (bytes_eq-Decides _ _).1 (first ∙ sym second))

not_before : (texts : List (List ℕ)) (text : List ℕ) (i j : ℕ) →
    IsDistinct bytes_eq texts → slice_get texts i ≡ Some text → slice_get texts j ≡ Some text → ¬ (i < j)
not_before texts text i j distinct first second before =
    not_apart texts text i j before (slice_get_within texts j text second)
    (get_or_from_slice_get texts i text text first) (get_or_from_slice_get texts j text text second) distinct

-- among distinct texts a text has one place
pub one_place : (texts : List (List ℕ)) (text : List ℕ) (i j : ℕ) →
    IsDistinct bytes_eq texts → slice_get texts i ≡ Some text → slice_get texts j ≡ Some text → i ≡ j
one_place texts text i j distinct first second =
    elim (cases_lt i j) [
      | inl less ↦ absurd (not_before texts text i j distinct first second less)
      | inr more ↦ elim (cases_lt j i) [
        | inl less ↦ absurd (not_before texts text j i distinct second first less)
        | inr also ↦ omega arith
      ]
    ]

-- ---- the first text that repeats an earlier one

-- the texts before a place beyond it are not distinct
not_distinct_past : (texts : List (List ℕ)) (text : List ℕ) (place end : ℕ) →
    place < end → slice_get texts place ≡ Some text → Contains (take place texts) text →
    ¬ IsDistinct bytes_eq (take end texts)
not_distinct_past texts text place end before here earlier =
    let within : place < length texts = slice_get_within texts place text here in
    let first : earlier.0 < place = omega (arith, earlier.1, length-take place texts) in
    let there : get_or texts earlier.0 text ≡ text =
    sym (get_or-take place texts earlier.0 text first) ∙ earlier.2 in
    let own : get_or texts place text ≡ text = get_or_from_slice_get texts place text text here in
    not_apart (take end texts) text earlier.0 place first (omega (arith, within, length-take end texts))
    (get_or-take end texts earlier.0 text (omega arith) ∙ there) (get_or-take end texts place text before ∙ own)

-- no text of distinct texts repeats an earlier one
pub none_repeated : (texts : List (List ℕ)) (text : List ℕ) → IsDistinct bytes_eq texts → ¬ IsFirstRepeated texts text
none_repeated texts text distinct first =
    let P : List (List ℕ) → Type 0 = λ xs. IsDistinct bytes_eq xs in
    let all : length texts ≤ length texts = omega arith in
    not_distinct_past texts text first.place (length texts) (slice_get_within texts first.place text first.here)
    first.here first.repeated (subst P (sym (take_all (length texts) texts all)) distinct)

one_end : (texts : List (List ℕ)) (text other : List ℕ) (first : IsFirstRepeated texts text)
    (second : IsFirstRepeated texts other) → ¬ (first.place < second.place)
one_end texts text other first second before =
    not_distinct_past texts text first.place second.place before first.here first.repeated second.none_before

-- one text is the first that repeats an earlier one
pub one_repeated : (texts : List (List ℕ)) (text other : List ℕ) →
    IsFirstRepeated texts text → IsFirstRepeated texts other → text ≡ other
one_repeated texts text other first second =
    let not_less = one_end texts text other first second in
    let not_more = one_end texts other text second first in
    let same : first.place ≡ second.place = elim (cases_lt first.place second.place) [
      | inl less ↦ absurd (not_less less)
      | inr more ↦ elim (cases_lt second.place first.place) [
        | inl less ↦ absurd (not_more less)
        | inr also ↦ omega arith
      ]
    ] in
    let both : Some text ≡ Some other = sym first.here ∙ ap (slice_get texts) same ∙ second.here in
    cc
