-- The first text of an ascending list that passes a test is the least that does.
use Rattle.std.proofs.Common.{◌≡◌, ◌≢◌, ◌⊎◌, ℕ, Bool, true, false, List, [], ◌∷◌, Some, None, Ordering, Less, Equal}
use Rattle.std.proofs.Common.{Greater, nat_cmp, is_eq, is_lt, sym, refl, ap, ◌∙◌, subst, inl, inr}
use Rattle.std.proofs.lemmas.Bool.{cases_Bool, false≢true}
use Rattle.std.proofs.lemmas.Cmp.{nat_list_cmp_total}
use Rattle.std.proofs.lemmas.Slice.Eq.{bytes_eq-Decides}
use Rattle.std.proofs.lemmas.Map.Text.{is_eq-slice_cmp}
use Rattle.std.specs.Cmp.{tied_itself}
use Rattle.std.specs.Cmp.Lexicographic.{slice_cmp}
use Rattle.std.specs.List.{AllByRecursion, find, list_any}
use Rattle.std.specs.List.Sorted.{IsStrictlySortedBy}
use Rattle.std.specs.Ordering.{ordering_reverse}
use Rattle.std.specs.Str.{bytes_eq}
use Rattle.host_decl.specs.Schema.{IsNotAfter}

abbrev pub IsAscending : List (List ℕ) → Type 0
IsAscending texts = IsStrictlySortedBy (slice_cmp nat_cmp) texts

-- the text is one of the list
abbrev pub IsIn : List (List ℕ) → List ℕ → Type 0
IsIn [] text = ⊥
IsIn (next ∷ rest) text = (next ≡ text) ⊎ IsIn rest text

less_is_not_after : (first second : List ℕ) → slice_cmp nat_cmp first second ≡ Less → IsNotAfter first second
less_is_not_after first second less = λ after. let clash : Less ≡ Greater = sym less ∙ after in cc

pub is_not_after_itself : (text : List ℕ) → IsNotAfter text text
is_not_after_itself text = λ after. let clash : Equal ≡ Greater = sym (tied_itself nat_list_cmp_total text) ∙ after in
    cc

not_after_any : (first : List ℕ) (rest : List (List ℕ))
    → AllByRecursion (λ next. slice_cmp nat_cmp first next ≡ Less) rest → (other : List ℕ) → IsIn rest other
    → IsNotAfter first other
not_after_any first [] all other there = absurd there
not_after_any first (next ∷ rest) all other (inl same) =
    subst (IsNotAfter first) same (less_is_not_after first next all.0)
not_after_any first (next ∷ rest) all other (inr later) = not_after_any first rest all.1 other later

-- what was found is in the list, passes the test, and comes after no other such text
pub record IsFound (test : List ℕ → Bool) (texts : List (List ℕ)) (text : List ℕ) : Type 0 where
  pub here : IsIn texts text
  pub passes : test text ≡ true
  pub least : (other : List ℕ) → IsIn texts other → test other ≡ true → IsNotAfter text other

found_first : (test : List ℕ → Bool) (next : List ℕ) (rest : List (List ℕ))
    → AllByRecursion (λ other. slice_cmp nat_cmp next other ≡ Less) rest → test next ≡ true
    → IsFound test (next ∷ rest) next
found_first test next rest all passes =
    record {
      here = inl refl;
      passes = passes;
      least = λ other there also. elim there [
        | inl same ↦ subst (IsNotAfter next) same (is_not_after_itself next)
        | inr later ↦ not_after_any next rest all other later
      ];
    }

pub found_later : (test : List ℕ → Bool) (next : List ℕ) (rest : List (List ℕ)) (text : List ℕ) → test next ≡ false
    → IsFound test rest text → IsFound test (next ∷ rest) text
found_later test next rest text fails found =
    record {
      here = inr found.here;
      passes = found.passes;
      least = λ other there also. elim there [
        | inl same ↦ absurd (false≢true (sym fails ∙ ap test same ∙ also))
        | inr later ↦ found.least other later also
      ];
    }

pub find_least : (test : List ℕ → Bool) (texts : List (List ℕ)) (text : List ℕ) → IsAscending texts
    → find test texts ≡ Some text → IsFound test texts text
unfolding IsStrictlySortedBy
find_least test [] text sorted found = let clash : None ≡ Some text = found in cc
find_least test (next ∷ rest) text sorted found =
    elim (cases_Bool (test next)) [
      | inl passes ↦
          let same : next ≡ text = (let is : Some next ≡ Some text = rw passes at found in cc) in
          subst (IsFound test (next ∷ rest)) same (found_first test next rest sorted.0 passes)
      | inr fails ↦
          let later : find test rest ≡ Some text = rw fails at found in
          found_later test next rest text fails (find_least test rest text sorted.1 later)
    ]

pub find_none : (test : List ℕ → Bool) (texts : List (List ℕ)) → find test texts ≡ None → (other : List ℕ)
    → IsIn texts other → test other ≡ true → ⊥
find_none test [] none other there also = there
find_none test (next ∷ rest) none other there also =
    elim (cases_Bool (test next)) [
      | inl passes ↦ let clash : Some next ≡ None = rw passes at none in cc
      | inr fails ↦
          let later : find test rest ≡ None = rw fails at none in
          elim there [
            | inl same ↦ false≢true (sym fails ∙ ap test same ∙ also)
            | inr further ↦ find_none test rest later other further also
          ]
    ]

-- a test of all texts for equality finds the text
pub any_from_in : (texts : List (List ℕ)) (text : List ℕ) → IsIn texts text → list_any (bytes_eq text) texts ≡ true
any_from_in [] text there = absurd there
any_from_in (next ∷ rest) text (inl same) = rw ((bytes_eq-Decides text next).1 (sym same)) refl
any_from_in (next ∷ rest) text (inr later) =
    elim (cases_Bool (bytes_eq text next)) [
      | inl equal ↦ rw equal refl
      | inr other ↦ rw other (any_from_in rest text later)
    ]

pub in_from_any : (texts : List (List ℕ)) (text : List ℕ) → list_any (bytes_eq text) texts ≡ true → IsIn texts text
in_from_any [] text any = absurd (false≢true any)
in_from_any (next ∷ rest) text any =
    elim (cases_Bool (bytes_eq text next)) [
      | inl equal ↦ inl (sym ((bytes_eq-Decides text next).0 equal))
      | inr other ↦ inr (in_from_any rest text (rw other at any))
    ]

-- ---- the order of texts

pub equal_texts : (first second : List ℕ) → slice_cmp nat_cmp first second ≡ Equal → first ≡ second
equal_texts first second equal =
    (bytes_eq-Decides first second).0 (sym (is_eq-slice_cmp first second) ∙ ap is_eq equal)

after_less : (first second third : List ℕ) (order : Ordering) → slice_cmp nat_cmp second third ≡ order
    → slice_cmp nat_cmp first second ≡ Less → IsNotAfter second third → slice_cmp nat_cmp first third ≡ Greater → ⊥
after_less first second third Less is less not_after after =
    let clash : Less ≡ Greater = sym (nat_list_cmp_total.trans first second third less is) ∙ after in cc
after_less first second third Equal is less not_after after =
    let same : slice_cmp nat_cmp first second ≡ slice_cmp nat_cmp first third =
    ap (slice_cmp nat_cmp first) (equal_texts second third is) in
    let clash : Less ≡ Greater = sym less ∙ same ∙ after in cc
after_less first second third Greater is less not_after after = not_after is

after_order : (first second third : List ℕ) (order : Ordering) → slice_cmp nat_cmp first second ≡ order
    → IsNotAfter first second → IsNotAfter second third → slice_cmp nat_cmp first third ≡ Greater → ⊥
after_order first second third Less is before then after =
    after_less first second third (slice_cmp nat_cmp second third) refl is then after
after_order first second third Equal is before then after =
    then (sym (nat_list_cmp_total.congr first second third is) ∙ after)
after_order first second third Greater is before then after = before is

pub not_after_trans : (first second third : List ℕ) → IsNotAfter first second → IsNotAfter second third
    → IsNotAfter first third
not_after_trans first second third before then =
    λ after. after_order first second third (slice_cmp nat_cmp first second) refl before then after

in_order : (first second : List ℕ) (order : Ordering) → slice_cmp nat_cmp first second ≡ order
    → IsNotAfter first second → IsNotAfter second first → first ≡ second
in_order first second Less is one two = absurd (two (nat_list_cmp_total.antisymm second first ∙ ap ordering_reverse is))
in_order first second Equal is one two = equal_texts first second is
in_order first second Greater is one two = absurd (one is)

-- texts of which neither comes after the other
pub not_after_both : (first second : List ℕ) → IsNotAfter first second → IsNotAfter second first → first ≡ second
not_after_both first second one two = in_order first second (slice_cmp nat_cmp first second) refl one two

reversed : (order : Ordering) → order ≢ Less → ordering_reverse order ≢ Greater
reversed Less not_less = λ same. not_less refl
reversed Equal not_less = λ same. let clash : Equal ≡ Greater = same in cc
reversed Greater not_less = λ same. let clash : Less ≡ Greater = same in cc

pub not_after_from_not_less : (first second : List ℕ) → slice_cmp nat_cmp second first ≢ Less → IsNotAfter first second
not_after_from_not_less first second not_less =
    subst (λ order. order ≢ Greater) (sym (nat_list_cmp_total.antisymm first second))
    (reversed (slice_cmp nat_cmp second first) not_less)

-- from the answers of `<`
less_from_test : (order : Ordering) → is_lt order ≡ true → order ≡ Less
less_from_test Less test = refl
less_from_test Equal test = absurd (false≢true test)
less_from_test Greater test = absurd (false≢true test)

pub before_from_test : (first second : List ℕ) → is_lt (slice_cmp nat_cmp first second) ≡ true → IsNotAfter first second
before_from_test first second test =
    less_is_not_after first second (less_from_test (slice_cmp nat_cmp first second) test)

pub before_from_no_test : (first second : List ℕ) → is_lt (slice_cmp nat_cmp second first) ≡ false
    → IsNotAfter first second
before_from_no_test first second test =
    not_after_from_not_less first second (λ less. false≢true (sym test ∙ ap is_lt less))
