-- The first of some parts that is false.
use Rattle.std.proofs.Common.{◌≡◌, Bool, true, false, ◌∙◌, List, [], ◌∷◌, ◌++◌, Option, Some, None, ap, sym, subst}
use Rattle.std.proofs.Common.{refl, inl, inr}
use Rattle.std.specs.Prelude.{◌↔◌, IsTrue, if◌then◌else◌}
use Rattle.std.specs.List.{AllByRecursion}
use Rattle.std.proofs.lemmas.Bool.{false≢true}
use Rattle.js_base.proofs.Decisions.{Decided}
use Rattle.ignored_reasons.specs.declared.why.Why.{Why}
use Rattle.ignored_reasons.specs.Reasons.{IsFirstFalse}

-- where none is found, all hold
pub all_hold : (holds : Why → Type 0) (parts : List Why) → IsFirstFalse holds parts None → AllByRecursion holds parts
all_hold holds [] none = tt
all_hold holds (part ∷ parts) (inl first) = (first.0, all_hold holds parts first.1)
all_hold holds (part ∷ parts) (inr first) = absurd (cc (first.1))

pub none_where_all : (holds : Why → Type 0) (parts : List Why) (found : Option Why) →
    IsFirstFalse holds parts found → AllByRecursion holds parts → found ≡ None
none_where_all holds [] found first all = first
none_where_all holds (part ∷ parts) found (inl first) all = none_where_all holds parts found first.1 all.1
none_where_all holds (part ∷ parts) found (inr first) all = absurd (first.0 all.0)

-- what is found stands behind parts that all hold
pub found_behind : (holds : Why → Type 0) (parts : List Why) (why : Why) → IsFirstFalse holds parts (Some why) →
    (before behind : List Why) × (parts ≡ before ++ why ∷ behind) × AllByRecursion holds before × ¬ holds why
found_behind holds [] why first = absurd (cc first)
found_behind holds (part ∷ parts) why (inl first) =
    let rest = found_behind holds parts why first.1 in
    (part ∷ rest.0, rest.1, ap (λ others. part ∷ others) rest.2, (first.0, rest.3), rest.4)
found_behind holds (part ∷ parts) why (inr first) =
    let is_part : why ≡ part = cc (first.1) in
    ([], parts, ap (λ (one : Why). one ∷ parts) (sym is_part), tt, λ there. first.0 (subst holds is_part there))

-- there is one answer
pub one_first : (holds : Why → Type 0) (parts : List Why) (one other : Option Why) → IsFirstFalse holds parts one →
    IsFirstFalse holds parts other → one ≡ other
one_first holds [] one other first second = first ∙ sym second
one_first holds (part ∷ parts) one other (inl first) (inl second) = one_first holds parts one other first.1 second.1
one_first holds (part ∷ parts) one other (inl first) (inr second) = absurd (second.0 first.0)
one_first holds (part ∷ parts) one other (inr first) (inl second) = absurd (first.0 second.0)
one_first holds (part ∷ parts) one other (inr first) (inr second) = first.1 ∙ sym second.1

-- there is one where each part can be decided
pub some_first : (holds : Why → Type 0) → ((why : Why) → Decided (holds why)) → (parts : List Why) →
    (found : Option Why) × IsFirstFalse holds parts found
some_first holds each [] = (None, refl)
some_first holds each (part ∷ parts) = elim (each part) [
  | inl here ↦ (let rest = some_first holds each parts in (rest.0, inl (here, rest.1)))
  | inr not ↦ (Some part, inr (not, refl))
]

-- what a test says is false
pub untrue : {P : Type 0} (is : Bool) → (IsTrue is ↔ P) → is ≡ false → ¬ P
untrue is same not there = false≢true (sym not ∙ same.1 there)

-- the last part, by a test of it
pub last_part : (holds : Why → Type 0) (part : Why) (is : Bool) → (IsTrue is ↔ holds part) →
    IsFirstFalse holds (part ∷ []) (if is then None else Some part)
last_part holds part true same = inl (same.0 refl, refl)
last_part holds part false same = inr (λ there. cc (same.1 there), refl)

-- ---- parts in a row

pub in_front : (holds : Why → Type 0) (front back : List Why) (why : Why) → IsFirstFalse holds front (Some why) →
    IsFirstFalse holds (front ++ back) (Some why)
in_front holds [] back why first = absurd (cc first)
in_front holds (part ∷ front) back why (inl first) = inl (first.0, in_front holds front back why first.1)
in_front holds (part ∷ front) back why (inr first) = inr first

pub behind_all : (holds : Why → Type 0) (front back : List Why) (found : Option Why) → IsFirstFalse holds front None →
    IsFirstFalse holds back found → IsFirstFalse holds (front ++ back) found
behind_all holds [] back found none first = first
behind_all holds (part ∷ front) back found (inl none) first =
    inl (none.0, behind_all holds front back found none.1 first)
behind_all holds (part ∷ front) back found (inr none) first = absurd (cc (none.1))
