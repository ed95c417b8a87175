-- From what a search finds to an item of the list, and from facts on items to those on lists.
use Rattle.std.proofs.Common.{◌≡◌, inl, inr, Bool, true, false, List, [], ◌∷◌, map, refl, ap}
use Rattle.std.specs.Prelude.{Any, Contains, if◌then◌else◌, Option, Some, None, unwrap_or}
use Rattle.std.proofs.lemmas.Bool.{false≢true}
use Rattle.std.proofs.lemmas.Option.{none-some}
use Rattle.need_labels.proofs.Somewhere.{any_here, any_later, any_first, any_none}
use Rattle.place_reasons.specs.Firsts.{first_some}
use Rattle.place_reasons.proofs.PairLaws.{or_so, or_nones}

pub any_weaker : {X : Type 0} (P Q : X → Type 0) (xs : List X) → ((x : X) → P x → Q x) → Any P xs → Any Q xs
any_weaker P Q xs weaker (k, x, lt, read, holds) = (k, x, lt, read, weaker x holds)

pub any_mapped : {X Y : Type 0} (P : Y → Type 0) (f : X → Y) (xs : List X) → Any (λ x. P (f x)) xs → Any P (map f xs)
any_mapped P f [] some = absurd (any_none (λ x. P (f x)) some)
any_mapped P f (x ∷ xs) some = elim (any_first (λ one. P (f one)) x xs some) [
  | inl here ↦ any_here P (f x) (map f xs) here
  | inr later ↦ any_later P (f x) (map f xs) (any_mapped P f xs later)
]

pub mapped_any : {X Y : Type 0} (P : Y → Type 0) (f : X → Y) (xs : List X) → Any P (map f xs) → Any (λ x. P (f x)) xs
mapped_any P f [] some = absurd (any_none P some)
mapped_any P f (x ∷ xs) some = elim (any_first P (f x) (map f xs) some) [
  | inl here ↦ any_here (λ one. P (f one)) x xs here
  | inr later ↦ any_later (λ one. P (f one)) x xs (mapped_any P f xs later)
]

-- an item that is found somewhere is in the list
pub any_contains : {X : Type 0} (P : X → Type 0) (xs : List X) (some : Any P xs) → Contains xs some.1
any_contains P xs (k, x, lt, read, holds) = (k, lt, read)

pub first_in : {X Y : Type 0} (make : X → Option Y) (xs : List X) (y : Y) → first_some make xs ≡ Some y →
    Any (λ x. make x ≡ Some y) xs
first_in make [] y is = absurd (none-some y is)
first_in {X} {Y} make (x ∷ xs) y is =
    let P : Y → Type 0 = λ z. Any (λ one. make one ≡ Some z) (x ∷ xs) in
    or_so P (make x) (first_some make xs) y (λ z here. any_here (λ one. make one ≡ Some z) x xs here)
    (λ z later. any_later (λ one. make one ≡ Some z) x xs (first_in make xs z later)) is

pub none_in : {X Y : Type 0} (make : X → Option Y) (P : X → Type 0) → ((x : X) → P x → ¬ (make x ≡ None)) →
    (xs : List X) → first_some make xs ≡ None → ¬ Any P xs
none_in make P some [] none any = any_none P any
none_in make P some (x ∷ xs) none any =
    let both = or_nones (make x) (first_some make xs) none in
    elim (any_first P x xs any) [
      | inl here ↦ some x here both.0
      | inr later ↦ none_in make P some xs both.1 later
    ]

-- what is there where a test is true
pub if_found : {Y : Type 0} (test : Bool) (found : Option Y) (y : Y) → (if test then found else None) ≡ Some y →
    (test ≡ true) × (found ≡ Some y)
if_found true found y is = (refl, is)
if_found false found y is = absurd (none-some y is)

pub some_same : {Y : Type 0} (x y : Y) → Some x ≡ Some y → x ≡ y
some_same {Y} x y is = ap (λ (found : Option Y). unwrap_or found x) is

pub if_none : {Y : Type 0} (test : Bool) (found : Option Y) → test ≡ true → (if test then found else None) ≡ None →
    found ≡ None
if_none true found is none = none
if_none false found is none = absurd (false≢true is)
