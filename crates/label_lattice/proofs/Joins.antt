-- Items that are joined by a separator which none of them has.
use Rattle.std.proofs.Common.{◌≡◌, ◌≢◌, ◌∙◌, sym, ap, refl, List, [], ◌∷◌, ◌++◌, map, Option, None, Some, append_assoc}
use Rattle.std.proofs.Common.{ℕ, ◌+◌, ◌<◌, length, length-append, arith}
use Rattle.std.proofs.lemmas.List.{append-nil, map-append}
use Rattle.std.specs.Prelude.{Contains}
use Rattle.js_base.proofs.Cuts.{no_cut, same_cut}
use Rattle.jif_lex.specs.declared.token.TokenKind.{TokenKind}
use Rattle.label_lattice.specs.Written.{with_separator}
use Rattle.label_lattice.specs.Reading.{CutsAt, IsAllLeft}

-- what is left is these items: no tokens and no items, or the items joined
abbrev pub IsLeft : {X : Type 0} → TokenKind → (X → List TokenKind) → Option (List TokenKind) → List X → Type 0
IsLeft separator f None items = items ≡ []
IsLeft separator f (Some tokens) items = (items ≢ []) × (tokens ≡ with_separator separator (map f items))

-- the first item, and those that are left after the cut
pub record FirstOf {X : Type 0} (separator : TokenKind) (f : X → List TokenKind) (front : List TokenKind)
    (after : Option (List TokenKind)) (items : List X) : Type 0 where
  pub item : X
  pub rest : List X
  pub is : items ≡ item ∷ rest
  pub front_is : front ≡ f item
  pub left : IsLeft separator f after rest

not_empty : {X : Type 0} (x : X) (xs : List X) → (x ∷ xs) ≢ []
not_empty x xs is = cc

pub first_of_left : {X : Type 0} (separator : TokenKind) (f : X → List TokenKind) (whole front : List TokenKind)
    (after : Option (List TokenKind)) (items : List X) → ((x : X) → ¬ Contains (f x) separator) →
    CutsAt separator whole front after → IsLeft separator f (Some whole) items → FirstOf separator f front after items
first_of_left separator f whole front after [] lacks cut left = absurd (left.0 refl)
first_of_left separator f whole front None (x ∷ []) lacks cut left =
    record { item = x; rest = []; is = refl; front_is = sym cut.0 ∙ left.1; left = refl }
first_of_left separator f whole front (Some after) (x ∷ []) lacks cut left =
    absurd (no_cut separator (f x) front after (lacks x) (sym left.1 ∙ cut.0))
first_of_left separator f whole front None (x ∷ y ∷ items) lacks cut left =
    absurd (no_cut separator front (f x) (with_separator separator (map f (y ∷ items))) cut.1 (sym cut.0 ∙ left.1))
first_of_left separator f whole front (Some after) (x ∷ y ∷ items) lacks cut left =
    let both = same_cut separator front (f x) after (with_separator separator (map f (y ∷ items))) cut.1 (lacks x)
    (sym cut.0 ∙ left.1) in
    record { item = x; rest = y ∷ items; is = refl; front_is = both.0; left = (not_empty y items, both.1) }

-- and back: the item and what is left after the cut make the whole
pub left_of_first : {X : Type 0} (separator : TokenKind) (f : X → List TokenKind) (whole front : List TokenKind)
    (after : Option (List TokenKind)) (x : X) (rest : List X) → CutsAt separator whole front after → front ≡ f x →
    IsLeft separator f after rest → IsLeft separator f (Some whole) (x ∷ rest)
left_of_first separator f whole front None x [] cut is left = (not_empty x [], cut.0 ∙ is)
left_of_first separator f whole front None x (y ∷ rest) cut is left = absurd (not_empty y rest left)
left_of_first separator f whole front (Some after) x [] cut is left = absurd (left.0 refl)
left_of_first separator f whole front (Some after) x (y ∷ rest) cut is left =
    (not_empty x (y ∷ rest), cut.0 ∙ ap (λ l. l ++ separator ∷ after) is ∙ ap (λ r. f x ++ separator ∷ r) left.1)

-- ---- reading item by item

-- The items so far and those that are left make the whole, and whatever items make the whole begin with such as are
-- written like those so far.
pub record LeftOf {X : Type 0} (separator : TokenKind) (f : X → List TokenKind) (whole : List TokenKind)
    (done : List X) (left : Option (List TokenKind)) : Type 0 where
  pub there : (rest : List X) → IsLeft separator f left rest → whole ≡ with_separator separator (map f (done ++ rest))
  pub back : (all : List X) → whole ≡ with_separator separator (map f all) →
      (before : List X) × (rest : List X) × (all ≡ before ++ rest) × (map f before ≡ map f done) × IsLeft separator f
      left rest

some_in_append : {X : Type 0} (xs : List X) (y : X) (ys : List X) → (xs ++ y ∷ ys) ≢ []
some_in_append [] y ys = not_empty y ys
some_in_append (x ∷ xs) y ys = not_empty x (xs ++ y ∷ ys)

pub joined_some : {X : Type 0} (separator : TokenKind) (f : X → List TokenKind) (x : X) (xs : List X) →
    ((x : X) → f x ≢ []) → with_separator separator (map f (x ∷ xs)) ≢ []
joined_some separator f x [] some = some x
joined_some separator f x (y ∷ xs) some = some_in_append (f x) separator (with_separator separator (map f (y ∷ xs)))

left_of_all : {X : Type 0} (separator : TokenKind) (f : X → List TokenKind) (whole : List TokenKind)
    (left : Option (List TokenKind)) (all : List X) → ((x : X) → f x ≢ []) → IsAllLeft whole left →
    whole ≡ with_separator separator (map f all) → IsLeft separator f left all
left_of_all separator f whole None [] some is written = refl
left_of_all separator f whole None (x ∷ xs) some is written =
    absurd (joined_some separator f x xs some (sym written ∙ is))
left_of_all separator f whole (Some tokens) [] some is written = absurd (is.1 written)
left_of_all separator f whole (Some tokens) (x ∷ xs) some is written = (not_empty x xs, is.0 ∙ written)

all_of_left : {X : Type 0} (separator : TokenKind) (f : X → List TokenKind) (whole : List TokenKind)
    (left : Option (List TokenKind)) (rest : List X) → IsAllLeft whole left → IsLeft separator f left rest →
    whole ≡ with_separator separator (map f rest)
all_of_left separator f whole None [] is left = is
all_of_left separator f whole None (x ∷ rest) is left = absurd (not_empty x rest left)
all_of_left separator f whole (Some tokens) rest is left = sym is.0 ∙ left.1

pub left_at_start : {X : Type 0} (separator : TokenKind) (f : X → List TokenKind) (whole : List TokenKind)
    (left : Option (List TokenKind)) → ((x : X) → f x ≢ []) → IsAllLeft whole left → LeftOf separator f whole [] left
left_at_start separator f whole left some is = record {
  there = λ rest is_left. all_of_left separator f whole left rest is is_left;
  back = λ all written. ([], all, refl, refl, left_of_all separator f whole left all some is written);
}

pub left_more : {X : Type 0} (separator : TokenKind) (f : X → List TokenKind) (whole tokens front : List TokenKind)
    (after : Option (List TokenKind)) (done : List X) (x : X) → ((x : X) → ¬ Contains (f x) separator) →
    CutsAt separator tokens front after → front ≡ f x → LeftOf separator f whole done (Some tokens) →
    LeftOf separator f whole (done ++ x ∷ []) after
left_more {X} separator f whole tokens front after done x lacks cut is so_far = record {
  there = λ rest left.
      so_far.there (x ∷ rest) (left_of_first separator f tokens front after x rest cut is left)
      ∙ ap (λ xs. with_separator separator (map f xs)) (sym (append_assoc done (x ∷ []) rest));
  back = back;
}
  where
    back : (all : List X) → whole ≡ with_separator separator (map f all) →
        (before : List X) × (rest : List X) × (all ≡ before ++ rest) × (map f before ≡ map f (done ++ x ∷ [])) ×
        IsLeft separator f after rest
    back all written =
        let earlier = so_far.back all written in
        let first : FirstOf separator f front after earlier.1 =
        first_of_left separator f tokens front after earlier.1 lacks cut earlier.4 in
        let longer : all ≡ (earlier.0 ++ first.item ∷ []) ++ first.rest = earlier.2
        ∙ ap (λ xs. earlier.0 ++ xs) first.is ∙ sym (append_assoc earlier.0 (first.item ∷ []) first.rest) in
        let alike : map f (earlier.0 ++ first.item ∷ []) ≡ map f (done ++ x ∷ []) =
        map-append f earlier.0 (first.item ∷ []) ∙ ap (λ ts. ts ++ f first.item ∷ []) earlier.3
        ∙ ap (λ t. map f done ++ t ∷ []) (sym first.front_is ∙ is) ∙ sym (map-append f done (x ∷ [])) in
        (earlier.0 ++ first.item ∷ [], first.rest, longer, alike, first.left)

-- nothing is left: the items so far make the whole
pub left_at_end : {X : Type 0} (separator : TokenKind) (f : X → List TokenKind) (whole : List TokenKind)
    (done : List X) → LeftOf separator f whole done None → whole ≡ with_separator separator (map f done)
left_at_end separator f whole done so_far = so_far.there [] refl
    ∙ ap (λ xs. with_separator separator (map f xs)) (append-nil done)

-- Whatever items make the whole have an item that is written like the next front, and after it those that are left.
pub record Next {X : Type 0} (separator : TokenKind) (f : X → List TokenKind) (front : List TokenKind)
    (after : Option (List TokenKind)) (all : List X) : Type 0 where
  pub before : List X
  pub item : X
  pub rest : List X
  pub is : all ≡ before ++ item ∷ rest
  pub front_is : front ≡ f item
  pub left : IsLeft separator f after rest

pub next_item : {X : Type 0} (separator : TokenKind) (f : X → List TokenKind) (whole tokens front : List TokenKind)
    (after : Option (List TokenKind)) (done all : List X) → ((x : X) → ¬ Contains (f x) separator) →
    CutsAt separator tokens front after → LeftOf separator f whole done (Some tokens) →
    whole ≡ with_separator separator (map f all) → Next separator f front after all
next_item separator f whole tokens front after done all lacks cut so_far written =
    let earlier = so_far.back all written in
    let first : FirstOf separator f front after earlier.1 =
    first_of_left separator f tokens front after earlier.1 lacks cut earlier.4 in
    record {
      before = earlier.0;
      item = first.item;
      rest = first.rest;
      is = earlier.2 ∙ ap (λ xs. earlier.0 ++ xs) first.is;
      front_is = first.front_is;
      left = first.left;
    }

-- ---- fewer tokens are left after each cut

abbrev pub how_many_left : Option (List TokenKind) → ℕ
how_many_left None = 0
how_many_left (Some tokens) = length tokens + 1

pub fewer_left : (separator : TokenKind) (tokens front : List TokenKind) (after : Option (List TokenKind)) →
    CutsAt separator tokens front after → how_many_left after < how_many_left (Some tokens)
fewer_left separator tokens front None cut = omega arith
fewer_left separator tokens front (Some after) cut =
    omega (arith, ap length cut.0, length-append front (separator ∷ after))
