-- The names that are known, the last declared first.
use Rattle.std.proofs.Common.{◌≡◌, ℕ, ◌+◌, ◌-◌, ◌<◌, Bool, ◌||◌, List, [], ◌∷◌, ◌++◌, map, length, take, drop, reverse}
use Rattle.std.proofs.Common.{get_or, refl, ap, sym, ◌∙◌, arith}
use Rattle.std.specs.List.{list_any}
use Rattle.std.proofs.lemmas.List.{take_more, map-append, take-map, reverse-append, length-reverse, length-drop}
use Rattle.std.proofs.lemmas.List.{take-append-drop}
use Rattle.std.proofs.Math.Seq.{drop-append_seam}
use Rattle.jif_resolve.specs.declared.scope.KnownName.{KnownName}
use Rattle.jif_resolve.specs.KnownNames.{known_shape}

pub any_of : {X Y : Type 0} (f : X → Y) (p : Y → Bool) (xs : List X) →
    list_any (λ x. p (f x)) xs ≡ list_any p (map f xs)
any_of f p [] = refl
any_of f p (x ∷ xs) = ap (λ b. p (f x) || b) (any_of f p xs)

-- one more known name comes first
pub known_more : (xs : List KnownName) (i : ℕ) (d : KnownName) → i < length xs →
    reverse (map known_shape (take (i + 1) xs)) ≡ known_shape (get_or xs i d) ∷ reverse (map known_shape (take i xs))
known_more xs i d less =
    let x = get_or xs i d in
    ap (λ ys. reverse (map known_shape ys)) (take_more xs i d less)
    ∙ ap reverse (map-append known_shape (take i xs) (x ∷ []))
    ∙ reverse-append (map known_shape (take i xs)) (known_shape x ∷ [])

-- the first of some items are the last of them reversed
kept_first : {X : Type 0} (mark : ℕ) (xs : List X) →
    reverse (take mark xs) ≡ drop (length (reverse xs) - mark) (reverse xs)
kept_first mark xs =
    let back = reverse (drop mark xs) in
    let front = reverse (take mark xs) in
    let whole : reverse xs ≡ back ++ front =
    ap reverse (sym (take-append-drop mark xs)) ∙ reverse-append (take mark xs) (drop mark xs) in
    let all = length-reverse xs in
    let part = length-reverse (drop mark xs) in
    let dropped = length-drop mark xs in
    let long : length back ≡ length (reverse xs) - mark = omega (arith, all, part, dropped) in
    sym (drop-append_seam back front) ∙ ap (λ n. drop n (back ++ front)) long
    ∙ ap (drop (length (reverse xs) - mark)) (sym whole)

pub kept_known : (mark : ℕ) (xs : List KnownName) →
    reverse (map known_shape (take mark xs))
    ≡ drop (length (reverse (map known_shape xs)) - mark) (reverse (map known_shape xs))
kept_known mark xs = ap reverse (sym (take-map known_shape mark xs)) ∙ kept_first mark (map known_shape xs)
