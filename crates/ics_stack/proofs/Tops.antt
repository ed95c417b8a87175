-- The last of some items is the first of them reversed.
use Rattle.std.proofs.Common.{◌≡◌, ◌+◌, ◌-◌, ◌<◌, ◌≤◌, List, [], ◌∷◌, ◌++◌, length, take, get_or, reverse, Some, sym}
use Rattle.std.proofs.Common.{ap, ◌∙◌, arith}
use Rattle.std.specs.Prelude.{slice_get}
use Rattle.std.proofs.lemmas.List.{take_more, take_all, reverse-append}
use Rattle.std.proofs.lemmas.Option.{slice_get_within, slice_get-get_or}

last_is : {X : Type 0} (items : List X) (x : X) → slice_get items (length items - 1) ≡ Some x →
    get_or items (length items - 1) x ≡ x
last_is items x is =
    let within : length items - 1 < length items = slice_get_within items (length items - 1) x is in
    let same : Some (get_or items (length items - 1) x) ≡ Some x =
    sym (slice_get-get_or items (length items - 1) x within) ∙ is in
    cc

-- the items are those before the last one, and the last one
front_and_last : {X : Type 0} (items : List X) (x : X) → slice_get items (length items - 1) ≡ Some x
    → items ≡ take (length items - 1) items ++ x ∷ []
front_and_last {X} items x is =
    let within : length items - 1 < length items = slice_get_within items (length items - 1) x is in
    let more = take_more items (length items - 1) x within in
    let all : length items ≤ length items - 1 + 1 = omega arith in
    sym (take_all (length items - 1 + 1) items all) ∙ more
    ∙ ap (λ (y : X). take (length items - 1) items ++ y ∷ []) (last_is items x is)

pub reversed : {X : Type 0} (items : List X) (x : X) → slice_get items (length items - 1) ≡ Some x
    → reverse items ≡ x ∷ reverse (take (length items - 1) items)
reversed items x is = ap reverse (front_and_last items x is) ∙ reverse-append (take (length items - 1) items) (x ∷ [])
