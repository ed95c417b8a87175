-- Where something was made of parts, they were there.
use Rattle.std.proofs.Common.{◌≡◌, ◌⊎◌, Bool, true, false, Option, Some, None, refl, inl, inr}
use Rattle.std.specs.Prelude.{if◌then◌else◌}
use Rattle.std.specs.Option.{option_map, option_and_then}
use Rattle.event_text.specs.Words.{of_two, of_three, of_four}

pub mapped : {X Y : Type 0} (make : X → Y) (found : Option X) (made : Y) → option_map make found ≡ Some made →
    (x : X) × (found ≡ Some x) × (make x ≡ made)
mapped make None made is = absurd cc
mapped make (Some x) made is = (x, refl, cc)

pub then_made : {X Y : Type 0} (make : X → Option Y) (found : Option X) (made : Y) →
    option_and_then make found ≡ Some made → (x : X) × (found ≡ Some x) × (make x ≡ Some made)
then_made make None made is = absurd cc
then_made make (Some x) made is = (x, refl, is)

pub either_made : {X : Type 0} (test : Bool) (first second : Option X) (made : X) →
    (if test then first else second) ≡ Some made →
    ((test ≡ true) × (first ≡ Some made)) ⊎ ((test ≡ false) × (second ≡ Some made))
either_made true first second made is = inl (refl, is)
either_made false first second made is = inr (refl, is)

pub two_made : {X Y Z : Type 0} (make : X → Y → Z) (first : Option X) (second : Option Y) (made : Z) →
    of_two make first second ≡ Some made →
    (x : X) × (y : Y) × (first ≡ Some x) × (second ≡ Some y) × (make x y ≡ made)
two_made make None second made is = absurd cc
two_made make (Some x) None made is = absurd cc
two_made make (Some x) (Some y) made is = (x, y, refl, refl, cc)

pub three_made : {X Y Z W : Type 0} (make : X → Y → Z → W) (first : Option X) (second : Option Y) (third : Option Z)
    (made : W) → of_three make first second third ≡ Some made →
    (x : X) × (y : Y) × (z : Z) × (first ≡ Some x) × (second ≡ Some y) × (third ≡ Some z) × (make x y z ≡ made)
three_made make None second third made is = absurd cc
three_made make (Some x) second third made is =
    let (y, z, two, three, same) = two_made (make x) second third made is in (x, y, z, refl, two, three, same)

pub four_made : {X Y Z W V : Type 0} (make : X → Y → Z → W → V) (first : Option X) (second : Option Y)
    (third : Option Z) (fourth : Option W) (made : V) → of_four make first second third fourth ≡ Some made →
    (x : X) × (y : Y) × (z : Z) × (w : W) × (first ≡ Some x) × (second ≡ Some y) × (third ≡ Some z)
    × (fourth ≡ Some w) × (make x y z w ≡ made)
four_made make None second third fourth made is = absurd cc
four_made make (Some x) second third fourth made is =
    let (y, z, w, two, three, four, same) = three_made (make x) second third fourth made is in
    (x, y, z, w, refl, two, three, four, same)
