-- Settings, from what their words name.
use Rattle.std.proofs.Common.{◌≡◌, ℕ, ◌+◌, Bool, not, List, [], ◌∷◌, Option, refl, ap, sym}
use Rattle.std.proofs.Common.{◌∙◌}
use Rattle.std.specs.Prelude.{map, position, if◌then◌else◌}
use Rattle.std.specs.List.{prefix_len}
use Rattle.std.specs.Str.{bytes_eq}
use Rattle.std.proofs.lemmas.List.{length-map}
use Rattle.event_text.specs.Settings.{FieldForm, field_named}

prefix_len-map : {X Y : Type 0} (p : Y → Bool) (f : X → Y) (xs : List X) →
    prefix_len p (map f xs) ≡ prefix_len (λ x. p (f x)) xs
prefix_len-map p f [] = refl
prefix_len-map p f (x ∷ xs) = ap (λ n. if p (f x) then 1 + n else 0) (prefix_len-map p f xs)

position-map : {X Y : Type 0} (p : Y → Bool) (f : X → Y) (xs : List X) →
    position p (map f xs) ≡ position (λ x. p (f x)) xs
position-map p f xs = rw (length-map, prefix_len-map (λ y. not (p y)) f xs) refl

-- the field at the first place of a name
pub field_named-at : {X : Type 0} (form : X → FieldForm) (xs : List X) (word : List ℕ) (place : Option ℕ) →
    place ≡ position (λ x. bytes_eq word (form x).name) xs → place ≡ field_named (map form xs) word
field_named-at form xs word place at = at ∙ sym (position-map (λ field. bytes_eq word field.name) form xs)
