-- The items of an array, beside the values that the code goes over.
use Rattle.std.proofs.Common.{◌≡◌, ℕ, ◌+◌, ◌<◌, ◌≤◌, Bool, false, ◌&&◌, List, [], ◌∷◌, length, get_or, drop, Option}
use Rattle.std.proofs.Common.{refl, ap, arith}
use Rattle.std.specs.List.{list_all}
use Rattle.toml.specs.Data.{Data}
use Rattle.toml.specs.View.{view, items_view}
use Rattle.toml.specs.declared.value.Value.{Value}
use Rattle.toml.proofs.Views.{items_view-drop}
use Rattle.host_decl.specs.Schema.{all_items, selection, with_first, are_two_texts}
use Rattle.host_decl.specs.Draft.{pair_of}

-- a test of each item is a test of each value
pub all_items_view : (test : Data → Bool) (values : List Value)
    → all_items test (items_view values) ≡ list_all (λ value. test (view value)) values
all_items_view test [] = refl
all_items_view test (value ∷ values) = ap (λ rest. test (view value) && rest) (all_items_view test values)

-- what is selected of the values from a place on
pub selection_drop : {A : Type 0} (choose : Data → Option A) (values : List Value) (place : ℕ) (value : Value)
    → place < length values
    → selection choose (items_view (drop place values)) ≡ with_first (choose (view (get_or values place value)))
    (selection choose (items_view (drop (place + 1) values)))
selection_drop choose values place value within = ap (selection choose) (items_view-drop values place value within)

-- fewer than two items, or more than two, are not two texts
pub too_few : (values : List Value) → length values < 2 → false ≡ are_two_texts (items_view values)
too_few [] few = refl
too_few (first ∷ []) few = refl
too_few (first ∷ second ∷ rest) few = absurd (omega arith)

pub too_many : (values : List Value) → 3 ≤ length values → false ≡ are_two_texts (items_view values)
too_many [] many = absurd (omega arith)
too_many (first ∷ []) many = absurd (omega arith)
too_many (first ∷ second ∷ []) many = absurd (omega arith)
too_many (first ∷ second ∷ third ∷ rest) many = refl

-- fewer than two items make a pair of empty texts
pub no_pair : (values : List Value) → length values < 2 → pair_of (items_view values) ≡ ([], [])
no_pair [] few = refl
no_pair (first ∷ []) few = refl
no_pair (first ∷ second ∷ rest) few = absurd (omega arith)
