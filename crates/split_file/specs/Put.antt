-- Items that were put behind some bytes.
use Rattle.std.specs.Prelude.{◌≡◌, ◌++◌, ℕ, List, All}
use Rattle.std.specs.List.{flat_map}

-- These items were put behind the first bytes, each as its bytes, and the fact holds of each of them.
pub record ArePut {A : Type 0} (f : A → List ℕ) (P : A → Type 0) (first : List ℕ) (items : List A) (out : List ℕ) :
    Type 0 where
  pub bytes : out ≡ first ++ flat_map f items
  pub real : All P items
