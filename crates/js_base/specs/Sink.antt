-- What a sink has taken, where it tells.
use Rattle.std.specs.Prelude.{◌≡◌, ℕ, List, ◌++◌, take, Option}
use Rattle.std.specs.Option.{option_map}

-- the bytes went in at the end, all of them
abbrev pub Takes : List ℕ → Option (List ℕ) → Option (List ℕ) → Type 0
Takes bytes old new = new ≡ option_map (λ taken. taken ++ bytes) old

-- some front of the bytes went in at the end
abbrev pub TakesFront : List ℕ → Option (List ℕ) → Option (List ℕ) → Type 0
TakesFront bytes old new = (n : ℕ) × Takes (take n bytes) old new
