-- The first of what may be there.
use Rattle.std.specs.Prelude.{List, [], ◌∷◌, Option, Some, None}

-- the first, and the second where there is none
abbrev pub or_first : {X : Type 0} → Option X → Option X → Option X
or_first (Some first) second = Some first
or_first None second = second

-- the first that is made of a list
abbrev pub first_some : {X Y : Type 0} → (X → Option Y) → List X → Option Y
first_some make [] = None
first_some make (x ∷ xs) = or_first (make x) (first_some make xs)
