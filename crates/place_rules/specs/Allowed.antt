-- Words of hosts, as contracts see them.
use Rattle.std.specs.Prelude.{ℕ, List}

-- A word for each field and for each statement, by their numbers, with a bit set for each host that may hold it.
pub record AllowedShape : Type 0 where
  pub fields : List ℕ
  pub statements : List ℕ
