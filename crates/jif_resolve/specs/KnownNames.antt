-- How the names that are known at a place are kept.
--
-- Known names are searched from the last. A method has at most 256 parameters and locals. Those known at a place are a
-- list that is cut off at the end of a block, searched from its end, and those of the whole program stand in a hash
-- table.
use Rattle.std.specs.Prelude.{ℕ, ◌+◌, ◌-◌, ◌≤◌, Bool, if◌then◌else◌, [], length, drop}
use Rattle.std.specs.String.{string_bytes}
use Rattle.jif_resolve.specs.declared.scope.KnownName.{KnownName}
use Rattle.jif_resolve.specs.Places.{Known, Place}

abbrev pub known_shape : KnownName → Known
known_shape known = record { name = string_bytes known.text; variable = known.variable }

-- the largest number of a variable, a statement or a call site
abbrev pub largest : ℕ
largest = 4294967295

-- each count of the place is a number
pub record IsCounted (place : Place) : Type 0 where
  pub variables : place.first + length place.earlier ≤ largest
  pub statements : place.statement ≤ largest
  pub sites : place.site ≤ largest

-- only so many of the known names are known any longer, those that were declared first
abbrev pub left : ℕ → Place → Place
left mark place = record place { known = drop (length place.known - mark) place.known }

-- where the method begins that follows the one whose variables and statements are counted here
abbrev pub after_method : Bool → Place → Place
after_method gives place = record {
  first = place.first + length place.earlier + (if gives then 1 else 0);
  earlier = [];
  known = [];
  statement = place.statement;
  site = place.site;
}
