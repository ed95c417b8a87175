-- What is asked about an accepted program, as contracts see it.
use Rattle.std.specs.Prelude.{ℕ, List, Option, Some, None}
use Rattle.jifexplain.specs.declared.places.Asked.{Asked}
use Rattle.jifexplain.specs.declared.places.Asked.TheVariants as asked

-- all parts, or those that a word means
abbrev pub asked_shape : Asked → Option (List ℕ)
asked_shape asked.All = None
asked_shape (asked.Meant word) = Some word.now
