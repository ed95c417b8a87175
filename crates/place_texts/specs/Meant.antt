-- Which parts of a program a word means: the field or the head of the method of this name, or what begins on the line
-- of this number, without a leading zero. Nothing begins on a line 0.
use Rattle.std.specs.Prelude.{ℕ, Bool, ◌||◌, List, [], ◌∷◌, filter}
use Rattle.std.specs.Prelude.{Option, Some, None, slice_get}
use Rattle.std.specs.Fmt.{decimal}
use Rattle.std.specs.Str.{bytes_eq}
use Rattle.place_rules.specs.declared.place_error.PlaceError.{PlaceError}
use Rattle.place_rules.specs.declared.place_error.PlaceError.TheVariants as place
use Rattle.explain_texts.specs.Names.{field_name}
use Rattle.jif_tree.specs.Trees.{ProgramTree}
use Rattle.place_texts.specs.Parts.{PartShape, field, head, statement, line_of, fields_of, parts_of}
use Rattle.place_texts.specs.Parts.{statements_of}

abbrev pub begins_on : (word : List ℕ) → (line : ℕ) → Bool
begins_on word line = bytes_eq (decimal line) word

abbrev pub is_meant : ProgramTree → (word : List ℕ) → PartShape → Bool
is_meant tree word (field number) = bytes_eq (field_name tree number) word
is_meant tree word (head method) = bytes_eq method.name word || begins_on word method.line
is_meant tree word (statement method block) = begins_on word (line_of (statement method block))

abbrev pub meant : ProgramTree → (word : List ℕ) → List PartShape
meant tree word = filter (is_meant tree word) (parts_of tree)

-- ---- the part that no host may hold

abbrev pub one_of : Option PartShape → List PartShape
one_of None = []
one_of (Some part) = part ∷ []

abbrev pub unheld_parts : ProgramTree → PlaceError → List PartShape
unheld_parts tree place.OutOfMemory = []
unheld_parts tree (place.NoHostForField number) = one_of (slice_get (fields_of tree) number.0)
unheld_parts tree (place.NoHostForStatement number) = one_of (slice_get (statements_of tree) number.0)
