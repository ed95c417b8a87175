-- The texts of a program's statements, by number: their lines in the printed program.
use Rattle.std.specs.Prelude.{ℕ, ◌-◌, ◌==◌, nat_eq, Bool, false, not, ◌&&◌, ◌||◌, if◌then◌else◌}
use Rattle.std.specs.Prelude.{List, [], ◌∷◌, ◌++◌, codes, drop, length, slice_index, string_bytes, take}
use Rattle.std.specs.List.{count_by, starts_with}
use Rattle.std.specs.Str.{bytes_eq}
use Rattle.std.specs.Str.Lines.{lines}
use Rattle.principals.specs.ActsFor.{Declared}
use Rattle.jif_tree.specs.Trees.{ProgramTree}
use Rattle.jif_parse.specs.PrintedProgram.{printed_program}
use Rattle.statement_texts.specs.declared.texts.Around.{Around}
use Rattle.statement_texts.specs.declared.texts.StatementText.{StatementText}

-- ---- lines

-- the line that begins what is done otherwise
abbrev pub turns : List ℕ → Bool
turns line = bytes_eq line (codes "} else {")

-- the line that closes a block
abbrev pub closes : List ℕ → Bool
closes line = bytes_eq line (codes "}")

-- whether a line ends with the brace that opens a block
abbrev pub ends_open : List ℕ → Bool
ends_open line = slice_index line (length line - 1) == 123

abbrev pub begins_loop : List ℕ → Bool
begins_loop line = starts_with nat_eq line (codes "while (")

-- ---- what is around a line

-- the blocks around it, outer ones first, with whether each is that of a loop; and whether it is the first behind an
-- `else`
pub record AroundShape : Type 0 where
  pub within : List Bool
  pub otherwise : Bool

-- before the first line behind those of the fields
abbrev pub outermost : AroundShape
outermost = record { within = []; otherwise = false }

-- the blocks around what follows a line
abbrev pub open_behind : List Bool → List ℕ → List Bool
open_behind blocks line =
    if closes line then take (length blocks - 1) blocks
    else (if ends_open line && not (turns line) then blocks ++ begins_loop line ∷ [] else blocks)

abbrev pub around_behind : AroundShape → List ℕ → AroundShape
around_behind around line = record { within = open_behind around.within line; otherwise = turns line }

-- ---- statements

-- the line of a statement; in how many blocks it is, where the body of its method is one, and in how many loops;
-- whether it begins a loop; and whether it is the first behind an `else`
pub record StatementTextShape : Type 0 where
  pub text : List ℕ
  pub blocks : ℕ
  pub loops : ℕ
  pub begins_loop : Bool
  pub otherwise : Bool

abbrev pub is_loop : Bool → Bool
is_loop loop = loop

abbrev pub statement_text : AroundShape → List ℕ → StatementTextShape
statement_text around line = record {
  text = line;
  blocks = length around.within;
  loops = count_by is_loop around.within;
  begins_loop = begins_loop line;
  otherwise = around.otherwise;
}

-- what a line says: a statement or the head of a method, if it does not close a block
abbrev pub said : AroundShape → List ℕ → List StatementTextShape
said around line = if turns line || closes line then [] else statement_text around line ∷ []

-- The heads of methods and the statements stand on lines of their own, and no other line follows the fields but those
-- that close a block. So the texts are in the order of the numbers.
abbrev pub texts_from : AroundShape → List (List ℕ) → List StatementTextShape
texts_from around [] = []
texts_from around (line ∷ others) = said around line ++ texts_from (around_behind around line) others

-- each field has a line of its own, before all methods
abbrev pub statement_texts : Declared → ProgramTree → List StatementTextShape
statement_texts principals program =
    texts_from outermost (drop (length program.fields) (lines (printed_program principals program)))

-- lines of a loop with a branch in it that has a statement on each side, and of a statement behind the loop
abbrev pub sample_lines : List (List ℕ)
sample_lines =
    codes "while (a) {" ∷ codes "if (a) {" ∷ codes "b = 1;" ∷ codes "} else {" ∷ codes "b = 2;" ∷ codes "}" ∷ codes "}"
    ∷ codes "c = 3;" ∷ []

-- ---- in the program

abbrev pub around_shape : Around → AroundShape
around_shape around = record { within = around.within.items; otherwise = around.otherwise }

abbrev pub statement_text_shape : StatementText → StatementTextShape
statement_text_shape statement = record {
  text = string_bytes statement.text;
  blocks = statement.blocks;
  loops = statement.loops;
  begins_loop = statement.begins_loop;
  otherwise = statement.otherwise;
}
