-- What is needed to name the parts of a program, and to say on which lines they stand.
use Rattle.std.specs.Prelude.{ℕ, List, slice_index}
use Rattle.jif_lex.specs.declared.token.Token.{Token}
use Rattle.jif_tree.specs.Trees.{ProgramTree, program_tree}
use Rattle.principals.specs.ActsFor.{Declared}
use Rattle.explain_texts.specs.declared.sheet.Sheet.{Sheet}
use Rattle.explain_texts.specs.DraftPlaces.{PlacesShape, places_shape}
use Rattle.explain_texts.specs.TokenTexts.{token_line}

-- the tokens, where parts are written, the declared principals and the program
pub record SheetShape : Type 0 where
  pub tokens : List Token
  pub places : PlacesShape
  pub principals : Declared
  pub tree : ProgramTree

abbrev pub sheet_shape : Sheet → SheetShape
sheet_shape sheet = record {
  tokens = sheet.tokens.now;
  places = places_shape sheet.places.now;
  principals = sheet.principals.now;
  tree = program_tree sheet.program.now;
}

-- the line of a part, where the parts of its kind are written at these tokens
abbrev pub part_line : SheetShape → List ℕ → ℕ → ℕ
part_line sheet numbers part = token_line sheet.tokens (slice_index numbers part)
