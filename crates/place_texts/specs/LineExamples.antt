-- A small program with its tokens, whose parts stand in lines.
use Rattle.std.specs.Prelude.{ℕ, pos, [], ◌∷◌, None, codes}
use Rattle.js_base.specs.declared.ids.FieldId.{FieldId}
use Rattle.jif_lex.specs.declared.token.Token.{Token}
use Rattle.jif_lex.specs.declared.token.TokenKind.TheVariants.{Number}
use Rattle.jif_tree.specs.Trees.{BlockTree, MethodTree, done}
use Rattle.label_lattice.specs.Lattice.{empty_label}
use Rattle.label_lattice.specs.PrintedExamples.{alice_and_bob}
use Rattle.explain_texts.specs.Sheets.{SheetShape}
use Rattle.place_reasons.specs.PlaceExamples.{guarded_program}
use Rattle.place_texts.specs.Parts.{PartShape, field, head, statement}

-- a token of this line
abbrev token : ℕ → Token
token line = record { kind = Number (pos 0); at = 0; line = line }

-- `if (a) { q = b; }` on two lines, with what stands before it on the first
abbrev pub sheet : SheetShape
sheet = record {
  tokens = token 1 ∷ token 7 ∷ [];
  places = record { fields = 0 ∷ 0 ∷ 0 ∷ []; variables = []; methods = 0 ∷ []; statements = 0 ∷ 0 ∷ 1 ∷ [] };
  principals = alice_and_bob;
  tree = guarded_program.program;
}

abbrev pub of_field : FieldId → PartShape
of_field number = field number

abbrev main : MethodTree
main = record {
  name = codes "main";
  begin = empty_label;
  params = [];
  result = None;
  authority = [];
  head = record { 0 = 0 };
  line = 1;
  body = done;
}

abbrev pub main_head : PartShape
main_head = head main

abbrev pub of_statement : BlockTree → PartShape
of_statement block = statement main block
