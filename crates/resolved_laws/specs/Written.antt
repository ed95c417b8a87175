-- Where the methods of a program stand in its draft, and so its statements.
use Rattle.std.specs.Prelude.{◌≡◌, List, map}
use Rattle.jif_lex.specs.declared.token.Token.{Token}
use Rattle.jif_grammar.specs.DraftShapes.{MethodShape}
use Rattle.jif_tree.specs.Numbering.{block_lines}
use Rattle.jif_tree.specs.Trees.{MethodTree}
use Rattle.explain_texts.specs.DraftPlaces.{block_starts}
use Rattle.explain_texts.specs.TokenTexts.{token_line}

-- a method of the draft with these tokens is this one of the program: their statements, with those in the blocks inside
-- them, are in the same order, each on the line of the token at which the draft has it
pub record IsWrittenAs (list : List Token) (written : MethodShape) (method : MethodTree) : Type 0 where
  pub name : method.name ≡ written.name.text
  pub line : method.line ≡ written.line
  pub statements : block_lines method.body ≡ map (token_line list) (block_starts written.body)
