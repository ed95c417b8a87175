-- The label that a text is read as.
use Rattle.std.specs.Prelude.{ℕ, ◌≤◌, List, length}
use Rattle.js_base.specs.declared.limits.TheConstants.{PROGRAM_BYTES}
use Rattle.principals.specs.ActsFor.{Declared}
use Rattle.jif_lex.specs.declared.token.Token.{Token}
use Rattle.jif_lex.specs.Tokens.{ReadsAs, tokens}
use Rattle.label_lattice.specs.declared.label.Label.{Label}
use Rattle.label_lattice.specs.Over.{IsLabelOver}
use Rattle.label_lattice.specs.Written.{IsLabelOf}

-- The text has tokens that are this label, written with names of these principals, and the label is over them. No text
-- of a host file is so long that it has too many bytes for tokens.
pub record IsLabelText (principals : Declared) (text : List ℕ) (label : Label) : Type 0 where
  pub few : length text ≤ PROGRAM_BYTES
  pub list : List Token
  pub reads : ReadsAs text (tokens list)
  pub means : IsLabelOf principals list label
  pub over : IsLabelOver principals label
