-- How many tokens phrases have.
use Rattle.std.specs.Prelude.{◌≡◌, ℕ, ◌+◌, List, Option, length}
use Rattle.jif_lex.specs.declared.token.TokenKind.{TokenKind}
use Rattle.jif_grammar.specs.Phrases.{LabelPhrase, ExprPhrase, BlockPhrase, ParamPhrase, ItemPhrase}
use Rattle.jif_grammar.specs.Spelling.{args_spelling, optional_label_spelling, param_spelling, params_spelling}
use Rattle.jif_grammar.specs.Spelling.{authority_spelling, head_spelling, item_spelling}
use Rattle.jif_grammar.specs.Unmarked.{label_then, expr_then, args_then, optional_label_then, block_then, param_then}
use Rattle.jif_grammar.specs.Unmarked.{params_then, authority_then, head_then, item_then}
use Rattle.jif_grammar.specs.Drafts.{label_width, expr_width, block_width}

-- so many tokens less are left behind a phrase
pub record Widths : Type 0 where
  pub label : (label : LabelPhrase) (rest : List TokenKind) →
      length (label_then label rest) ≡ label_width label + length rest
  pub expr : (e : ExprPhrase) (rest : List TokenKind) → length (expr_then e rest) ≡ expr_width e + length rest
  pub args : (args : List ExprPhrase) (rest : List TokenKind) →
      length (args_then args rest) ≡ length (args_spelling 0 args) + length rest
  pub optional_label : (label : Option LabelPhrase) (rest : List TokenKind) →
      length (optional_label_then label rest) ≡ length (optional_label_spelling 0 label) + length rest
  pub block : (block : BlockPhrase) (rest : List TokenKind) →
      length (block_then block rest) ≡ block_width block + length rest
  pub param : (param : ParamPhrase) (rest : List TokenKind) →
      length (param_then param rest) ≡ length (param_spelling param) + length rest
  pub params : (params : List ParamPhrase) (rest : List TokenKind) →
      length (params_then params rest) ≡ length (params_spelling params) + length rest
  pub authority : (authority : List (List ℕ)) (rest : List TokenKind) →
      length (authority_then authority rest) ≡ length (authority_spelling authority) + length rest
  pub head : (kind : Option LabelPhrase) (name : List ℕ) (begin : LabelPhrase) (rest : List TokenKind) →
      length (head_then kind name begin rest) ≡ length (head_spelling kind name begin) + length rest
  pub item : (item : ItemPhrase) (rest : List TokenKind) →
      length (item_then item rest) ≡ length (item_spelling item) + length rest
