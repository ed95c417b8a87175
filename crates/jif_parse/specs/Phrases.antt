-- Reading phrases: which phrase the tokens were, which draft it is, and what it takes away of what was due.
use Rattle.std.specs.Prelude.{◌≡◌, ◌≢◌, ◌≤◌, ◌<◌, ◌+◌, ℕ, List, [], ◌∷◌, map, length}
use Rattle.jif_tree.specs.declared.draft.ExprDraft.{ExprDraft}
use Rattle.jif_tree.specs.declared.draft.LabelDraft.{LabelDraft}
use Rattle.jif_tree.specs.declared.draft.NameDraft.{NameDraft}
use Rattle.js_base.specs.declared.limits.TheConstants.{NESTING}
use Rattle.js_base.specs.declared.binary_operator.BinOp.{BinOp}
use Rattle.jif_lex.specs.declared.token.TokenKind.TheVariants.{Name}
use Rattle.jif_lex.specs.declared.token.Symbol as symbols
use Rattle.jif_lex.specs.declared.token.Symbol.TheVariants.{RightBrace, RightParenthesis, Semicolon, Comma}
use Rattle.jif_lex.specs.declared.token.Symbol.TheVariants.{RightBracket}
use Rattle.label_lattice.specs.Written.{kinds, symbol, parts_tokens, names_tokens, TrustIsLast}
use Rattle.jif_grammar.specs.Phrases.{ExprPhrase, LabelPhrase}
use Rattle.jif_grammar.specs.Operators.{operator_symbol, operator_level}
use Rattle.jif_grammar.specs.Grouping.{level, IsGrouped, AreGrouped}
use Rattle.jif_grammar.specs.Due as due
use Rattle.jif_grammar.specs.Due.{Due, Closing, operand, links, a_name, first_part, a_part, readers, members}
use Rattle.jif_grammar.specs.Nesting.{Nested, nested_at}
use Rattle.jif_grammar.specs.Spelling.{args_spelling}
use Rattle.jif_grammar.specs.DraftShapes.{expr_shape, label_shape, name_shape}
use Rattle.jif_grammar.specs.Drafts.{expr_at, expr_width, label_at, label_width, policies_at, trust_at, name_at}
use Rattle.jif_grammar.specs.Drafts.{names_at, args_at}
use Rattle.jif_grammar.specs.Unmarked.{expr_then, label_then, part_then, joined_then, names_then, args_then}
use Rattle.jif_parse.specs.declared.cursor.Cursor.{Cursor}
use Rattle.jif_parse.specs.declared.endings.Ending.{Ending}
use Rattle.jif_parse.specs.declared.endings.Ending.TheVariants as ending
use Rattle.jif_parse.specs.declared.parse_error.ParseError.{ParseError}
use Rattle.jif_parse.specs.Reading.{Moves, Passes, IsNextSymbol, Takes, Fails}

-- ---- symbols and names

pub record PassesSymbol (old new : Cursor) (written : symbols.Symbol) : Type 0 where
  pub is_next : IsNextSymbol old written
  pub passes : Passes old new

pub record ReadsName (old new : Cursor) (draft : NameDraft) : Type 0 where
  pub name : List ℕ
  pub written : kinds old.rest.now ≡ Name name ∷ kinds new.rest.now
  pub draft_is : name_shape draft ≡ name_at old.at name
  pub passes : Passes old new

-- what names stand in: the readers of a policy, those who trust, and those by whose authority a method acts
pub data NameList : Type 0 where
  of_readers : NameList
  of_members : NameList
  of_principals : NameList

-- what is due behind a name of the list
abbrev pub after_name_of : NameList → Due
after_name_of of_readers = due.after_reader
after_name_of of_members = due.after_member
after_name_of of_principals = due.after_principal

-- At least one name, joined by commas. What follows is no comma.
pub record ReadsNames (old new : Cursor) (drafts : List NameDraft) : Type 0 where
  pub names : List (List ℕ)
  pub some : names ≢ []
  pub written : kinds old.rest.now ≡ names_then names (kinds new.rest.now)
  pub drafts_are : map name_shape drafts ≡ names_at old.at names
  pub moves : Moves old new (length (names_tokens names))
  pub ends : ¬ IsNextSymbol new Comma
  pub takes : (list : NameList) (depth : ℕ) → depth ≤ NESTING →
      Takes old new (nested_at depth a_name ∷ nested_at depth (after_name_of list) ∷ [])
      (nested_at depth (after_name_of list) ∷ [])

abbrev pub FailsNames : Cursor → ParseError → Type 0
FailsNames old error = (list : NameList) (depth : ℕ) → depth ≤ NESTING →
    Fails old (nested_at depth a_name ∷ nested_at depth (after_name_of list) ∷ []) error

-- ---- labels

-- a label behind its first brace, up to the last
pub record ReadsParts (old new : Cursor) (draft : LabelDraft) : Type 0 where
  pub label : LabelPhrase
  pub trust_is_last : TrustIsLast label
  pub written :
      kinds old.rest.now ≡ joined_then (symbol Semicolon) part_then label (symbol RightBrace ∷ kinds new.rest.now)
  pub draft_is : label_shape draft ≡ record { policies = policies_at old.at label; trust = trust_at old.at label }
  pub moves : Moves old new (length (parts_tokens label) + 1)
  pub takes : (depth : ℕ) → depth ≤ NESTING → Takes old new (nested_at depth first_part ∷ []) []

abbrev pub FailsParts : Cursor → ParseError → Type 0
FailsParts old error = (depth : ℕ) → depth ≤ NESTING → Fails old (nested_at depth first_part ∷ []) error

pub record ReadsLabel (old new : Cursor) (draft : LabelDraft) : Type 0 where
  pub label : LabelPhrase
  pub trust_is_last : TrustIsLast label
  pub written : kinds old.rest.now ≡ label_then label (kinds new.rest.now)
  pub draft_is : label_shape draft ≡ label_at old.at label
  pub moves : Moves old new (label_width label)
  pub takes : (depth : ℕ) → depth ≤ NESTING → Takes old new (nested_at depth due.label ∷ []) []

abbrev pub FailsLabel : Cursor → ParseError → Type 0
FailsLabel old error = (depth : ℕ) → depth ≤ NESTING → Fails old (nested_at depth due.label ∷ []) error

-- ---- expressions

-- The operand of operators below the least level stands with so many constructs around it. With the signs before it, if
-- any, these are the inner ones.
abbrev pub operand_due : Closing → ℕ → ℕ → List Nested
operand_due closing depth inner = record { due = operand closing; depth = depth; inner = inner } ∷ []

abbrev pub links_due : Closing → ℕ → List Nested
links_due closing depth = nested_at depth (links closing) ∷ []

-- no operator of this level or a tighter one is next
abbrev pub StopsAt : ℕ → Cursor → Type 0
StopsAt least cursor =
    (operator : BinOp) → IsNextSymbol cursor (operator_symbol operator) → operator_level operator < least

pub record ReadsExpr (old new : Cursor) (least depth inner : ℕ) (draft : ExprDraft) : Type 0 where
  pub expr : ExprPhrase
  pub grouped : IsGrouped expr
  pub tight : least ≤ level expr
  pub written : kinds old.rest.now ≡ expr_then expr (kinds new.rest.now)
  pub draft_is : expr_shape draft ≡ expr_at old.at expr
  pub moves : Moves old new (expr_width expr)
  pub stops : StopsAt least new
  pub takes : (closing : Closing) → Takes old new (operand_due closing depth inner) (links_due closing depth)

abbrev pub FailsExpr : Cursor → ℕ → ℕ → ParseError → Type 0
FailsExpr old depth inner error = (closing : Closing) → Fails old (operand_due closing depth inner) error

abbrev pub closing_of : Ending → Closing
closing_of ending.Semicolon = due.at_semicolon
closing_of ending.Comma = due.at_comma
closing_of ending.Bracket = due.at_bracket
closing_of ending.Parenthesis = due.at_parenthesis

abbrev pub closing_symbol : Closing → symbols.Symbol
closing_symbol due.at_semicolon = Semicolon
closing_symbol due.at_comma = Comma
closing_symbol due.at_bracket = RightBracket
closing_symbol due.at_parenthesis = RightParenthesis
closing_symbol due.at_argument = RightParenthesis

-- an expression, and the symbol that ends it
pub record ReadsUpTo (old new : Cursor) (closing : Closing) (depth : ℕ) (draft : ExprDraft) : Type 0 where
  pub expr : ExprPhrase
  pub grouped : IsGrouped expr
  pub written : kinds old.rest.now ≡ expr_then expr (symbol (closing_symbol closing) ∷ kinds new.rest.now)
  pub draft_is : expr_shape draft ≡ expr_at old.at expr
  pub moves : Moves old new (expr_width expr + 1)
  pub takes : Takes old new (operand_due closing depth depth) []

abbrev pub FailsUpTo : Cursor → Closing → ℕ → ParseError → Type 0
FailsUpTo old closing depth error = Fails old (operand_due closing depth depth) error

-- arguments, and the parenthesis behind them
pub record ReadsArgs (old new : Cursor) (depth : ℕ) (drafts : List ExprDraft) : Type 0 where
  pub args : List ExprPhrase
  pub grouped : AreGrouped args
  pub written : kinds old.rest.now ≡ args_then args (symbol RightParenthesis ∷ kinds new.rest.now)
  pub drafts_are : map expr_shape drafts ≡ args_at old.at args
  pub moves : Moves old new (length (args_spelling 0 args) + 1)
  pub takes : Takes old new (nested_at depth due.args ∷ []) []

abbrev pub FailsArgs : Cursor → ℕ → ParseError → Type 0
FailsArgs old depth error = Fails old (nested_at depth due.args ∷ []) error
