-- Reading methods.
use Rattle.std.specs.Prelude.{◌≡◌, ◌+◌, ℕ, List, [], ◌∷◌, map, length, Option, Some}
use Rattle.jif_lex.specs.declared.token.TokenKind.TheVariants.{Name}
use Rattle.jif_lex.specs.declared.token.Symbol.TheVariants.{LeftBrace, RightBrace, LeftParenthesis, RightParenthesis}
use Rattle.jif_tree.specs.declared.draft.LabelDraft.{LabelDraft}
use Rattle.jif_tree.specs.declared.draft.NameDraft.{NameDraft}
use Rattle.jif_tree.specs.declared.draft.ParamDraft.{ParamDraft}
use Rattle.jif_tree.specs.declared.draft.StmtDraft.{StmtDraft}
use Rattle.label_lattice.specs.Written.{kinds, symbol, TrustIsLast}
use Rattle.jif_grammar.specs.Phrases.{LabelPhrase, ExprPhrase, BlockPhrase, ParamPhrase}
use Rattle.jif_grammar.specs.Grouping.{AreParams, IsBlock, IsResult, IsGrouped}
use Rattle.jif_grammar.specs.Due as due
use Rattle.jif_grammar.specs.Due.{exactly}
use Rattle.jif_grammar.specs.Nesting.{Nested, nested_at, nested_all}
use Rattle.jif_grammar.specs.Spelling.{param_spelling, params_spelling, authority_spelling, result_spelling}
use Rattle.jif_grammar.specs.DraftShapes.{label_shape, name_shape, param_shape, block_shape}
use Rattle.jif_grammar.specs.Drafts.{label_at, label_width, name_at, names_at, params_at, block_at, block_width}
use Rattle.jif_grammar.specs.Drafts.{result_at}
use Rattle.jif_grammar.specs.Unmarked.{label_then, param_then, params_then, authority_then, block_then, result_then}
use Rattle.jif_parse.specs.declared.cursor.Cursor.{Cursor}
use Rattle.jif_parse.specs.declared.methods.MethodTail.{MethodTail}
use Rattle.jif_parse.specs.declared.parse_error.ParseError.{ParseError}
use Rattle.jif_parse.specs.Reading.{Moves, Takes, Fails, IsNextSymbol}
use Rattle.jif_parse.specs.Statements.{HasLines, statements_due}

-- ---- parameters

-- a label and the name behind it
abbrev pub named_due : List Nested
named_due = nested_at 0 due.label ∷ nested_at 0 due.a_name ∷ []

pub record ReadsNamed (old new : Cursor) (label_draft : LabelDraft) (draft : NameDraft) : Type 0 where
  pub label : LabelPhrase
  pub name : List ℕ
  pub sound : TrustIsLast label
  pub written : kinds old.rest.now ≡ label_then label (Name name ∷ kinds new.rest.now)
  pub label_is : label_shape label_draft ≡ label_at old.at label
  pub name_is : name_shape draft ≡ name_at (old.at + label_width label) name
  pub moves : Moves old new (label_width label + 1)
  pub takes : Takes old new named_due []

abbrev pub FailsNamed : Cursor → ParseError → Type 0
FailsNamed old error = Fails old named_due error

-- A parameter is the first, or one behind a comma.
abbrev pub next_param_due : List Nested
next_param_due = nested_at 0 due.int_word ∷ named_due

abbrev pub after_param_due : List Nested
after_param_due = nested_at 0 due.after_param ∷ []

pub record ReadsParam (old new : Cursor) (draft : ParamDraft) : Type 0 where
  pub param : ParamPhrase
  pub sound : TrustIsLast param.label
  pub written : kinds old.rest.now ≡ param_then param (kinds new.rest.now)
  pub draft_is : param_shape draft ≡ record {
    label = label_at (old.at + 1) param.label;
    name = name_at (old.at + 1 + label_width param.label) param.name;
  }
  pub moves : Moves old new (length (param_spelling param))
  pub takes_first : Takes old new (nested_at 0 due.params ∷ []) after_param_due
  pub takes_next : Takes old new next_param_due []

pub record FailsParam (old : Cursor) (error : ParseError) : Type 0 where
  pub first : ¬ IsNextSymbol old RightParenthesis → Fails old (nested_at 0 due.params ∷ []) error
  pub next : Fails old next_param_due error

-- parameters, and the parenthesis behind them
pub record ReadsParams (old new : Cursor) (drafts : List ParamDraft) : Type 0 where
  pub params : List ParamPhrase
  pub sound : AreParams params
  pub written : kinds old.rest.now ≡ params_then params (symbol RightParenthesis ∷ kinds new.rest.now)
  pub drafts_are : map param_shape drafts ≡ params_at old.at params
  pub moves : Moves old new (length (params_spelling params) + 1)
  pub takes : Takes old new (nested_at 0 due.params ∷ []) []

abbrev pub FailsParams : Cursor → ParseError → Type 0
FailsParams old error = Fails old (nested_at 0 due.params ∷ []) error

-- ---- authority

-- the authority, and the brace behind it
pub record ReadsAuthority (old new : Cursor) (drafts : List NameDraft) : Type 0 where
  pub names : List (List ℕ)
  pub written : kinds old.rest.now ≡ authority_then names (symbol LeftBrace ∷ kinds new.rest.now)
  pub drafts_are : map name_shape drafts ≡ names_at (old.at + 3) names
  pub moves : Moves old new (length (authority_spelling names) + 1)
  pub takes : Takes old new (nested_at 0 due.authority ∷ []) []

abbrev pub FailsAuthority : Cursor → ParseError → Type 0
FailsAuthority old error = Fails old (nested_at 0 due.authority ∷ []) error

-- ---- bodies

-- a `return`, and the brace behind it
pub record ReadsReturn (old new : Cursor) (draft : StmtDraft) : Type 0 where
  pub value : ExprPhrase
  pub grouped : IsGrouped value
  pub written : kinds old.rest.now ≡ result_then (Some value) (symbol RightBrace ∷ kinds new.rest.now)
  pub draft_is : (lines : ℕ → ℕ) → HasLines lines old →
      block_shape (draft ∷ []) ≡ result_at lines old.at (Some value)
  pub moves : Moves old new (length (result_spelling (Some value)) + 1)
  pub takes : Takes old new (statements_due due.body 0) []

abbrev pub FailsReturn : Cursor → ParseError → Type 0
FailsReturn old error = Fails old (statements_due due.body 0) error

-- statements, a `return` where one stands, and the brace behind them
pub record ReadsBody (old new : Cursor) (drafts : List StmtDraft) : Type 0 where
  pub block : BlockPhrase
  pub result : Option ExprPhrase
  pub sound : IsBlock block
  pub result_sound : IsResult result
  pub written : kinds old.rest.now ≡ block_then block (result_then result (symbol RightBrace ∷ kinds new.rest.now))
  pub drafts_are : (lines : ℕ → ℕ) → HasLines lines old → block_shape drafts
      ≡ block_at lines old.at block (result_at lines (old.at + block_width block) result)
  pub moves : Moves old new (block_width block + length (result_spelling result) + 1)
  pub takes : Takes old new (statements_due due.body 0) []

abbrev pub FailsBody : Cursor → ParseError → Type 0
FailsBody old error = Fails old (statements_due due.body 0) error

-- ---- all that follows the begin label

abbrev pub tail_due : List Nested
tail_due = nested_all 0 [] due.method_rest

pub record ReadsTail (old new : Cursor) (draft : MethodTail) : Type 0 where
  pub params : List ParamPhrase
  pub authority : List (List ℕ)
  pub block : BlockPhrase
  pub result : Option ExprPhrase
  pub params_sound : AreParams params
  pub sound : IsBlock block
  pub result_sound : IsResult result
  pub written : kinds old.rest.now ≡ symbol LeftParenthesis ∷ params_then params (symbol RightParenthesis
      ∷ authority_then authority (symbol LeftBrace
      ∷ block_then block (result_then result (symbol RightBrace ∷ kinds new.rest.now))))
  pub params_are : map param_shape draft.params.items ≡ params_at (old.at + 1) params
  pub authority_is : map name_shape draft.authority.items
      ≡ names_at (old.at + 5 + length (params_spelling params)) authority
  pub body_is : (lines : ℕ → ℕ) → HasLines lines old →
      let place = old.at + 3 + length (params_spelling params) + length (authority_spelling authority) in
      block_shape draft.body.items ≡ block_at lines place block (result_at lines (place + block_width block) result)
  pub moves : Moves old new (length (params_spelling params) + length (authority_spelling authority)
      + block_width block + length (result_spelling result) + 4)
  pub takes : Takes old new tail_due []

abbrev pub FailsTail : Cursor → ParseError → Type 0
FailsTail old error = Fails old tail_due error
