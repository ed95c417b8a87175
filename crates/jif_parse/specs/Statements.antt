-- Reading statements: which they were, which drafts they are, and what they take away of what was due.
use Rattle.std.specs.Prelude.{◌≡◌, ◌<◌, ◌≤◌, ◌+◌, ℕ, suc, List, [], ◌∷◌, ◌++◌, map}
use Rattle.std.specs.Prelude.{length, get_or, Option, ⊤}
use Rattle.std.specs.Option.{option_map}
use Rattle.js_base.specs.declared.limits.TheConstants.{NESTING}
use Rattle.jif_lex.specs.declared.token.TokenKind.{TokenKind}
use Rattle.jif_lex.specs.declared.token.TokenKind.TheVariants.{Name, Word}
use Rattle.jif_lex.specs.declared.token.Symbol.TheVariants.{LeftBrace, RightBrace, LeftParenthesis, RightParenthesis}
use Rattle.jif_lex.specs.declared.token.Symbol.TheVariants.{RightBracket, Assign, Semicolon}
use Rattle.jif_lex.specs.declared.token.Word.TheVariants.{Int, If, While}
use Rattle.jif_tree.specs.declared.draft.ExprDraft.{ExprDraft}
use Rattle.jif_tree.specs.declared.draft.LabelDraft.{LabelDraft}
use Rattle.jif_tree.specs.declared.draft.NameDraft.{NameDraft}
use Rattle.jif_tree.specs.declared.draft.StmtDraft.{StmtDraft}
use Rattle.jif_tree.specs.declared.draft.StmtKindDraft.{StmtKindDraft}
use Rattle.label_lattice.specs.Written.{kinds, symbol}
use Rattle.jif_grammar.specs.Phrases.{LabelPhrase, ExprPhrase, BlockPhrase}
use Rattle.jif_grammar.specs.Grouping.{IsGrouped, AreGrouped, IsOptionalLabel, IsBlock}
use Rattle.jif_grammar.specs.Due as due
use Rattle.jif_grammar.specs.Due.{Place, exactly, operand, at_semicolon, at_bracket, at_parenthesis}
use Rattle.jif_grammar.specs.Nesting.{Nested, nested_at}
use Rattle.jif_grammar.specs.Spelling.{args_spelling, optional_label_spelling}
use Rattle.jif_grammar.specs.DraftShapes.{expr_shape, label_shape, name_shape, BlockShape, end_shape, statement_shape}
use Rattle.jif_grammar.specs.DraftShapes.{block_shape}
use Rattle.jif_grammar.specs.Drafts.{expr_at, expr_width, name_at, args_at, optional_label_at, start_at, block_at}
use Rattle.jif_grammar.specs.Drafts.{block_width}
use Rattle.jif_grammar.specs.Unmarked.{expr_then, args_then, optional_label_then, block_then}
use Rattle.jif_parse.specs.declared.cursor.Cursor.{Cursor}
use Rattle.jif_parse.specs.declared.parse_error.ParseError.{ParseError}
use Rattle.jif_parse.specs.Reading.{IsNextKind, Moves, Takes, Fails}

-- these are the lines of the tokens that are left
abbrev pub HasLines : (ℕ → ℕ) → Cursor → Type 0
HasLines lines cursor =
    (k : ℕ) → get_or (map (λ token. token.line) cursor.rest.now) k 0 ≡ lines (cursor.at + k)

abbrev pub StartsStatement : TokenKind → Type 0
StartsStatement (Name name) = ⊤
StartsStatement (Word Int) = ⊤
StartsStatement (Word If) = ⊤
StartsStatement (Word While) = ⊤
StartsStatement kind = ⊥

-- a statement begins with the next token
abbrev pub BeginsStatement : Cursor → Type 0
BeginsStatement cursor = (kind : TokenKind) × IsNextKind cursor kind × StartsStatement kind

abbrev pub statements_due : Place → ℕ → List Nested
statements_due place depth = nested_at depth (due.statements place) ∷ []

-- ---- what stands behind the first tokens of a statement

-- the label and the name of a local
pub record ReadsLocalName (old new : Cursor) (label_draft : Option LabelDraft) (draft : NameDraft) : Type 0 where
  pub label : Option LabelPhrase
  pub name : List ℕ
  pub sound : IsOptionalLabel label
  pub written : kinds old.rest.now ≡ optional_label_then label (Name name ∷ kinds new.rest.now)
  pub label_is : option_map label_shape label_draft ≡ optional_label_at old.at label
  pub name_is : name_shape draft ≡ name_at (old.at + length (optional_label_spelling 0 label)) name
  pub moves : Moves old new (length (optional_label_spelling 0 label) + 1)
  pub takes : (depth : ℕ) → depth ≤ NESTING → Takes old new (nested_at depth due.after_int ∷ [])
      (nested_at depth (exactly due.assign) ∷ nested_at depth (operand at_semicolon) ∷ [])

abbrev pub FailsLocalName : Cursor → ParseError → Type 0
FailsLocalName old error = (depth : ℕ) → depth ≤ NESTING →
    Fails old (nested_at depth due.after_int ∷ []) error

-- a name and a parenthesis are next
abbrev pub IsCallNext : Cursor → List ℕ → Type 0
IsCallNext cursor name =
    (rest : List TokenKind) × (kinds cursor.rest.now ≡ Name name ∷ symbol LeftParenthesis ∷ rest)

-- What is assigned to this name, behind `=`, up to the semicolon. `block` is the statement with a name before it.
pub record ReadsAssignment (old new : Cursor) (depth : ℕ) (name : NameDraft) (draft : StmtKindDraft) : Type 0 where
  pub block : List ℕ → BlockPhrase
  pub sound : (n : List ℕ) → IsBlock (block n)
  pub written : (n : List ℕ) →
      Name n ∷ symbol Assign ∷ kinds old.rest.now ≡ block_then (block n) (kinds new.rest.now)
  pub draft_is : (lines : ℕ → ℕ) (at : ℕ) (n : List ℕ) (behind : BlockShape) → at + 2 ≡ old.at →
      name_shape name ≡ name_at at n →
      statement_shape draft (start_at lines at) behind ≡ block_at lines at (block n) behind
  pub count : ℕ
  pub moves : Moves old new count
  pub width : (n : List ℕ) → block_width (block n) ≡ count + 2
  pub takes : Takes old new (nested_at depth due.value ∷ []) []

abbrev pub FailsAssignment : Cursor → ℕ → ParseError → Type 0
FailsAssignment old depth error = Fails old (nested_at depth due.value ∷ []) error

-- arguments, their parenthesis and the semicolon
pub record ReadsCall (old new : Cursor) (depth : ℕ) (drafts : List ExprDraft) : Type 0 where
  pub args : List ExprPhrase
  pub grouped : AreGrouped args
  pub written : kinds old.rest.now
      ≡ args_then args (symbol RightParenthesis ∷ symbol Semicolon ∷ kinds new.rest.now)
  pub drafts_are : map expr_shape drafts ≡ args_at old.at args
  pub moves : Moves old new (length (args_spelling 0 args) + 2)
  pub takes : Takes old new (nested_at depth due.args ∷ nested_at depth (exactly due.semicolon) ∷ []) []

abbrev pub FailsCall : Cursor → ℕ → ParseError → Type 0
FailsCall old depth error =
    Fails old (nested_at depth due.args ∷ nested_at depth (exactly due.semicolon) ∷ []) error

-- an index behind its bracket, and the value that is assigned there
abbrev pub element_due : ℕ → List Nested
element_due depth =
    nested_at depth (operand at_bracket) ∷ nested_at depth (exactly due.assign)
    ∷ nested_at depth (operand at_semicolon) ∷ []

pub record ReadsElement (old new : Cursor) (depth : ℕ) (index_draft draft : ExprDraft) : Type 0 where
  pub index : ExprPhrase
  pub expr : ExprPhrase
  pub index_grouped : IsGrouped index
  pub grouped : IsGrouped expr
  pub written : kinds old.rest.now ≡ expr_then index (symbol RightBracket ∷ symbol Assign
      ∷ expr_then expr (symbol Semicolon ∷ kinds new.rest.now))
  pub index_is : expr_shape index_draft ≡ expr_at old.at index
  pub draft_is : expr_shape draft ≡ expr_at (old.at + 2 + expr_width index) expr
  pub moves : Moves old new (expr_width index + expr_width expr + 3)
  pub takes : Takes old new (element_due depth) []

abbrev pub FailsElement : Cursor → ℕ → ParseError → Type 0
FailsElement old depth error = Fails old (element_due depth) error

-- ---- statements

-- one statement
pub record ReadsKind (old new : Cursor) (depth : ℕ) (draft : StmtKindDraft) : Type 0 where
  pub block : BlockPhrase
  pub some : 0 < block_width block
  pub sound : IsBlock block
  pub written : kinds old.rest.now ≡ block_then block (kinds new.rest.now)
  pub draft_is : (lines : ℕ → ℕ) → HasLines lines old → (behind : BlockShape) →
      statement_shape draft (start_at lines old.at) behind ≡ block_at lines old.at block behind
  pub moves : Moves old new (block_width block)
  pub takes : (place : Place) → Takes old new (statements_due place depth) (statements_due place depth)

pub record ReadsStatement (old new : Cursor) (depth : ℕ) (draft : StmtDraft) : Type 0 where
  pub at : draft.at ≡ old.at
  pub line : (lines : ℕ → ℕ) → HasLines lines old → draft.line ≡ lines old.at
  pub kind : ReadsKind old new depth draft.kind

abbrev pub FailsStatement : Cursor → ℕ → ParseError → Type 0
FailsStatement old depth error = (place : Place) → Fails old (statements_due place depth) error

-- statements, as many as there are
pub record ReadsStatements (old new : Cursor) (depth : ℕ) (drafts : List StmtDraft) : Type 0 where
  pub block : BlockPhrase
  pub sound : IsBlock block
  pub written : kinds old.rest.now ≡ block_then block (kinds new.rest.now)
  pub drafts_are : (lines : ℕ → ℕ) → HasLines lines old → (behind : List StmtDraft) →
      block_shape (drafts ++ behind) ≡ block_at lines old.at block (block_shape behind)
  pub moves : Moves old new (block_width block)
  pub ends : ¬ BeginsStatement new
  pub takes : (place : Place) → Takes old new (statements_due place depth) (statements_due place depth)

-- ---- nested blocks

abbrev pub braced_due : ℕ → List Nested
braced_due depth = nested_at depth (exactly due.left_brace) ∷ nested_at depth (due.statements due.nested) ∷ []

-- a nested block with its braces
pub record ReadsBraced (old new : Cursor) (depth : ℕ) (drafts : List StmtDraft) : Type 0 where
  pub block : BlockPhrase
  pub sound : IsBlock block
  pub written : kinds old.rest.now ≡ symbol LeftBrace ∷ block_then block (symbol RightBrace ∷ kinds new.rest.now)
  pub drafts_are : (lines : ℕ → ℕ) → HasLines lines old →
      block_shape drafts ≡ block_at lines (old.at + 1) block end_shape
  pub moves : Moves old new (block_width block + 2)
  pub takes : Takes old new (braced_due depth) []

abbrev pub FailsBraced : Cursor → ℕ → ParseError → Type 0
FailsBraced old depth error = Fails old (braced_due depth) error

abbrev pub guarded_due : ℕ → List Nested
guarded_due depth =
    nested_at depth (exactly due.left_parenthesis) ∷ nested_at depth (operand at_parenthesis)
    ∷ nested_at (suc depth) (exactly due.left_brace) ∷ nested_at (suc depth) (due.statements due.nested) ∷ []

-- a guard, and the nested block behind it
pub record ReadsGuarded (old new : Cursor) (depth : ℕ) (draft : ExprDraft) (drafts : List StmtDraft) : Type 0 where
  pub guard : ExprPhrase
  pub block : BlockPhrase
  pub grouped : IsGrouped guard
  pub sound : IsBlock block
  pub written : kinds old.rest.now ≡ symbol LeftParenthesis ∷ expr_then guard (symbol RightParenthesis
      ∷ symbol LeftBrace ∷ block_then block (symbol RightBrace ∷ kinds new.rest.now))
  pub guard_is : expr_shape draft ≡ expr_at (old.at + 1) guard
  pub drafts_are : (lines : ℕ → ℕ) → HasLines lines old →
      block_shape drafts ≡ block_at lines (old.at + 3 + expr_width guard) block end_shape
  pub moves : Moves old new (expr_width guard + block_width block + 4)
  pub takes : Takes old new (guarded_due depth) []

abbrev pub FailsGuarded : Cursor → ℕ → ParseError → Type 0
FailsGuarded old depth error = Fails old (guarded_due depth) error
