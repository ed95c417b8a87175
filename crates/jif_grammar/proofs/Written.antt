-- What is written for what is due: the tokens that may come, before the rest.
use Rattle.std.proofs.Common.{◌≡◌, ◌⊎◌, ℕ, suc, Bool, pos, List, [], ◌∷◌, Option, refl}
use Rattle.jif_lex.specs.declared.token.TokenKind.{TokenKind}
use Rattle.jif_lex.specs.declared.token.TokenKind.TheVariants.{Name, Number, Word}
use Rattle.jif_lex.specs.declared.token.Symbol.TheVariants as symbols
use Rattle.jif_lex.specs.declared.token.Word.TheVariants as words
use Rattle.label_lattice.specs.Written.{Part, symbol, TrustIsLast}
use Rattle.jif_grammar.specs.Phrases.{LabelPhrase, ExprPhrase, BlockPhrase, FieldEnd, ParamPhrase, MethodPhrase}
use Rattle.jif_grammar.specs.Phrases.{ProgramPhrase}
use Rattle.jif_grammar.specs.Grouping.{IsGrouped, AreGrouped, IsBlock, IsOptionalLabel, IsFieldEnd, AreParams, IsResult}
use Rattle.jif_grammar.specs.Grouping.{IsProgram}
use Rattle.jif_grammar.specs.Due as due
use Rattle.jif_grammar.specs.Due.{Due, Closing, Place, fixed_symbol}
use Rattle.jif_grammar.specs.Unmarked.{joined_then, name_then, names_then, part_then, label_then, expr_then}
use Rattle.jif_grammar.specs.Unmarked.{args_then, optional_label_then, block_then, sign_then, field_end_then}
use Rattle.jif_grammar.specs.Unmarked.{param_then, params_then, authority_then, result_then, tail_then, program_then}
use Rattle.jif_grammar.proofs.OneJoined.{Each}
use Rattle.jif_grammar.proofs.Groups.{Link}
use Rattle.jif_grammar.proofs.OneExpr.{links_then, IsSoundOperand}

-- ---- parts of phrases

-- more items, each behind a separator
abbrev pub more_then : {X : Type 0} → TokenKind → (X → List TokenKind → List TokenKind) → List X →
    List TokenKind → List TokenKind
more_then separator item_then [] rest = rest
more_then separator item_then (item ∷ items) rest = separator ∷ joined_then separator item_then (item ∷ items) rest

pub joined_more : {X : Type 0} (separator : TokenKind) (item_then : X → List TokenKind → List TokenKind) (item : X)
    (items : List X) (rest : List TokenKind) →
    joined_then separator item_then (item ∷ items) rest ≡ item_then item (more_then separator item_then items rest)
joined_more separator item_then item [] rest = refl
joined_more separator item_then item (next ∷ items) rest = refl

abbrev pub more_names : List (List ℕ) → List TokenKind → List TokenKind
more_names names rest = more_then (symbol symbols.Comma) name_then names rest

-- more parts, and the brace
abbrev pub more_parts : LabelPhrase → List TokenKind → List TokenKind
more_parts parts rest = more_then (symbol symbols.Semicolon) part_then parts (symbol symbols.RightBrace ∷ rest)

-- more arguments, and the parenthesis
abbrev pub more_args : List ExprPhrase → List TokenKind → List TokenKind
more_args args rest = more_then (symbol symbols.Comma) expr_then args (symbol symbols.RightParenthesis ∷ rest)

abbrev pub more_params : List ParamPhrase → List TokenKind → List TokenKind
more_params params rest = more_then (symbol symbols.Comma) param_then params (symbol symbols.RightParenthesis ∷ rest)

-- ---- expressions

abbrev pub Closes : Closing → List TokenKind → List TokenKind → Type 0
Closes due.at_semicolon x rest = x ≡ symbol symbols.Semicolon ∷ rest
Closes due.at_comma x rest = x ≡ symbol symbols.Comma ∷ rest
Closes due.at_bracket x rest = x ≡ symbol symbols.RightBracket ∷ rest
Closes due.at_parenthesis x rest = x ≡ symbol symbols.RightParenthesis ∷ rest
Closes due.at_argument x rest = (args : List ExprPhrase) × AreGrouped args × (x ≡ more_args args rest)

pub record WrittenLinks (closing : Closing) (tokens rest : List TokenKind) : Type 0 where
  pub links : List Link
  pub sound : Each (λ l. IsSoundOperand l.operand) links
  pub behind : List TokenKind
  pub closes : Closes closing behind rest
  pub written : tokens ≡ links_then links behind

pub record WrittenExpr (closing : Closing) (tokens rest : List TokenKind) : Type 0 where
  pub expr : ExprPhrase
  pub sound : IsGrouped expr
  pub behind : List TokenKind
  pub closes : Closes closing behind rest
  pub written : tokens ≡ expr_then expr behind

pub record WrittenIndex (closing : Closing) (tokens rest : List TokenKind) : Type 0 where
  pub index : ExprPhrase
  pub sound : IsGrouped index
  pub behind : List TokenKind
  pub links : WrittenLinks closing behind rest
  pub written : tokens ≡ symbol symbols.LeftBracket ∷ expr_then index (symbol symbols.RightBracket ∷ behind)

abbrev pub WrittenAfterName : Closing → List TokenKind → List TokenKind → Type 0
WrittenAfterName closing tokens rest = WrittenLinks closing tokens rest ⊎ WrittenIndex closing tokens rest

-- ---- statements

pub record WrittenCall (tokens rest : List TokenKind) : Type 0 where
  pub args : List ExprPhrase
  pub sound : AreGrouped args
  pub written : tokens
      ≡ symbol symbols.LeftParenthesis
      ∷ args_then args (symbol symbols.RightParenthesis ∷ symbol symbols.Semicolon ∷ rest)

pub record WrittenCalled (tokens rest : List TokenKind) : Type 0 where
  pub name : List ℕ
  pub behind : List TokenKind
  pub call : WrittenCall behind rest
  pub written : tokens ≡ Name name ∷ behind

abbrev pub WrittenValue : List TokenKind → List TokenKind → Type 0
WrittenValue tokens rest = WrittenExpr due.at_semicolon tokens rest ⊎ WrittenCalled tokens rest

pub record WrittenAssigned (tokens rest : List TokenKind) : Type 0 where
  pub behind : List TokenKind
  pub value : WrittenValue behind rest
  pub written : tokens ≡ symbol symbols.Assign ∷ behind

-- `=` and a value
pub record WrittenSet (tokens rest : List TokenKind) : Type 0 where
  pub value : ExprPhrase
  pub sound : IsGrouped value
  pub written : tokens ≡ symbol symbols.Assign ∷ expr_then value (symbol symbols.Semicolon ∷ rest)

pub record WrittenElement (tokens rest : List TokenKind) : Type 0 where
  pub index : ExprPhrase
  pub sound : IsGrouped index
  pub behind : List TokenKind
  pub set : WrittenSet behind rest
  pub written : tokens ≡ symbol symbols.LeftBracket ∷ expr_then index (symbol symbols.RightBracket ∷ behind)

pub record WrittenLocal (tokens rest : List TokenKind) : Type 0 where
  pub label : Option LabelPhrase
  pub name : List ℕ
  pub label_sound : IsOptionalLabel label
  pub behind : List TokenKind
  pub set : WrittenSet behind rest
  pub written : tokens ≡ optional_label_then label (Name name ∷ behind)

abbrev pub EndsAt : Place → List TokenKind → List TokenKind → Type 0
EndsAt due.nested x rest = x ≡ symbol symbols.RightBrace ∷ rest
EndsAt due.body x rest =
    (result : Option ExprPhrase) × IsResult result × (x ≡ result_then result (symbol symbols.RightBrace ∷ rest))

pub record WrittenBlock (place : Place) (tokens rest : List TokenKind) : Type 0 where
  pub block : BlockPhrase
  pub sound : IsBlock block
  pub behind : List TokenKind
  pub ends : EndsAt place behind rest
  pub written : tokens ≡ block_then block behind

pub record WrittenElse (place : Place) (tokens rest : List TokenKind) : Type 0 where
  pub second : BlockPhrase
  pub sound : IsBlock second
  pub behind : List TokenKind
  pub more : WrittenBlock place behind rest
  pub written : tokens
      ≡ Word words.Else ∷ symbol symbols.LeftBrace ∷ block_then second (symbol symbols.RightBrace ∷ behind)

-- ---- fields and methods

-- from the parentheses of a method to its end
pub record WrittenTail (tokens rest : List TokenKind) : Type 0 where
  pub phrase : MethodPhrase
  pub params : AreParams phrase.params
  pub body : IsBlock phrase.body
  pub result : IsResult phrase.result
  pub written : tokens ≡ tail_then phrase rest

pub record WrittenBegin (tokens rest : List TokenKind) : Type 0 where
  pub begin : LabelPhrase
  pub sound : TrustIsLast begin
  pub behind : List TokenKind
  pub tail : WrittenTail behind rest
  pub written : tokens ≡ label_then begin behind

-- ---- what is due

abbrev pub Written : Due → List TokenKind → List TokenKind → Type 0
Written (due.exactly fixed) tokens rest = tokens ≡ symbol (fixed_symbol fixed) ∷ rest
Written due.int_word tokens rest = tokens ≡ Word words.Int ∷ rest
Written due.authority_word tokens rest = tokens ≡ Word words.Authority ∷ rest
Written due.a_name tokens rest = (name : List ℕ) × (tokens ≡ Name name ∷ rest)
Written due.a_number tokens rest = (n : ℕ) × (tokens ≡ Number (pos n) ∷ rest)
Written due.a_size tokens rest = (n : ℕ) × (tokens ≡ Number (pos (suc n)) ∷ rest)
Written due.after_name tokens rest =
    ((ending : FieldEnd) × IsFieldEnd ending × (tokens ≡ field_end_then ending rest)) ⊎ WrittenBegin tokens rest
Written due.first_value tokens rest =
    (negative : Bool) × (n : ℕ)
    × (tokens ≡ sign_then negative (Number (pos n) ∷ symbol symbols.Semicolon ∷ rest))
Written due.label tokens rest = (label : LabelPhrase) × TrustIsLast label × (tokens ≡ label_then label rest)
Written due.first_part tokens rest =
    (label : LabelPhrase) × TrustIsLast label
    × (tokens ≡ joined_then (symbol symbols.Semicolon) part_then label (symbol symbols.RightBrace ∷ rest))
Written due.a_part tokens rest =
    (part : Part) × (parts : LabelPhrase) × TrustIsLast (part ∷ parts)
    × (tokens ≡ joined_then (symbol symbols.Semicolon) part_then (part ∷ parts) (symbol symbols.RightBrace ∷ rest))
Written due.readers tokens rest =
    (names : List (List ℕ)) × (parts : LabelPhrase) × TrustIsLast parts
    × (tokens ≡ names_then names (more_parts parts rest))
Written due.after_reader tokens rest =
    (names : List (List ℕ)) × (parts : LabelPhrase) × TrustIsLast parts
    × (tokens ≡ more_names names (more_parts parts rest))
Written due.members tokens rest =
    (names : List (List ℕ)) × (tokens ≡ names_then names (symbol symbols.RightBrace ∷ rest))
Written due.after_member tokens rest =
    (names : List (List ℕ)) × (tokens ≡ more_names names (symbol symbols.RightBrace ∷ rest))
Written due.params tokens rest =
    (params : List ParamPhrase) × AreParams params
    × (tokens ≡ params_then params (symbol symbols.RightParenthesis ∷ rest))
Written due.after_param tokens rest =
    (params : List ParamPhrase) × AreParams params × (tokens ≡ more_params params rest)
Written due.authority tokens rest =
    (names : List (List ℕ)) × (tokens ≡ authority_then names (symbol symbols.LeftBrace ∷ rest))
Written due.after_principal tokens rest =
    (names : List (List ℕ))
    × (tokens ≡ more_names names (symbol symbols.RightParenthesis ∷ symbol symbols.LeftBrace ∷ rest))
Written (due.statements place) tokens rest = WrittenBlock place tokens rest
Written (due.otherwise place) tokens rest = WrittenElse place tokens rest ⊎ WrittenBlock place tokens rest
Written due.after_int tokens rest = WrittenLocal tokens rest
Written due.after_first_name tokens rest =
    WrittenAssigned tokens rest ⊎ WrittenElement tokens rest ⊎ WrittenCall tokens rest
Written due.value tokens rest = WrittenValue tokens rest
Written due.after_value_name tokens rest = WrittenAfterName due.at_semicolon tokens rest ⊎ WrittenCall tokens rest
Written due.args tokens rest =
    (args : List ExprPhrase) × AreGrouped args × (tokens ≡ args_then args (symbol symbols.RightParenthesis ∷ rest))
Written (due.operand closing) tokens rest = WrittenExpr closing tokens rest
Written (due.after_operand_name closing) tokens rest = WrittenAfterName closing tokens rest
Written (due.links closing) tokens rest = WrittenLinks closing tokens rest

-- what is written for all that is due
abbrev pub AreWritten : List Due → List TokenKind → List TokenKind → Type 0
AreWritten [] tokens rest = tokens ≡ rest
AreWritten (first ∷ later) tokens rest =
    (between : List TokenKind) × Written first tokens between × AreWritten later between rest

-- what is due, and then the fields and methods that are left
pub record WrittenFrom (first : List Due) (tokens : List TokenKind) : Type 0 where
  pub behind : List TokenKind
  pub written : AreWritten first tokens behind
  pub items : ProgramPhrase
  pub sound : IsProgram items
  pub is : behind ≡ program_then items []
