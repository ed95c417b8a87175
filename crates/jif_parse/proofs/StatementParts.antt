-- Statements without blocks, put together from what was read.
use Rattle.std.proofs.Common.{◌≡◌, ◌≤◌, ℕ, ◌+◌, ◌⊎◌, List, [], ◌∷◌, ◌++◌, length, Option, Some, None, refl, ap, sym}
use Rattle.std.proofs.Common.{◌∙◌, arith, Vec, Global, inl, inr, add-zero, length-append}
use Rattle.std.proofs.lemmas.List.{length-map}
use Rattle.js_base.specs.declared.limits.TheConstants.{NESTING}
use Rattle.jif_lex.specs.declared.token.TokenKind.{TokenKind}
use Rattle.jif_lex.specs.declared.token.TokenKind.TheVariants.{Name, Word}
use Rattle.jif_lex.specs.declared.token.TokenKind.TheVariants as token
use Rattle.jif_lex.specs.declared.token.Word.TheVariants.{Int}
use Rattle.jif_lex.specs.declared.token.Symbol.TheVariants.{Semicolon, Assign, LeftBrace, LeftBracket, RightBracket}
use Rattle.jif_lex.specs.declared.token.Symbol.TheVariants.{LeftParenthesis, RightParenthesis, RightBrace}
use Rattle.label_lattice.specs.Written.{kinds, symbol, parts_tokens}
use Rattle.jif_tree.specs.declared.draft.ExprDraft.{ExprDraft}
use Rattle.jif_tree.specs.declared.draft.LabelDraft.{LabelDraft}
use Rattle.jif_tree.specs.declared.draft.NameDraft.{NameDraft}
use Rattle.jif_tree.specs.declared.draft.StmtKindDraft as kind
use Rattle.jif_tree.specs.declared.draft.StmtKindDraft.{StmtKindDraft}
use Rattle.jif_grammar.specs.Phrases as phrases
use Rattle.jif_grammar.specs.Phrases.{LabelPhrase, ExprPhrase}
use Rattle.jif_grammar.specs.Due as due
use Rattle.jif_grammar.specs.Due.{Place, exactly, operand, at_semicolon, local_rest, call_rest, due_after_token}
use Rattle.jif_grammar.specs.Marks as marks
use Rattle.jif_grammar.specs.Nesting.{Nested, nested_at, nested_all}
use Rattle.jif_grammar.specs.Spelling.{args_spelling, optional_label_spelling}
use Rattle.jif_grammar.specs.Unmarked.{args_then, expr_then, label_then, optional_label_then}
use Rattle.jif_grammar.specs.Drafts.{expr_at, expr_width, args_at, name_at, label_width, policies_at, trust_at}
use Rattle.jif_grammar.specs.Drafts.{optional_label_at}
use Rattle.jif_grammar.specs.DraftShapes.{name_shape}
use Rattle.jif_parse.specs.declared.cursor.Cursor.{Cursor}
use Rattle.jif_parse.specs.declared.parse_error.ParseError.{ParseError}
use Rattle.jif_parse.specs.declared.parse_error.ParseError.TheVariants as fault
use Rattle.jif_parse.specs.Reading.{behind, IsNextKind, IsNextSymbol, IsNextName, Takes, Counted, IsOver}
use Rattle.jif_parse.specs.Phrases.{PassesSymbol, ReadsName, ReadsArgs, ReadsUpTo, FailsUpTo, ReadsParts, FailsParts}
use Rattle.jif_parse.specs.Statements.{ReadsCall, FailsCall, ReadsElement, FailsElement, element_due, ReadsLocalName}
use Rattle.jif_parse.specs.Statements.{FailsLocalName, ReadsAssignment, FailsAssignment, IsCallNext, ReadsKind}
use Rattle.jif_parse.specs.Statements.{FailsStatement, statements_due}
use Rattle.jif_parse.specs.Widths.{Widths}
use Rattle.jif_parse.proofs.Taking.{takes_then, takes_before, fails_then, fails_before, fails_at_limit, out_of_memory}
use Rattle.jif_parse.proofs.Moving.{moves_then, moves_as, stepped, Stepped, takes_passed, takes_counted, fails_other}
use Rattle.jif_parse.proofs.Moving.{next_kind}
use Rattle.jif_parse.proofs.Fixed.{takes_fixed, fails_fixed, step_symbol, step_name, takes_name, fails_name}
use Rattle.jif_parse.proofs.Values.{value_as_operand}
use Rattle.jif_parse.proofs.Widths.{declaration_width, assignment_width, element_assignment_width, call_width}
use Rattle.jif_parse.proofs.Widths.{call_into_width}

pub call_read : {old middle new : Cursor} {depth : ℕ} {drafts : List ExprDraft} → depth ≤ NESTING →
    ReadsArgs old middle depth drafts → PassesSymbol middle new Semicolon → ReadsCall old new depth drafts
call_read {old} {middle} {new} {depth} {drafts} nested read passed =
    let step = stepped (symbol Semicolon) passed.is_next passed.passes.steps in
    record {
      args = read.args;
      grouped = read.grouped;
      written = read.written ∙ ap (λ ks. args_then read.args (symbol RightParenthesis ∷ ks)) step.is_next;
      drafts_are = read.drafts_are;
      moves = moves_as _ (omega arith) (moves_then read.moves step.moves);
      takes = takes_then (takes_before (nested_at depth (exactly due.semicolon) ∷ []) read.takes)
          (takes_fixed due.semicolon depth nested passed);
    }

pub call_fails : {old middle : Cursor} {depth : ℕ} {drafts : List ExprDraft} {error : ParseError} →
    ReadsArgs old middle depth drafts →
    (error ≡ fault.Unexpected middle.at) × (¬ IsNextSymbol middle Semicolon) → FailsCall old depth error
call_fails {middle = middle} {depth = depth} {error = error} read other =
    fails_then (takes_before (nested_at depth (exactly due.semicolon) ∷ []) read.takes)
    (fails_fixed middle error due.semicolon depth other)

-- ---- an index and a value

-- behind the index
abbrev value_due : ℕ → List Nested
value_due depth = nested_at depth (exactly due.assign) ∷ nested_at depth (operand at_semicolon) ∷ []

pub element_read : {old a b new : Cursor} {depth : ℕ} {index draft : ExprDraft} → depth ≤ NESTING →
    ReadsUpTo old a due.at_bracket depth index → PassesSymbol a b Assign → ReadsUpTo b new at_semicolon depth draft →
    ReadsElement old new depth index draft
element_read {old} {a} {b} {new} {depth} {index} {draft} nested first passed second =
    let step = stepped (symbol Assign) passed.is_next passed.passes.steps in
    let place : b.at ≡ old.at + 2 + expr_width first.expr = omega (arith, first.moves.at, step.moves.at) in
    record {
      index = first.expr;
      expr = second.expr;
      index_grouped = first.grouped;
      grouped = second.grouped;
      written = first.written ∙ ap (λ ks. expr_then first.expr (symbol RightBracket ∷ ks))
          (step.is_next ∙ ap (λ ks. symbol Assign ∷ ks) second.written);
      index_is = first.draft_is;
      draft_is = second.draft_is ∙ ap (λ at. expr_at at second.expr) place;
      moves = moves_as _ (omega arith) (moves_then (moves_then first.moves step.moves) second.moves);
      takes = takes_then (takes_before (value_due depth) first.takes)
          (takes_then (takes_before (nested_at depth (operand at_semicolon) ∷ [])
          (takes_fixed due.assign depth nested passed))
          second.takes);
    }

pub element_fails_at_symbol : {old a : Cursor} {depth : ℕ} {index : ExprDraft} {error : ParseError} →
    ReadsUpTo old a due.at_bracket depth index →
    (error ≡ fault.Unexpected a.at) × (¬ IsNextSymbol a Assign) → FailsElement old depth error
element_fails_at_symbol {a = a} {depth = depth} {error = error} first other =
    fails_then (takes_before (value_due depth) first.takes)
    (fails_before (nested_at depth (operand at_semicolon) ∷ []) (fails_fixed a error due.assign depth other))

pub element_fails_at_value : {old a b : Cursor} {depth : ℕ} {index : ExprDraft} {error : ParseError} →
    depth ≤ NESTING → ReadsUpTo old a due.at_bracket depth index → PassesSymbol a b Assign →
    FailsUpTo b at_semicolon depth error → FailsElement old depth error
element_fails_at_value {depth = depth} nested first passed fails =
    fails_then (takes_then (takes_before (value_due depth) first.takes)
    (takes_before (nested_at depth (operand at_semicolon) ∷ []) (takes_fixed due.assign depth nested passed))) fails

-- ---- the label and the name of a local

-- behind the brace of a label
abbrev named_local_due : ℕ → List Nested
named_local_due depth = nested_all depth [] (due.a_name ∷ local_rest)

pub label_width_is : (label : LabelPhrase) → label_width label ≡ length (parts_tokens label) + 2
label_width_is label =
    let within = parts_tokens label ++ symbol RightBrace ∷ [] in
    omega (arith, length-map within (marks.plain 0), length-append (parts_tokens label) (symbol RightBrace ∷ []))

label_opened : {old a : Cursor} (depth : ℕ) → depth ≤ NESTING → PassesSymbol old a LeftBrace →
    Takes old a (nested_at depth due.after_int ∷ []) (nested_at depth due.first_part ∷ named_local_due depth)
label_opened depth nested opened =
    takes_passed (nested_at depth due.after_int) (symbol LeftBrace) (due.first_part ∷ due.a_name ∷ local_rest) depth
    (step_symbol opened) opened.passes.counts nested refl refl

pub label_fails : {old a : Cursor} {error : ParseError} → PassesSymbol old a LeftBrace → FailsParts a error →
    FailsLocalName old error
label_fails opened fails depth nested =
    fails_then (label_opened depth nested opened) (fails_before (named_local_due depth) (fails depth nested))

pub name_fails : {old a b : Cursor} {label : LabelDraft} {error : ParseError} → PassesSymbol old a LeftBrace →
    ReadsParts a b label →
    (error ≡ fault.OutOfMemory) ⊎ ((error ≡ fault.Unexpected b.at) × ¬ IsNextName b) → FailsLocalName old error
name_fails {b = b} {error = error} opened parts other depth nested =
    fails_then (takes_then (label_opened depth nested opened) (takes_before (named_local_due depth)
    (parts.takes depth nested)))
    (fails_before (nested_all depth [] local_rest) (fails_name b error depth other))

pub labelled_read : {old a b new : Cursor} {label : LabelDraft} {name : NameDraft} →
    PassesSymbol old a LeftBrace → ReadsParts a b label → ReadsName b new name →
    ReadsLocalName old new (Some label) name
labelled_read {old} {a} {b} {new} {label} {name} opened parts read =
    let first = step_symbol opened in
    let last = step_name read in
    let label_is : kinds old.rest.now ≡ label_then parts.label (kinds b.rest.now) =
    first.is_next ∙ ap (λ ks. symbol LeftBrace ∷ ks) parts.written in
    let moved = moves_then first.moves parts.moves in
    let width = label_width_is parts.label in
    let place : b.at ≡ old.at + length (optional_label_spelling 0 (Some parts.label)) =
    omega (arith, moved.at, width) in
    record {
      label = Some parts.label;
      name = read.name;
      sound = parts.trust_is_last;
      written = label_is ∙ ap (λ ks. label_then parts.label ks) last.is_next;
      label_is = ap Some (parts.draft_is
          ∙ ap (λ at. record {
            policies = policies_at at parts.label;
            trust =
                trust_at at parts.label;
          }) first.moves.at);
      name_is = read.draft_is ∙ ap (λ at. name_at at read.name) place;
      moves = moves_as _ (omega (arith, width)) (moves_then moved last.moves);
      takes = λ depth nested. takes_then (takes_then (label_opened depth nested opened)
          (takes_before (named_local_due depth) (parts.takes depth nested)))
          (takes_before (nested_all depth [] local_rest) (takes_name depth nested read));
    }

not_after_int : (old : Cursor) (kind : TokenKind) → ¬ IsNextSymbol old LeftBrace → ¬ IsNextName old →
    IsNextKind old kind → due_after_token due.after_int kind ≡ None
not_after_int old (Name name) no_brace no_name is = absurd (no_name (name, is))
not_after_int old (token.Symbol LeftBrace) no_brace no_name is = absurd (no_brace is)
not_after_int old _ no_brace no_name is = refl

pub bare_name_fails : {old : Cursor} {error : ParseError} → ¬ IsNextSymbol old LeftBrace →
    (error ≡ fault.OutOfMemory) ⊎ ((error ≡ fault.Unexpected old.at) × ¬ IsNextName old) → FailsLocalName old error
bare_name_fails {old} {error} no_brace (inl memory) depth nested =
    out_of_memory old (nested_at depth due.after_int ∷ []) error memory
bare_name_fails {old} {error} no_brace (inr other) depth nested =
    fails_other old error (nested_at depth due.after_int) other.0
    (λ kind is. not_after_int old kind no_brace other.1 is)

pub bare_name_read : {old new : Cursor} {name : NameDraft} → ReadsName old new name → ReadsLocalName old new None name
bare_name_read {old} {new} {name} read =
    let step = step_name read in
    record {
      label = None;
      name = read.name;
      sound = tt;
      written = step.is_next;
      label_is = refl;
      name_is = rw add-zero read.draft_is;
      moves = step.moves;
      takes = λ depth nested. takes_passed (nested_at depth due.after_int) (Name read.name) local_rest depth step
          read.passes.counts nested refl refl;
    }

-- ---- declarations

-- behind the label and the name
abbrev value_of_local_due : Place → ℕ → List Nested
value_of_local_due place depth = nested_all depth [] local_rest ++ statements_due place depth

int_taken : {old a : Cursor} (place : Place) (depth : ℕ) → IsNextKind old (Word Int) → Counted old a depth marks.local →
    Takes old a (statements_due place depth) (nested_at depth due.after_int ∷ statements_due place depth)
int_taken place depth next counted =
    takes_counted (nested_at depth (due.statements place)) (Word Int) (due.after_int ∷ due.statements place ∷ []) depth
    marks.local next counted refl refl

pub local_name_fails : {old a : Cursor} {depth : ℕ} {error : ParseError} → depth ≤ NESTING →
    IsNextKind old (Word Int) → Counted old a depth marks.local → FailsLocalName a error →
    FailsStatement old depth error
local_name_fails {depth = depth} nested next counted fails place =
    fails_then (int_taken place depth next counted) (fails_before (statements_due place depth) (fails depth nested))

name_taken : {old a b : Cursor} {label : Option LabelDraft} {name : NameDraft} (place : Place) (depth : ℕ) →
    depth ≤ NESTING → IsNextKind old (Word Int) → Counted old a depth marks.local → ReadsLocalName a b label name →
    Takes old b (statements_due place depth) (value_of_local_due place depth)
name_taken place depth nested next counted read =
    takes_then (int_taken place depth next counted) (takes_before (statements_due place depth)
    (read.takes depth nested))

pub local_fails_at_symbol : {old a b : Cursor} {label : Option LabelDraft} {name : NameDraft} {depth : ℕ}
    {error : ParseError} → depth ≤ NESTING → IsNextKind old (Word Int) → Counted old a depth marks.local →
    ReadsLocalName a b label name → (error ≡ fault.Unexpected b.at) × (¬ IsNextSymbol b Assign) →
    FailsStatement old depth error
local_fails_at_symbol {b = b} {depth = depth} {error = error} nested next counted read other place =
    fails_then (name_taken place depth nested next counted read)
    (fails_before (nested_at depth (operand at_semicolon) ∷ statements_due place depth)
    (fails_fixed b error due.assign depth other))

symbol_taken : {old a b c : Cursor} {label : Option LabelDraft} {name : NameDraft} (place : Place) (depth : ℕ) →
    depth ≤ NESTING → IsNextKind old (Word Int) → Counted old a depth marks.local → ReadsLocalName a b label name →
    PassesSymbol b c Assign →
    Takes old c (statements_due place depth) (nested_at depth (operand at_semicolon) ∷ statements_due place depth)
symbol_taken place depth nested next counted read passed =
    takes_then (name_taken place depth nested next counted read)
    (takes_before (nested_at depth (operand at_semicolon) ∷ statements_due place depth)
    (takes_fixed due.assign depth nested passed))

pub local_fails_at_value : {old a b c : Cursor} {label : Option LabelDraft} {name : NameDraft} {depth : ℕ}
    {error : ParseError} → depth ≤ NESTING → IsNextKind old (Word Int) → Counted old a depth marks.local →
    ReadsLocalName a b label name → PassesSymbol b c Assign → FailsUpTo c at_semicolon depth error →
    FailsStatement old depth error
local_fails_at_value {depth = depth} nested next counted read passed fails place =
    fails_then (symbol_taken place depth nested next counted read passed)
    (fails_before (statements_due place depth) fails)

pub local_read : {old a b c new : Cursor} {label : Option LabelDraft} {name : NameDraft} {value : ExprDraft}
    {depth : ℕ} →
    Widths → depth ≤ NESTING → IsNextKind old (Word Int) → Counted old a depth marks.local →
    ReadsLocalName a b label name → PassesSymbol b c Assign → ReadsUpTo c new at_semicolon depth value →
    ReadsKind old new depth (kind.Declare label name value)
local_read {old} {a} {b} {c} {new} {label} {name} {value} {depth} w nested next counted read passed up_to =
    let first = stepped (Word Int) next counted.steps in
    let equals = step_symbol passed in
    let width = declaration_width w read.label read.name up_to.expr phrases.end in
    let before = length (optional_label_spelling 0 read.label) in
    let name_place : a.at + before ≡ old.at + 1 + before = omega (arith, first.moves.at) in
    let value_place : c.at ≡ old.at + 1 + before + 2 =
    omega (arith, first.moves.at, read.moves.at, equals.moves.at) in
    let label_is = read.label_is ∙ ap (λ at. optional_label_at at read.label) first.moves.at in
    let name_is = read.name_is ∙ ap (λ at. name_at at read.name) name_place in
    let value_is = up_to.draft_is ∙ ap (λ at. expr_at at up_to.expr) value_place in
    record {
      block = phrases.declaration read.label read.name up_to.expr phrases.end;
      some = omega (arith, width);
      sound = (read.sound, up_to.grouped, tt);
      written = first.is_next ∙ ap (λ ks. Word Int ∷ ks) (read.written
          ∙ ap (λ ks. optional_label_then read.label (Name read.name ∷ ks)) (equals.is_next
          ∙ ap (λ ks. symbol Assign ∷ ks) up_to.written));
      draft_is = λ lines has behind. cc (label_is, name_is, value_is);
      moves = moves_as _ (omega (arith, width))
          (moves_then (moves_then (moves_then first.moves read.moves) equals.moves) up_to.moves);
      takes = λ place. takes_then (symbol_taken place depth nested next counted read passed)
          (takes_before (statements_due place depth) up_to.takes);
    }

-- ---- what is assigned

pub assigned_fails : {old : Cursor} {depth : ℕ} {error : ParseError} → ((name : List ℕ) → ¬ IsCallNext old name) →
    FailsUpTo old at_semicolon depth error → FailsAssignment old depth error
assigned_fails {old} {depth} no_call fails = fails_then (value_as_operand old depth no_call) fails

pub assigned_read : {old new : Cursor} {depth : ℕ} {name : NameDraft} {value : ExprDraft} → Widths →
    ((n : List ℕ) → ¬ IsCallNext old n) → ReadsUpTo old new at_semicolon depth value →
    ReadsAssignment old new depth name (kind.Assign name value)
assigned_read {old} {new} {depth} {name} {value} w no_call read = record {
  block = λ n. phrases.assignment n read.expr phrases.end;
  sound = λ n. (read.grouped, tt);
  written = λ n. ap (λ ks. Name n ∷ symbol Assign ∷ ks) read.written;
  draft_is = λ lines at n behind place name_is.
      let value_is = read.draft_is ∙ ap (λ m. expr_at m read.expr) (sym place) in
      cc (value_is, name_is);
  count = expr_width read.expr + 1;
  moves = read.moves;
  width = λ n. omega (arith, assignment_width w n read.expr phrases.end);
  takes = takes_then (value_as_operand old depth no_call) read.takes;
}

-- the method's name
method_taken : {old a : Cursor} {name : List ℕ} (depth : ℕ) → IsCallNext old name → Counted old a depth marks.node →
    Takes old a (nested_at depth due.value ∷ []) (nested_at depth due.after_value_name ∷ [])
method_taken {old} {name = name} depth next counted =
    takes_counted (nested_at depth due.value) (Name name) (due.after_value_name ∷ []) depth marks.node
    (next_kind old (Name name) (symbol LeftParenthesis ∷ next.0) next.1) counted refl refl

method_step : {old a : Cursor} {depth : ℕ} {name : List ℕ} → IsCallNext old name → Counted old a depth marks.node →
    Stepped old a (Name name)
method_step {old} {name = name} next counted =
    stepped (Name name) (next_kind old (Name name) (symbol LeftParenthesis ∷ next.0) next.1) counted.steps

parenthesis_next : {old a : Cursor} {depth : ℕ} {name : List ℕ} → IsCallNext old name →
    Counted old a depth marks.node → IsNextSymbol a LeftParenthesis
parenthesis_next {old} {a} next counted =
    let step = method_step next counted in
    next_kind a (symbol LeftParenthesis) next.0 (let same = sym step.is_next ∙ next.1 in cc)

pub arguments_over : {old a : Cursor} {name : List ℕ} {depth : ℕ} {error : ParseError} → IsCallNext old name →
    Counted old a depth marks.node → IsOver a depth marks.arguments error → FailsAssignment old depth error
arguments_over {old} {a} {name} {depth} next counted over =
    fails_then (method_taken depth next counted)
    (fails_at_limit (nested_at depth due.after_value_name) (symbol LeftParenthesis) (kinds (behind a)) call_rest depth
    marks.arguments (parenthesis_next next counted) over refl refl)

call_opened : {old a b : Cursor} {name : List ℕ} (depth : ℕ) → IsCallNext old name → Counted old a depth marks.node →
    Counted a b depth marks.arguments →
    Takes old b (nested_at depth due.value ∷ []) (nested_at depth due.args ∷ nested_at depth
    (exactly due.semicolon) ∷ [])
call_opened depth next counted opened =
    takes_then (method_taken depth next counted)
    (takes_counted (nested_at depth due.after_value_name) (symbol LeftParenthesis) call_rest depth marks.arguments
    (parenthesis_next next counted) opened refl refl)

pub called_fails : {old a b : Cursor} {name : List ℕ} {depth : ℕ} {error : ParseError} → IsCallNext old name →
    Counted old a depth marks.node → Counted a b depth marks.arguments → FailsCall b depth error →
    FailsAssignment old depth error
called_fails {depth = depth} next counted opened fails = fails_then (call_opened depth next counted opened) fails

pub called_read : {old a b new : Cursor} {name : List ℕ} {depth : ℕ} {into method : NameDraft}
    {args : Vec ExprDraft Global} →
    Widths → IsCallNext old name → name_shape method ≡ name_at old.at name → Counted old a depth marks.node →
    Counted a b depth marks.arguments → ReadsCall b new depth args.items →
    ReadsAssignment old new depth into (kind.Call method args (Some into))
called_read {old} {a} {b} {new} {name} {depth} {into} {method} {args} w next method_is counted opened read =
    let first = method_step next counted in
    let second = stepped (symbol LeftParenthesis) (parenthesis_next next counted) opened.steps in
    record {
      block = λ n. phrases.call_into n name read.args phrases.end;
      sound = λ n. (read.grouped, tt);
      written = λ n. ap (λ ks. Name n ∷ symbol Assign ∷ ks) (first.is_next
          ∙ ap (λ ks. Name name ∷ ks) (second.is_next ∙ ap (λ ks. symbol LeftParenthesis ∷ ks) read.written));
      draft_is = λ lines at n behind place into_is.
          let name_is = method_is ∙ ap (λ m. name_at m name) (sym place) in
          let args_place : b.at ≡ at + 4 = omega (arith, first.moves.at, second.moves.at, place) in
          let args_are = read.drafts_are ∙ ap (λ m. args_at m read.args) args_place in
          cc (name_is, args_are, into_is);
      count = length (args_spelling 0 read.args) + 4;
      moves = moves_as _ (omega arith) (moves_then (moves_then first.moves second.moves) read.moves);
      width = λ n. omega (arith, call_into_width w n name read.args phrases.end);
      takes = takes_then (call_opened depth next counted opened) read.takes;
    }

-- ---- statements that begin with a name

first_name_taken : {old a : Cursor} {name : List ℕ} (place : Place) (depth : ℕ) → IsNextKind old (Name name) →
    Counted old a depth marks.statement →
    Takes old a (statements_due place depth) (nested_at depth due.after_first_name ∷ statements_due place depth)
first_name_taken {name = name} place depth next counted =
    takes_counted (nested_at depth (due.statements place)) (Name name)
    (due.after_first_name ∷ due.statements place ∷ [])
    depth marks.statement next counted refl refl

equals_taken : {old a b : Cursor} {name : List ℕ} (place : Place) (depth : ℕ) → depth ≤ NESTING →
    IsNextKind old (Name name) → Counted old a depth marks.statement → PassesSymbol a b Assign →
    Takes old b (statements_due place depth) (nested_at depth due.value ∷ statements_due place depth)
equals_taken place depth nested next counted passed =
    takes_then (first_name_taken place depth next counted) (takes_before (statements_due place depth)
    (takes_passed (nested_at depth due.after_first_name) (symbol Assign) (due.value ∷ []) depth (step_symbol passed)
    passed.passes.counts nested refl refl))

pub assignment_fails : {old a b : Cursor} {name : List ℕ} {depth : ℕ} {error : ParseError} → depth ≤ NESTING →
    IsNextKind old (Name name) → Counted old a depth marks.statement → PassesSymbol a b Assign →
    FailsAssignment b depth error → FailsStatement old depth error
assignment_fails {depth = depth} nested next counted passed fails place =
    fails_then (equals_taken place depth nested next counted passed) (fails_before (statements_due place depth) fails)

pub assignment_read : {old a b new : Cursor} {name : List ℕ} {depth : ℕ} {named : NameDraft} {draft : StmtKindDraft} →
    depth ≤ NESTING → IsNextKind old (Name name) → name_shape named ≡ name_at old.at name →
    Counted old a depth marks.statement → PassesSymbol a b Assign → ReadsAssignment b new depth named draft →
    ReadsKind old new depth draft
assignment_read {old} {a} {b} {new} {name} {depth} nested next name_is counted passed read =
    let first = stepped (Name name) next counted.steps in
    let second = step_symbol passed in
    let width = read.width name in
    record {
      block = read.block name;
      some = omega (arith, width);
      sound = read.sound name;
      written = first.is_next ∙ ap (λ ks. Name name ∷ ks) second.is_next ∙ read.written name;
      draft_is = λ lines has behind.
          read.draft_is lines old.at name behind (omega (arith, first.moves.at, second.moves.at)) name_is;
      moves = moves_as _ (omega (arith, width)) (moves_then (moves_then first.moves second.moves) read.moves);
      takes = λ place. takes_then (equals_taken place depth nested next counted passed)
          (takes_before (statements_due place depth) read.takes);
    }

bracket_taken : {old a b : Cursor} {name : List ℕ} (place : Place) (depth : ℕ) → depth ≤ NESTING →
    IsNextKind old (Name name) → Counted old a depth marks.statement → PassesSymbol a b LeftBracket →
    Takes old b (statements_due place depth) (element_due depth ++ statements_due place depth)
bracket_taken place depth nested next counted passed =
    takes_then (first_name_taken place depth next counted) (takes_before (statements_due place depth)
    (takes_passed (nested_at depth due.after_first_name) (symbol LeftBracket)
    (operand due.at_bracket ∷ local_rest) depth
    (step_symbol passed) passed.passes.counts nested refl refl))

pub element_statement_fails : {old a b : Cursor} {name : List ℕ} {depth : ℕ} {error : ParseError} → depth ≤ NESTING →
    IsNextKind old (Name name) → Counted old a depth marks.statement → PassesSymbol a b LeftBracket →
    FailsElement b depth error → FailsStatement old depth error
element_statement_fails {depth = depth} nested next counted passed fails place =
    fails_then (bracket_taken place depth nested next counted passed) (fails_before (statements_due place depth) fails)

pub element_statement_read : {old a b new : Cursor} {name : List ℕ} {depth : ℕ} {named : NameDraft}
    {index value : ExprDraft} → Widths → depth ≤ NESTING → IsNextKind old (Name name) →
    name_shape named ≡ name_at old.at name → Counted old a depth marks.statement → PassesSymbol a b LeftBracket →
    ReadsElement b new depth index value → ReadsKind old new depth (kind.AssignElement named index value)
element_statement_read {old} {a} {b} {new} {name} {depth} w nested next name_is counted passed read =
    let first = stepped (Name name) next counted.steps in
    let second = step_symbol passed in
    let width = element_assignment_width w name read.index read.expr phrases.end in
    let index_place : b.at ≡ old.at + 2 = omega (arith, first.moves.at, second.moves.at) in
    let value_place : b.at + 2 + expr_width read.index ≡ old.at + 4 + expr_width read.index =
    omega (arith, index_place) in
    let index_is = read.index_is ∙ ap (λ at. expr_at at read.index) index_place in
    let value_is = read.draft_is ∙ ap (λ at. expr_at at read.expr) value_place in
    record {
      block = phrases.element_assignment name read.index read.expr phrases.end;
      some = omega (arith, width);
      sound = (read.index_grouped, read.grouped, tt);
      written = first.is_next ∙ ap (λ ks. Name name ∷ ks) (second.is_next
          ∙ ap (λ ks. symbol LeftBracket ∷ ks) read.written);
      draft_is = λ lines has behind. cc (name_is, index_is, value_is);
      moves = moves_as _ (omega (arith, width)) (moves_then (moves_then first.moves second.moves) read.moves);
      takes = λ place. takes_then (bracket_taken place depth nested next counted passed)
          (takes_before (statements_due place depth) read.takes);
    }

not_after_name : (old : Cursor) (depth : ℕ) (kind : TokenKind) → ¬ IsNextSymbol old Assign →
    ¬ IsNextSymbol old LeftBracket →
    ¬ IsNextSymbol old LeftParenthesis → IsNextKind old kind → due_after_token due.after_first_name kind ≡ None
not_after_name old depth (token.Symbol Assign) no_value no_index no_args is = absurd (no_value is)
not_after_name old depth (token.Symbol LeftBracket) no_value no_index no_args is = absurd (no_index is)
not_after_name old depth (token.Symbol LeftParenthesis) no_value no_index no_args is = absurd (no_args is)
not_after_name old depth _ no_value no_index no_args is = refl

pub name_alone_fails : {old a : Cursor} {name : List ℕ} {depth : ℕ} {error : ParseError} → IsNextKind old (Name name) →
    Counted old a depth marks.statement → ¬ IsNextSymbol a Assign → ¬ IsNextSymbol a LeftBracket →
    (error ≡ fault.Unexpected a.at) × (¬ IsNextSymbol a LeftParenthesis) → FailsStatement old depth error
name_alone_fails {a = a} {depth = depth} {error = error} next counted no_value no_index other place =
    fails_then (first_name_taken place depth next counted) (fails_before (statements_due place depth)
    (fails_other a error (nested_at depth due.after_first_name) other.0
    (λ kind is. not_after_name a depth kind no_value no_index other.1 is)))

parenthesis_taken : {old a b : Cursor} {name : List ℕ} (place : Place) (depth : ℕ) → depth ≤ NESTING →
    IsNextKind old (Name name) → Counted old a depth marks.statement → PassesSymbol a b LeftParenthesis →
    Takes old b (statements_due place depth)
    (nested_at depth due.args ∷ nested_at depth (exactly due.semicolon) ∷ statements_due place depth)
parenthesis_taken place depth nested next counted passed =
    takes_then (first_name_taken place depth next counted) (takes_before (statements_due place depth)
    (takes_passed (nested_at depth due.after_first_name) (symbol LeftParenthesis) call_rest depth
    (step_symbol passed) passed.passes.counts nested refl refl))

pub call_statement_fails : {old a b : Cursor} {name : List ℕ} {depth : ℕ} {error : ParseError} → depth ≤ NESTING →
    IsNextKind old (Name name) → Counted old a depth marks.statement → PassesSymbol a b LeftParenthesis →
    FailsCall b depth error → FailsStatement old depth error
call_statement_fails {depth = depth} nested next counted passed fails place =
    fails_then (parenthesis_taken place depth nested next counted passed)
    (fails_before (statements_due place depth) fails)

pub call_statement_read : {old a b new : Cursor} {name : List ℕ} {depth : ℕ} {named : NameDraft}
    {args : Vec ExprDraft Global} → Widths → depth ≤ NESTING → IsNextKind old (Name name) →
    name_shape named ≡ name_at old.at name → Counted old a depth marks.statement → PassesSymbol a b LeftParenthesis →
    ReadsCall b new depth args.items → ReadsKind old new depth (kind.Call named args None)
call_statement_read {old} {a} {b} {new} {name} {depth} w nested next name_is counted passed read =
    let first = stepped (Name name) next counted.steps in
    let second = step_symbol passed in
    let width = call_width w name read.args phrases.end in
    let place_is : b.at ≡ old.at + 2 = omega (arith, first.moves.at, second.moves.at) in
    let args_are = read.drafts_are ∙ ap (λ at. args_at at read.args) place_is in
    record {
      block = phrases.call name read.args phrases.end;
      some = omega (arith, width);
      sound = (read.grouped, tt);
      written = first.is_next ∙ ap (λ ks. Name name ∷ ks) (second.is_next
          ∙ ap (λ ks. symbol LeftParenthesis ∷ ks) read.written);
      draft_is = λ lines has behind. cc (name_is, args_are);
      moves = moves_as _ (omega (arith, width)) (moves_then (moves_then first.moves second.moves) read.moves);
      takes = λ place. takes_then (parenthesis_taken place depth nested next counted passed)
          (takes_before (statements_due place depth) read.takes);
    }
