-- Methods, put together from what was read.
use Rattle.std.proofs.Common.{◌≡◌, ◌≤◌, ◌<◌, ℕ, ◌+◌, ◌⊎◌, List, [], ◌∷◌, ◌++◌, length, map, Some, None, refl}
use Rattle.std.proofs.Common.{ap, sym, subst, ◌∙◌, arith, inl, inr, length-drop, length-append}
use Rattle.std.proofs.lemmas.List.{length-map, append-nil, map-append}
use Rattle.js_base.specs.declared.limits.TheConstants.{NESTING}
use Rattle.jif_lex.specs.declared.token.Token.{Token}
use Rattle.jif_lex.specs.declared.token.TokenKind.{TokenKind}
use Rattle.jif_lex.specs.declared.token.TokenKind.TheVariants as token
use Rattle.jif_lex.specs.declared.token.TokenKind.TheVariants.{Name, Word}
use Rattle.jif_lex.specs.declared.token.Word.TheVariants.{Int, If, While, Return, Where, Authority}
use Rattle.jif_lex.specs.declared.token.Symbol.TheVariants.{LeftBrace, RightBrace, LeftParenthesis, RightParenthesis}
use Rattle.jif_lex.specs.declared.token.Symbol.TheVariants.{Comma, Semicolon}
use Rattle.label_lattice.specs.Written.{kinds, symbol, names_tokens}
use Rattle.jif_tree.specs.declared.draft.ExprDraft.{ExprDraft}
use Rattle.jif_tree.specs.declared.draft.LabelDraft.{LabelDraft}
use Rattle.jif_tree.specs.declared.draft.NameDraft.{NameDraft}
use Rattle.jif_tree.specs.declared.draft.ParamDraft.{ParamDraft}
use Rattle.jif_tree.specs.declared.draft.StmtDraft.{StmtDraft}
use Rattle.jif_tree.specs.declared.draft.StmtKindDraft as kind
use Rattle.jif_grammar.specs.Phrases.{ParamPhrase, ExprPhrase}
use Rattle.jif_grammar.specs.Grouping.{AreParams}
use Rattle.jif_grammar.specs.Due as due
use Rattle.jif_grammar.specs.Due.{exactly, operand, at_semicolon, due_after_token}
use Rattle.jif_grammar.specs.Marks as marks
use Rattle.jif_grammar.specs.Nesting.{Nested, nested_at}
use Rattle.jif_grammar.specs.Spelling.{expr_spelling, param_spelling, params_spelling, authority_spelling}
use Rattle.jif_grammar.specs.Spelling.{result_spelling}
use Rattle.jif_grammar.specs.DraftShapes.{ParamShape, name_shape, param_shape, block_shape}
use Rattle.jif_grammar.specs.Drafts.{expr_at, expr_width, name_at, names_at, label_at, label_width, params_at}
use Rattle.jif_grammar.specs.Drafts.{block_at, block_width, result_at}
use Rattle.jif_grammar.specs.Unmarked.{label_then, expr_then, block_then, names_then, param_then, params_then}
use Rattle.jif_grammar.specs.Unmarked.{authority_then}
use Rattle.jif_parse.specs.declared.cursor.Cursor.{Cursor}
use Rattle.jif_parse.specs.declared.methods.MethodTail.{MethodTail}
use Rattle.jif_parse.specs.declared.parse_error.ParseError.{ParseError}
use Rattle.jif_parse.specs.declared.parse_error.ParseError.TheVariants as fault
use Rattle.jif_parse.specs.Reading.{behind, IsNextKind, IsNextSymbol, IsNextName, Takes, Moves, Passes, Counted, IsOver}
use Rattle.jif_parse.specs.Phrases.{PassesSymbol, ReadsName, ReadsUpTo, FailsUpTo, ReadsLabel, ReadsNames}
use Rattle.jif_parse.specs.Phrases.{FailsNames, of_principals}
use Rattle.jif_parse.specs.Words.{PassesWord}
use Rattle.jif_parse.specs.Statements.{HasLines, BeginsStatement, statements_due, ReadsStatements, FailsStatement}
use Rattle.jif_parse.specs.Methods.{named_due, ReadsNamed, FailsNamed, next_param_due, after_param_due, ReadsParam}
use Rattle.jif_parse.specs.Methods.{FailsParam, ReadsParams, FailsParams, ReadsAuthority, FailsAuthority, ReadsReturn}
use Rattle.jif_parse.specs.Methods.{FailsReturn, ReadsBody, FailsBody, tail_due, ReadsTail, FailsTail}
use Rattle.jif_parse.specs.Widths.{Widths}
use Rattle.jif_parse.proofs.Taking.{takes_then, takes_before, fails_then, fails_before, fails_at_limit, takes_nothing}
use Rattle.jif_parse.proofs.Moving.{moves_then, moves_as, stepped, Stepped, takes_passed, takes_counted, fails_other}
use Rattle.jif_parse.proofs.Fixed.{takes_fixed, fails_fixed, step_symbol, step_name, takes_name, fails_name}
use Rattle.jif_parse.proofs.Lists.{ListForm, ItemsSoFar, no_items, one_more, last_item}
use Rattle.jif_parse.proofs.Blocks.{lines_moved}

pub none_nested : 0 ≤ NESTING
none_nested = omega arith

-- ---- bodies

pub result_width : (value : ExprPhrase) → length (result_spelling (Some value)) ≡ expr_width value + 2
result_width value =
    omega (arith, length-append (expr_spelling 0 value) (marks.plain 0 (symbol Semicolon) ∷ []))

abbrev behind_return : List Nested
behind_return = nested_at 0 (operand at_semicolon) ∷ nested_at 0 (exactly due.right_brace) ∷ []

return_taken : {old a : Cursor} → IsNextKind old (Word Return) → Counted old a 0 marks.statement →
    Takes old a (statements_due due.body 0) behind_return
return_taken next counted =
    takes_counted (nested_at 0 (due.statements due.body)) (Word Return)
    (operand at_semicolon ∷ exactly due.right_brace ∷ []) 0 marks.statement next counted refl refl

pub return_value_fails : {old a : Cursor} {error : ParseError} → IsNextKind old (Word Return) →
    Counted old a 0 marks.statement → FailsUpTo a at_semicolon 0 error → FailsReturn old error
return_value_fails next counted fails =
    fails_then (return_taken next counted) (fails_before (nested_at 0 (exactly due.right_brace) ∷ []) fails)

value_taken : {old a b : Cursor} {value : ExprDraft} → IsNextKind old (Word Return) → Counted old a 0 marks.statement →
    ReadsUpTo a b at_semicolon 0 value →
    Takes old b (statements_due due.body 0) (nested_at 0 (exactly due.right_brace) ∷ [])
value_taken next counted read =
    takes_then (return_taken next counted) (takes_before (nested_at 0 (exactly due.right_brace) ∷ []) read.takes)

pub return_end_fails : {old a b : Cursor} {value : ExprDraft} {error : ParseError} → IsNextKind old (Word Return) →
    Counted old a 0 marks.statement → ReadsUpTo a b at_semicolon 0 value →
    (error ≡ fault.Unexpected b.at) × (¬ IsNextSymbol b RightBrace) → FailsReturn old error
return_end_fails {b = b} {error = error} next counted read other =
    fails_then (value_taken next counted read) (fails_fixed b error due.right_brace 0 other)

pub return_read : {old a b new : Cursor} {value : ExprDraft} {line : ℕ} → IsNextKind old (Word Return) →
    ((lines : ℕ → ℕ) → HasLines lines old → line ≡ lines old.at) → Counted old a 0 marks.statement →
    ReadsUpTo a b at_semicolon 0 value → PassesSymbol b new RightBrace →
    ReadsReturn old new (record { at = old.at; line = line; kind = kind.Return value })
return_read {old} {a} {b} {new} {value} {line} next line_is counted read passed =
    let first = stepped (Word Return) next counted.steps in
    let last = step_symbol passed in
    let width = result_width read.expr in
    record {
      value = read.expr;
      grouped = read.grouped;
      written = first.is_next ∙ ap (λ ks. Word Return ∷ ks) (read.written
          ∙ ap (λ ks. expr_then read.expr (symbol Semicolon ∷ ks)) last.is_next);
      draft_is = λ lines has.
          let value_is = read.draft_is ∙ ap (λ at. expr_at at read.expr) first.moves.at in
          cc (line_is lines has, value_is);
      moves = moves_as _ (omega (arith, width)) (moves_then (moves_then first.moves read.moves) last.moves);
      takes = takes_then (value_taken next counted read) (takes_fixed due.right_brace 0 none_nested passed);
    }

pub body_statements_fail : {old : Cursor} {error : ParseError} → FailsStatement old 0 error → FailsBody old error
body_statements_fail fails = fails due.body

pub body_return_fails : {old a : Cursor} {drafts : List StmtDraft} {error : ParseError} →
    ReadsStatements old a 0 drafts → FailsReturn a error → FailsBody old error
body_return_fails read fails = fails_then (read.takes due.body) fails

pub body_with_return : {old a new : Cursor} {drafts : List StmtDraft} {draft : StmtDraft} →
    ReadsStatements old a 0 drafts → ReadsReturn a new draft → ReadsBody old new (drafts ++ draft ∷ [])
body_with_return {old} {a} {new} {drafts} {draft} read last = record {
  block = read.block;
  result = Some last.value;
  sound = read.sound;
  result_sound = last.grouped;
  written = read.written ∙ ap (block_then read.block) last.written;
  drafts_are = λ lines has.
      read.drafts_are lines has (draft ∷ [])
      ∙ ap (block_at lines old.at read.block) (last.draft_is lines (lines_moved lines read.moves has)
      ∙ ap (λ at. result_at lines at (Some last.value)) read.moves.at);
  moves = moves_as _ (omega arith) (moves_then read.moves last.moves);
  takes = takes_then (read.takes due.body) last.takes;
}

body_none : (old : Cursor) (kind : TokenKind) → ¬ BeginsStatement old → ¬ IsNextKind old (Word Return) →
    ¬ IsNextSymbol old RightBrace → IsNextKind old kind → due_after_token (due.statements due.body) kind ≡ None
body_none old (Name name) ends no_return other is = absurd (ends (Name name, is, tt))
body_none old (Word Int) ends no_return other is = absurd (ends (Word Int, is, tt))
body_none old (Word If) ends no_return other is = absurd (ends (Word If, is, tt))
body_none old (Word While) ends no_return other is = absurd (ends (Word While, is, tt))
body_none old (Word Return) ends no_return other is = absurd (no_return is)
body_none old (token.Symbol RightBrace) ends no_return other is = absurd (other is)
body_none old _ ends no_return other is = refl

pub body_end_fails : {old a : Cursor} {drafts : List StmtDraft} {error : ParseError} → ReadsStatements old a 0 drafts →
    ¬ IsNextKind a (Word Return) → (error ≡ fault.Unexpected a.at) × (¬ IsNextSymbol a RightBrace) → FailsBody old error
body_end_fails {a = a} {error = error} read no_return other =
    fails_then (read.takes due.body) (fails_other a error (nested_at 0 (due.statements due.body)) other.0
    (λ kind is. body_none a kind read.ends no_return other.1 is))

pub body_without_return : {old a new : Cursor} {drafts : List StmtDraft} → ReadsStatements old a 0 drafts →
    PassesSymbol a new RightBrace → ReadsBody old new drafts
body_without_return {old} {a} {new} {drafts} read passed =
    let last = step_symbol passed in
    record {
      block = read.block;
      result = None;
      sound = read.sound;
      result_sound = tt;
      written = read.written ∙ ap (block_then read.block) last.is_next;
      drafts_are = λ lines has. ap block_shape (sym (append-nil drafts)) ∙ read.drafts_are lines has [];
      moves = moves_as _ (omega arith) (moves_then read.moves last.moves);
      takes = takes_then (read.takes due.body)
          (takes_passed (nested_at 0 (due.statements due.body)) (symbol RightBrace) [] 0
          last passed.passes.counts none_nested refl refl);
    }

-- ---- a label and a name

pub name_behind_label_fails : {old a : Cursor} {label : LabelDraft} {error : ParseError} → ReadsLabel old a label →
    (error ≡ fault.OutOfMemory) ⊎ ((error ≡ fault.Unexpected a.at) × ¬ IsNextName a) → FailsNamed old error
name_behind_label_fails {a = a} {error = error} read other =
    fails_then (takes_before (nested_at 0 due.a_name ∷ []) (read.takes 0 none_nested)) (fails_name a error 0 other)

pub named_read : {old a new : Cursor} {label : LabelDraft} {name : NameDraft} → ReadsLabel old a label →
    ReadsName a new name → ReadsNamed old new label name
named_read {old} {a} {new} {label} {name} read last =
    let step = step_name last in
    record {
      label = read.label;
      name = last.name;
      sound = read.trust_is_last;
      written = read.written ∙ ap (label_then read.label) step.is_next;
      label_is = read.draft_is;
      name_is = last.draft_is ∙ ap (λ at. name_at at last.name) read.moves.at;
      moves = moves_then read.moves step.moves;
      takes = takes_then (takes_before (nested_at 0 due.a_name ∷ []) (read.takes 0 none_nested))
          (takes_name 0 none_nested last);
    }

-- ---- parameters

params_none : (old : Cursor) (kind : TokenKind) → ¬ IsNextKind old (Word Int) → ¬ IsNextSymbol old RightParenthesis →
    IsNextKind old kind → due_after_token due.params kind ≡ None
params_none old (Word Int) no_int other is = absurd (no_int is)
params_none old (token.Symbol RightParenthesis) no_int other is = absurd (other is)
params_none old _ no_int other is = refl

int_none : (old : Cursor) (kind : TokenKind) → ¬ IsNextKind old (Word Int) → IsNextKind old kind →
    due_after_token due.int_word kind ≡ None
int_none old (Word Int) no_int is = absurd (no_int is)
int_none old _ no_int is = refl

pub no_param : {old : Cursor} {error : ParseError} → error ≡ fault.Unexpected old.at → ¬ IsNextKind old (Word Int) →
    FailsParam old error
no_param {old} {error} tells no_int = record {
  first = λ other. fails_other old error (nested_at 0 due.params) tells
      (λ kind is. params_none old kind no_int other is);
  next = fails_before named_due
      (fails_other old error (nested_at 0 due.int_word) tells (λ kind is. int_none old kind no_int is));
}

pub param_over : {old : Cursor} {error : ParseError} → IsNextKind old (Word Int) → IsOver old 0 marks.parameter error →
    FailsParam old error
param_over {old} next over = record {
  first = λ other. fails_at_limit (nested_at 0 due.params) (Word Int) (kinds (behind old))
      (due.label ∷ due.a_name ∷ due.after_param ∷ []) 0 marks.parameter next over refl refl;
  next = fails_before named_due
      (fails_at_limit (nested_at 0 due.int_word) (Word Int) (kinds (behind old)) [] 0 marks.parameter next over refl
      refl);
}

first_int : {old a : Cursor} → IsNextKind old (Word Int) → Counted old a 0 marks.parameter →
    Takes old a (nested_at 0 due.params ∷ []) (named_due ++ after_param_due)
first_int next counted =
    takes_counted (nested_at 0 due.params) (Word Int) (due.label ∷ due.a_name ∷ due.after_param ∷ []) 0 marks.parameter
    next
    counted refl refl

next_int : {old a : Cursor} → IsNextKind old (Word Int) → Counted old a 0 marks.parameter →
    Takes old a next_param_due named_due
next_int next counted =
    takes_before named_due
    (takes_counted (nested_at 0 due.int_word) (Word Int) [] 0 marks.parameter next counted refl refl)

pub param_fails : {old a : Cursor} {error : ParseError} → IsNextKind old (Word Int) → Counted old a 0 marks.parameter →
    FailsNamed a error → FailsParam old error
param_fails next counted fails = record {
  first = λ other. fails_then (first_int next counted) (fails_before after_param_due fails);
  next = fails_then (next_int next counted) fails;
}

pub param_read : {old a new : Cursor} {label : LabelDraft} {name : NameDraft} → Widths → IsNextKind old (Word Int) →
    Counted old a 0 marks.parameter → ReadsNamed a new label name →
    ReadsParam old new (record { label = label; name = name })
param_read {old} {a} {new} {label} {name} w next counted read =
    let first = stepped (Word Int) next counted.steps in
    let param : ParamPhrase = record { label = read.label; name = read.name } in
    let label_is = read.label_is ∙ ap (λ at. label_at at read.label) first.moves.at in
    let place : a.at + label_width read.label ≡ old.at + 1 + label_width read.label = omega (arith, first.moves.at) in
    let name_is = read.name_is ∙ ap (λ at. name_at at read.name) place in
    let width : length (param_spelling param) ≡ label_width read.label + 2 =
    omega (arith, w.param param [], w.label read.label (Name read.name ∷ [])) in
    record {
      param = param;
      sound = read.sound;
      written = first.is_next ∙ ap (λ ks. Word Int ∷ ks) read.written;
      draft_is = cc (label_is, name_is);
      moves = moves_as _ (omega (arith, width)) (moves_then first.moves read.moves);
      takes_first = takes_then (first_int next counted) (takes_before after_param_due read.takes);
      takes_next = takes_then (next_int next counted) read.takes;
    }

abbrev pub params_form : ListForm ParamPhrase ParamShape
params_form = record {
  separator = symbol Comma;
  item_then = param_then;
  item_width = λ param. length (param_spelling param);
  width = λ params. length (params_spelling params);
  shape = λ at param. record {
    label = label_at (at + 1) param.label;
    name = name_at (at + 1 + label_width param.label) param.name;
  };
  shapes = params_at;
  IsSound = AreParams;
  width_one = λ param. refl;
  width_more = λ param next params. omega (
    arith,
    length-append (param_spelling param)
        (marks.plain 0 (symbol Comma) ∷ params_spelling (next ∷ params)),
  );
  shapes_none = λ at. refl;
  shapes_more = λ at param params. refl;
}

abbrev params_due : List Nested
params_due = nested_at 0 due.params ∷ []

-- the parameters so far, each with a comma behind it
pub record ParamsSoFar (old now : Cursor) (drafts : List ParamDraft) : Type 0 where
  pub items : ItemsSoFar params_form old now (map param_shape drafts)
  pub takes : (Takes old now params_due params_due × (¬ IsNextSymbol now RightParenthesis))
      ⊎ Takes old now params_due (next_param_due ++ after_param_due)

pub no_params : (old : Cursor) (drafts : List ParamDraft) → drafts ≡ [] → ¬ IsNextSymbol old RightParenthesis →
    ParamsSoFar old old drafts
no_params old drafts none other = record {
  items = subst (λ ds. ItemsSoFar params_form old old (map param_shape ds)) (sym none) (no_items params_form old);
  takes = inl (takes_nothing old params_due, other);
}

behind_param : {old now new : Cursor} {drafts : List ParamDraft} {draft : ParamDraft} → ParamsSoFar old now drafts →
    ReadsParam now new draft → Takes old new params_due after_param_due
behind_param so_far read =
    elim so_far.takes [
      | inl first ↦ takes_then first.0 read.takes_first
      | inr next ↦ takes_then next (takes_before after_param_due read.takes_next)
    ]

pub params_fail : {old now : Cursor} {drafts : List ParamDraft} {error : ParseError} → ParamsSoFar old now drafts →
    FailsParam now error → FailsParams old error
params_fail so_far fails =
    elim so_far.takes [
      | inl first ↦ fails_then first.0 (fails.first first.1)
      | inr next ↦ fails_then next (fails_before after_param_due fails.next)
    ]

pub params_more : {old now behind_it new : Cursor} {drafts : List ParamDraft} {draft : ParamDraft}
    (after : List ParamDraft) → after ≡ drafts ++ draft ∷ [] → ParamsSoFar old now drafts →
    ReadsParam now behind_it draft →
    IsNextSymbol behind_it Comma → Passes behind_it new → ParamsSoFar old new after
params_more {old} {now} {behind_it} {new} {drafts} {draft} after are so_far read is passes =
    let shapes : map param_shape after ≡ map param_shape drafts ++ params_form.shape now.at read.param ∷ [] =
    ap (map param_shape) are ∙ map-append param_shape drafts (draft ∷ [])
    ∙ ap (λ s. map param_shape drafts ++ s ∷ []) read.draft_is in
    record {
      items = subst (λ ss. ItemsSoFar params_form old new ss) (sym shapes)
          (one_more {behind = behind_it} {new = new} read.param so_far.items read.written read.moves (read.sound, tt)
          (stepped (symbol Comma) is passes.steps) (λ items one all. (one.0, all)));
      takes = inr (takes_then (behind_param so_far read)
          (takes_passed (nested_at 0 due.after_param) (symbol Comma)
          (due.int_word ∷ due.label ∷ due.a_name ∷ due.after_param ∷ []) 0 (stepped (symbol Comma) is passes.steps)
          passes.counts none_nested refl refl));
    }

after_param_none : (old : Cursor) (kind : TokenKind) → ¬ IsNextSymbol old Comma → ¬ IsNextSymbol old RightParenthesis →
    IsNextKind old kind → due_after_token due.after_param kind ≡ None
after_param_none old (token.Symbol Comma) no_comma other is = absurd (no_comma is)
after_param_none old (token.Symbol RightParenthesis) no_comma other is = absurd (other is)
after_param_none old _ no_comma other is = refl

pub params_end_fail : {old now behind_it : Cursor} {drafts : List ParamDraft} {draft : ParamDraft}
    {error : ParseError} →
    ParamsSoFar old now drafts → ReadsParam now behind_it draft → ¬ IsNextSymbol behind_it Comma →
    (error ≡ fault.Unexpected behind_it.at) × (¬ IsNextSymbol behind_it RightParenthesis) → FailsParams old error
params_end_fail {behind_it = behind_it} {error = error} so_far read no_comma other =
    fails_then (behind_param so_far read) (fails_other behind_it error (nested_at 0 due.after_param) other.0
    (λ kind is. after_param_none behind_it kind no_comma other.1 is))

pub params_end : {old now behind_it new : Cursor} {drafts : List ParamDraft} {draft : ParamDraft}
    (after : List ParamDraft) → after ≡ drafts ++ draft ∷ [] → ParamsSoFar old now drafts →
    ReadsParam now behind_it draft →
    PassesSymbol behind_it new RightParenthesis → ReadsParams old new after
params_end {old} {now} {behind_it} {new} {drafts} {draft} after are so_far read passed =
    let all = last_item {new = behind_it} read.param so_far.items read.written read.moves (read.sound, tt) in
    let step = step_symbol passed in
    record {
      params = all.items;
      sound = all.sound;
      written = all.written ∙ ap (params_then all.items) step.is_next;
      drafts_are = ap (map param_shape) are ∙ map-append param_shape drafts (draft ∷ [])
          ∙ ap (λ s. map param_shape drafts ++ s ∷ []) read.draft_is ∙ all.drafts_are;
      moves = moves_then all.moves step.moves;
      takes = takes_then (behind_param so_far read)
          (takes_passed (nested_at 0 due.after_param) (symbol RightParenthesis) [] 0
          step passed.passes.counts none_nested refl refl);
    }

pub params_none_read : {old new : Cursor} (drafts : List ParamDraft) → drafts ≡ [] →
    PassesSymbol old new RightParenthesis →
    ReadsParams old new drafts
params_none_read {old} {new} drafts none passed =
    let step = step_symbol passed in
    record {
      params = [];
      sound = tt;
      written = step.is_next;
      drafts_are = ap (map param_shape) none;
      moves = step.moves;
      takes = takes_passed (nested_at 0 due.params) (symbol RightParenthesis) [] 0 step passed.passes.counts none_nested
          refl
          refl;
    }

pub moved_falls : {old new : Cursor} {count : ℕ} (kind : TokenKind) (more : List TokenKind) →
    kinds old.rest.now ≡ kind ∷ more →
    0 < count → Moves old new count → length new.rest.now < length old.rest.now
moved_falls {old} {new} {count} kind more is some moves =
    let any : 0 < length old.rest.now =
    omega (arith, ap length is, length-map old.rest.now (λ (token : Token). token.kind)) in
    omega (arith, ap length moves.rest, length-drop count old.rest.now)

pub params_fall : {now behind_it new : Cursor} {draft : ParamDraft} → ReadsParam now behind_it draft →
    IsNextSymbol behind_it Comma → Passes behind_it new → length new.rest.now < length now.rest.now
params_fall {now} {behind_it} {new} read is passes =
    moved_falls (Word Int) (label_then read.param.label (Name read.param.name ∷ kinds behind_it.rest.now)) read.written
    (omega arith) (moves_then read.moves (stepped (symbol Comma) is passes.steps).moves)

-- ---- authority

abbrev authority_due : List Nested
authority_due = nested_at 0 due.authority ∷ []

pub no_authority_read : {old new : Cursor} {drafts : List NameDraft} → drafts ≡ [] → PassesSymbol old new LeftBrace →
    ReadsAuthority old new drafts
no_authority_read {old} {new} {drafts} none passed =
    let step = step_symbol passed in
    record {
      names = [];
      written = step.is_next;
      drafts_are = ap (map name_shape) none;
      moves = step.moves;
      takes = takes_passed (nested_at 0 due.authority) (symbol LeftBrace) [] 0 step passed.passes.counts none_nested
          refl refl;
    }

authority_none : (old : Cursor) (kind : TokenKind) → ¬ IsNextSymbol old LeftBrace → ¬ IsNextKind old (Word Where) →
    IsNextKind old kind → due_after_token due.authority kind ≡ None
authority_none old (token.Symbol LeftBrace) no_brace no_where is = absurd (no_brace is)
authority_none old (Word Where) no_brace no_where is = absurd (no_where is)
authority_none old _ no_brace no_where is = refl

pub no_where_fails : {old : Cursor} {error : ParseError} → ¬ IsNextSymbol old LeftBrace →
    (error ≡ fault.Unexpected old.at) × (¬ IsNextKind old (Word Where)) → FailsAuthority old error
no_where_fails {old} {error} no_brace other =
    fails_other old error (nested_at 0 due.authority) other.0 (λ kind is. authority_none old kind no_brace other.1 is)

step_word : {old new : Cursor} {written : _} → PassesWord old new written → Stepped old new (Word written)
step_word {written = written} passed = stepped (Word written) passed.is_next passed.passes.steps

-- behind `authority`, and behind its parenthesis
abbrev behind_opening : List Nested
behind_opening = nested_at 0 due.a_name ∷ nested_at 0 due.after_principal ∷ []

abbrev opening_due : List Nested
opening_due = nested_at 0 (exactly due.left_parenthesis) ∷ behind_opening

where_taken : {old a : Cursor} → PassesWord old a Where →
    Takes old a authority_due (nested_at 0 due.authority_word ∷ opening_due)
where_taken passed =
    takes_passed (nested_at 0 due.authority) (Word Where)
    (due.authority_word ∷ exactly due.left_parenthesis ∷ due.a_name ∷ due.after_principal ∷ []) 0 (step_word passed)
    passed.passes.counts none_nested refl refl

authority_word_none : (old : Cursor) (kind : TokenKind) → ¬ IsNextKind old (Word Authority) → IsNextKind old kind →
    due_after_token due.authority_word kind ≡ None
authority_word_none old (Word Authority) other is = absurd (other is)
authority_word_none old _ other is = refl

pub no_authority_word_fails : {old a : Cursor} {error : ParseError} → PassesWord old a Where →
    (error ≡ fault.Unexpected a.at) × (¬ IsNextKind a (Word Authority)) → FailsAuthority old error
no_authority_word_fails {a = a} {error = error} first other =
    fails_then (where_taken first) (fails_before opening_due
    (fails_other a error (nested_at 0 due.authority_word) other.0 (λ kind is. authority_word_none a kind other.1 is)))

words_taken : {old a b : Cursor} → PassesWord old a Where → PassesWord a b Authority →
    Takes old b authority_due opening_due
words_taken first second =
    takes_then (where_taken first)
    (takes_before opening_due (takes_passed (nested_at 0 due.authority_word) (Word Authority) [] 0
    (step_word second) second.passes.counts none_nested refl refl))

pub authority_opening_fails : {old a b : Cursor} {error : ParseError} → PassesWord old a Where →
    PassesWord a b Authority →
    (error ≡ fault.Unexpected b.at) × (¬ IsNextSymbol b LeftParenthesis) → FailsAuthority old error
authority_opening_fails {b = b} {error = error} first second other =
    fails_then (words_taken first second)
    (fails_before behind_opening (fails_fixed b error due.left_parenthesis 0 other))

opened_taken : {old a b c : Cursor} → PassesWord old a Where → PassesWord a b Authority →
    PassesSymbol b c LeftParenthesis → Takes old c authority_due behind_opening
opened_taken first second third =
    takes_then (words_taken first second)
    (takes_before behind_opening (takes_fixed due.left_parenthesis 0 none_nested third))

pub principals_fail : {old a b c : Cursor} {error : ParseError} → PassesWord old a Where → PassesWord a b Authority →
    PassesSymbol b c LeftParenthesis → FailsNames c error → FailsAuthority old error
principals_fail first second third fails =
    fails_then (opened_taken first second third) (fails of_principals 0 none_nested)

principals_taken : {old a b c d : Cursor} {drafts : List NameDraft} → PassesWord old a Where →
    PassesWord a b Authority →
    PassesSymbol b c LeftParenthesis → ReadsNames c d drafts →
    Takes old d authority_due (nested_at 0 due.after_principal ∷ [])
principals_taken first second third read =
    takes_then (opened_taken first second third) (read.takes of_principals 0 none_nested)

after_principal_none : (old : Cursor) (kind : TokenKind) → ¬ IsNextSymbol old Comma →
    ¬ IsNextSymbol old RightParenthesis →
    IsNextKind old kind → due_after_token due.after_principal kind ≡ None
after_principal_none old (token.Symbol Comma) no_comma other is = absurd (no_comma is)
after_principal_none old (token.Symbol RightParenthesis) no_comma other is = absurd (other is)
after_principal_none old _ no_comma other is = refl

pub principals_end_fail : {old a b c d : Cursor} {drafts : List NameDraft} {error : ParseError} →
    PassesWord old a Where →
    PassesWord a b Authority → PassesSymbol b c LeftParenthesis → ReadsNames c d drafts →
    (error ≡ fault.Unexpected d.at) × (¬ IsNextSymbol d RightParenthesis) → FailsAuthority old error
principals_end_fail {d = d} {error = error} first second third read other =
    fails_then (principals_taken first second third read) (fails_other d error (nested_at 0 due.after_principal) other.0
    (λ kind is. after_principal_none d kind read.ends other.1 is))

closed_taken : {old a b c d e : Cursor} {drafts : List NameDraft} → PassesWord old a Where → PassesWord a b Authority →
    PassesSymbol b c LeftParenthesis → ReadsNames c d drafts → PassesSymbol d e RightParenthesis →
    Takes old e authority_due (nested_at 0 (exactly due.left_brace) ∷ [])
closed_taken first second third read closed =
    takes_then (principals_taken first second third read) (takes_passed (nested_at 0 due.after_principal)
    (symbol RightParenthesis) (exactly due.left_brace ∷ []) 0 (step_symbol closed) closed.passes.counts none_nested refl
    refl)

pub authority_brace_fails : {old a b c d e : Cursor} {drafts : List NameDraft} {error : ParseError} →
    PassesWord old a Where → PassesWord a b Authority → PassesSymbol b c LeftParenthesis → ReadsNames c d drafts →
    PassesSymbol d e RightParenthesis → (error ≡ fault.Unexpected e.at) × (¬ IsNextSymbol e LeftBrace) →
    FailsAuthority old error
authority_brace_fails {e = e} {error = error} first second third read closed other =
    fails_then (closed_taken first second third read closed) (fails_fixed e error due.left_brace 0 other)

authority_of : (names : List (List ℕ)) (rest : List TokenKind) → ¬ (names ≡ []) →
    authority_then names rest
    ≡ Word Where ∷ Word Authority ∷ symbol LeftParenthesis ∷ names_then names (symbol RightParenthesis ∷ rest)
authority_of [] rest some = absurd (some refl)
authority_of (name ∷ names) rest some = refl

authority_width : (names : List (List ℕ)) → ¬ (names ≡ []) →
    length (authority_spelling names) ≡ length (names_tokens names) + 4
authority_width [] some = absurd (some refl)
authority_width (name ∷ names) some =
    omega (
      arith,
      length-append (map (marks.plain 0) (names_tokens (name ∷ names)))
          (marks.plain 0 (symbol RightParenthesis) ∷ []),
      length-map (names_tokens (name ∷ names)) (marks.plain 0),
    )

pub authority_read : {old a b c d e new : Cursor} {drafts : List NameDraft} → PassesWord old a Where →
    PassesWord a b Authority → PassesSymbol b c LeftParenthesis → ReadsNames c d drafts →
    PassesSymbol d e RightParenthesis → PassesSymbol e new LeftBrace → ReadsAuthority old new drafts
authority_read {old} {a} {b} {c} {d} {e} {new} {drafts} first second third read closed brace =
    let one = step_word first in
    let two = step_word second in
    let three = step_symbol third in
    let four = step_symbol closed in
    let five = step_symbol brace in
    let width = authority_width read.names read.some in
    let place : c.at ≡ old.at + 3 = omega (arith, one.moves.at, two.moves.at, three.moves.at) in
    record {
      names = read.names;
      written = one.is_next ∙ ap (λ ks. Word Where ∷ ks) (two.is_next ∙ ap (λ ks. Word Authority ∷ ks) (three.is_next
          ∙ ap (λ ks. symbol LeftParenthesis ∷ ks) (read.written ∙ ap (names_then read.names) (four.is_next
          ∙ ap (λ ks. symbol RightParenthesis ∷ ks) five.is_next))))
          ∙ sym (authority_of read.names (symbol LeftBrace ∷ kinds new.rest.now) read.some);
      drafts_are = read.drafts_are ∙ ap (λ at. names_at at read.names) place;
      moves = moves_as _ (omega (arith, width)) (moves_then (moves_then (moves_then (moves_then (moves_then one.moves
          two.moves) three.moves) read.moves) four.moves) five.moves);
      takes = takes_then (closed_taken first second third read closed) (takes_fixed due.left_brace 0 none_nested brace);
    }

-- ---- all that follows the begin label

abbrev behind_params : List Nested
behind_params = nested_at 0 due.authority ∷ statements_due due.body 0

pub tail_opening_fails : {old : Cursor} {error : ParseError} →
    (error ≡ fault.Unexpected old.at) × (¬ IsNextSymbol old LeftParenthesis) → FailsTail old error
tail_opening_fails {old} {error} other =
    fails_before (nested_at 0 due.params ∷ behind_params) (fails_fixed old error due.left_parenthesis 0 other)

tail_opened : {old a : Cursor} → PassesSymbol old a LeftParenthesis →
    Takes old a tail_due (nested_at 0 due.params ∷ behind_params)
tail_opened passed =
    takes_before (nested_at 0 due.params ∷ behind_params) (takes_fixed due.left_parenthesis 0 none_nested passed)

pub tail_params_fail : {old a : Cursor} {error : ParseError} → PassesSymbol old a LeftParenthesis →
    FailsParams a error →
    FailsTail old error
tail_params_fail passed fails = fails_then (tail_opened passed) (fails_before behind_params fails)

params_taken : {old a b : Cursor} {params : List ParamDraft} → PassesSymbol old a LeftParenthesis →
    ReadsParams a b params →
    Takes old b tail_due behind_params
params_taken passed read = takes_then (tail_opened passed) (takes_before behind_params read.takes)

pub tail_authority_fails : {old a b : Cursor} {params : List ParamDraft} {error : ParseError} →
    PassesSymbol old a LeftParenthesis → ReadsParams a b params → FailsAuthority b error → FailsTail old error
tail_authority_fails passed read fails =
    fails_then (params_taken passed read) (fails_before (statements_due due.body 0) fails)

authority_taken : {old a b c : Cursor} {params : List ParamDraft} {names : List NameDraft} →
    PassesSymbol old a LeftParenthesis → ReadsParams a b params → ReadsAuthority b c names →
    Takes old c tail_due (statements_due due.body 0)
authority_taken passed params read =
    takes_then (params_taken passed params) (takes_before (statements_due due.body 0) read.takes)

pub tail_body_fails : {old a b c : Cursor} {params : List ParamDraft} {names : List NameDraft} {error : ParseError} →
    PassesSymbol old a LeftParenthesis → ReadsParams a b params → ReadsAuthority b c names → FailsBody c error →
    FailsTail old error
tail_body_fails passed params read fails = fails_then (authority_taken passed params read) fails

pub tail_read : {old a b c new : Cursor} (tail : MethodTail) → PassesSymbol old a LeftParenthesis →
    ReadsParams a b tail.params.items → ReadsAuthority b c tail.authority.items → ReadsBody c new tail.body.items →
    ReadsTail old new tail
tail_read {old} {a} {b} {c} {new} tail passed params authority body =
    let first = step_symbol passed in
    let to_b = moves_then first.moves params.moves in
    let to_c = moves_then to_b authority.moves in
    let params_width = length (params_spelling params.params) in
    let authority_size = length (authority_spelling authority.names) in
    let authority_place : b.at + 3 ≡ old.at + 5 + params_width = omega (arith, to_b.at) in
    let body_place : c.at ≡ old.at + 3 + params_width + authority_size = omega (arith, to_c.at) in
    record {
      params = params.params;
      authority = authority.names;
      block = body.block;
      result = body.result;
      params_sound = params.sound;
      sound = body.sound;
      result_sound = body.result_sound;
      written = first.is_next ∙ ap (λ ks. symbol LeftParenthesis ∷ ks) (params.written
          ∙ ap (λ ks. params_then params.params (symbol RightParenthesis ∷ ks)) (authority.written
          ∙ ap (λ ks. authority_then authority.names (symbol LeftBrace ∷ ks)) body.written));
      params_are = params.drafts_are ∙ ap (λ at. params_at at params.params) first.moves.at;
      authority_is = authority.drafts_are ∙ ap (λ at. names_at at authority.names) authority_place;
      body_is = λ lines has. body.drafts_are lines (lines_moved lines to_c has)
          ∙ ap (λ at. block_at lines at body.block (result_at lines (at + block_width body.block) body.result))
          body_place;
      moves = moves_as _ (omega arith) (moves_then to_c body.moves);
      takes = takes_then (authority_taken passed params authority) body.takes;
    }
