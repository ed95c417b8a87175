-- Fields and methods, put together from what was read.
use Rattle.std.proofs.Common.{◌≡◌, ◌<◌, ℕ, ◌+◌, ◌-◌, ◌⊎◌, get_or, true, false, List, [], ◌∷◌, ◌++◌, length, map, Option}
use Rattle.std.proofs.Common.{Some, None, refl}
use Rattle.std.proofs.Common.{ap, sym, subst, ◌∙◌, arith, append_assoc, inl, inr}
use Rattle.std.proofs.lemmas.List.{append-nil, map-append}
use Rattle.std.specs.Option.{option_map}
use Rattle.std.specs.Bool.{◌==◌}
use Rattle.std.proofs.lemmas.Bool.Decides.{nat_tests}
use Rattle.jif_lex.specs.declared.token.Token.{Token}
use Rattle.jif_lex.specs.declared.token.TokenKind.{TokenKind}
use Rattle.jif_lex.specs.declared.token.TokenKind.TheVariants.{Name, Word}
use Rattle.jif_lex.specs.declared.token.Word.TheVariants.{Int, Void}
use Rattle.jif_lex.specs.declared.token.Symbol.TheVariants.{LeftBrace, RightBrace, RightParenthesis}
use Rattle.jif_lex.specs.declared.token.Symbol.TheVariants.{Semicolon}
use Rattle.label_lattice.specs.Written.{kinds, symbol, TrustIsLast}
use Rattle.jif_tree.specs.declared.draft.Draft.{Draft}
use Rattle.jif_tree.specs.declared.draft.LabelDraft.{LabelDraft}
use Rattle.jif_tree.specs.declared.draft.NameDraft.{NameDraft}
use Rattle.jif_grammar.specs.Phrases.{LabelPhrase, ExprPhrase, FieldEnd, unset, sized, set, FieldPhrase, MethodPhrase}
use Rattle.jif_grammar.specs.Phrases.{ItemPhrase, field, method, ProgramPhrase}
use Rattle.jif_grammar.specs.Grouping.{IsOptionalLabel, IsItem, IsProgram}
use Rattle.jif_grammar.specs.Due as due
use Rattle.jif_grammar.specs.Due.{Due, item_due, due_after_token, method_rest}
use Rattle.jif_grammar.specs.Marks as marks
use Rattle.jif_grammar.specs.Marks.{Beginning, Tally, Marked, mark, after_beginning, after_token}
use Rattle.jif_grammar.specs.Programs.{unexpected}
use Rattle.jif_grammar.specs.Nesting.{Nested, nested_at, nested_all}
use Rattle.jif_grammar.specs.Verdicts.{going, excess, excess_at, refusal_from, walk_within}
use Rattle.jif_grammar.specs.Spelling.{field_end_spelling, head_spelling, item_spelling}
use Rattle.jif_grammar.specs.Spelling.{params_spelling, authority_spelling, result_spelling}
use Rattle.jif_grammar.specs.DraftShapes.{label_shape, name_shape, field_shape, method_shape}
use Rattle.jif_grammar.specs.Drafts.{label_at, label_width, name_at, policies_at, trust_at, optional_label_at}
use Rattle.jif_grammar.specs.Drafts.{method_name_place, after_item, fields_at, methods_at, block_width, block_at}
use Rattle.jif_grammar.specs.Drafts.{result_at}
use Rattle.jif_grammar.specs.Drafts.{params_at, names_at}
use Rattle.jif_grammar.specs.Unmarked.{label_then, head_then, tail_then, field_end_then, item_then, program_then}
use Rattle.jif_grammar.specs.Unmarked.{authority_then, block_then, result_then}
use Rattle.jif_parse.specs.declared.cursor.Cursor.{Cursor}
use Rattle.jif_parse.specs.declared.fields.FieldEnding.{FieldEnding}
use Rattle.jif_parse.specs.declared.items.ItemDraft.{ItemDraft}
use Rattle.jif_parse.specs.declared.items.ItemDraft.TheVariants as draft
use Rattle.jif_parse.specs.declared.methods.MethodTail.{MethodTail}
use Rattle.jif_parse.specs.declared.parse_error.ParseError.{ParseError}
use Rattle.jif_parse.specs.declared.parse_error.ParseError.TheVariants as fault
use Rattle.jif_parse.specs.Counting.{IsTally, HasCounted}
use Rattle.jif_parse.specs.Reading.{behind, IsNextKind, IsNextSymbol, IsNextName, Takes, Fails, Moves, Passes, Counted}
use Rattle.jif_parse.specs.Reading.{IsOver}
use Rattle.jif_parse.specs.Phrases.{ReadsName, ReadsLabel, FailsLabel, ReadsParts, FailsParts}
use Rattle.jif_parse.specs.Statements.{HasLines}
use Rattle.jif_parse.specs.Fields.{ReadsFieldEnd, FailsFieldEnd}
use Rattle.jif_parse.specs.Methods.{ReadsNamed, FailsNamed, tail_due, ReadsTail, FailsTail}
use Rattle.jif_parse.specs.Items.{TakesWhole, FailsWhole, IsItemDraft, ReadsItem, HasAdded, ReadsItems}
use Rattle.jif_parse.specs.Widths.{Widths}
use Rattle.jif_parse.proofs.Limits.{any_nesting, no_excess}
use Rattle.jif_parse.proofs.Taking.{takes_before, fails_before, fails_at_limit}
use Rattle.jif_parse.proofs.Moving.{moves_then, moves_as, stepped, Stepped, takes_counted, next_kind, stays}
use Rattle.jif_parse.proofs.Fixed.{step_name, takes_name, fails_name}
use Rattle.jif_parse.proofs.Blocks.{lines_moved}
use Rattle.jif_parse.proofs.StatementParts.{label_width_is}
use Rattle.jif_parse.proofs.MethodParts.{none_nested, moved_falls, result_width}

-- ---- where nothing is due later

pub whole_then : {a b c : Cursor} {p q : List Nested} → TakesWhole a b p → Takes b c p q → TakesWhole a c q
whole_then {a} {b} {c} {p} {q} first second = record {
  same = λ t is.
      let one = first.same t is in
      let two = second.same [] one.0 one.1 in (
        two.0,
        two.1,
        one.2 ∙ ap (λ d. refusal_from (going d one.0) b.at (kinds b.rest.now)) (sym (append-nil p)) ∙ two.2
            ∙ ap (λ d. refusal_from (going d two.0) c.at (kinds c.rest.now)) (append-nil q),
      );
}

pub whole_fails : {a b : Cursor} {p : List Nested} {error : ParseError} → TakesWhole a b p → Fails b p error →
    FailsWhole a error
whole_fails {a} {b} {p} first fails = record {
  why = elim fails.why [
    | inl memory ↦ inl memory
    | inr told ↦ inr (
      told.0,
      told.1,
      λ t is.
          let one = first.same t is in
          one.2 ∙ ap (λ d. refusal_from (going d one.0) b.at (kinds b.rest.now)) (sym (append-nil p))
          ∙ told.2 [] one.0 one.1,
    )
  ];
}

pub whole_whole : {a b c : Cursor} → TakesWhole a b [] → TakesWhole b c [] → TakesWhole a c []
whole_whole first second = record {
  same = λ t is.
      let one = first.same t is in
      let two = second.same one.0 one.1 in
      (two.0, two.1, one.2 ∙ two.2);
}

pub later_item_fails : {a b : Cursor} {error : ParseError} → TakesWhole a b [] → FailsWhole b error → FailsWhole a error
later_item_fails first fails = record {
  why = elim fails.why [
    | inl memory ↦ inl memory
    | inr told ↦ inr (told.0, told.1, λ t is. let one = first.same t is in one.2 ∙ told.2 one.0 one.1)
  ];
}

-- ---- first tokens

abbrev behind_int : List Nested
behind_int = nested_all 0 [] (due.label ∷ due.a_name ∷ due.after_name ∷ [])

abbrev behind_void : List Nested
behind_void = nested_all 0 [] (due.a_name ∷ due.label ∷ method_rest)

item_step : {old new : Cursor} (kind : TokenKind) (sooner : List Nested) (beginning : Beginning) →
    Stepped old new kind →
    HasCounted old.counts new.counts beginning →
    ((t : Tally) (n : ℕ) (more : List TokenKind) → refusal_from (going [] t) n (kind ∷ more)
    ≡ refusal_from (walk_within (excess (after_token t (mark beginning 0 kind))) sooner
    (after_token t (mark beginning 0 kind)) n)
    (n + 1) more) → TakesWhole old new sooner
item_step {old} {new} kind sooner beginning step counted walks = record {
  same = λ t is.
      let after = after_token t (mark beginning 0 kind) in
      let within = any_nesting new.counts (after_beginning t beginning) 0 (counted t is) in (
        after,
        within,
        ap (refusal_from (going [] t) old.at) step.is_next ∙ walks t old.at (kinds new.rest.now)
            ∙ ap (λ o. refusal_from (walk_within o sooner after old.at) (old.at + 1) (kinds new.rest.now))
            (no_excess new.counts after within none_nested)
            ∙ ap (λ n. refusal_from (going sooner after) n (kinds new.rest.now)) (sym step.moves.at),
      );
}

int_taken : {old a : Cursor} → IsNextKind old (Word Int) → Passes old a → TakesWhole old a behind_int
int_taken {old} {a} next passes =
    item_step (Word Int) behind_int marks.nothing (stepped (Word Int) next passes.steps)
    (λ t is. subst (λ counts. IsTally counts t) (sym passes.counts) is) (λ t n more. refl)

void_taken : {old a : Cursor} → IsNextKind old (Word Void) → Counted old a 0 marks.method → TakesWhole old a behind_void
void_taken {old} {a} next counted =
    item_step (Word Void) behind_void marks.method (stepped (Word Void) next counted.steps) counted.counted
    (λ t n more. refl)

pub void_over : {old : Cursor} {error : ParseError} → IsNextKind old (Word Void) → IsOver old 0 marks.method error →
    FailsWhole old error
void_over {old} next over = record {
  why = inr (
    excess_at over.0 old.at,
    over.1,
    λ t is.
        let after = after_token t (mark marks.method 0 (Word Void)) in
        ap (refusal_from (going [] t) old.at) next
        ∙ ap (λ o. refusal_from (walk_within o behind_void after old.at) (old.at + 1) (kinds (behind old)))
        (over.2 t is),
  );
}

no_item : (t : Tally) (n : ℕ) (kind : TokenKind) (more : List TokenKind) → ¬ (kind ≡ Word Int) → ¬ (kind ≡ Word Void) →
    refusal_from (going [] t) n (kind ∷ more) ≡ Some (unexpected n)
no_item t n (Word Int) more no_int no_void = absurd (no_int refl)
no_item t n (Word Void) more no_int no_void = absurd (no_void refl)
no_item t n _ more no_int no_void = refl

unexpected_first : (t : Tally) (n : ℕ) (tokens : List Token) → ¬ (tokens ≡ []) →
    ((kind : TokenKind) (more : List TokenKind) → kinds tokens ≡ kind ∷ more → ¬ (kind ≡ Word Int)) →
    ((kind : TokenKind) (more : List TokenKind) → kinds tokens ≡ kind ∷ more → ¬ (kind ≡ Word Void)) →
    refusal_from (going [] t) n (kinds tokens) ≡ Some (unexpected n)
unexpected_first t n [] some no_int no_void = absurd (some refl)
unexpected_first t n (next ∷ tokens) some no_int no_void =
    no_item t n next.kind (kinds tokens) (no_int next.kind (kinds tokens) refl) (no_void next.kind (kinds tokens) refl)

not_next : (old : Cursor) (written : TokenKind) → ¬ IsNextKind old written →
    (kind : TokenKind) (more : List TokenKind) →
    kinds old.rest.now ≡ kind ∷ more → ¬ (kind ≡ written)
not_next old written other kind more is same = other (next_kind old written more (is ∙ ap (λ k. k ∷ more) same))

pub item_unexpected : {old : Cursor} {error : ParseError} → ¬ (old.rest.now ≡ []) → ¬ IsNextKind old (Word Int) →
    ¬ IsNextKind old (Word Void) → error ≡ fault.Unexpected old.at → FailsWhole old error
item_unexpected {old} some no_int no_void tells = record {
  why = inr (
    unexpected old.at,
    tells,
    λ t is. unexpected_first t old.at old.rest.now some (not_next old (Word Int) no_int)
        (not_next old (Word Void) no_void),
  );
}

-- ---- fields

pub named_fails : {old a : Cursor} {error : ParseError} → IsNextKind old (Word Int) → Passes old a →
    FailsNamed a error →
    FailsWhole old error
named_fails next passes fails = whole_fails (int_taken next passes)
    (fails_before (nested_at 0 due.after_name ∷ []) fails)

named_taken : {old a b : Cursor} {label : LabelDraft} {name : NameDraft} → IsNextKind old (Word Int) → Passes old a →
    ReadsNamed a b label name → TakesWhole old b (nested_at 0 due.after_name ∷ [])
named_taken next passes read = whole_then (int_taken next passes)
    (takes_before (nested_at 0 due.after_name ∷ []) read.takes)

pub field_end_fails : {old a b : Cursor} {label : LabelDraft} {name : NameDraft} {error : ParseError} →
    IsNextKind old (Word Int) → Passes old a → ReadsNamed a b label name → FailsFieldEnd b error → FailsWhole old error
field_end_fails next passes read fails = whole_fails (named_taken next passes read) fails

field_end_width : (ending : FieldEnd) → length (field_end_then ending []) ≡ length (field_end_spelling ending)
field_end_width unset = refl
field_end_width (sized size) = refl
field_end_width (set false first) = refl
field_end_width (set true first) = refl

pub field_read : {old a b new : Cursor} {label : LabelDraft} {name : NameDraft} {ending : FieldEnding} → Widths →
    IsNextKind old (Word Int) → Passes old a → ReadsNamed a b label name → ReadsFieldEnd b new ending →
    ReadsItem old new (draft.Field (record {
      label = label;
      name = name;
      size = ending.size;
      array = ending.array;
      first = ending.first;
    }))
field_read {old} {a} {b} {new} {label} {name} {ending} w next passes read last =
    let first = stepped (Word Int) next passes.steps in
    let phrase : FieldPhrase = record { label = read.label; name = read.name; ending = last.ending } in
    let label_is = read.label_is ∙ ap (λ at. label_at at read.label) first.moves.at in
    let place : a.at + label_width read.label ≡ old.at + 1 + label_width read.label = omega (arith, first.moves.at) in
    let name_is = read.name_is ∙ ap (λ at. name_at at read.name) place in
    let width : length (item_spelling (field phrase)) ≡ label_width read.label + length
    (field_end_spelling last.ending) + 2 =
    omega (
      arith,
      w.item (field phrase) [],
      w.label read.label (Name read.name ∷ field_end_then last.ending []),
      field_end_width last.ending,
    ) in
    record {
      item = field phrase;
      sound = (read.sound, last.sound);
      written = first.is_next ∙ ap (λ ks. Word Int ∷ ks) (read.written
          ∙ ap (λ ks. label_then read.label (Name read.name ∷ ks)) last.written);
      draft_is = λ lines has. cc (label_is, name_is, last.size_is, last.array_is, last.first_is);
      moves = moves_as _ (omega (arith, width)) (moves_then (moves_then first.moves read.moves) last.moves);
      takes = whole_then (named_taken next passes read) last.takes;
    }

-- ---- methods

result_then_width : (w : Widths) (result : Option ExprPhrase) → length (result_then result (symbol RightBrace ∷ []))
    ≡ length (result_spelling result) + 1
result_then_width w None = refl
result_then_width w (Some value) =
    omega (arith, w.expr value (symbol Semicolon ∷ symbol RightBrace ∷ []), result_width value)

method_width : (w : Widths) (phrase : MethodPhrase) → length (item_spelling (method phrase))
    ≡ length (head_spelling phrase.kind phrase.name phrase.begin) + length (params_spelling phrase.params)
    + length (authority_spelling phrase.authority) + block_width phrase.body + length
    (result_spelling phrase.result) + 4
method_width w phrase =
    let end = result_then phrase.result (symbol RightBrace ∷ []) in
    let body = symbol LeftBrace ∷ block_then phrase.body end in
    let rest = symbol RightParenthesis ∷ authority_then phrase.authority body in
    omega (
      arith,
      w.item (method phrase) [],
      w.head phrase.kind phrase.name phrase.begin (tail_then phrase []),
      w.params phrase.params rest,
      w.authority phrase.authority body,
      w.block phrase.body end,
      result_then_width w phrase.result,
    )

-- a method, by its head and what follows
pub method_read : {old t new : Cursor} {result : Option LabelDraft} {name : NameDraft} {begin : LabelDraft} {line : ℕ}
    (tail : MethodTail) (kind : Option LabelPhrase) (name_phrase : List ℕ) (begin_phrase : LabelPhrase) → Widths →
    ((lines : ℕ → ℕ) → HasLines lines old → line ≡ lines old.at) → IsOptionalLabel kind → TrustIsLast begin_phrase →
    kinds old.rest.now ≡ head_then kind name_phrase begin_phrase (kinds t.rest.now) →
    option_map label_shape result ≡ optional_label_at (old.at + 1) kind →
    name_shape name ≡ name_at (method_name_place old.at kind) name_phrase →
    label_shape begin ≡ label_at (method_name_place old.at kind + 1) begin_phrase →
    Moves old t (length (head_spelling kind name_phrase begin_phrase)) → TakesWhole old t tail_due →
    ReadsTail t new tail →
    ReadsItem old new (draft.Method (record {
      result = result;
      name = name;
      begin = begin;
      params = tail.params;
      authority = tail.authority;
      line = line;
      body = tail.body;
    }))
method_read {old} {t} {new} {result} {name} {begin} {line} tail kind name_phrase begin_phrase w line_is kind_sound
    begin_sound written result_is name_is begin_is moves takes read =
    let phrase : MethodPhrase = record {
      kind = kind;
      name = name_phrase;
      begin = begin_phrase;
      params = read.params;
      authority = read.authority;
      body = read.block;
      result = read.result;
    } in
    let width = method_width w phrase in
    let params_place = old.at + length (head_spelling kind name_phrase begin_phrase) + 1 in
    let authority_place = params_place + length (params_spelling read.params) + 1 in
    let body_place = authority_place + length (authority_spelling read.authority) + 1 in
    let at_params : t.at + 1 ≡ params_place = omega (arith, moves.at) in
    let at_authority : t.at + 5 + length (params_spelling read.params) ≡ authority_place + 3 =
    omega (arith, moves.at) in
    let at_body : t.at + 3 + length (params_spelling read.params) + length (authority_spelling read.authority)
    ≡ body_place =
    omega (arith, moves.at) in
    let params_are = read.params_are ∙ ap (λ at. params_at at read.params) at_params in
    let authority_is = read.authority_is ∙ ap (λ at. names_at at read.authority) at_authority in
    record {
      item = method phrase;
      sound = (kind_sound, begin_sound, read.params_sound, read.sound, read.result_sound);
      written = written ∙ ap (head_then kind name_phrase begin_phrase) read.written;
      draft_is = λ lines has.
          let body_is = read.body_is lines (lines_moved lines moves has)
          ∙ ap (λ at. block_at lines at read.block (result_at lines (at + block_width read.block) read.result))
          at_body in
          let at_line = line_is lines has in
          cc (result_is, name_is, begin_is, params_are, authority_is, body_is, at_line);
      moves = moves_as _ (omega (arith, width)) (moves_then moves read.moves);
      takes = whole_then takes read.takes;
    }

-- ---- `void` methods

pub void_name_fails : {old a : Cursor} {error : ParseError} → IsNextKind old (Word Void) →
    Counted old a 0 marks.method →
    (error ≡ fault.OutOfMemory) ⊎ ((error ≡ fault.Unexpected a.at) × ¬ IsNextName a) → FailsWhole old error
void_name_fails {a = a} {error = error} next counted other =
    whole_fails (void_taken next counted) (fails_before (nested_all 0 [] (due.label ∷ method_rest))
    (fails_name a error 0 other))

void_name_taken : {old a b : Cursor} {name : NameDraft} → IsNextKind old (Word Void) → Counted old a 0 marks.method →
    ReadsName a b name → TakesWhole old b (nested_at 0 due.label ∷ tail_due)
void_name_taken next counted read =
    whole_then (void_taken next counted) (takes_before (nested_at 0 due.label ∷ tail_due)
    (takes_name 0 none_nested read))

pub void_label_fails : {old a b : Cursor} {name : NameDraft} {error : ParseError} → IsNextKind old (Word Void) →
    Counted old a 0 marks.method → ReadsName a b name → FailsLabel b error → FailsWhole old error
void_label_fails next counted read fails =
    whole_fails (void_name_taken next counted read) (fails_before tail_due (fails 0 none_nested))

void_head_taken : {old a b c : Cursor} {name : NameDraft} {begin : LabelDraft} → IsNextKind old (Word Void) →
    Counted old a 0 marks.method → ReadsName a b name → ReadsLabel b c begin → TakesWhole old c tail_due
void_head_taken next counted read label =
    whole_then (void_name_taken next counted read) (takes_before tail_due (label.takes 0 none_nested))

pub void_tail_fails : {old a b c : Cursor} {name : NameDraft} {begin : LabelDraft} {error : ParseError} →
    IsNextKind old (Word Void) → Counted old a 0 marks.method → ReadsName a b name → ReadsLabel b c begin →
    FailsTail c error → FailsWhole old error
void_tail_fails next counted read label fails = whole_fails (void_head_taken next counted read label) fails

pub void_read : {old a b c new : Cursor} {name : NameDraft} {begin : LabelDraft} {line : ℕ} (tail : MethodTail) →
    Widths →
    ((lines : ℕ → ℕ) → HasLines lines old → line ≡ lines old.at) → IsNextKind old (Word Void) →
    Counted old a 0 marks.method → ReadsName a b name → ReadsLabel b c begin → ReadsTail c new tail →
    ReadsItem old new (draft.Method (record {
      result = None;
      name = name;
      begin = begin;
      params = tail.params;
      authority = tail.authority;
      line = line;
      body = tail.body;
    }))
void_read {old} {a} {b} {c} {new} {name} {begin} {line} tail w line_is next counted read label rest =
    let first = stepped (Word Void) next counted.steps in
    let second = step_name read in
    let name_place : a.at ≡ old.at + 1 + 0 = omega (arith, first.moves.at) in
    let begin_place : b.at ≡ old.at + 1 + 0 + 1 = omega (arith, first.moves.at, second.moves.at) in
    let width : length (head_spelling None read.name label.label) ≡ label_width label.label + 2 = omega arith in
    method_read tail None read.name label.label w line_is tt label.trust_is_last
    (first.is_next ∙ ap (λ ks. Word Void ∷ ks) (second.is_next ∙ ap (λ ks. Name read.name ∷ ks) label.written))
    refl (read.draft_is ∙ ap (λ at. name_at at read.name) name_place)
    (label.draft_is ∙ ap (λ at. label_at at label.label) begin_place)
    (moves_as _ (omega (arith, width)) (moves_then (moves_then first.moves second.moves) label.moves))
    (void_head_taken next counted read label) rest

-- ---- `int` methods

pub int_method_over : {old a b : Cursor} {label : LabelDraft} {name : NameDraft} {error : ParseError} →
    IsNextKind old (Word Int) → Passes old a → ReadsNamed a b label name → IsNextSymbol b LeftBrace →
    IsOver b 0 marks.method error → FailsWhole old error
int_method_over {b = b} next passes read brace over =
    whole_fails (named_taken next passes read) (fails_at_limit (nested_at 0 due.after_name) (symbol LeftBrace)
    (kinds (behind b)) (due.first_part ∷ method_rest) 0 marks.method brace over refl refl)

brace_taken : {old a b c : Cursor} {label : LabelDraft} {name : NameDraft} → IsNextKind old (Word Int) → Passes old a →
    ReadsNamed a b label name → IsNextSymbol b LeftBrace → Counted b c 0 marks.method →
    TakesWhole old c (nested_at 0 due.first_part ∷ tail_due)
brace_taken next passes read brace counted =
    whole_then (named_taken next passes read) (takes_counted (nested_at 0 due.after_name) (symbol LeftBrace)
    (due.first_part ∷ method_rest) 0 marks.method brace counted refl refl)

pub begin_fails : {old a b c : Cursor} {label : LabelDraft} {name : NameDraft} {error : ParseError} →
    IsNextKind old (Word Int) → Passes old a → ReadsNamed a b label name → IsNextSymbol b LeftBrace →
    Counted b c 0 marks.method → FailsParts c error → FailsWhole old error
begin_fails next passes read brace counted fails =
    whole_fails (brace_taken next passes read brace counted) (fails_before tail_due (fails 0 none_nested))

int_head_taken : {old a b c d : Cursor} {label begin : LabelDraft} {name : NameDraft} → IsNextKind old (Word Int) →
    Passes old a → ReadsNamed a b label name → IsNextSymbol b LeftBrace → Counted b c 0 marks.method →
    ReadsParts c d begin → TakesWhole old d tail_due
int_head_taken next passes read brace counted parts =
    whole_then (brace_taken next passes read brace counted) (takes_before tail_due (parts.takes 0 none_nested))

pub int_tail_fails : {old a b c d : Cursor} {label begin : LabelDraft} {name : NameDraft} {error : ParseError} →
    IsNextKind old (Word Int) → Passes old a → ReadsNamed a b label name → IsNextSymbol b LeftBrace →
    Counted b c 0 marks.method → ReadsParts c d begin → FailsTail d error → FailsWhole old error
int_tail_fails next passes read brace counted parts fails =
    whole_fails (int_head_taken next passes read brace counted parts) fails

pub int_read : {old a b c d new : Cursor} {label begin : LabelDraft} {name : NameDraft} {line : ℕ} (tail : MethodTail) →
    Widths → ((lines : ℕ → ℕ) → HasLines lines old → line ≡ lines old.at) → IsNextKind old (Word Int) → Passes old a →
    ReadsNamed a b label name → IsNextSymbol b LeftBrace → Counted b c 0 marks.method → ReadsParts c d begin →
    ReadsTail d new tail →
    ReadsItem old new (draft.Method (record {
      result = Some label;
      name = name;
      begin = begin;
      params = tail.params;
      authority = tail.authority;
      line = line;
      body = tail.body;
    }))
int_read {old} {a} {b} {c} {d} {new} {label} {begin} {name} {line} tail w line_is next passes read brace counted parts
    rest =
    let first = stepped (Word Int) next passes.steps in
    let third = stepped (symbol LeftBrace) brace counted.steps in
    let width_of_begin = label_width_is parts.label in
    let head : length (head_spelling (Some read.label) read.name parts.label)
    ≡ label_width read.label + label_width parts.label + 2 =
    omega (
      arith,
      w.head (Some read.label) read.name parts.label [],
      w.label read.label (Name read.name ∷ label_then parts.label []),
      w.label parts.label [],
    ) in
    let name_place : a.at + label_width read.label ≡ method_name_place old.at (Some read.label) =
    omega (arith, first.moves.at) in
    let begin_place : c.at ≡ method_name_place old.at (Some read.label) + 1 + 1 =
    omega (arith, first.moves.at, read.moves.at, third.moves.at) in
    method_read tail (Some read.label) read.name parts.label w line_is read.sound parts.trust_is_last
    (first.is_next ∙ ap (λ ks. Word Int ∷ ks) (read.written
    ∙ ap (λ ks. label_then read.label (Name read.name ∷ ks)) (third.is_next
    ∙ ap (λ ks. symbol LeftBrace ∷ ks) parts.written)))
    (ap Some (read.label_is ∙ ap (λ at. label_at at read.label) first.moves.at))
    (read.name_is ∙ ap (λ at. name_at at read.name) name_place)
    (parts.draft_is ∙ ap (λ at. record {
      policies = policies_at at parts.label;
      trust =
          trust_at at parts.label;
    }) begin_place)
    (moves_as _ (omega (arith, head, width_of_begin))
    (moves_then (moves_then (moves_then first.moves read.moves) third.moves) parts.moves))
    (int_head_taken next passes read brace counted parts) rest

-- ---- programs

program_more : (program : ProgramPhrase) (item : ItemPhrase) (rest : List TokenKind) →
    program_then (program ++ item ∷ []) rest ≡ program_then program (item_then item rest)
program_more [] item rest = refl
program_more (first ∷ program) item rest = ap (item_then first) (program_more program item rest)

sound_more : (program : ProgramPhrase) (item : ItemPhrase) → IsProgram program → IsItem item →
    IsProgram (program ++ item ∷ [])
sound_more [] item sound one = (one, tt)
sound_more (first ∷ program) item sound one = (sound.0, sound_more program item sound.1 one)

-- the fields and methods so far
pub record ItemsRead (old now : Cursor) (made : Draft) : Type 0 where
  pub program : ProgramPhrase
  pub sound : IsProgram program
  pub written : kinds old.rest.now ≡ program_then program (kinds now.rest.now)
  pub fields_are : (more : ProgramPhrase) →
      fields_at old.at (program ++ more) ≡ map field_shape made.fields.items ++ fields_at now.at more
  pub methods_are : (lines : ℕ → ℕ) → HasLines lines old → (more : ProgramPhrase) →
      methods_at lines old.at (program ++ more) ≡ map method_shape made.methods.items ++ methods_at lines now.at more
  pub count : ℕ
  pub moves : Moves old now count
  pub takes : TakesWhole old now []

pub nothing_read : (old : Cursor) (made : Draft) → made.fields.items ≡ [] → made.methods.items ≡ [] →
    ItemsRead old old made
nothing_read old made no_fields no_methods = record {
  program = [];
  sound = tt;
  written = refl;
  fields_are = λ more. ap (λ xs. map field_shape xs ++ fields_at old.at more) (sym no_fields);
  methods_are = λ lines has more. ap (λ xs. map method_shape xs ++ methods_at lines old.at more) (sym no_methods);
  count = 0;
  moves = stays old;
  takes = record { same = λ t is. (t, is, refl) };
}

fields_more : (old new : ℕ) (made : ItemDraft) (item : ItemPhrase) (lines : ℕ → ℕ) (before after : Draft)
    (more : ProgramPhrase) →
    new ≡ after_item old item → HasAdded before after made → IsItemDraft lines old item made →
    map field_shape before.fields.items ++ fields_at old (item ∷ more)
    ≡ map field_shape after.fields.items ++ fields_at new more
fields_more old new (draft.Field made) (field phrase) lines before after more place added is =
    ap (λ s. map field_shape before.fields.items ++ s ∷ fields_at (after_item old (field phrase)) more) (sym is)
    ∙ ap (λ at. map field_shape before.fields.items ++ field_shape made ∷ fields_at at more) (sym place)
    ∙ sym (append_assoc (map field_shape before.fields.items) (field_shape made ∷ []) (fields_at new more))
    ∙ ap (λ xs. xs ++ fields_at new more) (sym (map-append field_shape before.fields.items (made ∷ []))
    ∙ ap (map field_shape) (sym added.0))
fields_more old new (draft.Method made) (method phrase) lines before after more place added is =
    ap (λ at. map field_shape before.fields.items ++ fields_at at more) (sym place)
    ∙ ap (λ xs. map field_shape xs ++ fields_at new more) (sym added.0)
fields_more old new (draft.Field made) (method phrase) lines before after more place added is = absurd is
fields_more old new (draft.Method made) (field phrase) lines before after more place added is = absurd is

methods_more : (old new : ℕ) (made : ItemDraft) (item : ItemPhrase) (lines : ℕ → ℕ) (before after : Draft)
    (more : ProgramPhrase) →
    new ≡ after_item old item → HasAdded before after made → IsItemDraft lines old item made →
    map method_shape before.methods.items ++ methods_at lines old (item ∷ more)
    ≡ map method_shape after.methods.items ++ methods_at lines new more
methods_more old new (draft.Method made) (method phrase) lines before after more place added is =
    ap (λ s. map method_shape before.methods.items ++ s ∷ methods_at lines (after_item old (method phrase)) more)
    (sym is)
    ∙ ap (λ at. map method_shape before.methods.items ++ method_shape made ∷ methods_at lines at more) (sym place)
    ∙ sym (append_assoc (map method_shape before.methods.items) (method_shape made ∷ []) (methods_at lines new more))
    ∙ ap (λ xs. xs ++ methods_at lines new more) (sym (map-append method_shape before.methods.items (made ∷ []))
    ∙ ap (map method_shape) (sym added.1))
methods_more old new (draft.Field made) (field phrase) lines before after more place added is =
    ap (λ at. map method_shape before.methods.items ++ methods_at lines at more) (sym place)
    ∙ ap (λ xs. map method_shape xs ++ methods_at lines new more) (sym added.1)
methods_more old new (draft.Field made) (method phrase) lines before after more place added is = absurd is
methods_more old new (draft.Method made) (field phrase) lines before after more place added is = absurd is

-- the lines of the tokens that are left, so that an item has some
abbrev lines_of : Cursor → ℕ → ℕ
lines_of cursor n = get_or (map (λ token. token.line) cursor.rest.now) (n - cursor.at) 0

has_lines : (cursor : Cursor) → HasLines (lines_of cursor) cursor
has_lines cursor k =
    let line : Token → ℕ = λ token. token.line in
    let same : k ≡ cursor.at + k - cursor.at = omega arith in
    ap (λ n. get_or (map line cursor.rest.now) n 0) same

pub item_more : {old now new : Cursor} {made : ItemDraft} (before after : Draft) → ItemsRead old now before →
    ReadsItem now new made → HasAdded before after made → ItemsRead old new after
item_more {old} {now} {new} {made} before after so_far read added =
    let item = read.item in
    record {
      program = so_far.program ++ item ∷ [];
      sound = sound_more so_far.program item so_far.sound read.sound;
      written = so_far.written ∙ ap (program_then so_far.program) read.written
          ∙ sym (program_more so_far.program item (kinds new.rest.now));
      fields_are = λ more. ap (fields_at old.at) (append_assoc so_far.program (item ∷ []) more)
          ∙ so_far.fields_are (item ∷ more)
          ∙ fields_more now.at new.at made item (lines_of now) before after more read.moves.at added
          (read.draft_is (lines_of now) (has_lines now));
      methods_are = λ lines has more. ap (methods_at lines old.at) (append_assoc so_far.program (item ∷ []) more)
          ∙ so_far.methods_are lines has (item ∷ more)
          ∙ methods_more now.at new.at made item lines before after more read.moves.at added
          (read.draft_is lines (lines_moved lines so_far.moves has));
      count = so_far.count + length (item_spelling item);
      moves = moves_then so_far.moves read.moves;
      takes = whole_whole so_far.takes read.takes;
    }

pub none_left : (tokens : List Token) → true ≡ (length tokens == 0) → tokens ≡ []
none_left [] is = refl
none_left (first ∷ tokens) is =
    let none : length tokens + 1 ≡ 0 = grind (arith, nat_tests) in
    absurd (omega (arith, none))

pub all_items : {old now : Cursor} {made : Draft} → ItemsRead old now made → now.rest.now ≡ [] → ReadsItems old made
all_items {old} {now} {made} so_far none = record {
  program = so_far.program;
  sound = so_far.sound;
  written = so_far.written ∙ ap (λ tokens. program_then so_far.program (kinds tokens)) none;
  draft_is = λ lines has.
      let fields_are = ap (fields_at old.at) (sym (append-nil so_far.program)) ∙ so_far.fields_are []
      ∙ append-nil (map field_shape made.fields.items) in
      let methods_are = ap (methods_at lines old.at) (sym (append-nil so_far.program)) ∙ so_far.methods_are lines has []
      ∙ append-nil (map method_shape made.methods.items) in
      cc (fields_are, methods_are);
  accepted = λ t is.
      let end = so_far.takes.same t is in
      end.2 ∙ ap (λ tokens. refusal_from (going [] end.0) now.at (kinds tokens)) none;
}

item_first : (item : ItemPhrase) (rest : List TokenKind) →
    (kind : TokenKind) × ((more : List TokenKind) × (item_then item rest ≡ kind ∷ more))
item_first (field phrase) rest = (_, (_, refl))
item_first (method phrase) rest = by_kind phrase.kind
  where
    by_kind : (kind : Option LabelPhrase) → (first : TokenKind) × ((more : List TokenKind)
        × (head_then kind phrase.name phrase.begin (tail_then phrase rest) ≡ first ∷ more))
    by_kind None = (_, (_, refl))
    by_kind (Some label) = (_, (_, refl))

pub item_falls : {old new : Cursor} {made : ItemDraft} → Widths → ReadsItem old new made →
    length new.rest.now < length old.rest.now
item_falls {old} {new} w read =
    let first = item_first read.item (kinds new.rest.now) in
    let alone = item_first read.item [] in
    moved_falls first.0 first.1.0 (read.written ∙ first.1.1)
    (omega (arith, w.item read.item [], ap length alone.1.1)) read.moves
