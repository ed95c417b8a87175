-- A token and what it makes due are written for what was due: programs, and all that is due.
use Rattle.std.proofs.Common.{◌≡◌, inl, inr, ℕ, suc, ℤ, true, false, pos, List, [], ◌∷◌, ◌++◌}
use Rattle.std.proofs.Common.{refl, ap, sym, subst, ◌∙◌, Option, Some, None, arith}
use Rattle.jif_lex.specs.declared.token.TokenKind.{TokenKind}
use Rattle.jif_lex.specs.declared.token.TokenKind.TheVariants.{Name, Number, Word}
use Rattle.jif_lex.specs.declared.token.TokenKind.TheVariants as token
use Rattle.jif_lex.specs.declared.token.Symbol.{Symbol}
use Rattle.jif_lex.specs.declared.token.Symbol.TheVariants as symbols
use Rattle.jif_lex.specs.declared.token.Word as words_type
use Rattle.jif_lex.specs.declared.token.Word.TheVariants as words
use Rattle.label_lattice.specs.Written.{symbol}
use Rattle.jif_grammar.specs.Phrases.{ParamPhrase, unset, sized, set, MethodPhrase, field, method, ProgramPhrase}
use Rattle.jif_grammar.specs.Grouping.{IsProgram}
use Rattle.jif_grammar.specs.Due as due
use Rattle.jif_grammar.specs.Due.{item_due, before_due, due_next}
use Rattle.jif_grammar.specs.Due.{Due, Closing, Place, call_rest, method_rest, local_rest, due_after_symbol}
use Rattle.jif_grammar.specs.Due.{due_after_word, due_after_name, due_after_number, due_after_token}
use Rattle.jif_grammar.specs.Unmarked.{name_then, label_then, param_then, sign_then, field_end_then, tail_then}
use Rattle.jif_grammar.specs.Unmarked.{program_then}
use Rattle.jif_grammar.proofs.Written.{joined_more, more_names, more_params, WrittenValue}
use Rattle.jif_grammar.proofs.Written.{Written, AreWritten, WrittenFrom}
use Rattle.jif_grammar.proofs.DueSound.{got, fixed_sound, policy_part, first_of_part, part_sound, parts_behind}
use Rattle.jif_grammar.proofs.DueSound.{more_readers, first_reader, more_members, first_member, number_sound}
use Rattle.jif_grammar.proofs.DueSound.{operand_symbol_sound, operand_word_sound, after_operand_sound}
use Rattle.jif_grammar.proofs.DueSound.{name_symbol_sound}
use Rattle.jif_grammar.proofs.DueStatements.{call_of, args_of, statement_symbol_sound, named_statement}
use Rattle.jif_grammar.proofs.DueStatements.{statement_word_sound, otherwise_word_sound, labelled_local, plain_local}
use Rattle.jif_grammar.proofs.DueStatements.{value_named, element_of, named_operand, tail_of}

-- ---- fields and methods

sized_field : (r rest : List TokenKind) →
    AreWritten (due.a_size ∷ due.exactly due.right_bracket ∷ due.exactly due.semicolon ∷ []) r rest →
    Written due.after_name (symbol symbols.LeftBracket ∷ r) rest
sized_field r rest (x, (n, number), (y, bracket, (z, semicolon, last))) =
    inl (
      sized (suc n),
      omega arith,
      ap (λ ts. symbol symbols.LeftBracket ∷ ts) (number
          ∙ ap (λ ts. Number (pos (suc n)) ∷ ts) (bracket ∙ ap (λ ts. symbol symbols.RightBracket ∷ ts) (semicolon
          ∙ ap (λ ts. symbol symbols.Semicolon ∷ ts) last))),
    )

set_field : (r rest : List TokenKind) → AreWritten (due.first_value ∷ []) r rest →
    Written due.after_name (symbol symbols.Assign ∷ r) rest
set_field r rest (x, (negative, n, inside), last) =
    inl (
      set negative n,
      tt,
      ap (λ ts. symbol symbols.Assign ∷ ts) (inside
          ∙ ap (λ ts. sign_then negative (Number (pos n) ∷ symbol symbols.Semicolon ∷ ts)) last),
    )

begun_method : (r rest : List TokenKind) → AreWritten (due.first_part ∷ method_rest) r rest →
    Written due.after_name (symbol symbols.LeftBrace ∷ r) rest
begun_method r rest (x, (label, sound, inside), more) =
    inr (record {
      begin = label;
      sound = sound;
      behind = x;
      tail = tail_of x rest more;
      written = ap (λ ts. symbol symbols.LeftBrace ∷ ts) inside;
    })

negative_value : (r rest : List TokenKind) → AreWritten (due.a_number ∷ due.exactly due.semicolon ∷ []) r rest →
    Written due.first_value (symbol symbols.Minus ∷ r) rest
negative_value r rest (x, (n, number), (y, semicolon, last)) = (
  true,
  n,
  ap (λ ts. symbol symbols.Minus ∷ ts) (number ∙ ap (λ ts. Number (pos n) ∷ ts) (semicolon
      ∙ ap (λ ts. symbol symbols.Semicolon ∷ ts) last)),
)

positive_value : (n : ℕ) (r rest : List TokenKind) → AreWritten (due.exactly due.semicolon ∷ []) r rest →
    Written due.first_value (Number (pos n) ∷ r) rest
positive_value n r rest (x, semicolon, last) =
    (false, n, ap (λ ts. Number (pos n) ∷ ts) (semicolon ∙ ap (λ ts. symbol symbols.Semicolon ∷ ts) last))

whole_label : (r rest : List TokenKind) → AreWritten (due.first_part ∷ []) r rest →
    Written due.label (symbol symbols.LeftBrace ∷ r) rest
whole_label r rest (x, (label, sound, inside), last) =
    (label, sound, ap (λ ts. symbol symbols.LeftBrace ∷ ts) inside ∙ ap (label_then label) last)

first_param : (r rest : List TokenKind) → AreWritten (due.label ∷ due.a_name ∷ due.after_param ∷ []) r rest →
    Written due.params (Word words.Int ∷ r) rest
first_param r rest (x, (label, sound, inside), (y, (name, named), (z, (params, more, after), last))) =
    let param : ParamPhrase = record { label = label; name = name } in (
      param ∷ params,
      (sound, more),
      ap (λ ts. Word words.Int ∷ ts) (inside ∙ ap (label_then label) (named
          ∙ ap (λ ts. Name name ∷ ts) (after ∙ ap (more_params params) last)))
          ∙ sym (joined_more (symbol symbols.Comma) param_then param params (symbol symbols.RightParenthesis ∷ rest)),
    )

next_param : (r rest : List TokenKind) →
    AreWritten (due.int_word ∷ due.label ∷ due.a_name ∷ due.after_param ∷ []) r rest →
    Written due.after_param (symbol symbols.Comma ∷ r) rest
next_param r rest (w, word, (x, (label, sound, inside), (y, (name, named), (z, (params, more, after), last)))) =
    let param : ParamPhrase = record { label = label; name = name } in (
      param ∷ params,
      (sound, more),
      ap (λ ts. symbol symbols.Comma ∷ ts) (word ∙ ap (λ ts. Word words.Int ∷ ts) (inside
          ∙ ap (label_then label) (named ∙ ap (λ ts. Name name ∷ ts) (after ∙ ap (more_params params) last)))
          ∙ sym (joined_more (symbol symbols.Comma) param_then param params (symbol symbols.RightParenthesis ∷ rest))),
    )

-- `where`, and the names
where_names : (r rest : List TokenKind) →
    AreWritten (due.authority_word ∷ due.exactly due.left_parenthesis ∷ due.a_name ∷ due.after_principal ∷ []) r rest →
    Written due.authority (Word words.Where ∷ r) rest
where_names r rest (a, word, (b, opening, (c, (name, named), (d, (names, inside), last)))) = (
  name ∷ names,
  ap (λ ts. Word words.Where ∷ ts) (word ∙ ap (λ ts. Word words.Authority ∷ ts) (opening
      ∙ ap (λ ts. symbol symbols.LeftParenthesis ∷ ts) (named ∙ ap (λ ts. Name name ∷ ts) (inside
      ∙ ap (λ ts. more_names names (symbol symbols.RightParenthesis ∷ symbol symbols.LeftBrace ∷ ts)) last)
      ∙ sym (joined_more (symbol symbols.Comma) name_then name names
      (symbol symbols.RightParenthesis ∷ symbol symbols.LeftBrace ∷ rest))))),
)

next_principal : (r rest : List TokenKind) → AreWritten (due.a_name ∷ due.after_principal ∷ []) r rest →
    Written due.after_principal (symbol symbols.Comma ∷ r) rest
next_principal r rest (c, (name, named), (d, (names, inside), last)) = (
  name ∷ names,
  ap (λ ts. symbol symbols.Comma ∷ ts) (named ∙ ap (λ ts. Name name ∷ ts) (inside
      ∙ ap (λ ts. more_names names (symbol symbols.RightParenthesis ∷ symbol symbols.LeftBrace ∷ ts)) last)
      ∙ sym (joined_more (symbol symbols.Comma) name_then name names
      (symbol symbols.RightParenthesis ∷ symbol symbols.LeftBrace ∷ rest))),
)

last_principal : (r rest : List TokenKind) → AreWritten (due.exactly due.left_brace ∷ []) r rest →
    Written due.after_principal (symbol symbols.RightParenthesis ∷ r) rest
last_principal r rest (x, brace, last) =
    ([], ap (λ ts. symbol symbols.RightParenthesis ∷ ts) (brace ∙ ap (λ ts. symbol symbols.LeftBrace ∷ ts) last))

-- ---- programs

int_item : (r behind : List TokenKind) (items : ProgramPhrase) → IsProgram items → behind ≡ program_then items [] →
    AreWritten (due.label ∷ due.a_name ∷ due.after_name ∷ []) r behind → WrittenFrom [] (Word words.Int ∷ r)
int_item r behind items more is (
  a,
  (label, sound, inside),
  (
    b,
    (name, named),
    (
      c,
      inl (ending, ending_sound, ended),
      last,
    ),
  ),
) =
    record {
      behind = Word words.Int ∷ r;
      written = refl;
      items = field (record { label = label; name = name; ending = ending }) ∷ items;
      sound = ((sound, ending_sound), more);
      is = ap (λ ts. Word words.Int ∷ ts) (inside ∙ ap (label_then label) (named ∙ ap (λ ts. Name name ∷ ts) (ended
          ∙ ap (field_end_then ending) (last ∙ is))));
    }
int_item r behind items more is (a, (label, sound, inside), (b, (name, named), (c, inr w, last))) =
    let phrase = w.tail.phrase in
    let made : MethodPhrase = record {
      kind = Some label;
      name = name;
      begin = w.begin;
      params = phrase.params;
      authority = phrase.authority;
      body = phrase.body;
      result = phrase.result;
    } in
    record {
      behind = Word words.Int ∷ r;
      written = refl;
      items = method made ∷ items;
      sound = ((sound, w.sound, w.tail.params, w.tail.body, w.tail.result), more);
      is = ap (λ ts. Word words.Int ∷ ts) (inside ∙ ap (label_then label) (named ∙ ap (λ ts. Name name ∷ ts) (w.written
          ∙ ap (label_then w.begin) (w.tail.written ∙ ap (tail_then made) (last ∙ is)))));
    }

void_item : (r behind : List TokenKind) (items : ProgramPhrase) → IsProgram items → behind ≡ program_then items [] →
    AreWritten (due.a_name ∷ due.label ∷ method_rest) r behind → WrittenFrom [] (Word words.Void ∷ r)
void_item r behind items more is (a, (name, named), (b, (label, sound, inside), rest)) =
    let tail = tail_of b behind rest in
    let made : MethodPhrase = record {
      kind = None;
      name = name;
      begin = label;
      params = tail.phrase.params;
      authority = tail.phrase.authority;
      body = tail.phrase.body;
      result = tail.phrase.result;
    } in
    record {
      behind = Word words.Void ∷ r;
      written = refl;
      items = method made ∷ items;
      sound = ((tt, sound, tail.params, tail.body, tail.result), more);
      is = ap (λ ts. Word words.Void ∷ ts) (named ∙ ap (λ ts. Name name ∷ ts) (inside ∙ ap (label_then label)
          (tail.written ∙ ap (tail_then made) is)));
    }

item_sound : (kind : TokenKind) (new : List Due) (r : List TokenKind) → item_due kind ≡ Some new → WrittenFrom new r →
    WrittenFrom [] (kind ∷ r)
item_sound (token.Word words.Int) new r is w =
    int_item r w.behind w.items w.sound w.is
    (got (due.label ∷ due.a_name ∷ due.after_name ∷ []) new r w.behind is w.written)
item_sound (token.Word words.Void) new r is w =
    void_item r w.behind w.items w.sound w.is
    (got (due.a_name ∷ due.label ∷ method_rest) new r w.behind is w.written)
item_sound _ new r is w = absurd (cc)

-- ---- all that is due

symbol_sound : (first : Due) (s : Symbol) (new : List Due) (r rest : List TokenKind) →
    due_after_symbol first s ≡ Some new → AreWritten new r rest → Written first (symbol s ∷ r) rest
symbol_sound (due.exactly fixed) s new r rest is w = fixed_sound fixed s new r rest is w
symbol_sound due.after_name symbols.Semicolon new r rest is w =
    inl (unset, tt, ap (λ ts. symbol symbols.Semicolon ∷ ts) (got [] new r rest is w))
symbol_sound due.after_name symbols.LeftBracket new r rest is w =
    sized_field r rest
    (got (due.a_size ∷ due.exactly due.right_bracket ∷ due.exactly due.semicolon ∷ []) new r rest is w)
symbol_sound due.after_name symbols.Assign new r rest is w =
    set_field r rest (got (due.first_value ∷ []) new r rest is w)
symbol_sound due.after_name symbols.LeftBrace new r rest is w =
    begun_method r rest (got (due.first_part ∷ method_rest) new r rest is w)
symbol_sound due.first_value symbols.Minus new r rest is w =
    negative_value r rest (got (due.a_number ∷ due.exactly due.semicolon ∷ []) new r rest is w)
symbol_sound due.label symbols.LeftBrace new r rest is w =
    whole_label r rest (got (due.first_part ∷ []) new r rest is w)
symbol_sound due.first_part symbols.RightBrace new r rest is w =
    ([], tt, ap (λ ts. symbol symbols.RightBrace ∷ ts) (got [] new r rest is w))
symbol_sound due.first_part s new r rest is w = first_of_part (symbol s ∷ r) rest (part_sound s new r rest is w)
symbol_sound due.a_part s new r rest is w = part_sound s new r rest is w
symbol_sound due.readers symbols.Semicolon new r rest is w =
    let (parts, sound, inside) = parts_behind r rest (got (due.a_part ∷ []) new r rest is w) in
    ([], parts, sound, inside)
symbol_sound due.readers symbols.RightBrace new r rest is w =
    ([], [], tt, ap (λ ts. symbol symbols.RightBrace ∷ ts) (got [] new r rest is w))
symbol_sound due.after_reader symbols.Comma new r rest is w =
    more_readers r rest (got (due.a_name ∷ due.after_reader ∷ []) new r rest is w)
symbol_sound due.after_reader symbols.Semicolon new r rest is w =
    let (parts, sound, inside) = parts_behind r rest (got (due.a_part ∷ []) new r rest is w) in
    ([], parts, sound, inside)
symbol_sound due.after_reader symbols.RightBrace new r rest is w =
    ([], [], tt, ap (λ ts. symbol symbols.RightBrace ∷ ts) (got [] new r rest is w))
symbol_sound due.members symbols.RightBrace new r rest is w =
    ([], ap (λ ts. symbol symbols.RightBrace ∷ ts) (got [] new r rest is w))
symbol_sound due.after_member symbols.Comma new r rest is w =
    more_members r rest (got (due.a_name ∷ due.after_member ∷ []) new r rest is w)
symbol_sound due.after_member symbols.RightBrace new r rest is w =
    ([], ap (λ ts. symbol symbols.RightBrace ∷ ts) (got [] new r rest is w))
symbol_sound due.params symbols.RightParenthesis new r rest is w =
    ([], tt, ap (λ ts. symbol symbols.RightParenthesis ∷ ts) (got [] new r rest is w))
symbol_sound due.after_param symbols.Comma new r rest is w =
    next_param r rest (got (due.int_word ∷ due.label ∷ due.a_name ∷ due.after_param ∷ []) new r rest is w)
symbol_sound due.after_param symbols.RightParenthesis new r rest is w =
    ([], tt, ap (λ ts. symbol symbols.RightParenthesis ∷ ts) (got [] new r rest is w))
symbol_sound due.authority symbols.LeftBrace new r rest is w =
    ([], ap (λ ts. symbol symbols.LeftBrace ∷ ts) (got [] new r rest is w))
symbol_sound due.after_principal symbols.Comma new r rest is w =
    next_principal r rest (got (due.a_name ∷ due.after_principal ∷ []) new r rest is w)
symbol_sound due.after_principal symbols.RightParenthesis new r rest is w =
    last_principal r rest (got (due.exactly due.left_brace ∷ []) new r rest is w)
symbol_sound (due.statements place) s new r rest is w = statement_symbol_sound place s new r rest is w
symbol_sound (due.otherwise place) s new r rest is w = inr (statement_symbol_sound place s new r rest is w)
symbol_sound due.after_int symbols.LeftBrace new r rest is w =
    labelled_local r rest (got (due.first_part ∷ due.a_name ∷ local_rest) new r rest is w)
symbol_sound due.after_first_name symbols.Assign new r rest is w =
    let (x, v, last) = got (due.value ∷ []) new r rest is w in
    inl (record { behind = r; value = subst (WrittenValue r) last v; written = refl })
symbol_sound due.after_first_name symbols.LeftBracket new r rest is w =
    inr (inl (element_of r rest (got (due.operand due.at_bracket ∷ local_rest) new r rest is w)))
symbol_sound due.after_first_name symbols.LeftParenthesis new r rest is w =
    inr (inr (call_of r rest (got call_rest new r rest is w)))
symbol_sound due.value s new r rest is w = inl (operand_symbol_sound due.at_semicolon s new r rest is w)
symbol_sound due.after_value_name symbols.LeftParenthesis new r rest is w =
    inr (call_of r rest (got call_rest new r rest is w))
symbol_sound due.after_value_name s new r rest is w = inl (name_symbol_sound due.at_semicolon s new r rest is w)
symbol_sound due.args symbols.RightParenthesis new r rest is w =
    ([], tt, ap (λ ts. symbol symbols.RightParenthesis ∷ ts) (got [] new r rest is w))
symbol_sound due.args s new r rest is w =
    args_of (symbol s ∷ r) rest (operand_symbol_sound due.at_argument s new r rest is w)
symbol_sound (due.operand closing) s new r rest is w = operand_symbol_sound closing s new r rest is w
symbol_sound (due.after_operand_name closing) s new r rest is w = name_symbol_sound closing s new r rest is w
symbol_sound (due.links closing) s new r rest is w = after_operand_sound closing s new r rest is w
symbol_sound _ _ new r rest is w = absurd (cc)

word_sound : (first : Due) (word : words_type.Word) (new : List Due) (r rest : List TokenKind) →
    due_after_word first word ≡ Some new → AreWritten new r rest → Written first (Word word ∷ r) rest
word_sound due.int_word words.Int new r rest is w = ap (λ ts. Word words.Int ∷ ts) (got [] new r rest is w)
word_sound due.authority_word words.Authority new r rest is w =
    ap (λ ts. Word words.Authority ∷ ts) (got [] new r rest is w)
word_sound due.params words.Int new r rest is w =
    first_param r rest (got (due.label ∷ due.a_name ∷ due.after_param ∷ []) new r rest is w)
word_sound due.authority words.Where new r rest is w =
    where_names r rest (got (due.authority_word ∷ due.exactly due.left_parenthesis ∷ due.a_name
    ∷ due.after_principal ∷ []) new r rest is w)
word_sound (due.statements place) word new r rest is w = statement_word_sound place word new r rest is w
word_sound (due.otherwise place) word new r rest is w = otherwise_word_sound place word new r rest is w
word_sound due.value word new r rest is w = inl (operand_word_sound due.at_semicolon word new r rest is w)
word_sound due.args word new r rest is w =
    args_of (Word word ∷ r) rest (operand_word_sound due.at_argument word new r rest is w)
word_sound (due.operand closing) word new r rest is w = operand_word_sound closing word new r rest is w
word_sound _ _ new r rest is w = absurd (cc)

name_sound : (first : Due) (name : List ℕ) (new : List Due) (r rest : List TokenKind) →
    due_after_name first ≡ Some new → AreWritten new r rest → Written first (Name name ∷ r) rest
name_sound due.a_name name new r rest is w = (name, ap (λ ts. Name name ∷ ts) (got [] new r rest is w))
name_sound due.first_part name new r rest is w =
    first_of_part (Name name ∷ r) rest (policy_part name r rest
    (got (due.exactly due.colon ∷ due.readers ∷ []) new r rest is w))
name_sound due.a_part name new r rest is w =
    policy_part name r rest (got (due.exactly due.colon ∷ due.readers ∷ []) new r rest is w)
name_sound due.readers name new r rest is w =
    first_reader name r rest (got (due.after_reader ∷ []) new r rest is w)
name_sound due.members name new r rest is w =
    first_member name r rest (got (due.after_member ∷ []) new r rest is w)
name_sound (due.statements place) name new r rest is w =
    named_statement place name r rest (got (due.after_first_name ∷ due.statements place ∷ []) new r rest is w)
name_sound (due.otherwise place) name new r rest is w =
    inr (named_statement place name r rest (got (due.after_first_name ∷ due.statements place ∷ []) new r rest is w))
name_sound due.after_int name new r rest is w = plain_local name r rest (got local_rest new r rest is w)
name_sound due.value name new r rest is w = value_named name r rest (got (due.after_value_name ∷ []) new r rest is w)
name_sound due.args name new r rest is w =
    args_of (Name name ∷ r) rest (named_operand name due.at_argument r rest
    (got (due.after_operand_name due.at_argument ∷ []) new r rest is w))
name_sound (due.operand closing) name new r rest is w =
    named_operand name closing r rest (got (due.after_operand_name closing ∷ []) new r rest is w)
name_sound _ name new r rest is w = absurd (cc)

number_token_sound : (first : Due) (n : ℤ) (new : List Due) (r rest : List TokenKind) →
    due_after_number first n ≡ Some new → AreWritten new r rest → Written first (Number n ∷ r) rest
number_token_sound due.a_number (pos n) new r rest is w =
    (n, ap (λ ts. Number (pos n) ∷ ts) (got [] new r rest is w))
number_token_sound due.a_size (pos (suc n)) new r rest is w =
    (n, ap (λ ts. Number (pos (suc n)) ∷ ts) (got [] new r rest is w))
number_token_sound due.first_value (pos n) new r rest is w =
    positive_value n r rest (got (due.exactly due.semicolon ∷ []) new r rest is w)
number_token_sound due.value (pos n) new r rest is w =
    inl (number_sound due.at_semicolon n r rest (got (due.links due.at_semicolon ∷ []) new r rest is w))
number_token_sound due.args (pos n) new r rest is w =
    args_of (Number (pos n) ∷ r) rest (number_sound due.at_argument n r rest
    (got (due.links due.at_argument ∷ []) new r rest is w))
number_token_sound (due.operand closing) (pos n) new r rest is w =
    number_sound closing n r rest (got (due.links closing ∷ []) new r rest is w)
number_token_sound _ _ new r rest is w = absurd (cc)

pub sound : (first : Due) (kind : TokenKind) (new : List Due) (r rest : List TokenKind) →
    due_after_token first kind ≡ Some new → AreWritten new r rest → Written first (kind ∷ r) rest
sound first (token.Name name) new r rest is w = name_sound first name new r rest is w
sound first (token.Number n) new r rest is w = number_token_sound first n new r rest is w
sound first (token.Word word) new r rest is w = word_sound first word new r rest is w
sound first (token.Symbol s) new r rest is w = symbol_sound first s new r rest is w

-- ---- lists of what is due

written_split : (first later : List Due) (tokens rest : List TokenKind) → AreWritten (first ++ later) tokens rest →
    (between : List TokenKind) × AreWritten first tokens between × AreWritten later between rest
written_split [] later tokens rest w = (tokens, refl, w)
written_split (one ∷ first) later tokens rest (x, w, more) =
    let (between, front, back) = written_split first later x rest more in
    (between, (x, w, front), back)

joined_sound : (one : Due) (later : List Due) (kind : TokenKind) (made : Option (List Due)) →
    due_after_token one kind ≡ made → (new : List Due) (r : List TokenKind) → before_due later made ≡ Some new →
    WrittenFrom new r → WrittenFrom (one ∷ later) (kind ∷ r)
joined_sound one later kind None step new r is w = absurd (cc)
joined_sound one later kind (Some made) step new r is w =
    let both = written_split made later r w.behind (got (made ++ later) new r w.behind is w.written) in
    record {
      behind = w.behind;
      written = (both.0, sound one kind made r both.0 step both.1, both.2);
      items = w.items;
      sound = w.sound;
      is = w.is;
    }

pub sound_from : (first : List Due) (kind : TokenKind) (new : List Due) (r : List TokenKind) →
    due_next first kind ≡ Some new → WrittenFrom new r → WrittenFrom first (kind ∷ r)
sound_from [] kind new r is w = item_sound kind new r is w
sound_from (one ∷ later) kind new r is w =
    joined_sound one later kind (due_after_token one kind) refl new r is w
