-- What is written for what is due goes on from its first token: methods and programs, and all that is due.
use Rattle.std.proofs.Common.{◌≡◌, inl, inr, ℕ, zero, suc, Bool, true, false, pos, List, [], ◌∷◌, ◌++◌, refl}
use Rattle.std.proofs.Common.{sym, subst, ◌∙◌, Option, Some, None, arith}
use Rattle.jif_lex.specs.declared.token.TokenKind.{TokenKind}
use Rattle.jif_lex.specs.declared.token.TokenKind.TheVariants.{Name, Number, Word}
use Rattle.jif_lex.specs.declared.token.Symbol.TheVariants as symbols
use Rattle.jif_lex.specs.declared.token.Word.TheVariants as words
use Rattle.label_lattice.specs.Written.{symbol}
use Rattle.jif_grammar.specs.Phrases.{LabelPhrase, FieldEnd, unset, sized, set, ParamPhrase, MethodPhrase, field}
use Rattle.jif_grammar.specs.Phrases.{method}
use Rattle.jif_grammar.specs.Phrases.{ProgramPhrase}
use Rattle.jif_grammar.specs.Grouping.{AreParams, IsBlock, IsResult, IsOptionalLabel, IsFieldEnd, IsProgram}
use Rattle.std.proofs.Common.{ap}
use Rattle.jif_grammar.specs.Due.{item_due, before_due, due_next}
use Rattle.jif_grammar.specs.Due as due
use Rattle.jif_grammar.specs.Due.{Due, method_rest, due_after_token}
use Rattle.jif_grammar.specs.Unmarked.{label_then, name_then, param_then, params_then, authority_then, block_then}
use Rattle.jif_grammar.specs.Unmarked.{result_then, head_then, tail_then, field_end_then, sign_then, program_then}
use Rattle.jif_grammar.specs.Unmarked.{names_then}
use Rattle.jif_grammar.proofs.DueMoves.{Moves, moves, fixed_moves, part_moves, first_part_moves, readers_move}
use Rattle.jif_grammar.proofs.DueMoves.{after_reader_moves, members_move, after_member_moves, name_behind, links_move}
use Rattle.jif_grammar.proofs.DueMoves.{behind_links, expr_moves, begins_operand}
use Rattle.jif_grammar.proofs.DueStatementMoves.{value_moves, after_name_moves, value_name_moves, first_name_moves}
use Rattle.jif_grammar.proofs.DueStatementMoves.{after_int_moves, args_move, statements_move, begins_statement}
use Rattle.jif_grammar.proofs.DueStatementMoves.{otherwise_moves}
use Rattle.jif_grammar.proofs.Written.{joined_more, more_names, more_params, Written, AreWritten, WrittenFrom}

-- ---- methods

params_move : (params : List ParamPhrase) → AreParams params → (kind : TokenKind) (r rest : List TokenKind) →
    kind ∷ r ≡ params_then params (symbol symbols.RightParenthesis ∷ rest) → Moves due.params kind r rest
params_move [] sound kind r rest w =
    moves due.params kind (symbol symbols.RightParenthesis) [] r rest (cc) refl (let e : r ≡ rest = (cc) in e)
params_move (param ∷ params) sound kind r rest w =
    let later = more_params params rest in
    let whole : kind ∷ r ≡ Word words.Int ∷ label_then param.label (Name param.name ∷ later) =
    w ∙ joined_more (symbol symbols.Comma) param_then param params (symbol symbols.RightParenthesis ∷ rest) in
    moves due.params kind (Word words.Int) (due.label ∷ due.a_name ∷ due.after_param ∷ []) r rest (cc) refl (
      Name param.name ∷ later,
      (param.label, sound.0, (cc)),
      (
        later,
        (param.name, refl),
        (
          rest,
          (params, sound.1, refl),
          refl,
        ),
      ),
    )

after_param_moves : (params : List ParamPhrase) → AreParams params → (kind : TokenKind) (r rest : List TokenKind) →
    kind ∷ r ≡ more_params params rest → Moves due.after_param kind r rest
after_param_moves [] sound kind r rest w =
    moves due.after_param kind (symbol symbols.RightParenthesis) [] r rest (cc) refl (let e : r ≡ rest = (cc) in e)
after_param_moves (param ∷ params) sound kind r rest w =
    let later = more_params params rest in
    let first : r ≡ params_then (param ∷ params) (symbol symbols.RightParenthesis ∷ rest) = (cc) in
    let tail : r ≡ Word words.Int ∷ label_then param.label (Name param.name ∷ later) =
    first ∙ joined_more (symbol symbols.Comma) param_then param params (symbol symbols.RightParenthesis ∷ rest) in
    moves due.after_param kind (symbol symbols.Comma)
    (due.int_word ∷ due.label ∷ due.a_name ∷ due.after_param ∷ []) r rest (cc) refl (
      label_then param.label (Name param.name ∷ later),
      tail,
      (
        Name param.name ∷ later,
        (param.label, sound.0, refl),
        (later, (param.name, refl), (rest, (params, sound.1, refl), refl)),
      ),
    )

authority_moves : (names : List (List ℕ)) (kind : TokenKind) (r rest : List TokenKind) →
    kind ∷ r ≡ authority_then names (symbol symbols.LeftBrace ∷ rest) → Moves due.authority kind r rest
authority_moves [] kind r rest w =
    moves due.authority kind (symbol symbols.LeftBrace) [] r rest (cc) refl (let e : r ≡ rest = (cc) in e)
authority_moves (name ∷ names) kind r rest w =
    let ending = symbol symbols.RightParenthesis ∷ symbol symbols.LeftBrace ∷ rest in
    let inside = names_then (name ∷ names) ending in
    moves due.authority kind (Word words.Where)
    (due.authority_word ∷ due.exactly due.left_parenthesis ∷ due.a_name ∷ due.after_principal ∷ []) r rest (cc) refl (
      symbol symbols.LeftParenthesis ∷ inside,
      (cc),
      (
        inside,
        refl,
        (
          more_names names ending,
          (name, joined_more (symbol symbols.Comma) name_then name names ending),
          (rest, (names, refl), refl),
        ),
      ),
    )

after_principal_moves : (names : List (List ℕ)) (kind : TokenKind) (r rest : List TokenKind) →
    kind ∷ r ≡ more_names names (symbol symbols.RightParenthesis ∷ symbol symbols.LeftBrace ∷ rest) →
    Moves due.after_principal kind r rest
after_principal_moves [] kind r rest w =
    moves due.after_principal kind (symbol symbols.RightParenthesis) (due.exactly due.left_brace ∷ []) r rest (cc) refl
    (rest, (let e : r ≡ symbol symbols.LeftBrace ∷ rest = (cc) in e), refl)
after_principal_moves (name ∷ names) kind r rest w =
    let ending = symbol symbols.RightParenthesis ∷ symbol symbols.LeftBrace ∷ rest in
    let both = name_behind name names kind r ending w in
    moves due.after_principal kind (symbol symbols.Comma) (due.a_name ∷ due.after_principal ∷ []) r rest both.0 refl
    (more_names names ending, (name, both.1), (rest, (names, refl), refl))

-- from the parentheses of a method to its end, and what is due behind it
tail_written : (phrase : MethodPhrase) → AreParams phrase.params → IsBlock phrase.body → IsResult phrase.result →
    (later : List Due) (tokens rest : List TokenKind) → AreWritten later tokens rest →
    AreWritten (method_rest ++ later) (tail_then phrase tokens) rest
tail_written phrase params body result later tokens rest w =
    let ending = result_then phrase.result (symbol symbols.RightBrace ∷ tokens) in
    let inside = block_then phrase.body ending in
    let after = authority_then phrase.authority (symbol symbols.LeftBrace ∷ inside) in (
      params_then phrase.params (symbol symbols.RightParenthesis ∷ after),
      refl,
      (
        after,
        (phrase.params, params, refl),
        (
          inside,
          (phrase.authority, refl),
          (
            tokens,
            record {
              block = phrase.body;
              sound = body;
              behind = ending;
              ends = (phrase.result, result, refl);
              written = refl;
            },
            w,
          ),
        ),
      ),
    )

-- ---- fields

after_name_moves_on : (kind : TokenKind) (r rest : List TokenKind) → Written due.after_name (kind ∷ r) rest →
    Moves due.after_name kind r rest
after_name_moves_on kind r rest (inl w) = by_ending w.0 w.1 w.2
  where
    by_ending : (ending : FieldEnd) → IsFieldEnd ending → kind ∷ r ≡ field_end_then ending rest →
        Moves due.after_name kind r rest
    by_ending unset sound is =
        moves due.after_name kind (symbol symbols.Semicolon) [] r rest (cc) refl (let e : r ≡ rest = (cc) in e)
    by_ending (sized zero) sound is = absurd (omega (arith, sound))
    by_ending (sized (suc n)) sound is =
        moves due.after_name kind (symbol symbols.LeftBracket)
        (due.a_size ∷ due.exactly due.right_bracket ∷ due.exactly due.semicolon ∷ []) r rest (cc) refl (
          symbol symbols.RightBracket ∷ symbol symbols.Semicolon ∷ rest,
          (n, (cc)),
          (symbol symbols.Semicolon ∷ rest, refl, (rest, refl, refl)),
        )
    by_ending (set negative first) sound is =
        moves due.after_name kind (symbol symbols.Assign) (due.first_value ∷ []) r rest (cc) refl
        (rest, (negative, first, (cc)), refl)
after_name_moves_on kind r rest (inr w) =
    let same = w.written in
    moves due.after_name kind (symbol symbols.LeftBrace) (due.first_part ∷ method_rest) r rest (cc) refl (
      w.behind,
      (w.begin, w.sound, (cc)),
      subst (λ ts. AreWritten method_rest ts rest) (sym w.tail.written)
          (tail_written w.tail.phrase w.tail.params w.tail.body w.tail.result [] rest rest refl),
    )

first_value_moves : (negative : Bool) (n : ℕ) (kind : TokenKind) (r rest : List TokenKind) →
    kind ∷ r ≡ sign_then negative (Number (pos n) ∷ symbol symbols.Semicolon ∷ rest) →
    Moves due.first_value kind r rest
first_value_moves false n kind r rest w =
    moves due.first_value kind (Number (pos n)) (due.exactly due.semicolon ∷ []) r rest (cc) refl
    (rest, (let e : r ≡ symbol symbols.Semicolon ∷ rest = (cc) in e), refl)
first_value_moves true n kind r rest w =
    moves due.first_value kind (symbol symbols.Minus) (due.a_number ∷ due.exactly due.semicolon ∷ []) r rest (cc) refl
    (symbol symbols.Semicolon ∷ rest, (n, (cc)), (rest, refl, refl))

-- ---- programs

-- the first token of a program, and what it makes due
pub record MovesFrom (first : List Due) (kind : TokenKind) (tokens : List TokenKind) : Type 0 where
  pub new : List Due
  pub is : due_next first kind ≡ Some new
  pub written : WrittenFrom new tokens

items_move : (program : ProgramPhrase) → IsProgram program → (kind : TokenKind) (r : List TokenKind) →
    kind ∷ r ≡ program_then program [] → MovesFrom [] kind r
items_move [] sound kind r w = absurd (cc)
items_move (field phrase ∷ items) sound kind r w =
    let later = program_then items [] in
    let end = field_end_then phrase.ending later in
    let head : kind ≡ Word words.Int = (cc) in
    record {
      new = due.label ∷ due.a_name ∷ due.after_name ∷ [];
      is = ap item_due head;
      written = record {
        behind = later;
        written = (
          Name phrase.name ∷ end,
          (phrase.label, sound.0.0, (cc)),
          (
            end,
            (phrase.name, refl),
            (
              later,
              inl (phrase.ending, sound.0.1, refl),
              refl,
            ),
          ),
        );
        items = items;
        sound = sound.1;
        is = refl;
      };
    }
items_move (method phrase ∷ items) sound kind r w = by_kind phrase.kind sound.0.0 w
  where
    behind : AreWritten method_rest (tail_then phrase (program_then items [])) (program_then items [])
    behind =
        tail_written phrase sound.0.2 sound.0.3 sound.0.4 [] (program_then items []) (program_then items []) refl

    by_kind : (label : Option LabelPhrase) → IsOptionalLabel label →
        kind ∷ r ≡ head_then label phrase.name phrase.begin (tail_then phrase (program_then items [])) →
        MovesFrom [] kind r
    by_kind None label_sound is =
        let head : kind ≡ Word words.Void = (cc) in
        record {
          new = due.a_name ∷ due.label ∷ method_rest;
          is = ap item_due head;
          written = record {
            behind = program_then items [];
            written = (
              label_then phrase.begin (tail_then phrase (program_then items [])),
              (phrase.name, (cc)),
              (tail_then phrase (program_then items []), (phrase.begin, sound.0.1, refl), behind),
            );
            items = items;
            sound = sound.1;
            is = refl;
          };
        }
    by_kind (Some label) label_sound is =
        let head : kind ≡ Word words.Int = (cc) in
        let begun = label_then phrase.begin (tail_then phrase (program_then items [])) in
        record {
          new = due.label ∷ due.a_name ∷ due.after_name ∷ [];
          is = ap item_due head;
          written = record {
            behind = program_then items [];
            written = (
              Name phrase.name ∷ begun,
              (label, label_sound, (cc)),
              (
                begun,
                (phrase.name, refl),
                (
                  program_then items [],
                  inr (record {
                    begin = phrase.begin;
                    sound = sound.0.1;
                    behind = tail_then phrase (program_then items []);
                    tail = record {
                      phrase = phrase;
                      params = sound.0.2;
                      body = sound.0.3;
                      result = sound.0.4;
                      written = refl;
                    };
                    written = refl;
                  }),
                  refl,
                ),
              ),
            );
            items = items;
            sound = sound.1;
            is = refl;
          };
        }

-- ---- all that is due

pub progress : (first : Due) (kind : TokenKind) (r rest : List TokenKind) → Written first (kind ∷ r) rest →
    Moves first kind r rest
progress (due.exactly fixed) kind r rest w = fixed_moves fixed kind r rest w
progress due.int_word kind r rest w =
    moves due.int_word kind (Word words.Int) [] r rest (cc) refl (let e : r ≡ rest = (cc) in e)
progress due.authority_word kind r rest w =
    moves due.authority_word kind (Word words.Authority) [] r rest (cc) refl (let e : r ≡ rest = (cc) in e)
progress due.a_name kind r rest w =
    let same = w.1 in
    moves due.a_name kind (Name w.0) [] r rest (cc) refl (let e : r ≡ rest = (cc) in e)
progress due.a_number kind r rest w =
    let same = w.1 in
    moves due.a_number kind (Number (pos w.0)) [] r rest (cc) refl (let e : r ≡ rest = (cc) in e)
progress due.a_size kind r rest w =
    let same = w.1 in
    moves due.a_size kind (Number (pos (suc w.0))) [] r rest (cc) refl (let e : r ≡ rest = (cc) in e)
progress due.after_name kind r rest w = after_name_moves_on kind r rest w
progress due.first_value kind r rest w = first_value_moves w.0 w.1 kind r rest w.2
progress due.label kind r rest w =
    let same = w.2 in
    moves due.label kind (symbol symbols.LeftBrace) (due.first_part ∷ []) r rest (cc) refl
    (rest, (w.0, w.1, (cc)), refl)
progress due.first_part kind r rest w = first_part_moves w.0 w.1 kind r rest w.2
progress due.a_part kind r rest w =
    part_moves due.a_part (record { by_name = refl; by_question = refl }) w.0 w.1 w.2 kind r rest w.3
progress due.readers kind r rest w = readers_move w.0 w.1 w.2 kind r rest w.3
progress due.after_reader kind r rest w = after_reader_moves w.0 w.1 w.2 kind r rest w.3
progress due.members kind r rest w = members_move w.0 kind r rest w.1
progress due.after_member kind r rest w = after_member_moves w.0 kind r rest w.1
progress due.params kind r rest w = params_move w.0 w.1 kind r rest w.2
progress due.after_param kind r rest w = after_param_moves w.0 w.1 kind r rest w.2
progress due.authority kind r rest w = authority_moves w.0 kind r rest w.1
progress due.after_principal kind r rest w = after_principal_moves w.0 kind r rest w.1
progress (due.statements place) kind r rest w =
    statements_move (due.statements place) place (begins_statement place) w.block w.sound kind r w.behind rest w.ends
    w.written
progress (due.otherwise place) kind r rest w = otherwise_moves place kind r rest w
progress due.after_int kind r rest w = after_int_moves kind r rest w
progress due.after_first_name kind r rest w = first_name_moves kind r rest w
progress due.value kind r rest w = value_moves kind r rest w
progress due.after_value_name kind r rest w = value_name_moves kind r rest w
progress due.args kind r rest w = args_move w.0 w.1 kind r rest w.2
progress (due.operand closing) kind r rest w =
    expr_moves (due.operand closing) closing (begins_operand closing) kind r rest w
progress (due.after_operand_name closing) kind r rest w = after_name_moves closing kind r rest w
progress (due.links closing) kind r rest w = links_move (due.links closing) closing (behind_links closing) kind r rest w

-- ---- lists of what is due

pub written_joined : (first later : List Due) (tokens between rest : List TokenKind) → AreWritten first tokens between →
    AreWritten later between rest → AreWritten (first ++ later) tokens rest
written_joined [] later tokens between rest w v = subst (λ ts. AreWritten later ts rest) (sym w) v
written_joined (one ∷ first) later tokens between rest (x, w, more) v =
    (x, w, written_joined first later x between rest more v)

pub progress_from : (first : List Due) (kind : TokenKind) (r : List TokenKind) → WrittenFrom first (kind ∷ r) →
    MovesFrom first kind r
progress_from [] kind r w = items_move w.items w.sound kind r (w.written ∙ w.is)
progress_from (one ∷ later) kind r w =
    let (x, v, more) = w.written in
    let moved = progress one kind r x v in
    record {
      new = moved.new ++ later;
      is = ap (before_due later) moved.is;
      written = record {
        behind = w.behind;
        written = written_joined moved.new later r x w.behind moved.written more;
        items = w.items;
        sound = w.sound;
        is = w.is;
      };
    }
