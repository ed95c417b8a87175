-- What is written for what is due goes on from its first token with what the token makes due: statements.
use Rattle.std.proofs.Common.{◌≡◌, inl, inr, List, [], ◌∷◌, ◌++◌, refl}
use Rattle.std.proofs.Common.{sym, subst, ◌∙◌, Option, Some, None}
use Rattle.jif_lex.specs.declared.token.TokenKind.{TokenKind}
use Rattle.jif_lex.specs.declared.token.TokenKind.TheVariants.{Name, Word}
use Rattle.jif_lex.specs.declared.token.Symbol.TheVariants as symbols
use Rattle.jif_lex.specs.declared.token.Word.TheVariants as words
use Rattle.label_lattice.specs.Written.{symbol}
use Rattle.jif_grammar.specs.Phrases.{LabelPhrase, ExprPhrase}
use Rattle.jif_grammar.specs.Phrases.{BlockPhrase, end}
use Rattle.jif_grammar.specs.Phrases.{declaration, assignment, element_assignment, call, call_into, branch, branch_else}
use Rattle.jif_grammar.specs.Phrases.{loop}
use Rattle.jif_grammar.specs.Grouping.{IsGrouped, AreGrouped, IsBlock, IsResult, IsOptionalLabel}
use Rattle.jif_grammar.specs.Due as due
use Rattle.jif_grammar.specs.Due.{Due, Closing, Place, Fixed, fixed_symbol, after_fixed, after_operand}
use Rattle.jif_grammar.specs.Due.{after_operand_name_symbol, relabelled_operand, call_rest, method_rest, guard}
use Rattle.jif_grammar.specs.Due.{local_rest, statement_word, due_after_symbol, due_after_word, due_after_name}
use Rattle.jif_grammar.specs.Due.{due_after_number, due_after_token}
use Rattle.jif_grammar.specs.Unmarked.{expr_then, args_then, block_then, result_then, optional_label_then}
use Rattle.jif_grammar.proofs.Written.{joined_more, more_args}
use Rattle.jif_grammar.proofs.Written.{WrittenAfterName, WrittenCall}
use Rattle.jif_grammar.proofs.Written.{WrittenValue, WrittenSet}
use Rattle.jif_grammar.proofs.Written.{WrittenLocal, EndsAt, WrittenBlock}
use Rattle.jif_grammar.proofs.Written.{Written, AreWritten}
use Rattle.jif_grammar.proofs.DueMoves.{Moves, begins_argument, begins_value, behind_name, behind_value_name}
use Rattle.jif_grammar.proofs.DueMoves.{expr_moves, index_moves, links_move, moves}

-- ---- statements

set_written : (tokens rest : List TokenKind) → WrittenSet tokens rest → AreWritten local_rest tokens rest
set_written tokens rest w = (
  expr_then w.value (symbol symbols.Semicolon ∷ rest),
  w.written,
  (
    rest,
    record {
      expr = w.value;
      sound = w.sound;
      behind = symbol symbols.Semicolon ∷ rest;
      closes = refl;
      written = refl;
    },
    refl,
  ),
)

call_moves : (first : Due) → due_after_symbol first symbols.LeftParenthesis ≡ Some call_rest → (kind : TokenKind)
    (r rest : List TokenKind) → WrittenCall (kind ∷ r) rest → Moves first kind r rest
call_moves first is kind r rest w =
    let same = w.written in
    moves first kind (symbol symbols.LeftParenthesis) call_rest r rest (cc) is
    (symbol symbols.Semicolon ∷ rest, (w.args, w.sound, (cc)), (rest, refl, refl))

pub value_moves : (kind : TokenKind) (r rest : List TokenKind) → WrittenValue (kind ∷ r) rest →
    Moves due.value kind r rest
value_moves kind r rest (inl w) = expr_moves due.value due.at_semicolon begins_value kind r rest w
value_moves kind r rest (inr w) =
    let same = w.written in
    let tail : w.behind ≡ r = (cc) in
    moves due.value kind (Name w.name) (due.after_value_name ∷ []) r rest (cc) refl
    (rest, inr (subst (λ ts. WrittenCall ts rest) tail w.call), refl)

pub after_name_moves : (closing : Closing) (kind : TokenKind) (r rest : List TokenKind) →
    WrittenAfterName closing (kind ∷ r) rest → Moves (due.after_operand_name closing) kind r rest
after_name_moves closing kind r rest (inl w) =
    links_move (due.after_operand_name closing) closing (behind_name closing) kind r rest w
after_name_moves closing kind r rest (inr w) =
    index_moves (due.after_operand_name closing) closing refl kind r rest w

pub value_name_moves : (kind : TokenKind) (r rest : List TokenKind) → Written due.after_value_name (kind ∷ r) rest →
    Moves due.after_value_name kind r rest
value_name_moves kind r rest (inl (inl w)) =
    links_move due.after_value_name due.at_semicolon behind_value_name kind r rest w
value_name_moves kind r rest (inl (inr w)) = index_moves due.after_value_name due.at_semicolon refl kind r rest w
value_name_moves kind r rest (inr w) = call_moves due.after_value_name refl kind r rest w

pub first_name_moves : (kind : TokenKind) (r rest : List TokenKind) → Written due.after_first_name (kind ∷ r) rest →
    Moves due.after_first_name kind r rest
first_name_moves kind r rest (inl w) =
    let same = w.written in
    let tail : w.behind ≡ r = (cc) in
    moves due.after_first_name kind (symbol symbols.Assign) (due.value ∷ []) r rest (cc) refl
    (rest, subst (λ ts. WrittenValue ts rest) tail w.value, refl)
first_name_moves kind r rest (inr (inl w)) =
    let same = w.written in
    moves due.after_first_name kind (symbol symbols.LeftBracket) (due.operand due.at_bracket ∷ local_rest) r rest (cc)
    refl (
      w.behind,
      record {
        expr = w.index;
        sound = w.sound;
        behind = symbol symbols.RightBracket ∷ w.behind;
        closes = refl;
        written = (cc);
      },
      set_written w.behind rest w.set,
    )
first_name_moves kind r rest (inr (inr w)) = call_moves due.after_first_name refl kind r rest w

pub after_int_moves : (kind : TokenKind) (r rest : List TokenKind) → WrittenLocal (kind ∷ r) rest →
    Moves due.after_int kind r rest
after_int_moves kind r rest w = by_label w.label w.label_sound w.written
  where
    by_label : (label : Option LabelPhrase) → IsOptionalLabel label →
        kind ∷ r ≡ optional_label_then label (Name w.name ∷ w.behind) → Moves due.after_int kind r rest
    by_label None sound is =
        let tail : w.behind ≡ r = (cc) in
        moves due.after_int kind (Name w.name) local_rest r rest (cc) refl
        (subst (λ ts. AreWritten local_rest ts rest) tail (set_written w.behind rest w.set))
    by_label (Some label) sound is =
        moves due.after_int kind (symbol symbols.LeftBrace) (due.first_part ∷ due.a_name ∷ local_rest) r rest (cc) refl
        (Name w.name ∷ w.behind, (label, sound, (cc)), (w.behind, (w.name, refl), set_written w.behind rest w.set))

pub args_move : (args : List ExprPhrase) → AreGrouped args → (kind : TokenKind) (r rest : List TokenKind) →
    kind ∷ r ≡ args_then args (symbol symbols.RightParenthesis ∷ rest) → Moves due.args kind r rest
args_move [] sound kind r rest w =
    moves due.args kind (symbol symbols.RightParenthesis) [] r rest (cc) refl (let e : r ≡ rest = (cc) in e)
args_move (arg ∷ args) sound kind r rest w =
    expr_moves due.args due.at_argument begins_argument kind r rest (record {
      expr = arg;
      sound = sound.0;
      behind = more_args args rest;
      closes = (args, sound.1, refl);
      written = w ∙ joined_more (symbol symbols.Comma) expr_then arg args (symbol symbols.RightParenthesis ∷ rest);
    })

-- statements may begin
pub record BeginsStatement (first : Due) (place : Place) : Type 0 where
  pub names : due_after_name first ≡ Some (due.after_first_name ∷ due.statements place ∷ [])
  pub by_int : due_after_word first words.Int ≡ Some (due.after_int ∷ due.statements place ∷ [])
  pub by_if : due_after_word first words.If ≡ Some (guard ++ due.statements due.nested ∷ due.otherwise place ∷ [])
  pub by_while : due_after_word first words.While
      ≡ Some (guard ++ due.statements due.nested ∷ due.statements place ∷ [])
  pub by_brace : due_after_symbol first symbols.RightBrace ≡ Some []
  pub by_return : place ≡ due.body → due_after_word first words.Return
      ≡ Some (due.operand due.at_semicolon ∷ due.exactly due.right_brace ∷ [])

-- a guard, its nested block, and what is behind
guarded : (e : ExprPhrase) (block : BlockPhrase) (behind : Due) (tokens rest : List TokenKind) → IsGrouped e →
    IsBlock block → Written behind tokens rest →
    AreWritten (guard ++ due.statements due.nested ∷ behind ∷ [])
    (symbol symbols.LeftParenthesis ∷ expr_then e (symbol symbols.RightParenthesis ∷ symbol symbols.LeftBrace
    ∷ block_then block (symbol symbols.RightBrace ∷ tokens))) rest
guarded e block behind tokens rest sound block_sound w =
    let inside = block_then block (symbol symbols.RightBrace ∷ tokens) in
    let after = symbol symbols.LeftBrace ∷ inside in (
      expr_then e (symbol symbols.RightParenthesis ∷ after),
      refl,
      (
        after,
        record {
          expr = e;
          sound = sound;
          behind = symbol symbols.RightParenthesis ∷ after;
          closes = refl;
          written = refl;
        },
        (
          inside,
          refl,
          (
            tokens,
            record {
              block = block;
              sound = block_sound;
              behind = symbol symbols.RightBrace ∷ tokens;
              ends = refl;
              written = refl;
            },
            (rest, w, refl),
          ),
        ),
      ),
    )

end_moves : (first : Due) (place : Place) → BeginsStatement first place → (kind : TokenKind)
    (r x rest : List TokenKind) → EndsAt place x rest → kind ∷ r ≡ x → Moves first kind r rest
end_moves first due.nested begins kind r x rest ends w =
    moves first kind (symbol symbols.RightBrace) [] r rest (cc) begins.by_brace (let e : r ≡ rest = (cc) in e)
end_moves first due.body begins kind r x rest ends w = by_result ends.0 ends.1 (w ∙ ends.2)
  where
    by_result : (result : Option ExprPhrase) → IsResult result →
        kind ∷ r ≡ result_then result (symbol symbols.RightBrace ∷ rest) → Moves first kind r rest
    by_result None sound is =
        moves first kind (symbol symbols.RightBrace) [] r rest (cc) begins.by_brace (let e : r ≡ rest = (cc) in e)
    by_result (Some value) sound is =
        moves first kind (Word words.Return) (due.operand due.at_semicolon ∷ due.exactly due.right_brace ∷ []) r rest
        (cc) (begins.by_return refl) (
          symbol symbols.RightBrace ∷ rest,
          record {
            expr = value;
            sound = sound;
            behind = symbol symbols.Semicolon ∷ symbol symbols.RightBrace ∷ rest;
            closes = refl;
            written = (cc);
          },
          (rest, refl, refl),
        )

-- statements behind one
pub behind_one : (place : Place) (block : BlockPhrase) → IsBlock block → (x rest : List TokenKind) →
    EndsAt place x rest →
    WrittenBlock place (block_then block x) rest
behind_one place block sound x rest ends = record {
  block = block;
  sound = sound;
  behind = x;
  ends = ends;
  written = refl;
}

pub statements_move : (first : Due) (place : Place) → BeginsStatement first place → (b : BlockPhrase) → IsBlock b →
    (kind : TokenKind) (r x rest : List TokenKind) → EndsAt place x rest → kind ∷ r ≡ block_then b x →
    Moves first kind r rest
statements_move first place begins end sound kind r x rest ends w =
    end_moves first place begins kind r x rest ends w
statements_move first place begins (declaration label name value more) sound kind r x rest ends w =
    let later = block_then more x in
    moves first kind (Word words.Int) (due.after_int ∷ due.statements place ∷ []) r rest (cc) begins.by_int (
      later,
      record {
        label = label;
        name = name;
        label_sound = sound.0;
        behind = symbol symbols.Assign ∷ expr_then value (symbol symbols.Semicolon ∷ later);
        set = record { value = value; sound = sound.1; written = refl };
        written = (cc);
      },
      (rest, behind_one place more sound.2 x rest ends, refl),
    )
statements_move first place begins (assignment name value more) sound kind r x rest ends w =
    let later = block_then more x in
    moves first kind (Name name) (due.after_first_name ∷ due.statements place ∷ []) r rest (cc) begins.names (
      later,
      inl (record {
        behind = expr_then value (symbol symbols.Semicolon ∷ later);
        value = inl (record {
          expr = value;
          sound = sound.0;
          behind = symbol symbols.Semicolon ∷ later;
          closes = refl;
          written = refl;
        });
        written = (cc);
      }),
      (rest, behind_one place more sound.1 x rest ends, refl),
    )
statements_move first place begins (element_assignment name index value more) sound kind r x rest ends w =
    let later = block_then more x in
    moves first kind (Name name) (due.after_first_name ∷ due.statements place ∷ []) r rest (cc) begins.names (
      later,
      inr (inl (record {
        index = index;
        sound = sound.0;
        behind = symbol symbols.Assign ∷ expr_then value (symbol symbols.Semicolon ∷ later);
        set = record { value = value; sound = sound.1; written = refl };
        written = (cc);
      })),
      (rest, behind_one place more sound.2 x rest ends, refl),
    )
statements_move first place begins (call name args more) sound kind r x rest ends w =
    let later = block_then more x in
    moves first kind (Name name) (due.after_first_name ∷ due.statements place ∷ []) r rest (cc) begins.names (
      later,
      inr (inr (record { args = args; sound = sound.0; written = (cc) })),
      (rest, behind_one place more sound.1 x rest ends, refl),
    )
statements_move first place begins (call_into into name args more) sound kind r x rest ends w =
    let later = block_then more x in
    let called = symbol symbols.LeftParenthesis
    ∷ args_then args (symbol symbols.RightParenthesis ∷ symbol symbols.Semicolon ∷ later) in
    moves first kind (Name into) (due.after_first_name ∷ due.statements place ∷ []) r rest (cc) begins.names (
      later,
      inl (record {
        behind = Name name ∷ called;
        value = inr (record {
          name = name;
          behind = called;
          call = record { args = args; sound = sound.0; written = refl };
          written = refl;
        });
        written = (cc);
      }),
      (rest, behind_one place more sound.1 x rest ends, refl),
    )
statements_move first place begins (branch e block more) sound kind r x rest ends w =
    let tail : r ≡ symbol symbols.LeftParenthesis ∷ expr_then e (symbol symbols.RightParenthesis
    ∷ symbol symbols.LeftBrace ∷ block_then block (symbol symbols.RightBrace ∷ block_then more x)) = (cc) in
    moves first kind (Word words.If) (guard ++ due.statements due.nested ∷ due.otherwise place ∷ []) r rest (cc)
    begins.by_if (subst (λ ts. AreWritten (guard ++ due.statements due.nested ∷ due.otherwise place ∷ []) ts rest)
    (sym tail) (guarded e block (due.otherwise place) (block_then more x) rest sound.0 sound.1
    (inr (behind_one place more sound.2 x rest ends))))
statements_move first place begins (branch_else e block second more) sound kind r x rest ends w =
    let later = block_then more x in
    let other = Word words.Else ∷ symbol symbols.LeftBrace ∷ block_then second (symbol symbols.RightBrace ∷ later) in
    let tail : r ≡ symbol symbols.LeftParenthesis ∷ expr_then e (symbol symbols.RightParenthesis
    ∷ symbol symbols.LeftBrace ∷ block_then block (symbol symbols.RightBrace ∷ other)) = (cc) in
    moves first kind (Word words.If) (guard ++ due.statements due.nested ∷ due.otherwise place ∷ []) r rest (cc)
    begins.by_if (subst (λ ts. AreWritten (guard ++ due.statements due.nested ∷ due.otherwise place ∷ []) ts rest)
    (sym tail) (guarded e block (due.otherwise place) other rest sound.0 sound.1 (inl (record {
      second = second;
      sound = sound.2;
      behind = later;
      more = behind_one place more sound.3 x rest ends;
      written = refl;
    }))))
statements_move first place begins (loop e block more) sound kind r x rest ends w =
    let tail : r ≡ symbol symbols.LeftParenthesis ∷ expr_then e (symbol symbols.RightParenthesis
    ∷ symbol symbols.LeftBrace ∷ block_then block (symbol symbols.RightBrace ∷ block_then more x)) = (cc) in
    moves first kind (Word words.While) (guard ++ due.statements due.nested ∷ due.statements place ∷ []) r rest (cc)
    begins.by_while (subst (λ ts. AreWritten (guard ++ due.statements due.nested ∷ due.statements place ∷ []) ts rest)
    (sym tail) (guarded e block (due.statements place) (block_then more x) rest sound.0 sound.1
    (behind_one place more sound.2 x rest ends)))

pub begins_statement : (place : Place) → BeginsStatement (due.statements place) place
begins_statement due.nested = record {
  names = refl;
  by_int = refl;
  by_if = refl;
  by_while = refl;
  by_brace = refl;
  by_return = λ is. absurd (cc);
}
begins_statement due.body = record {
  names = refl;
  by_int = refl;
  by_if = refl;
  by_while = refl;
  by_brace = refl;
  by_return = λ is. refl;
}

begins_otherwise : (place : Place) → BeginsStatement (due.otherwise place) place
begins_otherwise due.nested = record {
  names = refl;
  by_int = refl;
  by_if = refl;
  by_while = refl;
  by_brace = refl;
  by_return = λ is. absurd (cc);
}
begins_otherwise due.body = record {
  names = refl;
  by_int = refl;
  by_if = refl;
  by_while = refl;
  by_brace = refl;
  by_return = λ is. refl;
}

pub otherwise_moves : (place : Place) (kind : TokenKind) (r rest : List TokenKind) →
    Written (due.otherwise place) (kind ∷ r) rest → Moves (due.otherwise place) kind r rest
otherwise_moves place kind r rest (inl w) =
    let same = w.written in
    moves (due.otherwise place) kind (Word words.Else)
    (due.exactly due.left_brace ∷ due.statements due.nested ∷ due.statements place ∷ []) r rest (cc) refl (
      block_then w.second (symbol symbols.RightBrace ∷ w.behind),
      (cc),
      (
        w.behind,
        record {
          block = w.second;
          sound = w.sound;
          behind = symbol symbols.RightBrace ∷ w.behind;
          ends = refl;
          written = refl;
        },
        (rest, w.more, refl),
      ),
    )
otherwise_moves place kind r rest (inr w) =
    statements_move (due.otherwise place) place (begins_otherwise place) w.block w.sound kind r w.behind rest w.ends
    w.written
