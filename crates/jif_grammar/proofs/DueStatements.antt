-- A token and what it makes due are written for what was due: statements, methods and programs.
use Rattle.std.proofs.Common.{◌≡◌, inl, inr, ℕ, List, [], ◌∷◌, ◌++◌}
use Rattle.std.proofs.Common.{refl, ap, sym, subst, ◌∙◌, Some, None}
use Rattle.jif_lex.specs.declared.token.TokenKind.{TokenKind}
use Rattle.jif_lex.specs.declared.token.TokenKind.TheVariants.{Name, Word}
use Rattle.jif_lex.specs.declared.token.Symbol.{Symbol}
use Rattle.jif_lex.specs.declared.token.Symbol.TheVariants as symbols
use Rattle.jif_lex.specs.declared.token.Word as words_type
use Rattle.jif_lex.specs.declared.token.Word.TheVariants as words
use Rattle.label_lattice.specs.Written.{symbol}
use Rattle.jif_grammar.specs.Phrases.{ExprPhrase, end, declaration, assignment, element_assignment, call}
use Rattle.jif_grammar.specs.Phrases.{call_into, branch, branch_else, loop}
use Rattle.jif_grammar.specs.Phrases.{BlockPhrase}
use Rattle.jif_grammar.specs.Grouping.{IsGrouped, IsBlock}
use Rattle.jif_grammar.specs.Due as due
use Rattle.jif_grammar.specs.Due.{Due, Closing, Place, call_rest, method_rest, guard, local_rest, statement_word}
use Rattle.jif_grammar.specs.Due.{statement_symbol, operand_symbol, operand_word, after_operand_name_symbol}
use Rattle.jif_grammar.specs.Due.{due_after_symbol, due_after_word, due_after_name, due_after_number, due_after_token}
use Rattle.jif_grammar.specs.Due.{after_fixed, part_symbol, after_operand}
use Rattle.jif_grammar.specs.Unmarked.{label_then, expr_then, args_then, block_then, optional_label_then, params_then}
use Rattle.jif_grammar.specs.Unmarked.{authority_then, result_then}
use Rattle.jif_grammar.proofs.Written.{joined_more, WrittenExpr, WrittenCall}
use Rattle.jif_grammar.proofs.Written.{WrittenValue, WrittenSet, WrittenLocal, EndsAt, WrittenBlock}
use Rattle.jif_grammar.proofs.Written.{WrittenElse, WrittenTail, WrittenElement, Written, AreWritten}
use Rattle.jif_grammar.proofs.DueSound.{got}
use Rattle.jif_grammar.proofs.DueSound.{named_sound}

-- ---- statements

pub set_of : (tokens rest : List TokenKind) → AreWritten local_rest tokens rest → WrittenSet tokens rest
set_of tokens rest (x, assign, (y, w, last)) = record {
  value = w.expr;
  sound = w.sound;
  written = assign ∙ ap (λ ts. symbol symbols.Assign ∷ ts) (w.written ∙ ap (expr_then w.expr)
      (w.closes ∙ ap (λ ts. symbol symbols.Semicolon ∷ ts) last));
}

pub call_of : (r rest : List TokenKind) → AreWritten call_rest r rest →
    WrittenCall (symbol symbols.LeftParenthesis ∷ r) rest
call_of r rest (x, (args, sound, inside), (y, semicolon, last)) = record {
  args = args;
  sound = sound;
  written = ap (λ ts. symbol symbols.LeftParenthesis ∷ ts) (inside
      ∙ ap (λ ts. args_then args (symbol symbols.RightParenthesis ∷ ts))
      (semicolon ∙ ap (λ ts. symbol symbols.Semicolon ∷ ts) last));
}

pub args_of : (tokens rest : List TokenKind) → WrittenExpr due.at_argument tokens rest → Written due.args tokens rest
args_of tokens rest w =
    let (args, sound, more) = w.closes in (
      w.expr ∷ args,
      (w.sound, sound),
      w.written ∙ ap (expr_then w.expr) more
          ∙ sym (joined_more (symbol symbols.Comma) expr_then w.expr args (symbol symbols.RightParenthesis ∷ rest)),
    )

-- the statements end here
pub ended : (place : Place) (r rest : List TokenKind) → r ≡ rest →
    WrittenBlock place (symbol symbols.RightBrace ∷ r) rest
ended due.nested r rest same = record {
  block = end;
  sound = tt;
  behind = symbol symbols.RightBrace ∷ r;
  ends = ap (λ ts. symbol symbols.RightBrace ∷ ts) same;
  written = refl;
}
ended due.body r rest same = record {
  block = end;
  sound = tt;
  behind = symbol symbols.RightBrace ∷ r;
  ends = (None, tt, ap (λ ts. symbol symbols.RightBrace ∷ ts) same);
  written = refl;
}

pub statement_symbol_sound : (place : Place) (s : Symbol) (new : List Due) (r rest : List TokenKind) →
    statement_symbol place s ≡ Some new → AreWritten new r rest → WrittenBlock place (symbol s ∷ r) rest
statement_symbol_sound place symbols.RightBrace new r rest is w = ended place r rest (got [] new r rest is w)
statement_symbol_sound place _ new r rest is w = absurd (cc)

-- a statement that begins with a name
pub named_statement : (place : Place) (name : List ℕ) (r rest : List TokenKind) →
    AreWritten (due.after_first_name ∷ due.statements place ∷ []) r rest → WrittenBlock place (Name name ∷ r) rest
named_statement place name r rest (x, inl w, (y, more, last)) = by_value w.value
  where
    by_value : WrittenValue w.behind x → WrittenBlock place (Name name ∷ r) rest
    by_value (inl v) = record {
      block = assignment name v.expr more.block;
      sound = (v.sound, more.sound);
      behind = more.behind;
      ends = subst (EndsAt place more.behind) last more.ends;
      written = ap (λ ts. Name name ∷ ts) (w.written ∙ ap (λ ts. symbol symbols.Assign ∷ ts) (v.written
          ∙ ap (expr_then v.expr) (v.closes ∙ ap (λ ts. symbol symbols.Semicolon ∷ ts) more.written)));
    }
    by_value (inr v) = record {
      block = call_into name v.name v.call.args more.block;
      sound = (v.call.sound, more.sound);
      behind = more.behind;
      ends = subst (EndsAt place more.behind) last more.ends;
      written = ap (λ ts. Name name ∷ ts) (w.written ∙ ap (λ ts. symbol symbols.Assign ∷ ts) (v.written
          ∙ ap (λ ts. Name v.name ∷ ts) (v.call.written ∙ ap (λ ts. symbol symbols.LeftParenthesis
          ∷ args_then v.call.args (symbol symbols.RightParenthesis ∷ symbol symbols.Semicolon ∷ ts)) more.written)));
    }
named_statement place name r rest (x, inr (inl w), (y, more, last)) = record {
  block = element_assignment name w.index w.set.value more.block;
  sound = (w.sound, w.set.sound, more.sound);
  behind = more.behind;
  ends = subst (EndsAt place more.behind) last more.ends;
  written = ap (λ ts. Name name ∷ ts) (w.written ∙ ap (λ ts. symbol symbols.LeftBracket
      ∷ expr_then w.index (symbol symbols.RightBracket ∷ ts)) (w.set.written ∙ ap (λ ts. symbol symbols.Assign
      ∷ expr_then w.set.value (symbol symbols.Semicolon ∷ ts)) more.written));
}
named_statement place name r rest (x, inr (inr w), (y, more, last)) = record {
  block = call name w.args more.block;
  sound = (w.sound, more.sound);
  behind = more.behind;
  ends = subst (EndsAt place more.behind) last more.ends;
  written = ap (λ ts. Name name ∷ ts) (w.written ∙ ap (λ ts. symbol symbols.LeftParenthesis
      ∷ args_then w.args (symbol symbols.RightParenthesis ∷ symbol symbols.Semicolon ∷ ts)) more.written);
}

local_statement : (place : Place) (r rest : List TokenKind) →
    AreWritten (due.after_int ∷ due.statements place ∷ []) r rest → WrittenBlock place (Word words.Int ∷ r) rest
local_statement place r rest (x, w, (y, more, last)) = record {
  block = declaration w.label w.name w.set.value more.block;
  sound = (w.label_sound, w.set.sound, more.sound);
  behind = more.behind;
  ends = subst (EndsAt place more.behind) last more.ends;
  written = ap (λ ts. Word words.Int ∷ ts) (w.written ∙ ap (λ ts. optional_label_then w.label (Name w.name ∷ ts))
      (w.set.written ∙ ap (λ ts. symbol symbols.Assign ∷ expr_then w.set.value (symbol symbols.Semicolon ∷ ts))
      more.written));
}

-- a guard, its nested block, and what is behind
guarded : (behind : Due) (r rest : List TokenKind) →
    AreWritten (guard ++ due.statements due.nested ∷ behind ∷ []) r rest →
    (e : ExprPhrase) × IsGrouped e × (block : BlockPhrase) × IsBlock block × (tokens : List TokenKind)
    × Written behind tokens rest
    × (r ≡ symbol symbols.LeftParenthesis ∷ expr_then e (symbol symbols.RightParenthesis ∷ symbol symbols.LeftBrace
    ∷ block_then block (symbol symbols.RightBrace ∷ tokens)))
guarded behind r rest (a, opening, (b, e, (c, brace, (d, block, (f, w, last))))) = (
  e.expr,
  e.sound,
  block.block,
  block.sound,
  d,
  subst (Written behind d) last w,
  opening ∙ ap (λ ts. symbol symbols.LeftParenthesis ∷ ts) (e.written ∙ ap (expr_then e.expr) (e.closes
      ∙ ap (λ ts. symbol symbols.RightParenthesis ∷ ts) (brace ∙ ap (λ ts. symbol symbols.LeftBrace ∷ ts)
      (block.written ∙ ap (block_then block.block) block.ends)))),
)

branch_statement : (place : Place) (r rest : List TokenKind) →
    AreWritten (guard ++ due.statements due.nested ∷ due.otherwise place ∷ []) r rest →
    WrittenBlock place (Word words.If ∷ r) rest
branch_statement place r rest w = by_else all.5 all.6
  where
    all : (e : ExprPhrase) × IsGrouped e × (block : BlockPhrase) × IsBlock block × (tokens : List TokenKind)
        × Written (due.otherwise place) tokens rest
        × (r ≡ symbol symbols.LeftParenthesis ∷ expr_then e (symbol symbols.RightParenthesis
        ∷ symbol symbols.LeftBrace ∷ block_then block (symbol symbols.RightBrace ∷ tokens)))
    all = guarded (due.otherwise place) r rest w

    by_else : Written (due.otherwise place) all.4 rest → (r ≡ symbol symbols.LeftParenthesis
        ∷ expr_then all.0 (symbol symbols.RightParenthesis ∷ symbol symbols.LeftBrace
        ∷ block_then all.2 (symbol symbols.RightBrace ∷ all.4))) → WrittenBlock place (Word words.If ∷ r) rest
    by_else (inl other) is = record {
      block = branch_else all.0 all.2 other.second other.more.block;
      sound = (all.1, all.3, other.sound, other.more.sound);
      behind = other.more.behind;
      ends = other.more.ends;
      written = ap (λ ts. Word words.If ∷ ts) (is ∙ ap (λ ts. symbol symbols.LeftParenthesis
          ∷ expr_then all.0 (symbol symbols.RightParenthesis ∷ symbol symbols.LeftBrace
          ∷ block_then all.2 (symbol symbols.RightBrace ∷ ts))) (other.written ∙ ap (λ ts. Word words.Else
          ∷ symbol symbols.LeftBrace ∷ block_then other.second (symbol symbols.RightBrace ∷ ts)) other.more.written));
    }
    by_else (inr more) is = record {
      block = branch all.0 all.2 more.block;
      sound = (all.1, all.3, more.sound);
      behind = more.behind;
      ends = more.ends;
      written = ap (λ ts. Word words.If ∷ ts) (is ∙ ap (λ ts. symbol symbols.LeftParenthesis
          ∷ expr_then all.0 (symbol symbols.RightParenthesis ∷ symbol symbols.LeftBrace
          ∷ block_then all.2 (symbol symbols.RightBrace ∷ ts))) more.written);
    }

loop_statement : (place : Place) (r rest : List TokenKind) →
    AreWritten (guard ++ due.statements due.nested ∷ due.statements place ∷ []) r rest →
    WrittenBlock place (Word words.While ∷ r) rest
loop_statement place r rest w =
    let (e, sound, block, block_sound, tokens, more, is) = guarded (due.statements place) r rest w in
    record {
      block = loop e block more.block;
      sound = (sound, block_sound, more.sound);
      behind = more.behind;
      ends = more.ends;
      written = ap (λ ts. Word words.While ∷ ts) (is ∙ ap (λ ts. symbol symbols.LeftParenthesis
          ∷ expr_then e (symbol symbols.RightParenthesis ∷ symbol symbols.LeftBrace
          ∷ block_then block (symbol symbols.RightBrace ∷ ts))) more.written);
    }

return_statement : (r rest : List TokenKind) →
    AreWritten (due.operand due.at_semicolon ∷ due.exactly due.right_brace ∷ []) r rest →
    WrittenBlock due.body (Word words.Return ∷ r) rest
return_statement r rest (x, w, (y, brace, last)) = record {
  block = end;
  sound = tt;
  behind = Word words.Return ∷ r;
  ends = (
    Some w.expr,
    w.sound,
    ap (λ ts. Word words.Return ∷ ts) (w.written ∙ ap (expr_then w.expr) (w.closes
        ∙ ap (λ ts. symbol symbols.Semicolon ∷ ts) (brace ∙ ap (λ ts. symbol symbols.RightBrace ∷ ts) last))),
  );
  written = refl;
}

pub statement_word_sound : (place : Place) (word : words_type.Word) (new : List Due) (r rest : List TokenKind) →
    statement_word place word ≡ Some new → AreWritten new r rest → WrittenBlock place (Word word ∷ r) rest
statement_word_sound due.nested words.Int new r rest is w =
    local_statement due.nested r rest (got (due.after_int ∷ due.statements due.nested ∷ []) new r rest is w)
statement_word_sound due.nested words.If new r rest is w =
    branch_statement due.nested r rest
    (got (guard ++ due.statements due.nested ∷ due.otherwise due.nested ∷ []) new r rest is w)
statement_word_sound due.nested words.While new r rest is w =
    loop_statement due.nested r rest
    (got (guard ++ due.statements due.nested ∷ due.statements due.nested ∷ []) new r rest is w)
statement_word_sound due.nested _ new r rest is w = absurd (cc)
statement_word_sound due.body words.Int new r rest is w =
    local_statement due.body r rest (got (due.after_int ∷ due.statements due.body ∷ []) new r rest is w)
statement_word_sound due.body words.If new r rest is w =
    branch_statement due.body r rest
    (got (guard ++ due.statements due.nested ∷ due.otherwise due.body ∷ []) new r rest is w)
statement_word_sound due.body words.While new r rest is w =
    loop_statement due.body r rest
    (got (guard ++ due.statements due.nested ∷ due.statements due.body ∷ []) new r rest is w)
statement_word_sound due.body words.Return new r rest is w =
    return_statement r rest
    (got (due.operand due.at_semicolon ∷ due.exactly due.right_brace ∷ []) new r rest is w)
statement_word_sound due.body _ new r rest is w = absurd (cc)

else_sound : (place : Place) (r rest : List TokenKind) →
    AreWritten (due.exactly due.left_brace ∷ due.statements due.nested ∷ due.statements place ∷ []) r rest →
    WrittenElse place (Word words.Else ∷ r) rest
else_sound place r rest (a, brace, (b, block, (c, more, last))) = record {
  second = block.block;
  sound = block.sound;
  behind = b;
  more = subst (WrittenBlock place b) last more;
  written = ap (λ ts. Word words.Else ∷ ts) (brace ∙ ap (λ ts. symbol symbols.LeftBrace ∷ ts)
      (block.written ∙ ap (block_then block.block) block.ends));
}

pub otherwise_word_sound : (place : Place) (word : words_type.Word) (new : List Due) (r rest : List TokenKind) →
    due_after_word (due.otherwise place) word ≡ Some new → AreWritten new r rest →
    Written (due.otherwise place) (Word word ∷ r) rest
otherwise_word_sound place words.Else new r rest is w =
    inl (else_sound place r rest
    (got (due.exactly due.left_brace ∷ due.statements due.nested ∷ due.statements place ∷ []) new r rest is w))
otherwise_word_sound place word new r rest is w = inr (statement_word_sound place word new r rest is w)

-- ---- locals and values

pub labelled_local : (r rest : List TokenKind) → AreWritten (due.first_part ∷ due.a_name ∷ local_rest) r rest →
    WrittenLocal (symbol symbols.LeftBrace ∷ r) rest
labelled_local r rest (x, (label, sound, inside), (y, (name, named), more)) = record {
  label = Some label;
  name = name;
  label_sound = sound;
  behind = y;
  set = set_of y rest more;
  written = ap (λ ts. symbol symbols.LeftBrace ∷ ts) inside ∙ ap (label_then label) named;
}

pub plain_local : (name : List ℕ) (r rest : List TokenKind) → AreWritten local_rest r rest →
    WrittenLocal (Name name ∷ r) rest
plain_local name r rest w = record {
  label = None;
  name = name;
  label_sound = tt;
  behind = r;
  set = set_of r rest w;
  written = refl;
}

pub value_named : (name : List ℕ) (r rest : List TokenKind) → AreWritten (due.after_value_name ∷ []) r rest →
    WrittenValue (Name name ∷ r) rest
value_named name r rest (x, inl w, last) =
    inl (subst (WrittenExpr due.at_semicolon (Name name ∷ r)) last (named_sound due.at_semicolon name r x w))
value_named name r rest (x, inr w, last) =
    inr (record { name = name; behind = r; call = subst (WrittenCall r) last w; written = refl })

pub element_of : (r rest : List TokenKind) → AreWritten (due.operand due.at_bracket ∷ local_rest) r rest →
    WrittenElement (symbol symbols.LeftBracket ∷ r) rest
element_of r rest (x, index, more) = record {
  index = index.expr;
  sound = index.sound;
  behind = x;
  set = set_of x rest more;
  written = ap (λ ts. symbol symbols.LeftBracket ∷ ts) (index.written ∙ ap (expr_then index.expr) index.closes);
}

pub named_operand : (name : List ℕ) (closing : Closing) (r rest : List TokenKind) →
    AreWritten (due.after_operand_name closing ∷ []) r rest → WrittenExpr closing (Name name ∷ r) rest
named_operand name closing r rest (x, w, last) =
    subst (WrittenExpr closing (Name name ∷ r)) last (named_sound closing name r x w)

-- ---- methods

pub tail_of : (tokens rest : List TokenKind) → AreWritten method_rest tokens rest → WrittenTail tokens rest
tail_of tokens rest (a, opening, (b, (params, params_sound, inside), (c, (names, authority), (d, block, last)))) =
    let (result, sound, ending) = block.ends in
    record {
      phrase = record {
        kind = None;
        name = [];
        begin = [];
        params = params;
        authority = names;
        body = block.block;
        result = result;
      };
      params = params_sound;
      body = block.sound;
      result = sound;
      written = opening ∙ ap (λ ts. symbol symbols.LeftParenthesis ∷ ts) (inside
          ∙ ap (λ ts. params_then params (symbol symbols.RightParenthesis ∷ ts)) (authority
          ∙ ap (λ ts. authority_then names (symbol symbols.LeftBrace ∷ ts)) (block.written
          ∙ ap (block_then block.block)
          (ending ∙ ap (λ ts. result_then result (symbol symbols.RightBrace ∷ ts)) last))));
    }
