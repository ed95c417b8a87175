-- A token and what it makes due are written for what was due.
use Rattle.std.proofs.Common.{◌≡◌, inl, inr, ℕ, pos, List, [], ◌∷◌}
use Rattle.std.proofs.Common.{refl, ap, sym, subst, ◌∙◌, Option, Some, None}
use Rattle.js_base.specs.declared.binary_operator.BinOp.{BinOp}
use Rattle.js_base.specs.declared.binary_operator.BinOp.TheVariants as operator
use Rattle.jif_lex.specs.declared.token.TokenKind.{TokenKind}
use Rattle.jif_lex.specs.declared.token.TokenKind.TheVariants.{Name, Number, Word}
use Rattle.jif_lex.specs.declared.token.Symbol.{Symbol}
use Rattle.jif_lex.specs.declared.token.Symbol.TheVariants as symbols
use Rattle.jif_lex.specs.declared.token.Word as words_type
use Rattle.jif_lex.specs.declared.token.Word.TheVariants as words
use Rattle.label_lattice.specs.Written.{policy, trust, symbol, TrustIsLast}
use Rattle.jif_grammar.specs.Phrases.{Sign, complement, minus, Change, release, acceptance, LabelPhrase, ExprPhrase}
use Rattle.jif_grammar.specs.Phrases.{number}
use Rattle.jif_grammar.specs.Phrases.{variable, element, parenthesized, relabelled}
use Rattle.jif_grammar.specs.Operators.{operator_of, operator_symbol, sign_symbol, change_word}
use Rattle.jif_grammar.specs.Grouping.{IsGrouped}
use Rattle.jif_grammar.specs.Due as due
use Rattle.jif_grammar.specs.Due.{Due, Closing, Place, Fixed, fixed_symbol, after_fixed, by_operator, after_operand}
use Rattle.jif_grammar.specs.Due.{after_operand_name_symbol, operand_symbol, operand_word, relabelled_operand}
use Rattle.jif_grammar.specs.Due.{call_rest}
use Rattle.jif_grammar.specs.Due.{method_rest, guard, local_rest, statement_word, statement_symbol, part_symbol}
use Rattle.jif_grammar.specs.Due.{due_after_symbol, due_after_word, due_after_name, due_after_number, due_after_token}
use Rattle.jif_grammar.specs.Unmarked.{joined_then, name_then, names_then, part_then, label_then, expr_then}
use Rattle.jif_grammar.proofs.Groups.{link}
use Rattle.jif_grammar.proofs.OneExpr.{IsSoundOperand, sound_operands, at_first, at_links, in_order}
use Rattle.jif_grammar.proofs.Groups.{first_operand, links}
use Rattle.jif_grammar.proofs.Gather.{gather, gather_tokens, gather_grouped, with_sign, with_sign_tokens}
use Rattle.jif_grammar.proofs.Gather.{with_sign_grouped}
use Rattle.jif_grammar.proofs.Written.{joined_more, more_names, more_parts, more_args, Closes, WrittenLinks}
use Rattle.jif_grammar.proofs.Written.{WrittenExpr, WrittenIndex, WrittenAfterName}
use Rattle.jif_grammar.proofs.Written.{Written, AreWritten}

-- what is made due is what is computed
pub got : (made new : List Due) (r rest : List TokenKind) → Some made ≡ Some new → AreWritten new r rest →
    AreWritten made r rest
got made new r rest is w =
    let same : new ≡ made = (cc) in
    subst (λ ds. AreWritten ds r rest) same w

-- ---- single tokens

pub fixed_sound : (fixed : Fixed) (s : Symbol) (new : List Due) (r rest : List TokenKind) →
    after_fixed fixed s ≡ Some new → AreWritten new r rest → symbol s ∷ r ≡ symbol (fixed_symbol fixed) ∷ rest
fixed_sound due.left_parenthesis symbols.LeftParenthesis new r rest is w =
    ap (λ ts. symbol symbols.LeftParenthesis ∷ ts) (got [] new r rest is w)
fixed_sound due.right_parenthesis symbols.RightParenthesis new r rest is w =
    ap (λ ts. symbol symbols.RightParenthesis ∷ ts) (got [] new r rest is w)
fixed_sound due.left_brace symbols.LeftBrace new r rest is w =
    ap (λ ts. symbol symbols.LeftBrace ∷ ts) (got [] new r rest is w)
fixed_sound due.right_brace symbols.RightBrace new r rest is w =
    ap (λ ts. symbol symbols.RightBrace ∷ ts) (got [] new r rest is w)
fixed_sound due.right_bracket symbols.RightBracket new r rest is w =
    ap (λ ts. symbol symbols.RightBracket ∷ ts) (got [] new r rest is w)
fixed_sound due.semicolon symbols.Semicolon new r rest is w =
    ap (λ ts. symbol symbols.Semicolon ∷ ts) (got [] new r rest is w)
fixed_sound due.colon symbols.Colon new r rest is w =
    ap (λ ts. symbol symbols.Colon ∷ ts) (got [] new r rest is w)
fixed_sound due.assign symbols.Assign new r rest is w =
    ap (λ ts. symbol symbols.Assign ∷ ts) (got [] new r rest is w)
fixed_sound _ _ new r rest is w = absurd (cc)

-- ---- labels

pub policy_part : (owner : List ℕ) (r rest : List TokenKind) →
    AreWritten (due.exactly due.colon ∷ due.readers ∷ []) r rest → Written due.a_part (Name owner ∷ r) rest
policy_part owner r rest (x, colon, (y, (names, parts, sound, inside), last)) = (
  policy owner names,
  parts,
  sound,
  ap (λ ts. Name owner ∷ ts) (colon ∙ ap (λ ts. symbol symbols.Colon ∷ ts)
      (inside ∙ ap (λ ts. names_then names (more_parts parts ts)) last))
      ∙ sym (joined_more (symbol symbols.Semicolon) part_then (policy owner names) parts
      (symbol symbols.RightBrace ∷ rest)),
)

pub trust_part : (r rest : List TokenKind) → AreWritten (due.exactly due.colon ∷ due.members ∷ []) r rest →
    Written due.a_part (symbol symbols.Question ∷ r) rest
trust_part r rest (x, colon, (y, (names, inside), last)) = (
  trust names,
  [],
  refl,
  ap (λ ts. symbol symbols.Question ∷ ts) (colon ∙ ap (λ ts. symbol symbols.Colon ∷ ts)
      (inside ∙ ap (λ ts. names_then names (symbol symbols.RightBrace ∷ ts)) last)),
)

pub first_of_part : (tokens rest : List TokenKind) → Written due.a_part tokens rest → Written due.first_part tokens rest
first_of_part tokens rest (part, parts, sound, is) = (part ∷ parts, sound, is)

pub part_sound : (s : Symbol) (new : List Due) (r rest : List TokenKind) → part_symbol s ≡ Some new →
    AreWritten new r rest → Written due.a_part (symbol s ∷ r) rest
part_sound symbols.Question new r rest is w =
    trust_part r rest (got (due.exactly due.colon ∷ due.members ∷ []) new r rest is w)
part_sound _ new r rest is w = absurd (cc)

-- a policy's end: a brace, or a semicolon and more parts
pub parts_behind : (r rest : List TokenKind) → AreWritten (due.a_part ∷ []) r rest →
    (parts : LabelPhrase) × TrustIsLast parts × (symbol symbols.Semicolon ∷ r ≡ more_parts parts rest)
parts_behind r rest (y, (part, parts, sound, inside), last) = (
  part ∷ parts,
  sound,
  ap (λ ts. symbol symbols.Semicolon ∷ ts) (inside
      ∙ ap (λ ts. joined_then (symbol symbols.Semicolon) part_then (part ∷ parts) (symbol symbols.RightBrace ∷ ts))
      last),
)

pub more_readers : (r rest : List TokenKind) → AreWritten (due.a_name ∷ due.after_reader ∷ []) r rest →
    Written due.after_reader (symbol symbols.Comma ∷ r) rest
more_readers r rest (x, (name, first), (y, (names, parts, sound, inside), last)) = (
  name ∷ names,
  parts,
  sound,
  ap (λ ts. symbol symbols.Comma ∷ ts) (first
      ∙ ap (λ ts. Name name ∷ ts) (inside ∙ ap (λ ts. more_names names (more_parts parts ts)) last)
      ∙ sym (joined_more (symbol symbols.Comma) name_then name names (more_parts parts rest))),
)

pub first_reader : (name : List ℕ) (r rest : List TokenKind) → AreWritten (due.after_reader ∷ []) r rest →
    Written due.readers (Name name ∷ r) rest
first_reader name r rest (y, (names, parts, sound, inside), last) = (
  name ∷ names,
  parts,
  sound,
  ap (λ ts. Name name ∷ ts) (inside
      ∙ ap (λ ts. more_names names (more_parts parts ts)) last)
      ∙ sym (joined_more (symbol symbols.Comma) name_then name names (more_parts parts rest)),
)

pub more_members : (r rest : List TokenKind) → AreWritten (due.a_name ∷ due.after_member ∷ []) r rest →
    Written due.after_member (symbol symbols.Comma ∷ r) rest
more_members r rest (x, (name, first), (y, (names, inside), last)) = (
  name ∷ names,
  ap (λ ts. symbol symbols.Comma ∷ ts) (first
      ∙ ap (λ ts. Name name ∷ ts) (inside ∙ ap (λ ts. more_names names (symbol symbols.RightBrace ∷ ts)) last)
      ∙ sym (joined_more (symbol symbols.Comma) name_then name names (symbol symbols.RightBrace ∷ rest))),
)

pub first_member : (name : List ℕ) (r rest : List TokenKind) → AreWritten (due.after_member ∷ []) r rest →
    Written due.members (Name name ∷ r) rest
first_member name r rest (y, (names, inside), last) = (
  name ∷ names,
  ap (λ ts. Name name ∷ ts) (inside
      ∙ ap (λ ts. more_names names (symbol symbols.RightBrace ∷ ts)) last)
      ∙ sym (joined_more (symbol symbols.Comma) name_then name names (symbol symbols.RightBrace ∷ rest)),
)

-- ---- expressions

-- an operand, and what is behind it
from_operand : (closing : Closing) (x : ExprPhrase) (tokens r rest : List TokenKind) → IsGrouped x →
    WrittenLinks closing r rest → tokens ≡ expr_then x r → WrittenExpr closing tokens rest
from_operand closing x tokens r rest grouped w is = record {
  expr = gather x w.links;
  sound = gather_grouped x w.links grouped w.sound;
  behind = w.behind;
  closes = w.closes;
  written = is ∙ ap (expr_then x) w.written ∙ sym (gather_tokens x w.links w.behind);
}

pub number_sound : (closing : Closing) (n : ℕ) (r rest : List TokenKind) → AreWritten (due.links closing ∷ []) r rest →
    WrittenExpr closing (Number (pos n) ∷ r) rest
number_sound closing n r rest (x, w, last) =
    from_operand closing (number n) (Number (pos n) ∷ r) r rest tt (subst (WrittenLinks closing r) last w) refl

-- a name, and what is behind it
pub named_sound : (closing : Closing) (name : List ℕ) (r rest : List TokenKind) → WrittenAfterName closing r rest →
    WrittenExpr closing (Name name ∷ r) rest
named_sound closing name r rest (inl w) =
    from_operand closing (variable name) (Name name ∷ r) r rest tt w refl
named_sound closing name r rest (inr w) =
    from_operand closing (element name w.index) (Name name ∷ r) w.behind rest w.sound w.links
    (ap (λ ts. Name name ∷ ts) w.written)

at_rest : (closing : Closing) (tokens x rest : List TokenKind) → x ≡ rest → WrittenExpr closing tokens x →
    WrittenExpr closing tokens rest
at_rest closing tokens x rest same w = subst (WrittenExpr closing tokens) same w

sign_sound : (closing : Closing) (sign : Sign) (r rest : List TokenKind) →
    AreWritten (due.operand closing ∷ []) r rest → WrittenExpr closing (symbol (sign_symbol sign) ∷ r) rest
sign_sound closing sign r rest (x, w, last) =
    at_rest closing (symbol (sign_symbol sign) ∷ r) x rest last (record {
      expr = with_sign sign w.expr;
      sound = with_sign_grouped sign w.expr w.sound;
      behind = w.behind;
      closes = w.closes;
      written = ap (λ ts. symbol (sign_symbol sign) ∷ ts) w.written ∙ sym (with_sign_tokens sign w.expr w.behind);
    })

parenthesis_sound : (closing : Closing) (r rest : List TokenKind) →
    AreWritten (due.operand due.at_parenthesis ∷ due.links closing ∷ []) r rest →
    WrittenExpr closing (symbol symbols.LeftParenthesis ∷ r) rest
parenthesis_sound closing r rest (x, inner, (y, w, last)) =
    from_operand closing (parenthesized inner.expr) (symbol symbols.LeftParenthesis ∷ r) x rest inner.sound
    (subst (WrittenLinks closing x) last w)
    (ap (λ ts. symbol symbols.LeftParenthesis ∷ ts) (inner.written ∙ ap (expr_then inner.expr) inner.closes))

index_sound : (closing : Closing) (r rest : List TokenKind) →
    AreWritten (due.operand due.at_bracket ∷ due.links closing ∷ []) r rest →
    WrittenIndex closing (symbol symbols.LeftBracket ∷ r) rest
index_sound closing r rest (x, index, (y, w, last)) = record {
  index = index.expr;
  sound = index.sound;
  behind = x;
  links = subst (WrittenLinks closing x) last w;
  written = ap (λ ts. symbol symbols.LeftBracket ∷ ts) (index.written ∙ ap (expr_then index.expr) index.closes);
}

change_sound : (closing : Closing) (change : Change) (r rest : List TokenKind) →
    AreWritten (relabelled_operand closing) r rest → WrittenExpr closing (Word (change_word change) ∷ r) rest
change_sound closing change r rest (a, opening, (b, inner, (c, (label, sound, inside), (d, ending, (e, w, last))))) =
    from_operand closing (relabelled change inner.expr label) (Word (change_word change) ∷ r) d rest
    (inner.sound, sound) (subst (WrittenLinks closing d) last w)
    (ap (λ ts. Word (change_word change) ∷ ts) (opening ∙ ap (λ ts. symbol symbols.LeftParenthesis ∷ ts)
    (inner.written ∙ ap (expr_then inner.expr) (inner.closes ∙ ap (λ ts. symbol symbols.Comma ∷ ts)
    (inside ∙ ap (label_then label) ending)))))

pub operand_symbol_sound : (closing : Closing) (s : Symbol) (new : List Due) (r rest : List TokenKind) →
    operand_symbol closing s ≡ Some new → AreWritten new r rest → WrittenExpr closing (symbol s ∷ r) rest
operand_symbol_sound closing symbols.LeftParenthesis new r rest is w =
    parenthesis_sound closing r rest
    (got (due.operand due.at_parenthesis ∷ due.links closing ∷ []) new r rest is w)
operand_symbol_sound closing symbols.Not new r rest is w =
    sign_sound closing complement r rest (got (due.operand closing ∷ []) new r rest is w)
operand_symbol_sound closing symbols.Minus new r rest is w =
    sign_sound closing minus r rest (got (due.operand closing ∷ []) new r rest is w)
operand_symbol_sound closing _ new r rest is w = absurd (cc)

pub operand_word_sound : (closing : Closing) (word : words_type.Word) (new : List Due) (r rest : List TokenKind) →
    operand_word closing word ≡ Some new → AreWritten new r rest → WrittenExpr closing (Word word ∷ r) rest
operand_word_sound closing words.Declassify new r rest is w =
    change_sound closing release r rest (got (relabelled_operand closing) new r rest is w)
operand_word_sound closing words.Endorse new r rest is w =
    change_sound closing acceptance r rest (got (relabelled_operand closing) new r rest is w)
operand_word_sound closing _ new r rest is w = absurd (cc)

-- behind an operand: the end
ending_links : (closing : Closing) (tokens rest : List TokenKind) → Closes closing tokens rest →
    WrittenLinks closing tokens rest
ending_links closing tokens rest closes = record {
  links = [];
  sound = tt;
  behind = tokens;
  closes = closes;
  written = refl;
}

-- which symbol writes an operator
symbol_of : (s : Symbol) (o : BinOp) → operator_of s ≡ Some o → s ≡ operator_symbol o
symbol_of symbols.Or o found = let e : o ≡ operator.Or = (cc) in ap operator_symbol (sym e)
symbol_of symbols.And o found = let e : o ≡ operator.And = (cc) in ap operator_symbol (sym e)
symbol_of symbols.Equal o found = let e : o ≡ operator.Equal = (cc) in ap operator_symbol (sym e)
symbol_of symbols.NotEqual o found = let e : o ≡ operator.NotEqual = (cc) in ap operator_symbol (sym e)
symbol_of symbols.Less o found = let e : o ≡ operator.Less = (cc) in ap operator_symbol (sym e)
symbol_of symbols.LessOrEqual o found = let e : o ≡ operator.LessEqual = (cc) in ap operator_symbol (sym e)
symbol_of symbols.Greater o found = let e : o ≡ operator.Greater = (cc) in ap operator_symbol (sym e)
symbol_of symbols.GreaterOrEqual o found = let e : o ≡ operator.GreaterEqual = (cc) in ap operator_symbol (sym e)
symbol_of symbols.Plus o found = let e : o ≡ operator.Add = (cc) in ap operator_symbol (sym e)
symbol_of symbols.Minus o found = let e : o ≡ operator.Subtract = (cc) in ap operator_symbol (sym e)
symbol_of symbols.Star o found = let e : o ≡ operator.Multiply = (cc) in ap operator_symbol (sym e)
symbol_of symbols.Slash o found = let e : o ≡ operator.Divide = (cc) in ap operator_symbol (sym e)
symbol_of symbols.Percent o found = let e : o ≡ operator.Remainder = (cc) in ap operator_symbol (sym e)
symbol_of _ o found = absurd (cc)

-- behind an operand: an operator, and what is behind it
operator_sound : (closing : Closing) (s : Symbol) (o : Option BinOp) → operator_of s ≡ o → (new : List Due)
    (r rest : List TokenKind) → by_operator closing o ≡ Some new → AreWritten new r rest →
    WrittenLinks closing (symbol s ∷ r) rest
operator_sound closing s None found new r rest is w = absurd (cc)
operator_sound closing s (Some o) found new r rest is w =
    let (x, operand, last) = got (due.operand closing ∷ []) new r rest is w in
    let sound = sound_operands operand.expr operand.sound in
    subst (WrittenLinks closing (symbol s ∷ r)) last (record {
      links = link o (first_operand operand.expr) ∷ links operand.expr;
      sound = (at_first IsSoundOperand operand.expr sound, at_links IsSoundOperand operand.expr sound);
      behind = operand.behind;
      closes = operand.closes;
      written = ap (λ k. symbol k ∷ r) (symbol_of s o found)
          ∙ ap (λ ts. symbol (operator_symbol o) ∷ ts) (operand.written ∙ in_order operand.expr operand.behind);
    })

pub after_operand_sound : (closing : Closing) (s : Symbol) (new : List Due) (r rest : List TokenKind) →
    after_operand closing s ≡ Some new → AreWritten new r rest → WrittenLinks closing (symbol s ∷ r) rest
after_operand_sound due.at_semicolon symbols.Semicolon new r rest is w =
    ending_links due.at_semicolon (symbol symbols.Semicolon ∷ r) rest
    (ap (λ ts. symbol symbols.Semicolon ∷ ts) (got [] new r rest is w))
after_operand_sound due.at_comma symbols.Comma new r rest is w =
    ending_links due.at_comma (symbol symbols.Comma ∷ r) rest
    (ap (λ ts. symbol symbols.Comma ∷ ts) (got [] new r rest is w))
after_operand_sound due.at_bracket symbols.RightBracket new r rest is w =
    ending_links due.at_bracket (symbol symbols.RightBracket ∷ r) rest
    (ap (λ ts. symbol symbols.RightBracket ∷ ts) (got [] new r rest is w))
after_operand_sound due.at_parenthesis symbols.RightParenthesis new r rest is w =
    ending_links due.at_parenthesis (symbol symbols.RightParenthesis ∷ r) rest
    (ap (λ ts. symbol symbols.RightParenthesis ∷ ts) (got [] new r rest is w))
after_operand_sound due.at_argument symbols.RightParenthesis new r rest is w =
    ending_links due.at_argument (symbol symbols.RightParenthesis ∷ r) rest
    ([], tt, ap (λ ts. symbol symbols.RightParenthesis ∷ ts) (got [] new r rest is w))
after_operand_sound due.at_argument symbols.Comma new r rest is w =
    let (x, operand, last) = got (due.operand due.at_argument ∷ []) new r rest is w in
    let (args, sound, more) = operand.closes in
    ending_links due.at_argument (symbol symbols.Comma ∷ r) rest (
      operand.expr ∷ args,
      (operand.sound, sound),
      ap (λ ts. symbol symbols.Comma ∷ ts) (operand.written
          ∙ ap (expr_then operand.expr) (more ∙ ap (more_args args) last)
          ∙ sym (joined_more (symbol symbols.Comma) expr_then operand.expr args
          (symbol symbols.RightParenthesis ∷ rest))),
    )
after_operand_sound closing s new r rest is w = operator_sound closing s (operator_of s) refl new r rest is w

pub name_symbol_sound : (closing : Closing) (s : Symbol) (new : List Due) (r rest : List TokenKind) →
    after_operand_name_symbol closing s ≡ Some new → AreWritten new r rest →
    WrittenAfterName closing (symbol s ∷ r) rest
name_symbol_sound closing symbols.LeftBracket new r rest is w =
    inr (index_sound closing r rest
    (got (due.operand due.at_bracket ∷ due.links closing ∷ []) new r rest is w))
name_symbol_sound closing s new r rest is w = inl (after_operand_sound closing s new r rest is w)
