-- What runs of bytes and symbols make of the front of a text.
use Rattle.std.proofs.Common.{◌≡◌, ◌≢◌, ℤ, pos, ◌<ℤ◌, ◌≤ℤ◌, ℕ, ◌≤◌, ◌⊎◌, inl, inr, true, List, [], ◌∷◌, ◌++◌}
use Rattle.std.proofs.Common.{length, take, drop, codes, refl, sym, ap, ◌∙◌, subst, arith}
use Rattle.std.specs.List.{list_all, prefix_len}
use Rattle.std.specs.Char.{is_ascii_digit}
use Rattle.std.specs.Str.Parse.{digits_value}
use Rattle.std.proofs.lemmas.Bool.{and_parts, and_from, or_left}
use Rattle.std.proofs.lemmas.List.{take-append-drop}
use Rattle.std.proofs.lemmas.Int.{ints, to_z-of_z}
use mir.Syntax.{w64}
use mir.Val.{to_z, of_z}
use Rattle.js_base.specs.Name.{starts_name, continues_name}
use Rattle.js_base.specs.declared.limits.TheConstants.{LARGEST_NUMBER}
use Rattle.jif_lex.specs.declared.token.TokenKind.{TokenKind}
use Rattle.jif_lex.specs.declared.token.TokenKind.TheVariants as token
use Rattle.jif_lex.specs.declared.token.Symbol.{Symbol}
use Rattle.jif_lex.specs.Tokens.{IsWordLike, AreDigits, IsLexeme, IsKind, IsLongest, OpensComment, BeginsBadNumber}
use Rattle.jif_lex.specs.Tokens.{BeginsBadByte, IsPieceBefore, Piece, piece_text, skipped, lexeme}
use Rattle.jif_lex.specs.declared.lexer.LexError.{LexError}
use Rattle.jif_lex.specs.declared.lexer.LexError.TheVariants.{OutOfMemory, BadByte, BadNumber, TooLong}
use Rattle.jif_lex.specs.Lexing.{LexemeFails, FailsAt, HasFront, LacksFront, IsTokenFront, IsSkipped, BeginsWord}
use Rattle.jif_lex.specs.Lexing.{BeginsDigits, IsSymbolFront, LacksSymbol}
use Rattle.jif_lex.proofs.Begins.{letter, digit, other, class_of, word_class, digits_class, symbol_text_class}
use Rattle.jif_lex.proofs.Begins.{class_of_front}
use Rattle.jif_lex.proofs.Meanings.{clash}
use Rattle.jif_lex.proofs.Pieces.{all_digits, is_digits, is_word, is_symbol}
use Rattle.jif_lex.proofs.Runs.{IsRun, run_of, run_some, run_longest}

-- ---- words

pub all_continue : (text : List ℕ) → IsWordLike text → list_all continues_name text ≡ true
all_continue [] is = absurd is
all_continue (byte ∷ bytes) is =
    and_from (continues_name byte) (list_all continues_name bytes)
    (or_left (starts_name byte) (is_ascii_digit byte) is.0) is.1

word_like_by : (front after : List ℕ) → IsRun continues_name front after → BeginsWord (front ++ after) →
    IsWordLike front
word_like_by [] [] run begins = absurd begins
word_like_by [] (byte ∷ after) run begins =
    absurd (run_some continues_name [] (byte ∷ after) byte after run refl
    (or_left (starts_name byte) (is_ascii_digit byte) begins) refl)
word_like_by (byte ∷ bytes) after run begins =
    (begins, (and_parts (continues_name byte) (list_all continues_name bytes) run.passes).1)

pub word_like : (text : List ℕ) (n : ℕ) → n ≡ prefix_len continues_name text → BeginsWord text →
    IsWordLike (take n text)
word_like text n is begins =
    let P : List ℕ → Type 0 = BeginsWord in
    word_like_by (take n text) (drop n text) (run_of continues_name text n is)
    (subst P (sym (take-append-drop n text)) begins)

pub word_longest : (front after : List ℕ) → IsRun continues_name front after → IsWordLike front → IsLongest front after
word_longest front after run like = record {
  lexeme = inl like;
  longest = λ more rest is longer. run_longest continues_name front after more rest run is
      (all_continue (front ++ more)
      (is_word (front ++ more) longer (class_of_front front more letter (word_class front like) (λ e. cc))));
}

plain_front : (text : List ℕ) (n : ℕ) → ¬ OpensComment text → ¬ OpensComment (take n text ++ drop n text)
plain_front text n plain = let P : List ℕ → Type 0 =
    λ t. ¬ OpensComment t in subst P (sym (take-append-drop n text)) plain

-- the word that a text begins with is its first piece
pub word_front : (text : List ℕ) (n : ℕ) (kind : TokenKind) → n ≡ prefix_len continues_name text → n ≤ length text →
    BeginsWord text → ¬ OpensComment text
    → IsKind (take n text) kind → HasFront text n (IsTokenFront kind)
word_front text n kind is within begins plain means =
    let like = word_like text n is begins in (
      within,
      (
        plain_front text n plain,
        word_longest (take n text) (drop n text) (run_of continues_name text n is) like,
        means,
        λ digits. absurd (clash (take n text) letter digit (word_class (take n text) like)
            (digits_class (take n text) digits) (λ e. cc)),
      ),
    )

-- ---- numbers

digits_by : (front after : List ℕ) → IsRun is_ascii_digit front after → BeginsDigits (front ++ after) → AreDigits front
digits_by [] [] run begins = absurd begins
digits_by [] (byte ∷ after) run begins =
    absurd (run_some is_ascii_digit [] (byte ∷ after) byte after run refl begins refl)
digits_by (byte ∷ bytes) after run begins = run.passes

pub are_digits : (text : List ℕ) (n : ℕ) → n ≡ prefix_len is_ascii_digit text → BeginsDigits text →
    AreDigits (take n text)
are_digits text n is begins =
    let P : List ℕ → Type 0 = BeginsDigits in
    digits_by (take n text) (drop n text) (run_of is_ascii_digit text n is)
    (subst P (sym (take-append-drop n text)) begins)

pub digits_longest : (front after : List ℕ) → IsRun is_ascii_digit front after → AreDigits front → IsLongest front after
digits_longest front after run digits = record {
  lexeme = inr (inl digits);
  longest = λ more rest is longer. run_longest is_ascii_digit front after more rest run is
      (all_digits (front ++ more)
      (is_digits (front ++ more) longer (class_of_front front more digit (digits_class front digits) (λ e. cc))));
}

-- the number that a text begins with is its first piece
pub number_front : (text : List ℕ) (n : ℕ) (kind : TokenKind) → n ≡ prefix_len is_ascii_digit text →
    n ≤ length text → BeginsDigits text → ¬ OpensComment text
    → IsKind (take n text) kind → ¬ BeginsWord (drop n text) → HasFront text n (IsTokenFront kind)
number_front text n kind is within begins plain means apart =
    let digits = are_digits text n is begins in (
      within,
      (
        plain_front text n plain,
        digits_longest (take n text) (drop n text) (run_of is_ascii_digit text n is)
            digits,
        means,
        λ _. apart,
      ),
    )

run_ends : (front after : List ℕ) → IsRun is_ascii_digit front after → ¬ BeginsDigits after
run_ends front [] run begins = begins
run_ends front (byte ∷ after) run begins =
    let never : byte ∷ [] ≡ [] =
    run.stops (byte ∷ []) after refl (and_from (is_ascii_digit byte) true begins refl) in cc

pub bad_number_front : (text : List ℕ) (n : ℕ) → n ≡ prefix_len is_ascii_digit text → BeginsDigits text
    → (LARGEST_NUMBER <ℤ pos (digits_value 10 (take n text))) ⊎ BeginsWord (drop n text) → BeginsBadNumber text
bad_number_front text n is begins bad = record {
  digits = take n text;
  after = drop n text;
  written = sym (take-append-drop n text);
  are_digits = are_digits text n is begins;
  whole_run = run_ends (take n text) (drop n text) (run_of is_ascii_digit text n is);
  bad = bad;
}

-- ---- symbols

pub symbol_front : (text : List ℕ) (symbol : Symbol) (n : ℕ) → IsSymbolFront text symbol n → ¬ OpensComment text →
    HasFront text n (IsTokenFront (token.Symbol symbol))
symbol_front text symbol n is plain =
    let front : List ℕ = take n text in
    let there : class_of front ≡ other = ap class_of is.1.0 ∙ symbol_text_class symbol in (
      is.0,
      (
        plain_front text n plain,
        record {
          lexeme = inr (inr (symbol, is.1.0));
          longest =
              λ more rest same longer. is.1.1 more rest same
              (is_symbol (front ++ more) longer (class_of_front front more other there (λ e. cc)));
        },
        is.1.0,
        λ digits. absurd (clash front digit other (digits_class front digits) there (λ e. cc)),
      ),
    )

begins_word : (front after : List ℕ) → IsWordLike front → BeginsWord (front ++ after)
begins_word [] after is = absurd is
begins_word (byte ∷ bytes) after is = is.0

begins_digits : (front after : List ℕ) → AreDigits front → BeginsDigits (front ++ after)
begins_digits [] after is = absurd is
begins_digits (byte ∷ bytes) after is = (and_parts (is_ascii_digit byte) (list_all is_ascii_digit bytes) is).0

-- a text that begins with no letter, digit or symbol begins with no lexeme
pub no_lexeme : (text : List ℕ) → ¬ BeginsWord text → ¬ BeginsDigits text → LacksSymbol text →
    LacksFront text (λ front after. IsLexeme front)
no_lexeme text no_word no_digits no_symbol front after is there = elim there [
  | inl word ↦ no_word (let P : List ℕ → Type 0 = BeginsWord in subst P (sym is) (begins_word front after word))
  | inr b ↦ elim b [
    | inl digits ↦ no_digits (let P : List ℕ → Type 0 =
        BeginsDigits in subst P (sym is) (begins_digits front after digits))
    | inr symbol ↦ no_symbol front after is symbol
  ]
]

-- ---- faults

no_piece_by : (text : List ℕ) → LacksFront text IsSkipped → LacksFront text (λ front after. IsLexeme front) →
    (piece : Piece) (after : List ℕ) → text ≡ piece_text piece ++ after → ¬ IsPieceBefore piece after
no_piece_by text no_skip no_lexeme (skipped front) after is piece = no_skip front after is piece
no_piece_by text no_skip no_lexeme (lexeme front kind) after is piece = no_lexeme front after is piece.1.lexeme

open_no_piece : (text : List ℕ) → OpensComment text → LacksFront text IsSkipped → (piece : Piece) (after : List ℕ) →
    text ≡ piece_text piece ++ after → ¬ IsPieceBefore piece after
open_no_piece text opens no_skip (skipped front) after is piece = no_skip front after is piece
open_no_piece text opens no_skip (lexeme front kind) after is piece =
    piece.0 (let P : List ℕ → Type 0 = OpensComment in subst P is opens)

pub comment_class : (text : List ℕ) → OpensComment text → class_of text ≡ other
comment_class text opens = elim opens.1 [ inl a ↦ ap class_of a | inr b ↦ ap class_of b ]

-- what is not skipped and begins with no lexeme begins with a bad byte
pub bad_byte_by : (text : List ℕ) → text ≢ [] → LacksFront text IsSkipped →
    LacksFront text (λ front after. IsLexeme front) → BeginsBadByte text
bad_byte_by text some no_skip no_lexeme = record {
  some = some;
  no_number = λ bad. no_lexeme bad.digits bad.after bad.written (inr (inl bad.are_digits));
  no_piece = no_piece_by text no_skip no_lexeme;
}

pub fails_at : (text : List ℕ) (at : ℕ) (error : LexError) → text ≢ [] → LacksFront text IsSkipped →
    LexemeFails text at error → FailsAt text at error
fails_at text at OutOfMemory some no_skip fails = fails
fails_at text at (BadByte place) some no_skip fails = (fails.0, bad_byte_by text some no_skip fails.1)
fails_at text at (BadNumber place) some no_skip fails = fails
fails_at text at TooLong some no_skip fails = fails

pub open_comment_fails : (text : List ℕ) → OpensComment text → LacksFront text IsSkipped → BeginsBadByte text
open_comment_fails text opens no_skip = record {
  some = λ none. elim opens.1 [
    | inl a ↦ (let both : codes "//" ++ opens.0 ≡ [] = sym a ∙ none in cc)
    | inr b ↦ (let both : codes "/*" ++ opens.0 ≡ [] = sym b ∙ none in cc)
  ];
  no_number = λ bad.
      (let digits = class_of_front bad.digits bad.after digit (digits_class bad.digits bad.are_digits) (λ e. cc) in
      clash text other digit (comment_class text opens) (ap class_of bad.written ∙ digits) (λ e. cc));
  no_piece = open_no_piece text opens no_skip;
}

-- ---- values

-- a number that fits 64 bits is kept as it is
pub kept_value : (value : ℤ) (n : ℕ) → value ≡ pos n → value ≤ℤ LARGEST_NUMBER → to_z w64 (of_z w64 value) ≡ pos n
kept_value value n is fits = grind (arith, ints, to_z-of_z)
