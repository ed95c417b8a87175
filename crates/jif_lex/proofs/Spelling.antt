-- Texts that are put together from spellings are cut into these.
use Rattle.std.proofs.Common.{◌≡◌, ℤ, pos, negsuc, ◌≤ℤ◌, ℕ, ◌<◌, ◌+◌, ◌^◌, inl, inr, Bool, true, false}
use Rattle.std.proofs.Common.{not, ◌&&◌, ◌||◌, List, [], ◌∷◌, ◌++◌, length, codes, refl, sym, ap, ◌∙◌, arith, map}
use Rattle.std.specs.Prelude.{IsTrue, ⊤}
use Rattle.std.specs.List.{list_all, list_any}
use Rattle.std.specs.Char.{is_ascii_digit, digit_value}
use Rattle.std.specs.Fmt.{decimal}
use Rattle.std.specs.Str.{bytes_eq}
use Rattle.std.specs.Str.Parse.{AllDigits}
use Rattle.std.proofs.lemmas.Bool.{and_parts, and_from, both_ways}
use Rattle.std.proofs.lemmas.Bool.Decides.{nat_tests}
use Rattle.std.proofs.lemmas.Fmt.{decimal_is_IsNumeral}
use Rattle.std.proofs.lemmas.Int.{ints}
use Rattle.std.proofs.lemmas.List.{append_assoc}
use Rattle.std.proofs.lemmas.Str.Parse.{digit_from_value}
use Rattle.js_base.specs.Name.{IsName, starts_name, continues_name}
use Rattle.js_base.specs.declared.limits.TheConstants.{LARGEST_NUMBER}
use Rattle.jif_lex.specs.declared.token.TokenKind.{TokenKind}
use Rattle.jif_lex.specs.declared.token.TokenKind.TheVariants as token
use Rattle.jif_lex.specs.declared.token.Symbol.{Symbol}
use Rattle.jif_lex.specs.declared.token.Symbol.TheVariants.{LeftBrace}
use Rattle.jif_lex.specs.declared.token.Word.{Word}
use Rattle.jif_lex.specs.declared.token.Word.TheVariants.{Int}
use Rattle.jif_lex.specs.Symbols.{word_text, symbol_text}
use Rattle.jif_lex.specs.Tokens.{IsWordLike, AreDigits, IsKind, OpensComment, FirstIs, Piece}
use Rattle.jif_lex.specs.Tokens.{skipped, lexeme, IsPieceBefore, CutsTo, tokens_of, line_feeds}
use Rattle.jif_lex.specs.Spelled.{kind_text, IsSpellable, byte_pairs, makes_pair, ends_before, Spelled, token_part}
use Rattle.jif_lex.specs.Spelled.{space_part, line_end_part, spelled_text, spelled_kinds, AreApart}
use Rattle.jif_lex.specs.Spelled.{part_text, HasKinds}
use Rattle.jif_lex.proofs.Begins.{letter, digit, other, class_of, word_class, digits_class, symbol_text_class}
use Rattle.jif_lex.proofs.Begins.{class_of_front}
use Rattle.jif_lex.proofs.Fronts.{word_longest, digits_longest, comment_class, all_continue}
use Rattle.jif_lex.proofs.Meanings.{clash, name_is_word}
use Rattle.jif_lex.proofs.Pieces.{is_symbol, all_digits}
use Rattle.jif_lex.proofs.Runs.{IsRun}

-- ---- words and numbers

-- the first byte, where there is one, fails the test
abbrev pub FirstFails : (ℕ → Bool) → List ℕ → Type 0
FirstFails test [] = ⊤
FirstFails test (byte ∷ bytes) = test byte ≡ false

stops_by : (test : ℕ → Bool) (after : List ℕ) → FirstFails test after → (more rest : List ℕ) → after ≡ more ++ rest →
    list_all test more ≡ true → more ≡ []
stops_by test after fails [] rest is all = refl
stops_by test [] fails (byte ∷ more) rest is all = cc
stops_by test (first ∷ after) fails (byte ∷ more) rest is all =
    let same : first ≡ byte = cc in
    absurd (both_ways (test byte) (ap test (sym same) ∙ fails) (and_parts (test byte) (list_all test more) all).0)

run_by : (test : ℕ → Bool) (front after : List ℕ) → list_all test front ≡ true → FirstFails test after →
    IsRun test front after
run_by test front after all fails = record { passes = all; stops = stops_by test after fails }

no_start : (byte : ℕ) → continues_name byte ≡ false → starts_name byte ≡ false
no_start byte is = grind (arith, nat_tests)

no_digit : (byte : ℕ) → continues_name byte ≡ false → is_ascii_digit byte ≡ false
no_digit byte is = grind (arith, nat_tests)

starts_none : (after : List ℕ) → FirstFails continues_name after → ¬ FirstIs (λ byte. IsTrue (starts_name byte)) after
starts_none [] fails first = first
starts_none (byte ∷ bytes) fails first = both_ways (starts_name byte) (no_start byte fails) first

no_digits_next : (after : List ℕ) → FirstFails continues_name after → FirstFails is_ascii_digit after
no_digits_next [] fails = tt
no_digits_next (byte ∷ bytes) fails = no_digit byte fails

word_piece : (text after : List ℕ) (kind : TokenKind) → IsWordLike text → IsKind text kind →
    list_all continues_name text ≡ true → FirstFails continues_name after → IsPieceBefore (lexeme text kind) after
word_piece text after kind like means all fails =
    let there : class_of text ≡ letter = word_class text like in (
      λ opens. clash (text ++ after) other letter (comment_class (text ++ after) opens)
          (class_of_front text after letter there (λ e. cc)) (λ e. cc),
      word_longest text after (run_by continues_name text after all fails) like,
      means,
      λ digits. absurd (clash text letter digit there (digits_class text digits) (λ e. cc)),
    )

digits_piece : (text after : List ℕ) (kind : TokenKind) → AreDigits text → IsKind text kind →
    list_all is_ascii_digit text ≡ true → FirstFails continues_name after → IsPieceBefore (lexeme text kind) after
digits_piece text after kind digits means all fails =
    let there : class_of text ≡ digit = digits_class text digits in (
      λ opens. clash (text ++ after) other digit (comment_class (text ++ after) opens)
          (class_of_front text after digit there (λ e. cc)) (λ e. cc),
      digits_longest text after (run_by is_ascii_digit text after all (no_digits_next after fails)) digits,
      means,
      λ _. starts_none after fails,
    )

-- ---- symbols

-- a symbol has one byte, or is a pair of bytes that opens no comment
pub data Shape (text : List ℕ) : Type 0 where
  one_byte : (byte : ℕ) → text ≡ byte ∷ [] → Shape text
  two_bytes : (first second : ℕ) → text ≡ first ∷ second ∷ [] → list_any (bytes_eq text) byte_pairs ≡ true →
      (bytes_eq text (codes "//") || bytes_eq text (codes "/*")) ≡ false → Shape text

abbrev shape_test : List ℕ → Bool
shape_test [] = false
shape_test (byte ∷ []) = true
shape_test (first ∷ second ∷ []) =
    list_any (bytes_eq (first ∷ second ∷ [])) byte_pairs
    && not (bytes_eq (first ∷ second ∷ []) (codes "//") || bytes_eq (first ∷ second ∷ []) (codes "/*"))
shape_test (first ∷ second ∷ third ∷ rest) = false

shape_tested : (written : Symbol) → shape_test (symbol_text written) ≡ true
shape_tested written = elim written as (λ w. shape_test (symbol_text w) ≡ true) [ LeftBrace ↦ refl | _ ↦ refl ]

from_not : (b : Bool) → not b ≡ true → b ≡ false
from_not true is = cc
from_not false is = refl

shape_by : (text : List ℕ) → shape_test text ≡ true → Shape text
shape_by [] is = cc
shape_by (byte ∷ []) is = one_byte byte refl
shape_by (first ∷ second ∷ []) is =
    let both = and_parts (list_any (bytes_eq (first ∷ second ∷ [])) byte_pairs)
    (not (bytes_eq (first ∷ second ∷ []) (codes "//") || bytes_eq (first ∷ second ∷ []) (codes "/*"))) is in
    two_bytes first second refl both.0 (from_not _ both.1)
shape_by (first ∷ second ∷ third ∷ rest) is = cc

shape_of : (written : Symbol) → Shape (symbol_text written)
shape_of written = shape_by (symbol_text written) (shape_tested written)

-- the next byte, where there is one, makes no pair with the text
abbrev pub NoPair : List ℕ → List ℕ → Type 0
NoPair text [] = ⊤
NoPair text (byte ∷ bytes) = list_any (bytes_eq (text ++ byte ∷ [])) byte_pairs ≡ false

longest_by : (text after : List ℕ) → Shape text → NoPair text after → (more rest : List ℕ) (longer : Symbol) →
    after ≡ more ++ rest → text ++ more ≡ symbol_text longer → Shape (symbol_text longer) → more ≡ []
longest_by text after shape pairs [] rest longer is same whole = refl
longest_by text [] shape pairs (byte ∷ more) rest longer is same whole = cc
longest_by text (next ∷ after) (one_byte first text_is) pairs (byte ∷ more) rest longer is same (one_byte c long_is) =
    let both : first ∷ byte ∷ more ≡ c ∷ [] = sym (ap (λ t. t ++ byte ∷ more) text_is) ∙ same ∙ long_is in cc
longest_by text (next ∷ after) (one_byte first text_is) pairs (byte ∷ more) rest longer is same
    (two_bytes c d long_is paired plain) =
    let both : first ∷ byte ∷ more ≡ c ∷ d ∷ [] = sym (ap (λ t. t ++ byte ∷ more) text_is) ∙ same ∙ long_is in
    let heads : first ≡ c = cc in
    let seconds : byte ≡ d = cc in
    let nexts : next ≡ byte = cc in
    let made : text ++ next ∷ [] ≡ symbol_text longer =
    ap (λ t. t ++ next ∷ []) text_is ∙ ap (λ n. n ∷ next ∷ []) heads ∙ ap (λ n. c ∷ n ∷ []) (nexts ∙ seconds)
    ∙ sym long_is in
    absurd (both_ways _ (sym (ap (λ t. list_any (bytes_eq t) byte_pairs) made) ∙ pairs) paired)
longest_by text (next ∷ after) (two_bytes a b text_is paired plain) pairs (byte ∷ more) rest longer is same
    (one_byte c long_is) =
    let both : a ∷ b ∷ byte ∷ more ≡ c ∷ [] = sym (ap (λ t. t ++ byte ∷ more) text_is) ∙ same ∙ long_is in cc
longest_by text (next ∷ after) (two_bytes a b text_is paired plain) pairs (byte ∷ more) rest longer is same
    (two_bytes c d long_is paired' plain') =
    let both : a ∷ b ∷ byte ∷ more ≡ c ∷ d ∷ [] = sym (ap (λ t. t ++ byte ∷ more) text_is) ∙ same ∙ long_is in cc

opens_by : (text after : List ℕ) → Shape text → NoPair text after → (first second : ℕ) (rest : List ℕ) →
    list_any (bytes_eq (first ∷ second ∷ [])) byte_pairs ≡ true →
    (bytes_eq (first ∷ second ∷ []) (codes "//") || bytes_eq (first ∷ second ∷ []) (codes "/*")) ≡ true →
    text ++ after ≡ first ∷ second ∷ rest → ⊥
opens_by text [] (one_byte byte text_is) pairs first second rest pair comment is =
    let both : byte ∷ [] ≡ first ∷ second ∷ rest = sym (ap (λ t. t ++ []) text_is) ∙ is in cc
opens_by text (next ∷ after) (one_byte byte text_is) pairs first second rest pair comment is =
    let both : byte ∷ next ∷ after ≡ first ∷ second ∷ rest = sym (ap (λ t. t ++ next ∷ after) text_is) ∙ is in
    let heads : byte ≡ first = cc in
    let nexts : next ≡ second = cc in
    let made : text ++ next ∷ [] ≡ first ∷ second ∷ [] =
    ap (λ t. t ++ next ∷ []) text_is ∙ ap (λ n. n ∷ next ∷ []) heads ∙ ap (λ n. first ∷ n ∷ []) nexts in
    both_ways _ (sym (ap (λ t. list_any (bytes_eq t) byte_pairs) made) ∙ pairs) pair
opens_by text after (two_bytes a b text_is paired plain) pairs first second rest pair comment is =
    let both : a ∷ b ∷ after ≡ first ∷ second ∷ rest = sym (ap (λ t. t ++ after) text_is) ∙ is in
    let heads : a ≡ first = cc in
    let nexts : b ≡ second = cc in
    let made : text ≡ first ∷ second ∷ [] = text_is ∙ ap (λ n. n ∷ b ∷ []) heads ∙ ap (λ n. first ∷ n ∷ []) nexts in
    both_ways _ (sym (ap (λ t. bytes_eq t (codes "//") || bytes_eq t (codes "/*")) made) ∙ plain) comment

no_comment : (text after : List ℕ) → Shape text → NoPair text after → ¬ OpensComment (text ++ after)
no_comment text after shape pairs opens = elim opens.1 [
  | inl line ↦ opens_by text after shape pairs 47 47 opens.0 refl refl line
  | inr block ↦ opens_by text after shape pairs 47 42 opens.0 refl refl block
]

symbol_piece : (written : Symbol) (after : List ℕ) → NoPair (symbol_text written) after →
    IsPieceBefore (lexeme (symbol_text written) (token.Symbol written)) after
symbol_piece written after pairs =
    let text : List ℕ = symbol_text written in
    let there : class_of text ≡ other = symbol_text_class written in (
      no_comment text after (shape_of written) pairs,
      record {
        lexeme = inr (inr (written, refl));
        longest = λ more rest is longer.
            (let symbol = is_symbol (text ++ more) longer (class_of_front text more other there (λ e. cc)) in
            longest_by text after (shape_of written) pairs more rest symbol.0 is symbol.1 (shape_of symbol.0));
      },
      refl,
      λ digits. absurd (clash text digit other (digits_class text digits) there (λ e. cc)),
    )

-- ---- tokens

name_shape : (text : List ℕ) → IsName text → IsWordLike text × (list_all continues_name text ≡ true)
name_shape text is = let like = name_is_word text is in (like, all_continue text like)

words_like : (word : Word) → IsWordLike (word_text word)
words_like word = elim word as (λ w. IsWordLike (word_text w)) [ Int ↦ (refl, refl) | _ ↦ (refl, refl) ]

is_digit_by : (c : ℕ) → digit_value c < 10 → is_ascii_digit c ≡ true
is_digit_by c small = let range = digit_from_value c small in grind (arith, nat_tests)

all_by : (cs : List ℕ) → AllDigits 10 cs → list_all is_ascii_digit cs ≡ true
all_by [] all = refl
all_by (c ∷ cs) all =
    and_from (is_ascii_digit c) (list_all is_ascii_digit cs) (is_digit_by c all.0) (all_by cs all.1)

digits_by : (cs : List ℕ) → 0 < length cs → AllDigits 10 cs → AreDigits cs
digits_by [] some all = absurd (omega (arith, some))
digits_by (c ∷ cs) some all = all_by (c ∷ cs) all

fits_word : (n : ℕ) → pos n ≤ℤ LARGEST_NUMBER → n < 2 ^ 64
fits_word n fits = grind (arith, ints)

number_is : (n : ℕ) → pos n ≤ℤ LARGEST_NUMBER → AreDigits (decimal n) × IsKind (decimal n) (token.Number (pos n))
number_is n fits =
    let is = decimal_is_IsNumeral n (fits_word n fits) in
    let digits = digits_by (decimal n) is.0.0 is.0.1 in
    (digits, (digits, ap pos (sym is.1), fits))

name_ends : (name after : List ℕ) → ends_before after (token.Name name) ≡ true → FirstFails continues_name after
name_ends name [] ends = tt
name_ends name (byte ∷ bytes) ends = from_not (continues_name byte) ends

number_ends : (value : ℤ) (after : List ℕ) → ends_before after (token.Number value) ≡ true →
    FirstFails continues_name after
number_ends value [] ends = tt
number_ends value (byte ∷ bytes) ends = from_not (continues_name byte) ends

word_ends : (word : Word) (after : List ℕ) → ends_before after (token.Word word) ≡ true →
    FirstFails continues_name after
word_ends word [] ends = tt
word_ends word (byte ∷ bytes) ends = from_not (continues_name byte) ends

symbol_ends : (written : Symbol) (after : List ℕ) → ends_before after (token.Symbol written) ≡ true →
    NoPair (symbol_text written) after
symbol_ends written [] ends = tt
symbol_ends written (byte ∷ bytes) ends = from_not (makes_pair written byte) ends

pub spelled_piece : (kind : TokenKind) (after : List ℕ) → IsSpellable kind → ends_before after kind ≡ true →
    IsPieceBefore (lexeme (kind_text kind) kind) after
spelled_piece (token.Name name) after spellable ends =
    let like = name_shape name spellable in
    word_piece name after (token.Name name) like.0 (spellable, refl) like.1 (name_ends name after ends)
spelled_piece (token.Number (pos n)) after spellable ends =
    let is = number_is n spellable.1 in
    digits_piece (decimal n) after (token.Number (pos n)) is.0 is.1 (all_digits (decimal n) is.0)
    (number_ends (pos n) after ends)
spelled_piece (token.Number (negsuc n)) after spellable ends = absurd (grind (arith, ints))
spelled_piece (token.Word word) after spellable ends =
    word_piece (word_text word) after (token.Word word) (words_like word) refl
    (all_continue (word_text word) (words_like word)) (word_ends word after ends)
spelled_piece (token.Symbol written) after spellable ends =
    symbol_piece written after (symbol_ends written after ends)

-- ---- texts

abbrev piece_of : Spelled → Piece
piece_of (token_part kind) = lexeme (kind_text kind) kind
piece_of space_part = skipped (codes " ")
piece_of line_end_part = skipped (codes "\n")

cuts : (parts : List Spelled) → AreApart parts → CutsTo (spelled_text parts) (map piece_of parts) []
cuts [] apart = refl
cuts (token_part kind ∷ parts) apart =
    (spelled_text parts, refl, spelled_piece kind (spelled_text parts) apart.0 apart.1, cuts parts apart.2)
cuts (space_part ∷ parts) apart = (spelled_text parts, refl, inl (inl refl), cuts parts apart)
cuts (line_end_part ∷ parts) apart = (spelled_text parts, refl, inl (inr (inr (inr refl))), cuts parts apart)

kinds_are : (at line : ℕ) (parts : List Spelled) →
    map (λ token. token.kind) (tokens_of at line (map piece_of parts)) ≡ spelled_kinds parts
kinds_are at line [] = refl
kinds_are at line (token_part kind ∷ parts) =
    ap (λ (ks : List TokenKind). kind ∷ ks) (kinds_are (at + length (kind_text kind)) line parts)
kinds_are at line (space_part ∷ parts) = kinds_are (at + length (codes " ")) (line + line_feeds (codes " ")) parts
kinds_are at line (line_end_part ∷ parts) =
    kinds_are (at + length (codes "\n")) (line + line_feeds (codes "\n")) parts

pub reads_as_spelled : (parts : List Spelled) → AreApart parts → HasKinds (spelled_text parts) (spelled_kinds parts)
reads_as_spelled parts apart =
    (tokens_of 0 1 (map piece_of parts), (map piece_of parts, cuts parts apart, refl), kinds_are 0 1 parts)

-- what two texts in a row are
pub text_append : (front after : List Spelled) → spelled_text (front ++ after) ≡ spelled_text front ++ spelled_text after
text_append [] after = refl
text_append (part ∷ front) after =
    ap (λ (t : List ℕ). part_text part ++ t) (text_append front after)
    ∙ sym (append_assoc (part_text part) (spelled_text front) (spelled_text after))

pub kinds_append : (front after : List Spelled) →
    spelled_kinds (front ++ after) ≡ spelled_kinds front ++ spelled_kinds after
kinds_append [] after = refl
kinds_append (token_part kind ∷ front) after = ap (λ (ks : List TokenKind). kind ∷ ks) (kinds_append front after)
kinds_append (space_part ∷ front) after = kinds_append front after
kinds_append (line_end_part ∷ front) after = kinds_append front after
