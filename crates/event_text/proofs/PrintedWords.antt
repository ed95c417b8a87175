-- What names and numbers are printed as are words, and lines of them have these words.
use Rattle.std.proofs.Common.{◌≡◌, ◌<◌, ◌^◌, ℕ, suc, ℤ, pos, negsuc, Bool, true, List, [], ◌∷◌, ◌++◌, length, refl}
use Rattle.std.proofs.Common.{ap, ◌∙◌, arith, All, codes}
use Rattle.std.specs.Prelude.{FitsSigned, nat_lt}
use Rattle.std.specs.Char.{is_ascii_digit}
use Rattle.std.specs.Fmt.{decimal, signed_decimal}
use Rattle.std.specs.Int.{w64}
use Rattle.std.specs.List.{list_all}
use Rattle.std.proofs.lemmas.Bool.{and_parts}
use Rattle.std.proofs.lemmas.Bool.Decides.{nat_tests}
use Rattle.std.proofs.lemmas.Fmt.{decimal_is_IsNumeral}
use Rattle.std.proofs.lemmas.List.Elements.{All-nil, All-cons}
use Rattle.js_base.specs.Name.{IsName, continues_name}
use Rattle.js_base.proofs.NameTexts.{all_continue}
use Rattle.event_text.specs.Lines.{words}
use Rattle.event_text.specs.Words.{Word}
use Rattle.event_text.proofs.NumbersAgain.{all_digits}
use Rattle.event_text.proofs.PrintedBytes.{all_weaker}
use Rattle.event_text.proofs.SaidAgain.{spaced_two, spaced_three, spaced_four}
use Rattle.event_text.proofs.SaidWords.{IsPlain, IsWord, joined_words}

-- above a space
abbrev is_dark : ℕ → Bool
is_dark byte = nat_lt 32 byte

dark_plain : (text : List ℕ) → list_all is_dark text ≡ true → All IsPlain text
dark_plain [] dark = All-nil IsPlain
dark_plain (byte ∷ text) dark =
    let parts = and_parts (is_dark byte) (list_all is_dark text) dark in
    let here = parts.0 in
    All-cons IsPlain byte text (grind (arith, nat_tests)) (dark_plain text parts.1)

dark_word : (text : List ℕ) → 0 < length text → list_all is_dark text ≡ true → IsWord text
dark_word text some dark = record { some = some; plain = dark_plain text dark }

some_name : (text : List ℕ) → IsName text → 0 < length text
some_name [] is = cc
some_name (byte ∷ text) is = omega arith

continues_dark : (byte : ℕ) → continues_name byte ≡ true → is_dark byte ≡ true
continues_dark byte is = grind (arith, nat_tests)

digit_dark : (byte : ℕ) → is_ascii_digit byte ≡ true → is_dark byte ≡ true
digit_dark byte is = grind (arith, nat_tests)

pub name_word : (text : List ℕ) → IsName text → IsWord text
name_word text is =
    dark_word text (some_name text is) (all_weaker continues_name is_dark continues_dark text (all_continue text is))

digits_dark : (n : ℕ) → n < 2 ^ 64 → list_all is_dark (decimal n) ≡ true
digits_dark n small =
    let numeral = (decimal_is_IsNumeral n small).0 in
    all_weaker is_ascii_digit is_dark digit_dark (decimal n) (all_digits (decimal n) numeral.1)

pub number_word : (n : ℕ) → n < 2 ^ 64 → IsWord (decimal n)
number_word n small = dark_word (decimal n) (decimal_is_IsNumeral n small).0.0 (digits_dark n small)

pub signed_word : (value : ℤ) → FitsSigned w64 value → IsWord (signed_decimal value)
signed_word (pos n) fits =
    let least : n < 2 ^ 63 = omega (arith, fits.sfits) in
    number_word n (omega (arith, least))
signed_word (negsuc n) fits =
    let least : n < 2 ^ 63 = omega (arith, fits.sfits) in
    dark_word (45 ∷ decimal (suc n)) (omega arith) (digits_dark (suc n) (omega (arith, least)))

-- ---- lines of two, three and four words

pub two_words_are : (kind a : Word) → IsWord kind → IsWord a → words (kind ++ codes " " ++ a) ≡ kind ∷ a ∷ []
two_words_are kind a named one = ap words (spaced_two kind a) ∙ joined_words (kind ∷ a ∷ []) (named, (one, tt))

pub three_words_are : (kind a b : Word) → IsWord kind → IsWord a → IsWord b →
    words (kind ++ codes " " ++ a ++ codes " " ++ b) ≡ kind ∷ a ∷ b ∷ []
three_words_are kind a b named one two =
    ap words (spaced_three kind a b) ∙ joined_words (kind ∷ a ∷ b ∷ []) (named, (one, (two, tt)))

pub four_words_are : (kind a b c : Word) → IsWord kind → IsWord a → IsWord b → IsWord c →
    words (kind ++ codes " " ++ a ++ codes " " ++ b ++ codes " " ++ c) ≡ kind ∷ a ∷ b ∷ c ∷ []
four_words_are kind a b c named one two three =
    ap words (spaced_four kind a b c) ∙ joined_words (kind ∷ a ∷ b ∷ c ∷ []) (named, (one, (two, (three, tt))))

pub bad_word : IsWord (codes "bad")
bad_word = dark_word (codes "bad") (omega arith) refl

pub set_word : IsWord (codes "set")
set_word = dark_word (codes "set") (omega arith) refl

pub take_word : IsWord (codes "take")
take_word = dark_word (codes "take") (omega arith) refl

pub send_word : IsWord (codes "send")
send_word = dark_word (codes "send") (omega arith) refl
