-- What the first byte of a lexeme, a blank or a comment tells.
use Rattle.std.proofs.Common.{◌≡◌, ℕ, inl, inr, Bool, true, false, ◌||◌, ◌==◌, cond, List, [], ◌∷◌, ◌++◌, refl, sym, ap}
use Rattle.std.proofs.Common.{◌∙◌, arith}
use Rattle.std.specs.List.{list_all}
use Rattle.std.specs.Char.{is_ascii_digit}
use Rattle.std.proofs.lemmas.Bool.{and_parts, cond-true, cond-false}
use Rattle.std.proofs.lemmas.Bool.Decides.{nat_tests}
use Rattle.js_base.specs.Name.{starts_name}
use Rattle.jif_lex.specs.declared.token.Symbol.{Symbol}
use Rattle.jif_lex.specs.declared.token.Symbol.TheVariants.{LeftBrace}
use Rattle.jif_lex.specs.declared.token.Word.{Word}
use Rattle.jif_lex.specs.declared.token.Word.TheVariants.{Int}
use Rattle.jif_lex.specs.Symbols.{symbol_text, word_text}
use Rattle.jif_lex.specs.Tokens.{IsWordLike, AreDigits, IsSymbol, IsBlank}

pub data Class : Type 0 where
  nothing : Class
  letter : Class
  digit : Class
  blank : Class
  other : Class

abbrev pub is_blank : ℕ → Bool
is_blank byte = byte == 32 || byte == 9 || byte == 13 || byte == 10

-- what a text begins with
abbrev pub class_of : List ℕ → Class
class_of [] = nothing
class_of (byte ∷ bytes) =
    cond (starts_name byte) letter (cond (is_ascii_digit byte) digit (cond (is_blank byte) blank other))

pub digit_starts_none : (byte : ℕ) → is_ascii_digit byte ≡ true → starts_name byte ≡ false
digit_starts_none byte is = grind (arith, nat_tests)

pub word_class : (text : List ℕ) → IsWordLike text → class_of text ≡ letter
word_class [] is = absurd is
word_class (byte ∷ bytes) is =
    cond-true (starts_name byte) letter (cond (is_ascii_digit byte) digit (cond (is_blank byte) blank other)) is.0

pub digits_class : (text : List ℕ) → AreDigits text → class_of text ≡ digit
digits_class [] is = absurd is
digits_class (byte ∷ bytes) is =
    let first = and_parts (is_ascii_digit byte) (list_all is_ascii_digit bytes) is in
    let none = digit_starts_none byte first.0 in
    cond-false (starts_name byte) letter (cond (is_ascii_digit byte) digit (cond (is_blank byte) blank other)) none
    ∙ cond-true (is_ascii_digit byte) digit (cond (is_blank byte) blank other) first.0

pub symbol_text_class : (kind : Symbol) → class_of (symbol_text kind) ≡ other
symbol_text_class kind = elim kind as (λ k. class_of (symbol_text k) ≡ other) [ LeftBrace ↦ refl | _ ↦ refl ]

pub word_text_class : (word : Word) → class_of (word_text word) ≡ letter
word_text_class word = elim word as (λ w. class_of (word_text w) ≡ letter) [ Int ↦ refl | _ ↦ refl ]

pub symbol_class : (text : List ℕ) → IsSymbol text → class_of text ≡ other
symbol_class text is = ap class_of is.1 ∙ symbol_text_class is.0

pub blank_class : (text : List ℕ) → IsBlank text → class_of text ≡ blank
blank_class text is = elim is [
  | inl a ↦ ap class_of a
  | inr b ↦ elim b [ inl a ↦ ap class_of a | inr b ↦ elim b [ inl a ↦ ap class_of a | inr a ↦ ap class_of a ] ]
]

-- what a text begins with does not depend on what follows
pub class_of_front : (text after : List ℕ) (kind : Class) → class_of text ≡ kind → (kind ≡ nothing → ⊥) →
    class_of (text ++ after) ≡ kind
class_of_front [] after kind is some = absurd (some (sym is))
class_of_front (byte ∷ bytes) after kind is some = is
