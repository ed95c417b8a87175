-- A lexeme is one token only.
use Rattle.std.proofs.Common.{◌≡◌, ℕ, true, false, ◌&&◌, not, cond, List, [], ◌∷◌, codes, refl, sym, ap, ◌∙◌}
use Rattle.std.specs.List.{list_all, list_any}
use Rattle.std.specs.Str.{bytes_eq}
use Rattle.std.proofs.lemmas.Bool.{and_parts}
use Rattle.js_base.specs.Name.{IsName, is_name, starts_name, continues_name, keywords}
use Rattle.jif_lex.specs.declared.token.TokenKind.{TokenKind}
use Rattle.jif_lex.specs.declared.token.TokenKind.TheVariants as token
use Rattle.jif_lex.specs.declared.token.Symbol.{Symbol}
use Rattle.jif_lex.specs.declared.token.Symbol.TheVariants.{LeftBrace, RightBrace, LeftParenthesis, RightParenthesis}
use Rattle.jif_lex.specs.declared.token.Symbol.TheVariants.{LeftBracket, RightBracket, Semicolon, Colon, Comma}
use Rattle.jif_lex.specs.declared.token.Symbol.TheVariants.{Question, Assign, Equal, NotEqual, Less, LessOrEqual}
use Rattle.jif_lex.specs.declared.token.Symbol.TheVariants.{Greater, GreaterOrEqual, Plus, Minus, Star, Slash, Percent}
use Rattle.jif_lex.specs.declared.token.Symbol.TheVariants.{Not, And, Or}
use Rattle.jif_lex.specs.declared.token.Word.{Word}
use Rattle.jif_lex.specs.declared.token.Word.TheVariants.{Int, Void, If, Else, While, Return, Where, Authority}
use Rattle.jif_lex.specs.declared.token.Word.TheVariants.{Declassify, Endorse}
use Rattle.jif_lex.specs.Symbols.{symbol_text, word_text}
use Rattle.jif_lex.specs.Tokens.{IsWordLike, IsKind}
use Rattle.jif_lex.proofs.Begins.{Class, letter, digit, other, class_of, word_class, digits_class, symbol_text_class}
use Rattle.jif_lex.proofs.Begins.{word_text_class}

-- the word that a text is, and `int` where it is not one
abbrev word_of : List ℕ → Word
word_of text =
    cond (bytes_eq text (codes "void")) Void (
    cond (bytes_eq text (codes "if")) If (
    cond (bytes_eq text (codes "else")) Else (
    cond (bytes_eq text (codes "while")) While (
    cond (bytes_eq text (codes "return")) Return (
    cond (bytes_eq text (codes "where")) Where (
    cond (bytes_eq text (codes "authority")) Authority (
    cond (bytes_eq text (codes "declassify")) Declassify (
    cond (bytes_eq text (codes "endorse")) Endorse Int))))))))

word_of_text : (word : Word) → word_of (word_text word) ≡ word
word_of_text word = elim word as (λ w. word_of (word_text w) ≡ w) [ Int ↦ refl | _ ↦ refl ]

-- the symbol that a text is, and `{` where it is not one
abbrev symbol_of : List ℕ → Symbol
symbol_of text =
    cond (bytes_eq text (codes "}")) RightBrace (
    cond (bytes_eq text (codes "(")) LeftParenthesis (
    cond (bytes_eq text (codes ")")) RightParenthesis (
    cond (bytes_eq text (codes "[")) LeftBracket (
    cond (bytes_eq text (codes "]")) RightBracket (
    cond (bytes_eq text (codes ";")) Semicolon (
    cond (bytes_eq text (codes ":")) Colon (
    cond (bytes_eq text (codes ",")) Comma (
    cond (bytes_eq text (codes "?")) Question (
    cond (bytes_eq text (codes "=")) Assign (
    cond (bytes_eq text (codes "==")) Equal (
    cond (bytes_eq text (codes "!=")) NotEqual (
    cond (bytes_eq text (codes "<")) Less (
    cond (bytes_eq text (codes "<=")) LessOrEqual (
    cond (bytes_eq text (codes ">")) Greater (
    cond (bytes_eq text (codes ">=")) GreaterOrEqual (
    cond (bytes_eq text (codes "+")) Plus (
    cond (bytes_eq text (codes "-")) Minus (
    cond (bytes_eq text (codes "*")) Star (
    cond (bytes_eq text (codes "/")) Slash (
    cond (bytes_eq text (codes "%")) Percent (
    cond (bytes_eq text (codes "!")) Not (
    cond (bytes_eq text (codes "&&")) And (
    cond (bytes_eq text (codes "||")) Or LeftBrace)))))))))))))))))))))))

symbol_of_text : (kind : Symbol) → symbol_of (symbol_text kind) ≡ kind
symbol_of_text kind = elim kind as (λ k. symbol_of (symbol_text k) ≡ k) [ LeftBrace ↦ refl | _ ↦ refl ]

pub same_word : (text : List ℕ) (first second : Word) → text ≡ word_text first → text ≡ word_text second →
    first ≡ second
same_word text first second a b = sym (word_of_text first) ∙ ap word_of (sym a ∙ b) ∙ word_of_text second

pub same_symbol : (text : List ℕ) (first second : Symbol) → text ≡ symbol_text first → text ≡ symbol_text second →
    first ≡ second
same_symbol text first second a b = sym (symbol_of_text first) ∙ ap symbol_of (sym a ∙ b) ∙ symbol_of_text second

pub keyword_no_name : (word : Word) → is_name (word_text word) ≡ false
keyword_no_name word = elim word as (λ w. is_name (word_text w) ≡ false) [ Int ↦ refl | _ ↦ refl ]

pub name_is_word : (text : List ℕ) → IsName text → IsWordLike text
name_is_word [] is = cc
name_is_word (byte ∷ bytes) is =
    let parts =
    and_parts (starts_name byte && list_all continues_name bytes)
    (not (list_any (bytes_eq (byte ∷ bytes)) keywords)) is in
    and_parts (starts_name byte) (list_all continues_name bytes) parts.0

-- no text begins in two ways
pub clash : (text : List ℕ) (a b : Class) → class_of text ≡ a → class_of text ≡ b → (a ≡ b → ⊥) → ⊥
clash text a b first second apart = apart (sym first ∙ second)

pub same_kind : (text : List ℕ) (first second : TokenKind) → IsKind text first → IsKind text second → first ≡ second
same_kind text (token.Name a) (token.Name b) is is' = ap token.Name (is.1 ∙ sym is'.1)
same_kind text (token.Name a) (token.Number b) is is' =
    absurd (clash text letter digit (word_class text (name_is_word text is.0)) (digits_class text is'.0) (λ e. cc))
same_kind text (token.Name a) (token.Word b) is is' =
    let name : is_name text ≡ true = is.0 in
    let none = ap is_name is' ∙ keyword_no_name b in cc
same_kind text (token.Name a) (token.Symbol b) is is' =
    absurd (clash text letter other (word_class text (name_is_word text is.0))
    (ap class_of is' ∙ symbol_text_class b) (λ e. cc))
same_kind text (token.Number a) (token.Name b) is is' =
    absurd (clash text letter digit (word_class text (name_is_word text is'.0)) (digits_class text is.0) (λ e. cc))
same_kind text (token.Number a) (token.Number b) is is' = ap token.Number (is.1 ∙ sym is'.1)
same_kind text (token.Number a) (token.Word b) is is' =
    absurd (clash text letter digit (ap class_of is' ∙ word_text_class b) (digits_class text is.0) (λ e. cc))
same_kind text (token.Number a) (token.Symbol b) is is' =
    absurd (clash text digit other (digits_class text is.0) (ap class_of is' ∙ symbol_text_class b) (λ e. cc))
same_kind text (token.Word a) (token.Name b) is is' =
    let name : is_name text ≡ true = is'.0 in
    let none = ap is_name is ∙ keyword_no_name a in cc
same_kind text (token.Word a) (token.Number b) is is' =
    absurd (clash text letter digit (ap class_of is ∙ word_text_class a) (digits_class text is'.0) (λ e. cc))
same_kind text (token.Word a) (token.Word b) is is' = ap token.Word (same_word text a b is is')
same_kind text (token.Word a) (token.Symbol b) is is' =
    absurd (clash text letter other (ap class_of is ∙ word_text_class a) (ap class_of is' ∙ symbol_text_class b)
    (λ e. cc))
same_kind text (token.Symbol a) (token.Name b) is is' =
    absurd (clash text letter other (word_class text (name_is_word text is'.0))
    (ap class_of is ∙ symbol_text_class a) (λ e. cc))
same_kind text (token.Symbol a) (token.Number b) is is' =
    absurd (clash text digit other (digits_class text is'.0) (ap class_of is ∙ symbol_text_class a) (λ e. cc))
same_kind text (token.Symbol a) (token.Word b) is is' =
    absurd (clash text letter other (ap class_of is' ∙ word_text_class b) (ap class_of is ∙ symbol_text_class a)
    (λ e. cc))
same_kind text (token.Symbol a) (token.Symbol b) is is' = ap token.Symbol (same_symbol text a b is is')
