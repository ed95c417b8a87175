-- The lexeme that a text begins with can be found: a keyword, a symbol, or none.
use Rattle.std.proofs.Common.{◌≡◌, ℕ, ◌≤◌, ◌⊎◌, ◌∙◌, sym, ap, refl, subst, inl, inr, lit≤, List, [], ◌∷◌, ◌++◌}
use Rattle.std.proofs.Common.{length, arith}
use Rattle.std.specs.List.{AllByRecursion}
use Rattle.js_base.proofs.Decisions.{Decided, same_text}
use Rattle.jif_lex.specs.declared.token.Word.{Word}
use Rattle.jif_lex.specs.declared.token.Word.TheVariants.{Int, Void, If, Else, While, Return, Where, Authority}
use Rattle.jif_lex.specs.declared.token.Word.TheVariants.{Declassify, Endorse}
use Rattle.jif_lex.specs.declared.token.Symbol.{Symbol}
use Rattle.jif_lex.specs.declared.token.Symbol.TheVariants.{LeftBrace, RightBrace, LeftParenthesis}
use Rattle.jif_lex.specs.declared.token.Symbol.TheVariants.{RightParenthesis, LeftBracket, RightBracket}
use Rattle.jif_lex.specs.declared.token.Symbol.TheVariants.{Semicolon, Colon, Comma, Question, Assign, Equal}
use Rattle.jif_lex.specs.declared.token.Symbol.TheVariants.{NotEqual, Less, LessOrEqual, Greater}
use Rattle.jif_lex.specs.declared.token.Symbol.TheVariants.{GreaterOrEqual, Plus, Minus, Star, Slash, Percent}
use Rattle.jif_lex.specs.declared.token.Symbol.TheVariants.{Not, And, Or}
use Rattle.jif_lex.specs.declared.token.TokenKind.{TokenKind}
use Rattle.jif_lex.specs.declared.token.TokenKind.TheVariants as token
use Rattle.jif_lex.specs.Symbols.{word_text, symbol_text}
use Rattle.jif_lex.specs.Tokens.{IsWordLike, IsSymbol, IsKind}
use Rattle.jif_lex.specs.Lexing.{IsSymbolFront, LacksSymbol}
use Rattle.jif_lex.proofs.Begins.{nothing, other, class_of, symbol_text_class}
use Rattle.jif_lex.proofs.Texts.{name_from_word}

-- ---- one of many

one_among : {X : Type 0} (P : X → Type 0) → ((x : X) → Decided (P x)) → (xs : List X) →
    ((x : X) × P x) ⊎ AllByRecursion (λ x. ¬ P x) xs
one_among {X = X} P decide [] = inr tt
one_among {X = X} P decide (x ∷ xs) = by (decide x) (one_among P decide xs)
  where
    by : Decided (P x) → ((y : X) × P y) ⊎ AllByRecursion (λ y. ¬ P y) xs →
        ((y : X) × P y) ⊎ AllByRecursion (λ y. ¬ P y) (x ∷ xs)
    by (inl holds) rest = inl (x, holds)
    by (inr fails) (inl found) = inl found
    by (inr fails) (inr none) = inr (fails, none)

-- ---- keywords

abbrev all_words : List Word
all_words = Int ∷ Void ∷ If ∷ Else ∷ While ∷ Return ∷ Where ∷ Authority ∷ Declassify ∷ Endorse ∷ []

no_word : (P : Word → Type 0) → AllByRecursion (λ word. ¬ P word) all_words → (word : Word) → ¬ P word
no_word P none word = elim word as (λ w. ¬ P w) [
  | Int ↦ none.0
  | Void ↦ none.1.0
  | If ↦ none.1.1.0
  | Else ↦ none.1.1.1.0
  | While ↦ none.1.1.1.1.0
  | Return ↦ none.1.1.1.1.1.0
  | Where ↦ none.1.1.1.1.1.1.0
  | Authority ↦ none.1.1.1.1.1.1.1.0
  | Declassify ↦ none.1.1.1.1.1.1.1.1.0
  | Endorse ↦ none.1.1.1.1.1.1.1.1.1.0
]

-- a word is a keyword or a name
pub word_kind : (text : List ℕ) → IsWordLike text → (kind : TokenKind) × IsKind text kind
word_kind text like =
    elim (one_among (λ word. text ≡ word_text word) (λ word. same_text text (word_text word)) all_words) [
      | inl found ↦ (token.Word found.0, found.1)
      | inr none ↦
          (token.Name text, (name_from_word text like (no_word (λ word. text ≡ word_text word) none), refl))
    ]

-- ---- symbols

abbrev all_symbols : List Symbol
all_symbols = LeftBrace ∷ RightBrace ∷ LeftParenthesis ∷ RightParenthesis ∷ LeftBracket ∷ RightBracket ∷
    Semicolon ∷ Colon ∷ Comma ∷ Question ∷ Assign ∷ Equal ∷ NotEqual ∷ Less ∷ LessOrEqual ∷ Greater ∷
    GreaterOrEqual ∷ Plus ∷ Minus ∷ Star ∷ Slash ∷ Percent ∷ Not ∷ And ∷ Or ∷ []

no_symbol : (P : Symbol → Type 0) → AllByRecursion (λ symbol. ¬ P symbol) all_symbols → (symbol : Symbol) → ¬ P symbol
no_symbol P none symbol = elim symbol as (λ s. ¬ P s) [
  | LeftBrace ↦ none.0
  | RightBrace ↦ none.1.0
  | LeftParenthesis ↦ none.1.1.0
  | RightParenthesis ↦ none.1.1.1.0
  | LeftBracket ↦ none.1.1.1.1.0
  | RightBracket ↦ none.1.1.1.1.1.0
  | Semicolon ↦ none.1.1.1.1.1.1.0
  | Colon ↦ none.1.1.1.1.1.1.1.0
  | Comma ↦ none.1.1.1.1.1.1.1.1.0
  | Question ↦ none.1.1.1.1.1.1.1.1.1.0
  | Assign ↦ none.1.1.1.1.1.1.1.1.1.1.0
  | Equal ↦ none.1.1.1.1.1.1.1.1.1.1.1.0
  | NotEqual ↦ none.1.1.1.1.1.1.1.1.1.1.1.1.0
  | Less ↦ none.1.1.1.1.1.1.1.1.1.1.1.1.1.0
  | LessOrEqual ↦ none.1.1.1.1.1.1.1.1.1.1.1.1.1.1.0
  | Greater ↦ none.1.1.1.1.1.1.1.1.1.1.1.1.1.1.1.0
  | GreaterOrEqual ↦ none.1.1.1.1.1.1.1.1.1.1.1.1.1.1.1.1.0
  | Plus ↦ none.1.1.1.1.1.1.1.1.1.1.1.1.1.1.1.1.1.0
  | Minus ↦ none.1.1.1.1.1.1.1.1.1.1.1.1.1.1.1.1.1.1.0
  | Star ↦ none.1.1.1.1.1.1.1.1.1.1.1.1.1.1.1.1.1.1.1.0
  | Slash ↦ none.1.1.1.1.1.1.1.1.1.1.1.1.1.1.1.1.1.1.1.1.0
  | Percent ↦ none.1.1.1.1.1.1.1.1.1.1.1.1.1.1.1.1.1.1.1.1.1.0
  | Not ↦ none.1.1.1.1.1.1.1.1.1.1.1.1.1.1.1.1.1.1.1.1.1.1.0
  | And ↦ none.1.1.1.1.1.1.1.1.1.1.1.1.1.1.1.1.1.1.1.1.1.1.1.0
  | Or ↦ none.1.1.1.1.1.1.1.1.1.1.1.1.1.1.1.1.1.1.1.1.1.1.1.1.0
]

symbol_or_none : (text : List ℕ) → Decided (IsSymbol text)
symbol_or_none text =
    elim (one_among (λ symbol. text ≡ symbol_text symbol) (λ symbol. same_text text (symbol_text symbol)) all_symbols) [
      | inl found ↦ inl found
      | inr none ↦ inr (λ is. no_symbol (λ symbol. text ≡ symbol_text symbol) none is.0 is.1)
    ]

symbol_length : (symbol : Symbol) → length (symbol_text symbol) ≤ 2
symbol_length symbol = elim symbol as (λ s. length (symbol_text s) ≤ 2) [ LeftBrace ↦ lit≤ tt | _ ↦ lit≤ tt ]

symbol_short : (text : List ℕ) → IsSymbol text → length text ≤ 2
symbol_short text is = subst (λ t. length t ≤ 2) (sym is.1) (symbol_length is.0)

symbol_some : ¬ IsSymbol []
symbol_some is =
    let both : nothing ≡ other = ap class_of is.1 ∙ symbol_text_class is.0 in
    cc

-- the first two bytes are a symbol
of_two : (first second : ℕ) (after : List ℕ) (symbol : Symbol) → first ∷ second ∷ [] ≡ symbol_text symbol →
    IsSymbolFront (first ∷ second ∷ after) symbol 2
of_two first second after symbol is = (omega arith, (is, λ more rest same longer. by more (symbol_short _ longer)))
  where
    by : (more : List ℕ) → length (first ∷ second ∷ more) ≤ 2 → more ≡ []
    by [] short = refl
    by (byte ∷ more) short = absurd (omega arith)

-- the first byte is a symbol, and with the next it is none
of_one : (first : ℕ) (after : List ℕ) (symbol : Symbol) → first ∷ [] ≡ symbol_text symbol →
    ((second : ℕ) (rest : List ℕ) → after ≡ second ∷ rest → ¬ IsSymbol (first ∷ second ∷ [])) →
    IsSymbolFront (first ∷ after) symbol 1
of_one first after symbol is apart = (omega arith, (is, λ more rest same longer. by more rest same longer))
  where
    by : (more rest : List ℕ) → after ≡ more ++ rest → IsSymbol (first ∷ more) → more ≡ []
    by [] rest same longer = refl
    by (second ∷ []) rest same longer = absurd (apart second rest same longer)
    by (second ∷ third ∷ more) rest same longer = absurd (omega (arith, symbol_short _ longer))

-- neither is
of_none : (first : ℕ) (after : List ℕ) → ¬ IsSymbol (first ∷ []) →
    ((second : ℕ) (rest : List ℕ) → after ≡ second ∷ rest → ¬ IsSymbol (first ∷ second ∷ [])) →
    LacksSymbol (first ∷ after)
of_none first after single apart [] rest same is = symbol_some is
of_none first after single apart (a ∷ []) rest same is =
    let first_is : first ≡ a = cc in
    single (subst (λ n. IsSymbol (n ∷ [])) (sym first_is) is)
of_none first after single apart (a ∷ b ∷ []) rest same is =
    let first_is : first ≡ a = cc in
    let after_is : after ≡ b ∷ rest = cc in
    apart b rest after_is (subst (λ n. IsSymbol (n ∷ b ∷ [])) (sym first_is) is)
of_none first after single apart (a ∷ b ∷ c ∷ more) rest same is = omega (arith, symbol_short _ is)

pub first_symbol : (text : List ℕ) → ((symbol : Symbol) × (len : ℕ) × IsSymbolFront text symbol len) ⊎ LacksSymbol text
first_symbol [] = inr none
  where
    none : LacksSymbol []
    none [] rest same is = symbol_some is
    none (byte ∷ bytes) rest same is = cc
first_symbol (first ∷ []) =
    elim (symbol_or_none (first ∷ [])) [
      | inl is ↦ inl (is.0, 1, of_one first [] is.0 is.1 (λ second rest same. absurd cc))
      | inr none ↦ inr (of_none first [] none (λ second rest same. absurd cc))
    ]
first_symbol (first ∷ second ∷ after) =
    by (symbol_or_none (first ∷ second ∷ [])) (symbol_or_none (first ∷ []))
  where
    apart : ¬ IsSymbol (first ∷ second ∷ []) → (next : ℕ) (rest : List ℕ) → second ∷ after ≡ next ∷ rest →
        ¬ IsSymbol (first ∷ next ∷ [])
    apart none next rest same is =
        let next_is : next ≡ second = cc in
        none (subst (λ n. IsSymbol (first ∷ n ∷ [])) next_is is)

    by : Decided (IsSymbol (first ∷ second ∷ [])) → Decided (IsSymbol (first ∷ [])) →
        ((symbol : Symbol) × (len : ℕ) × IsSymbolFront (first ∷ second ∷ after) symbol len)
        ⊎ LacksSymbol (first ∷ second ∷ after)
    by (inl two) single = inl (two.0, 2, of_two first second after two.0 two.1)
    by (inr none) (inl one) = inl (one.0, 1, of_one first (second ∷ after) one.0 one.1 (apart none))
    by (inr none) (inr fails) = inr (of_none first (second ∷ after) fails (apart none))
