-- What the parts of the lexer answer: the length of what a text begins with, or why there is none.
use Rattle.std.specs.Prelude.{◌≡◌, ℕ, ◌<◌, ◌≤◌, ◌⊎◌, List, [], ◌∷◌, ◌++◌, length}
use Rattle.std.specs.Prelude.{take, drop, IsTrue, codes, ⊤}
use Rattle.std.specs.Char.{is_ascii_digit}
use Rattle.js_base.specs.Name.{starts_name}
use Rattle.js_base.specs.declared.limits.TheConstants.{PROGRAM_BYTES}
use Rattle.jif_lex.specs.declared.token.Token.{Token}
use Rattle.jif_lex.specs.declared.token.TokenKind.{TokenKind}
use Rattle.jif_lex.specs.declared.token.Symbol as symbol
use Rattle.jif_lex.specs.declared.lexer.LexError.{LexError}
use Rattle.jif_lex.specs.declared.lexer.LexError.TheVariants.{OutOfMemory, BadByte, BadNumber, TooLong}
use Rattle.jif_lex.specs.declared.lexer.Front.{Front}
use Rattle.jif_lex.specs.declared.lexer.Front.TheVariants.{Skipped, Lexeme}
use Rattle.jif_lex.specs.Symbols.{symbol_text}
use Rattle.jif_lex.specs.Tokens.{line_feeds, IsPieceBefore, skipped, lexeme, IsLexeme, IsSymbol, FirstIs}
use Rattle.jif_lex.specs.Tokens.{BeginsBadNumber, BeginsBadByte, ReadsAs, bad_byte, bad_number}

-- the first bytes, so many, and the others are in the relation
abbrev pub HasFront : List ℕ → ℕ → (List ℕ → List ℕ → Type 0) → Type 0
HasFront text len P = (len ≤ length text) × P (take len text) (drop len text)

-- no first bytes are in the relation with the others
abbrev pub LacksFront : List ℕ → (List ℕ → List ℕ → Type 0) → Type 0
LacksFront text P = (front after : List ℕ) → text ≡ front ++ after → ¬ P front after

-- a blank or a comment, with what follows it
abbrev pub IsSkipped : List ℕ → List ℕ → Type 0
IsSkipped front after = IsPieceBefore (skipped front) after

-- a lexeme that is this token, with what follows it
abbrev pub IsTokenFront : TokenKind → List ℕ → List ℕ → Type 0
IsTokenFront kind front after = IsPieceBefore (lexeme front kind) after

-- a body and its first `*/`
abbrev pub EndsFirst : List ℕ → List ℕ → Type 0
EndsFirst front after =
    (body : List ℕ) × (front ≡ body ++ codes "*/")
    × ((before rest : List ℕ) → body ++ codes "*/" ≡ before ++ codes "*/" ++ rest → rest ≡ [])

-- the text begins with a letter or `_`
abbrev pub BeginsWord : List ℕ → Type 0
BeginsWord text = FirstIs (λ byte. IsTrue (starts_name byte)) text

-- the text begins with a digit
abbrev pub BeginsDigits : List ℕ → Type 0
BeginsDigits text = FirstIs (λ byte. IsTrue (is_ascii_digit byte)) text

-- the text begins with the symbol, and with no longer one
abbrev pub IsSymbolFront : List ℕ → symbol.Symbol → ℕ → Type 0
IsSymbolFront text kind len =
    HasFront text len (λ front after. (front ≡ symbol_text kind)
    × ((more rest : List ℕ) → after ≡ more ++ rest → IsSymbol (front ++ more) → more ≡ []))

-- the text begins with no symbol
abbrev pub LacksSymbol : List ℕ → Type 0
LacksSymbol text = LacksFront text (λ front after. IsSymbol front)

-- what the text begins with is skipped, or is this token
abbrev pub IsFront : List ℕ → Front → Type 0
IsFront text (Skipped len) = HasFront text len IsSkipped
IsFront text (Lexeme kind len) = HasFront text len (IsTokenFront kind)

-- what the text begins with was taken: its token was added, or its line feeds were counted
abbrev pub IsTaken : List ℕ → ℕ → ℕ → List Token → List Token → ℕ → ℕ → Type 0
IsTaken text at line before after len feeds =
    (HasFront text len IsSkipped × (after ≡ before) × (feeds ≡ line_feeds (take len text)))
    ⊎ ((kind : TokenKind) × HasFront text len (IsTokenFront kind)
    × (after ≡ before ++ record { kind = kind; at = at; line = line } ∷ []) × (feeds ≡ 0))

-- why the text, which stands at this place, begins with no lexeme
abbrev pub LexemeFails : List ℕ → ℕ → LexError → Type 0
LexemeFails text at OutOfMemory = ⊤
LexemeFails text at (BadByte place) = (place ≡ at) × LacksFront text (λ front after. IsLexeme front)
LexemeFails text at (BadNumber place) = (place ≡ at) × BeginsBadNumber text
LexemeFails text at TooLong = ⊥

-- why the text, which stands at this place, begins with no piece
abbrev pub FailsAt : List ℕ → ℕ → LexError → Type 0
FailsAt text at OutOfMemory = ⊤
FailsAt text at (BadByte place) = (place ≡ at) × BeginsBadByte text
FailsAt text at (BadNumber place) = (place ≡ at) × BeginsBadNumber text
FailsAt text at TooLong = ⊥

-- why a text has no tokens
abbrev pub LexFails : List ℕ → LexError → Type 0
LexFails text OutOfMemory = ⊤
LexFails text (BadByte at) = (length text ≤ PROGRAM_BYTES) × ReadsAs text (bad_byte at)
LexFails text (BadNumber at) = (length text ≤ PROGRAM_BYTES) × ReadsAs text (bad_number at)
LexFails text TooLong = PROGRAM_BYTES < length text
