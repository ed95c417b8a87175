-- The tokens of a text are few, and each is small.
use Rattle.std.proofs.Common.{◌≡◌, ℕ, ℤ, pos, ◌≤ℤ◌, ◌+◌, ◌<◌, ◌≤◌, List, [], ◌∷◌, length, refl, sym, ap, ◌∙◌, subst}
use Rattle.std.proofs.Common.{arith}
use Rattle.std.specs.List.{All}
use Rattle.std.proofs.lemmas.Int.{ints}
use Rattle.std.proofs.lemmas.List.{length-append}
use Rattle.std.proofs.lemmas.List.Elements.{All-nil, All-cons}
use Rattle.js_base.specs.Name.{IsName}
use Rattle.js_base.specs.declared.limits.TheConstants.{PROGRAM_BYTES}
use Rattle.jif_lex.specs.declared.token.Token.{Token}
use Rattle.jif_lex.specs.declared.token.TokenKind.{TokenKind}
use Rattle.jif_lex.specs.declared.token.TokenKind.TheVariants as token
use Rattle.jif_lex.specs.Tokens.{Piece, skipped, lexeme, IsKind, CutsTo, tokens, ReadsAs, tokens_of, pieces_length}
use Rattle.jif_lex.specs.Tokens.{line_feeds}
use Rattle.jif_lex.specs.TokenLists.{FitsText, AreTokens}
use Rattle.jif_lex.proofs.Pieces.{piece_some}
use Rattle.jif_lex.proofs.Reading.{cut_length}

number_low : (value : ℤ) (n : ℕ) → value ≡ pos n → pos 0 ≤ℤ value
number_low value n is = grind (arith, ints)

kind_fits : (text : List ℕ) (kind : TokenKind) → IsKind text kind → length text ≤ PROGRAM_BYTES → FitsText kind
kind_fits text (token.Name name) is short =
    let P : List ℕ → Type 0 = λ t. IsName t × (length t ≤ PROGRAM_BYTES) in
    subst P (sym is.1) (is.0, short)
kind_fits text (token.Number value) is short = (number_low value _ is.1, is.2)
kind_fits text (token.Word word) is short = tt
kind_fits text (token.Symbol symbol) is short = tt

some_length : (text : List ℕ) → (text ≡ [] → ⊥) → 0 < length text
some_length [] some = absurd (some refl)
some_length (byte ∷ bytes) some = omega arith

tokens_few : (at line : ℕ) (text rest : List ℕ) (pieces : List Piece) → CutsTo text pieces rest →
    length (tokens_of at line pieces) ≤ pieces_length pieces
tokens_few at line text rest [] cut = omega arith
tokens_few at line text rest (skipped front ∷ pieces) cut =
    omega (arith, tokens_few (at + length front) (line + line_feeds front) cut.0 rest pieces cut.3)
tokens_few at line text rest (lexeme front kind ∷ pieces) cut =
    let some = some_length front (piece_some (lexeme front kind) cut.0 cut.2) in
    omega (arith, tokens_few (at + length front) line cut.0 rest pieces cut.3)

tokens_fit : (at line : ℕ) (text rest : List ℕ) (pieces : List Piece) → CutsTo text pieces rest →
    length text ≤ PROGRAM_BYTES
    → All (λ token. FitsText token.kind) (tokens_of at line pieces)
tokens_fit at line text rest [] cut short = All-nil (λ (token : Token). FitsText token.kind)
tokens_fit at line text rest (skipped front ∷ pieces) cut short =
    let both : length text ≡ length front + length cut.0 = ap length cut.1 ∙ length-append front cut.0 in
    tokens_fit (at + length front) (line + line_feeds front) cut.0 rest pieces cut.3 (omega arith)
tokens_fit at line text rest (lexeme front kind ∷ pieces) cut short =
    let both : length text ≡ length front + length cut.0 = ap length cut.1 ∙ length-append front cut.0 in
    All-cons (λ (token : Token). FitsText token.kind) (record { kind = kind; at = at; line = line })
    (tokens_of (at + length front) line pieces)
    (kind_fits front kind cut.2.2 (omega arith))
    (tokens_fit (at + length front) line cut.0 rest pieces cut.3 (omega arith))

pub are_tokens : (text : List ℕ) (list : List Token) → length text ≤ PROGRAM_BYTES → ReadsAs text (tokens list) →
    AreTokens list
are_tokens text list short read =
    let few = tokens_few 0 1 text [] read.0 read.1 in
    let whole = cut_length text [] read.0 read.1 in
    subst AreTokens (sym read.2) (omega arith, tokens_fit 0 1 text [] read.0 read.1 short)
