-- Which tokens a text has. The text is cut into pieces: blanks and comments, which are skipped, and lexemes, which make
-- the tokens. At each place stands the longest lexeme that there is. A text is the list of its bytes.
use Rattle.std.specs.Prelude.{◌≡◌, ◌≢◌, ℕ, pos, ◌+◌, ◌≤ℤ◌, ◌<ℤ◌, ◌==◌, ◌⊎◌}
use Rattle.std.specs.Prelude.{List, [], ◌∷◌, ◌++◌, length, Contains}
use Rattle.std.specs.Prelude.{IsTrue, codes, if◌then◌else◌}
use Rattle.std.specs.List.{list_all}
use Rattle.std.specs.Char.{is_ascii_digit}
use Rattle.std.specs.Str.Parse.{digits_value}
use Rattle.js_base.specs.Name.{IsName, starts_name, continues_name}
use Rattle.js_base.specs.declared.limits.TheConstants.{LARGEST_NUMBER}
use Rattle.js_base.specs.declared.text.TheConstants.{LINE_FEED}
use Rattle.jif_lex.specs.declared.token.Token.{Token}
use Rattle.jif_lex.specs.declared.token.TokenKind.{TokenKind}
use Rattle.jif_lex.specs.declared.token.TokenKind.TheVariants.{Name, Number, Word, Symbol}
use Rattle.jif_lex.specs.declared.token.Symbol as symbol
use Rattle.jif_lex.specs.Symbols.{word_text, symbol_text}

-- ---- lexemes

-- a letter or `_`, then letters, digits and `_`
abbrev pub IsWordLike : List ℕ → Type 0
IsWordLike [] = ⊥
IsWordLike (byte ∷ bytes) = IsTrue (starts_name byte) × IsTrue (list_all continues_name bytes)

-- at least one digit, and nothing else
abbrev pub AreDigits : List ℕ → Type 0
AreDigits [] = ⊥
AreDigits (byte ∷ bytes) = IsTrue (list_all is_ascii_digit (byte ∷ bytes))

abbrev pub IsSymbol : List ℕ → Type 0
IsSymbol text = (kind : symbol.Symbol) × (text ≡ symbol_text kind)

-- what may stand as one token: a name or a keyword, a run of digits, or a symbol
abbrev pub IsLexeme : List ℕ → Type 0
IsLexeme text = IsWordLike text ⊎ AreDigits text ⊎ IsSymbol text

-- the front of a text is a lexeme, and no longer front of the text is one
pub record IsLongest (front after : List ℕ) : Type 0 where
  pub lexeme : IsLexeme front
  pub longest : (more rest : List ℕ) → after ≡ more ++ rest → IsLexeme (front ++ more) → more ≡ []

-- the text begins with one that meets the condition
abbrev pub FirstIs : (ℕ → Type 0) → List ℕ → Type 0
FirstIs P [] = ⊥
FirstIs P (byte ∷ bytes) = P byte

-- which token a lexeme is
abbrev pub IsKind : List ℕ → TokenKind → Type 0
IsKind text (Name name) = IsName text × (name ≡ text)
IsKind text (Number value) = AreDigits text × (value ≡ pos (digits_value 10 text)) × (value ≤ℤ LARGEST_NUMBER)
IsKind text (Word word) = text ≡ word_text word
IsKind text (Symbol kind) = text ≡ symbol_text kind

-- ---- what is skipped

-- a space, a tab, a carriage return or a line feed
abbrev pub IsBlank : List ℕ → Type 0
IsBlank text = (text ≡ codes " ") ⊎ (text ≡ codes "\t") ⊎ (text ≡ codes "\r") ⊎ (text ≡ codes "\n")

-- `//` and what follows it, up to the line feed or the end of the text, which come after
pub record IsLineComment (text after : List ℕ) : Type 0 where
  pub body : List ℕ
  pub written : text ≡ codes "//" ++ body
  pub one_line : ¬ Contains body LINE_FEED
  pub to_its_end : (after ≡ []) ⊎ FirstIs (λ byte. byte ≡ LINE_FEED) after

-- `/*`, what follows it, and the first `*/` after the `/*`
pub record IsBlockComment (text : List ℕ) : Type 0 where
  pub body : List ℕ
  pub written : text ≡ codes "/*" ++ body ++ codes "*/"
  pub first_end : (before rest : List ℕ) → body ++ codes "*/" ≡ before ++ codes "*/" ++ rest → rest ≡ []

-- the text begins as a comment does
abbrev pub OpensComment : List ℕ → Type 0
OpensComment text = (rest : List ℕ) × ((text ≡ codes "//" ++ rest) ⊎ (text ≡ codes "/*" ++ rest))

-- ---- the cut of a text

pub data Piece : Type 0 where
  skipped : List ℕ → Piece
  lexeme : List ℕ → TokenKind → Piece

abbrev pub piece_text : Piece → List ℕ
piece_text (skipped text) = text
piece_text (lexeme text kind) = text

-- What may stand before the rest of a text. A run of digits makes no number where a letter or `_` follows at once.
abbrev pub IsPieceBefore : Piece → List ℕ → Type 0
IsPieceBefore (skipped text) after = IsBlank text ⊎ IsLineComment text after ⊎ IsBlockComment text
IsPieceBefore (lexeme text kind) after =
    (¬ OpensComment (text ++ after)) × IsLongest text after × IsKind text kind
    × (AreDigits text → ¬ FirstIs (λ byte. IsTrue (starts_name byte)) after)

-- the front of the text is cut into these pieces, and the rest is left
abbrev pub CutsTo : List ℕ → List Piece → List ℕ → Type 0
CutsTo text [] rest = text ≡ rest
CutsTo text (piece ∷ pieces) rest =
    (after : List ℕ) × (text ≡ piece_text piece ++ after) × IsPieceBefore piece after × CutsTo after pieces rest

-- how many bytes the pieces have
abbrev pub pieces_length : List Piece → ℕ
pieces_length [] = 0
pieces_length (piece ∷ pieces) = length (piece_text piece) + pieces_length pieces

abbrev pub line_feeds : List ℕ → ℕ
line_feeds [] = 0
line_feeds (byte ∷ bytes) = (if byte == LINE_FEED then 1 else 0) + line_feeds bytes

-- the tokens of the pieces, where the first piece stands at this place, from 0, and on this line, from 1
abbrev pub tokens_of : ℕ → ℕ → List Piece → List Token
tokens_of at line [] = []
tokens_of at line (skipped text ∷ pieces) = tokens_of (at + length text) (line + line_feeds text) pieces
tokens_of at line (lexeme text kind ∷ pieces) =
    (record { kind = kind; at = at; line = line }) ∷ tokens_of (at + length text) line pieces

-- ---- the reading of a text

-- a run of digits whose value is too large, or after which a letter or `_` follows at once
pub record BeginsBadNumber (text : List ℕ) : Type 0 where
  pub digits : List ℕ
  pub after : List ℕ
  pub written : text ≡ digits ++ after
  pub are_digits : AreDigits digits
  pub whole_run : ¬ FirstIs (λ byte. IsTrue (is_ascii_digit byte)) after
  pub bad : (LARGEST_NUMBER <ℤ pos (digits_value 10 digits)) ⊎ FirstIs (λ byte. IsTrue (starts_name byte)) after

-- There is a next byte, and with it begins neither a piece nor a bad number. So it is a byte that is in no lexeme, or
-- it opens a comment that has no end.
pub record BeginsBadByte (text : List ℕ) : Type 0 where
  pub some : text ≢ []
  pub no_number : ¬ BeginsBadNumber text
  pub no_piece : (piece : Piece) (after : List ℕ) → text ≡ piece_text piece ++ after →
      ¬ IsPieceBefore piece after

-- what a text is read as: its tokens, or the place of its first fault
pub data Reading : Type 0 where
  tokens : List Token → Reading
  bad_byte : ℕ → Reading
  bad_number : ℕ → Reading

abbrev pub ReadsAs : List ℕ → Reading → Type 0
ReadsAs text (tokens list) = (pieces : List Piece) × CutsTo text pieces [] × (list ≡ tokens_of 0 1 pieces)
ReadsAs text (bad_byte at) =
    (pieces : List Piece) × (rest : List ℕ) × CutsTo text pieces rest × BeginsBadByte rest
    × (at ≡ pieces_length pieces)
ReadsAs text (bad_number at) =
    (pieces : List Piece) × (rest : List ℕ) × CutsTo text pieces rest × BeginsBadNumber rest
    × (at ≡ pieces_length pieces)
