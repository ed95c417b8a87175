-- Texts that are put together from the spellings of tokens, with blanks where two neighbours would run together.
use Rattle.std.specs.Prelude.{◌≡◌, ℕ, ◌≤ℤ◌, pos, Bool, true, not, IsTrue, ⊤}
use Rattle.std.specs.Prelude.{List, [], ◌∷◌, ◌++◌, map, codes}
use Rattle.std.specs.List.{list_any}
use Rattle.std.specs.Fmt.{signed_decimal}
use Rattle.std.specs.Str.{bytes_eq}
use Rattle.js_base.specs.Name.{IsName, continues_name}
use Rattle.js_base.specs.declared.limits.TheConstants.{LARGEST_NUMBER}
use Rattle.jif_lex.specs.declared.token.Token.{Token}
use Rattle.jif_lex.specs.declared.token.TokenKind.{TokenKind}
use Rattle.jif_lex.specs.declared.token.TokenKind.TheVariants.{Name, Number, Word, Symbol}
use Rattle.jif_lex.specs.declared.token.Symbol as symbol
use Rattle.jif_lex.specs.Symbols.{word_text, symbol_text}
use Rattle.jif_lex.specs.Tokens.{ReadsAs, tokens}

-- ---- one token

abbrev pub kind_text : TokenKind → List ℕ
kind_text (Name name) = name
kind_text (Number value) = signed_decimal value
kind_text (Word word) = word_text word
kind_text (Symbol written) = symbol_text written

-- some text is this token: a name is one, and a number has no sign and is not too large
abbrev pub IsSpellable : TokenKind → Type 0
IsSpellable (Name name) = IsName name
IsSpellable (Number value) = (pos 0 ≤ℤ value) × (value ≤ℤ LARGEST_NUMBER)
IsSpellable (Word word) = ⊤
IsSpellable (Symbol written) = ⊤

-- the symbols of two bytes, and what comments begin with
abbrev pub byte_pairs : List (List ℕ)
byte_pairs =
    codes "==" ∷ codes "!=" ∷ codes "<=" ∷ codes ">=" ∷ codes "&&" ∷ codes "||"
    ∷ codes "//" ∷ codes "/*" ∷ []

-- with the next byte the symbol is a longer one, or opens a comment
abbrev pub makes_pair : symbol.Symbol → ℕ → Bool
makes_pair written byte = list_any (bytes_eq (symbol_text written ++ byte ∷ [])) byte_pairs

-- the token ends where these bytes follow at once
abbrev pub ends_before : List ℕ → TokenKind → Bool
ends_before [] kind = true
ends_before (byte ∷ bytes) (Name name) = not (continues_name byte)
ends_before (byte ∷ bytes) (Number value) = not (continues_name byte)
ends_before (byte ∷ bytes) (Word word) = not (continues_name byte)
ends_before (byte ∷ bytes) (Symbol written) = not (makes_pair written byte)

-- ---- a text

-- a part of a text: a token, a space or a line feed
pub data Spelled : Type 0 where
  token_part : TokenKind → Spelled
  space_part : Spelled
  line_end_part : Spelled

abbrev pub part_text : Spelled → List ℕ
part_text (token_part kind) = kind_text kind
part_text space_part = codes " "
part_text line_end_part = codes "\n"

abbrev pub spelled_text : List Spelled → List ℕ
spelled_text [] = []
spelled_text (part ∷ parts) = part_text part ++ spelled_text parts

-- the tokens without the blanks
abbrev pub spelled_kinds : List Spelled → List TokenKind
spelled_kinds [] = []
spelled_kinds (token_part kind ∷ parts) = kind ∷ spelled_kinds parts
spelled_kinds (space_part ∷ parts) = spelled_kinds parts
spelled_kinds (line_end_part ∷ parts) = spelled_kinds parts

-- each token can be spelled, and ends where the next part begins
abbrev pub AreApart : List Spelled → Type 0
AreApart [] = ⊤
AreApart (token_part kind ∷ parts) =
    IsSpellable kind × IsTrue (ends_before (spelled_text parts) kind) × AreApart parts
AreApart (space_part ∷ parts) = AreApart parts
AreApart (line_end_part ∷ parts) = AreApart parts

-- the text has tokens of these kinds, in this order
abbrev pub HasKinds : List ℕ → List TokenKind → Type 0
HasKinds text kinds = (list : List Token) × ReadsAs text (tokens list) × (map (λ token. token.kind) list ≡ kinds)
