-- The tokens of a program as lines of a listing.
use Rattle.std.specs.Prelude.{ℕ, ◌+◌, List, [], ◌∷◌, ◌++◌, codes, length}
use Rattle.std.specs.Fmt.{decimal}
use Rattle.js_base.specs.declared.text.TheConstants.{LINE_FEED}
use Rattle.jif_lex.specs.declared.token.Token.{Token}
use Rattle.jif_lex.specs.Spelled.{kind_text}
use Rattle.text_places.specs.Places.{place_text}

-- `N line L column C WHAT` and a line feed, for what stands at a place of the text
abbrev pub row_text : List ℕ → ℕ → ℕ → List ℕ → List ℕ
row_text text number at what = decimal number ++ (32 ∷ (place_text text at ++ (32 ∷ (what ++ LINE_FEED ∷ []))))

-- the rows of tokens, of which the first has this number; a token is spelled as the language spells it
abbrev pub token_rows : List ℕ → ℕ → List Token → List ℕ
token_rows text number [] = []
token_rows text number (token ∷ tokens) =
    row_text text number token.at (kind_text token.kind) ++ token_rows text (number + 1) tokens

-- The rows of all tokens, and one for the end of the text, which has the number behind the last of them. A program that
-- ends too early is refused at that number.
abbrev pub listing : List ℕ → List Token → List ℕ
listing text tokens =
    token_rows text 0 tokens ++ row_text text (length tokens) (length text) (codes "(end)")
