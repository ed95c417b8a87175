-- Tokens stand in the order of their places, inside their text, and each adds a row to a listing.
use Rattle.std.proofs.Common.{◌≡◌, ◌∙◌, ℕ, zero, suc, ◌+◌, ◌<◌, ◌≤◌, List, [], ◌∷◌, ◌++◌, length, take, drop, get_or}
use Rattle.std.proofs.Common.{sym, ap, subst, arith}
use Rattle.std.proofs.lemmas.List.{append-nil, append_assoc, length-append, length-take-le, take_more}
use Rattle.jif_lex.specs.declared.token.Token.{Token}
use Rattle.jif_lex.specs.Spelled.{kind_text}
use Rattle.jif_lex.specs.Tokens.{Piece, skipped, lexeme, CutsTo, ReadsAs, tokens, tokens_of, line_feeds}
use Rattle.text_places.specs.declared.places.Place.{Place}
use Rattle.jiftokens.specs.Listing.{row_text, token_rows}
use Rattle.text_places.specs.Places.{column_behind, line_behind}

-- each token stands at or behind the place of the one before, and the last place is in the text or at its end
abbrev pub AreInOrder : ℕ → ℕ → List Token → Type 0
AreInOrder from len [] = from ≤ len
AreInOrder from len (token ∷ list) = (from ≤ token.at) × AreInOrder token.at len list

earlier : (before from len : ℕ) (list : List Token) → before ≤ from → AreInOrder from len list →
    AreInOrder before len list
earlier before from len [] less within = omega arith
earlier before from len (token ∷ list) less (first, others) = (omega arith, others)

pieces_in_order : (text : List ℕ) (pieces : List Piece) (at line len : ℕ) → CutsTo text pieces [] →
    len ≡ at + length text → AreInOrder at len (tokens_of at line pieces)
pieces_in_order text [] at line len cut is = omega arith
pieces_in_order text (skipped front ∷ pieces) at line len (after, whole, piece, cut) is =
    let long : length text ≡ length front + length after = ap length whole ∙ length-append front after in
    earlier at (at + length front) len (tokens_of (at + length front) (line + line_feeds front) pieces) (omega arith)
    (pieces_in_order after pieces (at + length front) (line + line_feeds front) len cut (omega arith))
pieces_in_order text (lexeme front kind ∷ pieces) at line len (after, whole, piece, cut) is =
    let long : length text ≡ length front + length after = ap length whole ∙ length-append front after in (
      omega arith,
      earlier at (at + length front) len (tokens_of (at + length front) line pieces) (omega arith)
          (pieces_in_order after pieces (at + length front) line len cut (omega arith)),
    )

pub in_order : (text : List ℕ) (list : List Token) → ReadsAs text (tokens list) → AreInOrder 0 (length text) list
in_order text list (pieces, cut, is) =
    subst (AreInOrder 0 (length text)) (sym is) (pieces_in_order text pieces 0 1 (length text) cut (omega arith))

-- the next token, and the others behind it
pub next_in_order : (from len : ℕ) (list : List Token) (i : ℕ) (d : Token) → i < length list →
    AreInOrder from len (drop i list) →
    (from ≤ (get_or list i d).at) × AreInOrder (get_or list i d).at len (drop (suc i) list)
next_in_order from len [] i d lt order = absurd (omega arith)
next_in_order from len (token ∷ list) zero d lt order = order
next_in_order from len (token ∷ list) (suc i) d lt order = next_in_order from len list i d (omega arith) order

-- the same of a token that is read there
pub order_next : (from len : ℕ) (list : List Token) (i : ℕ) (token : Token) → i < length list →
    token ≡ get_or list i token → AreInOrder from len (drop i list) →
    (from ≤ token.at) × AreInOrder token.at len (drop (i + 1) list)
order_next from len list i token lt is order =
    let next : i + 1 ≡ suc i = omega arith in
    rw next (subst (λ (t : Token). (from ≤ t.at) × AreInOrder t.at len (drop (suc i) list)) (sym is)
    (next_in_order from len list i token lt order))

-- the place come to is in the text, or at its end
pub within_text : (from len : ℕ) (list : List Token) → AreInOrder from len list → from ≤ len
within_text from len [] within = within
within_text from len (token ∷ list) (first, others) =
    let rest = within_text token.at len list others in
    omega arith

-- a place that was moved to one, before which others stand
pub stands_at : (text : List ℕ) (place : Place) (at : ℕ) (others : List Token) → place.at ≡ at →
    place.line ≡ line_behind (take at text) → place.column ≡ column_behind (take at text) →
    AreInOrder at (length text) others →
    (place.line ≡ line_behind (take place.at text)) × (place.column ≡ column_behind (take place.at text))
    × AreInOrder place.at (length text) others
stands_at text place at others is line column order =
    subst (λ to. (place.line ≡ line_behind (take to text)) × (place.column ≡ column_behind (take to text))
    × AreInOrder to (length text) others) (sym is) (line, column, order)

-- ---- rows

rows_push : (text : List ℕ) (n : ℕ) (list : List Token) (token : Token) (number : ℕ) → number ≡ n + length list →
    token_rows text n (list ++ token ∷ [])
    ≡ token_rows text n list ++ row_text text number token.at (kind_text token.kind)
rows_push text n [] token number is =
    let same : n ≡ number = omega arith in
    append-nil (row_text text n token.at (kind_text token.kind))
    ∙ ap (λ m. row_text text m token.at (kind_text token.kind)) same
rows_push text n (first ∷ list) token number is =
    ap (λ rows. row_text text n first.at (kind_text first.kind) ++ rows)
    (rows_push text (n + 1) list token number (omega arith))
    ∙ sym (append_assoc (row_text text n first.at (kind_text first.kind)) (token_rows text (n + 1) list)
    (row_text text number token.at (kind_text token.kind)))

pub rows_more : (text : List ℕ) (list : List Token) (i : ℕ) (token : Token) (before after : List ℕ) →
    i < length list → token ≡ get_or list i token → before ≡ token_rows text 0 (take i list) →
    after ≡ before ++ row_text text i token.at (kind_text token.kind) → after ≡ token_rows text 0 (take (i + 1) list)
rows_more text list i token before after lt is was pushed =
    let count = length-take-le i list (omega arith) in
    pushed ∙ ap (λ rows. rows ++ row_text text i token.at (kind_text token.kind)) was
    ∙ sym (ap (token_rows text 0) (take_more list i token lt)
    ∙ rows_push text 0 (take i list) (get_or list i token) i (omega arith)
    ∙ ap (λ (t : Token). token_rows text 0 (take i list) ++ row_text text i t.at (kind_text t.kind)) (sym is))
