-- A text that is read piece by piece.
use Rattle.std.proofs.Common.{◌≡◌, ℕ, zero, suc, ◌+◌, ◌<◌, ◌≤◌, inl, inr, List, [], ◌∷◌, ◌++◌, length, take, drop, refl}
use Rattle.std.proofs.Common.{sym, ap, ◌∙◌, subst, arith}
use Rattle.std.proofs.lemmas.List.{append-nil, length-append, length-take-le, take-append-drop}
use Rattle.std.proofs.lemmas.List.Sums.{count_by-le-length}
use Rattle.std.specs.Prelude.{◌==◌}
use Rattle.jif_lex.specs.declared.token.Token.{Token}
use Rattle.jif_lex.specs.declared.token.TokenKind.{TokenKind}
use Rattle.jif_lex.specs.declared.lexer.LexError.{LexError}
use Rattle.jif_lex.specs.declared.lexer.LexError.TheVariants.{OutOfMemory, BadByte, BadNumber, TooLong}
use Rattle.jif_lex.specs.Tokens.{Piece, skipped, lexeme, piece_text, IsPieceBefore, CutsTo, tokens, ReadsAs, tokens_of}
use Rattle.jif_lex.specs.Tokens.{pieces_length, line_feeds}
use Rattle.js_base.specs.declared.limits.TheConstants.{PROGRAM_BYTES}
use Rattle.jif_lex.specs.Lexing.{LexFails, IsTaken, FailsAt, HasFront, IsSkipped, IsTokenFront}
use Rattle.jif_lex.proofs.Pieces.{piece_some}
use Rattle.jif_lex.proofs.Skips.{line_feeds_count}

-- the line feeds in what is skipped
abbrev pub feeds : List Piece → ℕ
feeds [] = 0
feeds (skipped text ∷ pieces) = line_feeds text + feeds pieces
feeds (lexeme text kind ∷ pieces) = feeds pieces

-- what was read so far: the pieces before the rest, their tokens, and the place and the line of the rest
pub record IsRead (text rest : List ℕ) (list : List Token) (at line : ℕ) : Type 0 where
  pub pieces : List Piece
  pub cut : CutsTo text pieces rest
  pub list_is : list ≡ tokens_of 0 1 pieces
  pub at_is : at ≡ pieces_length pieces
  pub line_is : line ≡ 1 + feeds pieces

pub read_none : (text : List ℕ) → IsRead text text [] 0 1
read_none text = record { pieces = []; cut = refl; list_is = refl; at_is = refl; line_is = refl }

cut_more : (text rest after : List ℕ) (pieces : List Piece) (piece : Piece) → CutsTo text pieces rest →
    rest ≡ piece_text piece ++ after → IsPieceBefore piece after
    → CutsTo text (pieces ++ piece ∷ []) after
cut_more text rest after [] piece cut is before = (after, cut ∙ is, before, refl)
cut_more text rest after (first ∷ pieces) piece cut is before =
    (cut.0, cut.1, cut.2, cut_more cut.0 rest after pieces piece cut.3 is before)

length_more : (pieces : List Piece) (piece : Piece) →
    pieces_length (pieces ++ piece ∷ []) ≡ pieces_length pieces + length (piece_text piece)
length_more [] piece = omega arith
length_more (first ∷ pieces) piece = omega (arith, length_more pieces piece)

feeds_more : (pieces : List Piece) (piece : Piece) → feeds (pieces ++ piece ∷ []) ≡ feeds pieces + feeds (piece ∷ [])
feeds_more [] piece = omega arith
feeds_more (skipped text ∷ pieces) piece = omega (arith, feeds_more pieces piece)
feeds_more (lexeme text kind ∷ pieces) piece = feeds_more pieces piece

tokens_more : (at line : ℕ) (pieces : List Piece) (piece : Piece)
    → tokens_of at line (pieces ++ piece ∷ []) ≡ tokens_of at line pieces ++ tokens_of (at + pieces_length pieces)
    (line + feeds pieces) (piece ∷ [])
tokens_more at line [] piece =
    let here : at + 0 ≡ at = omega arith in
    let there : line + 0 ≡ line = omega arith in
    let e : tokens_of at line (piece ∷ []) ≡ tokens_of (at + 0) (line + 0) (piece ∷ []) =
    sym (ap (λ (n : ℕ). tokens_of n line (piece ∷ [])) here)
    ∙ sym (ap (λ (n : ℕ). tokens_of (at + 0) n (piece ∷ [])) there) in
    e
tokens_more at line (skipped text ∷ pieces) piece =
    let rest = tokens_more (at + length text) (line + line_feeds text) pieces piece in
    let here : at + length text + pieces_length pieces ≡ at + (length text + pieces_length pieces) = omega arith in
    let there : line + line_feeds text + feeds pieces ≡ line + (line_feeds text + feeds pieces) = omega arith in
    let front = tokens_of (at + length text) (line + line_feeds text) pieces in
    rest ∙ ap (λ (n : ℕ). front ++ tokens_of n (line + line_feeds text + feeds pieces) (piece ∷ [])) here
    ∙ ap (λ (n : ℕ). front ++ tokens_of (at + (length text + pieces_length pieces)) n (piece ∷ [])) there
tokens_more at line (lexeme text kind ∷ pieces) piece =
    let first : Token = record { kind = kind; at = at; line = line } in
    let rest = tokens_more (at + length text) line pieces piece in
    let here : at + length text + pieces_length pieces ≡ at + (length text + pieces_length pieces) = omega arith in
    let front = tokens_of (at + length text) line pieces in
    ap (λ (list : List Token). first ∷ list)
    (rest ∙ ap (λ (n : ℕ). front ++ tokens_of n (line + feeds pieces) (piece ∷ [])) here)

-- ---- one piece more

pub read_skipped : (text rest : List ℕ) (list : List Token) (at line n : ℕ) → IsRead text rest list at line →
    HasFront rest n IsSkipped
    → IsRead text (drop n rest) list (at + n) (line + line_feeds (take n rest))
read_skipped text rest list at line n read front =
    let piece : Piece = skipped (take n rest) in
    let short = length-take-le n rest front.0 in
    let length_is = length_more read.pieces piece in
    let feeds_is = feeds_more read.pieces piece in
    let at_was = read.at_is in
    let line_was = read.line_is in
    record {
      pieces = read.pieces ++ piece ∷ [];
      cut = cut_more text rest (drop n rest) read.pieces piece read.cut (sym (take-append-drop n rest)) front.1;
      list_is = read.list_is ∙ sym (append-nil (tokens_of 0 1 read.pieces)) ∙ sym (tokens_more 0 1 read.pieces piece);
      at_is = omega arith;
      line_is = omega arith;
    }

pub read_lexeme : (text rest : List ℕ) (list : List Token) (at line n : ℕ) (kind : TokenKind) →
    IsRead text rest list at line → HasFront rest n (IsTokenFront kind)
    → IsRead text (drop n rest) (list ++ record { kind = kind; at = at; line = line } ∷ []) (at + n) line
read_lexeme text rest list at line n kind read front =
    let piece : Piece = lexeme (take n rest) kind in
    let short = length-take-le n rest front.0 in
    let length_is = length_more read.pieces piece in
    let feeds_is = feeds_more read.pieces piece in
    let at_was = read.at_is in
    let line_was = read.line_is in
    let here : at ≡ 0 + pieces_length read.pieces = omega arith in
    let token : ℕ → ℕ → Token = λ a l. record { kind = kind; at = a; line = l } in
    let same : token at line ≡ token (0 + pieces_length read.pieces) (1 + feeds read.pieces) =
    ap (λ (a : ℕ). token a line) here ∙ ap (λ (l : ℕ). token (0 + pieces_length read.pieces) l) read.line_is in
    record {
      pieces = read.pieces ++ piece ∷ [];
      cut = cut_more text rest (drop n rest) read.pieces piece read.cut (sym (take-append-drop n rest)) front.1;
      list_is = ap (λ (t : List Token). t ++ token at line ∷ []) read.list_is
          ∙ ap (λ (t : Token). tokens_of 0 1 read.pieces ++ t ∷ []) same ∙ sym (tokens_more 0 1 read.pieces piece);
      at_is = omega arith;
      line_is = omega arith;
    }

-- ---- places and lines are small

pub cut_length : (text rest : List ℕ) (pieces : List Piece) → CutsTo text pieces rest →
    length text ≡ pieces_length pieces + length rest
cut_length text rest [] cut = let e = ap length cut in omega arith
cut_length text rest (piece ∷ pieces) cut =
    let e : length text ≡ length (piece_text piece ++ cut.0) = ap length cut.1 in
    let both = length-append (piece_text piece) cut.0 in
    let others = cut_length cut.0 rest pieces cut.3 in
    omega arith

pub line_feeds_few : (text : List ℕ) → line_feeds text ≤ length text
line_feeds_few text =
    let is = line_feeds_count text in
    let few = count_by-le-length (λ (byte : ℕ). byte == 10) text in
    omega arith

feeds_few : (pieces : List Piece) → feeds pieces ≤ pieces_length pieces
feeds_few [] = omega arith
feeds_few (skipped text ∷ pieces) = let here = line_feeds_few text in let others = feeds_few pieces in omega arith
feeds_few (lexeme text kind ∷ pieces) = let others = feeds_few pieces in omega arith

pub read_place : (text rest : List ℕ) (list : List Token) (at line : ℕ) → IsRead text rest list at line →
    at + length rest ≡ length text
read_place text rest list at line read = let is = cut_length text rest read.pieces read.cut in let at_was =
    read.at_is in omega arith

pub read_line : (text rest : List ℕ) (list : List Token) (at line : ℕ) → IsRead text rest list at line → line ≤ 1 + at
read_line text rest list at line read = let few = feeds_few read.pieces in let at_was = read.at_is in let line_was =
    read.line_is in omega arith

-- ---- a piece has some bytes

front_some : (rest : List ℕ) (n : ℕ) → (take n rest ≡ [] → ⊥) → 0 < n
front_some rest zero some = absurd (some refl)
front_some rest (suc n) some = omega arith

pub skipped_some : (rest : List ℕ) (n : ℕ) → HasFront rest n IsSkipped → 0 < n
skipped_some rest n front = front_some rest n (piece_some (skipped (take n rest)) (drop n rest) front.1)

pub lexeme_some : (rest : List ℕ) (n : ℕ) (kind : TokenKind) → HasFront rest n (IsTokenFront kind) → 0 < n
lexeme_some rest n kind front = front_some rest n (piece_some (lexeme (take n rest) kind) (drop n rest) front.1)

-- ---- the end

pub read_all : (text rest : List ℕ) (list : List Token) (at line : ℕ) → IsRead text rest list at line → rest ≡ [] →
    ReadsAs text (tokens list)
read_all text rest list at line read none =
    let P : List ℕ → Type 0 = CutsTo text read.pieces in
    (read.pieces, subst P none read.cut, read.list_is)

pub read_fails : (text rest : List ℕ) (list : List Token) (at line : ℕ) (error : LexError) →
    length text ≤ PROGRAM_BYTES → IsRead text rest list at line → FailsAt rest at error → LexFails text error
read_fails text rest list at line OutOfMemory short read fails = tt
read_fails text rest list at line (BadByte place) short read fails =
    (short, (read.pieces, rest, read.cut, fails.1, fails.0 ∙ read.at_is))
read_fails text rest list at line (BadNumber place) short read fails =
    (short, (read.pieces, rest, read.cut, fails.1, fails.0 ∙ read.at_is))
read_fails text rest list at line TooLong short read fails = absurd fails

-- ---- what was taken

pub taken_few : (text : List ℕ) (at line : ℕ) (before after : List Token) (len few : ℕ) →
    IsTaken text at line before after len few → (len ≤ length text) × (few ≤ len)
taken_few text at line before after len few taken = elim taken [
  | inl w ↦ (
    w.0.0,
    let short = length-take-le len text w.0.0 in let is =
        line_feeds_few (take len text) in let here = w.2 in omega arith,
  )
  | inr w ↦ (w.1.0, let here = w.3 in omega arith)
]

pub taken_some : (text : List ℕ) (at line : ℕ) (before after : List Token) (len few : ℕ) →
    IsTaken text at line before after len few → 0 < len
taken_some text at line before after len few taken = elim taken [
  | inl w ↦ skipped_some text len w.0
  | inr w ↦ lexeme_some text len w.0 w.1
]

pub read_taken : (text rest : List ℕ) (at line : ℕ) (before after : List Token) (len few : ℕ) →
    IsRead text rest before at line → IsTaken rest at line before after len few
    → IsRead text (drop len rest) after (at + len) (line + few)
read_taken text rest at line before after len few read taken = elim taken [
  | inl w ↦ (
      let P : List Token → Type 0 =
      λ list. IsRead text (drop len rest) list (at + len) (line + line_feeds (take len rest)) in
      let Q : ℕ → Type 0 = λ n. IsRead text (drop len rest) after (at + len) (line + n) in
      subst Q (sym w.2) (subst P (sym w.1) (read_skipped text rest before at line len read w.0)))
  | inr w ↦ (
      let P : List Token → Type 0 = λ list. IsRead text (drop len rest) list (at + len) line in
      let Q : ℕ → Type 0 = λ n. IsRead text (drop len rest) after (at + len) n in
      let none = w.3 in
      let here : line ≡ line + few = omega arith in
      subst Q here (subst P (sym w.2) (read_lexeme text rest before at line len w.0 read w.1)))
]
