-- A text is cut in one way only.
use Rattle.std.proofs.Common.{◌≡◌, ℕ, List, [], ◌∷◌, ◌++◌, refl, sym, ap, ◌∙◌, subst}
use Rattle.jif_lex.specs.Tokens.{Piece, piece_text, IsPieceBefore, CutsTo, BeginsBadNumber, Reading, tokens, bad_byte}
use Rattle.jif_lex.specs.Tokens.{bad_number, ReadsAs, tokens_of, pieces_length}
use Rattle.jif_lex.proofs.Begins.{nothing, digit, class_of, digits_class, class_of_front}
use Rattle.jif_lex.proofs.Pieces.{same_piece, bad_number_no_piece, piece_some}

-- no piece stands at the front
abbrev pub Stuck : List ℕ → Type 0
Stuck rest = (p : Piece) (after : List ℕ) → rest ≡ piece_text p ++ after → ¬ IsPieceBefore p after

front_none : (a b : List ℕ) → [] ≡ a ++ b → a ≡ []
front_none [] b is = refl
front_none (x ∷ a) b is = cc

stuck_at_end : Stuck []
stuck_at_end p after is piece = piece_some p after piece (front_none (piece_text p) after is)

pub same_cut : (text : List ℕ) (ps qs : List Piece) (r s : List ℕ) → CutsTo text ps r → CutsTo text qs s → Stuck r →
    Stuck s → (ps ≡ qs) × (r ≡ s)
same_cut text [] [] r s first second here there = (refl, sym first ∙ second)
same_cut text [] (q ∷ qs) r s first second here there = absurd (here q second.0 (sym first ∙ second.1) second.2)
same_cut text (p ∷ ps) [] r s first second here there = absurd (there p first.0 (sym second ∙ first.1) first.2)
same_cut text (p ∷ ps) (q ∷ qs) r s first second here there =
    let heads = same_piece p q first.0 second.0 first.2 second.2 (sym first.1 ∙ second.1) in
    let P : List ℕ → Type 0 = λ t. CutsTo t ps r in
    let tails = same_cut second.0 ps qs r s (subst P heads.1 first.3) second.3 here there in
    let one : p ≡ q = heads.0 in
    let others : ps ≡ qs = tails.0 in
    (cc, tails.1)

pub bad_number_some : (text : List ℕ) → BeginsBadNumber text → text ≡ [] → ⊥
bad_number_some text bad none =
    let there : class_of text ≡ digit =
    ap class_of bad.written
    ∙ class_of_front bad.digits bad.after digit (digits_class bad.digits bad.are_digits) (λ e. cc) in
    let both : nothing ≡ digit = sym (ap class_of none) ∙ there in cc

bad_number_stuck : (text : List ℕ) → BeginsBadNumber text → Stuck text
bad_number_stuck text bad p after is = bad_number_no_piece text p after bad is

-- a text has one reading
pub same_reading : (text : List ℕ) (first second : Reading) → ReadsAs text first → ReadsAs text second → first ≡ second
same_reading text (tokens a) (tokens b) one two =
    let cut = same_cut text one.0 two.0 [] [] one.1 two.1 stuck_at_end stuck_at_end in
    ap tokens (one.2 ∙ ap (λ (ps : List Piece). tokens_of 0 1 ps) cut.0 ∙ sym two.2)
same_reading text (tokens a) (bad_byte b) one two =
    let cut = same_cut text one.0 two.0 [] two.1 one.1 two.2 stuck_at_end two.3.no_piece in
    absurd (two.3.some (sym cut.1))
same_reading text (tokens a) (bad_number b) one two =
    let cut = same_cut text one.0 two.0 [] two.1 one.1 two.2 stuck_at_end (bad_number_stuck two.1 two.3) in
    absurd (bad_number_some two.1 two.3 (sym cut.1))
same_reading text (bad_byte a) (tokens b) one two =
    let cut = same_cut text one.0 two.0 one.1 [] one.2 two.1 one.3.no_piece stuck_at_end in
    absurd (one.3.some cut.1)
same_reading text (bad_byte a) (bad_byte b) one two =
    let cut = same_cut text one.0 two.0 one.1 two.1 one.2 two.2 one.3.no_piece two.3.no_piece in
    ap bad_byte (one.4 ∙ ap pieces_length cut.0 ∙ sym two.4)
same_reading text (bad_byte a) (bad_number b) one two =
    let cut = same_cut text one.0 two.0 one.1 two.1 one.2 two.2 one.3.no_piece (bad_number_stuck two.1 two.3) in
    let P : List ℕ → Type 0 = BeginsBadNumber in
    absurd (one.3.no_number (subst P (sym cut.1) two.3))
same_reading text (bad_number a) (tokens b) one two =
    let cut = same_cut text one.0 two.0 one.1 [] one.2 two.1 (bad_number_stuck one.1 one.3) stuck_at_end in
    absurd (bad_number_some one.1 one.3 cut.1)
same_reading text (bad_number a) (bad_byte b) one two =
    let cut = same_cut text one.0 two.0 one.1 two.1 one.2 two.2 (bad_number_stuck one.1 one.3) two.3.no_piece in
    let P : List ℕ → Type 0 = BeginsBadNumber in
    absurd (two.3.no_number (subst P cut.1 one.3))
same_reading text (bad_number a) (bad_number b) one two =
    let cut =
    same_cut text one.0 two.0 one.1 two.1 one.2 two.2 (bad_number_stuck one.1 one.3)
    (bad_number_stuck two.1 two.3) in
    ap bad_number (one.4 ∙ ap pieces_length cut.0 ∙ sym two.4)
