-- An escaped text has no marks, and reads back.
use Rattle.std.proofs.Common.{◌≡◌, ◌≢◌, ℕ, Bool, true, false, List, [], ◌∷◌, ◌++◌, All, codes, refl, ap, sym, ◌∙◌}
use Rattle.std.proofs.Common.{arith, drop, get_or, length, ◌<◌, ◌+◌}
use Rattle.std.specs.Str.{encode_utf8_all}
use Rattle.std.proofs.lemmas.Str.{encodes-append}
use Rattle.std.specs.Prelude.{◌==◌, if◌then◌else◌}
use Rattle.std.proofs.lemmas.List.Elements.{All-nil, All-cons, All-append}
use Rattle.drawing_text.specs.Letters.{escaped, escaped_letter, outside, unescaped}
use Rattle.drawing_text.proofs.Walks.{left_cut, written}

abbrev pub IsUnmarked : ℕ → Type 0
IsUnmarked letter = (letter ≢ 60) × (letter ≢ 62)

more_unmarked : (letter : ℕ) (letters : List ℕ) → (letter ≢ 60) × (letter ≢ 62) → All IsUnmarked letters →
    All IsUnmarked (letter ∷ letters)
more_unmarked letter letters one all = All-cons IsUnmarked letter letters one all

none : All IsUnmarked []
none = All-nil IsUnmarked

letter_unmarked : (letter : ℕ) (amp less more : Bool) → (letter == 38) ≡ amp → (letter == 60) ≡ less →
    (letter == 62) ≡ more →
    All IsUnmarked
    (if amp then codes "&amp;"
    else (if less then codes "&lt;" else (if more then codes "&gt;" else letter ∷ [])))
letter_unmarked letter true less more is less_is more_is =
    more_unmarked 38 (codes "amp;") (omega arith, omega arith)
    (more_unmarked 97 (codes "mp;") (omega arith, omega arith)
    (more_unmarked 109 (codes "p;") (omega arith, omega arith) (more_unmarked 112 (codes ";") (omega arith, omega arith)
    (more_unmarked 59 [] (omega arith, omega arith) none))))
letter_unmarked letter false true more is less_is more_is =
    more_unmarked 38 (codes "lt;") (omega arith, omega arith) (more_unmarked 108 (codes "t;") (omega arith, omega arith)
    (more_unmarked 116 (codes ";") (omega arith, omega arith) (more_unmarked 59 [] (omega arith, omega arith) none)))
letter_unmarked letter false false true is less_is more_is =
    more_unmarked 38 (codes "gt;") (omega arith, omega arith) (more_unmarked 103 (codes "t;") (omega arith, omega arith)
    (more_unmarked 116 (codes ";") (omega arith, omega arith) (more_unmarked 59 [] (omega arith, omega arith) none)))
letter_unmarked letter false false false is less_is more_is =
    more_unmarked letter [] (grind arith, grind arith) none

pub unmarked : (letters : List ℕ) → All IsUnmarked (escaped letters)
unmarked [] = none
unmarked (letter ∷ letters) =
    All-append IsUnmarked (escaped_letter letter) (escaped letters)
    (letter_unmarked letter (letter == 38) (letter == 60) (letter == 62) refl refl refl) (unmarked letters)

letter_back : (letter : ℕ) (rest : List ℕ) (amp less more : Bool) → (letter == 38) ≡ amp → (letter == 60) ≡ less →
    (letter == 62) ≡ more →
    unescaped outside
    ((if amp then codes "&amp;" else (if less then codes "&lt;" else (if more then codes "&gt;" else letter ∷ [])))
    ++ rest) ≡ letter ∷ unescaped outside rest
letter_back letter rest true less more is less_is more_is =
    let same : 38 ≡ letter = grind arith in ap (λ (l : ℕ). l ∷ unescaped outside rest) same
letter_back letter rest false true more is less_is more_is =
    let same : 60 ≡ letter = grind arith in ap (λ (l : ℕ). l ∷ unescaped outside rest) same
letter_back letter rest false false true is less_is more_is =
    let same : 62 ≡ letter = grind arith in ap (λ (l : ℕ). l ∷ unescaped outside rest) same
letter_back letter rest false false false is less_is more_is = rw is refl

pub reads_back : (letters : List ℕ) → unescaped outside (escaped letters) ≡ letters
reads_back [] = refl
reads_back (letter ∷ letters) =
    letter_back letter (escaped letters) (letter == 38) (letter == 60) (letter == 62) refl refl refl
    ∙ ap (λ (rest : List ℕ). letter ∷ rest) (reads_back letters)

-- one more letter was written
pub letter_written : (letters : List ℕ) (i : ℕ) (d x : ℕ) (whole before after : List ℕ) → i < length letters →
    x ≡ get_or letters i d → before ++ encode_utf8_all (escaped (drop i letters)) ≡ whole →
    after ≡ before ++ encode_utf8_all (escaped_letter x) →
    after ++ encode_utf8_all (escaped (drop (i + 1) letters)) ≡ whole
letter_written letters i d x whole before after lt is was pushed =
    let left = escaped (drop (i + 1) letters) in
    let opened : encode_utf8_all (escaped (drop i letters))
    ≡ encode_utf8_all (escaped_letter x) ++ encode_utf8_all left =
    ap (λ (rest : List ℕ). encode_utf8_all (escaped rest)) (left_cut letters i d x lt is)
    ∙ encodes-append (escaped_letter x) left in
    written whole before (encode_utf8_all (escaped_letter x)) (encode_utf8_all left) after
    (ap (λ (rest : List ℕ). before ++ rest) (sym opened) ∙ was) pushed
