-- A text is written letter by letter.
use Rattle.std.proofs.Common.{◌≡◌, ℕ, ◌+◌, ◌<◌, List, [], ◌∷◌, ◌++◌, length, get_or, drop, ap, ◌∙◌}
use Rattle.std.specs.Str.{encode_utf8_all}
use Rattle.std.proofs.lemmas.Str.{encodes-append}
use Rattle.run_sheet.proofs.ListWalks.{left_cut, walked}

pub letter_added : (letters : List ℕ) (i : ℕ) (d x : ℕ) (whole before after : List ℕ) → i < length letters →
    x ≡ get_or letters i d → before ++ encode_utf8_all (drop i letters) ≡ whole →
    after ≡ before ++ encode_utf8_all (x ∷ []) → after ++ encode_utf8_all (drop (i + 1) letters) ≡ whole
letter_added letters i d x whole before after lt is was pushed =
    walked before after (encode_utf8_all (x ∷ [])) (encode_utf8_all (drop i letters))
    (encode_utf8_all (drop (i + 1) letters)) whole was
    (ap encode_utf8_all (left_cut letters i d x lt is) ∙ encodes-append (x ∷ []) (drop (i + 1) letters)) pushed
