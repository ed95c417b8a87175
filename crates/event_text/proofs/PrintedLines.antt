-- Lines that are printed are read as these lines.
use Rattle.std.proofs.Common.{◌≡◌, ◌+◌, ◌-◌, ◌==◌, ℕ, Bool, true, false, List, [], ◌∷◌, ◌++◌, length}
use Rattle.std.proofs.Common.{refl, ap, ◌∙◌, arith, All, append_assoc}
use Rattle.std.specs.Prelude.{slice_index}
use Rattle.std.specs.List.{list_all, slice_split, AllByRecursion}
use Rattle.std.specs.Str.Lines.{lines, lines_of_parts, strip_carriage_return}
use Rattle.std.proofs.lemmas.Bool.{and_parts}
use Rattle.std.proofs.lemmas.Bool.Decides.{nat_tests}
use Rattle.std.proofs.lemmas.List.Concat.{flat_map-cons}
use Rattle.std.proofs.lemmas.List.Elements.{All-nil, All-cons}
use Rattle.std.proofs.lemmas.List.Splits.{slice_split_at, length-slice_split}
use Rattle.event_text.specs.Lines.{LineShape, line_of, words, is_skipped, said_from, said_lines}
use Rattle.event_text.specs.ScriptText.{text_of_lines}
use Rattle.event_text.proofs.Fronts.{lines_of_parts-cons}
use Rattle.event_text.proofs.PrintedBytes.{is_printed, IsPrinted}

no_line_feed : (text : List ℕ) → list_all is_printed text ≡ true → All (λ byte. (byte == 10) ≡ false) text
no_line_feed [] printed = All-nil (λ byte. (byte == 10) ≡ false)
no_line_feed (byte ∷ text) printed =
    let parts = and_parts (is_printed byte) (list_all is_printed text) printed in
    let here = parts.0 in
    All-cons (λ byte. (byte == 10) ≡ false) byte text (grind (arith, nat_tests)) (no_line_feed text parts.1)

-- the last byte is no carriage return
last_printed : (byte : ℕ) (text : List ℕ) → list_all is_printed (byte ∷ text) ≡ true →
    (slice_index (byte ∷ text) (length text) == 13) ≡ false
last_printed byte [] printed =
    let here = (and_parts (is_printed byte) true printed).0 in grind (arith, nat_tests)
last_printed byte (next ∷ text) printed =
    last_printed next text (and_parts (is_printed byte) (list_all is_printed (next ∷ text)) printed).1

kept_whole : (text : List ℕ) → list_all is_printed text ≡ true → strip_carriage_return text ≡ text
kept_whole [] printed = refl
kept_whole (byte ∷ text) printed =
    let last : length (byte ∷ text) - 1 ≡ length text = omega arith in
    rw (last, last_printed byte text printed) refl

-- the first of some lines
line_first : (text rest : List ℕ) → IsPrinted text → lines (text ++ 10 ∷ rest) ≡ text ∷ lines rest
line_first text rest printed =
    let is_end : ℕ → Bool = λ byte. byte == 10 in
    let count = length-slice_split is_end rest in
    ap lines_of_parts (slice_split_at is_end text 10 rest (no_line_feed text printed.all) refl)
    ∙ lines_of_parts-cons text (slice_split is_end rest) (omega (arith, count))
    ∙ ap (λ (first : List ℕ). first ∷ lines rest) (kept_whole text printed.all)

pub lines_again : (texts : List (List ℕ)) → AllByRecursion IsPrinted texts → lines (text_of_lines texts) ≡ texts
lines_again [] all = refl
lines_again (text ∷ texts) all =
    let ended : List ℕ → List ℕ = λ line. line ++ 10 ∷ [] in
    ap lines (flat_map-cons ended text texts ∙ append_assoc text (10 ∷ []) (text_of_lines texts))
    ∙ line_first text (text_of_lines texts) all.0
    ∙ ap (λ (others : List (List ℕ)). text ∷ others) (lines_again texts all.1)

-- ---- lines with their numbers

abbrev pub numbered_lines : ℕ → List (List ℕ) → List LineShape
numbered_lines number [] = []
numbered_lines number (text ∷ texts) = line_of number text ∷ numbered_lines (number + 1) texts

pub numbered_both : (number : ℕ) (first second : List (List ℕ)) →
    numbered_lines number (first ++ second)
    ≡ numbered_lines number first ++ numbered_lines (number + length first) second
numbered_both number [] second = ap (λ n. numbered_lines n second) (omega arith)
numbered_both number (text ∷ first) second =
    ap (λ (rest : List LineShape). line_of number text ∷ rest)
    (numbered_both (number + 1) first second
    ∙ ap (λ n. numbered_lines (number + 1) first ++ numbered_lines n second) (omega arith))

-- some words of a line, which is no comment
abbrev pub IsSaying : List ℕ → Type 0
IsSaying text = is_skipped (words text) ≡ false

said_all : (number : ℕ) (texts : List (List ℕ)) → AllByRecursion IsSaying texts →
    said_from number texts ≡ numbered_lines number texts
said_all number [] all = refl
said_all number (text ∷ texts) all =
    rw all.0 (ap (λ (rest : List LineShape). line_of number text ∷ rest) (said_all (number + 1) texts all.1))

pub said_again : (texts : List (List ℕ)) → AllByRecursion IsPrinted texts → AllByRecursion IsSaying texts →
    said_lines (text_of_lines texts) ≡ numbered_lines 1 texts
said_again texts printed saying =
    ap (said_from 1) (lines_again texts printed) ∙ said_all 1 texts saying
