-- Journals that are read one after the other.
use Rattle.std.proofs.Common.{◌≡◌, ◌∙◌, ℕ, ◌+◌, ◌*◌, ◌<◌, ◌≤◌, List, [], ◌∷◌, ◌++◌, length}
use Rattle.std.proofs.Common.{None, ap, sym, arith, get_or, drop, add-one, Vec, Global}
use Rattle.std.specs.Prelude.{map}
use Rattle.std.proofs.Math.Seq.{drop-cons}
use Rattle.std.proofs.lemmas.List.{append_assoc, map-append, length-map}
use Rattle.js_base.specs.declared.limits.TheConstants.{SCRIPT_BYTES}
use Rattle.event_text.specs.declared.lines.Line.{Line}
use Rattle.event_text.specs.Lines.{LineShape, words}
use Rattle.host_code.specs.Code.{CodeShape}
use Rattle.record_merge.specs.JournalLines.{said_line, said_of, all_of, lines_in}
use Rattle.record_merge.specs.Journals.{journal_lines, fault_of, first_fault, or_later}
use Rattle.record_merge.specs.Reading.{bytes_of}

-- ---- what they say

-- what is left of journals is the next, and what is left behind that
left_cut : (journals : List (Vec ℕ Global)) (number : ℕ) (d journal : Vec ℕ Global) → number < length journals →
    journal ≡ get_or journals number d →
    bytes_of (drop number journals) ≡ journal.items ∷ bytes_of (drop (number + 1) journals)
left_cut journals number d journal within is =
    let cut : drop number journals ≡ get_or journals number d ∷ drop (number + 1) journals =
    rw add-one (drop-cons journals number d within) in
    ap bytes_of cut
    ∙ ap (λ (one : Vec ℕ Global). one.items ∷ bytes_of (drop (number + 1) journals)) (sym is)

pub journal_more : (all after : List (Vec Line Global)) (lines : Vec Line Global) (journals : List (Vec ℕ Global))
    (number : ℕ) (d journal : Vec ℕ Global) (whole : List (List LineShape)) → number < length journals →
    journal ≡ get_or journals number d → map said_line lines.items ≡ journal_lines journal.items →
    after ≡ all ++ lines ∷ [] →
    said_of all ++ map journal_lines (bytes_of (drop number journals)) ≡ whole →
    said_of after ++ map journal_lines (bytes_of (drop (number + 1) journals)) ≡ whole
journal_more all after lines journals number d journal whole within is read added before =
    let later = map journal_lines (bytes_of (drop (number + 1) journals)) in
    let said : said_of after ≡ said_of all ++ map said_line lines.items ∷ [] =
    ap said_of added ∙ map-append (λ (one : Vec Line Global). map said_line one.items) all (lines ∷ []) in
    ap (λ (ls : List (List LineShape)). ls ++ later) said
    ∙ append_assoc (said_of all) (map said_line lines.items ∷ []) later
    ∙ ap (λ (ls : List LineShape). said_of all ++ ls ∷ later) read
    ∙ ap (λ (bs : List (List ℕ)). said_of all ++ map journal_lines bs)
    (sym (left_cut journals number d journal within is))
    ∙ before

pub sound_more : (code : CodeShape) (journals : List (Vec ℕ Global)) (number : ℕ) (d journal : Vec ℕ Global) →
    number < length journals → journal ≡ get_or journals number d → fault_of code journal.items ≡ None →
    first_fault code number (bytes_of (drop number journals)) ≡ first_fault code 0 (bytes_of journals) →
    first_fault code (number + 1) (bytes_of (drop (number + 1) journals)) ≡ first_fault code 0 (bytes_of journals)
sound_more code journals number d journal within is sound before =
    let later = first_fault code (number + 1) (bytes_of (drop (number + 1) journals)) in
    sym (ap (λ fault. or_later number fault later) sound)
    ∙ sym (ap (first_fault code number) (left_cut journals number d journal within is)) ∙ before

-- ---- how many lines they have

lines_more : (all : List (Vec Line Global)) (lines : Vec Line Global) →
    lines_in (all_of (all ++ lines ∷ [])) ≡ lines_in (all_of all) + length lines.items
lines_more [] lines =
    let count = length-map lines.items (λ (line : Line). words line.bytes.now) in
    omega (arith, count)
lines_more (one ∷ all) lines = let rest = lines_more all lines in omega (arith, rest)

pub few_more : (all after : List (Vec Line Global)) (lines : Vec Line Global) (number : ℕ) →
    after ≡ all ++ lines ∷ [] → length lines.items ≤ SCRIPT_BYTES → lines_in (all_of all) ≤ SCRIPT_BYTES * number →
    lines_in (all_of after) ≤ SCRIPT_BYTES * (number + 1)
few_more all after lines number added few before =
    let count = ap (λ (ls : List (Vec Line Global)). lines_in (all_of ls)) added ∙ lines_more all lines in
    omega (arith, count, few, before)
