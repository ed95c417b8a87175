-- What one line of a printed program says, and what is around the line behind it.
use Rattle.std.proofs.Common.{◌≡◌, ◌<◌, ◌+◌, ◌-◌, ℕ, Bool, true, false, List, [], ◌∷◌, ◌++◌, All}
use Rattle.std.proofs.Common.{codes, refl, ap, sym, ◌∙◌, arith, append_assoc, take, length}
use Rattle.std.specs.Prelude.{nat_eq, ◌==◌, if◌then◌else◌, slice_index}
use Rattle.std.specs.List.{list_all, slice_split, starts_with}
use Rattle.std.specs.Str.{bytes_eq}
use Rattle.std.specs.Str.Lines.{lines, lines_of_parts, strip_carriage_return}
use Rattle.std.proofs.Math.Seq.{take-append_seam}
use Rattle.std.proofs.lemmas.Bool.{both_ways, false_from_ne_true}
use Rattle.std.proofs.lemmas.Bool.Decides.{nat_tests, Decides-eqb}
use Rattle.std.proofs.lemmas.List.{get_or-append_right, length-append}
use Rattle.std.proofs.lemmas.List.Elements.{All-cons, All-nil}
use Rattle.std.proofs.lemmas.List.Folds.{list_all_at}
use Rattle.std.proofs.lemmas.List.Splits.{length-slice_split, slice_split_at}
use Rattle.std.proofs.lemmas.Slice.Eq.{bytes_eq-Decides}
use Rattle.js_base.specs.Name.{continues_name}
use Rattle.statement_texts.specs.Texts.{AroundShape, StatementTextShape, begins_loop, closes}
use Rattle.statement_texts.specs.Texts.{ends_open, texts_from, turns}
use Rattle.statement_texts.specs.Statements.{behind, inside, opened, stated, told}
use Rattle.statement_texts.proofs.Printed.{IsPrinted, IsWord, both, literal, parts_of_and, prints}

-- ---- the lines of a text

no_feed : (byte : ℕ) → prints byte ≡ true → (byte == 10) ≡ false
no_feed byte is = grind (arith, nat_tests)

no_feeds : (line : List ℕ) → list_all prints line ≡ true → All (λ byte. (byte == 10) ≡ false) line
no_feeds [] is = All-nil (λ byte. (byte == 10) ≡ false)
no_feeds (byte ∷ bytes) is =
    let parts = parts_of_and (prints byte) (list_all prints bytes) is in
    All-cons (λ byte. (byte == 10) ≡ false) byte bytes (no_feed byte parts.0) (no_feeds bytes parts.1)

abbrev pub last_of : List ℕ → ℕ
last_of line = slice_index line (length line - 1)

last_prints : (line : List ℕ) → list_all prints line ≡ true → (last_of line == 13) ≡ false
last_prints [] is = refl
last_prints (byte ∷ bytes) is =
    let line : List ℕ = byte ∷ bytes in
    false_from_ne_true (last_of line == 13) (λ ends.
    let same : last_of line ≡ 13 = (Decides-eqb (last_of line) 13).0 ends in
    both_ways (list_all prints line)
    (list_all_at prints line (length line - 1) 0 (omega arith) (ap prints same)) is)

nothing_stripped : (line : List ℕ) → list_all prints line ≡ true → strip_carriage_return line ≡ line
nothing_stripped line is =
    ap (λ (test : Bool). if test then take (length line - 1) line else line) (last_prints line is)

line_before : (line : List ℕ) (parts : List (List ℕ)) → 0 < length parts → strip_carriage_return line ≡ line →
    lines_of_parts (line ∷ parts) ≡ line ∷ lines_of_parts parts
line_before line [] more is = absurd (omega arith)
line_before line (part ∷ parts) more is = ap (λ (l : List ℕ). l ∷ lines_of_parts (part ∷ parts)) is

pub line_cut : (line tail : List ℕ) → IsPrinted line → lines (line ++ 10 ∷ tail) ≡ line ∷ lines tail
line_cut line tail is =
    let parts : List (List ℕ) = slice_split (λ byte. byte == 10) tail in
    let many : length parts ≡ _ + 1 = length-slice_split (λ byte. byte == 10) tail in
    ap lines_of_parts (slice_split_at (λ byte. byte == 10) line 10 tail (no_feeds line is.all) refl)
    ∙ line_before line parts (omega (arith, many)) (nothing_stripped line is.all)

-- ---- how a line ends

pub last_appended : (text : List ℕ) (byte : ℕ) → last_of (text ++ byte ∷ []) ≡ byte
last_appended text byte =
    let long : length (text ++ byte ∷ []) ≡ length text + 1 = length-append text (byte ∷ []) in
    let at : length (text ++ byte ∷ []) - 1 ≡ length text = omega (arith, long) in
    let none : length text - length text ≡ 0 = omega arith in
    ap (slice_index (text ++ byte ∷ [])) at
    ∙ get_or-append_right text (byte ∷ []) (length text) (length text) 0 refl (omega arith)
    ∙ ap (slice_index (byte ∷ [])) none

another_end : (line other : List ℕ) → (last_of line ≡ last_of other → ⊥) → bytes_eq line other ≡ false
another_end line other apart =
    false_from_ne_true (bytes_eq line other) (λ same. apart (ap last_of ((bytes_eq-Decides line other).0 same)))

pub stated_turns : (text : List ℕ) → turns (stated text) ≡ false
stated_turns text =
    another_end (stated text) (codes "} else {")
    (λ same. let no : 59 ≡ 123 = sym (last_appended text 59) ∙ same in omega (arith, no))

pub stated_closes : (text : List ℕ) → closes (stated text) ≡ false
stated_closes text =
    another_end (stated text) (codes "}")
    (λ same. let no : 59 ≡ 125 = sym (last_appended text 59) ∙ same in omega (arith, no))

pub stated_ends : (text : List ℕ) → ends_open (stated text) ≡ false
stated_ends text = ap (λ (byte : ℕ). byte == 123) (last_appended text 59)

pub opened_ends : (text : List ℕ) → ends_open (opened text) ≡ true
opened_ends text =
    ap ends_open (sym (append_assoc text (32 ∷ []) (123 ∷ [])))
    ∙ ap (λ (byte : ℕ). byte == 123) (last_appended (text ++ 32 ∷ []) 123)

-- ---- how a line begins

-- A word and a byte that is none of a word begin with another such word and byte only where the bytes are the same.
begins_alike : (name word rest more : List ℕ) (byte other : ℕ) → IsWord name → IsWord word →
    continues_name byte ≡ false → continues_name other ≡ false →
    starts_with nat_eq (name ++ byte ∷ rest) (word ++ other ∷ more) ≡ true →
    (other ≡ byte) × (starts_with nat_eq rest more ≡ true)
begins_alike [] [] rest more byte other is also stops ends begins =
    let parts = parts_of_and (other == byte) (starts_with nat_eq rest more) begins in
    ((Decides-eqb other byte).0 parts.0, parts.1)
begins_alike [] (w ∷ ws) rest more byte other is also stops ends begins =
    let first = (parts_of_and (w == byte) _ begins).0 in
    let same : w ≡ byte = (Decides-eqb w byte).0 first in
    let word = (parts_of_and (continues_name w) (list_all continues_name ws) also.all).0 in
    absurd (both_ways (continues_name byte) stops (sym (ap continues_name same) ∙ word))
begins_alike (n ∷ ns) [] rest more byte other is also stops ends begins =
    let first = (parts_of_and (other == n) _ begins).0 in
    let same : other ≡ n = (Decides-eqb other n).0 first in
    let word = (parts_of_and (continues_name n) (list_all continues_name ns) is.all).0 in
    absurd (both_ways (continues_name other) ends (ap continues_name same ∙ word))
begins_alike (n ∷ ns) (w ∷ ws) rest more byte other is also stops ends begins =
    begins_alike ns ws rest more byte other
    (record { all = (parts_of_and (continues_name n) (list_all continues_name ns) is.all).1 })
    (record { all = (parts_of_and (continues_name w) (list_all continues_name ws) also.all).1 }) stops ends
    (parts_of_and (w == n) _ begins).1

-- what begins with a name begins no loop, where the name is followed by another byte than a blank
pub no_loop : (name rest : List ℕ) (byte : ℕ) → IsWord name → continues_name byte ≡ false → (byte == 32) ≡ false →
    begins_loop (name ++ byte ∷ rest) ≡ false
no_loop name rest byte is stops apart =
    false_from_ne_true (begins_loop (name ++ byte ∷ rest)) (λ begins.
    let same =
    begins_alike name (codes "while") rest (codes "(") byte 32 is (record { all = refl }) stops refl begins in
    both_ways (byte == 32) apart (ap (λ (b : ℕ). b == 32) (sym same.0)))

-- or by a blank and `=`
pub no_loop_set : (name rest : List ℕ) → IsWord name → begins_loop (name ++ 32 ∷ 61 ∷ rest) ≡ false
no_loop_set name rest is =
    false_from_ne_true (begins_loop (name ++ 32 ∷ 61 ∷ rest)) (λ begins.
    let same =
    begins_alike name (codes "while") (61 ∷ rest) (codes "(") 32 32 is (record { all = refl }) refl refl begins in
    both_ways true (sym same.1) refl)

-- ---- one line

stated_said : (around : AroundShape) (line : List ℕ) (others : List (List ℕ)) → turns line ≡ false →
    closes line ≡ false → ends_open line ≡ false → begins_loop line ≡ false →
    texts_from around (line ∷ others) ≡ told around line false ∷ texts_from (behind around) others
stated_said around line others turned closed ends loops = rw (turned, closed, ends, loops) refl

opened_said : (around : AroundShape) (line : List ℕ) (others : List (List ℕ)) (begins : Bool) → turns line ≡ false →
    closes line ≡ false → ends_open line ≡ true → begins_loop line ≡ begins →
    texts_from around (line ∷ others) ≡ told around line begins ∷ texts_from (inside around begins false) others
opened_said around line others begins turned closed ends loops = rw (turned, closed, ends, loops) refl

-- what a text says
abbrev pub said_in : AroundShape → List ℕ → List StatementTextShape
said_in around text = texts_from around (lines text)

pub stated_line : (around : AroundShape) (text tail : List ℕ) → IsPrinted text → begins_loop (stated text) ≡ false →
    said_in around (stated text ++ 10 ∷ tail) ≡ told around (stated text) false ∷ said_in (behind around) tail
stated_line around text tail is loops =
    ap (texts_from around) (line_cut (stated text) tail (both is (literal (codes ";") refl)))
    ∙ stated_said around (stated text) (lines tail) (stated_turns text) (stated_closes text) (stated_ends text) loops

pub opened_line : (around : AroundShape) (text tail : List ℕ) (begins : Bool) → IsPrinted text →
    turns (opened text) ≡ false → closes (opened text) ≡ false → begins_loop (opened text) ≡ begins →
    said_in around (opened text ++ 10 ∷ tail)
    ≡ told around (opened text) begins ∷ said_in (inside around begins false) tail
opened_line around text tail begins is turned closed loops =
    ap (texts_from around) (line_cut (opened text) tail (both is (literal (codes " {") refl)))
    ∙ opened_said around (opened text) (lines tail) begins turned closed (opened_ends text) loops

-- the line that closes a block
pub closed_line : (around outer : AroundShape) (begins : Bool) (tail : List ℕ) →
    around.within ≡ outer.within ++ begins ∷ [] → said_in around (125 ∷ 10 ∷ tail) ≡ said_in (behind outer) tail
closed_line around outer begins tail is =
    let long : length (outer.within ++ begins ∷ []) ≡ length outer.within + 1 =
    length-append outer.within (begins ∷ []) in
    let at : length (outer.within ++ begins ∷ []) - 1 ≡ length outer.within = omega (arith, long) in
    let shape : List Bool → AroundShape = λ within. record { within = within; otherwise = false } in
    ap (texts_from around) (line_cut (codes "}") tail (literal (codes "}") refl))
    ∙ ap (λ (within : List Bool). texts_from (shape (take (length within - 1) within)) (lines tail)) is
    ∙ ap (λ (count : ℕ). texts_from (shape (take count (outer.within ++ begins ∷ []))) (lines tail)) at
    ∙ ap (λ (within : List Bool). texts_from (shape within) (lines tail))
    (take-append_seam outer.within (begins ∷ []))

-- the line that begins what is done otherwise
pub turned_line : (around outer : AroundShape) (tail : List ℕ) → around.within ≡ outer.within ++ false ∷ [] →
    said_in around (codes "} else {" ++ 10 ∷ tail) ≡ said_in (inside outer false true) tail
turned_line around outer tail is =
    ap (texts_from around) (line_cut (codes "} else {") tail (literal (codes "} else {") refl))
    ∙ ap (λ (within : List Bool). texts_from (record { within = within; otherwise = true }) (lines tail)) is
