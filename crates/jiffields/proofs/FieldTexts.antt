-- What one more element and one more field add to a text.
use Rattle.std.proofs.Common.{◌≡◌, ℕ, ◌+◌, ◌<◌, List, [], ◌∷◌, ◌++◌, length, get_or, take, map, ap, refl}
use Rattle.std.proofs.Common.{sym, ◌∙◌, ◌≢◌, Bool, true, false, arith}
use Rattle.std.specs.Prelude.{ℤ, pos, Result, Ok, Err, OnOk, is_ok, ◌==◌, if◌then◌else◌, All}
use Rattle.std.specs.Fmt.{signed_decimal}
use Rattle.std.specs.List.{flat_map, join_with_byte}
use Rattle.std.proofs.lemmas.Bool.Decides.{nat_tests}
use Rattle.std.proofs.lemmas.List.{append-nil, append_assoc, flat_map_more, length-take-le, take_more}
use Rattle.std.proofs.lemmas.List.Concat.{flat_map-append}
use Rattle.std.proofs.lemmas.List.Elements.{All-head, All-tail}
use Rattle.std.proofs.lemmas.List.FromFn.{map-range_with_len_more}
use Rattle.jif_tree.specs.Store.{element_at, row_of}
use Rattle.js_base.specs.declared.ids.HostId.{HostId}
use Rattle.host_code.specs.Code.{CodeFieldShape}
use Rattle.front_end.specs.Text.{line_text, lines_text}
use Rattle.jiffields.specs.Fields.{elements_of, field_line, field_lines, row_line}

-- what a text has after one more piece
pub added : (start front piece : List ℕ) {before after next : List ℕ} → before ≡ start ++ front →
    after ≡ before ++ piece → next ≡ front ++ piece → after ≡ start ++ next
added start front piece was pushed longer =
    pushed ∙ ap (λ text. text ++ piece) was ∙ append_assoc start front piece ∙ ap (λ text. start ++ text) (sym longer)

-- a fact on a result that is `Ok`
pub from_ok : {T E P : Type 0} (r : Result T E) → true ≡ is_ok r → OnOk r P → P
from_ok (Ok x) ok is = is
from_ok (Err e) ok is = cc

-- a row of one element or more
pub join_with_byte_cons : (first : ℤ) (rest : List ℤ) →
    join_with_byte 32 (map signed_decimal (first ∷ rest))
    ≡ signed_decimal first ++ flat_map (λ element. 32 ∷ signed_decimal element) rest
join_with_byte_cons first [] = sym (append-nil (signed_decimal first))
join_with_byte_cons first (next ∷ rest) =
    ap (λ text. signed_decimal first ++ (32 ∷ text)) (join_with_byte_cons next rest)

pub one_element : (rows : List (List ℤ)) (field : ℕ) (index : ℕ) (row next : List ℤ) (value : ℤ) →
    row ≡ elements_of rows field index → value ≡ element_at (row_of rows field) (pos index) →
    next ≡ row ++ value ∷ [] → next ≡ elements_of rows field (index + 1)
one_element rows field index row next value before is more =
    more ∙ ap (λ (r : List ℤ). r ++ value ∷ []) before
    ∙ ap (λ (v : ℤ). elements_of rows field index ++ v ∷ []) is
    ∙ sym (map-range_with_len_more (λ (k : ℕ). element_at (row_of rows field) (pos k)) 0 index index (omega arith))

-- ---- one more field

lines_push : (me : HostId) (rows : List (List ℤ)) (n : ℕ) (fields : List CodeFieldShape) (field : CodeFieldShape)
    (place : ℕ) → place ≡ n + length fields →
    field_lines me rows n (fields ++ field ∷ []) ≡ field_lines me rows n fields ++ field_line me rows place field
lines_push me rows n [] field place is =
    let same : n ≡ place = omega arith in
    append-nil (field_line me rows n field) ∙ ap (λ m. field_line me rows m field) same
lines_push me rows n (one ∷ fields) field place is =
    ap (λ more. field_line me rows n one ++ more) (lines_push me rows (n + 1) fields field place (omega arith))
    ∙ sym (append_assoc (field_line me rows n one) (field_lines me rows (n + 1) fields)
    (field_line me rows place field))

pub field_lines_more : (me : HostId) (rows : List (List ℤ)) (fields : List CodeFieldShape) (i : ℕ)
    (field : CodeFieldShape) → i < length fields → field ≡ get_or fields i field →
    lines_text (field_lines me rows 0 (take (i + 1) fields))
    ≡ lines_text (field_lines me rows 0 (take i fields)) ++ lines_text (field_line me rows i field)
field_lines_more me rows fields i field lt is =
    let count = length-take-le i fields (omega arith) in
    ap (λ front. lines_text (field_lines me rows 0 front)) (take_more fields i field lt)
    ∙ ap lines_text (lines_push me rows 0 (take i fields) (get_or fields i field) i (omega arith))
    ∙ flat_map-append line_text (field_lines me rows 0 (take i fields))
    (field_line me rows i (get_or fields i field))
    ∙ ap (λ f. lines_text (field_lines me rows 0 (take i fields)) ++ lines_text (field_line me rows i f)) (sym is)

-- ---- fields on a host and elsewhere

here_or_not : (b : Bool) (line : List ℕ) → b ≡ true →
    line_text line ≡ lines_text (if b then line ∷ [] else [])
here_or_not true line is = sym (append-nil (line_text line))
here_or_not false line is = absurd (let never : ⊥ = cc in never)

not_here : (b : Bool) (line : List ℕ) → b ≡ false → (if b then line ∷ [] else []) ≡ []
not_here true line is = absurd (let never : ⊥ = cc in never)
not_here false line is = refl

pub shown : (me : HostId) (rows : List (List ℤ)) (number : ℕ) (field : CodeFieldShape) (name : List ℕ) (size : ℕ)
    (row : List ℤ) → field.host.0 ≡ me.0 → name ≡ field.name → size ≡ field.size →
    row ≡ elements_of rows number size →
    line_text (row_line name row) ≡ lines_text (field_line me rows number field)
shown me rows number field name size row here named sized are =
    let test : (field.host.0 == me.0) ≡ true = grind (arith, nat_tests, here) in
    ap (λ one. line_text (row_line one row)) named
    ∙ ap (λ (one : List ℤ). line_text (row_line field.name one))
    (are ∙ ap (λ (n : ℕ). elements_of rows number n) sized)
    ∙ here_or_not (field.host.0 == me.0) (row_line field.name (elements_of rows number field.size)) test

pub hidden : (me : HostId) (rows : List (List ℤ)) (number : ℕ) (field : CodeFieldShape) (text : List ℕ) →
    field.host.0 ≢ me.0 → text ≡ text ++ lines_text (field_line me rows number field)
hidden me rows number field text elsewhere =
    let test : (field.host.0 == me.0) ≡ false = grind (arith, nat_tests, elsewhere) in
    sym (append-nil text)
    ∙ ap (λ (lines : List (List ℕ)). text ++ lines_text lines)
    (sym (not_here (field.host.0 == me.0) (row_line field.name (elements_of rows number field.size)) test))

none_from : (me : HostId) (rows : List (List ℤ)) (number : ℕ) (fields : List CodeFieldShape) →
    All (λ field. field.host.0 ≢ me.0) fields → field_lines me rows number fields ≡ []
none_from me rows number [] all = refl
none_from me rows number (field ∷ fields) all =
    let P : CodeFieldShape → Type 0 = λ one. one.host.0 ≢ me.0 in
    let first : field.host.0 ≢ me.0 = All-head P field fields all in
    let elsewhere : (field.host.0 == me.0) ≡ false = grind (arith, nat_tests, first) in
    let line = not_here (field.host.0 == me.0) (row_line field.name (elements_of rows number field.size)) elsewhere in
    ap (λ (one : List (List ℕ)). one ++ field_lines me rows (number + 1) fields) line
    ∙ none_from me rows (number + 1) fields (All-tail P field fields all)

pub none_shown : (me : HostId) (rows : List (List ℤ)) (fields : List CodeFieldShape) →
    All (λ field. field.host.0 ≢ me.0) fields → lines_text (field_lines me rows 0 fields) ≡ []
none_shown me rows fields all = ap lines_text (none_from me rows 0 fields all)
