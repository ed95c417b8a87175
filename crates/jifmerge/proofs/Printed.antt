-- Scripts that are printed line by line.
use Rattle.std.proofs.Common.{◌≡◌, ◌∙◌, ℕ, zero, suc, ◌+◌, ◌<◌, ◌≤◌, Bool, true, false, List, [], ◌∷◌, ◌++◌, length}
use Rattle.std.proofs.Common.{get_or, drop, map, refl, sym, ap, arith, add-one}
use Rattle.std.specs.Prelude.{ℤ, if◌then◌else◌, ◌==◌, codes}
use Rattle.std.specs.Int.{bit_at}
use Rattle.std.specs.Ordering.{int_eq}
use Rattle.std.proofs.Math.Seq.{drop-cons}
use Rattle.std.proofs.lemmas.List.{append_assoc, append-nil}
use Rattle.std.proofs.lemmas.List.Concat.{flat_map-append}
use Rattle.std.proofs.lemmas.Nat.Bits.{bit_at-zero}
use Rattle.host_code.specs.Code.{CodeShape, CodeHostShape, CodeFieldShape}
use Rattle.event_text.specs.declared.event.Event.{Event}
use Rattle.event_text.specs.EventText.{event_text}
use Rattle.event_text.specs.ScriptText.{bad_lines, front_lines, row_lines, script_text, setting_lines, text_of_lines}
use Rattle.event_text.specs.ScriptText.{setting_text}
use Rattle.event_text.specs.Settings.{FieldForm, form_of}

pub lines_both : (first second : List (List ℕ)) →
    text_of_lines (first ++ second) ≡ text_of_lines first ++ text_of_lines second
lines_both first second = flat_map-append (λ (line : List ℕ). line ++ 10 ∷ []) first second

-- what is left of a list is its next element, and what is left behind that
pub left_cut : {X : Type 0} (xs : List X) (place : ℕ) (default x : X) → place < length xs →
    x ≡ get_or xs place default → drop place xs ≡ x ∷ drop (place + 1) xs
left_cut {X} xs place default x within is =
    let cut : drop place xs ≡ get_or xs place default ∷ drop (place + 1) xs =
    rw add-one (drop-cons xs place default within) in
    cut ∙ ap (λ (y : X). y ∷ drop (place + 1) xs) (sym is)

-- one more piece was put
pub piece_more : (whole before piece left rest after : List ℕ) → before ++ left ≡ whole → left ≡ piece ++ rest →
    after ≡ before ++ piece → after ++ rest ≡ whole
piece_more whole before piece left rest after was cut put =
    ap (λ (text : List ℕ). text ++ rest) put ∙ append_assoc before piece rest
    ∙ ap (λ (text : List ℕ). before ++ text) (sym cut) ∙ was

-- ---- elements

row_cons : (field : FieldForm) (index : ℕ) (value : ℤ) (values : List ℤ) →
    row_lines field index (value ∷ values) ≡ row_lines field index (value ∷ []) ++ row_lines field (index + 1) values
row_cons field index value values = by (int_eq value field.first)
  where
    by : (first : Bool) →
        (if first then row_lines field (index + 1) values
        else setting_text field index value ∷ row_lines field (index + 1) values)
        ≡ (if first then [] else setting_text field index value ∷ []) ++ row_lines field (index + 1) values
    by true = refl
    by false = refl

pub element_more : (field : FieldForm) (values : List ℤ) (index : ℕ) (default value : ℤ)
    (whole before after : List ℕ) → index < length values → value ≡ get_or values index default →
    before ++ text_of_lines (row_lines field index (drop index values)) ≡ whole →
    after ≡ before ++ text_of_lines (row_lines field index (value ∷ [])) →
    after ++ text_of_lines (row_lines field (index + 1) (drop (index + 1) values)) ≡ whole
element_more field values index default value whole before after within is was put =
    let rest = drop (index + 1) values in
    let cut : text_of_lines (row_lines field index (drop index values))
    ≡ text_of_lines (row_lines field index (value ∷ [])) ++ text_of_lines (row_lines field (index + 1) rest) =
    ap (λ (left : List ℤ). text_of_lines (row_lines field index left)) (left_cut values index default value within is)
    ∙ ap text_of_lines (row_cons field index value rest)
    ∙ lines_both (row_lines field index (value ∷ [])) (row_lines field (index + 1) rest) in
    piece_more whole before (text_of_lines (row_lines field index (value ∷ [])))
    (text_of_lines (row_lines field index (drop index values))) (text_of_lines (row_lines field (index + 1) rest)) after
    was cut put

-- ---- fields

abbrev pub forms_of : List CodeFieldShape → List FieldForm
forms_of fields = map form_of fields

pub row_more : (fields : List CodeFieldShape) (rows : List (List ℤ)) (place : ℕ) (field : CodeFieldShape)
    (row : List ℤ) (whole before after : List ℕ) → place < length fields → field ≡ get_or fields place field →
    place < length rows → row ≡ get_or rows place row →
    before ++ text_of_lines (setting_lines (forms_of (drop place fields)) (drop place rows)) ≡ whole →
    after ≡ before ++ text_of_lines (row_lines (form_of field) 0 row) →
    after ++ text_of_lines (setting_lines (forms_of (drop (place + 1) fields)) (drop (place + 1) rows)) ≡ whole
row_more fields rows place field row whole before after within is there row_is was put =
    let others = forms_of (drop (place + 1) fields) in
    let rest = drop (place + 1) rows in
    let cut : text_of_lines (setting_lines (forms_of (drop place fields)) (drop place rows))
    ≡ text_of_lines (row_lines (form_of field) 0 row) ++ text_of_lines (setting_lines others rest) =
    ap (λ (left : List CodeFieldShape). text_of_lines (setting_lines (forms_of left) (drop place rows)))
    (left_cut fields place field field within is)
    ∙ ap (λ (left : List (List ℤ)). text_of_lines (setting_lines (form_of field ∷ others) left))
    (left_cut rows place row row there row_is)
    ∙ lines_both (row_lines (form_of field) 0 row) (setting_lines others rest) in
    piece_more whole before (text_of_lines (row_lines (form_of field) 0 row))
    (text_of_lines (setting_lines (forms_of (drop place fields)) (drop place rows)))
    (text_of_lines (setting_lines others rest)) after was cut put

no_settings : (fields : List FieldForm) → setting_lines fields [] ≡ []
no_settings [] = refl
no_settings (field ∷ fields) = refl

-- nothing is left behind the end
pub drop_past : {X : Type 0} (xs : List X) (place : ℕ) → length xs ≤ place → drop place xs ≡ []
drop_past [] zero past = refl
drop_past [] (suc place) past = refl
drop_past (x ∷ xs) zero past = absurd (omega (arith, past))
drop_past (x ∷ xs) (suc place) past = drop_past xs place (omega (arith, past))

-- no row is left, or no field
pub rows_end : (fields : List CodeFieldShape) (rows : List (List ℤ)) (place : ℕ) (whole text : List ℕ) →
    length rows ≤ place →
    text ++ text_of_lines (setting_lines (forms_of (drop place fields)) (drop place rows)) ≡ whole → text ≡ whole
rows_end fields rows place whole text past was =
    let none : text_of_lines (setting_lines (forms_of (drop place fields)) (drop place rows)) ≡ [] =
    ap (λ (left : List (List ℤ)). text_of_lines (setting_lines (forms_of (drop place fields)) left))
    (drop_past rows place past)
    ∙ ap text_of_lines (no_settings (forms_of (drop place fields))) in
    sym (append-nil text) ∙ ap (λ (left : List ℕ). text ++ left) (sym none) ∙ was

pub fields_end : (fields : List CodeFieldShape) (rows : List (List ℤ)) (place : ℕ) (whole text : List ℕ) →
    length fields ≤ place →
    text ++ text_of_lines (setting_lines (forms_of (drop place fields)) (drop place rows)) ≡ whole → text ≡ whole
fields_end fields rows place whole text past was =
    let none : text_of_lines (setting_lines (forms_of (drop place fields)) (drop place rows)) ≡ [] =
    ap (λ (left : List CodeFieldShape). text_of_lines (setting_lines (forms_of left) (drop place rows)))
    (drop_past fields place past) in
    sym (append-nil text) ∙ ap (λ (left : List ℕ). text ++ left) (sym none) ∙ was

-- ---- events

pub event_more : (code : CodeShape) (events : List Event) (place : ℕ) (event : Event) (whole before after : List ℕ) →
    place < length events → event ≡ get_or events place event →
    before ++ text_of_lines (map (event_text code) (drop place events)) ≡ whole →
    after ≡ before ++ text_of_lines (event_text code event ∷ []) →
    after ++ text_of_lines (map (event_text code) (drop (place + 1) events)) ≡ whole
event_more code events place event whole before after within is was put =
    let rest = map (event_text code) (drop (place + 1) events) in
    let cut : text_of_lines (map (event_text code) (drop place events))
    ≡ text_of_lines (event_text code event ∷ []) ++ text_of_lines rest =
    ap (λ (left : List Event). text_of_lines (map (event_text code) left)) (left_cut events place event event within is)
    ∙ lines_both (event_text code event ∷ []) rest in
    piece_more whole before (text_of_lines (event_text code event ∷ []))
    (text_of_lines (map (event_text code) (drop place events))) (text_of_lines rest) after was cut put

-- ---- the whole

no_bad_lines : (number : ℕ) (hosts : List CodeHostShape) → bad_lines 0 number hosts ≡ []
no_bad_lines number [] = refl
no_bad_lines number (host ∷ hosts) =
    ap (λ (bit : ℕ). if bit == 1 then (codes "bad " ++ host.name) ∷ bad_lines 0 (number + 1) hosts
    else bad_lines 0 (number + 1) hosts) (bit_at-zero number)
    ∙ no_bad_lines (number + 1) hosts

pub script_put : (code : CodeShape) (start : List (List ℤ)) (events : List Event) (empty between text : List ℕ) →
    empty ≡ [] → between ≡ empty ++ text_of_lines (setting_lines (forms_of code.fields) start) →
    text ≡ between ++ text_of_lines (map (event_text code) events) → text ≡ script_text code 0 start events
script_put code start events empty between text none settings put =
    let front : front_lines code 0 start ≡ setting_lines (forms_of code.fields) start =
    ap (λ (bad : List (List ℕ)). bad ++ setting_lines (forms_of code.fields) start) (no_bad_lines 0 code.hosts) in
    put
    ∙ ap (λ (before : List ℕ). before ++ text_of_lines (map (event_text code) events))
    (settings ∙ ap (λ (nothing : List ℕ). nothing ++ text_of_lines (setting_lines (forms_of code.fields) start)) none)
    ∙ sym (lines_both (setting_lines (forms_of code.fields) start) (map (event_text code) events))
    ∙ ap (λ (lines : List (List ℕ)). text_of_lines (lines ++ map (event_text code) events)) (sym front)
