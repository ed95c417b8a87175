-- Which rows of a picture show which fields and statements.
use Rattle.std.proofs.Common.{◌≡◌, ℕ, suc, ◌+◌, List, [], ◌∷◌, ◌++◌, length, map, Option, Some, None, refl, sym, ap}
use Rattle.std.proofs.Common.{◌∙◌, append-nil}
use Rattle.std.specs.List.{filter_map, range_with_len}
use Rattle.std.proofs.lemmas.List.Elements.{filter_map-append}
use Rattle.host_code.specs.Code.{CodeFieldShape}
use Rattle.statement_texts.specs.Texts.{StatementTextShape}
use Rattle.plan_ways.specs.declared.relays.Relay.{Relay}
use Rattle.plan_picture.specs.Rows.{field_rows, relay_row, relays_behind, rows_of, statement_rows}
use Rattle.plan_picture.specs.Sheets.{SheetShape}
use Rattle.plan_picture.specs.declared.rows.Row.{Row}
use Rattle.jifpicture.specs.Standing.{field_in, statement_in}

-- what a test of relays finds, where it finds none
none_of_relays : (shown : Row → Option ℕ) → ((relay : Relay) → shown (relay_row relay) ≡ None) →
    (relays : List Relay) → filter_map shown (map relay_row relays) ≡ []
none_of_relays shown none [] = refl
none_of_relays shown none (relay ∷ relays) = rw (none relay) (none_of_relays shown none relays)

fields_of_fields : (sheet : SheetShape) (number : ℕ) (fields : List CodeFieldShape) →
    filter_map field_in (field_rows sheet number fields) ≡ range_with_len number (length fields)
fields_of_fields sheet number [] = refl
fields_of_fields sheet number (field ∷ fields) =
    ap (λ (numbers : List ℕ). number ∷ numbers) (fields_of_fields sheet (number + 1) fields)

statements_of_fields : (sheet : SheetShape) (number : ℕ) (fields : List CodeFieldShape) →
    filter_map statement_in (field_rows sheet number fields) ≡ []
statements_of_fields sheet number [] = refl
statements_of_fields sheet number (field ∷ fields) = statements_of_fields sheet (number + 1) fields

fields_of_statements : (sheet : SheetShape) (number : ℕ) (texts : List StatementTextShape) →
    filter_map field_in (statement_rows sheet number texts) ≡ []
fields_of_statements sheet number [] = refl
fields_of_statements sheet number (text ∷ texts) =
    let relays = map relay_row (relays_behind number sheet.relays) in
    filter_map-append field_in relays (statement_rows sheet (number + 1) texts)
    ∙ ap (λ (front : List ℕ). front ++ filter_map field_in (statement_rows sheet (number + 1) texts))
    (none_of_relays field_in (λ relay. refl) (relays_behind number sheet.relays))
    ∙ fields_of_statements sheet (number + 1) texts

statements_of_statements : (sheet : SheetShape) (number : ℕ) (texts : List StatementTextShape) →
    filter_map statement_in (statement_rows sheet number texts) ≡ range_with_len number (length texts)
statements_of_statements sheet number [] = refl
statements_of_statements sheet number (text ∷ texts) =
    let relays = map relay_row (relays_behind number sheet.relays) in
    ap (λ (numbers : List ℕ). number ∷ numbers)
    (filter_map-append statement_in relays (statement_rows sheet (number + 1) texts)
    ∙ ap (λ (front : List ℕ). front ++ filter_map statement_in (statement_rows sheet (number + 1) texts))
    (none_of_relays statement_in (λ relay. refl) (relays_behind number sheet.relays))
    ∙ statements_of_statements sheet (number + 1) texts)

pub each_field : (sheet : SheetShape) →
    filter_map field_in (rows_of sheet) ≡ range_with_len 0 (length sheet.code.fields)
each_field sheet =
    filter_map-append field_in (field_rows sheet 0 sheet.code.fields) (statement_rows sheet 0 sheet.texts)
    ∙ ap (λ (rest : List ℕ). filter_map field_in (field_rows sheet 0 sheet.code.fields) ++ rest)
    (fields_of_statements sheet 0 sheet.texts)
    ∙ append-nil (filter_map field_in (field_rows sheet 0 sheet.code.fields))
    ∙ fields_of_fields sheet 0 sheet.code.fields

pub each_statement : (sheet : SheetShape) →
    filter_map statement_in (rows_of sheet) ≡ range_with_len 0 (length sheet.texts)
each_statement sheet =
    filter_map-append statement_in (field_rows sheet 0 sheet.code.fields) (statement_rows sheet 0 sheet.texts)
    ∙ ap (λ (front : List ℕ). front ++ filter_map statement_in (statement_rows sheet 0 sheet.texts))
    (statements_of_fields sheet 0 sheet.code.fields)
    ∙ statements_of_statements sheet 0 sheet.texts
