-- Each field, each statement and each relay has a row.
use Rattle.std.proofs.Common.{◌≡◌, ◌<◌, ◌+◌, ℕ, suc, zero, List, [], ◌∷◌, ◌++◌, Some, length, map}
use Rattle.std.proofs.Common.{ap, ◌∙◌, arith}
use Rattle.std.specs.Prelude.{◌==◌, option_map, slice_get}
use Rattle.std.proofs.lemmas.Bool.{eq-eqb}
use Rattle.std.proofs.lemmas.Option.{slice_get-map}
use Rattle.host_code.specs.Code.{CodeFieldShape}
use Rattle.plan_ways.specs.declared.relays.Relay.{Relay}
use Rattle.statement_texts.specs.Texts.{StatementTextShape}
use Rattle.plan_picture.specs.Rows.{field_row, field_rows, relay_row, relays_behind, rows_of, statement_row}
use Rattle.plan_picture.specs.Rows.{statement_rows}
use Rattle.plan_picture.specs.Sheets.{SheetShape}
use Rattle.plan_picture.specs.declared.rows.Row.{Row}
use Rattle.plan_picture.proofs.LegendLaws.{stays_kept}

-- a row is there
abbrev pub IsThere : List Row → Row → Type 0
IsThere rows row = (place : ℕ) × (slice_get rows place ≡ Some row)

field_there : (sheet : SheetShape) (first i : ℕ) (fields : List CodeFieldShape) (rest : List Row)
    (field : CodeFieldShape) → slice_get fields i ≡ Some field →
    slice_get (field_rows sheet first fields ++ rest) i ≡ Some (field_row sheet (first + i))
field_there sheet first i [] rest field here = absurd (let no = here in cc)
field_there sheet first zero (other ∷ fields) rest field here =
    let same : first ≡ first + 0 = omega arith in ap (λ (n : ℕ). Some (field_row sheet n)) same
field_there sheet first (suc i) (other ∷ fields) rest field here =
    let same : first + 1 + i ≡ first + suc i = omega arith in
    field_there sheet (first + 1) i fields rest field here ∙ ap (λ (n : ℕ). Some (field_row sheet n)) same

pub own_field : (sheet : SheetShape) (number : ℕ) (field : CodeFieldShape) →
    slice_get sheet.code.fields number ≡ Some field →
    slice_get (rows_of sheet) number ≡ Some (field_row sheet number)
own_field sheet number field here =
    let same : 0 + number ≡ number = omega arith in
    field_there sheet 0 number sheet.code.fields (statement_rows sheet 0 sheet.texts) field here
    ∙ ap (λ (n : ℕ). Some (field_row sheet n)) same

-- what is there is there behind others too, and before others
behind : (front rows : List Row) (row : Row) → IsThere rows row → IsThere (front ++ rows) row
behind [] rows row there = there
behind (one ∷ front) rows row there = let more = behind front rows row there in (suc more.0, more.1)

before : (rows rest : List Row) (place : ℕ) (row : Row) → slice_get rows place ≡ Some row →
    slice_get (rows ++ rest) place ≡ Some row
before [] rest place row here = absurd (let no = here in cc)
before (one ∷ rows) rest zero row here = here
before (one ∷ rows) rest (suc place) row here = before rows rest place row here

statement_there : (sheet : SheetShape) (first i : ℕ) (texts : List StatementTextShape) (text : StatementTextShape) →
    slice_get texts i ≡ Some text →
    IsThere (statement_rows sheet first texts) (statement_row sheet (first + i) text)
statement_there sheet first i [] text here = absurd (let no = here in cc)
statement_there sheet first zero (other ∷ texts) text here =
    let is : Some other ≡ Some text = here in
    let same : other ≡ text = cc in
    let number : first ≡ first + 0 = omega arith in (
      0,
      ap (λ (one : StatementTextShape). Some (statement_row sheet first one)) same
          ∙ ap (λ (n : ℕ). Some (statement_row sheet n text)) number,
    )
statement_there sheet first (suc i) (other ∷ texts) text here =
    let more = statement_there sheet (first + 1) i texts text here in
    let same : first + 1 + i ≡ first + suc i = omega arith in
    let found = behind (map relay_row (relays_behind first sheet.relays)) (statement_rows sheet (first + 1) texts)
    (statement_row sheet (first + 1 + i) text) more in
    (suc found.0, found.1 ∙ ap (λ (n : ℕ). Some (statement_row sheet n text)) same)

pub own_statement : (sheet : SheetShape) (number : ℕ) (text : StatementTextShape) →
    slice_get sheet.texts number ≡ Some text → IsThere (rows_of sheet) (statement_row sheet number text)
own_statement sheet number text here =
    let same : 0 + number ≡ number = omega arith in
    let found = behind (field_rows sheet 0 sheet.code.fields) (statement_rows sheet 0 sheet.texts)
    (statement_row sheet (0 + number) text) (statement_there sheet 0 number sheet.texts text here) in
    (found.0, found.1 ∙ ap (λ (n : ℕ). Some (statement_row sheet n text)) same)

relay_there : (sheet : SheetShape) (first i : ℕ) (texts : List StatementTextShape) (relay : Relay) (k : ℕ) →
    slice_get sheet.relays k ≡ Some relay → relay.behind ≡ first + i → i < length texts →
    IsThere (statement_rows sheet first texts) (relay_row relay)
relay_there sheet first i [] relay k here at within = absurd (omega (arith, within))
relay_there sheet first zero (text ∷ texts) relay k here at within =
    let number : relay.behind ≡ first = omega (arith, at) in
    let kept = stays_kept (λ (one : Relay). one.behind == first) sheet.relays k relay here
    (eq-eqb relay.behind first number) in
    let shown : slice_get (map relay_row (relays_behind first sheet.relays)) kept.0 ≡ Some (relay_row relay) =
    slice_get-map relay_row (relays_behind first sheet.relays) kept.0 ∙ ap (option_map relay_row) kept.1 in (
      suc kept.0,
      before (map relay_row (relays_behind first sheet.relays)) (statement_rows sheet (first + 1) texts) kept.0
          (relay_row relay) shown,
    )
relay_there sheet first (suc i) (text ∷ texts) relay k here at within =
    let more = relay_there sheet (first + 1) i texts relay k here (at ∙ omega arith) (omega (arith, within)) in
    let found = behind (map relay_row (relays_behind first sheet.relays)) (statement_rows sheet (first + 1) texts)
    (relay_row relay) more in
    (suc found.0, found.1)

pub own_relay : (sheet : SheetShape) (relay : Relay) (k : ℕ) → slice_get sheet.relays k ≡ Some relay →
    relay.behind < length sheet.texts → IsThere (rows_of sheet) (relay_row relay)
own_relay sheet relay k here within =
    behind (field_rows sheet 0 sheet.code.fields) (statement_rows sheet 0 sheet.texts) (relay_row relay)
    (relay_there sheet 0 relay.behind sheet.texts relay k here (omega arith) within)
