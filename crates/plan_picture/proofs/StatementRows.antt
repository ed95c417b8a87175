-- The rows of one more statement.
use Rattle.std.proofs.Common.{◌≡◌, ℕ, ◌+◌, ◌<◌, List, [], ◌∷◌, ◌++◌, length, get_or, drop, map, ap, sym, ◌∙◌}
use Rattle.plan_ways.specs.declared.relays.Relay.{Relay}
use Rattle.statement_texts.specs.Texts.{statement_text_shape}
use Rattle.statement_texts.specs.declared.texts.StatementText.{StatementText}
use Rattle.plan_picture.specs.Rows.{relay_row, relays_behind, statement_row, statement_rows}
use Rattle.plan_picture.specs.Sheets.{SheetShape}
use Rattle.plan_picture.specs.declared.rows.Row.{Row}
use Rattle.plan_picture.proofs.Walks.{left_cut, written}

pub statement_written : (sheet : SheetShape) (texts : List StatementText) (i : ℕ) (d x : StatementText) (row : Row)
    (relays : List Relay) (whole before between after : List Row) → i < length texts → x ≡ get_or texts i d →
    row ≡ statement_row sheet i (statement_text_shape x) → relays ≡ relays_behind i sheet.relays →
    between ≡ before ++ row ∷ [] → after ≡ between ++ map relay_row relays →
    before ++ statement_rows sheet i (map statement_text_shape (drop i texts)) ≡ whole →
    after ++ statement_rows sheet (i + 1) (map statement_text_shape (drop (i + 1) texts)) ≡ whole
statement_written sheet texts i d x row relays whole before between after lt is row_is relays_are one all was =
    let left = statement_rows sheet (i + 1) (map statement_text_shape (drop (i + 1) texts)) in
    let cut = ap (λ (rest : List StatementText). statement_rows sheet i (map statement_text_shape rest))
    (left_cut texts i d x lt is) in
    let opened : statement_rows sheet i (map statement_text_shape (drop i texts))
    ≡ row ∷ (map relay_row relays ++ left) =
    cut
    ∙ ap (λ (first : Row). first ∷ (map relay_row (relays_behind i sheet.relays) ++ left)) (sym row_is)
    ∙ ap (λ (behind : List Relay). row ∷ (map relay_row behind ++ left)) (sym relays_are) in
    let first = written whole before (row ∷ []) (map relay_row relays ++ left) between
    (ap (λ (rest : List Row). before ++ rest) (sym opened) ∙ was) one in
    written whole between (map relay_row relays) left after first all
