use Rattle.std.proofs.Common.{List, ◌∙◌, ap, length}
use Rattle.plan_ways.specs.declared.relays.Relay.{Relay}
use Rattle.plan_picture.specs.Behind.{relays_at}
use Rattle.plan_picture.specs.Sheets.{sheet_shape}
use Rattle.plan_picture.proofs.Sorted.{sorted}
use Rattle.plan_picture.proofs.StatementRows.{statement_written}
use Rattle.plan_picture.proofs.rows.push_statement_rows.Goals as goal

pub loop-number-preserved : goal.loop-number-preserved
loop-number-preserved c =
    let sheet = c.args.sheet.now in
    let n = c.loop-number.number in
    statement_written (sheet_shape sheet) sheet.texts.now n _ c.text-item.result _ _ _ c.loop-number.rows.items _ _
    c.loop-number-test.true c.text-item.is
    (rw c.in_ok-number_of.ensures at c.in_ok-statement_row.ensures)
    (c.relays_at.ensures
    ∙ ap (λ (all : List (List Relay)). relays_at all n) (c.deref.ensures.value ∙ c.in_ok-relays.ensures)
    ∙ sorted (length sheet.texts.now) sheet.ways.now.relays.items n c.loop-number-test.true)
    c.in_ok-push.ensures.items
    c.in_ok-push_relays.ensures c.loop-number.invariant
