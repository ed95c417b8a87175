use Rattle.std.proofs.Common.{◌≡◌, ◌++◌, drop}
use Rattle.host_stores.specs.Layout.{rows_at, AreOffsets}
use Rattle.host_stores.specs.Stores.{own_rows}
use Rattle.host_stores.proofs.rows.Rows.new.Given as goal

-- the rows so far, and then those of the fields that are left
abbrev pub invariant-loop-number : goal.invariant-loop-number
invariant-loop-number l =
    AreOffsets l.elements.items l.offsets.items
    × (rows_at l.elements.items l.offsets.items ++ own_rows l.me l.store l.number (drop l.number l.code.fields)
    ≡ own_rows l.me l.store 0 l.code.fields)
