use Rattle.std.proofs.Common.{take}
use Rattle.msg_cost.specs.PieceViews.{piece_shape}
use Rattle.host_decl.specs.Hosts.{HostsShape}
use Rattle.need_labels.specs.Needs.{NeedsShape}
use Rattle.msg_cost.specs.Tables.{HasTable, RowsHaveTables}
use Rattle.msg_cost.specs.Rows.{AreNoted, rows_of}
use Rattle.msg_cost.proofs.index.note_all.Given as goal

-- it was added to the rows of the numbers so far, and their walks have tables
abbrev pub invariant-loop-number : goal.invariant-loop-number
invariant-loop-number l = record {
  noted : AreNoted l.turn (piece_shape l.piece) (take l.number-index l.numbers) (rows_of l.fn.rows.items)
      (rows_of l.rows.items) l.marks;
  tables : (needs : NeedsShape) (hosts : HostsShape) → HasTable needs hosts l.piece →
      RowsHaveTables needs hosts l.fn.rows.items → RowsHaveTables needs hosts l.rows.items;
}
