use Rattle.std.proofs.Common.{◌≡◌, ℕ, ◌<◌, ◌≤◌, length, take, get_or}
use Rattle.jif_tree.specs.Trees.{program_tree}
use Rattle.msg_cost.specs.PieceViews.{all_pieces}
use Rattle.host_decl.specs.Hosts.{HostsShape}
use Rattle.msg_cost.specs.Tables.{HaveTables, RowsHaveTables}
use Rattle.msg_cost.specs.Rows.{numbers_of, AreRows, rows_of}
use Rattle.msg_cost.proofs.index.fill_rows.Given as goal

-- the rows have the pieces so far, and their walks have tables
abbrev pub invariant-loop-place : goal.invariant-loop-place
invariant-loop-place l = record {
  rows : AreRows (numbers_of l.kind (program_tree l.program) l.needs) (all_pieces (take l.place l.pieces))
      (rows_of l.rows.items);
  long : length l.marks ≡ length (rows_of l.rows.items);
  many : length (rows_of l.rows.items) ≡ length (rows_of l.fn.rows.items);
  turns : (number : ℕ) → number < length l.marks → get_or l.marks number 0 ≤ l.place;
  tables : (hosts : HostsShape) → HaveTables l.needs hosts l.pieces →
      RowsHaveTables l.needs hosts l.fn.rows.items → RowsHaveTables l.needs hosts l.rows.items;
}
