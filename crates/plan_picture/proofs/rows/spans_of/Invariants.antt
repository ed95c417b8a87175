use Rattle.std.proofs.Common.{◌≡◌, ◌++◌, drop, map}
use Rattle.plan_picture.specs.Rows.{span_of, spans_of}
use Rattle.plan_picture.proofs.rows.spans_of.Given as goal

abbrev pub invariant-loop-row : goal.invariant-loop-row
invariant-loop-row l = l.spans.items ++ map span_of (drop l.row-index l.rows) ≡ spans_of l.rows
