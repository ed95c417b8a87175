use Rattle.std.proofs.Common.{◌≡◌, ◌++◌, drop, length, map}
use Rattle.plan_layout.specs.Columns.{spans_from}
use Rattle.plan_layout.specs.Strips.{strip_shape}
use Rattle.plan_layout.proofs.columns.spans_of.Given as goal

-- the columns so far, and those that are left, are all of them
abbrev pub invariant-loop-number : goal.invariant-loop-number
invariant-loop-number l = record {
  made : l.spans.items ++ spans_from (map strip_shape l.strips) (length l.widths) l.number (drop l.number l.widths)
      ≡ spans_from (map strip_shape l.strips) (length l.widths) 0 l.widths;
  counted : length l.spans.items ≡ l.number;
}
