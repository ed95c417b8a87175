use Rattle.std.proofs.Common.{◌≡◌, ◌≤◌, ◌+◌, ◌*◌, ◌++◌, drop}
use Rattle.drawing_text.specs.Spans.{past_all, starts_from}
use Rattle.drawing_text.proofs.spans.starts_of.Given as goal

-- those found and those that are left make the whole, and each is short
abbrev pub invariant-loop-span : goal.invariant-loop-span
invariant-loop-span l = record {
  starts : l.starts.items ++ starts_from l.past (drop l.span-index l.spans) ≡ starts_from l.fn.from l.spans;
  past : past_all l.past (drop l.span-index l.spans) ≡ past_all l.fn.from l.spans;
  short : l.past ≤ l.fn.from + 196605 * l.span-index;
}
