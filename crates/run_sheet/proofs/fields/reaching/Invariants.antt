use Rattle.std.proofs.Common.{◌≡◌, take}
use Rattle.run_sheet.specs.FieldMarks.{reaching}
use Rattle.run_sheet.proofs.fields.reaching.Given as goal

-- those of the hosts so far
abbrev pub invariant-loop-host : goal.invariant-loop-host
invariant-loop-host l = l.affecting.items ≡ reaching l.code l.field (take l.host-index l.bad)
