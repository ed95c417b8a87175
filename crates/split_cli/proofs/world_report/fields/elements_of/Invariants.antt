use Rattle.std.proofs.Common.{◌≡◌}
use Rattle.host_core.specs.Host.{state_of}
use Rattle.split_cli.specs.WorldReport.{elements_of}
use Rattle.split_cli.proofs.world_report.fields.elements_of.Given as goal

-- the elements so far
abbrev pub invariant-loop-index : goal.invariant-loop-index
invariant-loop-index l = l.row.items ≡ elements_of (state_of l.host) l.field.0 l.index
