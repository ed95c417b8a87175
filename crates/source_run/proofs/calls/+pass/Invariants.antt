use Rattle.std.proofs.Common.{length}
use Rattle.source_run.proofs.calls.+pass.Given as goal

abbrev pub decreases-pass : goal.decreases-pass
decreases-pass l = length l.params.now
