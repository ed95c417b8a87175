use Rattle.std.proofs.Common.{slice_index}
use Rattle.std.specs.Int.Bits.{or_zero_r}
use Rattle.control_split.proofs.methods.method_entry.Goals as goal

pub returns : goal.returns
returns c =
    rw (or_zero_r (slice_index c.args.split.now.needs.now.need c.args.method.now.head.0))
    (rw (c.host_of-home.ensures, c.need_of.ensures) at c.entry.ensures)
