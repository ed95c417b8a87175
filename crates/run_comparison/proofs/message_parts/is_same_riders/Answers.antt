use Rattle.std.proofs.lemmas.Slice.Eq.{slice_eq-Decides}
use Rattle.run_comparison.proofs.SameMessages.{rider_told}
use Rattle.run_comparison.proofs.message_parts.is_same_riders.Goals as goal

pub returns : goal.returns
returns c = slice_eq-Decides rider_told c.args.one.now c.args.other.now c.eq.result c.eq.ensures
