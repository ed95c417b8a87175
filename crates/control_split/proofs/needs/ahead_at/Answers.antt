use Rattle.control_split.specs.Views.{planned_in}
use Rattle.control_split.proofs.AheadOf.{is_ahead}
use Rattle.control_split.proofs.needs.ahead_at.Goals as goal

pub returns : goal.returns
returns c = λ statement others here.
    is_ahead (planned_in c.args.split.now) c.args.block.now c.args.needs.now c.args.place _ statement others
    c.requires.within c.requires.needs here
