use Rattle.std.proofs.lemmas.Bool.Decides.{same_from_decides}
use Rattle.msg_cost.specs.Moves.{is_trusted_by}
use Rattle.msg_cost.proofs.Trusted.{test_decides}
use Rattle.msg_cost.proofs.trust.is_trusted_by.Goals as goal

pub returns : goal.returns
returns c =
    same_from_decides _ (is_trusted_by c.args.label.now c.args.need) c.is_trusted_by.ensures
    (test_decides c.args.label.now c.args.need)
