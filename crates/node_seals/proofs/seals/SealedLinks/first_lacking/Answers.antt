use Rattle.std.proofs.Common.{◌∙◌, sym}
use Rattle.node_seals.specs.Seals.{links_shape}
use Rattle.node_seals.proofs.KeyLines.{goes_past}
use Rattle.node_seals.proofs.seals.SealedLinks.first_lacking.Goals as goal

pub loop-number-preserved : goal.loop-number-preserved
loop-number-preserved c =
    sym (goes_past (links_shape c.args.self.now) c.args.me c.loop-number.number c.args.count c.loop-number-test.true
    (sym c.if-lacks.ensures)) ∙ c.loop-number.invariant
