use Rattle.std.proofs.Common.{arith, refl}
use Rattle.need_labels.proofs.FoundRows.{enclosed, enclosed_within}
use Rattle.need_labels.proofs.statements.enclose.Goals as goal

pub returns-then-at-len : goal.returns-then-at-len
returns-then-at-len c principals labelled start first one nested is adds also =
    enclosed start first c.args.found.now _ one nested c.args.own c.args.inside c.meet_integrity-backing.result
    c.args.at _ is
    refl refl refl (λ parts backed. c.need_of.ensures principals parts backed) c.meet_integrity-backing.ensures.sets
    adds also

pub returns-else-at-len : goal.returns-else-at-len
returns-else-at-len c principals labelled start first one nested is adds also =
    enclosed_within start first c.args.found.now one nested c.args.own c.args.inside c.meet_integrity-backing.result
    c.args.at is (omega arith) c.meet_integrity-backing.ensures.sets adds also
