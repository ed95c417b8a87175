-- The entry is looked at first, and then what rides.
use Rattle.std.proofs.Common.{Option, subst}
use Rattle.host_code.specs.Riders.{names_of}
use Rattle.ignored_reasons.specs.declared.why.Why.{Why}
use Rattle.ignored_reasons.specs.Reasons.{PartHolds, IsFirstFalse, parts_at, parts_riding}
use Rattle.ignored_reasons.proofs.FirstFalse.{in_front, behind_all}
use Rattle.ignored_reasons.proofs.reasons.why_not_enter_with.Goals as goal

pub returns-in-Some : goal.returns-in-Some
returns-in-Some c = λ host taken here.
    in_front (PartHolds c.args.code.now host c.args.from taken) (parts_at c.args.entry)
    (parts_riding (names_of c.args.riders.now)) c.in-Some.why
    (subst (λ (found : Option Why). IsFirstFalse (PartHolds c.args.code.now host c.args.from taken)
    (parts_at c.args.entry)
    found) c.in-Some.is (c.why_not_enter.ensures host taken here))

pub returns-in-None : goal.returns-in-None
returns-in-None c = λ host taken here.
    behind_all (PartHolds c.args.code.now host c.args.from taken) (parts_at c.args.entry)
    (parts_riding (names_of c.args.riders.now)) c.why_not_ride.result
    (subst (λ (found : Option Why). IsFirstFalse (PartHolds c.args.code.now host c.args.from taken)
    (parts_at c.args.entry)
    found) c.in-None.is (c.why_not_enter.ensures host taken here))
    (c.why_not_ride.ensures host taken)
