-- The first variable is looked at, and then the others.
use Rattle.std.proofs.Common.{List, subst}
use Rattle.std.proofs.lemmas.List.{take_rest}
use Rattle.host_code.specs.Riders.{Rider, blank, names_of}
use Rattle.ignored_reasons.specs.Reasons.{PartHolds, IsFirstFalse, parts_riding}
use Rattle.ignored_reasons.proofs.FirstFalse.{untrue}
use Rattle.ignored_reasons.proofs.RidingParts.{first_false, behind_first}
use Rattle.ignored_reasons.proofs.reasons.+why_not_ride.Goals as goal

pub returns-then-sets_variable : goal.returns-then-sets_variable
returns-then-sets_variable t c = λ host taken.
    behind_first (PartHolds c.args.code.now host c.args.from taken) c.args.riders.now blank c.why_not_ride.result
    c.in-len1-up.len_at_least (c.sets_variable.ensures.0 c.if-sets_variable.true)
    (subst (λ (riders : List Rider). IsFirstFalse (PartHolds c.args.code.now host c.args.from taken)
    (parts_riding (names_of riders)) c.why_not_ride.result) (take_rest c.args.riders.now 1)
    (c.why_not_ride.ensures host taken))

pub returns-else-sets_variable : goal.returns-else-sets_variable
returns-else-sets_variable t c = λ host taken.
    first_false (PartHolds c.args.code.now host c.args.from taken) c.args.riders.now blank c.in-len1-up.len_at_least
    (untrue _ c.sets_variable.ensures c.if-sets_variable.false)
