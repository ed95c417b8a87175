use Rattle.std.proofs.Common.{◌≡◌, take}
use Rattle.place_reasons.specs.Firsts.{or_first, first_some}
use Rattle.place_reasons.specs.Reasons.{member_backed}
use Rattle.place_reasons.proofs.backed.members_backed.Given as goal

-- what was found is what there was, and otherwise the first of the members so far
abbrev pub invariant-loop-member : goal.invariant-loop-member
invariant-loop-member l =
    l.found ≡ or_first l.fn.found (first_some (member_backed l.site.principals.now l.principal l.here)
    (take l.member-index l.site.method.now.authority.items))
