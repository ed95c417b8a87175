use Rattle.std.proofs.Common.{◌≡◌, false, take}
use Rattle.std.specs.List.{list_any}
use Rattle.label_reasons.specs.Reasons.{may_tell}
use Rattle.label_reasons.proofs.listed_traits.may_tell.Given as goal

-- none so far passes
abbrev pub invariant-loop-member : goal.invariant-loop-member
invariant-loop-member l = list_any (may_tell l.principals l.owner l.reader) (take l.member-index l.authority) ≡ false
