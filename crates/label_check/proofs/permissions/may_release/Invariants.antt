use Rattle.std.proofs.Common.{take}
use Rattle.label_check.proofs.Releases.{Allows}
use Rattle.label_check.proofs.permissions.may_release.Given as goal

-- the policies of those so far are added
abbrev pub invariant-loop-member : goal.invariant-loop-member
invariant-loop-member l = Allows l.principals (take l.member-index l.authority) l.fn.to l.allowed
