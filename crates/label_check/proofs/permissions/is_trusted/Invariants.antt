use Rattle.std.proofs.Common.{take}
use Rattle.std.specs.Prelude.{All}
use Rattle.label_lattice.specs.Label.{Trusts}
use Rattle.label_check.proofs.permissions.is_trusted.Given as goal

-- those so far trust it
abbrev pub invariant-loop-member : goal.invariant-loop-member
invariant-loop-member l = All (λ member. Trusts l.label member.0) (take l.member-index l.authority)
