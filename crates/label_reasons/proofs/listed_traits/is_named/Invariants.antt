use Rattle.std.proofs.Common.{◌≡◌, ◌==◌, false, take}
use Rattle.std.specs.List.{list_any}
use Rattle.label_reasons.proofs.listed_traits.is_named.Given as goal

-- none so far passes
abbrev pub invariant-loop-member : goal.invariant-loop-member
invariant-loop-member l = list_any (λ member. member.0 == l.principal) (take l.member-index l.authority) ≡ false
