use Rattle.std.proofs.Common.{◌≡◌, false, take}
use Rattle.std.specs.List.{list_any}
use Rattle.label_reasons.specs.Listed.{acts_for}
use Rattle.label_reasons.proofs.listed_traits.is_acted_for.Given as goal

-- none so far passes
abbrev pub invariant-loop-member : goal.invariant-loop-member
invariant-loop-member l = list_any (λ member. acts_for l.principals member.0 l.principal) (take l.member-index l.authority) ≡ false
