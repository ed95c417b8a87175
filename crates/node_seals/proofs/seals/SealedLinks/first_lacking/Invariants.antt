use Rattle.std.proofs.Common.{◌≡◌, ◌-◌}
use Rattle.node_seals.specs.Seals.{links_shape}
use Rattle.node_seals.specs.SealsFile.{first_lacking}
use Rattle.node_seals.proofs.seals.SealedLinks.first_lacking.Given as goal

-- the first of those that are left is the first of all
abbrev pub invariant-loop-number : goal.invariant-loop-number
invariant-loop-number l =
    first_lacking (links_shape l.self) l.me l.number (l.count - l.number)
    ≡ first_lacking (links_shape l.self) l.me 0 l.count
