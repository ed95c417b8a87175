use Rattle.std.proofs.Common.{◌≡◌, ◌+◌, ◌*◌, length}
use Rattle.host_code.specs.Code.{part_of}
use Rattle.part_verify.proofs.Walks.{IsWalk, open_places}
use Rattle.part_verify.proofs.weak.weak_at.Given as goal

-- the walk so far
abbrev pub invariant-loop-place : goal.invariant-loop-place
invariant-loop-place l =
    (length l.bound.items ≡ length (part_of l.code l.fn.me))
    × IsWalk l.code l.fn.me l.at l.need l.bound.items l.work.items l.least

-- a visit closes a place and pushes two at most
abbrev pub decreases-loop-place : goal.decreases-loop-place
decreases-loop-place l = 3 * open_places l.need l.bound.items + length l.work.items
