use Rattle.std.proofs.Common.{◌≤◌, ◌<◌, length}
use Rattle.std.specs.Prelude.{slice_index}
use Rattle.js_base.specs.declared.ids.HostId.{HostId}
use Rattle.record_merge.specs.JournalLines.{all_of}
use Rattle.record_merge.specs.Meeting.{journal_at}
use Rattle.record_merge.proofs.one_list.first_left.Given as goal

-- the journals of the hosts so far have ended
abbrev pub invariant-loop-number : goal.invariant-loop-number
invariant-loop-number l =
    (host : HostId) → host.0 < l.number →
    length (journal_at (all_of l.journals) host) ≤ slice_index l.places host.0
