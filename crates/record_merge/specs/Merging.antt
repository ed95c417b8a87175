-- The list of events that the bytes of journals are merged into, and why there is none. There is one journal for each
-- host, in order.
use Rattle.std.specs.Prelude.{◌≡◌, ⊤, ℕ, List, map, Some, None}
use Rattle.event_text.specs.declared.event.Event.{Event}
use Rattle.host_code.specs.Code.{CodeShape}
use Rattle.net_world.specs.World.{WorldShape}
use Rattle.record_merge.specs.declared.journal.MergeError.{MergeError}
use Rattle.record_merge.specs.declared.journal.MergeError.TheVariants as error
use Rattle.record_merge.specs.Journals.{too_long, bad_line, first_fault, journal_lines}
use Rattle.record_merge.specs.Meeting.{MeetsJournals, IsLeftAt, words_in}

-- each journal is read, and events meet them
abbrev pub IsMerged : CodeShape → WorldShape → List (List ℕ) → List Event → Type 0
IsMerged code world journals events =
    (first_fault code 0 journals ≡ None) × MeetsJournals code world (words_in (map journal_lines journals)) events

-- The first journal that is not read is that of the host. Where all are read, no list of events meets them.
abbrev pub IsMergeRefusedFor : CodeShape → WorldShape → List (List ℕ) → MergeError → Type 0
IsMergeRefusedFor code world journals error.OutOfMemory = ⊤
IsMergeRefusedFor code world journals (error.TooLong host) = first_fault code 0 journals ≡ Some (host.0, too_long)
IsMergeRefusedFor code world journals (error.BadLine host number) =
    first_fault code 0 journals ≡ Some (host.0, bad_line number)
IsMergeRefusedFor code world journals (error.NoMatch host number) =
    (first_fault code 0 journals ≡ None) × IsLeftAt code world (map journal_lines journals) host number
