-- The lists of events that meet the journals of all hosts, and why there is none.
--
-- A journal is the list of its lines that tell of a turn, a take or a send, each by its words. There is one for each
-- host, in order. A host may have been stopped behind a step and before the line of what the step sent, so the last
-- such line may be missing.
use Rattle.std.specs.Prelude.{◌≡◌, ◌≢◌, ◌⊎◌, ◌≤◌, ◌<◌, ℕ, List, [], ◌∷◌, ◌++◌, length, map, take, slice_get}
use Rattle.std.specs.Prelude.{slice_index, unwrap_or, IsSomeAnd, Some}
use Rattle.js_base.specs.declared.ids.HostId.{HostId}
use Rattle.event_text.specs.declared.event.Event.{Event}
use Rattle.event_text.specs.Lines.{LineShape}
use Rattle.event_text.specs.Words.{Word}
use Rattle.host_code.specs.Code.{CodeShape}
use Rattle.net_world.specs.World.{WorldShape}
use Rattle.event_text.specs.JournalText.{IsSendLine}
use Rattle.record_merge.specs.Notes.{JournalNote, IsEventNoted, IsNotedRun, lines_at}

-- the lines of a journal, by their words
abbrev pub Journal : Type 0
Journal = List (List Word)

-- the journal of a host, empty where there is none
abbrev pub journal_at : List Journal → HostId → Journal
journal_at journals host = unwrap_or (slice_get journals host.0) []

-- these are the lines of a journal before a place, or these and the line of one message that was sent
abbrev pub MeetsAt : Journal → Journal → ℕ → Type 0
MeetsAt own journal place =
    (own ≡ take place journal)
    ⊎ ((sent : List Word) × IsSendLine sent × (own ≡ take place journal ++ sent ∷ []))

-- Events happen from a world on, and the lines of each host are those of its journal before its place. For each host
-- its place is the number of its lines that are met.
pub record MeetsUpTo (code : CodeShape) (world : WorldShape) (journals : List Journal) (places : List ℕ)
    (events : List Event) : Type 0 where
  pub within : (host : HostId) → slice_index places host.0 ≤ length (journal_at journals host)
  pub last : WorldShape
  pub notes : List JournalNote
  pub run : IsNotedRun code world events last notes
  pub meets : (host : HostId) →
      MeetsAt (lines_at host notes) (journal_at journals host) (slice_index places host.0)

-- whole journals are met
abbrev pub MeetsJournals : CodeShape → WorldShape → List Journal → List Event → Type 0
MeetsJournals code world journals events = MeetsUpTo code world journals (map length journals) events

-- it is the first journal that is left before its end
pub record IsFirstLeft (journals : List Journal) (places : List ℕ) (host : HostId) : Type 0 where
  pub left : slice_index places host.0 < length (journal_at journals host)
  pub first : (earlier : HostId) → earlier.0 < host.0 →
      length (journal_at journals earlier) ≤ slice_index places earlier.0

-- the words of the lines of all journals
abbrev pub words_in : List (List LineShape) → List Journal
words_in said = map (λ lines. map (λ line. line.words) lines) said

-- Some list meets the journals up to places, and no list comes further in any journal. The first journal that is left
-- before its end is that of the host, at the line with the number.
pub record IsLeftAt (code : CodeShape) (world : WorldShape) (said : List (List LineShape)) (host : HostId)
    (number : ℕ) : Type 0 where
  pub events : List Event
  pub places : List ℕ
  pub meets : MeetsUpTo code world (words_in said) places events
  pub first : IsFirstLeft (words_in said) places host
  pub line : IsSomeAnd (slice_get (unwrap_or (slice_get said host.0) []) (slice_index places host.0))
      (λ line. line.number ≡ number)
  pub furthest : (others : List Event) (reached : List ℕ) → MeetsUpTo code world (words_in said) reached others →
      (other : HostId) → slice_index reached other.0 ≤ slice_index places other.0

-- ---- how a search ends

-- These are the lines of a journal before a place, or these and the line of a message that was sent, which is not the
-- next line of the journal.
abbrev pub IsKeptBefore : Journal → Journal → ℕ → Type 0
IsKeptBefore own journal place =
    (own ≡ take place journal)
    ⊎ ((sent : List Word) × IsSendLine sent × (own ≡ take place journal ++ sent ∷ [])
    × (slice_get journal place ≢ Some sent))

-- Events happen from a world on, the lines of each host are those of its journal before its place, and no event comes
-- next whose line is the next line of its host's journal.
pub record IsMetToEnd (code : CodeShape) (world : WorldShape) (journals : List Journal) (places : List ℕ)
    (events : List Event) : Type 0 where
  pub within : (host : HostId) → slice_index places host.0 ≤ length (journal_at journals host)
  pub last : WorldShape
  pub notes : List JournalNote
  pub run : IsNotedRun code world events last notes
  pub kept : (host : HostId) → IsKeptBefore (lines_at host notes) (journal_at journals host) (slice_index places host.0)
  pub ends : (event : Event) (after : WorldShape) (note : JournalNote) → IsEventNoted code last event after note →
      lines_at note.host notes ≡ take (slice_index places note.host.0) (journal_at journals note.host) →
      slice_get (journal_at journals note.host) (slice_index places note.host.0) ≢ slice_get note.lines 0
