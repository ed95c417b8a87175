-- Journals in the program, and how far they are met there.
use Rattle.std.specs.Prelude.{◌≡◌, ◌≢◌, ◌⊎◌, ◌+◌, ◌≤◌, ⊤, ℕ, Bool, true, false, List, [], ◌∷◌, ◌++◌, map, take}
use Rattle.std.specs.Prelude.{Option, Some, None, length, slice_get, slice_set, slice_index, unwrap_or, Vec}
use Rattle.std.specs.Global.{Global}
use Rattle.std.specs.Option.{option_map}
use Rattle.js_base.specs.declared.ids.HostId.{HostId}
use Rattle.event_text.specs.declared.event.Event.{Event}
use Rattle.event_text.specs.Lines.{LineShape, line_of, words}
use Rattle.event_text.specs.Words.{Word}
use Rattle.host_code.specs.Code.{CodeShape}
use Rattle.net_world.specs.Choice.{IsNextEvent}
use Rattle.net_world.specs.World.{WorldShape, mover}
use Rattle.event_text.specs.declared.lines.Line.{Line}
use Rattle.record_merge.specs.declared.journal.MergeError.{MergeError}
use Rattle.record_merge.specs.declared.journal.MergeError.TheVariants as error
use Rattle.event_text.specs.JournalText.{IsSendLine}
use Rattle.record_merge.specs.Meeting.{Journal, journal_at, IsLeftAt}
use Rattle.record_merge.specs.Notes.{JournalNote, IsNotedRun, lines_at}
use Rattle.record_merge.specs.Single.{IsSingle}
use Rattle.record_merge.specs.NextLines.{step_words, sent_next}

-- a line with its words
abbrev pub said_line : Line → LineShape
said_line line = line_of line.number line.bytes.now

-- a journal by its words
abbrev pub journal_of : List Line → Journal
journal_of lines = map (λ line. words line.bytes.now) lines

-- the next line of a host's journal, none where the journal was left or has ended
abbrev pub next_unless : Option Bool → Option (List Word) → Option (List Word)
next_unless (Some true) line = None
next_unless _ line = line

abbrev pub next_of : List Journal → List ℕ → List Bool → HostId → Option (List Word)
next_of journals places left host =
    next_unless (slice_get left host.0) (slice_get (journal_at journals host) (slice_index places host.0))

-- how many lines of all journals are met, where each is met up to its place
abbrev pub met : List ℕ → ℕ
met [] = 0
met (place ∷ places) = place + met places

-- how many lines journals have in all
abbrev pub lines_in : List Journal → ℕ
lines_in [] = 0
lines_in (journal ∷ journals) = length journal + lines_in journals

-- The event that comes next is one whose line is next in its host's journal; or no event comes next whose line is.
abbrev pub IsFitting : CodeShape → WorldShape → List Journal → List ℕ → List Bool → Option Event → Type 0
IsFitting code world journals places left (Some event) =
    IsNextEvent world (Some event)
    × (next_of journals places left (mover event) ≡ Some (step_words code world event))
IsFitting code world journals places left None =
    IsNextEvent world None
    ⊎ ((event : Event) × IsNextEvent world (Some event)
    × (next_of journals places left (mover event) ≢ Some (step_words code world event)))

-- How far a journal is met behind the line of a step, and whether it is left there: the line of what the step sent is
-- met where it is next, and otherwise the journal is left.
abbrev pub IsPassed : Journal → ℕ → List (List Word) → ℕ × Bool → Type 0
IsPassed journal place [] passed = passed ≡ (place + 1, false)
IsPassed journal place (sent ∷ others) passed =
    ((slice_get journal (place + 1) ≡ Some sent) × (passed ≡ (place + 2, false)))
    ⊎ ((slice_get journal (place + 1) ≢ Some sent) × (passed ≡ (place + 1, true)))

-- The lines of a host are those of its journal before its place. Where the journal is left there is one line more, that
-- of a message that was sent, which is not the journal's next line.
abbrev pub IsRead : Journal → Journal → ℕ → Option Bool → Type 0
IsRead own journal place None = own ≡ take place journal
IsRead own journal place (Some false) = own ≡ take place journal
IsRead own journal place (Some true) =
    (sent : List Word) × IsSendLine sent × (own ≡ take place journal ++ sent ∷ [])
    × (slice_get journal place ≢ Some sent)

-- events happened from a world on to the last, and journals are met by them up to their places, where some are left
pub record HasMerged (code : CodeShape) (world : WorldShape) (journals : List Journal) (events : List Event)
    (last : WorldShape) (places : List ℕ) (left : List Bool) : Type 0 where
  pub within : (host : HostId) → slice_index places host.0 ≤ length (journal_at journals host)
  pub notes : List JournalNote
  pub run : IsNotedRun code world events last notes
  pub read : (host : HostId) →
      IsRead (lines_at host notes) (journal_at journals host) (slice_index places host.0) (slice_get left host.0)
  pub single : IsSingle last
  pub places_count : length places ≡ length journals
  pub left_count : length left ≡ length journals

-- A host's journal is met behind the line of its step, and no other journal has changed.
pub record HasPassed (code : CodeShape) (after : WorldShape) (journals : List Journal) (host : HostId)
    (places : List ℕ) (left : List Bool) (places_after : List ℕ) (left_after : List Bool) : Type 0 where
  pub passed : ℕ × Bool
  pub next : Option Event
  pub comes : IsNextEvent after next
  pub passes : IsPassed (journal_at journals host) (slice_index places host.0) (sent_next code after next) passed
  pub places_are : places_after ≡ slice_set places host.0 passed.0
  pub left_are : left_after ≡ slice_set left host.0 passed.1

-- the journals of all hosts, by their words and with the numbers of their lines
abbrev pub all_of : List (Vec Line Global) → List Journal
all_of journals = map (λ journal. journal_of journal.items) journals

abbrev pub said_of : List (Vec Line Global) → List (List LineShape)
said_of journals = map (λ journal. map said_line journal.items) journals

-- why journals are not merged
abbrev pub IsNotMerged : CodeShape → WorldShape → List (Vec Line Global) → MergeError → Type 0
IsNotMerged code world journals error.OutOfMemory = ⊤
IsNotMerged code world journals (error.TooLong host) = ⊥
IsNotMerged code world journals (error.BadLine host number) = ⊥
IsNotMerged code world journals (error.NoMatch host number) = IsLeftAt code world (said_of journals) host number

-- the number of the line at a place of a host's journal
abbrev pub number_at : List (Vec Line Global) → HostId → ℕ → Option ℕ
number_at journals host place =
    option_map (λ (line : LineShape). line.number)
    (slice_get (unwrap_or (slice_get (said_of journals) host.0) []) place)
