-- At most one list of events meets whole journals.
use Rattle.std.proofs.Common.{◌≡◌, ◌∙◌, ℕ, zero, suc, ◌+◌, inl, inr, List, [], ◌∷◌, ◌++◌, length, take}
use Rattle.std.proofs.Common.{refl, ap, sym, subst, arith, append-nil, ◌⊎◌, Some}
use Rattle.std.specs.Prelude.{map, slice_get, slice_index, unwrap_or, codes, ◌==◌, if◌then◌else◌}
use Rattle.std.proofs.Math.Seq.{take-length}
use Rattle.std.proofs.lemmas.Bool.{eq-eqb}
use Rattle.std.proofs.lemmas.List.{append_assoc, append_cancel_left, length-append}
use Rattle.js_base.specs.declared.ids.HostId.{HostId}
use Rattle.event_text.specs.declared.event.Event.{Event}
use Rattle.event_text.specs.declared.event.Event.TheVariants.{Take, Turn, Act}
use Rattle.event_text.specs.Words.{Word}
use Rattle.host_code.specs.Code.{CodeShape}
use Rattle.net_world.specs.World.{WorldShape}
use Rattle.event_text.specs.JournalText.{IsSendLine}
use Rattle.record_merge.specs.Meeting.{Journal, journal_at, MeetsAt, MeetsJournals}
use Rattle.record_merge.specs.Notes.{JournalNote, IsEventNoted, IsNotedRun, lines_at}
use Rattle.record_merge.specs.Single.{IsSingle}
use Rattle.record_merge.proofs.NotedRuns.{Beyond, either_begins}

-- ---- the lines of a host

pub lines_append : (host : HostId) (notes more : List JournalNote) →
    lines_at host (notes ++ more) ≡ lines_at host notes ++ lines_at host more
lines_append host [] more = refl
lines_append host (note ∷ notes) more =
    let own : Journal = if note.host.0 == host.0 then note.lines else [] in
    ap (λ (lines : Journal). own ++ lines) (lines_append host notes more)
    ∙ sym (append_assoc own (lines_at host notes) (lines_at host more))

pub own_lines : (note : JournalNote) (notes : List JournalNote) →
    lines_at note.host (note ∷ notes) ≡ note.lines ++ lines_at note.host notes
own_lines note notes = rw (eq-eqb note.host.0 note.host.0 refl) refl

-- a note begins with the line of a step, which is none of a message that is sent
pub record StepLine (note : JournalNote) : Type 0 where
  pub first : List Word
  pub others : Journal
  pub lines_are : note.lines ≡ first ∷ others
  pub step : ¬ IsSendLine first

turn_apart : ¬ (codes "turn" ≡ codes "send")
turn_apart same =
    let first : 116 ≡ 115 = ap (λ (word : List ℕ). slice_index word 0) same in
    absurd (omega (arith, first))

take_apart : ¬ (codes "take" ≡ codes "send")
take_apart same =
    let first : 116 ≡ 115 = ap (λ (word : List ℕ). slice_index word 0) same in
    absurd (omega (arith, first))

pub step_line : (code : CodeShape) (world after : WorldShape) (event : Event) (note : JournalNote) →
    IsEventNoted code world event after note → StepLine note
step_line code world after (Turn host) note noted = record {
  first = _;
  others = _;
  lines_are = ap (λ (n : JournalNote). n.lines) noted.1;
  step = turn_apart;
}
step_line code world after (Take from to place) note noted = record {
  first = _;
  others = _;
  lines_are = ap (λ (n : JournalNote). n.lines) noted.1;
  step = take_apart;
}
step_line code world after (Act from to made) note noted = absurd noted

-- the lines of a host after more events, of which the first is a step of it that is noted so
pub record OneMore (notes longer : List JournalNote) (note : JournalNote) : Type 0 where
  pub first : List Word
  pub rest : Journal
  pub lines_are : lines_at note.host longer ≡ lines_at note.host notes ++ first ∷ rest
  pub step : ¬ IsSendLine first
  pub noted : slice_get note.lines 0 ≡ Some first

pub one_more : (code : CodeShape) (world after : WorldShape) (event : Event) (note : JournalNote)
    (notes later longer : List JournalNote) → IsEventNoted code world event after note → longer ≡ notes
    ++ note ∷ later →
    OneMore notes longer note
one_more code world after event note notes later longer noted is =
    let line = step_line code world after event note noted in
    record {
      first = line.first;
      rest = line.others ++ lines_at note.host later;
      lines_are = ap (lines_at note.host) is ∙ lines_append note.host notes (note ∷ later)
          ∙ ap (λ (lines : Journal). lines_at note.host notes ++ lines)
          (own_lines note later ∙ ap (λ (lines : Journal). lines ++ lines_at note.host later) line.lines_are);
      step = line.step;
      noted = ap (λ (lines : Journal). slice_get lines 0) line.lines_are;
    }

-- ---- whole journals

pub whole_place : (journals : List Journal) (n : ℕ) →
    slice_index (map length journals) n ≡ length (unwrap_or (slice_get journals n) [])
whole_place [] n = refl
whole_place (journal ∷ journals) zero = refl
whole_place (journal ∷ journals) (suc n) = whole_place journals n

-- a whole journal, or it and the line of a message that was sent
IsWhole : Journal → Journal → Type 0
IsWhole own journal = (own ≡ journal) ⊎ ((sent : List Word) × IsSendLine sent × (own ≡ journal ++ sent ∷ []))

is_whole : (own journal : Journal) (place : ℕ) → place ≡ length journal → MeetsAt own journal place →
    IsWhole own journal
unfolding IsWhole
is_whole own journal place at (inl is) = inl (is ∙ ap (λ n. take n journal) at ∙ take-length journal)
is_whole own journal place at (inr (sent, sends, is)) =
    inr (
      sent,
      sends,
      is ∙ ap (λ (lines : Journal). lines ++ sent ∷ [])
          (ap (λ n. take n journal) at ∙ take-length journal),
    )

no_longer : (own longer journal : Journal) (first : List Word) (rest : Journal) → longer ≡ own ++ first ∷ rest →
    ¬ IsSendLine first → IsWhole own journal → IsWhole longer journal → ⊥
unfolding IsWhole
no_longer own longer journal first rest is step (inl one) (inl two) =
    let sizes : length longer ≡ length own + length (first ∷ rest) = ap length is ∙ length-append own (first ∷ rest) in
    let same : length longer ≡ length own = ap length (two ∙ sym one) in
    omega (arith, sizes, same)
no_longer own longer journal first rest is step (inl one) (inr (sent, sends, two)) =
    let both : own ++ first ∷ rest ≡ own ++ sent ∷ [] =
    sym is ∙ two ∙ ap (λ (lines : Journal). lines ++ sent ∷ []) (sym one) in
    let tails : first ∷ rest ≡ sent ∷ [] = append_cancel_left own (first ∷ rest) (sent ∷ []) both in
    let same : sent ≡ first = cc in
    step (subst IsSendLine same sends)
no_longer own longer journal first rest is step (inr (sent, sends, one)) (inl two) =
    let sizes : length longer ≡ length own + length (first ∷ rest) = ap length is ∙ length-append own (first ∷ rest) in
    let own_size : length own ≡ length journal + 1 = ap length one ∙ length-append journal (sent ∷ []) in
    let same : length longer ≡ length journal = ap length two in
    omega (arith, sizes, own_size, same)
no_longer own longer journal first rest is step (inr (sent, sends, one)) (inr (later, sending, two)) =
    let sizes : length longer ≡ length own + length (first ∷ rest) = ap length is ∙ length-append own (first ∷ rest) in
    let own_size : length own ≡ length journal + 1 = ap length one ∙ length-append journal (sent ∷ []) in
    let same : length longer ≡ length journal + 1 = ap length two ∙ length-append journal (later ∷ []) in
    omega (arith, sizes, own_size, same)

-- ---- one list

-- these notes have the lines of whole journals
AreWhole : List Journal → List JournalNote → Type 0
AreWhole journals notes = (host : HostId) → IsWhole (lines_at host notes) (journal_at journals host)

are_whole : (journals : List Journal) (notes : List JournalNote) →
    ((host : HostId) → MeetsAt (lines_at host notes) (journal_at journals host)
    (slice_index (map length journals) host.0)) → AreWhole journals notes
unfolding AreWhole
are_whole journals notes meets host =
    is_whole (lines_at host notes) (journal_at journals host) (slice_index (map length journals) host.0)
    (whole_place journals host.0) (meets host)

no_more : (code : CodeShape) (journals : List Journal) (last final : WorldShape) (more : List Event)
    (later notes longer : List JournalNote) → IsNotedRun code last more final later → longer ≡ notes ++ later →
    AreWhole journals notes → AreWhole journals longer → more ≡ []
unfolding AreWhole
no_more code journals last final [] later notes longer run is one two = refl
no_more code journals last final (event ∷ more) later notes longer (after, note, rest, noted, run, later_is) is one
    two =
    let beyond = one_more code last after event note notes rest longer noted
    (is ∙ ap (λ (ns : List JournalNote). notes ++ ns) later_is) in
    absurd (no_longer (lines_at note.host notes) (lines_at note.host longer) (journal_at journals note.host)
    beyond.first
    beyond.rest beyond.lines_are beyond.step (one note.host) (two note.host))

same_events : (code : CodeShape) (journals : List Journal) (events others : List Event) (last : WorldShape)
    (notes longer : List JournalNote) → Beyond code events others last notes longer → AreWhole journals notes →
    AreWhole journals longer → others ≡ events
same_events code journals events others last notes longer beyond one two =
    beyond.events_are ∙ ap (λ (es : List Event). events ++ es)
    (no_more code journals last beyond.final beyond.more beyond.later notes longer beyond.run beyond.notes_are one two)
    ∙ append-nil events

pub one_meeting : (code : CodeShape) (world : WorldShape) (journals : List Journal) (events others : List Event) →
    IsSingle world → MeetsJournals code world journals events → MeetsJournals code world journals others → events
    ≡ others
one_meeting code world journals events others single one two =
    let first = are_whole journals one.notes one.meets in
    let second = are_whole journals two.notes two.meets in
    elim (either_begins code world one.last two.last events others one.notes two.notes single one.run two.run) [
      | inl beyond ↦ sym (same_events code journals events others one.last one.notes two.notes beyond first second)
      | inr beyond ↦ same_events code journals others events two.last two.notes one.notes beyond second first
    ]
