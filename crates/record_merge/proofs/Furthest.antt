-- Where no event comes next whose line is the next line of its host's journal, no list comes further.
use Rattle.std.proofs.Common.{◌≡◌, ◌≢◌, ◌∙◌, ℕ, zero, suc, ◌+◌, ◌≤◌, ◌<◌, inl, inr, List, [], ◌∷◌, ◌++◌, length, take}
use Rattle.std.proofs.Common.{Some, refl, ap, sym, subst, arith, append-nil}
use Rattle.std.specs.Prelude.{slice_get, slice_index}
use Rattle.std.proofs.lemmas.Bool.Decides.{leb_tells}
use Rattle.std.proofs.lemmas.List.{append_assoc, append_cancel_left, length-append, length-take-le}
use Rattle.js_base.specs.declared.ids.HostId.{HostId}
use Rattle.event_text.specs.declared.event.Event.{Event}
use Rattle.event_text.specs.Words.{Word}
use Rattle.host_code.specs.Code.{CodeShape}
use Rattle.net_world.specs.World.{WorldShape}
use Rattle.event_text.specs.JournalText.{IsSendLine}
use Rattle.record_merge.specs.Meeting.{Journal, journal_at, MeetsAt, MeetsUpTo, IsKeptBefore, IsMetToEnd}
use Rattle.record_merge.specs.Notes.{JournalNote, IsNotedRun, lines_at}
use Rattle.record_merge.specs.Single.{IsSingle}
use Rattle.record_merge.proofs.NotedRuns.{Beyond, either_begins}
use Rattle.record_merge.proofs.OneMeeting.{lines_append, one_more}

-- ---- journals up to a place

-- a journal that is met beyond a place has there what is met
at_place : (journal : Journal) (reached place : ℕ) (end : Journal) (line : List Word) (more : Journal) →
    place < reached → reached ≤ length journal → take reached journal ++ end ≡ take place journal ++ line ∷ more →
    slice_get journal place ≡ Some line
at_place [] reached place end line more beyond within same = absurd (omega (arith, beyond, within))
at_place (first ∷ journal) zero place end line more beyond within same = absurd (omega (arith, beyond))
at_place (first ∷ journal) (suc reached) zero end line more beyond within same = cc
at_place (first ∷ journal) (suc reached) (suc place) end line more beyond within same =
    let tails : take reached journal ++ end ≡ take place journal ++ line ∷ more = cc in
    at_place journal reached place end line more (omega (arith, beyond)) (omega (arith, within)) tails

-- lines of a journal, and no more than one line behind them, which is that of a message that was sent
record Reaches (own journal : Journal) (reached : ℕ) : Type 0 where
  end : Journal
  own_is : own ≡ take reached journal ++ end
  few : length end ≤ 1
  sends : (line : List Word) → end ≡ line ∷ [] → IsSendLine line

reaches : (own journal : Journal) (reached : ℕ) → MeetsAt own journal reached → Reaches own journal reached
reaches own journal reached (inl is) = record {
  end = [];
  own_is = is ∙ sym (append-nil (take reached journal));
  few = omega arith;
  sends = λ line same. absurd (cc);
}
reaches own journal reached (inr (sent, sends, is)) = record {
  end = sent ∷ [];
  own_is = is;
  few = omega arith;
  sends = λ line same. let one : sent ≡ line = cc in subst IsSendLine one sends;
}

-- ---- one host

beyond_place : (own shorter more journal : Journal) (place reached : ℕ) → place ≤ length journal →
    reached ≤ length journal → own ≡ shorter ++ more → IsKeptBefore own journal place →
    Reaches shorter journal reached →
    place < reached → ⊥
beyond_place own shorter more journal place reached within ends is (inl full) reach beyond =
    let size : length own ≡ length shorter + length more = ap length is ∙ length-append shorter more in
    let short : length shorter ≡ length (take reached journal) + length reach.end =
    ap length reach.own_is ∙ length-append (take reached journal) reach.end in
    let taken = length-take-le reached journal ends in
    let own_size : length own ≡ place = ap length full ∙ length-take-le place journal within in
    omega (arith, size, short, taken, own_size, beyond)
beyond_place own shorter more journal place reached within ends is (inr (sent, sends, over, apart)) reach beyond =
    let joined : take reached journal ++ (reach.end ++ more) ≡ take place journal ++ sent ∷ [] =
    sym (append_assoc (take reached journal) reach.end more)
    ∙ ap (λ (lines : Journal). lines ++ more) (sym reach.own_is) ∙ sym is ∙ over in
    apart (at_place journal reached place (reach.end ++ more) sent [] beyond ends joined)

-- whoever made no more lines comes no further
pub no_further : (own shorter more journal : Journal) (place reached : ℕ) → place ≤ length journal →
    reached ≤ length journal → own ≡ shorter ++ more → IsKeptBefore own journal place →
    MeetsAt shorter journal reached →
    reached ≤ place
no_further own shorter more journal place reached within ends is kept meets = elim (leb_tells reached place) [
  | inl low ↦ low.1
  | inr high ↦ absurd (beyond_place own shorter more journal place reached within ends is kept
      (reaches shorter journal reached meets) high.1)
]

no_lines : (lines : Journal) → length lines ≡ 0 → lines ≡ []
no_lines [] none = refl
no_lines (line ∷ lines) none = absurd (omega (arith, none))

-- nobody makes a step more whose line the journal does not have
pub no_step_more : (own longer : Journal) (first : List Word) (rest journal : Journal) (place reached : ℕ) →
    place ≤ length journal → reached ≤ length journal → longer ≡ own ++ first ∷ rest → ¬ IsSendLine first →
    IsKeptBefore own journal place → (own ≡ take place journal → slice_get journal place ≢ Some first) →
    MeetsAt longer journal reached → ⊥
no_step_more own longer first rest journal place reached within ends is step (inl full) apart meets =
    let reach = reaches longer journal reached meets in
    let joined : take reached journal ++ reach.end ≡ take place journal ++ first ∷ rest =
    sym reach.own_is ∙ is ∙ ap (λ (lines : Journal). lines ++ first ∷ rest) full in
    elim (leb_tells reached place) [
      | inr high ↦ apart full (at_place journal reached place reach.end first rest high.1 ends joined)
      | inl low ↦
          let sizes : length (take reached journal) + length reach.end
          ≡ length (take place journal) + length (first ∷ rest) =
          sym (length-append (take reached journal) reach.end) ∙ ap length joined
          ∙ length-append (take place journal) (first ∷ rest) in
          let taken = length-take-le reached journal ends in
          let kept = length-take-le place journal within in
          let few = reach.few in
          let lower = low.1 in
          let at : reached ≡ place = omega (arith, sizes, taken, kept, few, lower) in
          let none : length rest ≡ 0 = omega (arith, sizes, taken, kept, few, lower) in
          let tails : reach.end ≡ first ∷ rest = append_cancel_left (take place journal) reach.end (first ∷ rest)
          (ap (λ n. take n journal ++ reach.end) (sym at) ∙ joined) in
          step (reach.sends first (tails ∙ ap (λ (lines : Journal). first ∷ lines) (no_lines rest none)))
    ]
no_step_more own longer first rest journal place reached within ends is step (inr (sent, sends, over, other)) apart
    meets =
    let reach = reaches longer journal reached meets in
    let joined : take reached journal ++ reach.end ≡ take place journal ++ sent ∷ first ∷ rest =
    sym reach.own_is ∙ is ∙ ap (λ (lines : Journal). lines ++ first ∷ rest) over
    ∙ append_assoc (take place journal) (sent ∷ []) (first ∷ rest) in
    elim (leb_tells reached place) [
      | inr high ↦ other (at_place journal reached place reach.end sent (first ∷ rest) high.1 ends joined)
      | inl low ↦
          let sizes : length (take reached journal) + length reach.end
          ≡ length (take place journal) + length (sent ∷ first ∷ rest) =
          sym (length-append (take reached journal) reach.end) ∙ ap length joined
          ∙ length-append (take place journal) (sent ∷ first ∷ rest) in
          let taken = length-take-le reached journal ends in
          let kept = length-take-le place journal within in
          let few = reach.few in
          let lower = low.1 in
          absurd (omega (arith, sizes, taken, kept, few, lower))
    ]

-- ---- all hosts

kept_meets : (own journal : Journal) (place : ℕ) → IsKeptBefore own journal place → MeetsAt own journal place
kept_meets own journal place (inl full) = inl full
kept_meets own journal place (inr (sent, sends, over, other)) = inr (sent, sends, over)

-- a list of events at its end meets the journals up to its places
pub end_meets : (code : CodeShape) (world : WorldShape) (journals : List Journal) (places : List ℕ)
    (events : List Event) → IsMetToEnd code world journals places events → MeetsUpTo code world journals places events
end_meets code world journals places events end = record {
  within = end.within;
  last = end.last;
  notes = end.notes;
  run = end.run;
  meets = λ host. kept_meets (lines_at host end.notes) (journal_at journals host) (slice_index places host.0)
      (end.kept host);
}

-- a step more would stand in no journal
none_later : (code : CodeShape) (world : WorldShape) (journals : List Journal) (places : List ℕ)
    (events : List Event) (reached : List ℕ) (others : List Event) →
    (end : IsMetToEnd code world journals places events) → (meets : MeetsUpTo code world journals reached others) →
    (more : List Event) (final : WorldShape) (later : List JournalNote) → IsNotedRun code end.last more final later →
    meets.notes ≡ end.notes ++ later → later ≡ []
none_later code world journals places events reached others end meets [] final later run is = run.1
none_later code world journals places events reached others end meets (event ∷ more) final later
    (after, note, rest, noted, run, later_is) is =
    let line = one_more code end.last after event note end.notes rest meets.notes noted
    (is ∙ ap (λ (ns : List JournalNote). end.notes ++ ns) later_is) in
    let host = note.host in
    absurd (no_step_more (lines_at host end.notes) (lines_at host meets.notes) line.first line.rest
    (journal_at journals host) (slice_index places host.0) (slice_index reached host.0) (end.within host)
    (meets.within host) line.lines_are line.step (end.kept host)
    (λ full same. end.ends event after note noted full (same ∙ sym line.noted)) (meets.meets host))

-- what goes on behind the end is nothing
nothing_more : (code : CodeShape) (world : WorldShape) (journals : List Journal) (places : List ℕ)
    (events : List Event) (reached : List ℕ) (others : List Event) →
    (end : IsMetToEnd code world journals places events) → (meets : MeetsUpTo code world journals reached others) →
    Beyond code events others end.last end.notes meets.notes → (host : HostId) →
    lines_at host end.notes ≡ lines_at host meets.notes ++ []
nothing_more code world journals places events reached others end meets beyond host =
    let none =
    none_later code world journals places events reached others end meets beyond.more beyond.final beyond.later
    beyond.run beyond.notes_are in
    let same : meets.notes ≡ end.notes =
    beyond.notes_are ∙ ap (λ (ns : List JournalNote). end.notes ++ ns) none ∙ append-nil end.notes in
    ap (lines_at host) (sym same) ∙ sym (append-nil (lines_at host meets.notes))

pub furthest : (code : CodeShape) (world : WorldShape) (journals : List Journal) (places : List ℕ)
    (events : List Event) → IsSingle world → IsMetToEnd code world journals places events → (others : List Event)
    (reached : List ℕ) → MeetsUpTo code world journals reached others → (host : HostId) →
    slice_index reached host.0 ≤ slice_index places host.0
furthest code world journals places events single end others reached meets host =
    let compare = λ (more : List JournalNote)
    (is : lines_at host end.notes ≡ lines_at host meets.notes ++ lines_at host more).
    no_further (lines_at host end.notes) (lines_at host meets.notes) (lines_at host more) (journal_at journals host)
    (slice_index places host.0) (slice_index reached host.0) (end.within host) (meets.within host) is (end.kept host)
    (meets.meets host) in
    elim (either_begins code world end.last meets.last events others end.notes meets.notes single end.run meets.run) [
      | inl beyond ↦ compare [] (nothing_more code world journals places events reached others end meets beyond host)
      | inr beyond ↦ compare beyond.later
          (ap (lines_at host) beyond.notes_are ∙ lines_append host meets.notes beyond.later)
    ]
