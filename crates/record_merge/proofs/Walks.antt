-- Journals that are met by one event more, and how that ends.
use Rattle.std.proofs.Common.{◌≡◌, ◌≢◌, ◌∙◌, ℕ, zero, suc, ◌+◌, ◌≤◌, ◌<◌, ◌⊎◌, inl, inr, Bool, true, false, List, []}
use Rattle.std.proofs.Common.{◌∷◌, ◌++◌, length, take, Option, Some, None, refl, ap, sym, subst, arith, append-nil}
use Rattle.std.specs.Prelude.{slice_get, slice_set, slice_index, replicate, unwrap_or}
use Rattle.std.proofs.lemmas.Bool.{ne_eqb}
use Rattle.std.proofs.lemmas.Bool.Decides.{eqb_tells}
use Rattle.std.proofs.lemmas.List.{append_assoc, length-append, length-set}
use Rattle.std.proofs.lemmas.Option.{slice_get_within}
use Rattle.js_base.specs.declared.ids.HostId.{HostId}
use Rattle.event_text.specs.declared.event.Event.{Event}
use Rattle.event_text.specs.declared.event.Event.TheVariants.{Take, Turn, Act}
use Rattle.event_text.specs.Words.{Word}
use Rattle.host_code.specs.Code.{CodeShape}
use Rattle.net_world.specs.Choice.{IsNextEvent}
use Rattle.net_world.specs.Flying.{Flight}
use Rattle.net_world.specs.World.{WorldShape, IsStep, mover}
use Rattle.net_world.proofs.Present.{same_id, get_other}
use Rattle.record_merge.specs.JournalLines.{met, lines_in, next_unless, next_of, IsFitting, IsPassed, IsRead, HasMerged}
use Rattle.event_text.specs.JournalText.{IsSendLine}
use Rattle.record_merge.specs.Meeting.{Journal, journal_at, IsKeptBefore, IsMetToEnd}
use Rattle.record_merge.specs.NextLines.{taken_words, step_words, flying_words, sent_next, note_of}
use Rattle.record_merge.specs.Notes.{JournalNote, IsEventNoted, IsNotedRun, lines_at}
use Rattle.record_merge.specs.Single.{IsOnly, IsSingle}
use Rattle.record_merge.proofs.NextNotes.{step_noted}
use Rattle.record_merge.proofs.NotedRuns.{noted_step}
use Rattle.record_merge.proofs.OneMeeting.{lines_append, own_lines}
use Rattle.record_merge.proofs.Singles.{step_single, turn_alone, take_alone, act_nowhere, flies_there, runs_there}
use Rattle.record_merge.proofs.Singles.{first_place}

-- ---- the start

fresh_read : (n k : ℕ) (journal : Journal) →
    IsRead [] journal (slice_index (replicate n 0) k) (slice_get (replicate n false) k)
fresh_read zero k journal = refl
fresh_read (suc n) zero journal = refl
fresh_read (suc n) (suc k) journal = fresh_read n k journal

fresh_within : (n k m : ℕ) → slice_index (replicate n 0) k ≤ m
fresh_within zero k m = omega arith
fresh_within (suc n) zero m = omega arith
fresh_within (suc n) (suc k) m = fresh_within n k m

fresh_count : {X : Type 0} (n : ℕ) (x : X) → length (replicate n x) ≡ n
fresh_count zero x = refl
fresh_count (suc n) x = ap suc (fresh_count n x)

pub merged_none : (code : CodeShape) (world : WorldShape) (journals : List Journal) → IsSingle world →
    HasMerged code world journals [] world (replicate (length journals) 0) (replicate (length journals) false)
merged_none code world journals single = record {
  within = λ host. fresh_within (length journals) host.0 (length (journal_at journals host));
  notes = [];
  run = (refl, refl);
  read = λ host. fresh_read (length journals) host.0 (journal_at journals host);
  single = single;
  places_count = fresh_count (length journals) 0;
  left_count = fresh_count (length journals) false;
}

-- ---- one event more

run_more : (code : CodeShape) (world last after : WorldShape) (events : List Event) (event : Event)
    (notes : List JournalNote) (note : JournalNote) → IsNotedRun code world events last notes →
    IsEventNoted code last event after note →
    IsNotedRun code world (events ++ event ∷ []) after (notes ++ note ∷ [])
run_more code world last after [] event notes note run noted = (
  after,
  note,
  [],
  subst (λ (w : WorldShape). IsEventNoted code w event after note) (sym run.0) noted,
  (refl, refl),
  ap (λ (ns : List JournalNote). ns ++ note ∷ []) run.1,
)
run_more code world last after (first ∷ events) event notes note (next, one, later, happens, run, notes_are) noted = (
  next,
  one,
  later ++ note ∷ [],
  happens,
  run_more code next last after events event later note run noted,
  ap (λ (ns : List JournalNote). ns ++ note ∷ []) notes_are,
)

take_next : (journal : Journal) (place : ℕ) (line : List Word) → slice_get journal place ≡ Some line →
    take (suc place) journal ≡ take place journal ++ line ∷ []
take_next [] place line there = absurd (cc)
take_next (first ∷ journal) zero line there = let same : first ≡ line = cc in ap (λ w. w ∷ []) same
take_next (first ∷ journal) (suc place) line there =
    ap (λ (lines : Journal). first ∷ lines) (take_next journal place line there)

index_set : (xs : List ℕ) (i y : ℕ) → i < length xs → slice_index (slice_set xs i y) i ≡ y
index_set [] i y within = absurd (omega (arith, within))
index_set (x ∷ xs) zero y within = refl
index_set (x ∷ xs) (suc i) y within = index_set xs i y (omega (arith, within))

index_other : (xs : List ℕ) (i j y : ℕ) → j ≢ i → slice_index (slice_set xs i y) j ≡ slice_index xs j
index_other [] i j y apart = refl
index_other (x ∷ xs) zero zero y apart = absurd (apart refl)
index_other (x ∷ xs) zero (suc j) y apart = refl
index_other (x ∷ xs) (suc i) zero y apart = refl
index_other (x ∷ xs) (suc i) (suc j) y apart = index_other xs i j y (λ same. apart (ap suc same))

flag_set : (xs : List Bool) (i : ℕ) (y : Bool) → i < length xs → slice_get (slice_set xs i y) i ≡ Some y
flag_set [] i y within = absurd (omega (arith, within))
flag_set (x ∷ xs) zero y within = refl
flag_set (x ∷ xs) (suc i) y within = flag_set xs i y (omega (arith, within))

-- a journal with a line is one of the journals
pub journal_there : (journals : List Journal) (n place : ℕ) (line : List Word) →
    slice_get (unwrap_or (slice_get journals n) []) place ≡ Some line → n < length journals
journal_there [] n place line there = absurd (cc)
journal_there (journal ∷ journals) zero place line there = omega arith
journal_there (journal ∷ journals) (suc n) place line there =
    let within = journal_there journals n place line there in
    omega (arith, within)

-- a journal with a next line is read, and has the line
pub record IsNextLine (own journal : Journal) (place : ℕ) (line : List Word) : Type 0 where
  pub full : own ≡ take place journal
  pub there : slice_get journal place ≡ Some line

next_line : (own journal : Journal) (place : ℕ) (left : Option Bool) (line : List Word) →
    IsRead own journal place left →
    next_unless left (slice_get journal place) ≡ Some line → IsNextLine own journal place line
next_line own journal place None line read there = record { full = read; there = there }
next_line own journal place (Some false) line read there = record { full = read; there = there }
next_line own journal place (Some true) line read there = absurd (cc)

record SentOne (sent : Journal) : Type 0 where
  cases : (sent ≡ []) ⊎ ((line : List Word) × IsSendLine line × (sent ≡ line ∷ []))

flying_one : (code : CodeShape) (to : HostId) (found : Option Flight) → SentOne (flying_words code to found)
flying_one code to None = record { cases = inl refl }
flying_one code to (Some flight) = record { cases = inr (_, refl, refl) }

sent_one : (code : CodeShape) (world : WorldShape) (next : Option Event) → SentOne (sent_next code world next)
sent_one code world None = record { cases = inl refl }
sent_one code world (Some (Turn host)) = record { cases = inl refl }
sent_one code world (Some (Take from to place)) = flying_one code to (slice_get (world.flying from to) place)
sent_one code world (Some (Act from to made)) = record { cases = inl refl }

-- what is read of the host's journal after its step
record IsReadOn (own journal : Journal) (place : ℕ) (passed : ℕ × Bool) : Type 0 where
  read : IsRead own journal passed.0 (Some passed.1)
  within : passed.0 ≤ length journal
  higher : place < passed.0

read_on : (own journal : Journal) (place : ℕ) (line : List Word) (sent : Journal) (passed : ℕ × Bool) →
    IsNextLine own journal place line → SentOne sent → IsPassed journal place sent passed →
    IsReadOn (own ++ line ∷ sent) journal place passed
read_on own journal place line sent passed next one pass =
    let one_up : place + 1 ≡ suc place = omega arith in
    let two_up : suc (place + 1) ≡ place + 2 = omega arith in
    let taken : take (place + 1) journal ≡ take place journal ++ line ∷ [] =
    ap (λ n. take n journal) one_up ∙ take_next journal place line next.there in
    let low = slice_get_within journal place line next.there in
    elim one.cases [
      | inl none ↦
          let is : passed ≡ (place + 1, false) = subst (λ s. IsPassed journal place s passed) none pass in
          let lines : own ++ line ∷ sent ≡ take (place + 1) journal =
          ap (λ s. own ++ line ∷ s) none ∙ ap (λ (o : Journal). o ++ line ∷ []) next.full ∙ sym taken in
          subst (IsReadOn (own ++ line ∷ sent) journal place) (sym is)
          (record { read = lines; within = omega (arith, low); higher = omega arith })
      | inr (s, sends, only) ↦
          let lines : own ++ line ∷ sent ≡ take (place + 1) journal ++ s ∷ [] =
          ap (λ t. own ++ line ∷ t) only ∙ sym (append_assoc own (line ∷ []) (s ∷ []))
          ∙ ap (λ (o : Journal). o ++ line ∷ [] ++ s ∷ []) next.full
          ∙ ap (λ (o : Journal). o ++ s ∷ []) (sym taken) in
          elim (subst (λ t. IsPassed journal place t passed) only pass) [
            | inl (fits, is) ↦
                let second = slice_get_within journal (place + 1) s fits in
                let all : own ++ line ∷ sent ≡ take (place + 2) journal =
                lines ∙ sym (take_next journal (place + 1) s fits) ∙ ap (λ n. take n journal) two_up in
                subst (IsReadOn (own ++ line ∷ sent) journal place) (sym is)
                (record { read = all; within = omega (arith, second); higher = omega arith })
            | inr (apart, is) ↦
                subst (IsReadOn (own ++ line ∷ sent) journal place) (sym is)
                (record { read = (s, sends, lines, apart); within = omega (arith, low); higher = omega arith })
          ]
    ]

other_lines : (host : HostId) (note : JournalNote) → host.0 ≢ note.host.0 → lines_at host (note ∷ []) ≡ []
other_lines host note apart = rw (ne_eqb note.host.0 host.0 (λ same. apart (sym same))) refl

-- the journal of the event's host, before its step
pub event_line : (code : CodeShape) (world last : WorldShape) (journals : List Journal) (events : List Event)
    (event : Event) (places : List ℕ) (left : List Bool) →
    (merged : HasMerged code world journals events last places left) →
    next_of journals places left (mover event) ≡ Some (step_words code last event) →
    IsNextLine (lines_at (mover event) merged.notes) (journal_at journals (mover event))
    (slice_index places (mover event).0) (step_words code last event)
event_line code world last journals events event places left merged next =
    let me = mover event in
    next_line (lines_at me merged.notes) (journal_at journals me) (slice_index places me.0) (slice_get left me.0)
    (step_words code last event) (merged.read me) next

pub merged_more : (code : CodeShape) (world last after : WorldShape) (journals : List Journal) (events : List Event)
    (event : Event) (next : Option Event) (places : List ℕ) (left : List Bool) (passed : ℕ × Bool) →
    HasMerged code world journals events last places left →
    next_of journals places left (mover event) ≡ Some (step_words code last event) → IsStep code last event after →
    IsNextEvent after next →
    IsPassed (journal_at journals (mover event)) (slice_index places (mover event).0) (sent_next code after next)
    passed →
    HasMerged code world journals (events ++ event ∷ []) after (slice_set places (mover event).0 passed.0)
    (slice_set left (mover event).0 passed.1)
merged_more code world last after journals events event next places left passed merged line step comes pass =
    let me = mover event in
    let journal = journal_at journals me in
    let place = slice_index places me.0 in
    let note = note_of code last event after next in
    let noted = step_noted code last after event next merged.single step comes in
    let here = event_line code world last journals events event places left merged line in
    let there = journal_there journals me.0 place (step_words code last event) here.there in
    let places_are = merged.places_count in
    let left_are = merged.left_count in
    let on = read_on (lines_at me merged.notes) journal place (step_words code last event) (sent_next code after next)
    passed here (sent_one code after next) pass in
    let own : lines_at me (merged.notes ++ note ∷ []) ≡ lines_at me merged.notes ++ note.lines =
    lines_append me merged.notes (note ∷ [])
    ∙ ap (λ (lines : Journal). lines_at me merged.notes ++ lines) (own_lines note [] ∙ append-nil note.lines) in
    let now : slice_index (slice_set places me.0 passed.0) me.0 ≡ passed.0 =
    index_set places me.0 passed.0 (omega (arith, there, places_are)) in
    let flag : slice_get (slice_set left me.0 passed.1) me.0 ≡ Some passed.1 =
    flag_set left me.0 passed.1 (omega (arith, there, left_are)) in
    let read_me : IsRead (lines_at me (merged.notes ++ note ∷ [])) journal
    (slice_index (slice_set places me.0 passed.0) me.0) (slice_get (slice_set left me.0 passed.1) me.0) =
    subst (λ f. IsRead (lines_at me (merged.notes ++ note ∷ [])) journal
    (slice_index (slice_set places me.0 passed.0) me.0) f) (sym flag)
    (subst (λ n. IsRead (lines_at me (merged.notes ++ note ∷ [])) journal n (Some passed.1)) (sym now)
    (subst (λ lines. IsRead lines journal passed.0 (Some passed.1)) (sym own) on.read)) in
    let within_me : slice_index (slice_set places me.0 passed.0) me.0 ≤ length journal =
    subst (λ n. n ≤ length journal) (sym now) on.within in
    record {
      within = λ host. elim (eqb_tells host.0 me.0) [
        | inl same ↦ subst (λ (h : HostId). slice_index (slice_set places me.0 passed.0) h.0
            ≤ length (journal_at journals h)) (sym (same_id host me same.1)) within_me
        | inr apart ↦ subst (λ n. n ≤ length (journal_at journals host))
            (sym (index_other places me.0 host.0 passed.0 apart.1)) (merged.within host)
      ];
      notes = merged.notes ++ note ∷ [];
      run = run_more code world last after events event merged.notes note merged.run noted;
      read = λ host. elim (eqb_tells host.0 me.0) [
        | inl same ↦ subst (λ (h : HostId). IsRead (lines_at h (merged.notes ++ note ∷ [])) (journal_at journals h)
            (slice_index (slice_set places me.0 passed.0) h.0) (slice_get (slice_set left me.0 passed.1) h.0))
            (sym (same_id host me same.1)) read_me
        | inr apart ↦
            let lines : lines_at host (merged.notes ++ note ∷ []) ≡ lines_at host merged.notes =
            lines_append host merged.notes (note ∷ [])
            ∙ ap (λ (ls : Journal). lines_at host merged.notes ++ ls) (other_lines host note apart.1)
            ∙ append-nil (lines_at host merged.notes) in
            subst (λ ls. IsRead ls (journal_at journals host) (slice_index (slice_set places me.0 passed.0) host.0)
            (slice_get (slice_set left me.0 passed.1) host.0)) (sym lines)
            (subst (λ n. IsRead (lines_at host merged.notes) (journal_at journals host) n
            (slice_get (slice_set left me.0 passed.1) host.0)) (sym (index_other places me.0 host.0 passed.0 apart.1))
            (subst (λ f. IsRead (lines_at host merged.notes) (journal_at journals host) (slice_index places host.0) f)
            (sym (get_other left me.0 host.0 passed.1 apart.1)) (merged.read host)))
      ];
      single = step_single code last after event merged.single step;
      places_count = length-set places me.0 passed.0 ∙ places_are;
      left_count = length-set left me.0 passed.1 ∙ left_are;
    }

-- ---- the end

kept_read : (own journal : Journal) (place : ℕ) (left : Option Bool) → IsRead own journal place left →
    IsKeptBefore own journal place
kept_read own journal place None read = inl read
kept_read own journal place (Some false) read = inl read
kept_read own journal place (Some true) read = inr read

-- a journal whose lines are met whole was not left
not_left : (own journal : Journal) (place : ℕ) (left : Option Bool) → IsRead own journal place left →
    own ≡ take place journal → next_unless left (slice_get journal place) ≡ slice_get journal place
not_left own journal place None read full = refl
not_left own journal place (Some false) read full = refl
not_left own journal place (Some true) read full =
    let sizes : length (take place journal) ≡ length (take place journal) + length (read.0 ∷ []) =
    ap length (sym full ∙ read.2) ∙ length-append (take place journal) (read.0 ∷ []) in
    absurd (omega (arith, sizes))

-- the event that happens is the one that comes next
next_happens : (code : CodeShape) (world after : WorldShape) (event next : Event) → IsSingle world →
    IsStep code world event after → IsNextEvent world (Some next) → next ≡ event
next_happens code world after (Turn host) (Turn other) single step is =
    let only = subst (IsOnly world) (turn_alone code world after host single.active single.only step) single.only in
    ap Turn (only.0.alone other is.runs)
next_happens code world after (Turn host) (Take from to place) single step is =
    absurd (is.0 host (runs_there world host step.state step.obeys step.runs))
next_happens code world after (Take from to place) (Turn other) single step is =
    let only =
    subst (IsOnly world) (take_alone code world after from to place single.active single.only step) single.only in
    absurd (only.0 other is.runs)
next_happens code world after (Take from to place) (Take sender target at) single step is =
    let only =
    subst (IsOnly world) (take_alone code world after from to place single.active single.only step) single.only in
    let same = only.1.alone sender target is.1.target.flies in
    let first = first_place (world.flying from to) place step.flight only.1.there step.there in
    rw (same.0, same.1, is.2, first) refl
next_happens code world after (Act from to made) next single step is =
    absurd (act_nowhere world from single.obey step.bad)
next_happens code world after event (Act from to made) single step is = absurd is

none_happens : (code : CodeShape) (world after : WorldShape) (event : Event) → IsSingle world →
    IsStep code world event after → ¬ IsNextEvent world None
none_happens code world after (Turn host) single step =
    λ is. is.0 host (runs_there world host step.state step.obeys step.runs)
none_happens code world after (Take from to place) single step =
    λ is. is.1 from to (flies_there world from to place step.flight step.there)
none_happens code world after (Act from to made) single step =
    absurd (act_nowhere world from single.obey step.bad)

-- what is noted first is the line of the step
record NotedFirst (code : CodeShape) (world : WorldShape) (event : Event) (note : JournalNote) : Type 0 where
  host : note.host ≡ mover event
  line : slice_get note.lines 0 ≡ Some (step_words code world event)

noted_first : (code : CodeShape) (world after : WorldShape) (event : Event) (note : JournalNote) →
    IsEventNoted code world event after note → NotedFirst code world event note
noted_first code world after (Turn host) note noted = record {
  host = ap (λ (n : JournalNote). n.host) noted.1;
  line = ap (λ (n : JournalNote). slice_get n.lines 0) noted.1;
}
noted_first code world after (Take from to place) note noted = record {
  host = ap (λ (n : JournalNote). n.host) noted.1;
  line = ap (λ (n : JournalNote). slice_get n.lines 0) noted.1
      ∙ ap (λ found. Some (taken_words code from found)) (sym noted.0.there);
}
noted_first code world after (Act from to made) note noted = absurd noted

stays : (code : CodeShape) (last after : WorldShape) (journals : List Journal) (places : List ℕ) (left : List Bool)
    (event : Event) → IsSingle last → IsStep code last event after → IsFitting code last journals places left None →
    next_of journals places left (mover event) ≢ Some (step_words code last event)
stays code last after journals places left event single step (inl none) =
    absurd (none_happens code last after event single step none)
stays code last after journals places left event single step (inr (next, is, apart)) =
    subst (λ (e : Event). next_of journals places left (mover e) ≢ Some (step_words code last e))
    (next_happens code last after event next single step is) apart

pub merged_end : (code : CodeShape) (world last : WorldShape) (journals : List Journal) (events : List Event)
    (places : List ℕ) (left : List Bool) → HasMerged code world journals events last places left →
    IsFitting code last journals places left None → IsMetToEnd code world journals places events
merged_end code world last journals events places left merged fitting = record {
  within = merged.within;
  last = last;
  notes = merged.notes;
  run = merged.run;
  kept = λ host. kept_read (lines_at host merged.notes) (journal_at journals host) (slice_index places host.0)
      (slice_get left host.0) (merged.read host);
  ends = λ event after note noted full same.
      let first = noted_first code last after event note noted in
      let step = noted_step code last after event note noted in
      let host = note.host in
      let unread = not_left (lines_at host merged.notes) (journal_at journals host) (slice_index places host.0)
      (slice_get left host.0) (merged.read host) full in
      let line : next_of journals places left host ≡ Some (step_words code last event) = unread ∙ same ∙ first.line in
      stays code last after journals places left event merged.single step fitting
      (ap (next_of journals places left) (sym first.host) ∙ line);
}

-- ---- the measure

-- how many lines are met, and how many there are
pub met_within : (places : List ℕ) (journals : List Journal) → length places ≡ length journals →
    ((n : ℕ) → slice_index places n ≤ length (unwrap_or (slice_get journals n) [])) → met places ≤ lines_in journals
met_within [] journals same within = omega arith
met_within (place ∷ places) [] same within =
    let no : suc (length places) ≡ 0 = same in absurd (omega (arith, no))
met_within (place ∷ places) (journal ∷ journals) same within =
    let first : place ≤ length journal = within 0 in
    let count : suc (length places) ≡ suc (length journals) = same in
    let others = met_within places journals (omega (arith, count)) (λ n. within (suc n)) in
    omega (arith, first, others)

pub met_set : (places : List ℕ) (i y : ℕ) → i < length places → slice_index places i < y →
    met places < met (slice_set places i y)
met_set [] i y within higher = absurd (omega (arith, within))
met_set (place ∷ places) zero y within higher = let up : place < y = higher in omega (arith, up)
met_set (place ∷ places) (suc i) y within higher =
    let others = met_set places i y (omega (arith, within)) higher in
    omega (arith, others)

pub passed_higher : (journal : Journal) (place : ℕ) (sent : Journal) (passed : ℕ × Bool) →
    IsPassed journal place sent passed → place < passed.0
passed_higher journal place [] passed is =
    let at : passed.0 ≡ place + 1 = ap (λ (p : ℕ × Bool). p.0) is in omega (arith, at)
passed_higher journal place (line ∷ sent) passed (inl fits) =
    let at : passed.0 ≡ place + 2 = ap (λ (p : ℕ × Bool). p.0) fits.1 in omega (arith, at)
passed_higher journal place (line ∷ sent) passed (inr apart) =
    let at : passed.0 ≡ place + 1 = ap (λ (p : ℕ × Bool). p.0) apart.1 in omega (arith, at)
