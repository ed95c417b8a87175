-- Journals in the program, at the number of a host.
use Rattle.std.proofs.Common.{◌≡◌, ◌∙◌, ℕ, zero, suc, ◌+◌, ◌-◌, ◌<◌, ◌≤◌, Bool, false, List, [], ◌∷◌, ◌++◌, length}
use Rattle.std.proofs.Common.{Option, Some, None, IfSome}
use Rattle.std.proofs.Common.{refl, ap, sym, subst, arith, get_or, Vec, Global}
use Rattle.std.specs.Prelude.{replicate, slice_get, slice_set, slice_index, unwrap_or}
use Rattle.std.proofs.lemmas.List.{length-map}
use Rattle.std.proofs.lemmas.Option.{slice_get_within}
use Rattle.js_base.specs.declared.ids.HostId.{HostId}
use Rattle.event_text.specs.declared.event.Event.{Event}
use Rattle.host_code.specs.Code.{CodeShape}
use Rattle.host_core.specs.Host.{HostModel}
use Rattle.net_world.specs.Steps.{HasMade, HaveMade}
use Rattle.net_world.specs.World.{WorldShape, IsStep, mover, present}
use Rattle.event_text.specs.declared.lines.Line.{Line}
use Rattle.record_merge.specs.JournalLines.{IsFitting, IsPassed, HasMerged, HasPassed, journal_of, all_of, lines_in, met}
use Rattle.record_merge.specs.Meeting.{Journal, journal_at}
use Rattle.record_merge.specs.NextLines.{step_words, sent_next}
use Rattle.record_merge.specs.Single.{IsSingle}
use Rattle.record_merge.proofs.Walks.{merged_none, merged_more, event_line, journal_there, met_within}
use Rattle.record_merge.proofs.Walks.{met_set, passed_higher}

pub journal_found : (journals : List (Vec Line Global)) (n : ℕ) (one : Vec Line Global) →
    n < length journals → one ≡ get_or journals n one →
    journal_of one.items ≡ unwrap_or (slice_get (all_of journals) n) []
journal_found [] n one within is = absurd (omega (arith, within))
journal_found (journal ∷ journals) zero one within is = ap (λ (v : Vec Line Global). journal_of v.items) is
journal_found (journal ∷ journals) (suc n) one within is =
    journal_found journals n one (omega (arith, within)) is

get_or_any : (xs : List ℕ) (n d e : ℕ) → n < length xs → get_or xs n d ≡ get_or xs n e
get_or_any [] n d e within = absurd (omega (arith, within))
get_or_any (x ∷ xs) zero d e within = refl
get_or_any (x ∷ xs) (suc n) d e within = get_or_any xs n d e (omega (arith, within))

pub passed_at : (journals : List (Vec Line Global)) (number host : HostId) (one : Vec Line Global)
    (lines : List Line) (places : List ℕ) (place : ℕ) (sent : Journal) (passed : ℕ × Bool) → number ≡ host →
    host.0 < length journals →
    one ≡ get_or journals number.0 one → lines ≡ one.items → place ≡ get_or places number.0 place →
    host.0 < length places →
    IsPassed (journal_of lines) place sent passed →
    IsPassed (journal_at (all_of journals) host) (slice_index places host.0) sent passed
passed_at journals number host one lines places place sent passed same within found held at placed pass =
    let first : one ≡ get_or journals host.0 one = found ∙ ap (λ (h : HostId). get_or journals h.0 one) same in
    let there = journal_found journals host.0 one within first in
    let here : place ≡ slice_index places host.0 =
    at ∙ ap (λ (h : HostId). get_or places h.0 place) same ∙ get_or_any places host.0 place 0 placed in
    subst (λ j. IsPassed j (slice_index places host.0) sent passed) there
    (subst (λ n. IsPassed (journal_of one.items) n sent passed) here
    (subst (λ ls. IsPassed (journal_of ls) place sent passed) held pass))

pub merged_start : (code : CodeShape) (world : WorldShape) (journals : List (Vec Line Global))
    (events : List Event) (places : List ℕ) (left : List Bool) → IsSingle world → events ≡ [] →
    places ≡ replicate (length journals) 0 → left ≡ replicate (length journals) false →
    HasMerged code world (all_of journals) events world places left
merged_start code world journals events places left single none at open_flags =
    let count = length-map journals (λ (journal : Vec Line Global). journal_of journal.items) in
    subst (λ es. HasMerged code world (all_of journals) es world places left) (sym none)
    (subst (λ ps. HasMerged code world (all_of journals) [] world ps left)
    (ap (λ n. replicate n 0) count ∙ sym at)
    (subst (λ fs. HasMerged code world (all_of journals) [] world (replicate (length (all_of journals)) 0) fs)
    (ap (λ n. replicate n false) count ∙ sym open_flags) (merged_none code world (all_of journals) single)))

pub fits_host : (code : CodeShape) (world last : WorldShape) (journals : List (Vec Line Global))
    (events : List Event) (event : Event) (places : List ℕ) (left : List Bool) →
    HasMerged code world (all_of journals) events last places left →
    IsFitting code last (all_of journals) places left (Some event) → (mover event).0 < length journals
fits_host code world last journals events event places left merged fits =
    let here = event_line code world last (all_of journals) events event places left merged fits.1 in
    let there = journal_there (all_of journals) (mover event).0 (slice_index places (mover event).0)
    (step_words code last event) here.there in
    let count = length-map journals (λ (journal : Vec Line Global). journal_of journal.items) in
    omega (arith, there, count)

pub fits_place : (code : CodeShape) (world last : WorldShape) (journals : List (Vec Line Global))
    (events : List Event) (event : Event) (places : List ℕ) (left : List Bool) →
    HasMerged code world (all_of journals) events last places left →
    IsFitting code last (all_of journals) places left (Some event) →
    slice_index places (mover event).0 < length (journal_at (all_of journals) (mover event))
fits_place code world last journals events event places left merged fits =
    let here = event_line code world last (all_of journals) events event places left merged fits.1 in
    slice_get_within (journal_at (all_of journals) (mover event)) (slice_index places (mover event).0)
    (step_words code last event) here.there

pub merged_on : (code : CodeShape) (world last after : WorldShape) (journals : List Journal) (events : List Event)
    (event : Event) (places : List ℕ) (left : List Bool) (later : List ℕ) (gone : List Bool) →
    HasMerged code world journals events last places left →
    IsFitting code last journals places left (Some event) → IsStep code last event after →
    HasPassed code after journals (mover event) places left later gone →
    HasMerged code world journals (events ++ event ∷ []) after later gone
merged_on code world last after journals events event places left later gone merged fits step passed =
    let all = events ++ event ∷ [] in
    let more = merged_more code world last after journals events event passed.next places left passed.passed merged
    fits.1 step passed.comes passed.passes in
    subst (λ ps. HasMerged code world journals all after ps gone) (sym passed.places_are)
    (subst (λ fs. HasMerged code world journals all after (slice_set places (mover event).0 passed.passed.0) fs)
    (sym passed.left_are) more)

pub fewer_left : (code : CodeShape) (world last after : WorldShape) (journals : List Journal) (events : List Event)
    (event : Event) (places : List ℕ) (left : List Bool) (later : List ℕ) (gone : List Bool) →
    HasMerged code world journals events last places left →
    IsFitting code last journals places left (Some event) → IsStep code last event after →
    HasPassed code after journals (mover event) places left later gone →
    lines_in journals - met later < lines_in journals - met places
fewer_left code world last after journals events event places left later gone merged fits step passed =
    let me = (mover event).0 in
    let on = merged_on code world last after journals events event places left later gone merged fits step passed in
    let here = event_line code world last journals events event places left merged fits.1 in
    let there = journal_there journals me (slice_index places me) (step_words code last event) here.there in
    let count = merged.places_count in
    let up = passed_higher (journal_at journals (mover event)) (slice_index places me)
    (sent_next code after passed.next) passed.passed passed.passes in
    let more : met places < met later =
    subst (λ ps. met places < met ps) (sym passed.places_are)
    (met_set places me passed.passed.0 (omega (arith, there, count)) up) in
    let most = met_within later journals on.places_count (λ n. on.within (record { 0 = n })) in
    omega (arith, more, most)

-- ---- how many steps hosts have made

met_none : (count : ℕ) → met (replicate count 0) ≡ 0
met_none zero = refl
met_none (suc count) =
    let rest : met (replicate count 0) ≡ 0 = met_none count in
    let all : 0 + met (replicate count 0) ≡ 0 = omega (arith, rest) in
    all

-- a host that has made no more steps than so many has made no more than a higher number
pub have_more : (hosts : List (Option HostModel)) (few many : ℕ) → few ≤ many → HaveMade few hosts → HaveMade many hosts
have_more hosts few many up have number = by (present hosts number) (have number)
  where
    by : (host : Option HostModel) → IfSome host (HasMade few) → IfSome host (HasMade many)
    by None has = tt
    by (Some host) has = let steps = has.steps in record { answers = has.answers; steps = omega (arith, steps, up) }

pub fresh_made : (hosts : List (Option HostModel)) (count : ℕ) (places : List ℕ) → places ≡ replicate count 0 →
    HaveMade 0 hosts → HaveMade (met places) hosts
fresh_made hosts count places at fresh =
    subst (λ (n : ℕ). HaveMade n hosts) (sym (ap met at ∙ met_none count)) fresh

pub few_met : (code : CodeShape) (world last : WorldShape) (journals : List Journal) (events : List Event)
    (places : List ℕ) (left : List Bool) (most : ℕ) → HasMerged code world journals events last places left →
    lines_in journals < most → met places < most
few_met code world last journals events places left most merged few =
    let within = met_within places journals merged.places_count (λ n. merged.within (record { 0 = n })) in
    omega (arith, within, few)

-- each event raises how many lines are met
pub made_more : (hosts : List (Option HostModel)) (before after lines : ℕ) → lines - after < lines - before →
    HaveMade (before + 1) hosts → HaveMade after hosts
made_more hosts before after lines fewer have = have_more hosts (before + 1) after (omega (arith, fewer)) have
