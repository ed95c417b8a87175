-- The bytes of journals are merged into one list of events, or not merged for one cause.
use Rattle.std.proofs.Common.{◌≡◌, ◌≢◌, ◌∙◌, ℕ, List, Option, Some, None, refl, ap, sym}
use Rattle.std.specs.Prelude.{map}
use Rattle.js_base.specs.declared.ids.HostId.{HostId}
use Rattle.event_text.specs.declared.event.Event.{Event}
use Rattle.host_code.specs.Code.{CodeShape}
use Rattle.net_world.specs.World.{WorldShape}
use Rattle.net_world.proofs.Present.{same_id}
use Rattle.record_merge.specs.declared.journal.MergeError.{MergeError}
use Rattle.record_merge.specs.declared.journal.MergeError.TheVariants as error
use Rattle.record_merge.specs.Journals.{Fault, too_long, bad_line, journal_lines}
use Rattle.record_merge.specs.Merging.{IsMerged, IsMergeRefusedFor}
use Rattle.record_merge.proofs.OneLeft.{never_met, one_left}

-- no journal is at fault, and one is
none_or_some : (found : Option (ℕ × Fault)) (fault : ℕ × Fault) → found ≡ None → ¬ (found ≡ Some fault)
none_or_some found fault none some = let no : ⊥ = cc in no

-- the first fault is one
one_fault : (found : Option (ℕ × Fault)) (first second : ℕ × Fault) → found ≡ Some first → found ≡ Some second →
    first ≡ second
one_fault found first second one two = let both : Some first ≡ Some second = sym one ∙ two in cc

pub one_cause : (code : CodeShape) (world : WorldShape) (journals : List (List ℕ)) (why other : MergeError) →
    why ≢ error.OutOfMemory → other ≢ error.OutOfMemory → IsMergeRefusedFor code world journals why →
    IsMergeRefusedFor code world journals other → why ≡ other
one_cause code world journals error.OutOfMemory other not also one two = absurd (not refl)
one_cause code world journals (error.TooLong host) error.OutOfMemory not also one two = absurd (also refl)
one_cause code world journals (error.BadLine host line) error.OutOfMemory not also one two = absurd (also refl)
one_cause code world journals (error.NoMatch host line) error.OutOfMemory not also one two = absurd (also refl)
one_cause code world journals (error.TooLong host) (error.TooLong another) not also one two =
    let same = one_fault _ (host.0, too_long) (another.0, too_long) one two in
    let number : host.0 ≡ another.0 = ap (λ (fault : ℕ × Fault). fault.0) same in
    ap (λ (h : HostId). error.TooLong h) (same_id host another number)
one_cause code world journals (error.TooLong host) (error.BadLine another line) not also one two =
    let same = one_fault _ (host.0, too_long) (another.0, bad_line line) one two in
    let fault : ◌≡◌ {A = Fault} too_long (bad_line line) = ap (λ (fault : ℕ × Fault). fault.1) same in
    let no : ⊥ = cc in absurd no
one_cause code world journals (error.BadLine host line) (error.TooLong another) not also one two =
    let same = one_fault _ (host.0, bad_line line) (another.0, too_long) one two in
    let fault : ◌≡◌ {A = Fault} (bad_line line) too_long = ap (λ (fault : ℕ × Fault). fault.1) same in
    let no : ⊥ = cc in absurd no
one_cause code world journals (error.BadLine host line) (error.BadLine another next) not also one two =
    let same = one_fault _ (host.0, bad_line line) (another.0, bad_line next) one two in
    let number : host.0 ≡ another.0 = ap (λ (fault : ℕ × Fault). fault.0) same in
    let fault : ◌≡◌ {A = Fault} (bad_line line) (bad_line next) = ap (λ (fault : ℕ × Fault). fault.1) same in
    let lines : line ≡ next = cc in
    ap (λ (h : HostId). error.BadLine h line) (same_id host another number)
    ∙ ap (λ (n : ℕ). error.BadLine another n) lines
one_cause code world journals (error.TooLong host) (error.NoMatch another line) not also one two =
    absurd (none_or_some _ (host.0, too_long) two.0 one)
one_cause code world journals (error.BadLine host number) (error.NoMatch another line) not also one two =
    absurd (none_or_some _ (host.0, bad_line number) two.0 one)
one_cause code world journals (error.NoMatch host line) (error.TooLong another) not also one two =
    absurd (none_or_some _ (another.0, too_long) one.0 two)
one_cause code world journals (error.NoMatch host line) (error.BadLine another number) not also one two =
    absurd (none_or_some _ (another.0, bad_line number) one.0 two)
one_cause code world journals (error.NoMatch host line) (error.NoMatch another next) not also one two =
    let same = one_left code world (map journal_lines journals) host another line next one.1 two.1 in
    ap (λ (h : HostId). error.NoMatch h line) same.0 ∙ ap (λ (n : ℕ). error.NoMatch another n) same.1

pub merged_or_refused : (code : CodeShape) (world : WorldShape) (journals : List (List ℕ)) (events : List Event)
    (why : MergeError) → why ≢ error.OutOfMemory → IsMergeRefusedFor code world journals why →
    ¬ IsMerged code world journals events
merged_or_refused code world journals events error.OutOfMemory not refused merged = not refl
merged_or_refused code world journals events (error.TooLong host) not refused merged =
    none_or_some _ (host.0, too_long) merged.0 refused
merged_or_refused code world journals events (error.BadLine host line) not refused merged =
    none_or_some _ (host.0, bad_line line) merged.0 refused
merged_or_refused code world journals events (error.NoMatch host line) not refused merged =
    never_met code world (map journal_lines journals) host line events refused.1 merged.1
