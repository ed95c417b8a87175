-- Journals that are left before their end are met by no list, and are left at one line.
use Rattle.std.proofs.Common.{◌≡◌, ◌∙◌, ℕ, ◌≤◌, inl, inr, List, [], length, Option, Some, None, ap, sym, subst, arith}
use Rattle.std.specs.Prelude.{map, slice_get, slice_index, unwrap_or, IsSomeAnd}
use Rattle.std.proofs.lemmas.Bool.Decides.{leb_tells}
use Rattle.js_base.specs.declared.ids.HostId.{HostId}
use Rattle.event_text.specs.declared.event.Event.{Event}
use Rattle.event_text.specs.Lines.{LineShape}
use Rattle.host_code.specs.Code.{CodeShape}
use Rattle.net_world.specs.World.{WorldShape}
use Rattle.net_world.proofs.Present.{same_id}
use Rattle.record_merge.specs.Meeting.{Journal, MeetsJournals, IsFirstLeft, IsLeftAt, words_in}
use Rattle.record_merge.proofs.OneMeeting.{whole_place}

pub never_met : (code : CodeShape) (world : WorldShape) (said : List (List LineShape)) (host : HostId) (number : ℕ)
    (events : List Event) → IsLeftAt code world said host number → ¬ MeetsJournals code world (words_in said) events
never_met code world said host number events left = λ meets.
    let furthest = left.furthest events (map length (words_in said)) meets host in
    let end = whole_place (words_in said) host.0 in
    let before = left.first.left in
    omega (arith, furthest, end, before)

one_number : (found : Option LineShape) (number another : ℕ) → IsSomeAnd found (λ line. line.number ≡ number) →
    IsSomeAnd found (λ line. line.number ≡ another) → number ≡ another
one_number None number another one two = absurd one
one_number (Some line) number another one two = sym one ∙ two

-- a journal that is left is not before the first that is left
not_before : (journals : List Journal) (places reached : List ℕ) (host other : HostId) →
    slice_index places host.0 ≡ slice_index reached host.0 → IsFirstLeft journals places host →
    IsFirstLeft journals reached other → other.0 ≤ host.0
not_before journals places reached host other same one two = elim (leb_tells other.0 host.0) [
  | inl within ↦ within.1
  | inr before ↦
      let end = two.first host before.1 in
      let left = one.left in
      absurd (omega (arith, end, left, same))
]

pub one_left : (code : CodeShape) (world : WorldShape) (said : List (List LineShape)) (host other : HostId)
    (number another : ℕ) → IsLeftAt code world said host number → IsLeftAt code world said other another →
    (host ≡ other) × (number ≡ another)
one_left code world said host other number another one two =
    let places : (h : HostId) → slice_index one.places h.0 ≡ slice_index two.places h.0 =
    λ h.
    let back = one.furthest two.events two.places two.meets h in
    let forth = two.furthest one.events one.places one.meets h in
    omega (arith, back, forth) in
    let journals = words_in said in
    let low = not_before journals one.places two.places host other (places host) one.first two.first in
    let high = not_before journals two.places one.places other host (sym (places other)) two.first one.first in
    let same : host ≡ other = same_id host other (omega (arith, low, high)) in
    let lines : HostId → List LineShape = λ h. unwrap_or (slice_get said h.0) [] in
    let at : slice_index one.places host.0 ≡ slice_index two.places other.0 =
    places host ∙ ap (λ (h : HostId). slice_index two.places h.0) same in
    let there : IsSomeAnd (slice_get (lines other) (slice_index two.places other.0)) (λ line. line.number ≡ number) =
    subst (λ n. IsSomeAnd (slice_get (lines other) n) (λ line. line.number ≡ number)) at
    (subst (λ (h : HostId). IsSomeAnd (slice_get (lines h) (slice_index one.places host.0))
    (λ line. line.number ≡ number)) same one.line) in
    (same, one_number (slice_get (lines other) (slice_index two.places other.0)) number another there two.line)
