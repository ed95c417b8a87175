-- A part is refused for one thing, and a sound part for nothing but want of memory.
use Rattle.std.proofs.Common.{◌≡◌, ◌≢◌, ◌<◌, ℕ, ap, ap₂, sym, subst, inl, inr, refl, arith}
use Rattle.std.proofs.lemmas.Bool.{cases_lt}
use Rattle.js_base.specs.declared.ids.HostId.{HostId}
use Rattle.js_base.specs.declared.ids.EntryId.{EntryId}
use Rattle.host_code.specs.Code.{CodeShape}
use Rattle.part_verify.specs.declared.errors.VerifyError.{VerifyError}
use Rattle.part_verify.specs.declared.errors.VerifyError.TheVariants.{OutOfMemory, WeakEntry, Reveals}
use Rattle.part_verify.specs.SoundPart.{IsSoundPart, AreNeedsKept}
use Rattle.part_verify.specs.Refusing.{BreaksNeed, IsPartRefusedFor}
use Rattle.part_verify.proofs.Needs.{same_number}

-- of two numbers that are first in their order none is before the other
first_of_both : (first second : ℕ) → (first < second → ⊥) → (second < first → ⊥) → first ≡ second
first_of_both first second not_before not_behind = elim (cases_lt first second) [
  | inl before ↦ absurd (not_before before)
  | inr from ↦ elim (cases_lt second first) [
    | inl behind ↦ absurd (not_behind behind)
    | inr other ↦ omega (arith, from, other)
  ]
]

none_broken : (code : CodeShape) (me : HostId) (there : EntryId) (place : ℕ) → AreNeedsKept code me →
    BreaksNeed code me there place → ⊥
none_broken code me there place kept breaks = breaks.3 (kept there place breaks.0 breaks.1 breaks.2)

pub one_refusal : (code : CodeShape) (me : HostId) (first second : VerifyError) → first ≢ OutOfMemory →
    second ≢ OutOfMemory → IsPartRefusedFor code me first → IsPartRefusedFor code me second → first ≡ second
one_refusal code me OutOfMemory second no_memory other one two = absurd (no_memory refl)
one_refusal code me (WeakEntry there place) OutOfMemory other no_memory one two = absurd (no_memory refl)
one_refusal code me (WeakEntry there place) (WeakEntry again at) memory more one two =
    let same : there ≡ again = same_number there again (first_of_both there.0 again.0
    (λ before. two.2 there place before one.0) (λ before. one.2 again at before two.0)) in
    let here : BreaksNeed code me there at = subst (λ (entry : EntryId). BreaksNeed code me entry at) (sym same) two.0
    in
    let there_too : BreaksNeed code me again place = subst (λ (entry : EntryId). BreaksNeed code me entry place) same
    one.0 in
    let place_is : place ≡ at = first_of_both place at (λ before. two.1 place before there_too)
    (λ before. one.1 at before here) in
    ap₂ WeakEntry same place_is
one_refusal code me (WeakEntry there place) (Reveals at) memory more one two =
    absurd (none_broken code me there place two.0 one.0)
one_refusal code me (Reveals place) OutOfMemory memory no_memory one two = absurd (no_memory refl)
one_refusal code me (Reveals place) (WeakEntry again at) memory more one two =
    absurd (none_broken code me again at one.0 two.0)
one_refusal code me (Reveals place) (Reveals at) memory more one two =
    ap Reveals (first_of_both place at (λ before. two.2 place before one.1) (λ before. one.2 at before two.1))

pub never_both : (code : CodeShape) (me : HostId) (error : VerifyError) → IsSoundPart code me →
    IsPartRefusedFor code me error → error ≡ OutOfMemory
never_both code me OutOfMemory sound refused = refl
never_both code me (WeakEntry there place) sound refused =
    absurd (none_broken code me there place sound.needs refused.0)
never_both code me (Reveals place) sound refused = absurd (refused.1.2 (sound.shows place refused.1.0 refused.1.1))
