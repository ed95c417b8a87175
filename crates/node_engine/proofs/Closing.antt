-- The closing frames, one after the other.
use Rattle.std.proofs.Common.{◌≡◌, ℕ, suc, ◌+◌, ◌-◌, ◌<◌, ◌≤◌, ◌++◌, inl, inr}
use Rattle.std.proofs.Common.{refl, sym, ap, subst, arith}
use Rattle.std.proofs.lemmas.Bool.Decides.{eqb_tells}
use Rattle.js_base.specs.declared.ids.HostId.{HostId}
use Rattle.wire_msg.specs.declared.frame.Frame.TheVariants as frame
use Rattle.wire_msg.specs.Spelling.{frame_bytes}
use Rattle.node_engine.specs.declared.node_error.NodeError.{NodeError}
use Rattle.node_seals.specs.Seals.{SealsShape, after_sealing}
use Rattle.node_engine.specs.Serving.{after_telling, closing_from, telling}
use Rattle.node_engine.specs.Told.{Seen, PartsAreDone, Stops}
use Rattle.node_engine.specs.Units.{frame_parts}
use Rattle.node_engine.proofs.Breaking.{all_done, does_nothing, stops_before, stops_behind}

-- ---- one host is told

other_is_told : (me : HostId) (seals : SealsShape) (number : ℕ) → (number ≡ me.0 → ⊥) →
    telling me seals number ≡ frame_parts seals (record { 0 = number }) (frame_bytes me frame.Done)
other_is_told me seals number other = elim (eqb_tells number me.0) [
  | inl same ↦ absurd (other same.1)
  | inr not ↦ rw not.0 refl
]

pub other_is_sealed : (me : HostId) (seals : SealsShape) (number : ℕ) → (number ≡ me.0 → ⊥) →
    after_sealing (record { 0 = number }) seals ≡ after_telling me seals number
other_is_sealed me seals number other = elim (eqb_tells number me.0) [
  | inl same ↦ absurd (other same.1)
  | inr not ↦ rw not.0 refl
]

pub told_does : (me : HostId) (seals : SealsShape) (number : ℕ) (old new : Seen) → (number ≡ me.0 → ⊥) →
    PartsAreDone (frame_parts seals (record { 0 = number }) (frame_bytes me frame.Done)) old new →
    PartsAreDone (telling me seals number) old new
told_does me seals number old new other does =
    subst (λ parts. PartsAreDone parts old new) (sym (other_is_told me seals number other)) does

pub told_stops : (error : NodeError) (me : HostId) (seals : SealsShape) (number : ℕ) (old new : Seen) →
    (number ≡ me.0 → ⊥) →
    Stops error (frame_parts seals (record { 0 = number }) (frame_bytes me frame.Done)) old new →
    Stops error (telling me seals number) old new
told_stops error me seals number old new other stops =
    subst (λ parts. Stops error parts old new) (sym (other_is_told me seals number other)) stops

-- it is the node's own
pub own_is_told : (me : HostId) (seals : SealsShape) (number : ℕ) (there : Seen) → number ≡ me.0 →
    PartsAreDone (telling me seals number) there there
own_is_told me seals number there same = elim (eqb_tells number me.0) [
  | inl is ↦ rw is.0 (does_nothing there)
  | inr not ↦ absurd (not.1 same)
]

pub own_is_as_before : (me : HostId) (seals : SealsShape) (number : ℕ) → number ≡ me.0 →
    seals ≡ after_telling me seals number
own_is_as_before me seals number same = elim (eqb_tells number me.0) [
  | inl is ↦ rw is.0 refl
  | inr not ↦ absurd (not.1 same)
]

-- ---- the hosts that are left

-- Whatever does the rest of the closing frames from here does all of them from the start, and so with what breaks.
abbrev pub Completes : HostId → (count number : ℕ) → (start seals : SealsShape) → (first here : Seen) → Type 0
Completes me count number start seals first here =
    (new : Seen) →
    (PartsAreDone (closing_from me seals number (count - number)) here new →
    PartsAreDone (closing_from me start 0 count) first new)
    × ((error : NodeError) → Stops error (closing_from me seals number (count - number)) here new →
    Stops error (closing_from me start 0 count) first new)

next_host : (me : HostId) (seals : SealsShape) (count number : ℕ) → number < count →
    closing_from me seals number (count - number)
    ≡ telling me seals number ++ closing_from me (after_telling me seals number) (number + 1) (count - (number + 1))
next_host me seals count number lt =
    let left : count - number ≡ suc (count - (number + 1)) = omega arith in
    ap (closing_from me seals number) left

pub goes_on_telling : (me : HostId) (count number : ℕ) (start seals behind : SealsShape) (first here next : Seen) →
    number < count → Completes me count number start seals first here →
    PartsAreDone (telling me seals number) here next →
    behind ≡ after_telling me seals number → Completes me count (number + 1) start behind first next
goes_on_telling me count number start seals behind first here next lt completes does is =
    let others = closing_from me (after_telling me seals number) (number + 1) (count - (number + 1)) in
    let with_next = next_host me seals count number lt in
    subst (λ (s : SealsShape). Completes me count (number + 1) start s first next) (sym is)
    (λ new. (
      (λ rest. (completes new).0
          (subst (λ parts. PartsAreDone parts here new) (sym with_next)
          (all_done (telling me seals number) others here next new does rest))),
      (λ error rest. (completes new).1 error
          (subst (λ parts. Stops error parts here new) (sym with_next)
          (stops_behind error (telling me seals number) others here next new does rest))),
    ))

pub stops_telling : (me : HostId) (count number : ℕ) (start seals : SealsShape) (first here new : Seen)
    (error : NodeError) → number < count → Completes me count number start seals first here →
    Stops error (telling me seals number) here new → Stops error (closing_from me start 0 count) first new
stops_telling me count number start seals first here new error lt completes stops =
    (completes new).1 error
    (subst (λ parts. Stops error parts here new) (sym (next_host me seals count number lt))
    (stops_before error (telling me seals number) _ here new stops))

-- none is left
pub all_told : (me : HostId) (count number : ℕ) (start seals : SealsShape) (first here : Seen) → count ≤ number →
    Completes me count number start seals first here → PartsAreDone (closing_from me start 0 count) first here
all_told me count number start seals first here past completes =
    let none : count - number ≡ 0 = omega arith in
    (completes here).0
    (subst (λ left. PartsAreDone (closing_from me seals number left) here here) (sym none) (does_nothing here))
