-- Stages one after the other have an outcome where each has one.
use Rattle.std.proofs.Common.{refl, inl, inr}
use Rattle.front_end.specs.Verdicts.{VerdictShape}
use Rattle.front_end.specs.Stages.{StageEnd, given, stopped, Then, DueThen}

-- the stage ends with something
abbrev pub HasOutcome : {X : Type 0} → (StageEnd X → Type 0) → Type 0
HasOutcome {X} P = (end : StageEnd X) × P end

-- something is due
abbrev pub HasVerdict : (VerdictShape → Type 0) → Type 0
HasVerdict P = (verdict : VerdictShape) × P verdict

then_after : {X Y : Type 0} (First : StageEnd X → Type 0) (Next : X → StageEnd Y → Type 0) (end : StageEnd X) →
    First end → ((x : X) → First (given x) → HasOutcome (Next x)) → HasOutcome (Then First Next)
then_after First Next (given x) was next = let more = next x was in (more.0, inl (x, was, more.1))
then_after First Next (stopped verdict) was next = (stopped verdict, inr (verdict, was, refl))

-- two stages have an outcome where each has
pub some_then : {X Y : Type 0} (First : StageEnd X → Type 0) (Next : X → StageEnd Y → Type 0) → HasOutcome First →
    ((x : X) → First (given x) → HasOutcome (Next x)) → HasOutcome (Then First Next)
some_then First Next some next = then_after First Next some.0 some.1 next

due_after : {X : Type 0} (First : StageEnd X → Type 0) (Last : X → VerdictShape → Type 0) (end : StageEnd X) →
    First end → ((x : X) → First (given x) → HasVerdict (Last x)) → HasVerdict (DueThen First Last)
due_after First Last (given x) was last = let more = last x was in (more.0, inl (x, was, more.1))
due_after First Last (stopped verdict) was last = (verdict, inr was)

-- after a stage something is due where it is for what the stage gives
pub some_due : {X : Type 0} (First : StageEnd X → Type 0) (Last : X → VerdictShape → Type 0) → HasOutcome First →
    ((x : X) → First (given x) → HasVerdict (Last x)) → HasVerdict (DueThen First Last)
some_due First Last some last = due_after First Last some.0 some.1 last
