-- What an event did to the control stack of its host, and the stacks that follow it.
use Rattle.std.proofs.Common.{◌≡◌, ◌∙◌, ℕ, suc, ◌<◌, List, ◌∷◌, length, Option, Some, None, Result, Ok, Err, ap}
use Rattle.std.proofs.Common.{sym, refl, subst, inl, inr, arith, length-set}
use Rattle.std.specs.Prelude.{IfOk, IfSome, IsSomeAnd, slice_get, slice_set}
use Rattle.std.proofs.lemmas.Bool.Decides.{eqb_tells}
use Rattle.js_base.specs.declared.ids.HostId.{HostId}
use Rattle.js_base.specs.declared.ids.EntryId.{EntryId}
use Rattle.ics_stack.specs.declared.stack.StackEntry.{StackEntry}
use Rattle.host_code.specs.Code.{CodeShape, instruction_at}
use Rattle.host_code.specs.Thread.{ThreadShape}
use Rattle.host_core.specs.Host.{HostState}
use Rattle.event_text.specs.declared.event.Event.{Event}
use Rattle.event_text.specs.declared.event.Event.TheVariants.{Take, Turn, Act}
use Rattle.net_world.specs.Fits.{ShapeFits}
use Rattle.net_world.specs.World.{WorldShape, IsStep, given, state_at, tokens_sent, mover}
use Rattle.net_world.proofs.Present.{same_id}
use Rattle.net_world.proofs.StepLaws.{others_stay}
use Rattle.run_rows.specs.declared.row.Change.{Change}
use Rattle.run_rows.specs.declared.row.What.{What}
use Rattle.run_rows.specs.declared.row.What.TheVariants as what
use Rattle.run_rows.specs.Rows.{IsWhat}
use Rattle.run_rows.specs.Stacks.{HasChanged, IsStackStep, IsStackChange, AreStacks, entries_in, entries_of, stack_at}
use Rattle.run_rows.specs.Stacks.{pushed_in, instruction_pushes}
use Rattle.run_rows.proofs.AskedIn.{same_pushes}
use Rattle.run_rows.specs.Stacks.{HaveFirstStacks, first_stack}
use Rattle.run_rows.proofs.Ignoring.{numbered, numbered_host}
use Rattle.run_rows.proofs.StackLists.{stack_put, stack_beside}
use Rattle.run_rows.proofs.StatesOf.{and_some, after_take, after_turn, after_act}
use Rattle.run_rows.proofs.TakenOff.{taking_stacks}
use Rattle.run_rows.proofs.TurnTraces.{turn_stacks}

pub ok_both : {X E : Type 0} (r : Result X E) (P Q R : X → Type 0) → ((x : X) → P x → Q x → R x) → IfOk r P →
    IfOk r Q → IfOk r R
ok_both (Ok x) P Q R both one other = both x one other
ok_both (Err e) P Q R both one other = tt

-- ---- one stack

changed : (pushes : Option EntryId) (before after : List StackEntry) (old new : List EntryId) (did : Change) →
    IsStackStep pushes before after → IsStackChange pushes (length before) (length after) old new did →
    entries_of before ≡ old → HasChanged before after did × (entries_of after ≡ new)
changed pushes before after old new did (inl same) follows is =
    let it = follows.same (ap length (sym same)) in
    (subst (HasChanged before after) (sym it.0) same, ap entries_of same ∙ is ∙ sym it.1)
changed pushes before after old new did (inr (inl (top, more, pushed))) follows is =
    let long : length after ≡ suc (length before) = ap length more in
    let it = follows.pushed (omega arith) top.entry pushed in (
      subst (HasChanged before after) (sym it.0) (top, more, refl),
      ap entries_of more ∙ ap (λ (rest : List EntryId). top.entry ∷ rest) is ∙ sym it.1,
    )
changed pushes before after old new did (inr (inr (top, less))) follows is =
    let long : length before ≡ suc (length after) = ap length less in
    let it = follows.taken (omega arith) top.entry (entries_of after) (sym is ∙ ap entries_of less) in
    (subst (HasChanged before after) (sym it.0) (top, less, refl), sym it.1)

-- ---- the stack of an event's host

-- the states of an event's host
pub record Moves (world next : WorldShape) (host : HostId) (pushes : Option EntryId) : Type 0 where
  pub before : HostState
  pub after : HostState
  pub was : state_at world host ≡ Some before
  pub is : state_at next host ≡ Some after
  pub steps : IsStackStep pushes before.entries after.entries

running_at : (running : Option ThreadShape) (host : HostId) (found : What) →
    IsSomeAnd running (λ thread. found ≡ what.Turn host thread.at) →
    (thread : ThreadShape) × (running ≡ Some thread) × (found ≡ what.Turn host thread.at)
running_at None host found is = absurd is
running_at (Some thread) host found is = (thread, refl, is)

pub moves : (code : CodeShape) (world next : WorldShape) (event : Event) (found : What) → ShapeFits code world →
    IsStep code world event next → IsWhat world event found →
    Moves world next (mover event) (pushed_in code found)
moves code world next (Turn host) found fits step is =
    let runs = running_at step.state.running host found (and_some (state_at world host) step.state _ step.obeys is) in
    let number = numbered code world host step.state fits step.obeys in
    record {
      before = step.state;
      after = step.outcome.state;
      was = step.obeys;
      is = after_turn code world next host step;
      steps = subst (λ (w : What). IsStackStep (pushed_in code w) step.state.entries step.outcome.state.entries)
          (sym runs.2)
          (subst (λ (h : HostId). IsStackStep (instruction_pushes (instruction_at code h runs.0.at)) step.state.entries
          step.outcome.state.entries) number
          (turn_stacks code step.state runs.0 step.outcome runs.1 step.turns));
    }
moves code world next (Take from to place) found fits step is =
    let taken = and_some (slice_get (world.flying from to) place) step.flight _ step.there is in
    record {
      before = step.state;
      after = step.outcome.state;
      was = step.obeys;
      is = after_take code world next from to place step;
      steps = subst (λ (w : What). IsStackStep (pushed_in code w) step.state.entries step.outcome.state.entries)
          (sym taken)
          (taking_stacks code step.state from step.flight.message step.outcome step.takes);
    }
moves code world next (Act from to made) found fits step is = record {
  before = step.state;
  after = step.outcome.state;
  was = step.obeys;
  is = after_act code world next from to made step;
  steps = subst (λ (w : What). IsStackStep (pushed_in code w) step.state.entries step.outcome.state.entries) (sym is)
      (subst (λ (pushes : Option EntryId). IsStackStep pushes step.state.entries step.outcome.state.entries)
      (same_pushes (tokens_sent world) made step.message step.makes)
      (taking_stacks code step.state from step.message step.outcome step.takes));
}

-- ---- all stacks

stands : (world : WorldShape) (stacks : List (List EntryId)) (host : HostId) (state : HostState) →
    AreStacks world stacks → state_at world host ≡ Some state →
    (host.0 < length stacks) × (entries_of state.entries ≡ stack_at stacks host)
stands world stacks host state are is =
    subst (λ (o : Option HostState). IfSome o (λ one.
    (host.0 < length stacks) × (entries_of one.entries ≡ stack_at stacks host))) is (are host)

follow_all : (code : CodeShape) (world next : WorldShape) (event : Event) (stacks : List (List EntryId))
    (new : List EntryId) (after : HostState) → IsStep code world event next → AreStacks world stacks →
    (mover event).0 < length stacks → state_at next (mover event) ≡ Some after → entries_of after.entries ≡ new →
    AreStacks next (slice_set stacks (mover event).0 new)
follow_all code world next event stacks new after step are within is same host =
    let host_is = mover event in
    let all = slice_set stacks host_is.0 new in
    let long : length all ≡ length stacks = length-set stacks host_is.0 new in
    let P : HostId → HostState → Type 0 =
    λ h one. (h.0 < length all) × (entries_of one.entries ≡ stack_at all h) in
    elim (eqb_tells host.0 host_is.0) [
      | inl at ↦
          subst (λ (h : HostId). IfSome (state_at next h) (P h)) (sym (same_id host host_is at.1))
          (subst (λ (o : Option HostState). IfSome o (P host_is)) (sym is)
          (omega (arith, long, within), same ∙ sym (stack_put stacks host_is new within)))
      | inr apart ↦
          subst (λ (o : Option HostState). IfSome o (P host))
          (sym (ap given (others_stay code world next event host step apart.1)))
          (kept (state_at world host) host all stacks long (stack_beside stacks host_is host new apart.1) (are host))
    ]
  where
    kept : (o : Option HostState) (h : HostId) (all some : List (List EntryId)) → length all ≡ length some →
        stack_at all h ≡ stack_at some h →
        IfSome o (λ one. (h.0 < length some) × (entries_of one.entries ≡ stack_at some h)) →
        IfSome o (λ one. (h.0 < length all) × (entries_of one.entries ≡ stack_at all h))
    kept None h all some long beside was = tt
    kept (Some one) h all some long beside was = (omega (arith, long, was.0), was.1 ∙ sym beside)

-- what an event did, by the counts of entries, and the stacks that follow
pub did_after : (code : CodeShape) (world next : WorldShape) (event : Event) (found : What) (did : Change)
    (stacks : List (List EntryId)) (new : List (List EntryId)) (depth later : ℕ) → ShapeFits code world →
    IsStep code world event next → IsWhat world event found → AreStacks world stacks →
    depth ≡ length (entries_in (state_at world (mover event))) →
    later ≡ length (entries_in (state_at next (mover event))) →
    ((mover event).0 < length stacks →
    IsStackChange (pushed_in code found) depth later (stack_at stacks (mover event)) (stack_at new (mover event)) did) →
    ((mover event).0 < length stacks → new ≡ slice_set stacks (mover event).0 (stack_at new (mover event))) →
    HasChanged (entries_in (state_at world (mover event))) (entries_in (state_at next (mover event))) did
    × AreStacks next new
did_after code world next event found did stacks new depth later fits step is are deep deeper follows puts =
    let host = mover event in
    let moved = moves code world next event found fits step is in
    let stood = stands world stacks host moved.before are moved.was in
    let was : entries_in (state_at world host) ≡ moved.before.entries = ap entries_in moved.was in
    let now : entries_in (state_at next host) ≡ moved.after.entries = ap entries_in moved.is in
    let counted = subst (λ (n : ℕ). IsStackChange (pushed_in code found) n (length moved.after.entries)
    (stack_at stacks host) (stack_at new host) did) (deep ∙ ap length was)
    (subst (λ (n : ℕ). IsStackChange (pushed_in code found) depth n (stack_at stacks host) (stack_at new host) did)
    (deeper ∙ ap length now) (follows stood.0)) in
    let both = changed (pushed_in code found) moved.before.entries moved.after.entries (stack_at stacks host)
    (stack_at new host) did moved.steps counted stood.1 in (
      subst (λ (entries : List StackEntry). HasChanged entries (entries_in (state_at next host)) did) (sym was)
          (subst (λ (entries : List StackEntry). HasChanged moved.before.entries entries did) (sym now) both.0),
      subst (AreStacks next) (sym (puts stood.0))
          (follow_all code world next event stacks (stack_at new host) moved.after step are stood.0 moved.is both.1),
    )

-- before the first event
pub are_first : (code : CodeShape) (world : WorldShape) (stacks : List (List EntryId)) → ShapeFits code world →
    HaveFirstStacks code world → length stacks ≡ length code.hosts →
    ((host : HostId) → host.0 < length code.hosts → stack_at stacks host ≡ first_stack code host) →
    AreStacks world stacks
are_first code world stacks fits have long first host = at (state_at world host) refl
  where
    at : (o : Option HostState) → state_at world host ≡ o →
        IfSome o (λ state. (host.0 < length stacks) × (entries_of state.entries ≡ stack_at stacks host))
    at None is = tt
    at (Some state) is =
        let within : host.0 < length code.hosts = numbered_host code world host state fits is in
        let own : entries_of state.entries ≡ first_stack code host =
        subst (λ (o : Option HostState). IfSome o (λ one. entries_of one.entries ≡ first_stack code host)) is
        (have host) in
        (omega arith, own ∙ sym (first host within))
