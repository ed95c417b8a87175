-- What a step of one host leaves of what holds of a world.
use Rattle.std.proofs.Common.{◌≡◌, ◌≢◌, ◌∙◌, inl, inr, false, List, []}
use Rattle.std.proofs.Common.{length, Some, None, refl, ap, sym, subst, length-set}
use Rattle.js_base.specs.declared.ids.HostId.{HostId}
use Rattle.host_core.specs.Host.{HostState}
use Rattle.net_world.specs.Flying.{Flying}
use Rattle.net_world.specs.World.{WorldShape, state_at}
use Rattle.net_world.proofs.Moved.{Moved, either, bad_moved}
use Rattle.typed_steps.specs.Views.{Link}
use Rattle.simulation.proofs.Simulates.{on_stack, Holder, IsIdle, IsOrderly, AreStacks, AreIdle}
use Rattle.typed_steps.specs.Views.{Split}

-- ---- the world

pub orderly_moved : (split : Split) (world after : WorldShape) (host : HostId) (old state : HostState)
    (flying : Flying) → IsOrderly split world → state_at world host ≡ Some old →
    Moved world host state flying after → state.me ≡ old.me → state.ignored ≡ old.ignored → IsOrderly split after
orderly_moved split world after host old state flying orderly obeys moved me ignored = record {
  unaffected = orderly.unaffected;
  count = ap length moved.hosts ∙ length-set world.hosts host.0 (Some state) ∙ orderly.count;
  none_bad = λ other. bad_moved world after host old state flying obeys moved other ∙ orderly.none_bad other;
  numbers = λ other there is. elim (either world after host old state flying obeys moved other there is) [
    | inl mover ↦ ap (λ (s : HostState). s.me) mover.is ∙ me ∙ orderly.numbers host old obeys ∙ sym mover.same
    | inr other_one ↦ orderly.numbers other there other_one.obeys
  ];
  ignored = λ other there is. elim (either world after host old state flying obeys moved other there is) [
    | inl mover ↦ ap (λ (s : HostState). s.ignored) mover.is ∙ ignored ∙ orderly.ignored host old obeys
    | inr other_one ↦ orderly.ignored other there other_one.obeys
  ];
}

-- no host has halted
abbrev pub NoneHalted : WorldShape → Type 0
NoneHalted world = (host : HostId) (state : HostState) → state_at world host ≡ Some state → state.halted ≡ false

pub none_halted_moved : (world after : WorldShape) (host : HostId) (old state : HostState) (flying : Flying) →
    NoneHalted world → state_at world host ≡ Some old → Moved world host state flying after →
    state.halted ≡ false → NoneHalted after
none_halted_moved world after host old state flying none obeys moved goes_on other there is =
    elim (either world after host old state flying obeys moved other there is) [
      | inl mover ↦ ap (λ (s : HostState). s.halted) mover.is ∙ goes_on
      | inr other_one ↦ none other there other_one.obeys
    ]

pub stacks_moved : (chain now : List Link) (world after : WorldShape) (host : HostId) (old state : HostState)
    (flying : Flying) → AreStacks chain world → state_at world host ≡ Some old →
    Moved world host state flying after → state.entries ≡ on_stack host now →
    ((other : HostId) → other.0 ≢ host.0 → on_stack other now ≡ on_stack other chain) → AreStacks now after
stacks_moved chain now world after host old state flying stacks obeys moved own others other there is =
    elim (either world after host old state flying obeys moved other there is) [
      | inl mover ↦ ap (λ (s : HostState). s.entries) mover.is ∙ own ∙ ap (λ h. on_stack h now) (sym mover.same)
      | inr other_one ↦ stacks other there other_one.obeys ∙ sym (others other other_one.apart)
    ]

-- a step that leaves the stack alone
pub stacks_same : (chain : List Link) (world after : WorldShape) (host : HostId) (old state : HostState)
    (flying : Flying) → AreStacks chain world → state_at world host ≡ Some old →
    Moved world host state flying after → state.entries ≡ old.entries → AreStacks chain after
stacks_same chain world after host old state flying stacks obeys moved same =
    stacks_moved chain chain world after host old state flying stacks obeys moved (same ∙ stacks host old obeys)
    (λ other apart. refl)

pub idle_moved : (holder now : Holder) (world after : WorldShape) (host : HostId) (old state : HostState)
    (flying : Flying) → AreIdle holder world → state_at world host ≡ Some old →
    Moved world host state flying after →
    ((other : HostId) → other.0 ≢ host.0 → IsIdle now other → IsIdle holder other) →
    (IsIdle now host → (state.running ≡ None) × (state.waiting ≡ [])) → AreIdle now after
idle_moved holder now world after host old state flying idle obeys moved others own other there is rests =
    elim (either world after host old state flying obeys moved other there is) [
      | inl mover ↦
          subst (λ (s : HostState). (s.running ≡ None) × (s.waiting ≡ [])) (sym mover.is)
          (own (subst (IsIdle now) mover.same rests))
      | inr other_one ↦ idle other there other_one.obeys (others other other_one.apart rests)
    ]
