-- A world that stands for a configuration does so after any event that is none of the holder's.
use Rattle.std.proofs.Common.{◌≡◌, ◌∙◌, inl, inr, ℕ, ℤ, List, [], ◌∷◌, ◌++◌, Some}
use Rattle.std.proofs.Common.{refl, sym, ap, subst}
use Rattle.std.specs.Prelude.{slice_set, IsTrue}
use Rattle.js_base.specs.declared.ids.HostId.{HostId}
use Rattle.js_base.specs.declared.ids.FrameId.{FrameId}
use Rattle.jif_tree.specs.SourceRun.{Configuration}
use Rattle.host_core.specs.Host.{HostState}
use Rattle.event_text.specs.declared.event.Event.{Event}
use Rattle.net_world.specs.Fits.{HasOwnToken}
use Rattle.net_world.specs.World.{WorldShape, IsStep, state_at, has_halted, world_at_start}
use Rattle.split_rules.specs.Placed.{PlacedProgram}
use Rattle.split_rules.specs.Positions.{Forward}
use Rattle.typed_steps.specs.Variables.{CanSend, AreSent, HasWhatIsOwed}
use Rattle.typed_steps.proofs.Basics.{all_map}
use Rattle.typed_steps.specs.Views.{Split, View, entries_of}
use Rattle.typed_steps.proofs.Alike.{alike_both}
use Rattle.typed_steps.proofs.HeldSteps.{holds_kept}
use Rattle.integrity.specs.Exposed.{IsAsBefore}
use Rattle.integrity.specs.Holding.{Holder, runs, asked, answered, stuck, passes, lost, halted, IsHoldersEvent, IsTight}
use Rattle.integrity.specs.Standing.{threat_in, HasSends, HolderSends, StandsBy}
use Rattle.net_world.proofs.Moved.{either}
use Rattle.integrity.proofs.Among.{one_of_some, some_of}
use Rattle.integrity.proofs.HolderStays.{on_some}
use Rattle.integrity.proofs.OutsideEvents.{Leaves}
use Rattle.integrity.proofs.OutsideLaws.{AreLaws, known}
use Rattle.integrity.proofs.OpenSteps.{IsKnown}
use Rattle.integrity.proofs.TightLaws.{lawful, event_leaves, tight_after}
use Rattle.integrity.specs.Outside.{Threat, threat_of}
use Rattle.token_laws.specs.Reached.{IsReached}
use Rattle.token_laws.proofs.Walks.{fits_there, one_more, own_there}
use Rattle.token_laws.proofs.WorldTokens.{account}
use Rattle.host_code.specs.Sound.{IsSoundCode}
use Rattle.split_rules.specs.Allowed.{IsAllowed}
use Rattle.split_rules.specs.SplitCode.{split_code}
use Rattle.split_rules.specs.Splittable.{IsSplittable}
use Rattle.split_rules.specs.TypedCode.{IsTypedCode}

-- what is still to be sent has the values that it had, or may be affected
sent_kept : (split : Split) (values : ℕ → ℤ) (frame : FrameId) (old new : HostState) (host : HostId)
    (out : List Forward) → IsAsBefore split.exposure old new → AreSent split values (old.variables frame) host out →
    AreSent split values (new.variables frame) host out
sent_kept split values frame old new host out before sent =
    all_map (CanSend split values (old.variables frame) host) (CanSend split values (new.variables frame) host)
    (λ forward can. (
      alike_both split.exposure forward.variable _ _ _ (before.variables frame forward.variable) can.0,
      can.1,
    )) out sent

has_sends : (split : Split) (c : Configuration) (view : View) (holder : Holder) (world after : WorldShape)
    (host : HostId) → Leaves (threat_in split) (entries_of view.chain) holder world after →
    HasSends split view world host → HasSends split view after host
has_sends split c view holder world after host leaves has =
    let move = leaves.alone in
    on_some world after move.me host move.old move.new move.obeys move.puts
    (λ state. HasWhatIsOwed split view state host) has
    (λ is. sent_kept split (view.values view.sender) (view.naming.frame view.sender) move.old move.new host view.out
    leaves.stays)

sends_after : (split : Split) (c : Configuration) (view : View) (holder : Holder) (world after : WorldShape) →
    Leaves (threat_in split) (entries_of view.chain) holder world after → HolderSends split view world holder →
    HolderSends split view after holder
sends_after split c view (runs host thread) world after leaves has =
    has_sends split c view (runs host thread) world after host leaves has
sends_after split c view (asked host waiting m) world after leaves has =
    has_sends split c view (asked host waiting m) world after host leaves has
sends_after split c view (answered host waiting m) world after leaves has =
    has_sends split c view (answered host waiting m) world after host leaves has
sends_after split c view (stuck host waiting) world after leaves has =
    has_sends split c view (stuck host waiting) world after host leaves has
sends_after split c view (passes from to m) world after leaves has = tt
sends_after split c view lost world after leaves has = tt
sends_after split c view halted world after leaves has = tt

-- a host that has halted had halted before
pub halted_before : (world after : WorldShape) (root me : HostId) (old new : HostState) →
    state_at world me ≡ Some old → after.hosts ≡ slice_set world.hosts me.0 (Some new) → new.halted ≡ old.halted →
    has_halted root after → has_halted root world
halted_before world after root me old new obeys puts same has =
    let at = one_of_some (state_at after root) (λ s. IsTrue s.halted) has in
    elim (either world after me old new after.flying obeys (record { hosts = puts; flying = refl }) root at.one at.is) [
      | inl mover ↦
          some_of (state_at world root) (λ s. IsTrue s.halted) old (ap (state_at world) mover.same ∙ obeys)
          (sym same ∙ ap (λ (s : HostState). s.halted) (sym mover.is) ∙ at.has)
      | inr other ↦ some_of (state_at world root) (λ s. IsTrue s.halted) at.one other.obeys at.has
    ]

pub stands_after : (split : Split) (c : Configuration) (view : View) (holder : Holder) (world after : WorldShape) →
    StandsBy split c view holder world → Leaves (threat_in split) (entries_of view.chain) holder world after →
    IsTight (threat_in split) (entries_of view.chain) holder after → StandsBy split c view holder after
stands_after split c view holder world after stands leaves tight =
    let move = leaves.alone in
    record {
      tight = tight;
      holds = holds_kept split c view world after move.me move.old move.new after.flying stands.holds move.obeys
          (record { hosts = move.puts; flying = refl }) (λ number. leaves.stays.rows (record { 0 = number }))
          leaves.stays.variables (λ site. leaves.frames site.0);
      sends = sends_after split c view holder world after leaves stands.sends;
      does = stands.does;
      halts = λ has.
          stands.halts (halted_before world after split.code.root move.me move.old move.new move.obeys move.puts
          leaves.halts has);
    }

-- ---- the law

-- what is known of the code of a split program
pub known_in : AreLaws → (split : Split) (placed : PlacedProgram) (bad : ℕ) → threat_in split
    ≡ threat_of placed split.table bad → IsSplittable placed → IsAllowed placed → IsKnown (threat_in split)
known_in laws split placed bad is splittable allowed =
    let planned = ap (λ (t : Threat). t.planned) is in
    let code = ap (λ (t : Threat). t.code) is in
    subst (λ t. IsKnown t) (sym is)
    (known laws placed split.table bad splittable allowed
    (subst (λ p. IsTypedCode p (split_code placed) split.table) planned
    (subst (λ k. IsTypedCode split.planned k split.table) code split.typed))
    (subst (λ k. IsSoundCode k) code split.sound))

pub stands_kept : AreLaws → (split : Split) (placed : PlacedProgram) (bad : ℕ) (store : List (List ℤ))
    (events : List Event) (world after : WorldShape)
    (event : Event) (c : Configuration) (view : View) (holder : Holder) →
    threat_in split ≡ threat_of placed split.table bad → IsSplittable placed →
    IsAllowed placed → IsReached split.code placed.hosts.hosts bad store events world →
    HasOwnToken (world_at_start split.code placed.hosts.hosts bad store) event → IsStep split.code world event after →
    StandsBy split c view holder world → ¬ IsHoldersEvent holder world event → StandsBy split c view holder after
stands_kept laws split placed bad store events world after event c view holder same splittable
    allowed reach own step stands apart =
    let threat = threat_in split in
    let chain = entries_of view.chain in
    let is =
    lawful threat placed.hosts.hosts bad store events world (ap (λ (t : Threat). t.exposure.bad) same) reach in
    let own_here = own_there split.code placed.hosts.hosts bad store events world event reach own in
    let next = one_more split.code placed.hosts.hosts bad store events world after event reach own step in
    let leaves =
    event_leaves threat (known_in laws split placed bad same splittable allowed) chain holder world
    after event is own_here step stands.tight apart in
    stands_after split c view holder world after stands leaves
    (tight_after threat chain holder world after is
    (fits_there split.code placed.hosts.hosts bad store (events ++ event ∷ []) after next)
    (account split.code world after event reach.sound is.fits own_here step) stands.tight leaves)
