-- Every event of a loose world: its first token is still to be given back, or was, and the chain is tight again.
use Rattle.std.proofs.Common.{◌≡◌, ◌∙◌, inl, inr, ℕ, ℤ, List, [], ◌∷◌, ◌++◌, Option, Some, None, sym, ap, subst}
use Rattle.std.proofs.Common.{refl}
use Rattle.std.specs.Prelude.{slice_get}
use Rattle.js_base.proofs.Decisions.{Decided, as_well, both}
use Rattle.js_base.specs.declared.ids.HostId.{HostId}
use Rattle.jif_tree.specs.SourceRun.{Configuration}
use Rattle.capability.specs.declared.token.Token.{Token}
use Rattle.ics_stack.specs.Stack.{top_token}
use Rattle.host_code.specs.declared.instruction.Instr.{Instr}
use Rattle.host_code.specs.declared.instruction.Op.{Op}
use Rattle.host_code.specs.declared.instruction.Op.TheVariants as op
use Rattle.host_code.specs.declared.message.Message.{Message}
use Rattle.host_code.specs.declared.message.Message.TheVariants as message
use Rattle.host_code.specs.Code.{CodeShape, instruction_at}
use Rattle.host_code.specs.Thread.{ThreadShape}
use Rattle.host_core.proofs.SomeOutcome.{same_token, some_token}
use Rattle.event_text.specs.declared.event.Event.{Event}
use Rattle.event_text.specs.declared.event.Event.TheVariants.{Take, Turn, Act}
use Rattle.event_text.specs.declared.event.BadMessage.{BadMessage}
use Rattle.net_world.specs.Fits.{ShapeFits, HasOwnToken, OwnTokenIn}
use Rattle.net_world.specs.Told.{message_made}
use Rattle.net_world.specs.World.{WorldShape, IsStep, IsTakeStep, IsTurnStep, IsActStep, tokens_sent, world_at_start}
use Rattle.split_rules.specs.Placed.{PlacedProgram}
use Rattle.split_rules.specs.Allowed.{IsAllowed}
use Rattle.split_rules.specs.Splittable.{IsSplittable}
use Rattle.token_laws.specs.Reached.{IsReached}
use Rattle.token_laws.proofs.Walks.{fits_there, one_more, own_there}
use Rattle.token_laws.proofs.WorldTokens.{Accounts, account}
use Rattle.typed_steps.specs.Views.{Split, View, entries_of}
use Rattle.typed_steps.proofs.Pops.{top_of}
use Rattle.integrity.specs.Holding.{lost}
use Rattle.integrity.specs.Loose.{StandsLoosely, Recovers, waits, goes_on}
use Rattle.integrity.specs.Outside.{Threat, threat_of}
use Rattle.integrity.specs.Standing.{threat_in}
use Rattle.integrity.proofs.Among.{nothing}
use Rattle.integrity.proofs.LooseChains.{below_first}
use Rattle.integrity.proofs.LooseEvents.{safe_below, none_but, loose_after, loosely_after}
use Rattle.integrity.proofs.LoosePops.{turn_restarts, take_restarts, act_restarts}
use Rattle.integrity.proofs.OpenSteps.{IsKnown}
use Rattle.integrity.proofs.OutsideEvents.{IsNone, Leaves, run_none, fly_none, act_none, turn_leaves, take_leaves}
use Rattle.integrity.proofs.OutsideEvents.{act_leaves}
use Rattle.integrity.proofs.OutsideLaws.{AreLaws}
use Rattle.integrity.proofs.PopMoves.{Restarts}
use Rattle.integrity.proofs.StackMoves.{GivesItBack, RunsBack, GivesBack, held_back}
use Rattle.integrity.proofs.StandsOn.{known_in}
use Rattle.integrity.proofs.TightKept.{IsLawful}
use Rattle.integrity.proofs.TightLaws.{lawful}

-- ---- whether a token is given back

decide_op : (it : Op) → Decided (it ≡ op.Back)
decide_op op.Back = inl refl
decide_op it = inr (λ same. cc)

-- an instruction that gives a token back
abbrev BacksAt : Option Instr → Type 0
BacksAt there = (instruction : Instr) × (there ≡ Some instruction) × (instruction.op ≡ op.Back)

decide_instruction : (there : Option Instr) → Decided (BacksAt there)
decide_instruction None = inr (λ it. let never : Some it.0 ≡ None = sym it.1 in cc)
decide_instruction (Some instruction) =
    as_well (instruction.op ≡ op.Back) (BacksAt (Some instruction)) (λ is. (instruction, refl, is))
    (λ it.
    let same : instruction ≡ it.0 = cc in
    ap (λ (i : Instr). i.op) same ∙ it.2) (decide_op instruction.op)

decide_back : (code : CodeShape) (me : HostId) (running : Option ThreadShape) (token : Token) →
    Decided (RunsBack code me running token)
decide_back code me None token = inr (λ never. never)
decide_back code me (Some thread) token =
    as_well ((thread.held ≡ Some token) × BacksAt (instruction_at code me thread.at))
    (GivesItBack code me token thread) (λ it. (it.0, it.1.0, it.1.1, it.1.2)) (λ it. (it.0, (it.1, it.2, it.3)))
    (both (thread.held ≡ Some token) (BacksAt (instruction_at code me thread.at)) (some_token thread.held token)
    (decide_instruction (instruction_at code me thread.at)))

decide_given : (m : Message) (token : Token) → Decided (GivesBack m token)
decide_given (message.Lgoto other) token =
    as_well (other ≡ token) (message.Lgoto other ≡ message.Lgoto token) (ap (λ (t : Token). message.Lgoto t))
    (λ same. cc) (same_token other token)
decide_given m token = inr (λ same. cc)

-- ---- the events

module _ (split : Split) (known : IsKnown (threat_in split)) (c : Configuration) (view : View)
    (world after : WorldShape) (is : IsLawful (threat_in split) world) (fits : ShapeFits split.code after)
    (step_account : Accounts world after) (stands : StandsLoosely split c view world) where
  token : Token
  token = (top_of split view.naming view.chain stands.chain).0

  first : top_token (entries_of view.chain) ≡ Some token
  unfolding token
  first = (top_of split view.naming view.chain stands.chain).1

  stays : Leaves (threat_in split) (entries_of view.chain) lost world after → Recovers split c after
  stays leaves =
      waits view
      (loosely_after split c view world after stands leaves
      (loose_after (threat_in split) (entries_of view.chain) world after is fits step_account stands.loose leaves))

  restarts : Restarts split c after → Recovers split c after
  restarts it = goes_on it.view it.holder it.free it.stands

  -- a token that is not the first entry's is none of the chain's
  none_of : (given : Token) → IsNone (below_first (entries_of view.chain)) given → (given ≡ token → ⊥) →
      IsNone (entries_of view.chain) given
  none_of given below apart =
      none_but (entries_of view.chain) given below (λ top.
      let both_are : Some given ≡ Some token = sym top ∙ first in
      apart (cc))

  turned : (host : HostId) → IsTurnStep split.code world host after → Recovers split c after
  turned host step =
      let code = split.code in
      let state = step.state in
      let none : (given : Token) → RunsBack code state.me state.running given →
      IsNone (below_first (entries_of view.chain)) given =
      λ given back.
      run_none (threat_in split) (below_first (entries_of view.chain)) lost world is
      (safe_below (threat_in split) (entries_of view.chain) world stands.loose) host state step.obeys (λ never. never)
      given (held_back code state.me state.running given back) in
      let Here : Type 0 = RunsBack code state.me state.running token in
      let Top : Type 0 = top_token state.entries ≡ Some token in
      elim (both Here Top (decide_back code state.me state.running token)
      (some_token (top_token state.entries) token)) [
        | inl here ↦
            restarts (turn_restarts split c view world after is fits step_account stands token first
            (none token here.0) host step here.0 here.1)
        | inr apart ↦
            stays (turn_leaves (threat_in split) known (entries_of view.chain) lost world after host is step
            stands.loose.outside (λ never. never) (λ given back top.
            none_of given (none given back) (λ same.
            apart (
              subst (RunsBack code state.me state.running) same back,
              subst (λ t. top_token state.entries ≡ Some t) same top,
            ))))
      ]

  taken : (from to : HostId) (place : ℕ) → IsTakeStep split.code world from to place after → Recovers split c after
  taken from to place step =
      let state = step.state in
      let m = step.flight.message in
      let none : (given : Token) → GivesBack m given → IsNone (below_first (entries_of view.chain)) given =
      fly_none (threat_in split) (below_first (entries_of view.chain)) lost world is
      (safe_below (threat_in split) (entries_of view.chain) world stands.loose) from to place step.flight step.there
      (nothing (slice_get (world.flying from to) place)) in
      elim (both (GivesBack m token) (top_token state.entries ≡ Some token) (decide_given m token)
      (some_token (top_token state.entries) token)) [
        | inl here ↦
            restarts (take_restarts split c view world after is fits step_account stands token first
            (none token here.0) from to place step here.0 here.1)
        | inr apart ↦
            stays (take_leaves (threat_in split) known (entries_of view.chain) lost world after from to place is step tt
            stands.loose.outside (nothing (slice_get (world.flying from to) place)) (λ given gives top.
            none_of given (none given gives) (λ same.
            apart (subst (GivesBack m) same gives, subst (λ t. top_token state.entries ≡ Some t) same top))))
      ]

  acted : (from to : HostId) (made : BadMessage) → OwnTokenIn world made →
      IsActStep split.code world from to made after → Recovers split c after
  acted from to made own step =
      let state = step.state in
      let m = step.message in
      let none : (given : Token) → GivesBack m given → IsNone (below_first (entries_of view.chain)) given =
      act_none (below_first (entries_of view.chain)) lost world
      (safe_below (threat_in split) (entries_of view.chain) world stands.loose) made m own step.makes in
      elim (both (GivesBack m token) (top_token state.entries ≡ Some token) (decide_given m token)
      (some_token (top_token state.entries) token)) [
        | inl here ↦
            restarts (act_restarts split c view world after is fits step_account stands token first
            (none token here.0) from to made step here.0 here.1)
        | inr apart ↦
            stays (act_leaves (threat_in split) known (entries_of view.chain) lost world after from to made is step tt
            stands.loose.outside (nothing (message_made (tokens_sent world) made)) (λ given gives top.
            none_of given (none given gives) (λ same.
            apart (subst (GivesBack m) same gives, subst (λ t. top_token state.entries ≡ Some t) same top))))
      ]

  pub event_recovers : (event : Event) → HasOwnToken world event → IsStep split.code world event after →
      Recovers split c after
  event_recovers (Take from to place) own step = taken from to place step
  event_recovers (Turn host) own step = turned host step
  event_recovers (Act from to made) own step = acted from to made own step

-- ---- the law

pub recovers : AreLaws → (split : Split) (placed : PlacedProgram) (bad : ℕ) (store : List (List ℤ))
    (events : List Event) (world after : WorldShape)
    (event : Event) (c : Configuration) (view : View) →
    threat_in split ≡ threat_of placed split.table bad → IsSplittable placed →
    IsAllowed placed → IsReached split.code placed.hosts.hosts bad store events world →
    HasOwnToken (world_at_start split.code placed.hosts.hosts bad store) event → IsStep split.code world event after →
    StandsLoosely split c view world → Recovers split c after
recovers laws split placed bad store events world after event c view same splittable allowed reach
    own step stands =
    let is =
    lawful (threat_in split) placed.hosts.hosts bad store events world (ap (λ (t : Threat). t.exposure.bad) same) reach
    in
    let own_here = own_there split.code placed.hosts.hosts bad store events world event reach own in
    let next = one_more split.code placed.hosts.hosts bad store events world after event reach own step in
    event_recovers split (known_in laws split placed bad same splittable allowed) c view world after
    is (fits_there split.code placed.hosts.hosts bad store (events ++ event ∷ []) after next)
    (account split.code world after event reach.sound is.fits own_here step) stands event own_here step
