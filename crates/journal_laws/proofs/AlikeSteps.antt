-- One step of two hosts of which the same is told, where the lines of both steps are the same. Either the same is told
-- of what they leave; or one has a thread then, and the other has none.
use Rattle.std.proofs.Common.{◌≡◌, ◌∙◌, ◌⊎◌, Bool, true, false, refl, ap, sym, subst, List, [], ◌∷◌}
use Rattle.std.proofs.Common.{inl, inr, arith}
use Rattle.std.specs.Prelude.{Option, Some, None, IsSome, ◌==◌, ◌&&◌, All}
use Rattle.std.proofs.lemmas.Bool.{cases_Bool, false≢true}
use Rattle.std.proofs.lemmas.Bool.Decides.{nat_tests}
use Rattle.std.proofs.lemmas.List.Elements.{All-head}
use Rattle.js_base.specs.declared.ids.HostId.{HostId}
use Rattle.capability.specs.declared.token.Token.{Token}
use Rattle.ics_stack.specs.declared.stack.StackEntry.{StackEntry}
use Rattle.ics_stack.specs.Stack.{IsOwnEntry, top_token}
use Rattle.host_code.specs.declared.instruction.Instr.{Instr}
use Rattle.host_code.specs.declared.instruction.Op.{Op}
use Rattle.host_code.specs.declared.instruction.Op.TheVariants as op
use Rattle.host_code.specs.declared.message.Message.{Message}
use Rattle.host_code.specs.declared.message.Message.TheVariants as message
use Rattle.host_code.specs.Code.{CodeShape, instruction_at}
use Rattle.host_code.specs.Sound.{IsSoundCode}
use Rattle.host_code.specs.Thread.{ThreadShape}
use Rattle.host_core.specs.Fits.{StateFits}
use Rattle.host_core.specs.Host.{HostState, Outcome, with_running}
use Rattle.host_core.specs.Taking.{after_taking}
use Rattle.host_core.specs.Told.{IsOpenTaking, IsOpenTurnOf, IsOpenInstruction, IsOpenOperation, IsUnsure}
use Rattle.host_core.specs.Told.{after_told_back, settled, with_wrong_tags}
use Rattle.host_core.specs.Turn.{after_back}
use Rattle.journal_laws.specs.Bare.{bare_host, bare_message, bare_outcome, bare_sent}
use Rattle.journal_laws.specs.Plays.{MayMakeStep}
use Rattle.journal_laws.specs.Steps.{Step, turns, takes, IsStepOfHost, bare_step, told_step}
use Rattle.journal_laws.specs.ToldPlays.{IsToldStep}
use Rattle.journal_laws.proofs.BareSteps.{steps_alike}
use Rattle.journal_laws.proofs.SameChecks.{IsPlain, plain_step, same_passes, same_takes_off, takes_off, told_of}
use Rattle.journal_laws.proofs.SameChecks.{instruction_takes_off, thread_takes_off, is_back, is_own}
use Rattle.journal_laws.proofs.TakenOff.{IsSettled, IsCalm, HasStarted, RestsFor, settles, settled_kind, settled_alike}
use Rattle.journal_laws.proofs.TakenOff.{settled_keeps, lgoto_settled, back_settled}
use Rattle.journal_laws.proofs.WithoutHalt.{halt_left_out, without_halt}

-- ---- a step that was made, or one that takes off the top entry or not

-- what the line of the step tells of it: a step that is alike leaves and sends this, whether or not the token that it
-- may present is that of the top entry
pub record IsLineStep (code : CodeShape) (host : HostState) (step : Step) (outcome : Outcome) : Type 0 where
  pub made : Step
  pub alike : bare_step made ≡ bare_step step
  pub rest : RestsFor host made
  pub is : IsStepOfHost code host made outcome ⊎ ((takes_off code host made ≡ true) × IsSettled code host outcome)

pub rests_for : (code : CodeShape) (host : HostState) (step : Step) → MayMakeStep code host step → RestsFor host step
rests_for code host turns may = tt
rests_for code host (takes from letter) may = may.rest

pub made_step : (code : CodeShape) (host : HostState) (step : Step) (outcome : Outcome) → MayMakeStep code host step →
    IsStepOfHost code host step outcome → IsLineStep code host step outcome
made_step code host step outcome may is =
    record { made = step; alike = refl; rest = rests_for code host step may; is = inl is }

pub wrong_alike : (letter : Message) → bare_message (with_wrong_tags letter) ≡ bare_message letter
wrong_alike (message.Get request field index) = refl
wrong_alike (message.Set request field index value) = refl
wrong_alike (message.Forward request frame variable value) = refl
wrong_alike (message.Sync request frame entry token) = refl
wrong_alike (message.Rgoto frame entry token) = refl
wrong_alike (message.RgotoWith frame entry token riders) = refl
wrong_alike (message.Lgoto token) = refl
wrong_alike (message.Value request value) = refl
wrong_alike (message.Ack request) = refl
wrong_alike (message.Token request token) = refl

-- an open taking is that of an lgoto
pub open_taken : (code : CodeShape) (host : HostState) (from : HostId) (letter : Message) (passes : Bool)
    (outcome : Outcome) → host.running ≡ None → IsOpenTaking host letter →
    after_taking code host from letter passes ≡ outcome →
    (takes_off code host (takes from letter) ≡ true) × IsSettled code host outcome
open_taken code host from (message.Get request field index) passes outcome rest unsure is = absurd unsure
open_taken code host from (message.Set request field index value) passes outcome rest unsure is = absurd unsure
open_taken code host from (message.Forward request frame variable value) passes outcome rest unsure is = absurd unsure
open_taken code host from (message.Sync request frame entry token) passes outcome rest unsure is = absurd unsure
open_taken code host from (message.Rgoto frame entry token) passes outcome rest unsure is = absurd unsure
open_taken code host from (message.RgotoWith frame entry token riders) passes outcome rest unsure is = absurd unsure
open_taken code host from (message.Lgoto token) passes outcome rest unsure is =
    (refl, lgoto_settled code host from token passes outcome rest is)
open_taken code host from (message.Value request value) passes outcome rest unsure is = absurd unsure
open_taken code host from (message.Ack request) passes outcome rest unsure is = absurd unsure
open_taken code host from (message.Token request token) passes outcome rest unsure is = absurd unsure

-- a token with the numbers of the top entry's names this host
unsure_own : (me : HostId) (entries : List StackEntry) (held : Token) →
    All (IsOwnEntry me) entries → IsUnsure (top_token entries) held →
    (held.host.0 == me.0) ≡ true
unsure_own me [] held own unsure = absurd unsure
unsure_own me (top ∷ below) held own unsure =
    let named : held.host ≡ me =
    sym (ap (λ (token : Token). token.host) unsure.1) ∙ (All-head (IsOwnEntry me) top below own).host_is in
    let number : held.host.0 ≡ me.0 = ap (λ (host : HostId). host.0) named in
    grind (arith, nat_tests)

pub open_turned : (code : CodeShape) (host : HostState) (running : Option ThreadShape) (passes : Bool)
    (outcome : Outcome) → StateFits code host → IsOpenTurnOf code host running →
    after_told_back code host running passes ≡ outcome →
    (thread_takes_off code host.me running ≡ true) × IsSettled code host outcome
open_turned code host None passes outcome fits unsure is = absurd unsure
open_turned code host (Some thread) passes outcome fits unsure is =
    by (instruction_at code host.me thread.at) unsure
  where
    runs : (held : Option Token) (operation : Op) → thread.held ≡ held → IsOpenOperation host held operation →
        ((is_back operation && is_own host.me held) ≡ true) × IsSettled code host outcome
    runs None operation at unsure = absurd unsure
    runs (Some held) op.Back at unsure =
        let own = unsure_own host.me host.entries held fits.stack.own unsure in (
          own,
          back_settled code host thread (Some held) passes outcome own
              (subst (λ held. after_back code (with_running host None) thread held passes ≡ outcome) at is),
        )
    runs (Some held) (op.Read field index) at unsure = absurd unsure
    runs (Some held) (op.Let variable value) at unsure = absurd unsure
    runs (Some held) (op.Put field index value) at unsure = absurd unsure
    runs (Some held) (op.Send variable to) at unsure = absurd unsure
    runs (Some held) (op.Frame site) at unsure = absurd unsure
    runs (Some held) (op.Arg variable value) at unsure = absurd unsure
    runs (Some held) (op.Pass variable to) at unsure = absurd unsure
    runs (Some held) (op.Push entry) at unsure = absurd unsure
    runs (Some held) (op.Ask entry on) at unsure = absurd unsure
    runs (Some held) (op.Go entry on) at unsure = absurd unsure
    runs (Some held) (op.GoWith entry on riders) at unsure = absurd unsure
    runs (Some held) (op.Call entry on) at unsure = absurd unsure
    runs (Some held) (op.CallWith entry on riders) at unsure = absurd unsure
    runs (Some held) (op.Ret variable value) at unsure = absurd unsure
    runs (Some held) (op.Branch guard target) at unsure = absurd unsure

    by : (found : Option Instr) → IsOpenInstruction host thread.held found →
        (instruction_takes_off host.me thread.held found ≡ true) × IsSettled code host outcome
    by None unsure = absurd unsure
    by (Some instruction) unsure = runs thread.held instruction.op refl unsure

pub told_step_line : (code : CodeShape) (host : HostState) (step : Step) (outcome : Outcome) → StateFits code host →
    MayMakeStep code host step → IsToldStep code host step outcome → IsLineStep code host step outcome
told_step_line code host turns outcome fits may (inl (passes, unsure, is)) =
    record {
      made = turns;
      alike = refl;
      rest = tt;
      is = inr (open_turned code host host.running passes outcome fits unsure is);
    }
told_step_line code host turns outcome fits may (inr (closed, is)) =
    record { made = turns; alike = refl; rest = tt; is = inl is }
told_step_line code host (takes from letter) outcome fits may (inl (passes, unsure, is)) =
    record {
      made = takes from (with_wrong_tags letter);
      alike = ap (takes from) (wrong_alike letter);
      rest = may.rest;
      is = inr (open_taken code host from (with_wrong_tags letter) passes outcome may.rest unsure is);
    }
told_step_line code host (takes from letter) outcome fits may (inr (closed, is)) =
    record {
      made = takes from (with_wrong_tags letter);
      alike = ap (takes from) (wrong_alike letter);
      rest = may.rest;
      is = inl is;
    }

-- ---- what two such steps leave

abbrev pub HaveSameFields : HostState → HostState → Type 0
HaveSameFields one other = (one.rows ≡ other.rows) × (one.variables ≡ other.variables)

pub fields_through : (one other third : HostState) → HaveSameFields one other → HaveSameFields other third →
    HaveSameFields one third
fields_through one other third first second = (first.0 ∙ second.0, first.1 ∙ second.1)

pub fields_back : (one other : HostState) → HaveSameFields one other → HaveSameFields other one
fields_back one other same = (sym same.0, sym same.1)

pub fields_of_same : (one other : HostState) → one ≡ other → HaveSameFields one other
fields_of_same one other same = (ap (λ host. host.rows) same, ap (λ host. host.variables) same)

pub fields_told : (one other : HostState) → told_of one ≡ told_of other → HaveSameFields one other
fields_told one other same = (ap (λ host. host.rows) same, ap (λ host. host.variables) same)

-- one has a thread, and the other has none
abbrev pub ArePart : HostState → HostState → Type 0
ArePart one other =
    ((one.running ≡ None) × IsSome other.running) ⊎ (IsSome one.running × (other.running ≡ None))

-- nothing was sent, the fields are the same, and the hosts part
pub record Parts (outcome beside : Outcome) : Type 0 where
  pub fields : HaveSameFields outcome.state beside.state
  pub silent : outcome.sent ≡ None
  pub silent_too : beside.sent ≡ None
  pub part : ArePart outcome.state beside.state

-- the same is told of both, and the same is said of what they sent; or they part
abbrev pub Meet : Outcome → Outcome → Type 0
Meet outcome beside =
    ((told_of outcome.state ≡ told_of beside.state) × (bare_sent outcome.sent ≡ bare_sent beside.sent))
    ⊎ Parts outcome beside

module _ (code : CodeShape) (sound : IsSoundCode code) where
  plain_meet : (one other : HostState) (step another : Step) (outcome beside : Outcome) →
      told_of one ≡ told_of other → bare_step step ≡ bare_step another → IsPlain code one step outcome →
      IsPlain code other another beside → Meet outcome beside
  plain_meet one other step another outcome beside told alike plain also =
      let same : bare_outcome (halt_left_out outcome) ≡ bare_outcome (halt_left_out beside) =
      ap bare_outcome (sym plain.leaves)
      ∙ steps_alike code (without_halt one) (without_halt other) step another plain.passes told alike
      ∙ ap (λ passes. bare_outcome (told_step code (without_halt other) another passes))
      (same_passes code one other step another outcome beside told alike plain also)
      ∙ ap bare_outcome also.leaves in
      inl (ap (λ (left : Outcome). left.state) same, ap (λ (left : Outcome). left.sent) same)

  left_fields : (host : HostState) (outcome : Outcome) → IsSettled code host outcome →
      HaveSameFields outcome.state host
  left_fields host outcome is =
      fields_through outcome.state (settled code host is.passes) host
      (fields_of_same outcome.state (settled code host is.passes) (sym (ap (λ (left : Outcome). left.state) is.leaves)))
      (settled_keeps code host is.passes)

  settled_meet : (one other : HostState) (outcome beside : Outcome) → StateFits code one → StateFits code other →
      told_of one ≡ told_of other → IsSettled code one outcome → IsSettled code other beside → Meet outcome beside
  settled_meet one other outcome beside fits fit told first second =
      by (settled_kind code one first.passes fits) (settled_kind code other second.passes fit)
    where
      here : settled code one first.passes ≡ outcome.state
      here = ap (λ (left : Outcome). left.state) first.leaves

      there : settled code other second.passes ≡ beside.state
      there = ap (λ (left : Outcome). left.state) second.leaves

      silent : None ≡ outcome.sent
      silent = ap (λ (left : Outcome). left.sent) first.leaves

      silent_too : None ≡ beside.sent
      silent_too = ap (λ (left : Outcome). left.sent) second.leaves

      fields : HaveSameFields outcome.state beside.state
      fields =
          fields_through outcome.state one beside.state (left_fields one outcome first)
          (fields_through one other beside.state (fields_told one other told)
          (fields_back beside.state other (left_fields other beside second)))

      parts : ArePart outcome.state beside.state → Meet outcome beside
      parts part = inr (record { fields = fields; silent = sym silent; silent_too = sym silent_too; part = part })

      sent : bare_sent outcome.sent ≡ bare_sent beside.sent
      sent = ap bare_sent (sym silent ∙ silent_too)

      by : IsCalm one (settled code one first.passes) ⊎ HasStarted code one (settled code one first.passes) →
          IsCalm other (settled code other second.passes) ⊎ HasStarted code other (settled code other second.passes) →
          Meet outcome beside
      by (inl calm) (inl still) =
          inl (
            ap told_of (sym here) ∙ calm.told ∙ ap (λ host. with_running host None) told ∙ sym still.told
                ∙ ap told_of there,
            sent,
          )
      by (inr runs) (inr starts) =
          inl (
            ap told_of (sym here) ∙ ap bare_host runs.told
                ∙ settled_alike code (without_halt one) (without_halt other) told ∙ sym (ap bare_host starts.told)
                ∙ ap told_of there,
            sent,
          )
      by (inl calm) (inr starts) = parts (inl
          (subst (λ host. host.running ≡ None) here calm.rest, subst (λ host. IsSome host.running) there starts.runs))
      by (inr runs) (inl still) = parts (inr
          (subst (λ host. IsSome host.running) here runs.runs, subst (λ host. host.running ≡ None) there still.rest))

  -- a step that takes off leaves a settled host
  off_settles : (host : HostState) (step : Step) (outcome : Outcome) → (line : IsLineStep code host step outcome) →
      takes_off code host line.made ≡ true → IsSettled code host outcome
  off_settles host step outcome line off = by line.is
    where
      by : IsStepOfHost code host line.made outcome
          ⊎ ((takes_off code host line.made ≡ true) × IsSettled code host outcome) → IsSettled code host outcome
      by (inl is) = settles code host line.made outcome off line.rest is
      by (inr settled) = settled.1

  on_plain : (host : HostState) (step : Step) (outcome : Outcome) → StateFits code host →
      (line : IsLineStep code host step outcome) → takes_off code host line.made ≡ false →
      IsPlain code host line.made outcome
  on_plain host step outcome fits line on = by line.is
    where
      by : IsStepOfHost code host line.made outcome
          ⊎ ((takes_off code host line.made ≡ true) × IsSettled code host outcome) →
          IsPlain code host line.made outcome
      by (inl is) = plain_step code host line.made outcome sound fits on is
      by (inr settled) = absurd (false≢true (sym on ∙ settled.0))

  pub steps_meet : (one other : HostState) (step another : Step) (outcome beside : Outcome) → StateFits code one →
      StateFits code other → told_of one ≡ told_of other → bare_step step ≡ bare_step another →
      IsLineStep code one step outcome → IsLineStep code other another beside → Meet outcome beside
  steps_meet one other step another outcome beside fits fit told alike first second =
      let made : bare_step first.made ≡ bare_step second.made = first.alike ∙ alike ∙ sym second.alike in
      let off = same_takes_off code one other first.made second.made told made in
      elim (cases_Bool (takes_off code one first.made)) [
        | inl is ↦
            settled_meet one other outcome beside fits fit told (off_settles one step outcome first is)
            (off_settles other another beside second (sym off ∙ is))
        | inr isnt ↦
            plain_meet one other first.made second.made outcome beside told made
            (on_plain one step outcome fits first isnt) (on_plain other another beside fit second (sym off ∙ isnt))
      ]
