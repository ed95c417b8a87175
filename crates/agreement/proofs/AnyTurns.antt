-- Each turn changes its host alone, hands control over or asks another host, and does only one of these.
use Rattle.std.proofs.Common.{◌≡◌, ◌≢◌, ℕ, ◌<◌, Bool, true, false, List, length, arith, Option, Some, None}
use Rattle.std.proofs.Common.{inl, inr, refl, ap, sym, subst, ◌∙◌}
use Rattle.std.specs.Prelude.{◌==◌, ◌↔◌, ◌⊎◌, ℤ, if◌then◌else◌, IfSome, IsTrue, slice_get}
use Rattle.std.specs.Option.{IsSomeAnd}
use Rattle.std.proofs.lemmas.Bool.{false≢true}
use Rattle.std.proofs.lemmas.Bool.Decides.{eqb_tells}
use Rattle.std.proofs.lemmas.Option.{slice_get_cases}
use Rattle.js_base.specs.declared.ids.HostId.{HostId}
use Rattle.js_base.specs.declared.ids.FrameId.{FrameId}
use Rattle.js_base.specs.declared.ids.VarId.{VarId}
use Rattle.capability.specs.declared.token.Token.{Token}
use Rattle.host_decl.specs.Hosts as declared_hosts
use Rattle.host_code.specs.declared.code_expr.Node.{Node}
use Rattle.host_code.specs.declared.instruction.Instr.{Instr}
use Rattle.host_code.specs.declared.instruction.Op.{Op}
use Rattle.host_code.specs.declared.instruction.Op.TheVariants as op
use Rattle.host_code.specs.declared.message.Message.{Message}
use Rattle.host_code.specs.declared.message.Message.TheVariants as message
use Rattle.host_code.specs.Code.{CodeShape, CodeFieldShape, instruction_at, field_at, variable_at}
use Rattle.host_code.specs.Sound.{OperationFits}
use Rattle.host_code.specs.Thread.{ThreadShape}
use Rattle.host_core.specs.Fits.{RunningFits, TokenFits}
use Rattle.host_core.specs.Host.{HostState, with_running}
use Rattle.host_core.specs.Turn.{MayReturn, PassesWith, IsTurnOf, IsRunning}
use Rattle.event_text.specs.declared.event.Event.{Event}
use Rattle.event_text.specs.declared.event.Event.TheVariants.{Turn}
use Rattle.net_world.specs.Released.{released_at}
use Rattle.net_world.specs.Secret.{IsQuiet}
use Rattle.net_world.specs.World.{WorldShape, state_at, IsStep, world_at_start}
use Rattle.net_world.proofs.Present.{same_id}
use Rattle.split_rules.specs.Releases.{ReleasesShape}
use Rattle.split_shades.specs.ShadedCode.{IsTabled}
use Rattle.token_laws.specs.Reached.{IsReached}
use Rattle.token_laws.proofs.Tests.{itself, some_found}
use Rattle.token_laws.proofs.Walks.{fits_there}
use Rattle.seen_world.specs.Eyes.{Eyes, AreEyes, Watches}
use Rattle.seen_world.proofs.SeenPlaces.{some_is}
use Rattle.agreement.specs.Asking.{AsksElsewhere, RunsAsking}
use Rattle.agreement.specs.Handing.{handed, RunsHanding}
use Rattle.agreement.specs.Leads.{Agree}
use Rattle.agreement.specs.Turns.{ChangesAlone, RunsAtInstruction}
use Rattle.agreement.proofs.AskingsAgree.{asks_agree}
use Rattle.agreement.proofs.Places.{instruction_within}
use Rattle.agreement.proofs.SeenAgree.{state_me, turn_agrees, hands_agree}
use Rattle.agreement.proofs.SeenHandings.{letter}
use Rattle.agreement.proofs.Transfers.{there_with}

-- ---- each instruction

-- what an instruction of a host with these variables does that a thread runs with this token
abbrev Kind : CodeShape → (FrameId → VarId → ℤ) → HostId → ThreadShape → Token → Op → Type 0
Kind code variables me thread token it =
    ChangesAlone code me (Some token) it
    ⊎ (((to : HostId) × (said : Message) × (handed variables me thread token it ≡ Some (to, said)))
    ⊎ AsksElsewhere code me token it)

host_or_not : (one other : HostId) → (one ≡ other) ⊎ ((one ≢ other) × ((one.0 == other.0) ≡ false))
host_or_not one other = elim (eqb_tells one.0 other.0) [
  | inl is ↦ inl (same_id one other is.1)
  | inr apart ↦ inr ((λ same. apart.1 (ap (λ (h : HostId). h.0) same)), apart.0)
]

-- a field stands on the host or elsewhere
field_kind : (fields : List CodeFieldShape) (number : ℕ) (me : HostId) → number < length fields →
    IsSomeAnd (slice_get fields number) (λ there. there.host ≡ me)
    ⊎ IsSomeAnd (slice_get fields number) (λ there. there.host ≢ me)
field_kind fields number me within = elim (slice_get_cases fields number).1 [
  | inl there ↦
      elim (host_or_not there.0.host me) [
        | inl same ↦ inl (subst (λ found. IsSomeAnd found (λ on. on.host ≡ me)) (sym there.2) same)
        | inr apart ↦ inr (subst (λ found. IsSomeAnd found (λ on. on.host ≢ me)) (sym there.2) apart.0)
      ]
  | inr past ↦ absurd (omega (arith, past.0))
]

-- a message goes to another host
sends_away : (me to : HostId) (said : Message) → (to.0 == me.0) ≡ false →
    (on : HostId) × (sent : Message) × ((if to.0 == me.0 then None else letter to said) ≡ Some (on, sent))
sends_away me to said apart = (to, said, rw apart refl)

return_kind : (code : CodeShape) (host : HostState) (token : Token) (x : VarId) (value : List Node) (passes : Bool) →
    (IsTrue passes ↔ PassesWith code host (op.Ret x value) (Some token)) →
    ((token.host ≡ host.me) ⊎ (¬ MayReturn code (variable_at code x) token.host))
    ⊎ ((token.host ≢ host.me) × MayReturn code (variable_at code x) token.host)
return_kind code host token x value passes checks = elim (host_or_not token.host host.me) [
  | inl same ↦ inl (inl same)
  | inr apart ↦ by passes checks.0 checks.1 apart.0
]
  where
    by : (pass : Bool) → (IsTrue pass → PassesWith code host (op.Ret x value) (Some token)) →
        (PassesWith code host (op.Ret x value) (Some token) → IsTrue pass) → token.host ≢ host.me →
        ((token.host ≡ host.me) ⊎ (¬ MayReturn code (variable_at code x) token.host))
        ⊎ ((token.host ≢ host.me) × MayReturn code (variable_at code x) token.host)
    by true one other apart = inr (apart, one refl (λ same. apart (same_id token.host host.me same)))
    by false one other apart = inl (inr (λ may. false≢true (other (λ same. may))))

operation_kind : (code : CodeShape) (host : HostState) (thread : ThreadShape) (token : Token) (count : ℕ) (it : Op)
    (passes : Bool) → OperationFits code host.me count it → (IsTrue passes ↔ PassesWith code host it (Some token)) →
    Kind code host.variables host.me thread token it
operation_kind code host thread token count (op.Read field index) passes fits checks =
    elim (field_kind code.fields field.0 host.me fits.0) [
      | inl own ↦ inl own
      | inr elsewhere ↦ inr (inr elsewhere)
    ]
operation_kind code host thread token count (op.Put field index value) passes fits checks =
    elim (field_kind code.fields field.0 host.me fits.0) [
      | inl own ↦ inl own
      | inr elsewhere ↦ inr (inr elsewhere)
    ]
operation_kind code host thread token count (op.Let x value) passes fits checks = inl tt
operation_kind code host thread token count (op.Arg x value) passes fits checks = inl tt
operation_kind code host thread token count (op.Frame site) passes fits checks = inl tt
operation_kind code host thread token count (op.Push entry) passes fits checks = inl tt
operation_kind code host thread token count (op.Branch guard target) passes fits checks = inl tt
operation_kind code host thread token count (op.Send x to) passes fits checks = inr (inr tt)
operation_kind code host thread token count (op.Pass x to) passes fits checks = inr (inr tt)
operation_kind code host thread token count (op.Ask entry on) passes fits checks = inr (inr tt)
operation_kind code host thread token count (op.Go entry on) passes fits checks =
    inr (inl (on, message.Rgoto thread.frame entry token, refl))
operation_kind code host thread token count (op.Call entry on) passes fits checks = elim (host_or_not on host.me) [
  | inl same ↦ inl same
  | inr apart ↦ inr (inl (sends_away host.me on (message.Rgoto thread.new_frame entry token) apart.1))
]
operation_kind code host thread token count (op.GoWith entry on riders) passes fits checks = inr (inl (on, _, refl))
operation_kind code host thread token count (op.CallWith entry on riders) passes fits checks = inr (inl (on, _, refl))
operation_kind code host thread token count (op.Ret x value) passes fits checks =
    elim (return_kind code host token x value passes checks) [
      | inl alone ↦ inl alone
      | inr asks ↦ inr (inr asks)
    ]
operation_kind code host thread token count op.Back passes fits checks = elim (host_or_not token.host host.me) [
  | inl same ↦ inl same
  | inr apart ↦ inr (inl (sends_away host.me token.host (message.Lgoto token) apart.1))
]

-- ---- turns

pub turn_kind : (eyes : Eyes) (rows : List declared_hosts.HostShape) (bad : ℕ) (store : List (List ℤ))
    (events : List Event) (world after : WorldShape) (host : HostId) →
    IsReached eyes.code rows bad store events world → IsStep eyes.code world (Turn host) after →
    RunsAtInstruction eyes.code world host ⊎ (RunsHanding eyes.code world host ⊎ RunsAsking eyes.code world host)
turn_kind eyes rows bad store events world after host reach step =
    let code = eyes.code in
    let old = step.state in
    let own = state_me eyes world host old (fits_there code rows bad store events world reach) step.obeys in
    let thread = some_found old.running step.runs in
    let runs : RunningFits code old.me thread.0 =
    subst (λ one. IfSome one (RunningFits code old.me)) thread.1 own.fits.running in
    let token = there_with (TokenFits code) thread.0.held runs.held in
    let there = instruction_within eyes old.me thread.0.at runs.place in
    let is : instruction_at code host thread.0.at ≡ Some there.0 =
    subst (λ (h : HostId). instruction_at code h thread.0.at ≡ Some there.0) own.me there.1 in
    let bare = with_running old None in
    let runs_it : IsRunning code bare thread.0 (Some there.0) step.outcome =
    subst (λ found. IsRunning code bare thread.0 found step.outcome) there.1
    (subst (λ one. IsTurnOf code old one step.outcome) thread.1 step.turns) in
    let checks : IsTrue runs_it.0 ↔ PassesWith code bare there.0.op (Some token.0) =
    subst (λ held. IsTrue runs_it.0 ↔ PassesWith code bare there.0.op held) token.1 runs_it.1 in
    let kind : Kind code old.variables host thread.0 token.0 there.0.op =
    subst (λ (h : HostId). Kind code old.variables h thread.0 token.0 there.0.op) own.me
    (operation_kind code bare thread.0 token.0 _ there.0.op runs_it.0
    ((reach.sound.parts old.me own.fits.me).instructions thread.0.at there.0 there.1).operation checks) in
    elim kind [
      | inl alone ↦ inl (record {
        state = old;
        there = step.obeys;
        thread = thread.0;
        running = thread.1;
        instruction = there.0;
        is = is;
        alone = subst (λ held. ChangesAlone code host held there.0.op) (sym token.1) alone;
      })
      | inr more ↦
          elim more [
            | inl hands ↦ inr (inl (record {
              state = old;
              there = step.obeys;
              thread = thread.0;
              running = thread.1;
              token = token.0;
              held = token.1;
              instruction = there.0;
              is = is;
              to = hands.0;
              said = hands.1;
              hands = hands.2;
            }))
            | inr asks ↦ inr (inr (record {
              state = old;
              there = step.obeys;
              thread = thread.0;
              running = thread.1;
              token = token.0;
              held = token.1;
              instruction = there.0;
              is = is;
              asks = asks;
            }))
          ]
    ]

pub any_agrees : (eyes : Eyes) (rows : List declared_hosts.HostShape) (bad : ℕ) (store start : List (List ℤ))
    (events others : List Event) (one other one_after other_after : WorldShape) (host : HostId)
    (table : ReleasesShape) → AreEyes eyes → IsTabled eyes.code eyes.shades table →
    released_at table one host ≡ released_at table other host → Watches eyes (world_at_start eyes.code rows bad store) →
    Watches eyes (world_at_start eyes.code rows bad start) → IsReached eyes.code rows bad store events one →
    IsReached eyes.code rows bad start others other → IsStep eyes.code one (Turn host) one_after →
    IsStep eyes.code other (Turn host) other_after → IsQuiet eyes.code one → IsQuiet eyes.code other →
    Agree eyes one other → Agree eyes one_after other_after
any_agrees eyes rows bad store start events others one other one_after other_after host table are tabled same watch
    watch_other reach reach_other step step_other quiet quiet_other agree =
    elim (turn_kind eyes rows bad store events one one_after host reach step) [
      | inl alone ↦
          turn_agrees eyes rows bad store start events others one other one_after other_after host table are tabled same
          watch watch_other reach reach_other alone step step_other quiet quiet_other agree
      | inr more ↦
          elim more [
            | inl hands ↦
                hands_agree eyes rows bad store start events others one other one_after other_after host are watch
                watch_other reach reach_other hands step step_other quiet quiet_other agree
            | inr asks ↦
                asks_agree eyes rows bad store start events others one other one_after other_after host table are
                tabled same watch watch_other reach reach_other asks step step_other quiet quiet_other agree
          ]
    ]

-- ---- one kind alone

-- what is sent to another host is not sent to the host itself
own_letter : (me to on : HostId) (said sent : Message) → to ≡ me →
    (if to.0 == me.0 then None else letter to said) ≡ Some (on, sent) → ⊥
own_letter me to on said sent own is =
    let here : (to.0 == me.0) ≡ true = ap (λ (h : HostId). h.0 == me.0) own ∙ itself me.0 in
    let never : None ≡ letter on sent = sym (ap (λ (b : Bool). if b then None else letter to said) here) ∙ is in
    cc

alone_hands : (code : CodeShape) (variables : FrameId → VarId → ℤ) (me : HostId) (thread : ThreadShape) (token : Token)
    (it : Op) (to : HostId) (said : Message) → ChangesAlone code me (Some token) it →
    handed variables me thread token it ≡ Some (to, said) → ⊥
alone_hands code variables me thread token (op.Call entry on) to said alone is =
    own_letter me on to (message.Rgoto thread.new_frame entry token) said alone is
alone_hands code variables me thread token op.Back to said alone is =
    own_letter me token.host to (message.Lgoto token) said alone is
alone_hands code variables me thread token (op.Go entry on) to said alone is = alone
alone_hands code variables me thread token (op.GoWith entry on riders) to said alone is = alone
alone_hands code variables me thread token (op.CallWith entry on riders) to said alone is = alone
alone_hands code variables me thread token it to said alone is = cc

field_apart : (found : Option CodeFieldShape) (me : HostId) → IsSomeAnd found (λ there. there.host ≡ me) →
    IsSomeAnd found (λ there. there.host ≢ me) → ⊥
field_apart None me own elsewhere = own
field_apart (Some there) me own elsewhere = elsewhere own

alone_asks : (code : CodeShape) (me : HostId) (token : Token) (it : Op) → ChangesAlone code me (Some token) it →
    AsksElsewhere code me token it → ⊥
alone_asks code me token (op.Read field index) alone asks = field_apart (field_at code field) me alone asks
alone_asks code me token (op.Put field index value) alone asks = field_apart (field_at code field) me alone asks
alone_asks code me token (op.Ret x value) alone asks = elim alone [
  | inl own ↦ asks.0 own
  | inr not_ ↦ not_ asks.1
]
alone_asks code me token (op.Send x to) alone asks = alone
alone_asks code me token (op.Pass x to) alone asks = alone
alone_asks code me token (op.Ask entry on) alone asks = alone
alone_asks code me token it alone asks = asks

hands_asks : (code : CodeShape) (variables : FrameId → VarId → ℤ) (me : HostId) (thread : ThreadShape)
    (token other : Token) (it : Op) (to : HostId) (said : Message) →
    handed variables me thread token it ≡ Some (to, said) → AsksElsewhere code me other it → ⊥
hands_asks code variables me thread token other (op.Go entry on) to said is asks = asks
hands_asks code variables me thread token other (op.Call entry on) to said is asks = asks
hands_asks code variables me thread token other (op.GoWith entry on riders) to said is asks = asks
hands_asks code variables me thread token other (op.CallWith entry on riders) to said is asks = asks
hands_asks code variables me thread token other op.Back to said is asks = asks
hands_asks code variables me thread token other it to said is asks = cc

-- a host runs one thread, at one instruction
one_run : (code : CodeShape) (world : WorldShape) (host : HostId) (one other : HostState) (thread twin : ThreadShape)
    (there mine : Instr) → state_at world host ≡ Some one → state_at world host ≡ Some other →
    one.running ≡ Some thread → other.running ≡ Some twin → instruction_at code host thread.at ≡ Some there →
    instruction_at code host twin.at ≡ Some mine → (thread ≡ twin) × (there ≡ mine)
one_run code world host one other thread twin there mine is_one is_other runs runs_other is is_mine =
    let state : one ≡ other = some_is (sym is_one ∙ is_other) in
    let same : thread ≡ twin = some_is (sym runs ∙ ap (λ (s : HostState). s.running) state ∙ runs_other) in
    (same, some_is (sym is ∙ ap (λ (t : ThreadShape). instruction_at code host t.at) same ∙ is_mine))

pub kinds_apart : (code : CodeShape) (world : WorldShape) (host : HostId) →
    (¬ (RunsAtInstruction code world host × RunsHanding code world host))
    × (¬ (RunsAtInstruction code world host × RunsAsking code world host))
    × (¬ (RunsHanding code world host × RunsAsking code world host))
kinds_apart code world host = (
  λ both.
      let alone = both.0 in
      let hands = both.1 in
      let same = one_run code world host alone.state hands.state alone.thread hands.thread alone.instruction
      hands.instruction alone.there hands.there alone.running hands.running alone.is hands.is in
      let it : ChangesAlone code host (Some hands.token) hands.instruction.op =
      subst (λ held. ChangesAlone code host held hands.instruction.op)
      (ap (λ (t : ThreadShape). t.held) same.0 ∙ hands.held)
      (subst (λ (i : Instr). ChangesAlone code host alone.thread.held i.op) same.1 alone.alone) in
      alone_hands code hands.state.variables host hands.thread hands.token hands.instruction.op
      hands.to hands.said it hands.hands,
  λ both.
      let alone = both.0 in
      let asking = both.1 in
      let same = one_run code world host alone.state asking.state alone.thread asking.thread alone.instruction
      asking.instruction alone.there asking.there alone.running asking.running alone.is asking.is in
      let it : ChangesAlone code host (Some asking.token) asking.instruction.op =
      subst (λ held. ChangesAlone code host held asking.instruction.op)
      (ap (λ (t : ThreadShape). t.held) same.0 ∙ asking.held)
      (subst (λ (i : Instr). ChangesAlone code host alone.thread.held i.op) same.1 alone.alone) in
      alone_asks code host asking.token asking.instruction.op it asking.asks,
  λ both.
      let hands = both.0 in
      let asking = both.1 in
      let same = one_run code world host hands.state asking.state hands.thread asking.thread hands.instruction
      asking.instruction hands.there asking.there hands.running asking.running hands.is asking.is in
      hands_asks code hands.state.variables host hands.thread hands.token asking.token
      hands.instruction.op hands.to hands.said hands.hands
      (subst (λ (i : Instr). AsksElsewhere code host asking.token i.op) (sym same.1) asking.asks),
)
