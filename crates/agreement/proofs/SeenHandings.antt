-- A turn that may be seen, and that hands control over, leads to what is seen then.
use Rattle.std.proofs.Common.{◌≡◌, ◌∙◌, ℕ, Bool, true, false, List, [], ◌∷◌, Option, Some, None, refl}
use Rattle.std.proofs.Common.{ap, sym, subst}
use Rattle.std.specs.Prelude.{ℤ, ◌==◌, if◌then◌else◌}
use Rattle.std.specs.List.{AllByRecursion}
use Rattle.js_base.specs.declared.ids.HostId.{HostId}
use Rattle.js_base.specs.declared.ids.FrameId.{FrameId}
use Rattle.js_base.specs.declared.ids.VarId.{VarId}
use Rattle.js_base.specs.declared.ids.EntryId.{EntryId}
use Rattle.capability.specs.declared.token.Token.{Token}
use Rattle.host_code.specs.declared.instruction.Instr.{Instr}
use Rattle.host_code.specs.declared.instruction.Op.{Op}
use Rattle.host_code.specs.declared.instruction.Op.TheVariants as op
use Rattle.host_code.specs.declared.message.Message.{Message}
use Rattle.host_code.specs.declared.message.Message.TheVariants as message
use Rattle.host_code.specs.Code.{instruction_at}
use Rattle.host_code.specs.Sound.{IsVariable, OperationFits}
use Rattle.host_code.specs.Thread.{ThreadShape}
use Rattle.host_core.specs.Host.{HostState, with_running, with_message}
use Rattle.host_core.specs.Turn.{after_operation, after_go, after_go_with}
use Rattle.host_core.specs.Turn.{label_of_turn}
use Rattle.net_world.specs.World.{WorldShape, IsStep, world_at_start}
use Rattle.net_world.specs.Secret.{IsQuiet}
use Rattle.event_text.specs.declared.event.Event.{Event}
use Rattle.event_text.specs.declared.event.Event.TheVariants.{Turn}
use Rattle.host_decl.specs.Hosts as declared_hosts
use Rattle.need_labels.specs.Needs.{label_of}
use Rattle.split_shades.specs.ShadedCode.{IsShadedOp}
use Rattle.split_shades.specs.Shades.{Shade}
use Rattle.split_shades.specs.Shading.{Rides}
use Rattle.token_laws.specs.Reached.{IsReached}
use Rattle.seen_world.specs.Eyes.{Eyes, AreEyes, Watches}
use Rattle.seen_world.proofs.SeenPlaces.{some_is}
use Rattle.agreement.specs.Handing.{riding, handed, RunsHanding, shown_variables, sent_view, SeenHanding}
use Rattle.agreement.specs.Leads.{Leads}
use Rattle.agreement.specs.Turns.{host_idle}
use Rattle.agreement.specs.Views.{LowView, HostView, masked, sees_variable, with_host}
use Rattle.agreement.specs.Views.{riders_view, message_view, thread_view}
use Rattle.agreement.proofs.CarriedSame.{masks_same}
use Rattle.agreement.proofs.SeenAskings.{variable_told}
use Rattle.agreement.proofs.SeenTurns.{Visible, idle_shows, mask_off}
use Rattle.agreement.proofs.SeenSendings.{Rested, sent_leads, reached_turns}

-- ---- what is sent

abbrev pub letter : HostId → Message → Option (HostId × Message)
letter to said = Some (to, said)

of_letter : {X : Type 0} → (HostId → Message → X) → X → Option (HostId × Message) → X
of_letter make none None = none
of_letter make none (Some pair) = make pair.0 pair.1

one_letter : (to other : HostId) (said made : Message) → letter other made ≡ letter to said →
    (other ≡ to) × (made ≡ said)
unfolding of_letter
one_letter to other said made is =
    (ap (of_letter (λ h m. h) to) is, ap (of_letter (λ h m. m) said) is)

some_pair : {A : Type 0} (P : HostId → Message → A → Type 0) (to other : HostId) (said made : Message) (x : A) →
    letter other made ≡ letter to said → P other made x → P to said x
some_pair P to other said made x is holds =
    let both : (other ≡ to) × (made ≡ said) = one_letter to other said made is in
    let one = both.0 in
    let two = both.1 in
    subst (λ (h : HostId). P h said x) one (subst (λ (m : Message). P other m x) two holds)

-- Values that ride are seen under the labels of their variables, whether they are looked up before or behind that.
riding_seen : (eyes : Eyes) (variables : FrameId → VarId → ℤ) (view : HostView) (frame : FrameId) →
    ((x : VarId) → sees_variable eyes x ≡ true → variables frame x ≡ view.variables frame x) → (riders : List VarId) →
    riders_view eyes (riding variables frame riders) ≡ riding (shown_variables eyes view) frame riders
riding_seen eyes variables view frame same [] = refl
riding_seen eyes variables view frame same (x ∷ riders) =
    ap (λ value. (x, value) ∷ riders_view eyes (riding variables frame riders))
    (masks_same (sees_variable eyes x) (variables frame x) (view.variables frame x) (same x))
    ∙ ap (λ others. (x, shown_variables eyes view frame x) ∷ others)
    (riding_seen eyes variables view frame same riders)

-- Where each of the variables may be seen, all that rides is seen as it is.
riding_whole : (eyes : Eyes) (variables : FrameId → VarId → ℤ) (frame : FrameId) (riders : List VarId) →
    AllByRecursion (λ x. sees_variable eyes x ≡ true) riders →
    riding variables frame riders ≡ riders_view eyes (riding variables frame riders)
riding_whole eyes variables frame [] all = refl
riding_whole eyes variables frame (x ∷ riders) all =
    ap (λ value. (x, value) ∷ riding variables frame riders)
    (mask_off (sees_variable eyes x) (variables frame x) all.0)
    ∙ ap (λ others. (x, masked (sees_variable eyes x) (variables frame x)) ∷ others)
    (riding_whole eyes variables frame riders all.1)

-- a misbehaving host may see each variable that rides to it
riders_told : (eyes : Eyes) → AreEyes eyes → (here : Shade) (to : HostId) → eyes.bad to ≡ true →
    (riders : List VarId) → AllByRecursion (IsVariable eyes.code) riders → Rides eyes.scene here riders to →
    AllByRecursion (λ x. sees_variable eyes x ≡ true) riders
riders_told eyes are here to bad [] within rides = tt
riders_told eyes are here to bad (x ∷ riders) within rides = (
  variable_told eyes are to x within.0 (are.known.hosts to (label_of eyes.scene.basis.labelled x) rides.0.1) bad,
  riders_told eyes are here to bad riders within.1 rides.1,
)

-- A turn hands control over by a message, which is seen so in flight, and which a misbehaving host sees as it is.
record HandsOver (eyes : Eyes) (bare : HostState) (thread : ThreadShape) (view : HostView) (token : Token) (it : Op)
    (passes : Bool) (to : HostId) (said : Message) : Type 0 where
  does : after_operation eyes.code bare thread it passes ≡ with_message (with_running bare None) to said
  seen : Message
  hands : handed (shown_variables eyes view) bare.me (thread_view eyes bare.me thread.at thread) token it
      ≡ letter to seen
  flies : message_view eyes bare.me to said ≡ seen
  told : eyes.bad to ≡ true → said ≡ seen

-- what is sent where values ride, and what is seen of it
rides_over : (eyes : Eyes) (bare : HostState) (view : HostView) (frame : FrameId) (entry : EntryId) (on : HostId)
    (riders : List VarId) (token : Token) → AreEyes eyes →
    ((x : VarId) → sees_variable eyes x ≡ true → bare.variables frame x ≡ view.variables frame x) →
    (here : Shade) → AllByRecursion (IsVariable eyes.code) riders → Rides eyes.scene here riders on →
    let said = message.RgotoWith frame entry token (riding bare.variables frame riders) in
    let seen = message.RgotoWith frame entry token (riding (shown_variables eyes view) frame riders) in
    (message_view eyes bare.me on said ≡ seen) × (eyes.bad on ≡ true → said ≡ seen)
rides_over eyes bare view frame entry on riders token are same here within rides =
    let flies = riding_seen eyes bare.variables view frame same riders in (
      ap (message.RgotoWith frame entry token) flies,
      λ bad.
          let all = riders_told eyes are here on bad riders within rides in
          ap (message.RgotoWith frame entry token) (riding_whole eyes bare.variables frame riders all ∙ flies),
    )

handed_is : (eyes : Eyes) (bare : HostState) (thread : ThreadShape) (view : HostView) (token : Token) (it : Op)
    (passes : Bool) (count : ℕ) (to : HostId) (said : Message) → AreEyes eyes →
    ((frame : FrameId) (x : VarId) → sees_variable eyes x ≡ true → bare.variables frame x ≡ view.variables frame x) →
    IsShadedOp eyes.scene eyes.shades bare.me thread.at it → OperationFits eyes.code bare.me count it →
    thread.held ≡ Some token → handed bare.variables bare.me thread token it ≡ letter to said →
    HandsOver eyes bare thread view token it passes to said
handed_is eyes bare thread view token (op.Go entry on) passes count to said are same law fits held is =
    some_pair P to on said (message.Rgoto thread.frame entry token) eyes is (record {
      does = ap (after_go bare thread thread.frame entry on) held;
      seen = message.Rgoto thread.frame entry token;
      hands = refl;
      flies = refl;
      told = λ bad. refl;
    })
  where
    P : HostId → Message → Eyes → Type 0
    P h m e = HandsOver e bare thread view token (op.Go entry on) passes h m
handed_is eyes bare thread view token (op.Call entry on) passes count to said are same law fits held is =
    by (on.0 == bare.me.0) refl is
  where
    P : HostId → Message → Eyes → Type 0
    P h m e = HandsOver e bare thread view token (op.Call entry on) passes h m

    by : (b : Bool) → (on.0 == bare.me.0) ≡ b →
        (if b then None else letter on (message.Rgoto thread.new_frame entry token)) ≡ letter to said →
        HandsOver eyes bare thread view token (op.Call entry on) passes to said
    by true here never = absurd (cc)
    by false apart same_letter =
        some_pair P to on said (message.Rgoto thread.new_frame entry token) eyes same_letter (record {
          does = rw apart (ap (after_go bare thread thread.new_frame entry on) held);
          seen = message.Rgoto thread.new_frame entry token;
          hands = rw apart refl;
          flies = refl;
          told = λ bad. refl;
        })
handed_is eyes bare thread view token (op.GoWith entry on riders) passes count to said are same law fits held is =
    let done = rides_over eyes bare view thread.frame entry on riders token are (same thread.frame)
    (eyes.shades.at bare.me thread.at) fits.2.1 law.1 in
    some_pair P to on said (message.RgotoWith thread.frame entry token (riding bare.variables thread.frame riders)) eyes
    is (record {
      does = ap (after_go_with bare thread thread.frame entry on riders) held;
      seen = message.RgotoWith thread.frame entry token (riding (shown_variables eyes view) thread.frame riders);
      hands = refl;
      flies = done.0;
      told = done.1;
    })
  where
    P : HostId → Message → Eyes → Type 0
    P h m e = HandsOver e bare thread view token (op.GoWith entry on riders) passes h m
handed_is eyes bare thread view token (op.CallWith entry on riders) passes count to said are same law fits held is =
    let done = rides_over eyes bare view thread.new_frame entry on riders token are (same thread.new_frame)
    (eyes.shades.at bare.me thread.at) fits.2.1 law.1 in
    some_pair P to on said (message.RgotoWith thread.new_frame entry token
    (riding bare.variables thread.new_frame riders)) eyes is (record {
      does = ap (after_go_with bare thread thread.new_frame entry on riders) held;
      seen = message.RgotoWith thread.new_frame entry token
          (riding (shown_variables eyes view) thread.new_frame riders);
      hands = refl;
      flies = done.0;
      told = done.1;
    })
  where
    P : HostId → Message → Eyes → Type 0
    P h m e = HandsOver e bare thread view token (op.CallWith entry on riders) passes h m
handed_is eyes bare thread view token op.Back passes count to said are same law fits held is =
    by (token.host.0 == bare.me.0) refl is
  where
    P : HostId → Message → Eyes → Type 0
    P h m e = HandsOver e bare thread view token op.Back passes h m

    by : (b : Bool) → (token.host.0 == bare.me.0) ≡ b →
        (if b then None else letter token.host (message.Lgoto token)) ≡ letter to said →
        HandsOver eyes bare thread view token op.Back passes to said
    by true here never = absurd (cc)
    by false apart same_letter =
        some_pair P to token.host said (message.Lgoto token) eyes same_letter (record {
          does = rw (held, apart) refl;
          seen = message.Lgoto token;
          hands = rw apart refl;
          flies = refl;
          told = λ bad. refl;
        })
handed_is eyes bare thread view token (op.Read field index) passes count to said are same law fits held is =
    absurd (cc)
handed_is eyes bare thread view token (op.Let x value) passes count to said are same law fits held is =
    absurd (cc)
handed_is eyes bare thread view token (op.Put field index value) passes count to said are same law fits held is =
    absurd (cc)
handed_is eyes bare thread view token (op.Send x on) passes count to said are same law fits held is =
    absurd (cc)
handed_is eyes bare thread view token (op.Frame site) passes count to said are same law fits held is =
    absurd (cc)
handed_is eyes bare thread view token (op.Arg x value) passes count to said are same law fits held is =
    absurd (cc)
handed_is eyes bare thread view token (op.Pass x on) passes count to said are same law fits held is =
    absurd (cc)
handed_is eyes bare thread view token (op.Push entry) passes count to said are same law fits held is =
    absurd (cc)
handed_is eyes bare thread view token (op.Ask entry on) passes count to said are same law fits held is =
    absurd (cc)
handed_is eyes bare thread view token (op.Ret x value) passes count to said are same law fits held is =
    absurd (cc)
handed_is eyes bare thread view token (op.Branch guard target) passes count to said are same law fits held is =
    absurd (cc)

-- ---- whatever the values are that ride

letter_to : (to on : HostId) (said : Message) → on ≡ to → (also : Message) × (letter on said ≡ letter to also)
letter_to to on said same = (said, ap (λ (h : HostId). letter h said) same)

letter_unless : (to on : HostId) (said made also : Message) (own : Bool) →
    (if own then None else letter on made) ≡ letter to said →
    (shown : Message) × ((if own then None else letter on also) ≡ letter to shown)
letter_unless to on said made also true is = absurd (cc)
letter_unless to on said made also false is = letter_to to on also (one_letter to on said made is).0

-- Control is handed over to the same host, whatever the values of variables are.
pub handed_too : (variables others : FrameId → VarId → ℤ) (me : HostId) (thread twin : ThreadShape) (token : Token)
    (it : Op) (to : HostId) (said : Message) → handed variables me thread token it ≡ letter to said →
    (also : Message) × (handed others me twin token it ≡ letter to also)
handed_too variables others me thread twin token (op.Go entry on) to said is =
    letter_to to on (message.Rgoto twin.frame entry token) (one_letter to on said _ is).0
handed_too variables others me thread twin token (op.Call entry on) to said is =
    letter_unless to on said (message.Rgoto thread.new_frame entry token) (message.Rgoto twin.new_frame entry token)
    (on.0 == me.0) is
handed_too variables others me thread twin token (op.GoWith entry on riders) to said is =
    letter_to to on (message.RgotoWith twin.frame entry token (riding others twin.frame riders))
    (one_letter to on said _ is).0
handed_too variables others me thread twin token (op.CallWith entry on riders) to said is =
    letter_to to on (message.RgotoWith twin.new_frame entry token (riding others twin.new_frame riders))
    (one_letter to on said _ is).0
handed_too variables others me thread twin token op.Back to said is = (said, is)
handed_too variables others me thread twin token (op.Read field index) to said is = absurd (cc)
handed_too variables others me thread twin token (op.Let x value) to said is = absurd (cc)
handed_too variables others me thread twin token (op.Put field index value) to said is = absurd (cc)
handed_too variables others me thread twin token (op.Send x on) to said is = absurd (cc)
handed_too variables others me thread twin token (op.Frame site) to said is = absurd (cc)
handed_too variables others me thread twin token (op.Arg x value) to said is = absurd (cc)
handed_too variables others me thread twin token (op.Pass x on) to said is = absurd (cc)
handed_too variables others me thread twin token (op.Push entry) to said is = absurd (cc)
handed_too variables others me thread twin token (op.Ask entry on) to said is = absurd (cc)
handed_too variables others me thread twin token (op.Ret x value) to said is = absurd (cc)
handed_too variables others me thread twin token (op.Branch guard target) to said is = absurd (cc)

-- ---- a turn

-- a host on which no thread runs any more
idle_rested : (eyes : Eyes) (old : HostState) (thread : ThreadShape) (there : Instr) (token : Token) (now : LowView) →
    Visible eyes old thread there token now →
    Rested eyes old (with_running old None) (host_idle (now.hosts old.me))
idle_rested eyes old thread there token now run = record {
  running = refl;
  waiting = run.waits;
  entries = run.entries;
  own = idle_shows eyes old.me old (now.hosts old.me) run.shows;
}

pub reached_hands : (eyes : Eyes) (rows : List declared_hosts.HostShape) (bad : ℕ) (store : List (List ℤ))
    (events : List Event) (world after : WorldShape) (host : HostId) (now : LowView) →
    RunsHanding eyes.code world host →
    AreEyes eyes → Watches eyes (world_at_start eyes.code rows bad store) →
    IsReached eyes.code rows bad store events world → IsStep eyes.code world (Turn host) after →
    IsQuiet eyes.code world → Leads eyes world now →
    (seen : LowView) × SeenHanding eyes now host seen × Leads eyes after seen
reached_hands eyes rows bad store events world after host now run are watch reach step quiet leads =
    let old = run.state in
    let thread = run.thread in
    let there = run.instruction in
    let turn = reached_turns eyes rows bad store events world after host now old thread there run.token run.there
    run.running run.is run.held are watch reach step quiet leads in
    let shown = thread_view eyes old.me thread.at thread in
    let law = (are.shaded.instructions old.me thread.at there turn.visible.is).law in
    let fits = ((reach.sound.parts old.me turn.visible.fits.me).instructions thread.at there turn.visible.is).operation
    in
    let hands : handed old.variables old.me thread run.token there.op ≡ Some (run.to, run.said) =
    subst (λ (h : HostId). handed old.variables h thread run.token there.op ≡ Some (run.to, run.said)) (sym turn.me)
    run.hands in
    let done = handed_is eyes (with_running old None) thread (now.hosts old.me) run.token there.op turn.passes _ run.to
    run.said are turn.visible.shows.variables law fits run.held hands in
    let seen = sent_view (with_host now old.me (host_idle (now.hosts old.me))) old.me run.to
    (record { message = done.seen; label = there.label }) (eyes.bad run.to) in
    let shows : SeenHanding eyes now old.me seen = record {
      thread = shown;
      running = turn.running;
      token = run.token;
      held = run.held;
      instruction = there;
      is = turn.visible.is;
      to = run.to;
      said = done.seen;
      hands = done.hands;
      seen = refl;
    } in (
      seen,
      subst (λ (h : HostId). SeenHanding eyes now h seen) turn.me shows,
      sent_leads eyes world after old (with_running old None) (host_idle (now.hosts old.me)) turn.outcome run.to
          run.said done.seen (label_of_turn eyes.code old) there.label now turn.calm turn.watch turn.obeys
          (idle_rested eyes old thread there run.token now turn.visible) turn.opens turn.label_is
          done.flies done.told (sym done.does ∙ turn.does) turn.leaves,
    )

pub same_first : {X : Type 0} (x y : X) → x ∷ [] ≡ y ∷ [] → x ≡ y
same_first x y is = cc

pub handing_once : (eyes : Eyes) (now : LowView) (host : HostId) (first second : LowView) →
    SeenHanding eyes now host first → SeenHanding eyes now host second → first ≡ second
handing_once eyes now host first second one two =
    let seen = shown_variables eyes (now.hosts host) in
    let thread : two.thread ≡ one.thread = same_first two.thread one.thread (sym two.running ∙ one.running) in
    let token : two.token ≡ one.token =
    some_is (sym two.held ∙ ap (λ (t : ThreadShape). t.held) thread ∙ one.held) in
    let there : two.instruction ≡ one.instruction =
    some_is (sym two.is ∙ ap (λ (t : ThreadShape). instruction_at eyes.code host t.at) thread ∙ one.is) in
    let both = one_letter one.to two.to one.said two.said
    (sym two.hands ∙ ap (λ (t : ThreadShape). handed seen host t two.token two.instruction.op) thread
    ∙ ap (λ (t : Token). handed seen host one.thread t two.instruction.op) token
    ∙ ap (λ (i : Instr). handed seen host one.thread one.token i.op) there ∙ one.hands) in
    let idle_now = with_host now host (host_idle (now.hosts host)) in
    one.seen
    ∙ sym (two.seen
    ∙ ap (λ (h : HostId). sent_view idle_now host h (record { message = two.said; label = two.instruction.label })
    (eyes.bad h)) both.0
    ∙ ap (λ (m : Message). sent_view idle_now host one.to (record { message = m; label = two.instruction.label })
    (eyes.bad one.to)) both.1
    ∙ ap (λ (i : Instr). sent_view idle_now host one.to (record { message = one.said; label = i.label })
    (eyes.bad one.to)) there)
