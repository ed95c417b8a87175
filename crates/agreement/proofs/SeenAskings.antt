-- A turn that may be seen, and that asks another host, leads to what is seen then.
use Rattle.std.proofs.Common.{◌≡◌, ◌≢◌, ◌∙◌, ℕ, ◌<◌, Bool, true, false, List, [], ◌∷◌, ◌++◌, length, arith, Option}
use Rattle.std.proofs.Common.{Some, None, refl, ap, sym, subst}
use Rattle.std.specs.Prelude.{◌==◌, ◌↔◌, ℤ, if◌then◌else◌, not, filter, map, IsTrue}
use Rattle.std.specs.Option.{IsSomeAnd}
use Rattle.std.proofs.lemmas.List.{map-append}
use Rattle.std.proofs.lemmas.Option.{slice_get_within}
use Rattle.js_base.specs.declared.ids.HostId.{HostId}
use Rattle.js_base.specs.declared.ids.FieldId.{FieldId}
use Rattle.js_base.specs.declared.ids.FrameId.{FrameId}
use Rattle.js_base.specs.declared.ids.VarId.{VarId}
use Rattle.js_base.specs.declared.ids.EntryId.{EntryId}
use Rattle.js_base.specs.declared.ids.RequestId.{RequestId}
use Rattle.label_lattice.specs.declared.label.Label.{Label}
use Rattle.label_lattice.specs.Lattice.{join_of}
use Rattle.jif_tree.specs.LabelRules.{field_label}
use Rattle.capability.specs.declared.token.Token.{Token}
use Rattle.need_labels.specs.Needs.{label_of}
use Rattle.need_labels.specs.Plan.{field_host}
use Rattle.host_decl.specs.Hosts as declared_hosts
use Rattle.host_code.specs.declared.code_expr.Node.{Node}
use Rattle.host_code.specs.declared.instruction.Instr.{Instr}
use Rattle.host_code.specs.declared.instruction.Op.{Op}
use Rattle.host_code.specs.declared.instruction.Op.TheVariants as op
use Rattle.host_code.specs.declared.message.Message.{Message}
use Rattle.host_code.specs.declared.message.Message.TheVariants as message
use Rattle.host_code.specs.Code.{CodeFieldShape, CodeVariableShape, part_of, field_at, variable_at}
use Rattle.host_code.specs.Sound.{IsVariable, OperationFits}
use Rattle.host_code.specs.Thread.{ThreadShape, WaitingShape}
use Rattle.host_code.specs.Thread.Awaited.{value_of_field, acknowledgement, token_of_entry}
use Rattle.entry_check.specs.Checks.{MaySee, label_of_host}
use Rattle.host_core.specs.Host.{HostState, Outcome, with_running, with_message, after_step, after_clearing, with_token}
use Rattle.host_core.specs.Host.{value_in_thread, next_request, after_asking}
use Rattle.host_core.specs.Turn.{after_operation, after_read, after_put, after_forward, after_ask, after_return}
use Rattle.host_core.specs.Turn.{MayReturn, PassesWith, label_of_turn, with_thread}
use Rattle.event_text.specs.declared.event.Event.{Event}
use Rattle.event_text.specs.declared.event.Event.TheVariants.{Turn}
use Rattle.net_world.specs.Secret.{IsQuiet}
use Rattle.net_world.specs.World.{WorldShape, IsStep, world_at_start}
use Rattle.net_world.proofs.Present.{same_id}
use Rattle.split_rules.proofs.SeenLabels.{flows_both}
use Rattle.split_shades.specs.Basis.{value_label}
use Rattle.split_shades.specs.ShadedCode.{IsShadedOp}
use Rattle.token_laws.specs.Reached.{IsReached}
use Rattle.token_laws.proofs.Tests.{different}
use Rattle.seen_world.specs.Eyes.{Eyes, AreEyes, Watches, sees_at}
use Rattle.seen_world.proofs.SeenPlaces.{own_field, label_told}
use Rattle.agreement.specs.Asking.{AsksElsewhere, RunsAsking, carried_asking, Question, asked, asked_there}
use Rattle.agreement.specs.Asking.{request_shown, host_waiting, SeenAsking}
use Rattle.agreement.specs.Handing.{sent_view}
use Rattle.agreement.specs.Leads.{Leads}
use Rattle.agreement.specs.Views.{LowView, masked, masked_all, sees_field, sees_variable, sees_read}
use Rattle.agreement.specs.Views.{thread_view, waits_open, waiter_view, message_view, with_host}
use Rattle.agreement.proofs.CarriedSame.{variable_seen}
use Rattle.agreement.proofs.Lists.{left_last, kept_last}
use Rattle.agreement.proofs.SeenOperations.{read_seen}
use Rattle.agreement.proofs.SeenSendings.{Rested, Turns, sent_leads, reached_turns}
use Rattle.agreement.proofs.SeenTurns.{Visible, idle_shows, mask_off, count_alike}

-- ---- what a misbehaving host is told, it may see

-- a result
result_told : (eyes : Eyes) → AreEyes eyes → (to : HostId) (x : VarId) →
    MayReturn eyes.code (variable_at eyes.code x) to →
    eyes.bad to ≡ true → sees_variable eyes x ≡ true
result_told eyes are to x may bad = by (variable_at eyes.code x) refl may
  where
    by : (found : Option CodeVariableShape) → variable_at eyes.code x ≡ found → MayReturn eyes.code found to →
        sees_variable eyes x ≡ true
    by None is may = absurd may
    by (Some there) is may =
        let same : sees_variable eyes x ≡ sees_at eyes there.label = rw is refl in
        same ∙ label_told eyes are to there.label may bad

-- what is set in a field
field_told : (eyes : Eyes) → AreEyes eyes → (field : FieldId) (there : CodeFieldShape) →
    field_at eyes.code field ≡ Some there → eyes.bad there.host ≡ true → sees_field eyes field ≡ true
field_told eyes are field there is bad =
    let same : sees_field eyes field ≡ sees_at eyes there.label = rw is refl in
    same ∙ own_field eyes field there are is bad

may_both : (first second : Label) (host : Option Label) → MaySee (Some first) host → MaySee (Some second) host →
    MaySee (Some (join_of first second)) host
may_both first second None one two = absurd one
may_both first second (Some host) one two = flows_both first second host one two

-- the index of a read
index_told : (eyes : Eyes) (old : HostState) (thread : ThreadShape) (field : FieldId) (index : List Node)
    (there : CodeFieldShape) → AreEyes eyes →
    IsShadedOp eyes.scene eyes.shades old.me thread.at (op.Read field index) →
    field_at eyes.code field ≡ Some there → eyes.bad there.host ≡ true →
    sees_read eyes old.me (next_request old thread.at) ≡ true
index_told eyes old thread field index there are law is bad =
    let here = eyes.shades.at old.me thread.at in
    let reads = law.1 in
    let own : Label = field_label eyes.scene.basis.labelled.program field in
    let asks : Label = value_label eyes.scene.basis here.pc reads.index in
    let known = are.known.fields field there is in
    let may_own : MaySee (Some own) (label_of_host eyes.code there.host) =
    subst (λ found. MaySee found (label_of_host eyes.code there.host)) known.0 known.2 in
    let may_ask : MaySee (Some asks) (label_of_host eyes.code there.host) =
    subst (λ (h : HostId). MaySee (Some asks) (label_of_host eyes.code h)) (sym known.1)
    (are.known.hosts (field_host eyes.scene.planned.plan field) asks reads.index_told) in
    read_seen eyes old.me thread.at field index law
    ∙ are.host there.host (join_of own asks) bad
    (may_both own asks (label_of_host eyes.code there.host) may_own may_ask)

-- the value of a variable
pub variable_told : (eyes : Eyes) → AreEyes eyes → (to : HostId) (x : VarId) → IsVariable eyes.code x →
    MaySee (Some (label_of eyes.scene.basis.labelled x)) (label_of_host eyes.code to) → eyes.bad to ≡ true →
    sees_variable eyes x ≡ true
variable_told eyes are to x within may bad =
    variable_seen eyes are x within (are.host to (label_of eyes.scene.basis.labelled x) bad may)

-- ---- what is asked

-- The thread waits so, and what it asks with is seen so.
pub record Asks (eyes : Eyes) (old : HostState) (thread : ThreadShape) (question : Question) (outcome : Outcome) :
    Type 0 where
  pub said : Message
  pub later : ThreadShape
  pub is : with_message (after_asking (with_running old None) thread.at later question.awaited question.to) question.to
      said
      ≡ outcome
  pub goes_on : thread_view eyes old.me thread.at later ≡ question.later
  pub shown : message_view eyes old.me question.to said ≡ question.said
  pub told : eyes.bad question.to ≡ true → said ≡ question.said

-- this is asked, as far as it may be seen
abbrev pub AsksSo : Eyes → HostState → ThreadShape → LowView → Option Question → Outcome → Type 0
AsksSo eyes old thread now found outcome =
    (question : Question) × (found ≡ Some question) × Asks eyes old thread question outcome

request_same : (eyes : Eyes) (old : HostState) (thread : ThreadShape) (there : Instr) (token : Token) (now : LowView) →
    Visible eyes old thread there token now →
    next_request old thread.at ≡ request_shown (now.hosts old.me) thread.at
request_same eyes old thread there token now run =
    ap (λ n. record { at = thread.at; count = n }) (run.shows.requests thread.at run.seen)

-- no temporaries are seen as none
masked_none : (eyes : Eyes) (labels : List Label) → masked_all eyes labels [] ≡ []
masked_none eyes [] = refl
masked_none eyes (label ∷ labels) = refl

cleared_view : (eyes : Eyes) (host : HostId) (thread : ThreadShape) →
    thread_view eyes host thread.at (after_clearing thread) ≡ after_clearing (thread_view eyes host thread.at thread)
cleared_view eyes host thread =
    ap (λ ts. record (after_clearing thread) { temporaries = ts })
    (masked_none eyes (eyes.shades.at host thread.at).temps)

either_false : (P : Outcome → Type 0) (b : Bool) (one other : Outcome) → b ≡ false → P other →
    P (if b then one else other)
either_false P b one other is second = subst (λ (c : Bool). P (if c then one else other)) (sym is) second

apart_is : (one other : HostId) → one ≢ other → (one.0 == other.0) ≡ false
apart_is one other apart = different one.0 other.0 (λ same. apart (same_id one other same))

forward_asked : (eyes : Eyes) (old : HostState) (thread later : ThreadShape) (there : Instr) (token : Token)
    (now : LowView) (seen_later : ThreadShape) (frame : FrameId) (x : VarId) (value : ℤ) (to : HostId) →
    Visible eyes old thread there token now → thread_view eyes old.me thread.at later ≡ seen_later →
    (eyes.bad to ≡ true → sees_variable eyes x ≡ true) →
    Asks eyes old thread (record {
      to = to;
      said = message.Forward (request_shown (now.hosts old.me) thread.at) frame x (masked (sees_variable eyes x) value);
      awaited = acknowledgement;
      later = seen_later;
    }) (after_forward (with_running old None) thread.at later frame x value to)
forward_asked eyes old thread later there token now seen_later frame x value to run goes_on tells =
    let same = request_same eyes old thread there token now run in
    record {
      said = message.Forward (next_request old thread.at) frame x value;
      later = later;
      is = refl;
      goes_on = goes_on;
      shown = ap (λ (r : RequestId). message.Forward r frame x (masked (sees_variable eyes x) value)) same;
      told = λ bad. ap (λ (r : RequestId). message.Forward r frame x value) same
          ∙ ap (message.Forward (request_shown (now.hosts old.me) thread.at) frame x)
          (mask_off (sees_variable eyes x) value (tells bad));
    }

send_asked : (eyes : Eyes) (old : HostState) (thread : ThreadShape) (there : Instr) (token : Token) (now : LowView)
    (frame : FrameId) (x : VarId) (to : HostId) → Visible eyes old thread there token now → IsVariable eyes.code x →
    MaySee (Some (label_of eyes.scene.basis.labelled x)) (label_of_host eyes.code to) →
    Asks eyes old thread (record {
      to = to;
      said = message.Forward (request_shown (now.hosts old.me) thread.at) frame x
          (masked (sees_variable eyes x) (old.variables frame x));
      awaited = acknowledgement;
      later = after_step (thread_view eyes old.me thread.at thread);
    }) (after_forward (with_running old None) thread.at (after_step thread) frame x (old.variables frame x) to)
send_asked eyes old thread there token now frame x to run within may =
    forward_asked eyes old thread (after_step thread) there token now
    (after_step (thread_view eyes old.me thread.at thread)) frame x (old.variables frame x) to run refl
    (variable_told eyes run.are to x within may)

ask_asked : (eyes : Eyes) (old : HostState) (thread : ThreadShape) (there : Instr) (token : Token) (now : LowView)
    (entry : EntryId) (on : HostId) → Visible eyes old thread there token now →
    Asks eyes old thread (record {
      to = on;
      said = message.Sync (request_shown (now.hosts old.me) thread.at) thread.frame entry token;
      awaited = token_of_entry;
      later = with_token None (after_step (thread_view eyes old.me thread.at thread));
    }) (after_ask (with_running old None) thread entry on thread.held)
ask_asked eyes old thread there token now entry on run =
    let same = ap (λ (r : RequestId). message.Sync r thread.frame entry token)
    (request_same eyes old thread there token now run) in
    record {
      said = message.Sync (next_request old thread.at) thread.frame entry token;
      later = with_token None (after_step thread);
      is = ap (after_ask (with_running old None) thread entry on) (sym run.held);
      goes_on = refl;
      shown = same;
      told = λ bad. same;
    }

read_asked : (eyes : Eyes) (old : HostState) (thread : ThreadShape) (there : Instr) (token : Token) (now : LowView)
    (field : FieldId) (index : List Node) → Visible eyes old thread there token now →
    IsShadedOp eyes.scene eyes.shades old.me thread.at (op.Read field index) → (found : Option CodeFieldShape) →
    field_at eyes.code field ≡ found → IsSomeAnd found (λ on. on.host ≢ old.me) →
    AsksSo eyes old thread now (asked_there found (message.Get (request_shown (now.hosts old.me) thread.at) field
    (masked (sees_read eyes old.me (next_request old thread.at)) (value_in_thread old thread index))) value_of_field
    (after_step (thread_view eyes old.me thread.at thread)))
    (after_read (with_running old None) thread field index found)
read_asked eyes old thread there token now field index run law None is elsewhere = absurd elsewhere
read_asked eyes old thread there token now field index run law (Some on) is elsewhere =
    let place = value_in_thread old thread index in
    let sees = sees_read eyes old.me (next_request old thread.at) in
    let request = request_shown (now.hosts old.me) thread.at in
    let same = request_same eyes old thread there token now run in
    let question : Question = record {
      to = on.host;
      said = message.Get request field (masked sees place);
      awaited = value_of_field;
      later = after_step (thread_view eyes old.me thread.at thread);
    } in
    let made : Outcome =
    with_message (after_asking (with_running old None) thread.at (after_step thread) value_of_field on.host) on.host
    (message.Get (next_request old thread.at) field place) in
    let done : Asks eyes old thread question made = record {
      said = message.Get (next_request old thread.at) field place;
      later = after_step thread;
      is = refl;
      goes_on = refl;
      shown = ap (λ (r : RequestId). message.Get r field (masked sees place)) same;
      told = λ bad. ap (λ (r : RequestId). message.Get r field place) same
          ∙ ap (message.Get request field)
          (mask_off sees place (index_told eyes old thread field index on run.are law is bad));
    } in (
      question,
      refl,
      either_false (Asks eyes old thread question) (on.host.0 == old.me.0) _ made (apart_is on.host old.me elsewhere)
          done,
    )

put_asked : (eyes : Eyes) (old : HostState) (thread : ThreadShape) (there : Instr) (token : Token) (now : LowView)
    (field : FieldId) (index value : List Node) → Visible eyes old thread there token now →
    (found : Option CodeFieldShape) → field_at eyes.code field ≡ found → IsSomeAnd found (λ on. on.host ≢ old.me) →
    AsksSo eyes old thread now (asked_there found (message.Set (request_shown (now.hosts old.me) thread.at) field
    (masked (sees_field eyes field) (value_in_thread old thread index))
    (masked (sees_field eyes field) (value_in_thread old thread value))) acknowledgement
    (after_clearing (thread_view eyes old.me thread.at thread)))
    (after_put (with_running old None) thread field index value found)
put_asked eyes old thread there token now field index value run None is elsewhere = absurd elsewhere
put_asked eyes old thread there token now field index value run (Some on) is elsewhere =
    let place = value_in_thread old thread index in
    let number = value_in_thread old thread value in
    let sees = sees_field eyes field in
    let request = request_shown (now.hosts old.me) thread.at in
    let same = request_same eyes old thread there token now run in
    let question : Question = record {
      to = on.host;
      said = message.Set request field (masked sees place) (masked sees number);
      awaited = acknowledgement;
      later = after_clearing (thread_view eyes old.me thread.at thread);
    } in
    let made : Outcome =
    with_message (after_asking (with_running old None) thread.at (after_clearing thread) acknowledgement on.host)
    on.host (message.Set (next_request old thread.at) field place number) in
    let done : Asks eyes old thread question made = record {
      said = message.Set (next_request old thread.at) field place number;
      later = after_clearing thread;
      is = refl;
      goes_on = cleared_view eyes old.me thread;
      shown = ap (λ (r : RequestId). message.Set r field (masked sees place) (masked sees number)) same;
      told = λ bad.
          let seen = field_told eyes run.are field on is bad in
          ap (λ (r : RequestId). message.Set r field place number) same
          ∙ ap (λ v. message.Set request field v number) (mask_off sees place seen)
          ∙ ap (message.Set request field (masked sees place)) (mask_off sees number seen);
    } in (
      question,
      refl,
      either_false (Asks eyes old thread question) (on.host.0 == old.me.0) _ made (apart_is on.host old.me elsewhere)
          done,
    )

return_asked : (eyes : Eyes) (old : HostState) (thread : ThreadShape) (there : Instr) (token : Token) (now : LowView)
    (x : VarId) (value : List Node) (passes : Bool) → Visible eyes old thread there token now →
    (token.host ≢ old.me) × MayReturn eyes.code (variable_at eyes.code x) token.host →
    (IsTrue passes ↔ PassesWith eyes.code (with_running old None) (op.Ret x value) thread.held) →
    Asks eyes old thread (record {
      to = token.host;
      said = message.Forward (request_shown (now.hosts old.me) thread.at) token.frame x
          (masked (sees_variable eyes x) (value_in_thread old thread value));
      awaited = acknowledgement;
      later = after_clearing (thread_view eyes old.me thread.at thread);
    }) (after_return (with_running old None) thread x value thread.held passes)
return_asked eyes old thread there token now x value passes run elsewhere checks =
    let checked : IsTrue passes ↔ PassesWith eyes.code (with_running old None) (op.Ret x value) (Some token) =
    subst (λ held. IsTrue passes ↔ PassesWith eyes.code (with_running old None) (op.Ret x value) held) run.held
    checks in
    let pass : passes ≡ true = checked.1 (λ apart. elsewhere.1) in
    subst (λ held. Asks eyes old thread question (after_return (with_running old None) thread x value held passes))
    (sym run.held)
    (either_false (Asks eyes old thread question) (token.host.0 == old.me.0) _ _
    (apart_is token.host old.me elsewhere.0)
    (subst (λ (b : Bool). Asks eyes old thread question (if b
    then after_forward (with_running old None) thread.at (after_clearing thread) token.frame x
    (value_in_thread old thread value) token.host
    else with_thread (with_running old None) (after_clearing thread))) (sym pass)
    (forward_asked eyes old thread (after_clearing thread) there token now
    (after_clearing (thread_view eyes old.me thread.at thread)) token.frame x (value_in_thread old thread value)
    token.host run (cleared_view eyes old.me thread) (result_told eyes run.are token.host x elsewhere.1))))
  where
    question : Question
    question = record {
      to = token.host;
      said = message.Forward (request_shown (now.hosts old.me) thread.at) token.frame x
          (masked (sees_variable eyes x) (value_in_thread old thread value));
      awaited = acknowledgement;
      later = after_clearing (thread_view eyes old.me thread.at thread);
    }

-- ---- each instruction

operation_asked : (eyes : Eyes) (old : HostState) (thread : ThreadShape) (there : Instr) (token : Token) (now : LowView)
    (count : ℕ) (it : Op) (passes : Bool) → Visible eyes old thread there token now →
    AsksElsewhere eyes.code old.me token it → IsShadedOp eyes.scene eyes.shades old.me thread.at it →
    OperationFits eyes.code old.me count it →
    (IsTrue passes ↔ PassesWith eyes.code (with_running old None) it thread.held) →
    AsksSo eyes old thread now (asked eyes.code (thread_view eyes old.me thread.at thread) token
    (request_shown (now.hosts old.me) thread.at) (carried_asking eyes old thread it) it)
    (after_operation eyes.code (with_running old None) thread it passes)
operation_asked eyes old thread there token now count (op.Read field index) passes run elsewhere law fits checks =
    read_asked eyes old thread there token now field index run law (field_at eyes.code field) refl elsewhere
operation_asked eyes old thread there token now count (op.Put field index value) passes run elsewhere law fits checks =
    put_asked eyes old thread there token now field index value run (field_at eyes.code field) refl elsewhere
operation_asked eyes old thread there token now count (op.Send x to) passes run elsewhere law fits checks = (
  _,
  refl,
  send_asked eyes old thread there token now thread.frame x to run fits.0
      (run.are.known.hosts to (label_of eyes.scene.basis.labelled x) law.1.1.2.1),
)
operation_asked eyes old thread there token now count (op.Pass x to) passes run elsewhere law fits checks = (
  _,
  refl,
  send_asked eyes old thread there token now thread.new_frame x to run fits.0
      (run.are.known.hosts to (label_of eyes.scene.basis.labelled x) law.1.1.2.1),
)
operation_asked eyes old thread there token now count (op.Ask entry on) passes run elsewhere law fits checks =
    (_, refl, ask_asked eyes old thread there token now entry on run)
operation_asked eyes old thread there token now count (op.Ret x value) passes run elsewhere law fits checks =
    (_, refl, return_asked eyes old thread there token now x value passes run elsewhere checks)
operation_asked eyes old thread there token now count (op.Let x value) passes run elsewhere law fits checks =
    absurd elsewhere
operation_asked eyes old thread there token now count (op.Arg x value) passes run elsewhere law fits checks =
    absurd elsewhere
operation_asked eyes old thread there token now count (op.Frame site) passes run elsewhere law fits checks =
    absurd elsewhere
operation_asked eyes old thread there token now count (op.Push entry) passes run elsewhere law fits checks =
    absurd elsewhere
operation_asked eyes old thread there token now count (op.Go entry on) passes run elsewhere law fits checks =
    absurd elsewhere
operation_asked eyes old thread there token now count (op.Call entry on) passes run elsewhere law fits checks =
    absurd elsewhere
operation_asked eyes old thread there token now count (op.GoWith entry on riders) passes run elsewhere law fits checks =
    absurd elsewhere
operation_asked eyes old thread there token now count (op.CallWith entry on riders) passes run elsewhere law fits
    checks = absurd elsewhere
operation_asked eyes old thread there token now count op.Back passes run elsewhere law fits checks = absurd elsewhere
operation_asked eyes old thread there token now count (op.Branch guard target) passes run elsewhere law fits checks =
    absurd elsewhere

-- ---- the host then

asking_rested : (eyes : Eyes) (old : HostState) (thread : ThreadShape) (there : Instr) (token : Token) (now : LowView)
    (question : Question) (outcome : Outcome) → Visible eyes old thread there token now →
    (asks : Asks eyes old thread question outcome) →
    Rested eyes old (after_asking (with_running old None) thread.at asks.later question.awaited question.to)
    (host_waiting (now.hosts old.me) (request_shown (now.hosts old.me) thread.at) question)
asking_rested eyes old thread there token now question outcome run asks =
    let view_here = now.hosts old.me in
    let request = request_shown view_here thread.at in
    let idle = idle_shows eyes old.me old view_here run.shows in
    let waits : ThreadShape → RequestId → WaitingShape = λ t r.
    record { thread = t; awaited = question.awaited; request = r; asked = question.to } in
    let waiter = waits asks.later (next_request old thread.at) in
    let within : thread.at < length (part_of eyes.code old.me) =
    slice_get_within (part_of eyes.code old.me) thread.at there run.is in
    let many = run.fits.requests in
    let below : thread.at < length old.requests = omega (arith, within, many) in
    let seen_waiter : waiter_view eyes old.me waiter ≡ waits question.later request =
    ap (λ (t : ThreadShape). waits t (next_request old thread.at)) asks.goes_on
    ∙ ap (waits question.later) (request_same eyes old thread there token now run) in
    record {
      running = refl;
      waiting = left_last (λ one. not (waits_open eyes old.me one)) old.waiting waiter (ap not run.seen) ∙ run.waits;
      entries = run.entries;
      own = record {
        key = idle.key;
        rows = idle.rows;
        variables = idle.variables;
        running = refl;
        waiting =
            ap (map (waiter_view eyes old.me)) (kept_last (waits_open eyes old.me) old.waiting waiter run.seen)
            ∙ map-append (waiter_view eyes old.me) (filter (waits_open eyes old.me) old.waiting) (waiter ∷ [])
            ∙ ap (λ all. all ++ waiter_view eyes old.me waiter ∷ []) run.shows.waiting
            ∙ ap (λ one. view_here.waiting ++ one ∷ []) seen_waiter;
        entries = idle.entries;
        serials = idle.serials;
        frames = idle.frames;
        requests = λ number opens.
            count_alike old.requests view_here.requests thread.at number below (idle.requests number opens);
      };
    }

-- ---- a turn

asked_leads : (eyes : Eyes) (world after : WorldShape) (host : HostId) (now : LowView) (old : HostState)
    (thread : ThreadShape) (there : Instr) (token : Token)
    (turn : Turns eyes world after host now old thread there token) → AsksElsewhere eyes.code old.me token there.op →
    AsksSo eyes old thread now (asked eyes.code (thread_view eyes old.me thread.at thread) token
    (request_shown (now.hosts old.me) thread.at) (carried_asking eyes old thread there.op) there.op)
    (after_operation eyes.code (with_running old None) thread there.op turn.passes) →
    (seen : LowView) × SeenAsking eyes now old.me (carried_asking eyes old thread there.op) seen × Leads eyes after seen
asked_leads eyes world after host now old thread there token turn elsewhere (question, found, asks) = (
  sent_view (with_host now old.me
      (host_waiting (now.hosts old.me) (request_shown (now.hosts old.me) thread.at) question)) old.me question.to
      (record { message = question.said; label = there.label }) (eyes.bad question.to),
  record {
    thread = thread_view eyes old.me thread.at thread;
    running = turn.running;
    token = token;
    held = turn.visible.held;
    instruction = there;
    is = turn.visible.is;
    asks = elsewhere;
    question = question;
    asks_so = found;
    seen = refl;
  },
  sent_leads eyes world after old
      (after_asking (with_running old None) thread.at asks.later question.awaited question.to)
      (host_waiting (now.hosts old.me) (request_shown (now.hosts old.me) thread.at) question) turn.outcome question.to
      asks.said question.said (label_of_turn eyes.code old) there.label now turn.calm turn.watch turn.obeys
      (asking_rested eyes old thread there token now question _ turn.visible asks) turn.opens turn.label_is asks.shown
      asks.told (asks.is ∙ turn.does) turn.leaves,
)

pub reached_asks : (eyes : Eyes) (rows : List declared_hosts.HostShape) (bad : ℕ) (store : List (List ℤ))
    (events : List Event) (world after : WorldShape) (host : HostId) (now : LowView)
    (run : RunsAsking eyes.code world host) → AreEyes eyes → Watches eyes (world_at_start eyes.code rows bad store) →
    IsReached eyes.code rows bad store events world → IsStep eyes.code world (Turn host) after →
    IsQuiet eyes.code world → Leads eyes world now →
    (seen : LowView) × SeenAsking eyes now host (carried_asking eyes run.state run.thread run.instruction.op) seen
    × Leads eyes after seen
reached_asks eyes rows bad store events world after host now run are watch reach step quiet leads =
    let old = run.state in
    let thread = run.thread in
    let there = run.instruction in
    let turn = reached_turns eyes rows bad store events world after host now old thread there run.token run.there
    run.running run.is run.held are watch reach step quiet leads in
    let is = turn.visible.is in
    let elsewhere : AsksElsewhere eyes.code old.me run.token there.op =
    subst (λ (h : HostId). AsksElsewhere eyes.code h run.token there.op) (sym turn.me) run.asks in
    let done = asked_leads eyes world after host now old thread there run.token turn elsewhere
    (operation_asked eyes old thread there run.token now _ there.op turn.passes turn.visible elsewhere
    (are.shaded.instructions old.me thread.at there is).law
    ((reach.sound.parts old.me turn.visible.fits.me).instructions thread.at there is).operation turn.checks) in (
      done.0,
      subst (λ (h : HostId). SeenAsking eyes now h (carried_asking eyes old thread there.op) done.0) turn.me done.1,
      done.2,
    )
