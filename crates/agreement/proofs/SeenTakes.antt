-- What a message that is taken leaves of its host, by messages, where nothing goes on unseen.
use Rattle.std.proofs.Common.{◌≡◌, ◌≢◌, ◌∙◌, ◌⊎◌, ℕ, ◌+◌, ◌<◌, Bool, true, false, List, [], ◌∷◌, ◌++◌, length, arith}
use Rattle.std.proofs.Common.{Option, Some, None, inl, inr, refl, ap, sym, subst}
use Rattle.std.specs.Prelude.{◌↔◌, IsTrue, ℤ, if◌then◌else◌, IfSome, IsSome, IsSomeAnd, All, filter}
use Rattle.std.specs.Option.{option_map}
use Rattle.std.proofs.lemmas.Bool.{false≢true}
use Rattle.std.proofs.lemmas.List.{length-append}
use Rattle.js_base.specs.declared.ids.HostId.{HostId}
use Rattle.js_base.specs.declared.ids.FieldId.{FieldId}
use Rattle.js_base.specs.declared.ids.FrameId.{FrameId}
use Rattle.js_base.specs.declared.ids.VarId.{VarId}
use Rattle.js_base.specs.declared.ids.EntryId.{EntryId}
use Rattle.js_base.specs.declared.ids.RequestId.{RequestId}
use Rattle.label_lattice.specs.declared.label.Label.{Label}
use Rattle.jif_tree.specs.Store.{row_of, element_at}
use Rattle.capability.specs.declared.token.Token.{Token}
use Rattle.ics_stack.specs.declared.stack.StackEntry.{StackEntry}
use Rattle.ics_stack.specs.Stack.{top_token}
use Rattle.host_code.specs.declared.code.Entry.{Entry}
use Rattle.host_code.specs.declared.message.Message.{Message}
use Rattle.host_code.specs.declared.message.Message.TheVariants as message
use Rattle.host_code.specs.Riders.{Rider, names_of}
use Rattle.host_code.specs.Code.{CodeFieldShape, field_at, entry_at}
use Rattle.host_code.specs.Thread.{ThreadShape, Awaited, WaitingShape}
use Rattle.host_code.specs.Thread.Awaited.{value_of_field, acknowledgement, token_of_entry}
use Rattle.entry_check.specs.declared.ask.Ask.TheVariants as ask
use Rattle.host_stores.specs.Stores.{with_variable}
use Rattle.entry_check.specs.Checks.{May, MayRide, MaySee, label_at, label_of_host}
use Rattle.host_core.specs.Fits.{RunningFits, StateFits}
use Rattle.host_core.specs.Host.{HostState, Outcome, with_running, with_temporary, with_token, thread_at}
use Rattle.host_core.specs.Host.{after_entering, without_message, with_one_ignored, with_variable_set}
use Rattle.host_core.specs.Host.{with_variables_set}
use Rattle.host_core.specs.Taking.{PassesCheck, after_passing, after_taking, after_answer, place_of_awaiting}
use Rattle.token_laws.proofs.HeldLaws.{all_at}
use Rattle.token_laws.proofs.Riding.{riding_is}
use Rattle.seen_world.specs.Eyes.{Eyes, AreEyes, sees_at, is_hidden}
use Rattle.seen_world.specs.Points.{IsHiddenToken, MayHoldToken, RunsWell, StandsWell, HostKeeps, ShowsNoHidden}
use Rattle.seen_world.specs.Points.{AsksForNoHidden}
use Rattle.seen_world.proofs.SeenPlaces.{some_is}
use Rattle.seen_world.proofs.TakesKept.{on_me}
use Rattle.agreement.specs.Comes.{Comes}
use Rattle.agreement.specs.Leads.{nobody, hidden_running, hidden_waiting}
use Rattle.agreement.specs.Taken.{carried_taken, host_checked, host_without, sees_answer, ComesAnswered, ComesToEntry}
use Rattle.agreement.specs.Taken.{answer_view, SeenPassing, SeenMessage}
use Rattle.agreement.specs.Turns.{variable_shown, with_riders, riders_shown, element_shown, token_shown, entry_shown}
use Rattle.agreement.specs.Views.{LowView, HostView, ShowsHost, nowhere, nothing, gives, GivenBack, masked}
use Rattle.agreement.specs.Views.{masked_all, last_seen, sees_field, sees_variable, sees_read, message_view}
use Rattle.agreement.specs.Views.{riders_view, thread_view, waits_open, waiter_view, running_view, is_shown, with_host}
use Rattle.agreement.proofs.AskedPlaces.{Woken, woken_at, awaiting_seen, acknowledged, given_token}
use Rattle.agreement.proofs.GivesBack.{Given, given_ends, same_view, shows_ignored}
use Rattle.agreement.proofs.Lists.{not_left, all_kept}
use Rattle.agreement.proofs.Queues.{none_removed, seen_removed}
use Rattle.agreement.proofs.SeenHandings.{letter}
use Rattle.agreement.proofs.SeenLeads.{held_of, open_block}
use Rattle.agreement.proofs.SeenOperations.{Rests, masked_more, comes_masked, last_label}
use Rattle.agreement.proofs.SeenSendings.{Rested}
use Rattle.agreement.proofs.SeenTurns.{Arrives, comes_some, completed_some, variable_alike, row_alike, no_temps}
use Rattle.agreement.proofs.SeenTurns.{push_shows, push_kept, some_below}

-- An obeying host on which nothing runs takes a message, where nothing goes on unseen.
pub record Receives (eyes : Eyes) (state : HostState) (from : HostId) (said : Message) (now : LowView) : Type 0 where
  pub are : AreEyes eyes
  pub obeys : eyes.bad state.me ≡ false
  pub keeps : HostKeeps eyes state.me state
  pub fits : StateFits eyes.code state
  pub rests : state.running ≡ None
  pub waits : hidden_waiting eyes state.me state.waiting ≡ []
  pub entries : state.entries ≡ filter (is_shown eyes) state.entries
  pub shows : ShowsHost eyes state.me state (now.hosts state.me)
  pub plain : ShowsNoHidden eyes said
  pub fresh : PassesCheck eyes.code state from said → AsksForNoHidden eyes said

-- what is seen of the host where it runs nothing
resting_shows : (eyes : Eyes) (state : HostState) (shown : HostView) → ShowsHost eyes state.me state shown →
    state.running ≡ None → ShowsHost eyes state.me (with_running state None) shown
resting_shows eyes state shown shows rests = record {
  key = shows.key;
  rows = shows.rows;
  variables = shows.variables;
  running = ap (running_view eyes state.me) (sym rests) ∙ shows.running;
  waiting = shows.waiting;
  entries = shows.entries;
  serials = shows.serials;
  frames = shows.frames;
  requests = shows.requests;
}

-- ---- the check

-- the variables that ride are seen
names_seen : (eyes : Eyes) (riders : List Rider) → names_of (riders_view eyes riders) ≡ names_of riders
names_seen eyes [] = refl
names_seen eyes (rider ∷ riders) = ap (λ names. rider.0 ∷ names) (names_seen eyes riders)

-- it says the same of what is seen of the host and of the message
checked_same : (eyes : Eyes) (state : HostState) (from : HostId) (said : Message) (now : LowView) →
    Receives eyes state from said now →
    (PassesCheck eyes.code state from said
    ↔ PassesCheck eyes.code (host_checked state.me (now.hosts state.me)) from (message_view eyes from state.me said))
checked_same eyes state from (message.Get request field index) now got = (λ may. may, λ may. may)
checked_same eyes state from (message.Set request field index value) now got = (λ may. may, λ may. may)
checked_same eyes state from (message.Forward request frame x value) now got = (λ may. may, λ may. may)
checked_same eyes state from (message.Sync request frame entry token) now got = (λ may. may, λ may. may)
checked_same eyes state from (message.Rgoto frame entry token) now got = (λ may. may, λ may. may)
checked_same eyes state from (message.RgotoWith frame entry token riders) now got =
    let same = names_seen eyes riders in (
      λ may. (may.0, subst (MayRide eyes.code state.me from) (sym same) may.1),
      λ may. (may.0, subst (MayRide eyes.code state.me from) same may.1),
    )
checked_same eyes state from (message.Lgoto token) now got =
    let same : (now.hosts state.me).entries ≡ state.entries = sym got.shows.entries ∙ sym got.entries in
    (λ top. ap top_token same ∙ top, λ top. sym (ap top_token same) ∙ top)
checked_same eyes state from (message.Value request value) now got =
    let same = awaiting_seen eyes state (now.hosts state.me) value_of_field request from got.waits got.shows in
    (λ some. subst IsSome (sym same) some, λ some. subst IsSome same some)
checked_same eyes state from (message.Ack request) now got =
    let same = awaiting_seen eyes state (now.hosts state.me) acknowledgement request from got.waits got.shows in
    (λ some. subst IsSome (sym same) some, λ some. subst IsSome same some)
checked_same eyes state from (message.Token request token) now got =
    let same = awaiting_seen eyes state (now.hosts state.me) token_of_entry request from got.waits got.shows in
    (λ some. subst IsSome (sym same) some, λ some. subst IsSome same some)

-- a message that fails its check changes nothing that is seen
ignored_rests : (eyes : Eyes) (state : HostState) (from : HostId) (said : Message) (now : LowView) →
    Receives eyes state from said now → Rests eyes state now (without_message (with_one_ignored state)) now
ignored_rests eyes state from said now got = record {
  silent = refl;
  later = nobody;
  flies = λ i j. refl;
  leaves = record {
    own = tt;
    chain = [];
    hides = record {
      running = ap (hidden_running eyes state.me) got.rests;
      waiting = got.waits;
      entries = got.entries;
    };
    runs_apart = λ other apart. refl;
    waits_apart = λ other apart. refl;
    links_apart = λ other apart. refl;
    spot = nowhere;
    held = refl;
    owed = nothing;
    owes = refl;
    well = tt;
    view = now;
    shows = shows_ignored eyes state.me state (now.hosts state.me) got.shows;
    others = λ other apart. refl;
    flying = refl;
    sent = refl;
    completed = refl;
  };
}

-- ---- who asked is answered

-- A host answers a message with this label, and runs nothing then.
pub record Answers (eyes : Eyes) (old : HostState) (from : HostId) (label : ℕ) (now : LowView) (outcome : Outcome)
    (after : LowView) : Type 0 where
  pub said : Message
  pub seen_said : Message
  pub shown : HostView
  pub sends : outcome.sent ≡ Some (from, said)
  pub rested : Rested eyes old outcome.state shown
  pub masks : seen_said ≡ (if eyes.bad from then said else message_view eyes old.me from said)
  pub seen : after ≡ answer_view eyes (with_host now old.me shown) from old.me label seen_said

-- how a take ends
abbrev pub TakeEnds : Eyes → HostState → HostId → ℕ → LowView → Outcome → LowView → Type 0
TakeEnds eyes state from label now outcome after =
    Arrives eyes state now outcome after
    ⊎ (Rests eyes state now outcome after ⊎ Answers eyes state from label now outcome after)

-- what is seen of a message that passes its check
abbrev pub PassesSeen : Eyes → HostState → HostId → ℕ → LowView → Message → Type 0
PassesSeen eyes state from label now said =
    (after : LowView)
    × SeenPassing eyes now from state.me label (message_view eyes from state.me said)
    (carried_taken eyes state from said) after
    × TakeEnds eyes state from label now (after_passing eyes.code state from said) after

-- a message of which nothing is masked
as_it_is : (b : Bool) (said : Message) → said ≡ (if b then said else said)
as_it_is true said = refl
as_it_is false said = refl

-- a misbehaving host may see a field that it is granted
pub granted_field : (eyes : Eyes) (me from : HostId) (field : FieldId) → AreEyes eyes → eyes.bad from ≡ true →
    May eyes.code me (ask.Get field) from → sees_field eyes field ≡ true
granted_field eyes me from field are bad may = by (field_at eyes.code field) refl may
  where
    Grants : Option CodeFieldShape → Type 0
    Grants found = IsSomeAnd found (λ there. (there.host ≡ me)
        × MaySee (label_at eyes.code there.label) (label_of_host eyes.code from))

    seen : (label : ℕ) (found : Option Label) → label_at eyes.code label ≡ found →
        MaySee found (label_of_host eyes.code from) → sees_at eyes label ≡ true
    seen label None is sees = absurd sees
    seen label (Some there) is sees =
        let same : sees_at eyes label ≡ eyes.sees there = rw is refl in
        same ∙ are.host from there bad sees

    by : (found : Option CodeFieldShape) → field_at eyes.code field ≡ found → Grants found →
        sees_field eyes field ≡ true
    by None is grants = absurd grants
    by (Some there) is grants =
        let same : sees_field eyes field ≡ sees_at eyes there.label = rw is refl in
        same ∙ seen there.label (label_at eyes.code there.label) refl grants.1

-- a value is told whole to a misbehaving host that may see it, and is masked in flight
value_masks : (eyes : Eyes) (from : HostId) (request : RequestId) (field : FieldId) (value : ℤ) →
    (eyes.bad from ≡ true → sees_field eyes field ≡ true) →
    message.Value request (masked (sees_answer eyes from request field) value)
    ≡ (if eyes.bad from then message.Value request value
    else message.Value request (masked (sees_read eyes from request) value))
value_masks eyes from request field value granted = by (eyes.bad from) granted
  where
    by : (b : Bool) → (b ≡ true → sees_field eyes field ≡ true) →
        message.Value request (masked (if b then sees_field eyes field else sees_read eyes from request) value)
        ≡ (if b then message.Value request value
        else message.Value request (masked (sees_read eyes from request) value))
    by true sees = ap (λ (b : Bool). message.Value request (masked b value)) (sees refl)
    by false sees = refl

get_seen : (eyes : Eyes) (state : HostState) (from : HostId) (label : ℕ) (now : LowView) (request : RequestId)
    (field : FieldId) (index : ℤ) → Receives eyes state from (message.Get request field index) now →
    PassesCheck eyes.code state from (message.Get request field index) →
    PassesSeen eyes state from label now (message.Get request field index)
get_seen eyes state from label now request field index got passes =
    let value = element_at (row_of state.rows field.0) index in
    let answer = message.Value request (masked (sees_answer eyes from request field) value) in (
      answer_view eyes now from state.me label answer,
      refl,
      inr (inr (record {
        said = message.Value request value;
        seen_said = answer;
        shown = now.hosts state.me;
        sends = refl;
        rested = record { running = got.rests; waiting = got.waits; entries = got.entries; own = got.shows };
        masks = value_masks eyes from request field value
            (λ bad. granted_field eyes state.me from field got.are bad passes);
        seen = ap (λ (v : LowView). answer_view eyes v from state.me label answer) (sym (same_view now state.me));
      })),
    )

set_seen : (eyes : Eyes) (state : HostState) (from : HostId) (label : ℕ) (now : LowView) (request : RequestId)
    (field : FieldId) (index value : ℤ) → Receives eyes state from (message.Set request field index value) now →
    PassesSeen eyes state from label now (message.Set request field index value)
set_seen eyes state from label now request field index value got =
    let sees = sees_field eyes field in
    let shown = element_shown (now.hosts state.me) field (masked sees index) (masked sees value) in (
      answer_view eyes (with_host now state.me shown) from state.me label (message.Ack request),
      refl,
      inr (inr (record {
        said = message.Ack request;
        seen_said = message.Ack request;
        shown = shown;
        sends = refl;
        rested = record {
          running = got.rests;
          waiting = got.waits;
          entries = got.entries;
          own = record {
            key = got.shows.key;
            rows = λ other seen. row_alike eyes state.rows (now.hosts state.me).rows field other index value seen
                (got.shows.rows other seen);
            variables = got.shows.variables;
            running = got.shows.running;
            waiting = got.shows.waiting;
            entries = got.shows.entries;
            serials = got.shows.serials;
            frames = got.shows.frames;
            requests = got.shows.requests;
          };
        };
        masks = as_it_is (eyes.bad from) (message.Ack request);
        seen = refl;
      })),
    )

forward_seen : (eyes : Eyes) (state : HostState) (from : HostId) (label : ℕ) (now : LowView) (request : RequestId)
    (frame : FrameId) (x : VarId) (value : ℤ) → Receives eyes state from (message.Forward request frame x value) now →
    PassesSeen eyes state from label now (message.Forward request frame x value)
forward_seen eyes state from label now request frame x value got =
    let shown = variable_shown (now.hosts state.me) frame x (masked (sees_variable eyes x) value) in (
      answer_view eyes (with_host now state.me shown) from state.me label (message.Ack request),
      refl,
      inr (inr (record {
        said = message.Ack request;
        seen_said = message.Ack request;
        shown = shown;
        sends = refl;
        rested = record {
          running = got.rests;
          waiting = got.waits;
          entries = got.entries;
          own = record {
            key = got.shows.key;
            rows = got.shows.rows;
            variables = λ other y seen. variable_alike eyes state.variables (now.hosts state.me).variables frame x value
                other y seen (got.shows.variables other y);
            running = got.shows.running;
            waiting = got.shows.waiting;
            entries = got.shows.entries;
            serials = got.shows.serials;
            frames = got.shows.frames;
            requests = got.shows.requests;
          };
        };
        masks = as_it_is (eyes.bad from) (message.Ack request);
        seen = refl;
      })),
    )

sync_seen : (eyes : Eyes) (state : HostState) (from : HostId) (label : ℕ) (now : LowView) (request : RequestId)
    (frame : FrameId) (entry : EntryId) (token : Token) →
    Receives eyes state from (message.Sync request frame entry token) now →
    PassesCheck eyes.code state from (message.Sync request frame entry token) →
    PassesSeen eyes state from label now (message.Sync request frame entry token)
sync_seen eyes state from label now request frame entry token got passes =
    let shown_here = now.hosts state.me in
    let plain : is_hidden eyes entry.0 ≡ false = got.fresh passes in
    let below = some_below (λ (there : Entry). there.host ≡ state.me) eyes.code.entries entry.0
    (on_me eyes state.me from entry passes) in
    let many = got.fits.serials in
    let within : entry.0 < length state.serials = omega (arith, below, many) in
    let pushed = push_shows eyes state shown_here entry frame token got.shows plain within in
    let shown = entry_shown state.me shown_here entry frame token in
    let answer = message.Token request (token_shown state.me shown_here entry frame) in (
      answer_view eyes (with_host now state.me shown) from state.me label answer,
      refl,
      inr (inr (record {
        said = answer;
        seen_said = answer;
        shown = shown;
        sends = ap (λ (t : Token). letter from (message.Token request t)) pushed.0;
        rested = record {
          running = got.rests;
          waiting = got.waits;
          entries = push_kept eyes state entry frame token plain got.entries;
          own = pushed.1;
        };
        masks = as_it_is (eyes.bad from) answer;
        seen = refl;
      })),
    )

-- ---- a thread starts at an entry

-- where the host's variables, of which this is seen, are these by then
enters_seen : (eyes : Eyes) (state : HostState) (from : HostId) (said : Message) (now : LowView)
    (variables : FrameId → VarId → ℤ) (shown : HostView) (frame : FrameId) (token : Token) (P : Entry → Type 0) →
    Receives eyes state from said now → ¬ IsHiddenToken eyes token →
    ShowsHost eyes state.me (with_running (record state { variables = variables }) None) shown →
    (found : Option Entry) → IsSomeAnd found P →
    (after : LowView)
    × ComesToEntry eyes (with_host now state.me shown) state.me found frame token after
    × Arrives eyes state now
    (without_message (after_entering (record state { variables = variables }) found frame token)) after
enters_seen eyes state from said now variables shown frame token P got plain own None some = absurd some
enters_seen eyes state from said now variables shown frame token P got plain own (Some there) some =
    let later = thread_at there frame token in
    let done = comes_some eyes (with_host now state.me shown) state.me later token in (
      done.0,
      done.1,
      record {
        shown = shown;
        later = later;
        token = token;
        silent = refl;
        running = refl;
        me = refl;
        held = refl;
        plain = plain;
        waiting = got.waits;
        entries = got.entries;
        own = own;
        comes = done.1;
      },
    )

rgoto_seen : (eyes : Eyes) (state : HostState) (from : HostId) (label : ℕ) (now : LowView) (frame : FrameId)
    (entry : EntryId) (token : Token) → Receives eyes state from (message.Rgoto frame entry token) now →
    PassesCheck eyes.code state from (message.Rgoto frame entry token) →
    PassesSeen eyes state from label now (message.Rgoto frame entry token)
rgoto_seen eyes state from label now frame entry token got passes =
    let me = state.me in
    let done = enters_seen eyes state from (message.Rgoto frame entry token) now state.variables (now.hosts me) frame
    token (λ (there : Entry). there.host ≡ me) got got.plain
    (resting_shows eyes state (now.hosts me) got.shows got.rests) (entry_at eyes.code entry)
    (on_me eyes me from entry passes) in (
      done.0,
      subst (λ (v : LowView). ComesToEntry eyes v me (entry_at eyes.code entry) frame token done.0) (same_view now me)
          done.1,
      inl done.2,
    )

-- values ride to the host and its view alike, each masked by the label of its variable
riders_alike : (eyes : Eyes) (host : HostState) (others : FrameId → VarId → ℤ) (frame : FrameId)
    (riders : List Rider) →
    ((other : FrameId) (y : VarId) → sees_variable eyes y ≡ true → host.variables other y ≡ others other y) →
    (other : FrameId) (y : VarId) → sees_variable eyes y ≡ true →
    (with_variables_set host frame riders).variables other y
    ≡ with_riders others frame (riders_view eyes riders) other y
riders_alike eyes host others frame [] same other y seen = same other y seen
riders_alike eyes host others frame (rider ∷ riders) same other y seen =
    riders_alike eyes (with_variable_set host frame rider.0 rider.1)
    (with_variable others frame rider.0 (masked (sees_variable eyes rider.0) rider.1)) frame riders
    (λ another z sees. variable_alike eyes host.variables others frame rider.0 rider.1 another z sees (same another z))
    other y seen

rgoto_with_seen : (eyes : Eyes) (state : HostState) (from : HostId) (label : ℕ) (now : LowView) (frame : FrameId)
    (entry : EntryId) (token : Token) (riders : List Rider) →
    Receives eyes state from (message.RgotoWith frame entry token riders) now →
    PassesCheck eyes.code state from (message.RgotoWith frame entry token riders) →
    PassesSeen eyes state from label now (message.RgotoWith frame entry token riders)
rgoto_with_seen eyes state from label now frame entry token riders got passes =
    let me = state.me in
    let rest = resting_shows eyes state (now.hosts me) got.shows got.rests in
    let done = enters_seen eyes state from (message.RgotoWith frame entry token riders) now
    (with_variables_set state frame riders).variables
    (riders_shown (now.hosts me) frame (riders_view eyes riders)) frame token (λ (there : Entry). there.host ≡ me) got
    got.plain (record {
      key = rest.key;
      rows = rest.rows;
      variables = riders_alike eyes state (now.hosts me).variables frame riders got.shows.variables;
      running = rest.running;
      waiting = rest.waiting;
      entries = rest.entries;
      serials = rest.serials;
      frames = rest.frames;
      requests = rest.requests;
    }) (entry_at eyes.code entry) (on_me eyes me from entry passes.0) in (
      done.0,
      done.1,
      inl (subst (λ (one : HostState). Arrives eyes state now
          (without_message (after_entering one (entry_at eyes.code entry) frame token)) done.0)
          (riding_is state frame riders) done.2),
    )

-- ---- a token is given back

-- the token of the top entry, which is seen, names the host, and is no hidden one
top_plain : (eyes : Eyes) (me : HostId) (token : Token) (entries : List StackEntry) → All (StandsWell eyes me) entries →
    entries ≡ filter (is_shown eyes) entries → top_token entries ≡ Some token →
    (token.host ≡ me) × (is_hidden eyes token.entry.0 ≡ false)
top_plain eyes me token [] stands all is = absurd (cc)
top_plain eyes me token (top ∷ below) stands all is =
    let one : top.token ≡ token = some_is is in
    let stand = all_at (StandsWell eyes me) (top ∷ below) 0 top stands refl in
    let shown : is_hidden eyes top.entry.0 ≡ false =
    not_left (is_hidden eyes top.entry.0) (all_kept (is_shown eyes) top below all).0 in (
      ap (λ (t : Token). t.host) (sym one) ∙ stand.token_host,
      ap (λ (t : Token). is_hidden eyes t.entry.0) (sym one)
          ∙ ap (λ (e : EntryId). is_hidden eyes e.0) stand.token_entry ∙ shown,
    )

lgoto_seen : (eyes : Eyes) (state : HostState) (from : HostId) (label : ℕ) (now : LowView) (token : Token) →
    Receives eyes state from (message.Lgoto token) now → top_token state.entries ≡ Some token →
    PassesSeen eyes state from label now (message.Lgoto token)
lgoto_seen eyes state from label now token got passes =
    let top = top_plain eyes state.me token state.entries got.keeps.entries got.entries passes in
    let host : token.host ≡ state.me = top.0 in
    let some = completed_some eyes (gives token) now in
    let given : Given eyes state nobody [] token (gives token) now some.0 = record {
      are = got.are;
      rests = got.rests;
      stands = got.keeps.entries;
      waiting = got.waits;
      entries = got.entries;
      shows = got.shows;
      runs_apart = λ other apart. refl;
      waits_none = λ other. refl;
      owes = refl;
      well = (ap eyes.bad host ∙ got.obeys, top.1);
      completed = some.1;
      host = host;
    } in
    let ends = given_ends eyes state nobody [] token (gives token) now some.0 0 true given (λ yes. passes) (λ is. refl)
    in (
      some.0,
      subst (λ (h : HostId). GivenBack eyes now token (now.hosts h).entries some.0) host some.1,
      inr (inl (record { silent = refl; later = ends.later; flies = ends.sends; leaves = ends.leaves })),
    )

-- ---- an answer comes

masked_none : (eyes : Eyes) (labels : List Label) → masked_all eyes labels [] ≡ []
masked_none eyes [] = refl
masked_none eyes (label ∷ labels) = refl

-- nothing is to be masked where nothing was read
nothing_masked : (eyes : Eyes) (labels others : List Label) (temps : List ℤ) → temps ≡ [] →
    masked_all eyes labels temps ≡ masked_all eyes labels (masked_all eyes others temps)
nothing_masked eyes labels others temps none =
    subst (λ ts. masked_all eyes labels ts ≡ masked_all eyes labels (masked_all eyes others ts)) (sym none)
    (ap (masked_all eyes labels) (sym (masked_none eyes others)))

-- the thread runs, and may run where it goes on
record Wakes (eyes : Eyes) (state : HostState) (shown : HostView) (awaited : Awaited) (request : RequestId)
    (from : HostId) (answered : ThreadShape → ThreadShape) : Type 0 where
  woken : Woken eyes state shown awaited request from
  token : Token
  held : (answered woken.waiting.thread).held ≡ Some token
  well : RunsWell eyes state.me (answered woken.waiting.thread)

wakes : (eyes : Eyes) (state : HostState) (from : HostId) (said : Message) (now : LowView) (awaited : Awaited)
    (request : RequestId) (answered : ThreadShape → ThreadShape) → Receives eyes state from said now →
    IsSome (place_of_awaiting state awaited request from) →
    StateFits eyes.code (after_answer state (place_of_awaiting state awaited request from) answered) →
    HostKeeps eyes state.me (after_answer state (place_of_awaiting state awaited request from) answered) →
    Wakes eyes state (now.hosts state.me) awaited request from answered
wakes eyes state from said now awaited request answered got some fits keeps =
    let woken = woken_at eyes state (now.hosts state.me) awaited request from got.are got.keeps got.waits got.shows some
    in
    let thread = answered woken.waiting.thread in
    let runs_it : (after_answer state (Some woken.place) answered).running ≡ Some thread =
    ap (option_map (λ (one : WaitingShape). answered one.thread)) woken.there in
    let fit : StateFits eyes.code (after_answer state (Some woken.place) answered) =
    subst (λ found. StateFits eyes.code (after_answer state found answered)) woken.is fits in
    let keep : HostKeeps eyes state.me (after_answer state (Some woken.place) answered) =
    subst (λ found. HostKeeps eyes state.me (after_answer state found answered)) woken.is keeps in
    let running : RunningFits eyes.code state.me thread =
    subst (λ one. IfSome one (RunningFits eyes.code state.me)) runs_it fit.running in
    let token = held_of eyes thread.held running.held in
    record {
      woken = woken;
      token = token.0;
      held = token.1;
      well = subst (λ one. IfSome one (RunsWell eyes state.me)) runs_it keep.running;
    }

answer_seen : (eyes : Eyes) (state : HostState) (from : HostId) (said : Message) (now : LowView) (awaited : Awaited)
    (request : RequestId) (answered seen : ThreadShape → ThreadShape) (temps : List ℤ) →
    Receives eyes state from said now →
    (wake : Wakes eyes state (now.hosts state.me) awaited request from answered) →
    record (answered wake.woken.waiting.thread) { temporaries = temps }
    ≡ seen (thread_view eyes state.me wake.woken.waiting.request.at wake.woken.waiting.thread) →
    (answered wake.woken.waiting.thread).at ≡ wake.woken.waiting.request.at + 1 →
    masked_all eyes (eyes.shades.at state.me (answered wake.woken.waiting.thread).at).temps
    (answered wake.woken.waiting.thread).temporaries
    ≡ masked_all eyes (eyes.shades.at state.me (answered wake.woken.waiting.thread).at).temps temps →
    (after : LowView)
    × ComesAnswered eyes now state.me
    (place_of_awaiting (host_checked state.me (now.hosts state.me)) awaited request from) seen after
    × Arrives eyes state now
    (without_message (after_answer state (place_of_awaiting state awaited request from) answered)) after
answer_seen eyes state from said now awaited request answered seen temps got wake is at_next masks =
    let me = state.me in
    let woken = wake.woken in
    let waiting = woken.waiting in
    let later = answered waiting.thread in
    let shown = host_without (now.hosts me) woken.place in
    let seen_later = seen (thread_view eyes me waiting.request.at waiting.thread) in
    let some = comes_some eyes (with_host now me shown) me seen_later wake.token in
    let block : eyes.sees (eyes.shades.at me later.at).block ≡ true =
    ap (λ n. eyes.sees (eyes.shades.at me n).block) at_next ∙ ap eyes.sees woken.behind.block
    ∙ open_block eyes me waiting.request.at woken.well.2.1.0 got.are woken.well.2.1.1 woken.opens in
    let may : MayHoldToken eyes (eyes.shades.at me later.at) wake.token =
    subst (λ held. IfSome held (MayHoldToken eyes (eyes.shades.at me later.at))) wake.held wake.well.holds in
    let rest = resting_shows eyes state (now.hosts me) got.shows got.rests in (
      some.0,
      record {
        place = woken.place;
        is = woken.seen_is;
        waiting = waiter_view eyes me waiting;
        there = woken.seen_there;
        token = wake.token;
        held = sym (ap (λ (t : ThreadShape). t.held) is) ∙ wake.held;
        comes = some.1;
      },
      subst (λ found. Arrives eyes state now (without_message (after_answer state found answered)) some.0)
          (sym woken.is)
          (record {
            shown = shown;
            later = later;
            token = wake.token;
            silent = refl;
            running = ap (option_map (λ (one : WaitingShape). answered one.thread)) woken.there;
            me = refl;
            held = wake.held;
            plain = may.1 block;
            waiting = none_removed (waits_open eyes me) state.waiting woken.place waiting woken.there got.waits;
            entries = got.entries;
            own = record {
              key = rest.key;
              rows = rest.rows;
              variables = rest.variables;
              running = rest.running;
              waiting = seen_removed (waits_open eyes me) (waiter_view eyes me) state.waiting (now.hosts me).waiting
                  woken.place waiting got.waits got.shows.waiting woken.there;
              entries = rest.entries;
              serials = rest.serials;
              frames = rest.frames;
              requests = rest.requests;
            };
            comes = comes_masked eyes (with_host now me shown) me later temps wake.token some.0 masks
                (subst (λ (t : ThreadShape). Comes eyes (with_host now me shown) me t wake.token some.0) (sym is)
                some.1);
          }),
    )

-- an answer without a value leaves nothing that was read
plain_masks : (eyes : Eyes) (state : HostState) (shown : HostView) (awaited : Awaited) (request : RequestId)
    (from : HostId) (answered : ThreadShape → ThreadShape)
    (wake : Wakes eyes state shown awaited request from answered) → awaited ≢ value_of_field →
    (answered wake.woken.waiting.thread).at ≡ wake.woken.waiting.request.at + 1 →
    masked_all eyes (eyes.shades.at state.me (answered wake.woken.waiting.thread).at).temps
    (answered wake.woken.waiting.thread).temporaries
    ≡ masked_all eyes (eyes.shades.at state.me (answered wake.woken.waiting.thread).at).temps
    (masked_all eyes (eyes.shades.at state.me wake.woken.waiting.request.at).temps
    (answered wake.woken.waiting.thread).temporaries)
plain_masks eyes state shown awaited request from answered wake apart at_next =
    let later = answered wake.woken.waiting.thread in
    nothing_masked eyes (eyes.shades.at state.me later.at).temps
    (eyes.shades.at state.me wake.woken.waiting.request.at).temps later.temporaries
    (no_temps later.temporaries (eyes.shades.at state.me later.at).temps wake.well.temps
    (ap (λ n. (eyes.shades.at state.me n).temps) at_next ∙ wake.woken.behind.plain apart))

ack_seen : (eyes : Eyes) (state : HostState) (from : HostId) (label : ℕ) (now : LowView) (request : RequestId) →
    Receives eyes state from (message.Ack request) now → PassesCheck eyes.code state from (message.Ack request) →
    StateFits eyes.code (after_passing eyes.code state from (message.Ack request)).state →
    HostKeeps eyes state.me (after_passing eyes.code state from (message.Ack request)).state →
    PassesSeen eyes state from label now (message.Ack request)
ack_seen eyes state from label now request got passes fits keeps =
    let wake = wakes eyes state from (message.Ack request) now acknowledgement request (λ thread. thread) got passes
    fits keeps in
    let at_next = wake.woken.well.0 in
    let done = answer_seen eyes state from (message.Ack request) now acknowledgement request (λ thread. thread)
    (λ thread. thread) (masked_all eyes (eyes.shades.at state.me wake.woken.waiting.request.at).temps
    wake.woken.waiting.thread.temporaries) got wake refl at_next
    (plain_masks eyes state (now.hosts state.me) acknowledgement request from (λ thread. thread) wake acknowledged
    at_next) in
    (done.0, done.1, inl done.2)

token_seen : (eyes : Eyes) (state : HostState) (from : HostId) (label : ℕ) (now : LowView) (request : RequestId)
    (token : Token) → Receives eyes state from (message.Token request token) now →
    PassesCheck eyes.code state from (message.Token request token) →
    StateFits eyes.code (after_passing eyes.code state from (message.Token request token)).state →
    HostKeeps eyes state.me (after_passing eyes.code state from (message.Token request token)).state →
    PassesSeen eyes state from label now (message.Token request token)
token_seen eyes state from label now request token got passes fits keeps =
    let wake = wakes eyes state from (message.Token request token) now token_of_entry request (with_token (Some token))
    got passes fits keeps in
    let at_next = wake.woken.well.0 in
    let done = answer_seen eyes state from (message.Token request token) now token_of_entry request
    (with_token (Some token)) (with_token (Some token))
    (masked_all eyes (eyes.shades.at state.me wake.woken.waiting.request.at).temps
    wake.woken.waiting.thread.temporaries) got wake refl at_next
    (plain_masks eyes state (now.hosts state.me) token_of_entry request from (with_token (Some token)) wake given_token
    at_next) in
    (done.0, done.1, inl done.2)

-- the value is one more temporary, and masked as such
value_seen : (eyes : Eyes) (state : HostState) (from : HostId) (label : ℕ) (now : LowView) (request : RequestId)
    (value : ℤ) → Receives eyes state from (message.Value request value) now →
    PassesCheck eyes.code state from (message.Value request value) →
    StateFits eyes.code (after_passing eyes.code state from (message.Value request value)).state →
    HostKeeps eyes state.me (after_passing eyes.code state from (message.Value request value)).state →
    PassesSeen eyes state from label now (message.Value request value)
value_seen eyes state from label now request value got passes fits keeps =
    let me = state.me in
    let wake = wakes eyes state from (message.Value request value) now value_of_field request (with_temporary value) got
    passes fits keeps in
    let waiting = wake.woken.waiting in
    let thread = waiting.thread in
    let at_next : thread.at ≡ waiting.request.at + 1 = wake.woken.well.0 in
    let before : List Label = (eyes.shades.at me waiting.request.at).temps in
    let read = wake.woken.behind.reads refl in
    let next : (eyes.shades.at me thread.at).temps ≡ before ++ read.0 ∷ [] =
    ap (λ n. (eyes.shades.at me n).temps) at_next ∙ read.1 in
    let sees : sees_read eyes me request ≡ eyes.sees read.0 =
    ap (λ n. last_seen eyes (eyes.shades.at me (n + 1)).temps) (sym wake.woken.asked_at) ∙ ap (last_seen eyes) read.1
    ∙ last_label eyes before read.0 in
    let shown = masked (sees_read eyes me request) value in
    let more = wake.well.temps in
    let many : length thread.temporaries ≡ length before =
    fewer thread.temporaries value before read.0 (more ∙ ap length next) in
    let temps : List ℤ = masked_all eyes before thread.temporaries ++ shown ∷ [] in
    let masks : masked_all eyes (eyes.shades.at me thread.at).temps (thread.temporaries ++ value ∷ [])
    ≡ masked_all eyes (eyes.shades.at me thread.at).temps temps =
    ap (λ labels. masked_all eyes labels (thread.temporaries ++ value ∷ [])) next
    ∙ masked_more eyes before read.0 thread.temporaries value many
    ∙ ap (λ (b : Bool). masked_all eyes (before ++ read.0 ∷ []) (masked_all eyes before thread.temporaries
    ++ masked b value ∷ [])) (sym sees)
    ∙ sym (ap (λ labels. masked_all eyes labels temps) next) in
    let done = answer_seen eyes state from (message.Value request value) now value_of_field request
    (with_temporary value) (with_temporary shown) temps got wake refl at_next masks in
    (done.0, done.1, inl done.2)
  where
    fewer : (temps : List ℤ) (x : ℤ) (labels : List Label) (label : Label) →
        length (temps ++ x ∷ []) ≡ length (labels ++ label ∷ []) → length temps ≡ length labels
    fewer temps x labels label same =
        let one = length-append temps (x ∷ []) in
        let two = length-append labels (label ∷ []) in
        omega (arith, one, two, same)

-- ---- each message

passing_seen : (eyes : Eyes) (state : HostState) (from : HostId) (label : ℕ) (now : LowView) (said : Message) →
    Receives eyes state from said now → PassesCheck eyes.code state from said →
    StateFits eyes.code (after_passing eyes.code state from said).state →
    HostKeeps eyes state.me (after_passing eyes.code state from said).state →
    PassesSeen eyes state from label now said
passing_seen eyes state from label now (message.Get request field index) got passes fits keeps =
    get_seen eyes state from label now request field index got passes
passing_seen eyes state from label now (message.Set request field index value) got passes fits keeps =
    set_seen eyes state from label now request field index value got
passing_seen eyes state from label now (message.Forward request frame x value) got passes fits keeps =
    forward_seen eyes state from label now request frame x value got
passing_seen eyes state from label now (message.Sync request frame entry token) got passes fits keeps =
    sync_seen eyes state from label now request frame entry token got passes
passing_seen eyes state from label now (message.Rgoto frame entry token) got passes fits keeps =
    rgoto_seen eyes state from label now frame entry token got passes
passing_seen eyes state from label now (message.RgotoWith frame entry token riders) got passes fits keeps =
    rgoto_with_seen eyes state from label now frame entry token riders got passes
passing_seen eyes state from label now (message.Lgoto token) got passes fits keeps =
    lgoto_seen eyes state from label now token got passes
passing_seen eyes state from label now (message.Value request value) got passes fits keeps =
    value_seen eyes state from label now request value got passes fits keeps
passing_seen eyes state from label now (message.Ack request) got passes fits keeps =
    ack_seen eyes state from label now request got passes fits keeps
passing_seen eyes state from label now (message.Token request token) got passes fits keeps =
    token_seen eyes state from label now request token got passes fits keeps

-- whether it passes its check or not
pub message_seen : (eyes : Eyes) (state : HostState) (from : HostId) (label : ℕ) (now : LowView) (said : Message)
    (outcome : Outcome) → Receives eyes state from said now → StateFits eyes.code outcome.state →
    HostKeeps eyes state.me outcome.state → (passes : Bool) → (IsTrue passes ↔ PassesCheck eyes.code state from said) →
    after_taking eyes.code state from said passes ≡ outcome →
    (seen : LowView)
    × SeenMessage eyes now from state.me label (message_view eyes from state.me said)
    (carried_taken eyes state from said) seen
    × TakeEnds eyes state from label now outcome seen
message_seen eyes state from label now said outcome got fits keeps true checks is =
    let passed = checks.0 refl in
    let done = passing_seen eyes state from label now said got passed
    (subst (λ (o : Outcome). StateFits eyes.code o.state) (sym is) fits)
    (subst (λ (o : Outcome). HostKeeps eyes state.me o.state) (sym is) keeps) in (
      done.0,
      inl ((checked_same eyes state from said now got).0 passed, done.1),
      subst (λ (o : Outcome). TakeEnds eyes state from label now o done.0) is done.2,
    )
message_seen eyes state from label now said outcome got fits keeps false checks is = (
  now,
  inr (λ seen. false≢true (checks.1 ((checked_same eyes state from said now got).1 seen)), refl),
  inr (inl (subst (λ (o : Outcome). Rests eyes state now o now) is (ignored_rests eyes state from said now got))),
)
