-- What the taking of a request, or of a message that hands control over, leaves of what goes on unseen.
use Rattle.std.proofs.Common.{◌≡◌, ◌≢◌, ◌∙◌, ℕ, ◌<◌, Bool, true, false, List, [], ◌∷◌, length, Option, Some, None}
use Rattle.std.proofs.Common.{inr, refl, ap, sym, subst}
use Rattle.std.specs.Prelude.{◌++◌, if◌then◌else◌, not, ℤ, IfSome, IsSomeAnd, filter}
use Rattle.std.specs.List.{AllByRecursion}
use Rattle.std.proofs.lemmas.Bool.{false≢true}
use Rattle.js_base.specs.declared.ids.HostId.{HostId}
use Rattle.js_base.specs.declared.ids.FieldId.{FieldId}
use Rattle.js_base.specs.declared.ids.FrameId.{FrameId}
use Rattle.js_base.specs.declared.ids.VarId.{VarId}
use Rattle.js_base.specs.declared.ids.EntryId.{EntryId}
use Rattle.js_base.specs.declared.ids.RequestId.{RequestId}
use Rattle.capability.specs.declared.token.Token.{Token}
use Rattle.ics_stack.specs.declared.stack.StackEntry.{StackEntry}
use Rattle.host_code.specs.declared.code.Entry.{Entry}
use Rattle.host_code.specs.declared.instruction.Op.TheVariants as op
use Rattle.host_code.specs.declared.message.Message.{Message}
use Rattle.host_code.specs.declared.message.Message.TheVariants as message
use Rattle.host_code.specs.Riders.{Rider}
use Rattle.host_code.specs.Code.{CodeFieldShape, CodeVariableShape, halt, part_of, field_at, variable_at, entry_at}
use Rattle.host_code.specs.Sound.{IsSoundCode, EntryFits}
use Rattle.host_code.specs.Thread.{WaitingShape}
use Rattle.host_core.specs.Host.{HostState, with_running, with_row_written, with_variable_set, after_push}
use Rattle.host_core.specs.Host.{with_variables_set, new_token, thread_at, with_one_ignored, after_pop}
use Rattle.host_core.specs.Taking.{PassesCheck, after_passing, after_taking}
use Rattle.net_world.specs.Flying.{Flight}
use Rattle.split_shades.specs.ShadedCode.{IsShadedOp}
use Rattle.split_shades.specs.Shades.{MeetsShade, ahead_of}
use Rattle.token_laws.specs.Requests.{number_answered}
use Rattle.token_laws.proofs.HeldLaws.{all_at}
use Rattle.token_laws.proofs.Tests.{different}
use Rattle.seen_world.specs.Eyes.{Eyes, AreEyes, sees_at, is_open, is_deep, is_hidden}
use Rattle.seen_world.specs.Points.{HostKeeps, IsInstructionAt, HasLabelAt, SetsHidden}
use Rattle.seen_world.specs.Points.{IsDeepEntry}
use Rattle.seen_world.proofs.LabelsSent.{label_same}
use Rattle.seen_world.proofs.TurnsKept.{hidden_is}
use Rattle.agreement.specs.Changes.{StaysSeen}
use Rattle.agreement.specs.Leads.{UnseenHolder, runs, waits, flies, HiddenEntry, links_on, hidden_running}
use Rattle.agreement.specs.Leads.{hidden_waiting}
use Rattle.agreement.specs.Leads.{Hides, token_with, Owes, IsOwedWell}
use Rattle.agreement.specs.Views.{LowView, ShowsHost, Spot, at, given_back, OwedInView, Completed, running_view}
use Rattle.agreement.specs.Views.{sees_field}
use Rattle.agreement.specs.Views.{sees_variable, is_shown}
use Rattle.agreement.proofs.Ends.{Ends, nothing_seen, unseen_runs}
use Rattle.agreement.proofs.GivesBack.{given_ends}
use Rattle.agreement.proofs.Lists.{left_first, index_apart}
use Rattle.agreement.proofs.Places.{deep_of, deep_hidden, deep_as, stands_at, deep_moved, variable_stays, row_stays}
use Rattle.agreement.proofs.Steps.{runs_apart}
use Rattle.agreement.proofs.Transfers.{there_with}
use Rattle.agreement.proofs.ViewLaws.{still_shows, entry_hidden}

-- A host on which nothing runs takes a message of an obeying host, which goes on unseen.
pub record Taken (eyes : Eyes) (state : HostState) (holder : UnseenHolder) (links : List HiddenEntry) (spot : Spot)
    (owed : OwedInView)
    (now shown : LowView) (from : HostId) (flight : Flight) : Type 0 where
  pub are : AreEyes eyes
  pub sound : IsSoundCode eyes.code
  pub obeys : eyes.bad state.me ≡ false
  pub keeps : HostKeeps eyes state.me state
  pub rests : state.running ≡ None
  pub hides : Hides eyes holder links state.me state
  pub shows : ShowsHost eyes state.me state (now.hosts state.me)
  pub owes : Owes eyes spot links owed
  pub owed_well : IsOwedWell eyes owed
  pub completed : Completed eyes owed now shown
  pub hidden : sees_at eyes flight.label ≡ false

-- ---- what may not be seen

field_set : (eyes : Eyes) (field : FieldId) →
    IfSome (field_at eyes.code field) (λ there. sees_at eyes there.label ≡ false) → sees_field eyes field ≡ false
field_set eyes field hidden = by (field_at eyes.code field) refl hidden
  where
    by : (found : Option CodeFieldShape) → field_at eyes.code field ≡ found →
        IfSome found (λ there. sees_at eyes there.label ≡ false) → sees_field eyes field ≡ false
    by None is unseen = rw is refl
    by (Some there) is unseen =
        let same : sees_field eyes field ≡ sees_at eyes there.label = rw is refl in
        same ∙ unseen

variable_set : (eyes : Eyes) (x : VarId) →
    IfSome (variable_at eyes.code x) (λ there. sees_at eyes there.label ≡ false) → sees_variable eyes x ≡ false
variable_set eyes x hidden = by (variable_at eyes.code x) refl hidden
  where
    by : (found : Option CodeVariableShape) → variable_at eyes.code x ≡ found →
        IfSome found (λ there. sees_at eyes there.label ≡ false) → sees_variable eyes x ≡ false
    by None is unseen = rw is refl
    by (Some there) is unseen =
        let same : sees_variable eyes x ≡ sees_at eyes there.label = rw is refl in
        same ∙ unseen

-- ---- a request that is answered at once, with the stack as it is

-- where the thread waits whose request it is
pub record Mail (waiting : WaitingShape) (host from me : HostId) (request : RequestId) : Type 0 where
  pub request_is : request ≡ waiting.request
  pub asker : from ≡ host
  pub asked : me ≡ waiting.asked

answers_unseen : (eyes : Eyes) (state new : HostState) (host from : HostId) (waiting : WaitingShape) (flight : Flight)
    (links : List HiddenEntry) (token : Token) (owed : OwedInView) (now shown : LowView) (request : RequestId)
    (reply : Message) →
    Taken eyes state (waits host waiting from state.me flight) links
    (at host waiting.request.at waiting.thread.frame token) owed now shown from flight →
    Mail waiting host from state.me request → token_with reply waiting.thread.held ≡ Some token →
    number_answered reply ≡ Some request → new.running ≡ state.running → new.waiting ≡ state.waiting →
    new.entries ≡ state.entries → StaysSeen eyes state.me state new →
    Ends eyes state.me (waits host waiting from state.me flight) links now shown flight.label
    (record { state = new; sent = Some (from, reply) })
answers_unseen eyes state new host from waiting flight links token owed now shown request reply take mail carries
    answers
    running waits_same entries stays =
    let me = state.me in
    let answer : Flight = record { message = reply; label = flight.label } in
    record {
      later = waits host waiting me from answer;
      sends = λ i j. refl;
      leaves = record {
        own = tt;
        chain = links;
        hides = record {
          running = ap (hidden_running eyes me) running ∙ take.hides.running;
          waiting = ap (hidden_waiting eyes me) waits_same ∙ take.hides.waiting;
          entries = entries ∙ take.hides.entries
              ∙ ap (λ all. links_on me links ++ filter (is_shown eyes) all) (sym entries);
        };
        runs_apart = λ other apart. refl;
        waits_apart = λ other apart. refl;
        links_apart = λ other apart. refl;
        spot = at host waiting.request.at waiting.thread.frame token;
        held = (token, carries, refl, inr (answers ∙ ap Some mail.request_is, mail.asked, mail.asker));
        owed = owed;
        owes = take.owes;
        well = take.owed_well;
        view = now;
        shows = still_shows eyes me state new (now.hosts me) take.shows stays (ap (running_view eyes me) running)
            (ap (filter (is_shown eyes)) entries);
        others = λ other apart. refl;
        flying = refl;
        sent = refl;
        completed = take.completed;
      };
    }

pub get_ends : (eyes : Eyes) (state : HostState) (host from : HostId) (waiting : WaitingShape) (flight : Flight)
    (links : List HiddenEntry) (token : Token) (owed : OwedInView) (now shown : LowView) (request : RequestId)
    (field : FieldId)
    (index : ℤ) →
    Taken eyes state (waits host waiting from state.me flight) links
    (at host waiting.request.at waiting.thread.frame token) owed now shown from flight →
    Mail waiting host from state.me request → waiting.thread.held ≡ Some token →
    Ends eyes state.me (waits host waiting from state.me flight) links now shown flight.label
    (after_passing eyes.code state from (message.Get request field index))
get_ends eyes state host from waiting flight links token owed now shown request field index take mail held =
    answers_unseen eyes state state host from waiting flight links token owed now shown request (message.Value request
    _)
    take mail held refl refl refl refl (record {
      key = refl;
      rows = λ other seen. refl;
      variables = λ frame x seen. refl;
      waiting = refl;
      serials = λ number shows. refl;
      frames = λ site label is seen. refl;
      requests = λ place seen. refl;
    })

pub set_ends : (eyes : Eyes) (state : HostState) (host from : HostId) (waiting : WaitingShape) (flight : Flight)
    (links : List HiddenEntry) (token : Token) (owed : OwedInView) (now shown : LowView) (request : RequestId)
    (field : FieldId)
    (index value : ℤ) →
    Taken eyes state (waits host waiting from state.me flight) links
    (at host waiting.request.at waiting.thread.frame token) owed now shown from flight →
    Mail waiting host from state.me request → waiting.thread.held ≡ Some token →
    SetsHidden eyes (message.Set request field index value) →
    Ends eyes state.me (waits host waiting from state.me flight) links now shown flight.label
    (after_passing eyes.code state from (message.Set request field index value))
set_ends eyes state host from waiting flight links token owed now shown request field index value take mail held sets =
    answers_unseen eyes state (with_row_written state field index value) host from waiting flight links token owed now
    shown request (message.Ack request) take mail held refl refl refl refl (record {
      key = refl;
      rows = λ other seen. row_stays eyes state.rows field other index value (field_set eyes field sets) seen;
      variables = λ frame x seen. refl;
      waiting = refl;
      serials = λ number shows. refl;
      frames = λ site label is seen. refl;
      requests = λ place seen. refl;
    })

pub forward_ends : (eyes : Eyes) (state : HostState) (host from : HostId) (waiting : WaitingShape) (flight : Flight)
    (links : List HiddenEntry) (token : Token) (owed : OwedInView) (now shown : LowView) (request : RequestId)
    (frame : FrameId)
    (x : VarId) (value : ℤ) →
    Taken eyes state (waits host waiting from state.me flight) links
    (at host waiting.request.at waiting.thread.frame token) owed now shown from flight →
    Mail waiting host from state.me request → waiting.thread.held ≡ Some token →
    SetsHidden eyes (message.Forward request frame x value) →
    Ends eyes state.me (waits host waiting from state.me flight) links now shown flight.label
    (after_passing eyes.code state from (message.Forward request frame x value))
forward_ends eyes state host from waiting flight links token owed now shown request frame x value take mail held sets =
    answers_unseen eyes state (with_variable_set state frame x value) host from waiting flight links token owed now
    shown
    request (message.Ack request) take mail held refl refl refl refl (record {
      key = refl;
      rows = λ field seen. refl;
      variables = λ other y seen.
          variable_stays eyes state.variables frame other x y value (variable_set eyes x sets) seen;
      waiting = refl;
      serials = λ number shows. refl;
      frames = λ site label is seen. refl;
      requests = λ place seen. refl;
    })

-- ---- an entry that is named in a message

number_of : (entry : EntryId) → entry ≢ halt → entry.0 ≢ 0
number_of entry apart same = apart (let make : ℕ → EntryId = λ n. record { 0 = n } in ap make same)

-- the place of an entry in a block that may not be seen
pub record Deep (eyes : Eyes) (host : HostId) (entry : EntryId) : Type 0 where
  pub there : Entry
  pub is : entry_at eyes.code entry ≡ Some there
  pub host_is : there.host ≡ host
  pub deep : is_deep eyes host there.at ≡ true
  pub unseen : is_open eyes host there.at ≡ false

pub deep_entry : (eyes : Eyes) (host : HostId) (entry : EntryId) → AreEyes eyes → IsSoundCode eyes.code →
    entry ≢ halt → IsSomeAnd (entry_at eyes.code entry) (λ (it : Entry). it.host ≡ host) → IsDeepEntry eyes entry.0 →
    Deep eyes host entry
deep_entry eyes host entry are sound apart on hidden =
    let found = there_with (λ (it : Entry). it.host ≡ host) (entry_at eyes.code entry) on in
    let there = found.0 in
    let meets : MeetsShade (ahead_of hidden.0) (eyes.shades.at host there.at) =
    subst (λ (h : HostId). MeetsShade (ahead_of hidden.0) (eyes.shades.at h there.at)) found.2
    (stands_at eyes are entry.0 there hidden.0 (number_of entry apart) found.1 hidden.1) in
    let within : there.at < length (part_of eyes.code host) =
    subst (λ (h : HostId). there.at < length (part_of eyes.code h)) found.2
    (all_at (EntryFits eyes.code) eyes.code.entries entry.0 there sound.entries found.1).at in
    let deep = deep_as eyes hidden.0.block host there.at meets.block hidden.2 in
    record {
      there = there;
      is = found.1;
      host_is = found.2;
      deep = deep;
      unseen = deep_hidden eyes are host there.at within deep;
    }

-- ---- control is handed over

-- values that ride leave what is seen of a host, where none of their variables may be seen
pub riders_stay : (eyes : Eyes) (host : HostState) (frame : FrameId) (riders : List Rider) →
    AllByRecursion (λ rider. IfSome (variable_at eyes.code rider.0) (λ there. sees_at eyes there.label ≡ false))
    riders → (other : FrameId) (y : VarId) → sees_variable eyes y ≡ true →
    (with_variables_set host frame riders).variables other y ≡ host.variables other y
riders_stay eyes host frame [] hidden other y seen = refl
riders_stay eyes host frame (rider ∷ riders) hidden other y seen =
    riders_stay eyes (with_variable_set host frame rider.0 rider.1) frame riders hidden.1 other y seen
    ∙ variable_stays eyes host.variables frame other rider.0 y rider.1 (variable_set eyes rider.0 hidden.0) seen

-- a thread starts where the variables that may be seen are as they were
pub enters_unseen : (eyes : Eyes) (state : HostState) (from : HostId) (flight : Flight) (links : List HiddenEntry)
    (token : Token) (owed : OwedInView) (now shown : LowView) (variables : FrameId → VarId → ℤ) (frame : FrameId)
    (entry : EntryId) (deep : Deep eyes state.me entry) →
    Taken eyes state (flies from state.me flight) links (at state.me deep.there.at frame token) owed now shown from
    flight →
    ((other : FrameId) (x : VarId) → sees_variable eyes x ≡ true → variables other x ≡ state.variables other x) →
    Ends eyes state.me (flies from state.me flight) links now shown flight.label (record {
      state = with_running (record state { variables = variables }) (Some (thread_at deep.there frame token));
      sent = None;
    })
enters_unseen eyes state from flight links token owed now shown variables frame entry deep take stay =
    let me = state.me in
    let thread = thread_at deep.there frame token in
    let new = with_running (record state { variables = variables }) (Some thread) in
    record {
      later = runs me thread;
      sends = λ i j. refl;
      leaves = record {
        own = refl;
        chain = links;
        hides = record {
          running = unseen_runs eyes me new.running thread refl deep.unseen;
          waiting = take.hides.waiting;
          entries = take.hides.entries;
        };
        runs_apart = λ other apart. runs_apart me other thread apart;
        waits_apart = λ other apart. refl;
        links_apart = λ other apart. refl;
        spot = at me deep.there.at frame token;
        held = (token, refl, refl);
        owed = owed;
        owes = take.owes;
        well = take.owed_well;
        view = now;
        shows = still_shows eyes me state new (now.hosts me) take.shows (record {
          key = refl;
          rows = λ field seen. refl;
          variables = stay;
          waiting = refl;
          serials = λ number shows. refl;
          frames = λ site label is seen. refl;
          requests = λ place seen. refl;
        }) (nothing_seen eyes me new.running thread refl deep.unseen ∙ ap (running_view eyes me) (sym take.rests)) refl;
        others = λ other apart. refl;
        flying = refl;
        sent = refl;
        completed = take.completed;
      };
    }

pub lgoto_ends : (eyes : Eyes) (state : HostState) (from : HostId) (flight : Flight) (links : List HiddenEntry)
    (token : Token)
    (owed : OwedInView) (now shown : LowView) (passes : Bool) →
    Taken eyes state (flies from state.me flight) links (given_back token) owed now shown from flight →
    state.me ≡ token.host → (passes ≡ true → PassesCheck eyes.code state from (message.Lgoto token)) →
    (PassesCheck eyes.code state from (message.Lgoto token) → passes ≡ true) →
    Ends eyes state.me (flies from state.me flight) links now shown flight.label
    (after_taking eyes.code state from (message.Lgoto token) passes)
lgoto_ends eyes state from flight links token owed now shown passes take host is_top is_passed =
    by passes (given_ends eyes state (flies from state.me flight) links token owed now shown flight.label passes
    (record {
      are = take.are;
      rests = take.rests;
      stands = take.keeps.entries;
      waiting = take.hides.waiting;
      entries = take.hides.entries;
      shows = take.shows;
      runs_apart = λ other apart. refl;
      waits_none = λ other. refl;
      owes = take.owes;
      well = take.owed_well;
      completed = take.completed;
      host = sym host;
    }) is_top is_passed)
  where
    by : (passed : Bool) → Ends eyes state.me (flies from state.me flight) links now shown flight.label (record {
      state = if passed then after_pop eyes.code state state.entries else with_one_ignored state;
      sent = None;
    }) → Ends eyes state.me (flies from state.me flight) links now shown flight.label
        (after_taking eyes.code state from (message.Lgoto token) passed)
    by true ends = ends
    by false ends = ends

-- ---- an entry is pushed

-- what an instruction that asks for a push says of the entry, where the instruction may not be seen
pub record Asking (eyes : Eyes) (from : HostId) (request : RequestId) (entry : EntryId) : Type 0 where
  pub hidden : is_hidden eyes entry.0 ≡ true
  pub deep : is_deep eyes from request.at ≡ true

pub asking : (eyes : Eyes) (from to : HostId) (request : RequestId) (entry : EntryId) (label : ℕ) → AreEyes eyes →
    IsInstructionAt eyes from request.at (op.Ask entry to) → HasLabelAt eyes from request.at label → sees_at eyes label
    ≡ false →
    Asking eyes from request entry
asking eyes from to request entry label are asks has hidden =
    let here = eyes.shades.at from request.at in
    let law : IsShadedOp eyes.scene eyes.shades from request.at (op.Ask entry to) =
    subst (IsShadedOp eyes.scene eyes.shades from request.at) asks.2
    (are.shaded.instructions from request.at asks.0 asks.1).law in
    let unseen : is_open eyes from request.at ≡ false = sym (label_same eyes are from request.at label has) ∙ hidden in
    record {
      hidden = hidden_is eyes here entry.0 law.1.3.0 ∙ ap not unseen;
      deep = deep_of eyes are from request.at asks.0 asks.1 law.1.2 unseen;
    }

pub sync_ends : (eyes : Eyes) (state : HostState) (host from : HostId) (waiting : WaitingShape) (flight : Flight)
    (links : List HiddenEntry) (token : Token) (owed : OwedInView) (now shown : LowView) (request : RequestId)
    (frame : FrameId)
    (entry : EntryId) →
    Taken eyes state (waits host waiting from state.me flight) links
    (at host waiting.request.at waiting.thread.frame token) owed now shown from flight →
    Mail waiting host from state.me request → Deep eyes state.me entry → is_hidden eyes entry.0 ≡ true →
    is_deep eyes from request.at ≡ true →
    Ends eyes state.me (waits host waiting from state.me flight) links now shown flight.label
    (after_passing eyes.code state from (message.Sync request frame entry token))
sync_ends eyes state host from waiting flight links token owed now shown request frame entry take mail deep hidden
    asks =
    let me = state.me in
    let fresh = new_token state entry frame in
    let top : StackEntry = record { token = fresh; entry = entry; frame = frame; kept = token } in
    let new = after_push state entry frame token in
    let reply : Flight = record { message = message.Token request fresh; label = flight.label } in
    let asks_there : is_deep eyes host waiting.request.at ≡ true =
    subst (λ (r : RequestId). is_deep eyes host r.at ≡ true) mail.request_is
    (subst (λ (h : HostId). is_deep eyes h request.at ≡ true) mail.asker asks) in
    record {
      later = waits host waiting me from reply;
      sends = λ i j. refl;
      leaves = record {
        own = tt;
        chain = record { host = me; entry = top } ∷ links;
        hides = record {
          running = take.hides.running;
          waiting = take.hides.waiting;
          entries = entry_hidden eyes me links state.entries top hidden take.hides.entries;
        };
        runs_apart = λ other apart. refl;
        waits_apart = λ other apart. refl;
        links_apart = λ other apart.
            ap (λ (b : Bool). if b then top ∷ links_on other links else links_on other links)
            (different other.0 me.0 apart);
        spot = at host waiting.request.at waiting.thread.frame fresh;
        held = (fresh, refl, refl, inr (ap Some mail.request_is, mail.asked, mail.asker));
        owed = owed;
        owes = (
          asks_there,
          refl,
          (
            deep.there,
            record {
              is = deep.is;
              host = deep.host_is;
              token = refl;
              hidden = hidden;
              obeys = take.obeys;
              unseen = deep.unseen;
            },
            deep_moved eyes links owed host me waiting.request.at deep.there.at waiting.thread.frame frame token
                asks_there
                deep.deep take.owes,
          ),
        );
        well = take.owed_well;
        view = now;
        shows = still_shows eyes me state new (now.hosts me) take.shows (record {
          key = refl;
          rows = λ field seen. refl;
          variables = λ other x seen. refl;
          waiting = refl;
          serials = λ number shows. index_apart state.serials entry.0 number _
              (λ same. false≢true (sym shows ∙ ap (is_hidden eyes) same ∙ hidden));
          frames = λ site label is seen. refl;
          requests = λ place seen. refl;
        }) refl (left_first (is_shown eyes) top state.entries (ap not hidden));
        others = λ other apart. refl;
        flying = refl;
        sent = refl;
        completed = take.completed;
      };
    }
