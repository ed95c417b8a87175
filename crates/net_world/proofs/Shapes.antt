-- Each step of a world keeps what holds of its states and messages.
use Rattle.std.proofs.Common.{◌≡◌, ℕ, zero, suc, ◌+◌, ◌<◌, Bool, true, false, List, [], ◌∷◌, length, refl, ap, sym}
use Rattle.std.proofs.Common.{subst, ◌∙◌, arith, Option, Some, None, length-set, get_or}
use Rattle.std.specs.Prelude.{slice_get, slice_set, All, IfSome, IsTrue, ℤ, if◌then◌else◌, ◌==◌}
use Rattle.std.specs.Int.{bit_at}
use Rattle.std.specs.Option.{option_and_then, option_map}
use Rattle.std.proofs.lemmas.List.{length-map}
use Rattle.std.proofs.lemmas.Bool.Decides.{nat_tests}
use Rattle.js_base.specs.declared.ids.HostId.{HostId}
use Rattle.host_decl.specs.Hosts as declared_hosts
use Rattle.event_text.specs.declared.event.BadToken.{BadToken}
use Rattle.event_text.specs.declared.event.BadToken.TheVariants.{Sent, Own}
use Rattle.event_text.specs.declared.event.BadMessage.{BadMessage}
use Rattle.event_text.specs.declared.event.BadMessage.TheVariants as bad
use Rattle.event_text.specs.declared.event.Event.{Event}
use Rattle.host_code.specs.declared.message.Message.{Message}
use Rattle.event_text.specs.declared.event.Event.TheVariants.{Take, Turn, Act}
use Rattle.host_code.specs.declared.instruction.Instr.{Instr}
use Rattle.host_code.specs.Code.{CodeShape, instruction_at, entry_at, halt}
use Rattle.host_code.specs.Sound.{IsHost, IsOther, IsLabelNumber, IsSoundCode}
use Rattle.host_code.specs.Thread.{ThreadShape}
use Rattle.host_core.specs.Host.{HostState, HostModel, Outcome, after_push, new_token, state_of}
use Rattle.host_core.specs.Fits.{SentFits, TokensFit}
use Rattle.host_core.specs.Start.{host_at_start, idle_host, root_host, main_frame, last_token}
use Rattle.host_core.specs.Taking.{IsTaking}
use Rattle.host_core.specs.Turn.{IsTurn, label_of_turn, label_of_thread}
use Rattle.host_core.proofs.StartKept.{idle_fits, root_fits}
use Rattle.host_core.proofs.TakingKept.{taking_kept}
use Rattle.host_core.proofs.TurnKept.{turn_kept}
use Rattle.net_world.specs.World.{WorldShape, IsStep, IsRun, IsTakeStep, IsTurnStep, IsActStep, AreHostsOf}
use Rattle.net_world.specs.World.{world_at_start}
use Rattle.net_world.specs.World.{named_host, host_before, hosts_before, given, present, state_at, with_state}
use Rattle.net_world.specs.World.{without_flight}
use Rattle.net_world.specs.World.{misbehaves}
use Rattle.net_world.specs.Fits.{WorldModel, WorldFits, PresentFits, ShapeFits, IsStateOf, MailFits, HasOwnToken}
use Rattle.net_world.specs.Fits.{OwnToken, OwnTokenIn}
use Rattle.net_world.specs.Fits.{world_of}
use Rattle.net_world.proofs.Present.{present_set, present_states, length_states}
use Rattle.net_world.proofs.Same.{me_turn, me_taking, me_entering}
use Rattle.net_world.proofs.StepLaws.{take_puts, turn_puts, act_puts, same_misbehave}
use Rattle.net_world.proofs.Starts.{nothing_sent}
use Rattle.net_world.proofs.Fitting.{mail_sending, mail_telling, mail_without, flight_fits, tokens_fit, turned}
use Rattle.net_world.proofs.Fitting.{bad_within}
use Rattle.net_world.proofs.Fitting.{bad_differs, made_tokens_fit, label_fits}

-- ---- a world of the program

state_of_present : (code : CodeShape) (number : HostId) (o : Option HostModel) → IfSome o (PresentFits code number) →
    IfSome (option_map state_of o) (IsStateOf code number)
state_of_present code number None fits = tt
state_of_present code number (Some host) fits = record { me = fits.me; fits = fits.fits.state }

pub shape_of_world : (code : CodeShape) (world : WorldModel) → WorldFits code world → ShapeFits code (world_of world)
shape_of_world code world fits = record {
  count = length_states world.hosts ∙ fits.count;
  states = λ number.
      subst (λ (o : Option HostState). IfSome o (IsStateOf code number)) (sym (present_states world.hosts number))
      (state_of_present code number (present world.hosts number) (fits.hosts number));
  mail = fits.mail;
}

-- ---- the start

start_fits : (code : CodeShape) (store : List (List ℤ)) (key : List ℕ) (me : HostId) (root : Bool) → IsSoundCode code →
    IsHost code me → (me.0 == code.root.0) ≡ root →
    IsStateOf code me
    (if root then root_host code (idle_host code store key me) else idle_host code store key me)
start_fits code store key me true sound is_host at =
    let number : me.0 ≡ code.root.0 = grind (arith, nat_tests) in
    let make : ℕ → HostId = λ n. record { 0 = n } in
    let idle : HostState = idle_host code store key me in
    record {
      me = me_entering (after_push idle halt main_frame (last_token me)) (entry_at code code.main) main_frame
          (new_token idle halt main_frame);
      fits = root_fits code idle sound (idle_fits code store key me is_host) (ap make number);
    }
start_fits code store key me false sound is_host at =
    record { me = refl; fits = idle_fits code store key me is_host }

before_fits : (code : CodeShape) (store : List (List ℤ)) (me : HostId) (row : declared_hosts.HostShape) (bad : Bool) →
    IsSoundCode code → IsHost code me →
    IfSome (if bad then None else Some (host_at_start code store row.key me)) (IsStateOf code me)
before_fits code store me row true sound is_host = tt
before_fits code store me row false sound is_host =
    start_fits code store row.key me (me.0 == code.root.0) sound is_host refl

hosts_before_fit : (code : CodeShape) (store : List (List ℤ)) (bad number : ℕ) (rows : List declared_hosts.HostShape)
    (i : ℕ) (me : HostId) → IsSoundCode code → (i < length rows → IsHost code me) → me.0 ≡ number + i →
    IfSome (given (slice_get (hosts_before code store bad number rows) i)) (IsStateOf code me)
hosts_before_fit code store bad number [] i me sound is_host at = tt
hosts_before_fit code store bad number (row ∷ rows) zero me sound is_host at =
    let make : ℕ → HostId = λ n. record { 0 = n } in
    let same : me ≡ make number = ap make (let n : me.0 ≡ number = omega arith in n) in
    subst (λ (h : HostId). IfSome (host_before code store bad number row) (IsStateOf code h)) (sym same)
    (before_fits code store (make number) row (bit_at bad number == 1) sound
    (subst (IsHost code) same (is_host (omega arith))))
hosts_before_fit code store bad number (row ∷ rows) (suc i) me sound is_host at =
    hosts_before_fit code store bad (number + 1) rows i me sound (λ lt. is_host (omega arith)) (omega arith)

length_before : (code : CodeShape) (store : List (List ℤ)) (bad number : ℕ) (rows : List declared_hosts.HostShape) →
    length (hosts_before code store bad number rows) ≡ length rows
length_before code store bad number [] = refl
length_before code store bad number (row ∷ rows) = ap suc (length_before code store bad (number + 1) rows)

rows_count : (code : CodeShape) (rows : List declared_hosts.HostShape) → AreHostsOf code rows →
    length rows ≡ length code.hosts
rows_count code rows same = sym (length-map rows named_host) ∙ ap length same

pub shape_at_start : (code : CodeShape) (rows : List declared_hosts.HostShape) (bad : ℕ) (store : List (List ℤ)) →
    IsSoundCode code → AreHostsOf code rows → ShapeFits code (world_at_start code rows bad store)
shape_at_start code rows bad store sound same =
    let count = rows_count code rows same in
    record {
      count = length_before code store bad 0 rows ∙ count;
      states = λ number.
          hosts_before_fit code store bad 0 rows number.0 number sound
          (λ lt. let within : number.0 < length code.hosts = omega arith in within) (omega arith);
      mail = nothing_sent code rows bad store;
    }

-- ---- a step

label_of_found : (code : CodeShape) (me : HostId) (at : ℕ) (o : Option Instr) → IsSoundCode code → IsHost code me →
    instruction_at code me at ≡ o → IfSome (option_and_then (λ (i : Instr). Some i.label) o) (IsLabelNumber code)
label_of_found code me at None sound is_host there = tt
label_of_found code me at (Some instruction) sound is_host there =
    label_fits code me at instruction sound is_host there

label_of_running : (code : CodeShape) (me : HostId) (running : Option ThreadShape) → IsSoundCode code →
    IsHost code me → IfSome (label_of_thread code me running) (IsLabelNumber code)
label_of_running code me None sound is_host = tt
label_of_running code me (Some thread) sound is_host =
    label_of_found code me thread.at (instruction_at code me thread.at) sound is_host refl

shape_after : (code : CodeShape) (world after : WorldShape) (host : HostId) (state : HostState) →
    ShapeFits code world → after.hosts ≡ slice_set world.hosts host.0 (Some state) → IsStateOf code host state →
    MailFits code after → ShapeFits code after
shape_after code world after host state fits puts is_state mail = record {
  count = ap length puts ∙ length-set world.hosts host.0 (Some state) ∙ fits.count;
  states =
      subst (λ (hosts : List (Option HostState)). (number : HostId) →
      IfSome (present hosts number) (IsStateOf code number))
      (sym puts) (present_set (IsStateOf code) world.hosts host state fits.states is_state);
  mail = mail;
}

the_state : (code : CodeShape) (world : WorldShape) (host : HostId) (state : HostState) → ShapeFits code world →
    state_at world host ≡ Some state → IsStateOf code host state
the_state code world host state fits obeys =
    subst (λ (o : Option HostState). IfSome o (IsStateOf code host)) obeys (fits.states host)

-- what taking a message leaves of its host, and sends
record IsKept (code : CodeShape) (host : HostId) (outcome : Outcome) : Type 0 where
  state : IsStateOf code host outcome.state
  sent : SentFits code host outcome.sent

kept_by_taking : (code : CodeShape) (state : HostState) (host from : HostId) (m : Message) (outcome : Outcome) →
    IsSoundCode code → IsStateOf code host state → IsOther code host from → TokensFit code m →
    IsTaking code state from m outcome → IsKept code host outcome
kept_by_taking code state host from m outcome sound is_state other tokens takes =
    let kept =
    taking_kept code state from m outcome sound is_state.fits
    (subst (λ (h : HostId). IsOther code h from) (sym is_state.me) other) tokens takes in
    record {
      state = record { me = me_taking code state from m outcome takes ∙ is_state.me; fits = kept.0 };
      sent = subst (λ (h : HostId). SentFits code h outcome.sent) is_state.me kept.1;
    }

kept_by_turn : (code : CodeShape) (state : HostState) (host : HostId) (outcome : Outcome) → IsSoundCode code →
    IsStateOf code host state → IsTurn code state outcome → IsKept code host outcome
kept_by_turn code state host outcome sound is_state turns =
    let kept = turn_kept code state outcome sound is_state.fits turns in
    record {
      state = record { me = me_turn code state outcome turns ∙ is_state.me; fits = kept.0 };
      sent = subst (λ (h : HostId). SentFits code h outcome.sent) is_state.me kept.1;
    }

is_host_of : (code : CodeShape) (host : HostId) (state : HostState) → IsStateOf code host state → IsHost code host
is_host_of code host state is_state = subst (IsHost code) is_state.me is_state.fits.me

kept_mail : (code : CodeShape) (world : WorldShape) (host : HostId) (state : HostState) → MailFits code world →
    MailFits code (with_state world host state)
kept_mail code world host state mail = record { flying = mail.flying; sent = mail.sent }

shape_take : (code : CodeShape) (world after : WorldShape) (from to : HostId) (place : ℕ) → IsSoundCode code →
    ShapeFits code world → (step : IsTakeStep code world from to place after) → ShapeFits code after
shape_take code world after from to place sound fits step =
    let is_state = the_state code world to step.state fits step.obeys in
    let flight = flight_fits code world from to place step.flight fits.mail step.there in
    let kept =
    kept_by_taking code step.state to from step.flight.message step.outcome sound is_state
    (turned code from to flight.sender flight.target) (tokens_fit code step.flight.message flight.message)
    step.takes in
    let left = without_flight world from to place in
    let mail : MailFits code after =
    subst (MailFits code) step.leaves
    (mail_sending code (with_state left to step.outcome.state) to (Some step.flight.label) step.outcome.sent
    (kept_mail code left to step.outcome.state (mail_without code world from to place fits.mail)) flight.target.0
    kept.sent flight.label) in
    shape_after code world after to step.outcome.state fits (take_puts code world after from to place step)
    kept.state mail

shape_turn : (code : CodeShape) (world after : WorldShape) (host : HostId) → IsSoundCode code →
    ShapeFits code world → (step : IsTurnStep code world host after) → ShapeFits code after
shape_turn code world after host sound fits step =
    let is_state = the_state code world host step.state fits step.obeys in
    let kept = kept_by_turn code step.state host step.outcome sound is_state step.turns in
    let mail : MailFits code after =
    subst (MailFits code) step.leaves
    (mail_sending code (with_state world host step.outcome.state) host (label_of_turn code step.state)
    step.outcome.sent (kept_mail code world host step.outcome.state fits.mail)
    (is_host_of code host step.state is_state) kept.sent
    (label_of_running code step.state.me step.state.running sound is_state.fits.me)) in
    shape_after code world after host step.outcome.state fits (turn_puts code world after host step)
    kept.state mail

shape_act : (code : CodeShape) (world after : WorldShape) (from to : HostId) (made : BadMessage) → IsSoundCode code →
    ShapeFits code world → HasOwnToken world (Act from to made) → (step : IsActStep code world from to made after) →
    ShapeFits code after
shape_act code world after from to made sound fits own step =
    let is_state = the_state code world to step.state fits step.obeys in
    let from_host = bad_within world from (length code.hosts) fits.count step.bad in
    let kept =
    kept_by_taking code step.state to from step.message step.outcome sound is_state
    (from_host, bad_differs world from to step.state step.bad step.obeys)
    (made_tokens_fit code world made step.message fits.count fits.mail own step.makes) step.takes in
    let mail : MailFits code after =
    subst (MailFits code) step.leaves
    (mail_telling code (with_state world to step.outcome.state) to step.outcome.sent
    (kept_mail code world to step.outcome.state fits.mail) (is_host_of code to step.state is_state) kept.sent) in
    shape_after code world after to step.outcome.state fits (act_puts code world after from to made step)
    kept.state mail

pub shape_step : (code : CodeShape) (world after : WorldShape) (event : Event) → IsSoundCode code →
    ShapeFits code world → HasOwnToken world event → IsStep code world event after → ShapeFits code after
shape_step code world after (Take from to place) sound fits own step =
    shape_take code world after from to place sound fits step
shape_step code world after (Turn host) sound fits own step = shape_turn code world after host sound fits step
shape_step code world after (Act from to made) sound fits own step =
    shape_act code world after from to made sound fits own step

-- ---- a run

own_token_kept : (world after : WorldShape) (token : BadToken) →
    ((host : HostId) → misbehaves after host ≡ misbehaves world host) → OwnToken world token → OwnToken after token
own_token_kept world after (Sent number) same own = own
own_token_kept world after (Own token) same own = subst IsTrue (sym (same token.host)) own

own_in_kept : (world after : WorldShape) (made : BadMessage) →
    ((host : HostId) → misbehaves after host ≡ misbehaves world host) → OwnTokenIn world made → OwnTokenIn after made
own_in_kept world after (bad.Get request field index) same own = tt
own_in_kept world after (bad.Set request field index value) same own = tt
own_in_kept world after (bad.Forward request frame variable value) same own = tt
own_in_kept world after (bad.Sync request frame entry token) same own = own_token_kept world after token same own
own_in_kept world after (bad.Rgoto frame entry token) same own = own_token_kept world after token same own
own_in_kept world after (bad.RgotoWith frame entry token riders) same own =
    own_token_kept world after token same own
own_in_kept world after (bad.Lgoto token) same own = own_token_kept world after token same own
own_in_kept world after (bad.Value request value) same own = tt
own_in_kept world after (bad.Ack request) same own = tt
own_in_kept world after (bad.Token request token) same own = own_token_kept world after token same own

pub own_kept : (world after : WorldShape) (event : Event) →
    ((host : HostId) → misbehaves after host ≡ misbehaves world host) → HasOwnToken world event →
    HasOwnToken after event
own_kept world after (Take from to place) same own = tt
own_kept world after (Turn host) same own = tt
own_kept world after (Act from to made) same own = own_in_kept world after made same own

pub shape_run : (code : CodeShape) (world after : WorldShape) (events : List Event) → IsSoundCode code →
    ShapeFits code world → All (HasOwnToken world) events → IsRun code world events after → ShapeFits code after
shape_run code world after [] sound fits own run = subst (ShapeFits code) run fits
shape_run code world after (event ∷ events) sound fits own run =
    shape_run code run.0 after events sound
    (shape_step code world run.0 event sound fits (own 0 event (omega arith)) run.1)
    (λ k d lt. own_kept world run.0 (get_or events k d)
    (λ host. same_misbehave code world run.0 event host run.1) (own (suc k) d (omega arith)))
    run.2
