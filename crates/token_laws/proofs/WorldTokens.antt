-- What an event makes of the tokens of a world: no more than the one that it makes, and the one that a misbehaving host
-- presents.
use Rattle.std.proofs.Common.{◌≡◌, ◌∙◌, ◌⊎◌, ℕ, ◌+◌, ◌<◌, ◌≤◌, inl, inr, Bool, true, false, List, [], ◌∷◌, ◌++◌, length}
use Rattle.std.proofs.Common.{Option, Some, None, refl, ap, sym, subst, arith, length-set}
use Rattle.std.specs.Prelude.{slice_get, slice_set, remove, sum_by, IsTrue, IfSome, if◌then◌else◌}
use Rattle.std.specs.Option.{option_map}
use Rattle.std.proofs.lemmas.List.Elements.{filter_map-append}
use Rattle.std.proofs.lemmas.List.Sums.{sum_by-append, sum_by_push}
use Rattle.js_base.specs.declared.ids.HostId.{HostId}
use Rattle.capability.specs.declared.token.Token.{Token}
use Rattle.event_text.specs.declared.event.Event.{Event}
use Rattle.event_text.specs.declared.event.Event.TheVariants.{Take, Turn, Act}
use Rattle.event_text.specs.declared.event.BadToken.{BadToken}
use Rattle.event_text.specs.declared.event.BadToken.TheVariants.{Sent, Own}
use Rattle.event_text.specs.declared.event.BadMessage.{BadMessage}
use Rattle.event_text.specs.declared.event.BadMessage.TheVariants as bad
use Rattle.host_code.specs.declared.message.Message.{Message}
use Rattle.host_code.specs.declared.message.Message.TheVariants as message
use Rattle.host_code.specs.Code.{CodeShape}
use Rattle.host_code.specs.Sound.{IsHost, IsSoundCode}
use Rattle.host_core.specs.Fits.{SentFits}
use Rattle.host_core.specs.Host.{HostState, Letter}
use Rattle.host_core.specs.Turn.{label_of_turn}
use Rattle.host_core.proofs.TurnKept.{turn_kept}
use Rattle.net_world.specs.Fits.{ShapeFits, IsStateOf, HasOwnToken, OwnToken, OwnTokenIn}
use Rattle.net_world.specs.Flying.{Flight}
use Rattle.net_world.specs.Told.{SentMessage, token_in, token_list, tokens_in, token_presented, message_made}
use Rattle.net_world.specs.World.{WorldShape, IsStep, IsTakeStep, IsTurnStep, IsActStep, given, state_at, misbehaves}
use Rattle.net_world.specs.World.{tokens_sent, with_state, without_flight, after_sending, after_telling, after_posting}
use Rattle.net_world.specs.World.{letter_of}
use Rattle.net_world.proofs.Fitting.{flight_fits}
use Rattle.net_world.proofs.Same.{to_sender}
use Rattle.net_world.proofs.StepLaws.{take_puts, turn_puts, act_puts, told_more}
use Rattle.net_world.proofs.ToldTokens.{tokens_more}
use Rattle.token_laws.proofs.Worth.{worth_sent, worth_held, worth_state, worth_host, worth_flying, worth_world}
use Rattle.token_laws.proofs.HostTokens.{worth_letter, Counts, turn_handles, taking_handles}
use Rattle.token_laws.proofs.Sums.{changed_at, removed_at, flying_changed}

-- ---- one host changed

present_is : (o : Option (Option HostState)) (state : HostState) → given o ≡ Some state → o ≡ Some (Some state)
present_is None state is = absurd (cc)
present_is (Some there) state is = ap Some is

pub there : (hosts : List (Option HostState)) (i : ℕ) (state : HostState) → given (slice_get hosts i) ≡ Some state →
    slice_get hosts i ≡ Some (Some state)
there hosts i state is = present_is (slice_get hosts i) state is

state_changed : (worth : Token → ℕ) (world : WorldShape) (host : HostId) (old state : HostState) →
    state_at world host ≡ Some old →
    worth_world worth (with_state world host state) + worth_state worth old
    ≡ worth_world worth world + worth_state worth state
state_changed worth world host old state obeys =
    let hosts =
    changed_at (worth_host worth) world.hosts host.0 (Some old) (Some state) (there world.hosts host.0 old obeys) in
    let flying : worth_flying worth (length (slice_set world.hosts host.0 (Some state))) world.flying
    ≡ worth_flying worth (length world.hosts) world.flying =
    ap (λ (n : ℕ). worth_flying worth n world.flying) (length-set world.hosts host.0 (Some state)) in
    omega arith

-- ---- one message less, one message more

flight_gone : (worth : Token → ℕ) (world : WorldShape) (from to : HostId) (place : ℕ) (flight : Flight) →
    from.0 < length world.hosts → to.0 < length world.hosts → slice_get (world.flying from to) place ≡ Some flight →
    worth_world worth (without_flight world from to place) + worth_held worth (token_in flight.message)
    ≡ worth_world worth world
flight_gone worth world from to place flight is_host is_target there =
    let flying =
    flying_changed worth (length world.hosts) world.flying from to (remove (world.flying from to) place) is_host
    is_target in
    let cell =
    removed_at (λ (f : Flight). worth_held worth (token_in f.message)) (world.flying from to) place flight there in
    omega arith

posted : (worth : Token → ℕ) (world : WorldShape) (from : HostId) (letter : Letter) → from.0 < length world.hosts →
    letter.to.0 < length world.hosts →
    worth_world worth (after_posting world from letter)
    ≡ worth_world worth world + worth_held worth (token_in letter.message)
posted worth world from letter is_host is_target =
    let flight : Flight = record { message = letter.message; label = letter.label } in
    let flying =
    flying_changed worth (length world.hosts) world.flying from letter.to (world.flying from letter.to ++ flight ∷ [])
    is_host is_target in
    let cell =
    sum_by_push (λ (f : Flight). worth_held worth (token_in f.message)) (world.flying from letter.to) flight in
    omega arith

of_list : (worth : Token → ℕ) (o : Option Token) → sum_by worth (token_list o) ≡ worth_held worth o
of_list worth None = refl
of_list worth (Some token) = omega arith

told : (worth : Token → ℕ) (world : WorldShape) (from : HostId) (sent : Option (HostId × Message)) →
    worth_world worth (after_telling world from sent) + worth_sent worth (after_telling world from sent)
    ≡ worth_world worth world + worth_sent worth world + worth_letter worth sent
told worth world from None = omega arith
told worth world from (Some sent) =
    let tokens = ap (sum_by worth) (tokens_more world.sent from sent.0 sent.1) in
    let both = sum_by-append worth (tokens_in world.sent) (token_list (token_in sent.1)) in
    let last = of_list worth (token_in sent.1) in
    omega arith

sends_if : (worth : Token → ℕ) (world : WorldShape) (from : HostId) (letter : Letter) (tells : Bool) →
    from.0 < length world.hosts → letter.to.0 < length world.hosts →
    worth_world worth (if tells then after_telling world from (Some (letter.to, letter.message))
    else after_posting world from letter)
    + worth_sent worth (if tells then after_telling world from (Some (letter.to, letter.message))
    else after_posting world from letter)
    ≡ worth_world worth world + worth_sent worth world + worth_held worth (token_in letter.message)
sends_if worth world from letter true is_host is_target =
    let is = told worth world from (Some (letter.to, letter.message)) in omega arith
sends_if worth world from letter false is_host is_target =
    let is = posted worth world from letter is_host is_target in omega arith

sends : (worth : Token → ℕ) (world : WorldShape) (from : HostId) (label : Option ℕ)
    (sent : Option (HostId × Message)) → from.0 < length world.hosts →
    IfSome sent (λ (letter : HostId × Message). letter.0.0 < length world.hosts) →
    worth_world worth (after_sending world from (letter_of label sent))
    + worth_sent worth (after_sending world from (letter_of label sent))
    ≤ worth_world worth world + worth_sent worth world + worth_letter worth sent
sends worth world from None sent is_host fits = omega arith
sends worth world from (Some label) None is_host fits = omega arith
sends worth world from (Some label) (Some sent) is_host fits =
    let letter : Letter = record { to = sent.0; message = sent.1; label = label } in
    let is = sends_if worth world from letter (misbehaves world sent.0) is_host fits in
    omega arith

-- ---- the events

-- a token that a misbehaving host may present: it names such a host, or was sent to one
abbrev pub IsPresented : WorldShape → Token → Type 0
IsPresented world token =
    IsTrue (misbehaves world token.host) ⊎ ((worth : Token → ℕ) → worth token ≤ worth_sent worth world)

-- The host that made a step, with its states before and after, the token that it made, and the token that was presented
-- to it.
pub record Accounts (world after : WorldShape) : Type 0 where
  pub host : HostId
  pub old : HostState
  pub state : HostState
  pub me : old.me ≡ host
  pub obeys : state_at world host ≡ Some old
  pub puts : after.hosts ≡ slice_set world.hosts host.0 (Some state)
  pub fresh : Option Token
  pub counts : Counts old state.serials fresh
  pub presented : Option Token
  pub is_presented : IfSome presented (IsPresented world)
  pub worth : (worth : Token → ℕ) → worth_world worth after + worth_sent worth after
      ≤ worth_world worth world + worth_sent worth world + worth_held worth presented + worth_held worth fresh

pub the_state : (code : CodeShape) (world : WorldShape) (host : HostId) (state : HostState) → ShapeFits code world →
    state_at world host ≡ Some state → IsStateOf code host state
the_state code world host state fits obeys =
    subst (λ (o : Option HostState). IfSome o (IsStateOf code host)) obeys (fits.states host)

targets : (code : CodeShape) (me : HostId) (sent : Option (HostId × Message)) (count : ℕ) → count ≡ length code.hosts →
    SentFits code me sent → IfSome sent (λ (letter : HostId × Message). letter.0.0 < count)
targets code me None count same fits = tt
targets code me (Some letter) count same fits =
    let within : letter.0.0 < length code.hosts = fits.0.0 in omega arith

answered : (from : HostId) (sent : Option (HostId × Message)) (count : ℕ) → from.0 < count →
    IfSome sent (λ (letter : HostId × Message). letter.0 ≡ from) →
    IfSome sent (λ (letter : HostId × Message). letter.0.0 < count)
answered from None count within is = tt
answered from (Some letter) count within is =
    let same : letter.0.0 ≡ from.0 = ap (λ (h : HostId). h.0) is in omega arith

world_is : (worth : Token → ℕ) (first second : WorldShape) → first ≡ second →
    worth_world worth first + worth_sent worth first ≡ worth_world worth second + worth_sent worth second
world_is worth first second same = ap (λ (w : WorldShape). worth_world worth w + worth_sent worth w) same

account_take : (code : CodeShape) (world after : WorldShape) (from to : HostId) (place : ℕ) → ShapeFits code world →
    IsTakeStep code world from to place after → Accounts world after
account_take code world after from to place fits step =
    let is_state = the_state code world to step.state fits step.obeys in
    let flight = flight_fits code world from to place step.flight fits.mail step.there in
    let handles =
    taking_handles code step.state from step.flight.message step.outcome is_state.fits step.takes in
    let left = without_flight world from to place in
    let is_host : from.0 < length world.hosts =
    subst (λ (n : ℕ). from.0 < n) (sym fits.count) flight.sender in
    let is_target : to.0 < length world.hosts =
    subst (λ (n : ℕ). to.0 < n) (sym fits.count) flight.target.0 in
    let long : length (slice_set world.hosts to.0 (Some step.outcome.state)) ≡ length world.hosts =
    length-set world.hosts to.0 (Some step.outcome.state) in
    record {
      host = to;
      old = step.state;
      state = step.outcome.state;
      me = is_state.me;
      obeys = step.obeys;
      puts = take_puts code world after from to place step;
      fresh = handles.fresh;
      counts = handles.counts;
      presented = None;
      is_presented = tt;
      worth = λ worth.
          let gone = flight_gone worth world from to place step.flight is_host is_target step.there in
          let changed = state_changed worth left to step.state step.outcome.state step.obeys in
          let held = handles.held worth in
          let all =
          sends worth (with_state left to step.outcome.state) to (Some step.flight.label) step.outcome.sent
          (subst (λ (n : ℕ). to.0 < n) (sym long) is_target)
          (answered from step.outcome.sent (length (slice_set world.hosts to.0 (Some step.outcome.state)))
          (subst (λ (n : ℕ). from.0 < n) (sym long) is_host)
          (to_sender code step.state from step.flight.message step.outcome step.takes)) in
          let is = world_is worth _ after step.leaves in
          omega arith;
    }

account_turn : (code : CodeShape) (world after : WorldShape) (host : HostId) → IsSoundCode code →
    ShapeFits code world → IsTurnStep code world host after → Accounts world after
account_turn code world after host sound fits step =
    let is_state = the_state code world host step.state fits step.obeys in
    let handles = turn_handles code step.state step.outcome sound is_state.fits step.turns in
    let kept = turn_kept code step.state step.outcome sound is_state.fits step.turns in
    let long : length (slice_set world.hosts host.0 (Some step.outcome.state)) ≡ length code.hosts =
    length-set world.hosts host.0 (Some step.outcome.state) ∙ fits.count in
    let is_host : IsHost code host = subst (IsHost code) is_state.me is_state.fits.me in
    record {
      host = host;
      old = step.state;
      state = step.outcome.state;
      me = is_state.me;
      obeys = step.obeys;
      puts = turn_puts code world after host step;
      fresh = handles.fresh;
      counts = handles.counts;
      presented = None;
      is_presented = tt;
      worth = λ worth.
          let changed = state_changed worth world host step.state step.outcome.state step.obeys in
          let held = handles.held worth in
          let all =
          sends worth (with_state world host step.outcome.state) host (label_of_turn code step.state)
          step.outcome.sent (subst (λ (n : ℕ). host.0 < n) (sym long) is_host)
          (targets code step.state.me step.outcome.sent
          (length (slice_set world.hosts host.0 (Some step.outcome.state))) long kept.1) in
          let is = world_is worth _ after step.leaves in
          omega arith;
    }

-- ---- what a misbehaving host presents

number_sent : (worth : Token → ℕ) (tokens : List Token) (number : ℕ) (token : Token) →
    slice_get tokens number ≡ Some token → worth token ≤ sum_by worth tokens
number_sent worth tokens number token is = let all = removed_at worth tokens number token is in omega arith

presented_is : (world : WorldShape) (made : BadToken) (o : Option Token) → OwnToken world made →
    token_presented (tokens_sent world) made ≡ o → IfSome o (IsPresented world)
presented_is world made None own is = tt
presented_is world (Sent number) (Some token) own is =
    inr (λ worth. number_sent worth (tokens_sent world) number token is)
presented_is world (Own token) (Some other) own is =
    let same : token ≡ other = cc in
    inl (subst (λ (t : Token). IsTrue (misbehaves world t.host)) same own)

made_with : (world : WorldShape) (make : Token → Message) (o : Option Token) (m : Message) →
    ((t : Token) → token_in (make t) ≡ Some t) → IfSome o (IsPresented world) → option_map make o ≡ Some m →
    IfSome (token_in m) (IsPresented world)
made_with world make None m one is_presented is = absurd (cc)
made_with world make (Some token) m one is_presented is =
    let same : make token ≡ m = cc in
    subst (λ (o : Option Token). IfSome o (IsPresented world)) (sym (one token) ∙ ap token_in same) is_presented

made_without : (world : WorldShape) (first m : Message) → token_in first ≡ None → Some first ≡ Some m →
    IfSome (token_in m) (IsPresented world)
made_without world first m none is =
    let same : first ≡ m = cc in
    subst (λ (o : Option Token). IfSome o (IsPresented world)) (sym none ∙ ap token_in same) tt

made_is : (world : WorldShape) (made : BadMessage) (m : Message) → OwnTokenIn world made →
    message_made (tokens_sent world) made ≡ Some m → IfSome (token_in m) (IsPresented world)
made_is world (bad.Get request field index) m own is = made_without world _ m refl is
made_is world (bad.Set request field index value) m own is = made_without world _ m refl is
made_is world (bad.Forward request frame variable value) m own is = made_without world _ m refl is
made_is world (bad.Sync request frame entry token) m own is =
    made_with world (λ known. message.Sync request frame entry known) (token_presented (tokens_sent world) token) m
    (λ t. refl) (presented_is world token (token_presented (tokens_sent world) token) own refl) is
made_is world (bad.Rgoto frame entry token) m own is =
    made_with world (λ known. message.Rgoto frame entry known) (token_presented (tokens_sent world) token) m
    (λ t. refl) (presented_is world token (token_presented (tokens_sent world) token) own refl) is
made_is world (bad.RgotoWith frame entry token riders) m own is =
    made_with world (λ known. message.RgotoWith frame entry known riders)
    (token_presented (tokens_sent world) token) m (λ t. refl)
    (presented_is world token (token_presented (tokens_sent world) token) own refl) is
made_is world (bad.Lgoto token) m own is =
    made_with world (λ known. message.Lgoto known) (token_presented (tokens_sent world) token) m (λ t. refl)
    (presented_is world token (token_presented (tokens_sent world) token) own refl) is
made_is world (bad.Value request value) m own is = made_without world _ m refl is
made_is world (bad.Ack request) m own is = made_without world _ m refl is
made_is world (bad.Token request token) m own is =
    made_with world (λ known. message.Token request known) (token_presented (tokens_sent world) token) m (λ t. refl)
    (presented_is world token (token_presented (tokens_sent world) token) own refl) is

account_act : (code : CodeShape) (world after : WorldShape) (from to : HostId) (made : BadMessage) →
    ShapeFits code world → OwnTokenIn world made → IsActStep code world from to made after → Accounts world after
account_act code world after from to made fits own step =
    let is_state = the_state code world to step.state fits step.obeys in
    let handles = taking_handles code step.state from step.message step.outcome is_state.fits step.takes in
    record {
      host = to;
      old = step.state;
      state = step.outcome.state;
      me = is_state.me;
      obeys = step.obeys;
      puts = act_puts code world after from to made step;
      fresh = handles.fresh;
      counts = handles.counts;
      presented = token_in step.message;
      is_presented = made_is world made step.message own step.makes;
      worth = λ worth.
          let changed = state_changed worth world to step.state step.outcome.state step.obeys in
          let held = handles.held worth in
          let all = told worth (with_state world to step.outcome.state) to step.outcome.sent in
          let is = world_is worth _ after step.leaves in
          omega arith;
    }

pub account : (code : CodeShape) (world after : WorldShape) (event : Event) → IsSoundCode code → ShapeFits code world →
    HasOwnToken world event → IsStep code world event after → Accounts world after
account code world after (Take from to place) sound fits own step =
    account_take code world after from to place fits step
account code world after (Turn host) sound fits own step = account_turn code world after host sound fits step
account code world after (Act from to made) sound fits own step =
    account_act code world after from to made fits own step

-- what misbehaving hosts were sent is only added to
pub sent_more : (code : CodeShape) (world after : WorldShape) (event : Event) (worth : Token → ℕ) →
    IsStep code world event after → worth_sent worth world ≤ worth_sent worth after
sent_more code world after event worth step =
    let more = told_more code world after event step in
    let both =
    ap (λ (sent : List SentMessage). sum_by worth (tokens_in sent)) more.1
    ∙ ap (sum_by worth) (filter_map-append (λ (letter : SentMessage). token_in letter.2) world.sent more.0)
    ∙ sum_by-append worth (tokens_in world.sent) (tokens_in more.0) in
    omega arith
