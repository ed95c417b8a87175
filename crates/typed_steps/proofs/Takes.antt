-- Taking a request by its owner, and an answer by the host that waits, seen from the host that takes.
use Rattle.std.proofs.Common.{◌≡◌, ◌∙◌, ℕ, [], ◌∷◌, Some, refl, ap, sym, subst, arith, ◌+◌, ◌≤◌}
use Rattle.std.specs.Prelude.{ℤ, IsSome}
use Rattle.js_base.specs.declared.ids.HostId.{HostId}
use Rattle.js_base.specs.declared.ids.FrameId.{FrameId}
use Rattle.js_base.specs.declared.ids.RequestId.{RequestId}
use Rattle.js_base.specs.declared.ids.VarId.{VarId}
use Rattle.jif_tree.specs.SourceRun.{Configuration}
use Rattle.jif_tree.specs.Store.{element_at, row_of}
use Rattle.ics_stack.specs.declared.stack.StackEntry.{StackEntry}
use Rattle.host_code.specs.declared.code.Entry.{Entry}
use Rattle.host_code.specs.declared.message.Message.{Message}
use Rattle.host_code.specs.declared.message.Message.TheVariants as message
use Rattle.host_code.specs.Code.{entry_at}
use Rattle.host_code.specs.Riders.{names_of}
use Rattle.host_code.specs.Sound.{IsEntryOn}
use Rattle.host_code.specs.Thread.{WaitingShape}
use Rattle.host_code.specs.Thread.Awaited.{value_of_field, acknowledgement, token_of_entry}
use Rattle.entry_check.specs.declared.ask.Ask.{Ask}
use Rattle.entry_check.specs.declared.ask.Ask.TheVariants as ask
use Rattle.entry_check.specs.Checks.{May, MayRide}
use Rattle.host_stores.specs.Stores.{with_variable}
use Rattle.host_core.specs.Host.{HostState, Outcome, without_message, with_row_written, after_push}
use Rattle.host_core.specs.Host.{with_variable_set, with_temporary, with_token, new_token, after_entering}
use Rattle.host_core.specs.Host.{with_running, with_variables_set, thread_at}
use Rattle.host_core.specs.Taking.{IsTaking, PassesCheck, after_taking, after_passing, after_answer, place_of_awaiting}
use Rattle.net_world.specs.World.{WorldShape, state_at}
use Rattle.split_rules.specs.Handing.{Arrival, arrival_in}
use Rattle.split_rules.specs.Positions.{without_forward}
use Rattle.split_rules.proofs.Riding.{all_without}
use Rattle.token_laws.proofs.Riding.{riding_is}
use Rattle.typed_steps.proofs.Alike.{row_read}
use Rattle.typed_steps.specs.Views.{Split, View, Link, with_chain, with_out, values_set}
use Rattle.typed_steps.specs.Chains.{IsLinked}
use Rattle.typed_steps.specs.Variables.{CanSend, HostsHold}
use Rattle.typed_steps.specs.Requests.{IsRequest, IsAnswerTo, GivesResult, GoesTo}
use Rattle.typed_steps.specs.Weights.{STEP, weight_at, IsFueledRequest}
use Rattle.typed_steps.specs.Turns.{HostsStillHold, stays, grows}
use Rattle.typed_steps.specs.Takes.{IsOwner, Answered, answers, steps, TokenArrives, Resumes}
use Rattle.typed_steps.proofs.Rows.{row_there}
use Rattle.typed_steps.proofs.HeldSteps.{kept, holds_same, holds_chain, holds_written, holds_forwarded, holds_given}
use Rattle.typed_steps.proofs.HeldSteps.{holds_rode}
use Rattle.typed_steps.proofs.Pops.{pushed_chain}
use Rattle.typed_steps.proofs.Turns.{sends_nothing}

-- a message that passes does what it is for
pub passing : (split : Split) (state : HostState) (from : HostId) (m : Message) (outcome : Outcome) →
    IsTaking split.code state from m outcome → PassesCheck split.code state from m →
    after_passing split.code state from m ≡ outcome
passing split state from m outcome takes may =
    sym (ap (after_taking split.code state from m) (takes.1.1 may)) ∙ takes.2

pub may_here : (split : Split) (state : HostState) (owner : HostId) (what : Ask) (from : HostId) → state.me ≡ owner →
    May split.code owner what from → May split.code state.me what from
may_here split state owner what from me may = subst (λ host. May split.code host what from) (sym me) may

-- a message that hands a thread over passes where its thread may enter and what rides may be set
pub arrival_passes : (split : Split) (state : HostState) (owner from : HostId) (said : Message) (arrival : Arrival) →
    state.me ≡ owner → arrival_in said ≡ Some arrival →
    May split.code owner (ask.Enter arrival.entry) from × MayRide split.code owner from (names_of arrival.riders) →
    PassesCheck split.code state from said
arrival_passes split state owner from (message.Rgoto frame entry token) arrival me is may =
    let own : Arrival = record { frame = frame; entry = entry; token = token; riders = [] } in
    let same : own ≡ arrival = cc in
    may_here split state owner (ask.Enter entry) from me
    (subst (λ (a : Arrival). May split.code owner (ask.Enter a.entry) from) (sym same) may.0)
arrival_passes split state owner from (message.RgotoWith frame entry token riders) arrival me is may =
    let own : Arrival = record { frame = frame; entry = entry; token = token; riders = riders } in
    let same : own ≡ arrival = cc in
    subst (λ host. May split.code host (ask.Enter entry) from × MayRide split.code host from (names_of riders)) (sym me)
    (subst (λ (a : Arrival). May split.code owner (ask.Enter a.entry) from
    × MayRide split.code owner from (names_of a.riders)) (sym same) may)
arrival_passes split state owner from _ arrival me is may = absurd (cc)

-- it sets what rides, and enters
arrival_does : (split : Split) (state : HostState) (from : HostId) (said : Message) (arrival : Arrival) →
    arrival_in said ≡ Some arrival →
    after_passing split.code state from said
    ≡ without_message (after_entering (with_variables_set state arrival.frame arrival.riders)
    (entry_at split.code arrival.entry) arrival.frame arrival.token)
arrival_does split state from (message.Rgoto frame entry token) arrival is =
    let own : Arrival = record { frame = frame; entry = entry; token = token; riders = [] } in
    let same : own ≡ arrival = cc in
    ap (λ (a : Arrival). without_message (after_entering (with_variables_set state a.frame a.riders)
    (entry_at split.code a.entry) a.frame a.token)) same
arrival_does split state from (message.RgotoWith frame entry token riders) arrival is =
    let own : Arrival = record { frame = frame; entry = entry; token = token; riders = riders } in
    let same : own ≡ arrival = cc in
    ap (λ (a : Arrival). without_message (after_entering (with_variables_set state a.frame a.riders)
    (entry_at split.code a.entry) a.frame a.token)) same
arrival_does split state from _ arrival is = absurd (cc)

module _ (split : Split) (c : Configuration) (view : View) (world : WorldShape) (holder owner : HostId)
    (waiting : WaitingShape) (old : HostState) (o : IsOwner split c view world owner old) where
  -- ---- requests

  pub request_taken : (m : Message) → IsRequest split c view holder owner waiting m → (outcome : Outcome) →
      IsTaking split.code old holder m outcome →
      Answered split c view world holder owner waiting old
      (λ fuel. IsFueledRequest split view.chain holder waiting.thread.at fuel m) outcome
  request_taken (message.Get request field place) asks outcome takes =
      let own = element_at (row_of old.rows field.0) place in
      let row = row_there split world owner old c.store field o.holds.fields o.there asks.3 in
      answers (record {
        seen = view;
        new = old;
        answer = message.Value request own;
        is = passing split old holder (message.Get request field place) outcome takes
            (may_here split old owner (ask.Get field) holder o.me asks.2);
        steady = record { me = refl; ignored = refl; halted = refl; waiting = refl };
        running = refl;
        grown = stays refl refl;
        is_chain = o.is_chain;
        sent = λ state sent. sent;
        ready = (
          asks.0,
          asks.1,
          asks.4 own (row_read split.exposure field (row_of old.rows field.0) (row_of c.store field.0)
              place row (o.numbers.elements field place)),
        );
        keeps = kept split c view world owner old
            (λ after moved. holds_same split c view world after owner old old after.flying o.holds o.there moved refl
            refl refl);
        pace = λ paced fuel enough. omega arith;
      })
  request_taken (message.Set request field place value) asks outcome takes =
      let new = with_row_written old field place value in
      let sets = asks.4 in
      let now = sets.now in
      steps now sets.does (record {
        seen = view;
        new = new;
        answer = message.Ack request;
        is = passing split old holder (message.Set request field place value) outcome takes
            (may_here split old owner (ask.Set field) holder o.me asks.2);
        steady = record { me = refl; ignored = refl; halted = refl; waiting = refl };
        running = refl;
        grown = stays refl refl;
        is_chain = o.is_chain;
        sent = λ state sent. sent;
        ready = (asks.0, asks.1, sets.at);
        keeps = kept split now view world owner new
            (λ after moved. holds_written split c now view world after owner old new after.flying field place value
            o.holds o.there moved asks.3 refl refl refl sets.store sets.calls sets.plainly);
        pace = λ paced fuel enough. omega arith;
      })
  request_taken (message.Forward request frame x value) asks outcome takes =
      let new = with_variable_set old frame x value in
      let seen = with_out view (without_forward x owner view.out) in
      answers (record {
        seen = seen;
        new = new;
        answer = message.Ack request;
        is = passing split old holder (message.Forward request frame x value) outcome takes
            (may_here split old owner (ask.Forward x) holder o.me asks.2);
        steady = record { me = refl; ignored = refl; halted = refl; waiting = refl };
        running = refl;
        grown = stays refl refl;
        is_chain = o.is_chain;
        sent = λ state sent.
            all_without (CanSend split (view.values view.sender) (state.variables (view.naming.frame view.sender))
            holder) x owner view.out sent;
        ready = (asks.0, asks.1, asks.8);
        keeps = kept split c seen world owner new
            (λ after moved. holds_forwarded split c view world after owner old new after.flying x value o.holds o.there
            moved refl (ap (λ f. with_variable old.variables f x value) asks.3) refl asks.4 asks.5 asks.6);
        pace = λ paced fuel enough. omega arith;
      })
  request_taken (message.Sync request frame entry token) asks outcome takes =
      let new = after_push old entry frame token in
      let pushed : StackEntry = record {
        token = new_token old entry frame;
        entry = entry;
        frame = frame;
        kept = token;
      } in
      let link : Link = record { entry = pushed; call = asks.5 } in
      let linked : IsLinked view.naming link = record { frame = asks.6; token = refl; known = asks.7 } in
      let seen = with_chain view (link ∷ view.chain) in
      answers (record {
        seen = seen;
        new = new;
        answer = message.Token request pushed.token;
        is = passing split old holder (message.Sync request frame entry token) outcome takes
            (may_here split old owner (ask.Enter entry) holder o.me asks.2);
        steady = record { me = refl; ignored = refl; halted = refl; waiting = refl };
        running = refl;
        grown = grows link o.me refl refl;
        is_chain = pushed_chain split view.naming view.chain link token o.is_chain asks.4
            (subst (λ h. IsEntryOn split.code h entry) (sym o.me) asks.3) linked refl asks.8;
        sent = λ state sent. sent;
        ready = (asks.0, asks.1, asks.9 link refl refl);
        keeps = kept split c seen world owner new (λ after moved. holds_chain split c view after (link ∷ view.chain)
            (holds_same split c view world after owner old new after.flying o.holds o.there moved refl refl refl));
        pace = λ paced fuel enough. omega arith;
      })
  request_taken _ asks outcome takes = absurd asks

  -- ---- results

  -- the host of the call has the result
  pub result_taken : (request : RequestId) (frame : FrameId) (x : VarId) (value : ℤ) →
      waiting.awaited ≡ acknowledgement → waiting.request ≡ request → May split.code owner (ask.Forward x) holder →
      GivesResult split c view holder waiting.thread frame x value owner → (outcome : Outcome) →
      IsTaking split.code old holder (message.Forward request frame x value) outcome →
      Answered split c view world holder owner waiting old
      (λ fuel. weight_at split view.chain holder waiting.thread.at + 2 ≤ fuel + STEP) outcome
  result_taken request frame x value awaited request_is may result outcome takes =
      let new = with_variable_set old frame x value in
      let now = result.now in
      let seen : View = record view { values = values_set view.values result.caller x.0 value; keeper = owner } in
      steps now result.does (record {
        seen = seen;
        new = new;
        answer = message.Ack request;
        is = passing split old holder (message.Forward request frame x value) outcome takes
            (may_here split old owner (ask.Forward x) holder o.me may);
        steady = record { me = refl; ignored = refl; halted = refl; waiting = refl };
        running = refl;
        grown = stays refl refl;
        is_chain = o.is_chain;
        sent = λ state sent. sends_nothing split seen state holder result.none_out;
        ready = (awaited, request_is, result.at);
        keeps = kept split now seen world owner new
            (λ after moved. holds_given split c now view world after owner old new after.flying result.caller x value
            result.into result.behind o.holds result.none_out o.there moved refl
            (ap (λ f. with_variable old.variables f x value) result.frame_is) refl result.made result.unread
            result.store result.calls result.pending);
        pace = λ paced fuel enough. omega arith;
      })

-- ---- the token

-- a host that has what rode, and runs the thread that was handed over
abbrev pub arrived : HostState → Entry → Arrival → HostState
arrived old there arrival =
    with_running (record old { variables = (with_variables_set old arrival.frame arrival.riders).variables })
    (Some (thread_at there arrival.frame arrival.token))

module _ (split : Split) (c : Configuration) (view : View) (world : WorldShape) (from owner : HostId) (old : HostState)
    (arrival : Arrival) (goes : GoesTo split c view from owner arrival) where
  -- it is what the taking leaves
  pub arrived_is : (said : Message) (outcome : Outcome) → old.me ≡ owner → arrival_in said ≡ Some arrival →
      IsTaking split.code old from said outcome → without_message (arrived old goes.there arrival) ≡ outcome
  arrived_is said outcome me arrives takes =
      let thread = thread_at goes.there arrival.frame arrival.token in
      ap (λ s. without_message (with_running s (Some thread))) (riding_is old arrival.frame arrival.riders)
      ∙ sym (ap (λ e. without_message (after_entering (with_variables_set old arrival.frame arrival.riders) e
      arrival.frame arrival.token)) goes.found)
      ∙ sym (arrival_does split old from said arrival arrives)
      ∙ passing split old from said outcome takes (arrival_passes split old owner from said arrival me arrives goes.may)

  -- and nothing is still to be sent
  pub arrived_keeps : state_at world owner ≡ Some old → HostsHold split c view world →
      HostsStillHold split c (with_out view []) world owner (arrived old goes.there arrival)
  arrived_keeps there holds =
      let new = arrived old goes.there arrival in
      kept split c (with_out view []) world owner new
      (λ after moved. holds_rode split c view world after owner old new after.flying arrival holds goes.rides there
      moved refl refl refl)

pub arrival_taken : (split : Split) (c : Configuration) (view : View) (world : WorldShape) (from owner : HostId)
    (old : HostState) → IsOwner split c view world owner old → (said : Message) (arrival : Arrival) →
    arrival_in said ≡ Some arrival → (goes : GoesTo split c view from owner arrival) → (outcome : Outcome) →
    IsTaking split.code old from said outcome → TokenArrives split c view world owner old goes.there arrival outcome
arrival_taken split c view world from owner old o said arrival arrives goes outcome takes = record {
  new = arrived old goes.there arrival;
  is = arrived_is split c view world from owner old arrival goes said outcome o.me arrives takes;
  running = refl;
  steady = record { me = refl; ignored = refl; halted = refl; waiting = refl };
  entries = refl;
  keeps = arrived_keeps split c view world from owner old arrival goes o.there o.holds;
}

-- ---- answers

-- The thread of a host that an answer is for goes on as it is after the answer.
pub answer_taken : (split : Split) (c : Configuration) (view : View) (holder owner : HostId) (waiting : WaitingShape)
    (state : HostState) (place : ℕ) → place_of_awaiting state waiting.awaited waiting.request owner ≡ Some place →
    (m : Message) → IsAnswerTo split c view holder waiting m → (outcome : Outcome) →
    IsTaking split.code state owner m outcome → Resumes split c view holder waiting state place outcome
answer_taken split c view holder owner waiting state place first (message.Value request value) answer outcome takes =
    let here : place_of_awaiting state value_of_field request owner ≡ Some place =
    ap (λ a. place_of_awaiting state a request owner) (sym answer.0)
    ∙ ap (λ r. place_of_awaiting state waiting.awaited r owner) (sym answer.1) ∙ first in
    record {
      change = with_temporary value;
      is = sym (ap (λ p. without_message (after_answer state p (with_temporary value))) here)
          ∙ passing split state owner (message.Value request value) outcome takes (subst IsSome (sym here) refl);
      at = answer.2;
      stays = refl;
    }
answer_taken split c view holder owner waiting state place first (message.Ack request) answer outcome takes =
    let here : place_of_awaiting state acknowledgement request owner ≡ Some place =
    ap (λ a. place_of_awaiting state a request owner) (sym answer.0)
    ∙ ap (λ r. place_of_awaiting state waiting.awaited r owner) (sym answer.1) ∙ first in
    record {
      change = λ thread. thread;
      is = sym (ap (λ p. without_message (after_answer state p (λ thread. thread))) here)
          ∙ passing split state owner (message.Ack request) outcome takes (subst IsSome (sym here) refl);
      at = answer.2;
      stays = refl;
    }
answer_taken split c view holder owner waiting state place first (message.Token request token) answer outcome takes =
    let here : place_of_awaiting state token_of_entry request owner ≡ Some place =
    ap (λ a. place_of_awaiting state a request owner) (sym answer.0)
    ∙ ap (λ r. place_of_awaiting state waiting.awaited r owner) (sym answer.1) ∙ first in
    record {
      change = with_token (Some token);
      is = sym (ap (λ p. without_message (after_answer state p (with_token (Some token)))) here)
          ∙ passing split state owner (message.Token request token) outcome takes (subst IsSome (sym here) refl);
      at = answer.2;
      stays = refl;
    }
answer_taken split c view holder owner waiting state place first _ answer outcome takes = absurd answer
