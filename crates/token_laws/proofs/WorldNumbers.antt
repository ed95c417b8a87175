-- Every event keeps the numbers of a world within 64 bits.
use Rattle.std.proofs.Common.{◌≡◌, ℕ, zero, suc, ◌+◌, ℤ, Bool, true, false, List, [], ◌∷◌}
use Rattle.std.proofs.Common.{Option, Some, None, refl, sym, subst}
use Rattle.std.specs.Prelude.{slice_get, All, IfSome, if◌then◌else◌, ◌==◌}
use Rattle.std.specs.Option.{option_map}
use Rattle.std.specs.Int.{bit_at}
use Rattle.std.proofs.lemmas.List.Elements.{All-nil, All-cons}
use Rattle.js_base.specs.declared.ids.HostId.{HostId}
use Rattle.capability.specs.declared.token.Token.{Token}
use Rattle.jif_tree.specs.Numbers.{IsNumber}
use Rattle.host_decl.specs.Hosts as declared_hosts
use Rattle.host_code.specs.declared.message.Message.{Message}
use Rattle.host_code.specs.declared.message.Message.TheVariants as message
use Rattle.host_code.specs.Code.{CodeShape, CodeFieldShape, entry_at, halt}
use Rattle.host_stores.specs.Stores.{own_rows}
use Rattle.host_core.specs.Host.{HostState, after_push, new_token}
use Rattle.host_core.specs.Start.{idle_host, root_host, main_frame, last_token}
use Rattle.host_core.specs.Turn.{label_of_turn}
use Rattle.event_text.specs.declared.event.Event.{Event}
use Rattle.event_text.specs.declared.event.Event.TheVariants.{Take, Turn, Act}
use Rattle.event_text.specs.declared.event.BadMessage.{BadMessage}
use Rattle.event_text.specs.declared.event.BadMessage.TheVariants as bad
use Rattle.net_world.specs.Flying.{Flight}
use Rattle.net_world.specs.Told.{message_made, token_presented}
use Rattle.net_world.specs.World.{WorldShape, IsStep, IsTakeStep, IsTurnStep, IsActStep, given}
use Rattle.net_world.specs.World.{with_state, without_flight}
use Rattle.net_world.specs.World.{tokens_sent, hosts_before}
use Rattle.net_world.proofs.Moved.{moved_acted}
use Rattle.net_world.proofs.StepLaws.{take_puts, turn_puts, act_puts}
use Rattle.token_laws.specs.Numbers.{CodeHasNumbers, RowsHaveNumbers, EventHasNumbers, MadeHasNumbers}
use Rattle.token_laws.specs.Numbers.{MessageHasNumbers, StateHasNumbers, WorldHasNumbers}
use Rattle.token_laws.specs.Reached.{IsReached}
use Rattle.token_laws.proofs.EachFlight.{FlyWith, fly_without, fly_sent, of_state, states_after}
use Rattle.token_laws.proofs.HeldLaws.{all_at}
use Rattle.token_laws.proofs.HostNumbers.{turn_numbers, taking_numbers, enters, same_parts}
use Rattle.token_laws.proofs.ValueNumbers.{zero_fits, row_fits}
use Rattle.token_laws.proofs.Walks.{reached}

-- ---- the events

numbers_take : (code : CodeShape) (world after : WorldShape) (from to : HostId) (place : ℕ) →
    IsTakeStep code world from to place after → WorldHasNumbers world → WorldHasNumbers after
numbers_take code world after from to place step fits =
    let named =
    all_at (λ (f : Flight). MessageHasNumbers f.message) (world.flying from to) place step.flight
    (fits.flying from to) step.there in
    let outcome =
    taking_numbers code step.state from step.flight.message step.outcome
    (of_state StateHasNumbers world to step.state fits.states step.obeys) named step.takes in
    let left = without_flight world from to place in
    record {
      states = states_after StateHasNumbers world after to step.state step.outcome.state step.obeys
          (take_puts code world after from to place step) fits.states outcome.state;
      flying = subst (λ (w : WorldShape). FlyWith MessageHasNumbers w.flying) step.leaves
          (fly_sent MessageHasNumbers (with_state left to step.outcome.state) to (Some step.flight.label)
          step.outcome.sent (fly_without MessageHasNumbers world from to place fits.flying) outcome.sent);
    }

numbers_turn : (code : CodeShape) (world after : WorldShape) (me : HostId) → CodeHasNumbers code →
    IsTurnStep code world me after → WorldHasNumbers world → WorldHasNumbers after
numbers_turn code world after me named step fits =
    let outcome =
    turn_numbers code step.state step.outcome named
    (of_state StateHasNumbers world me step.state fits.states step.obeys) step.turns in
    record {
      states = states_after StateHasNumbers world after me step.state step.outcome.state step.obeys
          (turn_puts code world after me step) fits.states outcome.state;
      flying = subst (λ (w : WorldShape). FlyWith MessageHasNumbers w.flying) step.leaves
          (fly_sent MessageHasNumbers (with_state world me step.outcome.state) me (label_of_turn code step.state)
          step.outcome.sent fits.flying outcome.sent);
    }

-- the numbers of a message that is made are those of the act
made_as : (first m : Message) → Some first ≡ Some m → MessageHasNumbers first → MessageHasNumbers m
made_as first m is named = let same : first ≡ m = cc in subst MessageHasNumbers same named

made_with : (make : Token → Message) (o : Option Token) (m : Message) →
    ((token : Token) → MessageHasNumbers (make token)) → option_map make o ≡ Some m → MessageHasNumbers m
made_with make None m named is = absurd (cc)
made_with make (Some token) m named is = made_as (make token) m is (named token)

made_numbers : (tokens : List Token) (made : BadMessage) (m : Message) → MadeHasNumbers made →
    message_made tokens made ≡ Some m → MessageHasNumbers m
made_numbers tokens (bad.Get request field index) m named is = made_as _ m is named
made_numbers tokens (bad.Set request field index value) m named is = made_as _ m is named
made_numbers tokens (bad.Forward request frame variable value) m named is = made_as _ m is named
made_numbers tokens (bad.Value request value) m named is = made_as _ m is named
made_numbers tokens (bad.Ack request) m named is = made_as _ m is named
made_numbers tokens (bad.Sync request frame entry token) m named is =
    made_with (λ known. message.Sync request frame entry known) (token_presented tokens token) m (λ t. tt) is
made_numbers tokens (bad.Rgoto frame entry token) m named is =
    made_with (λ known. message.Rgoto frame entry known) (token_presented tokens token) m (λ t. tt) is
made_numbers tokens (bad.RgotoWith frame entry token riders) m named is =
    made_with (λ known. message.RgotoWith frame entry known riders) (token_presented tokens token) m (λ t. named) is
made_numbers tokens (bad.Lgoto token) m named is =
    made_with (λ known. message.Lgoto known) (token_presented tokens token) m (λ t. tt) is
made_numbers tokens (bad.Token request token) m named is =
    made_with (λ known. message.Token request known) (token_presented tokens token) m (λ t. tt) is

numbers_act : (code : CodeShape) (world after : WorldShape) (from to : HostId) (made : BadMessage) →
    MadeHasNumbers made → IsActStep code world from to made after → WorldHasNumbers world → WorldHasNumbers after
numbers_act code world after from to made named step fits =
    let outcome =
    taking_numbers code step.state from step.message step.outcome
    (of_state StateHasNumbers world to step.state fits.states step.obeys)
    (made_numbers (tokens_sent world) made step.message named step.makes) step.takes in
    record {
      states = states_after StateHasNumbers world after to step.state step.outcome.state step.obeys
          (act_puts code world after from to made step) fits.states outcome.state;
      flying = subst (FlyWith MessageHasNumbers) (sym (moved_acted world to step.outcome after step.leaves).flying)
          fits.flying;
    }

numbers_step : (code : CodeShape) (world after : WorldShape) (event : Event) → CodeHasNumbers code →
    EventHasNumbers event → IsStep code world event after → WorldHasNumbers world → WorldHasNumbers after
numbers_step code world after (Take from to place) named said step fits =
    numbers_take code world after from to place step fits
numbers_step code world after (Turn host) named said step fits = numbers_turn code world after host named step fits
numbers_step code world after (Act from to made) named said step fits =
    numbers_act code world after from to made said step fits

-- ---- the start

own_row_fits : (row : List ℤ) (here : Bool) → All IsNumber row → All IsNumber (if here then row else [])
own_row_fits row true fits = fits
own_row_fits row false fits = All-nil IsNumber

own_rows_fit : (me : HostId) (store : List (List ℤ)) (number : ℕ) (fields : List CodeFieldShape) →
    RowsHaveNumbers store → RowsHaveNumbers (own_rows me store number fields)
own_rows_fit me store number [] fits = All-nil (All IsNumber)
own_rows_fit me store number (field ∷ fields) fits =
    All-cons (All IsNumber) _ _ (own_row_fits _ (field.host.0 == me.0) (row_fits store number fits))
    (own_rows_fit me store (number + 1) fields fits)

root_or : (root : Bool) (first second : HostState) → StateHasNumbers first → StateHasNumbers second →
    StateHasNumbers (if root then first else second)
root_or true first second fits also = fits
root_or false first second fits also = also

start_fits : (code : CodeShape) (store : List (List ℤ)) (key : List ℕ) (me : HostId) (misbehaves root : Bool) →
    RowsHaveNumbers store → IfSome (if misbehaves then None else Some (if root
    then root_host code (idle_host code store key me)
    else idle_host code store key me)) StateHasNumbers
start_fits code store key me true root fits = tt
start_fits code store key me false root fits =
    let idle : HostState = idle_host code store key me in
    let idle_fits : StateHasNumbers idle =
    record {
      rows = own_rows_fit me store 0 code.fields fits;
      variables = λ frame x. zero_fits;
      running = tt;
      waiting = All-nil _;
    } in
    root_or root (root_host code idle) idle
    (enters (after_push idle halt main_frame (last_token me)) (entry_at code code.main) main_frame
    (new_token idle halt main_frame) (same_parts idle _ idle_fits refl refl refl tt)) idle_fits

starts_fit : (code : CodeShape) (store : List (List ℤ)) (bad number : ℕ) (rows : List declared_hosts.HostShape)
    (place : ℕ) → RowsHaveNumbers store →
    IfSome (given (slice_get (hosts_before code store bad number rows) place)) StateHasNumbers
starts_fit code store bad number [] place fits = tt
starts_fit code store bad number (row ∷ rows) zero fits =
    start_fits code store row.key (record { 0 = number }) (bit_at bad number == 1) (number == code.root.0) fits
starts_fit code store bad number (row ∷ rows) (suc place) fits =
    starts_fit code store bad (number + 1) rows place fits

pub known_numbers : (code : CodeShape) (rows : List declared_hosts.HostShape) (bad : ℕ) (store : List (List ℤ))
    (events : List Event) (world : WorldShape) → IsReached code rows bad store events world → CodeHasNumbers code →
    RowsHaveNumbers store → All EventHasNumbers events → WorldHasNumbers world
known_numbers code rows bad store events world reach named fits said =
    (reached code rows bad store events world EventHasNumbers WorldHasNumbers reach said
    (λ w after event shape own one step numbers. numbers_step code w after event named one step numbers) (record {
      states = λ host. starts_fit code store bad 0 rows host.0 fits;
      flying = λ from to. All-nil _;
    })).1
