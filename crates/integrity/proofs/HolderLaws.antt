-- The laws of the holder's own events.
use Rattle.std.proofs.Common.{◌≡◌, ℕ, ℤ, List, [], ◌∷◌, ◌++◌, Some, subst}
use Rattle.std.specs.Prelude.{All, IfSome, IsSomeAnd}
use Rattle.js_base.specs.declared.ids.HostId.{HostId}
use Rattle.host_decl.specs.Hosts as declared_hosts
use Rattle.jif_tree.specs.SourceRun.{Configuration}
use Rattle.jif_tree.specs.Store.{row_of}
use Rattle.host_code.specs.Thread.{ThreadShape}
use Rattle.host_core.specs.Host.{HostState}
use Rattle.host_core.specs.Turn.{label_of_turn}
use Rattle.event_text.specs.declared.event.Event.{Event}
use Rattle.event_text.specs.declared.event.Event.TheVariants.{Turn}
use Rattle.net_world.specs.Fits.{ShapeFits}
use Rattle.net_world.specs.World.{WorldShape, IsTurnStep, state_at}
use Rattle.token_laws.specs.Numbers.{CodeHasNumbers, RowsHaveNumbers, EventHasNumbers, StateHasNumbers}
use Rattle.token_laws.specs.Numbers.{WorldHasNumbers}
use Rattle.token_laws.specs.Reached.{IsReached}
use Rattle.token_laws.proofs.ValueNumbers.{row_fits, element_fits}
use Rattle.token_laws.proofs.Walks.{fits_there, one_more}
use Rattle.token_laws.proofs.WorldNumbers.{known_numbers}
use Rattle.token_laws.proofs.WorldTokens.{Accounts, account}
use Rattle.typed_steps.specs.Turns.{IsActing, Turned}
use Rattle.typed_steps.specs.Values.{HoldsNumbers}
use Rattle.typed_steps.specs.Variables.{HasWhatIsOwed}
use Rattle.typed_steps.specs.Views.{Split, View}
use Rattle.typed_steps.proofs.HolderTurns.{turned}
use Rattle.integrity.specs.Exposed.{bad_labels}
use Rattle.integrity.specs.Holding.{runs}
use Rattle.integrity.specs.Standing.{threat_in, StandsBy, Goes}
use Rattle.integrity.proofs.OpenWorlds.{state_fits}
use Rattle.integrity.proofs.TightLaws.{lawful}
use Rattle.integrity.proofs.TightKept.{IsLawful}
use Rattle.integrity.proofs.TurnMoves.{goes_of}

-- what a host has is a number
pub numbers_of : (split : Split) (world : WorldShape) (host : HostId) (state : HostState) → WorldHasNumbers world →
    state_at world host ≡ Some state → HoldsNumbers split.exposure state
numbers_of split world host state numbers obeys =
    let has = subst (λ o. IfSome o StateHasNumbers) obeys (numbers.states host) in
    record {
      elements = λ field place far. element_fits (row_of state.rows field.0) place
          (row_fits state.rows field.0 has.rows);
      variables = λ frame x far. has.variables frame x;
    }

-- what is there of a host is there of its state
pub of_there : (world : WorldShape) (host : HostId) (state : HostState) (P : HostState → Type 0) →
    state_at world host ≡ Some state → IsSomeAnd (state_at world host) P → P state
of_there world host state P obeys has = subst (λ o. IsSomeAnd o P) obeys has

-- what is known of a turn of the holder's thread
pub record HolderTurn (split : Split) (c : Configuration) (view : View) (host : HostId) (thread : ThreadShape)
    (world after : WorldShape) (step : IsTurnStep split.code world host after) : Type 0 where
  pub lawful : IsLawful (threat_in split) world
  pub fits : ShapeFits split.code after
  pub account : Accounts world after
  pub running : step.state.running ≡ Some thread
  pub sends : HasWhatIsOwed split view step.state host
  pub label : ℕ
  pub labels : label_of_turn split.code step.state ≡ Some label
  pub turned : Turned split c view world host step.state thread step.outcome

pub turn_of : (split : Split) (rows : List declared_hosts.HostShape) (bad : ℕ) (store : List (List ℤ))
    (events : List Event) (world after : WorldShape) (host : HostId) (thread : ThreadShape) (c : Configuration)
    (view : View) → split.exposure.bad ≡ bad_labels bad 0 rows →
    IsReached split.code rows bad store events world → CodeHasNumbers split.code → RowsHaveNumbers store →
    All EventHasNumbers events → (step : IsTurnStep split.code world host after) →
    StandsBy split c view (runs host thread) world → HolderTurn split c view host thread world after step
turn_of split rows bad store events world after host thread c view same reach code_numbers store_numbers said step
    stands =
    let code = split.code in
    let is = lawful (threat_in split) rows bad store events world same reach in
    let next = one_more code rows bad store events world after (Turn host) reach tt step in
    let numbers = known_numbers code rows bad store events world reach code_numbers store_numbers said in
    let running = of_there world host step.state (λ s. s.running ≡ Some thread) step.obeys stands.tight.there in
    let sends = of_there world host step.state (λ s. HasWhatIsOwed split view s host) step.obeys stands.sends in
    let acts : IsActing split c view world host step.state thread = record {
      there = step.obeys;
      many = is.fits.count;
      fits = state_fits (threat_in split) world host step.state is.fits step.obeys;
      numbers = numbers_of split world host step.state numbers step.obeys;
      running = running;
      is_chain = stands.does.0;
      at = stands.does.1;
      sent = sends;
      holds = stands.holds;
    } in
    let turn = turned split c view world host step.state thread acts step.outcome step.turns in
    record {
      lawful = is;
      fits = fits_there code rows bad store (events ++ Turn host ∷ []) after next;
      account = account code world after (Turn host) reach.sound is.fits tt step;
      running = running;
      sends = sends;
      label = turn.0;
      labels = turn.1;
      turned = turn.2;
    }

pub holder_turned : (split : Split) (rows : List declared_hosts.HostShape) (bad : ℕ) (store : List (List ℤ))
    (events : List Event) (world after : WorldShape) (host : HostId) (thread : ThreadShape) (c : Configuration)
    (view : View) → split.exposure.bad ≡ bad_labels bad 0 rows →
    IsReached split.code rows bad store events world → CodeHasNumbers split.code → RowsHaveNumbers store →
    All EventHasNumbers events → IsTurnStep split.code world host after → after.sent ≡ world.sent →
    StandsBy split c view (runs host thread) world → Goes split c after
holder_turned split rows bad store events world after host thread c view same reach code_numbers store_numbers said step
    quiet stands =
    let turn =
    turn_of split rows bad store events world after host thread c view same reach code_numbers store_numbers said step
    stands in
    goes_of split c view host thread world after (record {
      stands = stands;
      lawful = turn.lawful;
      fits = turn.fits;
      account = turn.account;
      step = step;
      quiet = quiet;
      running = turn.running;
      sends = turn.sends;
      label = turn.label;
      labels = turn.labels;
    }) turn.turned
