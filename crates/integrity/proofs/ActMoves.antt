-- A holder that waits for a misbehaving host: it goes on with what that answers, or goes on waiting.
use Rattle.std.proofs.Common.{◌≡◌, ◌∙◌, ◌⊎◌, inl, inr, ℕ, ℤ, Bool, true, false, List, [], ◌∷◌, ◌++◌, Option, Some, None}
use Rattle.std.proofs.Common.{refl, sym, ap, subst}
use Rattle.std.specs.Prelude.{slice_get, IsSome, IsSomeAnd}
use Rattle.std.specs.Option.{option_map}
use Rattle.std.proofs.lemmas.List.Quantifiers.{position-Some}
use Rattle.std.proofs.lemmas.Option.{slice_get-get_or}
use Rattle.std.specs.Prelude.{get_or}
use Rattle.js_base.specs.declared.ids.HostId.{HostId}
use Rattle.js_base.specs.declared.ids.RequestId.{RequestId}
use Rattle.jif_tree.specs.SourceRun.{Configuration}
use Rattle.host_code.specs.declared.message.Message.{Message}
use Rattle.host_code.specs.declared.message.Message.TheVariants as message
use Rattle.host_code.specs.Thread.{ThreadShape, WaitingShape, Awaited}
use Rattle.host_code.specs.Thread.Awaited.{value_of_field, acknowledgement, token_of_entry}
use Rattle.host_core.specs.Awaiting.{awaits, is_same_answer}
use Rattle.host_core.specs.Host.{HostState, Outcome, without_message, with_one_ignored, with_temporary}
use Rattle.host_core.specs.Taking.{after_taking, after_answer, place_of_awaiting, PassesCheck}
use Rattle.event_text.specs.declared.event.BadMessage.{BadMessage}
use Rattle.event_text.specs.declared.event.BadMessage.TheVariants as bad
use Rattle.net_world.specs.Told.{message_made, token_presented}
use Rattle.capability.specs.declared.token.Token.{Token}
use Rattle.jif_tree.specs.Numbers.{IsNumber}
use Rattle.net_world.specs.Fits.{ShapeFits, HasOwnToken}
use Rattle.ics_stack.specs.declared.stack.StackEntry.{StackEntry}
use Rattle.net_world.specs.World.{WorldShape, IsActStep, has_halted, state_at, world_at_start}
use Rattle.net_world.proofs.Moved.{Moved, bad_moved, moved_acted, mover_state}
use Rattle.host_decl.specs.Hosts as declared_hosts
use Rattle.event_text.specs.declared.event.Event.{Event}
use Rattle.event_text.specs.declared.event.Event.TheVariants.{Act}
use Rattle.token_laws.specs.Numbers.{MessageHasNumbers, MadeHasNumbers}
use Rattle.token_laws.specs.Requests.{number_answered}
use Rattle.token_laws.proofs.AskedLaws.{waits_once}
use Rattle.token_laws.proofs.EachFlight.{of_state}
use Rattle.token_laws.proofs.Tests.{parts_same}
use Rattle.token_laws.specs.Reached.{IsReached}
use Rattle.token_laws.proofs.Walks.{fits_there, one_more, own_there}
use Rattle.token_laws.proofs.WorldTokens.{Accounts, account}
use Rattle.integrity.specs.Exposed.{bad_labels}
use Rattle.integrity.proofs.TightLaws.{lawful}
use Rattle.typed_steps.specs.Threads.{IsAt}
use Rattle.typed_steps.specs.Variables.{HasWhatIsOwed}
use Rattle.typed_steps.specs.Views.{Split, View, entries_of}
use Rattle.typed_steps.proofs.HeldSteps.{holds_same}
use Rattle.integrity.specs.Holding.{IsAmong, Holder, runs, stuck, halted, IsHoldersEvent, OwnsWaiting, OwnsMessage}
use Rattle.integrity.specs.Holding.{StateIsOutside}
use Rattle.integrity.specs.Holding.{IsStanding}
use Rattle.integrity.specs.Outside.{Threat, ThreadIsOpen, MessageIsOpen}
use Rattle.integrity.specs.Standing as standing
use Rattle.integrity.specs.Standing.{threat_in, GoesOnWhatever, StandsBy, Goes}
use Rattle.integrity.proofs.Among.{each_among, some_of, same_item}
use Rattle.integrity.proofs.FliesOn.{FlyAs}
use Rattle.integrity.proofs.HolderStays.{on_some}
use Rattle.integrity.proofs.OpenWorlds.{state_fits}
use Rattle.integrity.proofs.OutsideEvents.{other_of}
use Rattle.integrity.proofs.StandsOn.{halted_before}
use Rattle.integrity.proofs.TakeMoves.{remove_all}
use Rattle.integrity.proofs.TightKept.{IsLawful}
use Rattle.integrity.proofs.TightMoves.{tight_moved, all_as}
use Rattle.integrity.proofs.WaitMoves.{found_at}

-- an answer asks for nothing
answer_open : (threat : Threat) (m : Message) (request : RequestId) → number_answered m ≡ Some request →
    MessageIsOpen threat m
answer_open threat (message.Get request field index) number is = absurd (cc)
answer_open threat (message.Set request field index value) number is = absurd (cc)
answer_open threat (message.Forward request frame x value) number is = absurd (cc)
answer_open threat (message.Sync request frame entry token) number is = absurd (cc)
answer_open threat (message.Rgoto frame entry token) number is = absurd (cc)
answer_open threat (message.RgotoWith frame entry token riders) number is = absurd (cc)
answer_open threat (message.Lgoto token) number is = tt
answer_open threat (message.Value request value) number is = tt
answer_open threat (message.Ack request) number is = tt
answer_open threat (message.Token request token) number is = tt

none_made : (make : Token → Message) (found : Option Token) (m : Message) → ((token : Token) → make token ≡ m → ⊥) →
    option_map make found ≡ Some m → ⊥
none_made make None m never is = absurd (cc)
none_made make (Some token) m never is = never token (let same : make token ≡ m = cc in same)

made_value : (tokens : List Token) (made : BadMessage) (request : RequestId) (value : ℤ) → MadeHasNumbers made →
    message_made tokens made ≡ Some (message.Value request value) → IsNumber value
made_value tokens (bad.Get other field index) request value numbers is = absurd (cc)
made_value tokens (bad.Set other field index written) request value numbers is = absurd (cc)
made_value tokens (bad.Forward other frame x sent) request value numbers is = absurd (cc)
made_value tokens (bad.Value other answer) request value numbers is =
    let same : answer ≡ value = cc in subst IsNumber same numbers
made_value tokens (bad.Ack other) request value numbers is = absurd (cc)
made_value tokens (bad.Sync other frame entry token) request value numbers is =
    absurd (none_made (λ known. message.Sync other frame entry known) (token_presented tokens token) _
    (λ known same. cc) is)
made_value tokens (bad.Rgoto frame entry token) request value numbers is =
    absurd (none_made (λ known. message.Rgoto frame entry known) (token_presented tokens token) _ (λ known same. cc) is)
made_value tokens (bad.RgotoWith frame entry token riders) request value numbers is =
    absurd (none_made (λ known. message.RgotoWith frame entry known riders) (token_presented tokens token) _
    (λ known same. cc) is)
made_value tokens (bad.Lgoto token) request value numbers is =
    absurd (none_made (λ known. message.Lgoto known) (token_presented tokens token) _ (λ known same. cc) is)
made_value tokens (bad.Token other token) request value numbers is =
    absurd (none_made (λ known. message.Token other known) (token_presented tokens token) _ (λ known same. cc) is)

-- what a misbehaving host answers is a number, where it sends numbers
pub answer_numbers : (tokens : List Token) (made : BadMessage) (m : Message) (request : RequestId) →
    MadeHasNumbers made → message_made tokens made ≡ Some m → number_answered m ≡ Some request → MessageHasNumbers m
answer_numbers tokens made (message.Get other field index) request numbers is number = absurd (cc)
answer_numbers tokens made (message.Set other field index value) request numbers is number = absurd (cc)
answer_numbers tokens made (message.Forward other frame x value) request numbers is number = absurd (cc)
answer_numbers tokens made (message.Sync other frame entry token) request numbers is number = tt
answer_numbers tokens made (message.Rgoto frame entry token) request numbers is number = tt
answer_numbers tokens made (message.RgotoWith frame entry token riders) request numbers is number = absurd (cc)
answer_numbers tokens made (message.Lgoto token) request numbers is number = tt
answer_numbers tokens made (message.Value other value) request numbers is number =
    made_value tokens made other value numbers is
answer_numbers tokens made (message.Ack other) request numbers is number = tt
answer_numbers tokens made (message.Token other token) request numbers is number = tt

same_kind : (one other : Awaited) → is_same_answer one other ≡ true → one ≡ other
same_kind value_of_field value_of_field is = refl
same_kind value_of_field acknowledgement is = absurd (cc)
same_kind value_of_field token_of_entry is = absurd (cc)
same_kind acknowledgement value_of_field is = absurd (cc)
same_kind acknowledgement acknowledgement is = refl
same_kind acknowledgement token_of_entry is = absurd (cc)
same_kind token_of_entry value_of_field is = absurd (cc)
same_kind token_of_entry acknowledgement is = absurd (cc)
same_kind token_of_entry token_of_entry is = refl

-- what is known before the act, and after it
pub record Acting (split : Split) (c : Configuration) (view : View) (host : HostId) (w : WaitingShape)
    (world after : WorldShape) (made : BadMessage) : Type 0 where
  pub stands : StandsBy split c view (stuck host w) world
  pub lawful : IsLawful (threat_in split) world
  pub fits : ShapeFits split.code after
  pub account : Accounts world after
  pub step : IsActStep split.code world w.asked host made after
  pub number : number_answered step.message ≡ Some w.request
  pub numbers : MessageHasNumbers step.message
  pub moved : Moved world host step.outcome.state world.flying after

module _ (split : Split) (c : Configuration) (view : View) (host : HostId) (w : WaitingShape)
    (world after : WorldShape) (made : BadMessage) (t : Acting split c view host w world after made) where
  among : IsAmong t.step.state.waiting w
  among = subst (λ o. IsSomeAnd o (λ s. IsAmong s.waiting w)) t.step.obeys t.stands.tight.there.0

  was : StateIsOutside (threat_in split) (entries_of view.chain) (stuck host w) t.step.state
  was = of_state (StateIsOutside (threat_in split) (entries_of view.chain) (stuck host w)) world host t.step.state
      t.stands.tight.outside.states t.step.obeys

  me_is : t.step.state.me ≡ host
  me_is = (state_fits (threat_in split) world host t.step.state t.lawful.fits t.step.obeys).me

  standing_each : (e : StackEntry) → IsAmong (entries_of view.chain) e → IsStanding world e
  standing_each e = each_among (IsStanding world) (entries_of view.chain) e t.stands.tight.standing

  all_open : (next : Holder) → FlyAs (λ one other m. OwnsMessage next one other m
      ⊎ MessageIsOpen (threat_in split) m) world.flying
  all_open next one other =
      all_as (λ flight. OwnsMessage (stuck host w) one other flight.message
      ⊎ MessageIsOpen (threat_in split) flight.message)
      (λ flight. OwnsMessage next one other flight.message ⊎ MessageIsOpen (threat_in split) flight.message)
      (world.flying one other) (λ flight either. inr (open_if flight.message either))
      (t.stands.tight.outside.flying one other)
    where
      open_if : (m : Message) → OwnsMessage (stuck host w) one other m ⊎ MessageIsOpen (threat_in split) m →
          MessageIsOpen (threat_in split) m
      open_if m (inl own) = answer_open (threat_in split) m w.request own.2
      open_if m (inr may) = may

  not_halted : (next : Holder) → t.step.outcome.state.halted ≡ t.step.state.halted → has_halted split.code.root after →
      next ≡ halted
  not_halted next same has =
      let never : stuck host w ≡ halted =
      t.stands.halts
      (halted_before world after split.code.root host t.step.state t.step.outcome.state t.step.obeys t.moved.hosts same
      has) in
      absurd (cc)

  -- ---- the answer is what the thread waits for

  goes_on : (change : ThreadShape → ThreadShape) → IsAt split c view host (change w.thread) →
      after_answer t.step.state (Some among.0) change ≡ t.step.outcome.state → Goes split c after
  goes_on change at is =
      let old = t.step.state in
      let new : HostState = after_answer old (Some among.0) change in
      let thread = change w.thread in
      let next = runs host thread in
      let moved : Moved world host new world.flying after =
      subst (λ s. Moved world host s world.flying after) (sym is) t.moved in
      let there : state_at after host ≡ Some new = mover_state world after host old new world.flying t.step.obeys moved
      in
      let running : new.running ≡ Some thread =
      ap (option_map (λ (one : WaitingShape). change one.thread)) among.1 in
      let First : WaitingShape → Type 0 =
      λ one. OwnsWaiting (stuck host w) old.me one ⊎ ThreadIsOpen (threat_in split) old.me one.thread in
      let Later : WaitingShape → Type 0 =
      λ one. OwnsWaiting next old.me one ⊎ ThreadIsOpen (threat_in split) old.me one.thread in
      standing.stays view next tt (record {
        tight = tight_moved (threat_in split) (entries_of view.chain) (entries_of view.chain) (stuck host w) next world
            after t.lawful t.fits t.account t.stands.tight (record {
              me = host;
              old = old;
              new = new;
              obeys = t.step.obeys;
              puts = moved.hosts;
              linked = t.stands.tight.linked;
              stands = λ e here.
                  on_some world after host e.token.host old new t.step.obeys moved.hosts
                  (λ state. IsAmong state.entries e) (standing_each e here).there (λ same has. has);
              known = λ e here. inl (standing_each e here);
              there = some_of (state_at after host) (λ s. s.running ≡ Some thread) new there running;
              has_top = at.held;
              held = λ same. absurd (cc);
              state = record {
                running = inl me_is;
                waiting = remove_all First Later old.waiting among.0
                    (λ k one is_there far either. inr (other_of either (λ own.
                    far (waits_once world.flying host old k among.0 one w (t.lawful.asked.hosts host old t.step.obeys)
                    is_there among.1 own.1)))) was.waiting;
                entries = was.entries;
              };
              runs_as = λ other far own. absurd own;
              waits_as = λ other one far own. absurd (far own.0);
              keeps_as = λ e far here. here;
              flying = subst (FlyAs (λ one other said. OwnsMessage next one other said
                  ⊎ MessageIsOpen (threat_in split) said)) (sym moved.flying) (all_open next);
            });
        holds = holds_same split c view world after host old new world.flying t.stands.holds t.step.obeys moved refl
            refl refl;
        sends = some_of (state_at after host) (λ s. HasWhatIsOwed split view s host) new there
            (subst (λ o. IsSomeAnd o (λ s. HasWhatIsOwed split view s host)) t.step.obeys t.stands.sends);
        does = (t.stands.does.0, at);
        halts = not_halted next (ap (λ (s : HostState). s.halted) (sym is));
      })

  -- ---- it is none that the thread waits for

  ignores : without_message (with_one_ignored t.step.state) ≡ t.step.outcome →
      StandsBy split c view (stuck host w) after
  ignores is =
      let old = t.step.state in
      let new : HostState = with_one_ignored old in
      let state_is : new ≡ t.step.outcome.state = ap (λ (o : Outcome). o.state) is in
      let moved : Moved world host new world.flying after =
      subst (λ s. Moved world host s world.flying after) (sym state_is) t.moved in
      let there : state_at after host ≡ Some new = mover_state world after host old new world.flying t.step.obeys moved
      in
      record {
        tight = tight_moved (threat_in split) (entries_of view.chain) (entries_of view.chain) (stuck host w)
            (stuck host w) world after t.lawful t.fits t.account t.stands.tight (record {
              me = host;
              old = old;
              new = new;
              obeys = t.step.obeys;
              puts = moved.hosts;
              linked = t.stands.tight.linked;
              stands = λ e here.
                  on_some world after host e.token.host old new t.step.obeys moved.hosts
                  (λ state. IsAmong state.entries e) (standing_each e here).there (λ same has. has);
              known = λ e here. inl (standing_each e here);
              there = (
                some_of (state_at after host) (λ s. IsAmong s.waiting w) new there among,
                bad_moved world after host old new world.flying t.step.obeys moved w.asked ∙ t.stands.tight.there.1,
              );
              has_top = t.stands.tight.has_top;
              held = λ same. absurd (cc);
              state = record { running = was.running; waiting = was.waiting; entries = was.entries };
              runs_as = λ other far own. own;
              waits_as = λ other one far own. own;
              keeps_as = λ e far here. here;
              flying = subst (FlyAs (λ one other said. OwnsMessage (stuck host w) one other said
                  ⊎ MessageIsOpen (threat_in split) said)) (sym moved.flying) (all_open (stuck host w));
            });
        holds = holds_same split c view world after host old new world.flying t.stands.holds t.step.obeys moved refl
            refl refl;
        sends = some_of (state_at after host) (λ s. HasWhatIsOwed split view s host) new there
            (subst (λ o. IsSomeAnd o (λ s. HasWhatIsOwed split view s host)) t.step.obeys t.stands.sends);
        does = t.stands.does;
        halts = not_halted (stuck host w) (ap (λ (s : HostState). s.halted) (sym state_is));
      }

  -- ---- whatever is answered

  kind_found : (kind : Awaited) (request : RequestId) → request ≡ w.request → (found : Option ℕ) →
      place_of_awaiting t.step.state kind request w.asked ≡ found → IsSome found →
      (w.awaited ≡ kind) × (place_of_awaiting t.step.state kind request w.asked ≡ Some among.0)
  kind_found kind request same None is some = absurd (let never = some in cc)
  kind_found kind request same (Some place) is some =
      let old = t.step.state in
      let at = position-Some (awaits kind request w.asked) old.waiting place w is in
      let one : WaitingShape = get_or old.waiting place w in
      let there : slice_get old.waiting place ≡ Some one = slice_get-get_or old.waiting place w at.0 in
      let it = found_at old.waiting kind request w.asked place one is there in
      let place_is =
      waits_once world.flying host old place among.0 one w (t.lawful.asked.hosts host old t.step.obeys) there among.1
      (it.request_is ∙ same) in
      let one_is : one ≡ w =
      same_item old.waiting among.0 one w (subst (λ n. slice_get old.waiting n ≡ Some one) place_is there) among.1 in
      let kind_is : one.awaited ≡ kind =
      same_kind one.awaited kind (parts_same _ _ (parts_same _ _ at.1).0).0 in (
        ap (λ (x : WaitingShape). x.awaited) (sym one_is) ∙ kind_is,
        is ∙ ap (λ (n : ℕ). Some n) place_is,
      )

  after_is : (place : Option ℕ) (change : ThreadShape → ThreadShape) → place ≡ Some among.0 →
      without_message (after_answer t.step.state place change) ≡ t.step.outcome →
      after_answer t.step.state (Some among.0) change ≡ t.step.outcome.state
  after_is place change found is =
      ap (λ o. after_answer t.step.state o change) (sym found) ∙ ap (λ (o : Outcome). o.state) is

  takes : (m : Message) → t.step.message ≡ m → number_answered m ≡ Some w.request → MessageHasNumbers m →
      (b : Bool) → (b ≡ true → PassesCheck split.code t.step.state w.asked m) →
      after_taking split.code t.step.state w.asked m b ≡ t.step.outcome →
      Goes split c after ⊎ StandsBy split c view (stuck host w) after
  takes m is number numbers false check taken = inr (ignores taken)
  takes (message.Value request value) is number numbers true check taken =
      let same : request ≡ w.request = cc in
      let found = kind_found value_of_field request same _ refl (check refl) in
      inl (goes_on (with_temporary value)
      (subst (GoesOnWhatever split c view host w) found.0 t.stands.does.1 value numbers)
      (after_is _ (with_temporary value) found.1 taken))
  takes (message.Ack request) is number numbers true check taken =
      let same : request ≡ w.request = cc in
      let found = kind_found acknowledgement request same _ refl (check refl) in
      inl (goes_on (λ thread. thread) (subst (GoesOnWhatever split c view host w) found.0 t.stands.does.1)
      (after_is _ (λ thread. thread) found.1 taken))
  takes (message.Token request token) is number numbers true check taken =
      let same : request ≡ w.request = cc in
      let found = kind_found token_of_entry request same _ refl (check refl) in
      absurd (subst (GoesOnWhatever split c view host w) found.0 t.stands.does.1)
  takes (message.Get request field index) is number numbers true check taken = absurd (cc)
  takes (message.Set request field index value) is number numbers true check taken = absurd (cc)
  takes (message.Forward request frame x value) is number numbers true check taken = absurd (cc)
  takes (message.Sync request frame entry token) is number numbers true check taken = absurd (cc)
  takes (message.Rgoto frame entry token) is number numbers true check taken = absurd (cc)
  takes (message.RgotoWith frame entry token riders) is number numbers true check taken = absurd (cc)
  takes (message.Lgoto token) is number numbers true check taken = absurd (cc)

  pub acted_goes : Goes split c after ⊎ StandsBy split c view (stuck host w) after
  acted_goes =
      takes t.step.message refl t.number t.numbers t.step.takes.0 t.step.takes.1.0 t.step.takes.2

-- ---- the law

module _ (split : Split) (rows : List declared_hosts.HostShape) (bad : ℕ) (store : List (List ℤ)) (events : List Event)
    (world after : WorldShape) (c : Configuration) (view : View)
    (same : split.exposure.bad ≡ bad_labels bad 0 rows) (reach : IsReached split.code rows bad store events world)
    (host : HostId) (w : WaitingShape) (stands : StandsBy split c view (stuck host w) world) where
  acting : (made : BadMessage) → HasOwnToken (world_at_start split.code rows bad store) (Act w.asked host made) →
      (step : IsActStep split.code world w.asked host made after) →
      number_answered step.message ≡ Some w.request → MessageHasNumbers step.message →
      Acting split c view host w world after made
  acting made own step number numbers =
      let is = lawful (threat_in split) rows bad store events world same reach in
      record {
        stands = stands;
        lawful = is;
        fits = fits_there split.code rows bad store (events ++ Act w.asked host made ∷ []) after
            (one_more split.code rows bad store events world after (Act w.asked host made) reach own step);
        account = account split.code world after (Act w.asked host made) reach.sound is.fits
            (own_there split.code rows bad store events world (Act w.asked host made) reach own) step;
        step = step;
        number = number;
        numbers = numbers;
        moved = moved_acted world host step.outcome after step.leaves;
      }

  pub holder_acted : (made : BadMessage) →
      HasOwnToken (world_at_start split.code rows bad store) (Act w.asked host made) →
      (step : IsActStep split.code world w.asked host made after) → MessageHasNumbers step.message →
      IsHoldersEvent (stuck host w) world (Act w.asked host made) →
      Goes split c after ⊎ StandsBy split c view (stuck host w) after
  holder_acted made own step numbers its =
      let mine = subst (λ o. IsSomeAnd o (OwnsMessage (stuck host w) w.asked host)) step.makes its in
      acted_goes split c view host w world after made (acting made own step mine.2 numbers)
