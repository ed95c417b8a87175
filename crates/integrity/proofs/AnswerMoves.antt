-- The owner of a request of the holder's takes it and answers, and the holder's thread goes on with the answer.
use Rattle.std.proofs.Common.{◌≡◌, ◌≢◌, ◌∙◌, ◌⊎◌, inl, inr, ℕ, Bool, true, false, [], ◌∷◌, ◌++◌, Some}
use Rattle.std.proofs.Common.{refl, sym, ap, subst}
use Rattle.std.specs.Prelude.{All, IfSome, IsSomeAnd}
use Rattle.std.specs.Option.{option_map}
use Rattle.js_base.specs.declared.ids.HostId.{HostId}
use Rattle.jif_tree.specs.SourceRun.{Configuration}
use Rattle.host_code.specs.declared.message.Message.{Message}
use Rattle.host_code.specs.Thread.{WaitingShape}
use Rattle.host_core.specs.Host.{HostState, Outcome}
use Rattle.host_core.specs.Taking.{IsTaking, after_answer}
use Rattle.host_code.specs.declared.message.Message.TheVariants as message
use Rattle.net_world.proofs.Present.{same_id}
use Rattle.typed_steps.specs.Requests.{IsRequest}
use Rattle.net_world.specs.Flying.{Flight, Flying, with_flights}
use Rattle.net_world.specs.World.{WorldShape, state_at, misbehaves, without_flight}
use Rattle.net_world.proofs.Fitting.{bad_differs}
use Rattle.net_world.proofs.Moved.{Moved, mover_state, other_state, moved_silent, moved_posted}
use Rattle.token_laws.proofs.AskedLaws.{waits_once}
use Rattle.typed_steps.specs.Takes as takes
use Rattle.typed_steps.specs.Variables.{HasWhatIsOwed}
use Rattle.typed_steps.specs.Views.{Split, View, entries_of}
use Rattle.typed_steps.specs.Weights.{STEP}
use Rattle.typed_steps.proofs.HeldSteps.{holds_same}
use Rattle.typed_steps.proofs.Takes.{request_taken, result_taken, answer_taken}
use Rattle.integrity.specs.Holding.{IsAmong, Holder, runs, asked, answered}
use Rattle.integrity.specs.Holding.{OwnsWaiting, OwnsMessage}
use Rattle.integrity.specs.Outside.{ThreadIsOpen, MessageIsOpen}
use Rattle.integrity.specs.Standing as standing
use Rattle.integrity.specs.Standing.{threat_in, IsResultGiven, StandsBy, Goes}
use Rattle.integrity.proofs.Among.{one_of_some, some_of, last_at}
use Rattle.integrity.proofs.ChainMoves.{linked_of, grown_keeps, grown_entries, grown_stands, grown_known}
use Rattle.integrity.proofs.FliesOn.{FlyAs, all_posted}
use Rattle.integrity.proofs.HolderStays.{on_some}
use Rattle.integrity.proofs.OutsideEvents.{other_of}
use Rattle.integrity.proofs.StackMoves.{Restacks, GivesBack, taking_restacks}
use Rattle.integrity.proofs.TakeMoves.{Taking, answer_number, answer_top, left_flying, me_is, none_halted, remove_all}
use Rattle.integrity.proofs.TakeMoves.{standing_each, taken_is, waits_there, was}
use Rattle.integrity.proofs.TightKept.{asks_another}
use Rattle.integrity.proofs.TightMoves.{tight_moved}
use Rattle.integrity.proofs.TurnMoves.{own_cell}

-- ---- the owner answers

module _ (split : Split) (c : Configuration) (view : View) (host : HostId) (w : WaitingShape) (m : Message)
    (world after : WorldShape) (place : ℕ)
    (t : Taking split c view (asked host w m) world after host w.asked place) where
  host_state : (state : HostState) × (state_at world host ≡ Some state) × IsAmong state.waiting w
  host_state =
      let at = one_of_some (state_at world host) (λ s. IsAmong s.waiting w) t.stands.tight.there.0 in
      (at.one, at.is, at.has)

  apart : w.asked ≢ host
  apart = asks_another (threat_in split) world t.lawful host host_state.0 host_state.2.0 w host_state.1 host_state.2.1

  apart_number : host.0 ≢ w.asked.0
  apart_number = λ same. apart (sym (same_id host w.asked same))

  obeying_if : (b : Bool) → misbehaves world host ≡ b → misbehaves world host ≡ false
  obeying_if true bad = absurd (bad_differs world host host host_state.0 bad host_state.1 refl)
  obeying_if false good = good

  -- the owner's state has changed, and its answer is in flight
  answers : (now : Configuration) (more : ℕ) (enough : ℕ → Type 0) →
      takes.AnswersRequest split view world host w.asked w t.step.state enough now more t.step.outcome →
      (seen : View) × (next : Holder) × standing.IsFree next × StandsBy split now seen next after
  answers now more enough a =
      let owner = w.asked in
      let old = t.step.state in
      let next = answered host w a.answer in
      let flight : Flight = record { message = a.answer; label = t.step.flight.label } in
      let flying = with_flights (without_flight world host owner place).flying owner host
      ((without_flight world host owner place).flying owner host ++ flight ∷ []) in
      let posted =
      moved_posted (without_flight world host owner place) owner t.step.outcome old a.new host a.answer
      (Some t.step.flight.label) t.step.flight.label after t.step.obeys (obeying_if (misbehaves world host) refl) refl
      a.is t.step.leaves in
      let moved : Moved world owner a.new flying after =
      record { hosts = posted.moved.hosts; flying = posted.moved.flying } in
      let there : state_at after owner ≡ Some a.new =
      mover_state world after owner old a.new flying t.step.obeys moved in
      let host_there : state_at after host ≡ Some host_state.0 =
      other_state world after owner host a.new flying moved apart_number ∙ host_state.1 in
      let me : a.new.me ≡ owner = a.steady.me ∙ me_is split c view (asked host w m) world after host owner place t in
      let before = was split c view (asked host w m) world after host owner place t in
      let each = standing_each split c view (asked host w m) world after host owner place t in
      let number = answer_number split now a.seen host w a.answer a.ready in
      let Kinds : HostId → HostId → Message → Type 0 =
      λ one other said. OwnsMessage next one other said ⊎ MessageIsOpen (threat_in split) said in (
        a.seen,
        next,
        tt,
        record {
          tight = tight_moved (threat_in split) (entries_of view.chain) (entries_of a.seen.chain) (asked host w m) next
              world after t.lawful t.fits t.account t.stands.tight (record {
                me = owner;
                old = old;
                new = a.new;
                obeys = t.step.obeys;
                puts = moved.hosts;
                linked = linked_of split a.seen.naming a.seen.chain a.is_chain;
                stands = grown_stands world after owner old a.new t.step.obeys moved.hosts view.chain a.seen.chain
                    a.grown (λ e among. (each e among).there);
                known = grown_known split view.naming a.seen.naming world after owner old a.new
                    (GivesBack t.step.flight.message) t.lawful.held t.fits t.step.obeys there
                    (subst (Restacks (GivesBack t.step.flight.message) old) (ap (λ (o : Outcome). o.state) (sym a.is))
                    (taking_restacks split.code old host t.step.flight.message t.step.outcome t.step.takes)) posted.sent
                    view.chain a.seen.chain t.stands.does.0 a.is_chain a.grown each;
                there = (
                  some_of (state_at after host) (λ s. IsAmong s.waiting w) host_state.0 host_there host_state.2,
                  record {
                    flight = flight;
                    among = subst (λ list. IsAmong list flight)
                        (sym (ap (λ (f : Flying). f owner host) moved.flying
                        ∙ own_cell (without_flight world host owner place).flying owner host
                        ((without_flight world host owner place).flying owner host ++ flight ∷ [])))
                        (last_at ((without_flight world host owner place).flying owner host) flight);
                    is = refl;
                  },
                  number,
                );
                has_top = answer_top split now a.seen host w a.answer a.ready;
                held = λ same. absurd (cc);
                state = record {
                  running = inr (subst (λ o. IfSome o (ThreadIsOpen (threat_in split) a.new.me))
                      (sym (a.running ∙ t.step.rests)) tt);
                  waiting = subst (λ h. All (λ one. OwnsWaiting next h one
                      ⊎ ThreadIsOpen (threat_in split) h one.thread) a.new.waiting) (sym a.steady.me)
                      (subst (All (λ one. OwnsWaiting next old.me one ⊎ ThreadIsOpen
                      (threat_in split) old.me one.thread))
                      (sym a.steady.waiting) before.waiting);
                  entries = grown_entries (threat_in split) owner view.chain a.seen.chain old.entries a.new.entries
                      a.grown before.entries;
                };
                runs_as = λ other far own. absurd own;
                waits_as = λ other one far own. own;
                keeps_as = λ e far among.
                    grown_keeps owner view.chain a.seen.chain old.entries a.new.entries a.grown e among;
                flying = subst (FlyAs Kinds) (sym moved.flying)
                    (all_posted Kinds (without_flight world host owner place) owner
                    (record { to = host; message = a.answer; label = t.step.flight.label })
                    (left_flying split c view (asked host w m) world after host owner place t next)
                    (inl (refl, refl, number)));
              });
          holds = a.keeps after moved.hosts;
          sends = some_of (state_at after host) (λ s. HasWhatIsOwed split a.seen s host) host_state.0 host_there
              (a.sent host_state.0 (subst (λ o. IsSomeAnd o
              (λ s. HasWhatIsOwed split view s host)) host_state.1 t.stands.sends));
          does = (a.is_chain, a.ready);
          halts = none_halted split c view (asked host w m) world after host owner place t next a.new
              (λ same. absurd (cc)) moved.hosts a.steady.halted;
        },
      )

  answered_any : (enough : ℕ → Type 0) →
      takes.Answered split c view world host w.asked w t.step.state enough t.step.outcome → Goes split c after
  answered_any enough (takes.answers a) = let it = answers c 0 enough a in standing.stays it.0 it.1 it.2 it.3
  answered_any enough (takes.steps now does a) =
      let it = answers now STEP enough a in standing.steps now it.0 it.1 it.2 does it.3

  owner_is : takes.IsOwner split c view world w.asked t.step.state
  owner_is = record {
    there = t.step.obeys;
    me = me_is split c view (asked host w m) world after host w.asked place t;
    numbers = t.numbers;
    is_chain = t.stands.does.0;
    holds = t.stands.holds;
  }

  asks_or_gives : (said : Message) → t.step.flight.message ≡ said →
      IsRequest split c view host w.asked w said ⊎ IsResultGiven split c view host w said → Goes split c after
  asks_or_gives said is (inl request) =
      answered_any _ (request_taken split c view world host w.asked w t.step.state owner_is said request t.step.outcome
      (subst (λ x. IsTaking split.code t.step.state host x t.step.outcome) is t.step.takes))
  asks_or_gives (message.Forward request frame x value) is (inr gives) =
      answered_any _ (result_taken split c view world host w.asked w t.step.state owner_is request frame x value gives.0
      gives.1 gives.2 gives.3 t.step.outcome
      (subst (λ said. IsTaking split.code t.step.state host said t.step.outcome) is t.step.takes))
  asks_or_gives _ is (inr gives) = absurd gives

  pub asked_goes : Goes split c after
  asked_goes =
      asks_or_gives m
      (taken_is split c view (asked host w m) world after host w.asked place t m t.stands.tight.there.1
      (refl, refl, t.stands.tight.there.2)) t.stands.does.1

-- ---- the thread goes on with the answer

module _ (split : Split) (c : Configuration) (view : View) (host : HostId) (w : WaitingShape) (m : Message)
    (world after : WorldShape) (place : ℕ)
    (t : Taking split c view (answered host w m) world after w.asked host place) where
  among : IsAmong t.step.state.waiting w
  among = subst (λ o. IsSomeAnd o (λ s. IsAmong s.waiting w)) t.step.obeys t.stands.tight.there.0

  message_is : t.step.flight.message ≡ m
  message_is =
      taken_is split c view (answered host w m) world after w.asked host place t m t.stands.tight.there.1
      (refl, refl, t.stands.tight.there.2)

  resumes : takes.Resumes split c view host w t.step.state among.0 t.step.outcome
  resumes =
      answer_taken split c view host w.asked w t.step.state among.0
      (waits_there (threat_in split) world t.lawful host t.step.state w among.0 t.step.obeys among.1) m t.stands.does.1
      t.step.outcome
      (subst (λ x. IsTaking split.code t.step.state w.asked x t.step.outcome) message_is t.step.takes)

  pub answered_goes : Goes split c after
  answered_goes =
      let old = t.step.state in
      let r = resumes in
      let new : HostState = after_answer old (Some among.0) r.change in
      let thread = r.change w.thread in
      let next = runs host thread in
      let silent =
      moved_silent (without_flight world w.asked host place) host t.step.outcome new (Some t.step.flight.label) after
      r.is t.step.leaves in
      let flying = (without_flight world w.asked host place).flying in
      let moved : Moved world host new flying after = record { hosts = silent.hosts; flying = silent.flying } in
      let there : state_at after host ≡ Some new = mover_state world after host old new flying t.step.obeys moved in
      let running : new.running ≡ Some thread =
      ap (option_map (λ (one : WaitingShape). r.change one.thread)) among.1 in
      let before = was split c view (answered host w m) world after w.asked host place t in
      let each = standing_each split c view (answered host w m) world after w.asked host place t in
      let me = me_is split c view (answered host w m) world after w.asked host place t in
      let First : WaitingShape → Type 0 =
      λ one. OwnsWaiting (answered host w m) old.me one ⊎ ThreadIsOpen (threat_in split) old.me one.thread in
      let Later : WaitingShape → Type 0 =
      λ one. OwnsWaiting next old.me one ⊎ ThreadIsOpen (threat_in split) old.me one.thread in
      standing.stays view next tt (record {
        tight = tight_moved (threat_in split) (entries_of view.chain) (entries_of view.chain) (answered host w m) next
            world after t.lawful t.fits t.account t.stands.tight (record {
              me = host;
              old = old;
              new = new;
              obeys = t.step.obeys;
              puts = moved.hosts;
              linked = t.stands.tight.linked;
              stands = λ e here.
                  on_some world after host e.token.host old new t.step.obeys moved.hosts
                  (λ state. IsAmong state.entries e) (each e here).there (λ same has. has);
              known = λ e here. inl (each e here);
              there = some_of (state_at after host) (λ s. s.running ≡ Some thread) new there running;
              has_top = r.at.held;
              held = λ same. absurd (cc);
              state = record {
                running = inl me;
                waiting = remove_all First Later old.waiting among.0
                    (λ k one is far either. inr (other_of either (λ own.
                    far (waits_once world.flying host old k among.0 one w (t.lawful.asked.hosts host old t.step.obeys)
                    is among.1 own.1)))) before.waiting;
                entries = before.entries;
              };
              runs_as = λ other far own. absurd own;
              waits_as = λ other one far own. absurd (far own.0);
              keeps_as = λ e far here. here;
              flying = subst (FlyAs (λ one other said. OwnsMessage next one other said
                  ⊎ MessageIsOpen (threat_in split) said)) (sym moved.flying)
                  (left_flying split c view (answered host w m) world after w.asked host place t next);
            });
        holds = holds_same split c view world after host old new flying t.stands.holds t.step.obeys moved refl refl
            refl;
        sends = some_of (state_at after host) (λ s. HasWhatIsOwed split view s host) new there
            (subst (λ o. IsSomeAnd o (λ s. HasWhatIsOwed split view s host)) t.step.obeys t.stands.sends);
        does = (t.stands.does.0, r.at);
        halts = none_halted split c view (answered host w m) world after w.asked host place t next new
            (λ same. absurd (cc)) moved.hosts refl;
      })
