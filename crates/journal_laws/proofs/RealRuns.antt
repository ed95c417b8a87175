-- A host that was played stands for a real one: under the key of played hosts some run has these lines and leaves these
-- fields. The tags of the tokens that the real host takes are chosen from the end on. Each of them is presented once at
-- the most, and there it is right just where the step passed.
use Rattle.std.proofs.Common.{◌≡◌, ◌∙◌, ◌⊎◌, ◌↔◌, ◌+◌, Bool, true, false, ℕ, ℤ, suc, refl, ap, sym, subst}
use Rattle.std.proofs.Common.{List, [], ◌∷◌, ◌++◌, inl, inr, arith}
use Rattle.std.specs.Prelude.{Option, Some, None, IsSome, IsTrue, map, slice_index, slice_set, ◌==◌, if◌then◌else◌}
use Rattle.std.specs.Option.{option_map}
use Rattle.std.proofs.lemmas.Bool.{false≢true}
use Rattle.std.proofs.lemmas.Bool.Decides.{nat_tests}
use Rattle.js_base.specs.declared.ids.HostId.{HostId}
use Rattle.capability.specs.declared.token.Token.{Token}
use Rattle.ics_stack.specs.declared.stack.StackEntry.{StackEntry}
use Rattle.ics_stack.specs.Stack.{top_token}
use Rattle.host_code.specs.declared.code.Entry.{Entry}
use Rattle.host_code.specs.declared.message.Message.{Message}
use Rattle.host_code.specs.declared.message.Message.TheVariants as message
use Rattle.host_code.specs.Code.{CodeShape, entry_at, halt}
use Rattle.host_code.specs.Sound.{IsHost, IsOther, IsSoundCode}
use Rattle.host_code.specs.Thread.{ThreadShape}
use Rattle.host_core.specs.Fits.{StateFits}
use Rattle.host_core.specs.Host.{HostState, Outcome, after_entering, after_push, new_token, without_message}
use Rattle.host_core.specs.Start.{host_at_start, idle_host, last_token, main_frame}
use Rattle.host_core.specs.Told.{IsUnsure, settled, told_key, with_wrong_tags}
use Rattle.event_text.specs.JournalText.{sent_words}
use Rattle.event_text.specs.Words.{Word}
use Rattle.wire_msg.specs.Frames.{IsMessage}
use Rattle.journal_laws.specs.Bare.{bare_host, bare_sent}
use Rattle.journal_laws.specs.Plays.{HaveOwnNames, IsJournalOf, MayMakeStep, Plays, step_words}
use Rattle.journal_laws.specs.Steps.{Step, turns, takes, bare_step, told_step}
use Rattle.journal_laws.specs.ToldPlays.{IsChosenStep, IsPlayed, IsToldStep, ToldPlays}
use Rattle.journal_laws.proofs.CountedNames.{Rests, count, entry_hits, held_hits, hits, is_right, lying}
use Rattle.journal_laws.proofs.CountedNames.{name_of, right_is, running_hits, settled_counts}
use Rattle.journal_laws.proofs.FatedTags.{cast_same, fate_has, fate_right, fate_tag, fate_wrong, fits_tagged}
use Rattle.journal_laws.proofs.FatedTags.{letter_fated, named, none, real_picked, right_stays}
use Rattle.journal_laws.proofs.FatedTags.{top_back, top_real, unfated, unsure_named, with_fate}
use Rattle.journal_laws.proofs.KeptStacks.{AreMade, HasStack, stack_kept}
use Rattle.journal_laws.proofs.AlikeMoves.{check_syncs, made_bare, made_of, off_of, off_syncs, pushes, some_same}
use Rattle.journal_laws.proofs.FollowedSteps as plays
use Rattle.journal_laws.proofs.OffAgain.{IsTop, MayBeTop, StepSyncs, TopIs, TopMayBe, check_told, held_of}
use Rattle.journal_laws.proofs.OffAgain.{lgoto_of, lgoto_open, off_check}
use Rattle.journal_laws.proofs.OffAgain.{presented, presented_cast, step_by, step_off, tagged_syncs, turn_open}
use Rattle.journal_laws.proofs.OwnTags.{same_number}
use Rattle.journal_laws.proofs.Retagged.{AreCast, HasTags, IsCast, cast, cast_bare, cast_without, sent_bare}
use Rattle.journal_laws.proofs.Retagged.{step_cast, tagged, tagged_entry, tagged_message, tagged_step, tagged_thread}
use Rattle.journal_laws.proofs.SameChecks.{CheckOf, same_takes_off, takes_off, told_of}
use Rattle.journal_laws.proofs.SameFields as fields
use Rattle.journal_laws.proofs.TakenOff.{RestsFor}
use Rattle.journal_laws.proofs.WithoutHalt.{without_halt}
use Rattle.journal_laws.proofs.NamedSteps.{Names, both_ways, turned, none_some, step_is, move_of, real_of, told_move}
use Rattle.journal_laws.proofs.NamedSteps.{tagged_bare, tagged_words, running_runs, runs_running, none_before}
use Rattle.journal_laws.proofs.NamedSteps.{made_syncs, not_zero, names_on}

module _ (code : CodeShape) (sound : IsSoundCode code) (own : HaveOwnNames code) where
  -- the played host is the third one, where no token that was taken is right
  record Plain (next : ℕ) (host both : HostState) : Type 0 where
    told : IsCast (fate_tag none) told_key host both
    stack : HasStack told_key both
    fits : StateFits code host
    names : Names next both

  -- the real host, by the fates of the names
  abbrev real : (ℕ → Bool) → ℕ → Bool → HostState → HostState
  real fate ignored halted both = cast (fate_tag fate) told_key ignored halted both

  real_told : (next : ℕ) (host both : HostState) (fate : ℕ → Bool) (ignored : ℕ) (halted : Bool) →
      Plain next host both → told_of host ≡ told_of (real fate ignored halted both)
  real_told next host both fate ignored halted plain =
      let (count, ends, is) = plain.told in
      ap told_of is
      ∙ ap bare_host (cast_without (fate_tag none) told_key count ends both)
      ∙ cast_bare (fate_tag none) told_key count ends (without_halt both)
      ∙ sym (cast_bare (fate_tag fate) told_key ignored halted (without_halt both))
      ∙ ap bare_host (sym (cast_without (fate_tag fate) told_key ignored halted both))

  -- what the step leaves of the played host and of the third
  told_cast : (next : ℕ) (host both : HostState) (step : Step) (outcome : Outcome) (passes : Bool) →
      Plain next host both → told_step code host (made_of step) passes ≡ outcome →
      AreCast (fate_tag none) told_key outcome (told_step code both (move_of next step) passes)
  told_cast next host both step outcome passes plain is =
      let (count, ends, casts) = plain.told in
      let has : HasTags (fate_tag none) both.key told_key =
      subst (λ made. HasTags (fate_tag none) made told_key) (sym plain.stack.key_is) (fate_has none) in
      subst (λ after. AreCast (fate_tag none) told_key after (told_step code both (move_of next step) passes))
      (ap (λ h. told_step code h (tagged_step (fate_tag none) (move_of next step)) passes) (sym casts)
      ∙ ap (λ s. told_step code host s passes) (told_move next step (not_zero next plain.names.some)) ∙ is)
      (step_cast (fate_tag none) told_key code count ends both (move_of next step) passes has)

  -- for some fates a run of the real host has these lines and leaves these fields
  record HasRun (both last : HostState) (lines : List (List Word)) : Type 0 where
    fate : ℕ → Bool
    runs : (ignored : ℕ) (halted : Bool) →
        (steps : List Step) × (end : HostState) × Plays code (real fate ignored halted both) steps end lines
        × (end.rows ≡ last.rows)

  may_real : (next : ℕ) (host both : HostState) (fate : ℕ → Bool) (ignored : ℕ) (halted : Bool) (step : Step) →
      Plain next host both → MayMakeStep code host step →
      MayMakeStep code (real fate ignored halted both) (real_of fate next step)
  may_real next host both fate ignored halted turns plain may =
      let (count, ends, is) = plain.told in
      runs_running (fate_tag fate) both.running
      (running_runs (fate_tag none) both.running (subst (λ (h : HostState). IsSome h.running) is may))
  may_real next host both fate ignored halted (takes from letter) plain may =
      let (count, ends, is) = plain.told in
      let rest : both.running ≡ None =
      none_before (fate_tag none) both.running (sym (ap (λ (h : HostState). h.running) is) ∙ may.rest) in
      let right = fate next in
      let said = letter_fated fate next letter (not_zero next plain.names.some) in
      record {
        rest = ap (option_map (tagged_thread (fate_tag fate))) rest;
        other = subst (λ me. IsOther code me from) (ap (λ (h : HostState). h.me) is) may.other;
        fits = fits_tagged code (fate_tag fate) (tagged_message (named next) letter)
            (fits_tagged code (named next) letter may.fits);
        real = subst IsMessage (sym said) (real_picked right letter may.real);
      }

  -- one step more in front
  step_more : (next : ℕ) (host both last : HostState) (step : Step) (outcome : Outcome) (later : List (List Word))
      (passes : Bool) (fate : ℕ → Bool) → (plain : Plain next host both) → MayMakeStep code host step →
      told_step code host (made_of step) passes ≡ outcome →
      (run : HasRun (told_step code both (move_of next step) passes).state last later) →
      ((ignored : ℕ) (halted : Bool) →
      real fate ignored halted (told_step code both (move_of next step) passes).state
      ≡ real run.fate ignored halted (told_step code both (move_of next step) passes).state) →
      ((ignored : ℕ) (halted : Bool) →
      IsTrue passes ↔ CheckOf code (real fate ignored halted both) (real_of fate next step)) →
      HasRun both last (step_words code step ∷ (sent_words code outcome.sent ++ later))
  step_more next host both last step outcome later passes fate plain may is run same check = record {
    fate = fate;
    runs = λ ignored halted.
        let here = real fate ignored halted both in
        let move = real_of fate next step in
        let left = told_step code both (move_of next step) passes in
        let after = told_step code here move passes in
        let casts = step_cast (fate_tag fate) told_key code ignored halted both (move_of next step) passes
        (has fate) in
        let (count, ends, state) = casts.0 in
        let (steps, end, plays, rows) = run.runs count ends in (
          move ∷ steps,
          end,
          (
            after,
            later,
            may_real next host both fate ignored halted step plain may,
            step_is code here move after (passes, refl, check ignored halted),
            subst (λ h. Plays code h steps end later) (sym (state ∙ same count ends)) plays,
            ap (λ line. line ∷ (sent_words code outcome.sent ++ later)) (sym (all_words fate))
                ∙ ap (λ (sent : List (List Word)). step_words code move ∷ (sent ++ later))
                (fields.said_alike code sound own outcome.sent after.sent (sent_told ∙ sym (ap bare_sent casts.1
                ∙ sent_bare (fate_tag fate) left.sent))),
          ),
          rows,
        );
  }
    where
      has : (fate : ℕ → Bool) → HasTags (fate_tag fate) both.key told_key
      has fate = subst (λ made. HasTags (fate_tag fate) made told_key) (sym plain.stack.key_is) (fate_has fate)

      all_words : (fate : ℕ → Bool) → step_words code (real_of fate next step) ≡ step_words code step
      all_words fate = tagged_words code (fate_tag fate) (move_of next step) ∙ tagged_words code (named next) step

      sent_told : bare_sent outcome.sent ≡ bare_sent (told_step code both (move_of next step) passes).sent
      sent_told =
          let casts = told_cast next host both step outcome passes plain is in
          ap bare_sent casts.1 ∙ sent_bare (fate_tag none) (told_step code both (move_of next step) passes).sent

  -- ---- what the step leaves of the third host

  plain_on : (next : ℕ) (host both : HostState) (step : Step) (outcome : Outcome) (passes : Bool) →
      (plain : Plain next host both) → MayMakeStep code host step → IsToldStep code host step outcome →
      told_step code host (made_of step) passes ≡ outcome → StepSyncs (made_of step) passes →
      Plain (suc next) outcome.state (told_step code both (move_of next step) passes).state
  plain_on next host both step outcome passes plain may told is syncs =
      let pushes_none = pushes code both (move_of next step) passes sound there (move_syncs step syncs) in
      record {
        told = (told_cast next host both step outcome passes plain is).0;
        stack = stack_kept code told_key both (move_of next step) passes pushes_none plain.stack;
        fits = fields.told_fits code sound own host step outcome plain.fits may told;
        names = names_on code next both step passes plain.names (rests step may) plain.stack.key_is pushes_none;
      }
    where
      there : IsHost code both.me
      there =
          let (count, ends, casts) = plain.told in
          subst (IsHost code) (ap (λ (h : HostState). h.me) casts) plain.fits.me

      move_syncs : (step : Step) → StepSyncs (made_of step) passes → StepSyncs (move_of next step) passes
      move_syncs turns syncs = tt
      move_syncs (takes from letter) syncs =
          λ holds. tagged_syncs (named next) letter (made_syncs letter (syncs holds))

      rests : (step : Step) → MayMakeStep code host step → Rests both (move_of next step)
      rests turns may = refl
      rests (takes from letter) may =
          let (count, ends, casts) = plain.told in
          none_before (fate_tag none) both.running (sym (ap (λ (h : HostState). h.running) casts) ∙ may.rest)

  -- ---- the step by its truth value, and why it is that one

  record Made (host : HostState) (step : Step) (outcome : Outcome) : Type 0 where
    passes : Bool
    is : told_step code host (made_of step) passes ≡ outcome
    syncs : StepSyncs (made_of step) passes
    why : ((takes_off code host (made_of step) ≡ false) × (IsTrue passes ↔ CheckOf code host (made_of step)))
        ⊎ ((takes_off code host (made_of step) ≡ true)
        × (MayBeTop host (presented host (made_of step))
        ⊎ ((¬ MayBeTop host (presented host (made_of step)))
        × (IsTrue passes ↔ IsTop host (presented host (made_of step))))))

  open_chosen : (host : HostState) (step : Step) (outcome : Outcome) → IsToldStep code host step outcome →
      IsChosenStep (λ passes. MayBeTop host (presented host (made_of step))) code host step outcome
  open_chosen host turns outcome (inl (passes, unsure, is)) =
      inl (passes, turn_open code host host.running unsure, unsure, is)
  open_chosen host turns outcome (inr closed) = inr closed
  open_chosen host (takes from letter) outcome (inl (passes, unsure, is)) =
      inl (passes, lgoto_open host (with_wrong_tags letter) unsure, unsure, is)
  open_chosen host (takes from letter) outcome (inr closed) = inr closed

  rests_made : (host : HostState) (step : Step) → MayMakeStep code host step → RestsFor host (made_of step)
  rests_made host turns may = tt
  rests_made host (takes from letter) may = may.rest

  made_by : (host : HostState) (step : Step) (outcome : Outcome) → StateFits code host → MayMakeStep code host step →
      IsToldStep code host step outcome → Made host step outcome
  made_by host step outcome fits may told = by (takes_off code host (made_of step)) refl
    where
      by : (off : Bool) → takes_off code host (made_of step) ≡ off → Made host step outcome
      by false off =
          let closed = plays.closed_step code sound own (λ passes. MayBeTop host (presented host (made_of step))) host
          step outcome fits may off (open_chosen host step outcome told) in
          let (passes, is, check) = step_by code host (made_of step) outcome closed in
          record {
            passes = passes;
            is = is;
            syncs = check_syncs code host (made_of step) passes check;
            why = inl (off, check);
          }
      by true off =
          let (passes, is, why) = off_of code (λ passes. MayBeTop host (presented host (made_of step))) host step
          outcome
          off (rests_made host step may) (open_chosen host step outcome told) in
          record {
            passes = passes;
            is = step_off code host (made_of step) passes off (rests_made host step may) ∙ is;
            syncs = off_syncs code host (made_of step) passes off;
            why = inr (off, why);
          }

  -- ---- the checks of the real host

  real_bare : (fate : ℕ → Bool) (next : ℕ) (step : Step) → bare_step (made_of step) ≡ bare_step (real_of fate next step)
  real_bare fate next step =
      made_bare step ∙ sym (tagged_bare (fate_tag fate) (move_of next step) ∙ tagged_bare (named next) step)

  real_off : (next : ℕ) (host both : HostState) (step : Step) (fate : ℕ → Bool) (ignored : ℕ) (halted : Bool) →
      Plain next host both →
      takes_off code host (made_of step) ≡ takes_off code (real fate ignored halted both) (real_of fate next step)
  real_off next host both step fate ignored halted plain =
      same_takes_off code host (real fate ignored halted both) (made_of step) (real_of fate next step)
      (real_told next host both fate ignored halted plain) (real_bare fate next step)

  plain_check : (next : ℕ) (host both : HostState) (step : Step) (passes : Bool) (fate : ℕ → Bool) (ignored : ℕ)
      (halted : Bool) → Plain next host both → takes_off code host (made_of step) ≡ false →
      IsTrue passes ↔ CheckOf code host (made_of step) →
      IsTrue passes ↔ CheckOf code (real fate ignored halted both) (real_of fate next step)
  plain_check next host both step passes fate ignored halted plain off check =
      let here = real fate ignored halted both in
      let move = real_of fate next step in
      let told : IsTrue passes ↔ CheckOf code (told_of here) (bare_step move) =
      subst (λ s. IsTrue passes ↔ CheckOf code (told_of here) s) (real_bare fate next step)
      (subst (λ h. IsTrue passes ↔ CheckOf code h (bare_step (made_of step)))
      (real_told next host both fate ignored halted plain)
      (both_ways check (check_told code host (made_of step) off))) in
      both_ways told
      (turned (check_told code here move (sym (real_off next host both step fate ignored halted plain) ∙ off)))

  host_presents : (next : ℕ) (host both : HostState) (step : Step) → Plain next host both →
      presented host (made_of step) ≡ option_map (tagged (fate_tag none)) (presented both (move_of next step))
  host_presents next host both step plain =
      let (count, ends, casts) = plain.told in
      ap (presented host) (sym (told_move next step (not_zero next plain.names.some)))
      ∙ ap (λ h. presented h (tagged_step (fate_tag none) (move_of next step))) casts
      ∙ presented_cast (fate_tag none) told_key count ends both (move_of next step)

  host_top : (next : ℕ) (host both : HostState) → Plain next host both →
      top_token host.entries ≡ top_token (map (tagged_entry (fate_tag none)) both.entries)
  host_top next host both plain =
      let (count, ends, casts) = plain.told in ap (λ (h : HostState). top_token h.entries) casts

  off_real : (next : ℕ) (host both : HostState) (step : Step) (passes : Bool) (fate : ℕ → Bool) (ignored : ℕ)
      (halted : Bool) → Plain next host both → takes_off code host (made_of step) ≡ true →
      IsTrue passes ↔ TopIs (top_token (map (tagged_entry (fate_tag fate)) both.entries))
      (option_map (tagged (fate_tag fate)) (presented both (move_of next step))) →
      IsTrue passes ↔ CheckOf code (real fate ignored halted both) (real_of fate next step)
  off_real next host both step passes fate ignored halted plain off check =
      let here = real fate ignored halted both in
      let move = real_of fate next step in
      let top : IsTrue passes ↔ IsTop here (presented here move) =
      subst (λ held. IsTrue passes ↔ IsTop here held)
      (sym (presented_cast (fate_tag fate) told_key ignored halted both (move_of next step))) check in
      both_ways top
      (turned (off_check code here move (sym (real_off next host both step fate ignored halted plain) ∙ off)))

  -- ---- steps that take off

  closed_tops : (fate : ℕ → Bool) (entries : List StackEntry) (held : Option Token) → AreMade told_key entries →
      ¬ TopMayBe (top_token (map (tagged_entry (fate_tag none)) entries)) (option_map (tagged (fate_tag none)) held) →
      TopIs (top_token (map (tagged_entry (fate_tag none)) entries)) (option_map (tagged (fate_tag none)) held)
      ↔ TopIs (top_token (map (tagged_entry (fate_tag fate)) entries)) (option_map (tagged (fate_tag fate)) held)
  closed_tops fate entries None made sure = (λ a. a, λ a. a)
  closed_tops fate [] (Some token) made sure = (λ a. absurd (none_some _ a), λ a. absurd (none_some _ a))
  closed_tops fate (top ∷ below) (Some token) made sure = (
    λ a. ap Some (top_real fate top.token token made.0
        (some_same (tagged (fate_tag none) top.token) (tagged (fate_tag none) token) a)),
    λ a. by (top_back fate top.token token made.0
        (some_same (tagged (fate_tag fate) top.token) (tagged (fate_tag fate) token) a)),
  )
    where
      by : (tagged (fate_tag none) top.token ≡ tagged (fate_tag none) token)
          ⊎ IsUnsure (Some (tagged (fate_tag none) top.token)) (tagged (fate_tag none) token) →
          ◌≡◌ {A = Option Token} (Some (tagged (fate_tag none) top.token)) (Some (tagged (fate_tag none) token))
      by (inl same) = ap Some same
      by (inr unsure) = absurd (sure unsure)

  -- a token that may be the top one has a name, and is the top one where its fate is to be right
  record HasName (entries : List StackEntry) (held : Option Token) : Type 0 where
    token : Token
    is : held ≡ Some token
    wrong : is_right token ≡ false
    fates : (fate : ℕ → Bool) (passes : Bool) → (name_of token == 0) ≡ false → fate (name_of token) ≡ passes →
        IsTrue passes ↔ TopIs (top_token (map (tagged_entry (fate_tag fate)) entries))
        (option_map (tagged (fate_tag fate)) held)

  open_tops : (entries : List StackEntry) (held : Option Token) → AreMade told_key entries →
      TopMayBe (top_token (map (tagged_entry (fate_tag none)) entries)) (option_map (tagged (fate_tag none)) held) →
      HasName entries held
  open_tops entries None made unsure = absurd unsure
  open_tops [] (Some token) made unsure = absurd unsure
  open_tops (top ∷ below) (Some token) made unsure =
      let wrong = unsure_named top.token token made.0 unsure in
      record { token = token; is = refl; wrong = wrong; fates = λ fate passes some is. by fate passes some is wrong }
    where
      by : (fate : ℕ → Bool) (passes : Bool) → (name_of token == 0) ≡ false → fate (name_of token) ≡ passes →
          is_right token ≡ false →
          IsTrue passes
          ↔ ◌≡◌ {A = Option Token} (Some (tagged (fate_tag fate) top.token)) (Some (tagged (fate_tag fate) token))
      by fate true some is wrong =
          (λ a. ap Some (fate_right fate top.token token made.0 unsure wrong some is), λ a. refl)
      by fate false some is wrong = (
        λ a. absurd (false≢true a),
        λ a. absurd (fate_wrong fate top.token token made.0 wrong some is
            (some_same (tagged (fate_tag fate) top.token) (tagged (fate_tag fate) token) a)),
      )

  -- where the name of the token that is presented stands then
  abbrev IsSpent : ℕ → HostState → Type 0
  IsSpent name both = ((name == 0) ≡ false) × (lying name both ≡ 0)

  held_one : (running : Option ThreadShape) (token : Token) → held_of running ≡ Some token →
      is_right token ≡ false → running_hits (name_of token) running ≡ 1
  held_one None token is wrong = absurd (none_some token is)
  held_one (Some thread) token is wrong =
      ap (held_hits (name_of token)) is ∙ rw wrong (rw (same_number (name_of token)) refl)

  lgoto_name : (next : ℕ) (letter : Message) (token : Token) →
      lgoto_of (tagged_message (named next) letter) ≡ Some token → name_of token ≡ next
  lgoto_name next (message.Lgoto letter) token is =
      sym (ap name_of (some_same (tagged (named next) letter) token is))
  lgoto_name next (message.Get request field index) token is = absurd (none_some token is)
  lgoto_name next (message.Set request field index value) token is = absurd (none_some token is)
  lgoto_name next (message.Forward request frame variable value) token is = absurd (none_some token is)
  lgoto_name next (message.Sync request frame entry letter) token is = absurd (none_some token is)
  lgoto_name next (message.Rgoto frame entry letter) token is = absurd (none_some token is)
  lgoto_name next (message.RgotoWith frame entry letter riders) token is = absurd (none_some token is)
  lgoto_name next (message.Value request value) token is = absurd (none_some token is)
  lgoto_name next (message.Ack request) token is = absurd (none_some token is)
  lgoto_name next (message.Token request letter) token is = absurd (none_some token is)

  spent : (next : ℕ) (both : HostState) (step : Step) (token : Token) → Names next both →
      presented both (move_of next step) ≡ Some token → is_right token ≡ false → IsSpent (name_of token) both
  spent next both turns token names is wrong =
      let one = held_one both.running token is wrong in
      let few = names.single (name_of token) in
      (by (name_of token == 0) refl one, omega (arith, one, few))
    where
      by : (nil : Bool) → (name_of token == 0) ≡ nil → running_hits (name_of token) both.running ≡ 1 → nil ≡ false
      by false at one = refl
      by true at one =
          let zero_is : name_of token ≡ 0 = grind (arith, nat_tests) in
          let none_there = names.zero_none in
          let here : running_hits 0 both.running ≡ 1 =
          subst (λ name. running_hits name both.running ≡ 1) zero_is one in
          absurd (omega (arith, here, none_there))
  spent next both (takes from letter) token names is wrong =
      let name = lgoto_name next letter token is in
      let none_there = names.fresh next (omega arith) in
      subst (λ name. IsSpent name both) (sym name) (not_zero next names.some, omega (arith, none_there))

  -- ---- one step more

  rests_both : (next : ℕ) (host both : HostState) (step : Step) → Plain next host both → MayMakeStep code host step →
      RestsFor both (move_of next step)
  rests_both next host both turns plain may = tt
  rests_both next host both (takes from letter) plain may =
      let (count, ends, casts) = plain.told in
      none_before (fate_tag none) both.running (sym (ap (λ (h : HostState). h.running) casts) ∙ may.rest)

  both_off : (next : ℕ) (host both : HostState) (step : Step) → Plain next host both →
      takes_off code host (made_of step) ≡ takes_off code both (move_of next step)
  both_off next host both step plain =
      let (count, ends, casts) = plain.told in
      let told : told_of host ≡ told_of both =
      ap told_of casts ∙ ap bare_host (cast_without (fate_tag none) told_key count ends both)
      ∙ cast_bare (fate_tag none) told_key count ends (without_halt both) in
      same_takes_off code host both (made_of step) (move_of next step) told
      (made_bare step ∙ sym (tagged_bare (named next) step))

  run_step : (next : ℕ) (host both last : HostState) (step : Step) (outcome : Outcome) (later : List (List Word)) →
      (plain : Plain next host both) → MayMakeStep code host step → (made : Made host step outcome) →
      AreMade told_key (told_step code both (move_of next step) made.passes).state.entries →
      HasRun (told_step code both (move_of next step) made.passes).state last later →
      HasRun both last (step_words code step ∷ (sent_words code outcome.sent ++ later))
  run_step next host both last step outcome later plain may made left_made run = by made.why
    where
      held : Option Token
      held = presented both (move_of next step)

      goes : (fate : ℕ → Bool) →
          ((ignored : ℕ) (halted : Bool) →
          real fate ignored halted (told_step code both (move_of next step) made.passes).state
          ≡ real run.fate ignored halted (told_step code both (move_of next step) made.passes).state) →
          ((ignored : ℕ) (halted : Bool) →
          IsTrue made.passes ↔ CheckOf code (real fate ignored halted both) (real_of fate next step)) →
          HasRun both last (step_words code step ∷ (sent_words code outcome.sent ++ later))
      goes fate same check =
          step_more next host both last step outcome later made.passes fate plain may made.is run same check

      closed : takes_off code host (made_of step) ≡ true → ¬ MayBeTop host (presented host (made_of step)) →
          IsTrue made.passes ↔ IsTop host (presented host (made_of step)) →
          HasRun both last (step_words code step ∷ (sent_words code outcome.sent ++ later))
      closed off sure check =
          let presents = host_presents next host both step plain in
          let top = host_top next host both plain in
          let sure_too : ¬ TopMayBe (top_token (map (tagged_entry (fate_tag none)) both.entries))
          (option_map (tagged (fate_tag none)) held) =
          subst (λ t. ¬ TopMayBe t (option_map (tagged (fate_tag none)) held)) top
          (subst (λ h. ¬ MayBeTop host h) presents sure) in
          let first : IsTrue made.passes ↔ TopIs (top_token (map (tagged_entry (fate_tag none)) both.entries))
          (option_map (tagged (fate_tag none)) held) =
          subst (λ t. IsTrue made.passes ↔ TopIs t (option_map (tagged (fate_tag none)) held)) top
          (subst (λ h. IsTrue made.passes ↔ IsTop host h) presents check) in
          goes run.fate (λ ignored halted. refl)
          (λ ignored halted. off_real next host both step made.passes run.fate ignored halted plain off
          (both_ways first (closed_tops run.fate both.entries held plain.stack.made sure_too)))

      opened : takes_off code host (made_of step) ≡ true → HasName both.entries held →
          HasRun both last (step_words code step ∷ (sent_words code outcome.sent ++ later))
      opened off has =
          let name = name_of has.token in
          let gone = spent next both step has.token plain.names has.is has.wrong in
          let fate = with_fate run.fate name made.passes in
          let mine : fate name ≡ made.passes =
          ap (λ same. if same then made.passes else run.fate name) (same_number name) in
          let left : told_step code both (move_of next step) made.passes
          ≡ without_message (settled code both made.passes) =
          step_off code both (move_of next step) made.passes (sym (both_off next host both step plain) ∙ off)
          (rests_both next host both step plain may) in
          let few = settled_counts name code both made.passes in
          let lies = gone.1 in
          let none_left : count name (settled code both made.passes) ≡ 0 = omega (arith, few, lies) in
          let none_there : count name (told_step code both (move_of next step) made.passes).state ≡ 0 =
          ap (λ (after : Outcome). count name after.state) left ∙ none_left in
          goes fate
          (λ ignored halted. cast_same run.fate name made.passes ignored halted
          (told_step code both (move_of next step) made.passes).state left_made gone.0 none_there)
          (λ ignored halted. off_real next host both step made.passes fate ignored halted plain off
          (has.fates fate made.passes gone.0 mine))

      may_open : MayBeTop host (presented host (made_of step)) → HasName both.entries held
      may_open unsure =
          open_tops both.entries held plain.stack.made
          (subst (λ t. TopMayBe t (option_map (tagged (fate_tag none)) held)) (host_top next host both plain)
          (subst (λ h. MayBeTop host h) (host_presents next host both step plain) unsure))

      by : ((takes_off code host (made_of step) ≡ false)
          × (IsTrue made.passes ↔ CheckOf code host (made_of step)))
          ⊎ ((takes_off code host (made_of step) ≡ true)
          × (MayBeTop host (presented host (made_of step))
          ⊎ ((¬ MayBeTop host (presented host (made_of step)))
          × (IsTrue made.passes ↔ IsTop host (presented host (made_of step)))))) →
          HasRun both last (step_words code step ∷ (sent_words code outcome.sent ++ later))
      by (inl (off, check)) =
          goes run.fate (λ ignored halted. refl)
          (λ ignored halted. plain_check next host both step made.passes run.fate ignored halted plain off check)
      by (inr (off, inl unsure)) = opened off (may_open unsure)
      by (inr (off, inr (sure, check))) = closed off sure check

  played_run : (steps : List Step) (next : ℕ) (host both last : HostState) (lines : List (List Word)) →
      Plain next host both → ToldPlays code host steps last lines → HasRun both last lines
  played_run [] next host both last lines plain play =
      let (count, ends, casts) = plain.told in
      record {
        fate = none;
        runs = λ ignored halted. (
          [],
          real none ignored halted both,
          (refl, play.1),
          sym (ap (λ (h : HostState). h.rows) casts) ∙ ap (λ (h : HostState). h.rows) play.0,
        );
      }
  played_run (step ∷ steps) next host both last lines plain (outcome, later, may, told, play, whole) =
      let made = made_by host step outcome plain.fits may told in
      let on = plain_on next host both step outcome made.passes plain may told made.is made.syncs in
      let run = played_run steps (suc next) outcome.state (told_step code both (move_of next step) made.passes).state
      last later on play in
      subst (HasRun both last) (sym whole)
      (run_step next host both last step outcome later plain may made on.stack.made run)

  -- ---- the start

  last_stays : (fate : ℕ → Bool) (me : HostId) → tagged (fate_tag fate) (last_token me) ≡ last_token me
  last_stays fate me = by (is_right (last_token me)) refl
    where
      by : (right : Bool) → is_right (last_token me) ≡ right →
          tagged (fate_tag fate) (last_token me) ≡ last_token me
      by true is = right_stays fate (last_token me) is
      by false is = unfated fate (last_token me) is refl

  last_hits : (name : ℕ) (me : HostId) → (name == 0) ≡ false → hits name (last_token me) ≡ 0
  last_hits name me some = by (is_right (last_token me)) (0 == name) refl refl
    where
      by : (right same : Bool) → is_right (last_token me) ≡ right → (0 == name) ≡ same →
          hits name (last_token me) ≡ 0
      by true same is at = rw is refl
      by false false is at = rw is (rw at refl)
      by false true is at =
          absurd (let e : 0 ≡ name = grind (arith, nat_tests) in
          false≢true (sym some ∙ ap (λ n. n == 0) (sym e)))

  abbrev rooted : List (List ℤ) → HostId → Option Entry → HostState
  rooted values me found =
      after_entering (after_push (idle_host code values told_key me) halt main_frame (last_token me)) found main_frame
      (new_token (idle_host code values told_key me) halt main_frame)

  halt_hits : (name : ℕ) (me : HostId) (token : Token) →
      entry_hits name (record { token = token; entry = halt; frame = main_frame; kept = last_token me }) ≡ 0
  halt_hits name me token = by (name == 0) refl
    where
      by : (nil : Bool) → (name == 0) ≡ nil →
          entry_hits name (record { token = token; entry = halt; frame = main_frame; kept = last_token me }) ≡ 0
      by true is = rw is refl
      by false is = rw is (last_hits name me is)

  -- the tags of the start stay, whatever the fates are
  rooted_same : (fate : ℕ → Bool) (values : List (List ℤ)) (me : HostId) (found : Option Entry) →
      rooted values me found ≡ cast (fate_tag fate) told_key 0 false (rooted values me found)
  rooted_same fate values me found =
      sym (ap (λ one. goes found one (tagged (fate_tag fate) (last_token me))) made
      ∙ ap (goes found token) (last_stays fate me)) ∙ same found
    where
      token : Token
      token = new_token (idle_host code values told_key me) halt main_frame

      made : tagged (fate_tag fate) token ≡ token
      made = right_stays fate token (right_is token refl)

      goes : Option Entry → Token → Token → HostState
      goes found one kept =
          let idle = idle_host code values told_key me in
          after_entering (record idle {
            entries = record { token = one; entry = halt; frame = main_frame; kept = kept } ∷ [];
            serials = slice_set idle.serials halt.0 (slice_index idle.serials halt.0 + 1);
          }) found main_frame one

      same : (found : Option Entry) →
          goes found (tagged (fate_tag fate) token) (tagged (fate_tag fate) (last_token me))
          ≡ cast (fate_tag fate) told_key 0 false (rooted values me found)
      same None = refl
      same (Some entry) = refl

  rooted_plain : (values : List (List ℤ)) (me : HostId) (found : Option Entry) →
      StateFits code (rooted values me found) → Plain 1 (rooted values me found) (rooted values me found)
  rooted_plain values me found fits = record {
    told = (0, false, rooted_same none values me found);
    stack = has_stack found;
    fits = fits;
    names = record {
      single = λ name. let none_there = nothing name found in omega (arith, none_there);
      zero_none = nothing 0 found;
      fresh = λ name past. nothing name found;
      some = omega arith;
    };
  }
    where
      token : Token
      token = new_token (idle_host code values told_key me) halt main_frame

      has_stack : (found : Option Entry) → HasStack told_key (rooted values me found)
      has_stack None = record { key_is = refl; made = (refl, tt); low = tt }
      has_stack (Some entry) = record { key_is = refl; made = (refl, tt); low = tt }

      nothing : (name : ℕ) (found : Option Entry) → count name (rooted values me found) ≡ 0
      nothing name None = let zero_kept = halt_hits name me token in omega (arith, zero_kept)
      nothing name (Some entry) =
          let zero_kept = halt_hits name me token in
          let zero_held : hits name token ≡ 0 = rw (right_is token refl) refl in
          omega (arith, zero_kept, zero_held)

  start_same : (fate : ℕ → Bool) (values : List (List ℤ)) (me : HostId) →
      host_at_start code values told_key me
      ≡ cast (fate_tag fate) told_key 0 false (host_at_start code values told_key me)
  start_same fate values me = by (me.0 == code.root.0) refl
    where
      by : (root : Bool) → (me.0 == code.root.0) ≡ root →
          host_at_start code values told_key me
          ≡ cast (fate_tag fate) told_key 0 false (host_at_start code values told_key me)
      by true is = rw is (rooted_same fate values me (entry_at code code.main))
      by false is = rw is refl

  start_plain : (values : List (List ℤ)) (me : HostId) → IsHost code me →
      Plain 1 (host_at_start code values told_key me) (host_at_start code values told_key me)
  start_plain values me there = by (me.0 == code.root.0) refl
    where
      fits : StateFits code (host_at_start code values told_key me)
      fits = fields.start_fits code sound own values told_key me there

      by : (root : Bool) → (me.0 == code.root.0) ≡ root →
          Plain 1 (host_at_start code values told_key me) (host_at_start code values told_key me)
      by true is =
          let rooted_fits : StateFits code (rooted values me (entry_at code code.main)) = rw is at fits in
          rw is (rooted_plain values me (entry_at code code.main) rooted_fits)
      by false is =
          let idle_fits : StateFits code (idle_host code values told_key me) = rw is at fits in
          rw is (record {
            told = (0, false, refl);
            stack = record { key_is = refl; made = tt; low = tt };
            fits = idle_fits;
            names = record {
              single = λ name. omega arith;
              zero_none = refl;
              fresh = λ name past. refl;
              some = omega arith;
            };
          })

  -- some run of a real host has the lines that were played, and leaves the fields
  pub real_run : (values : List (List ℤ)) (me : HostId) (lines : List (List Word)) (shown : HostState) →
      IsHost code me → IsPlayed code (host_at_start code values told_key me) lines shown →
      (steps : List Step) × (last : HostState)
      × IsJournalOf code (host_at_start code values told_key me) lines steps last × (last.rows ≡ shown.rows)
  real_run values me lines shown there (steps, all, play, noted) =
      let start = host_at_start code values told_key me in
      let run = played_run steps 1 start start shown all (start_plain values me there) play in
      let (made, end, plays, rows) = run.runs 0 false in (
        made,
        end,
        (all, subst (λ h. Plays code h made end all) (sym (start_same run.fate values me)) plays, noted),
        rows,
      )
