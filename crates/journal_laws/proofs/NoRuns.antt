-- A host that was played and does not go on by a line stands for all hosts: none has the lines so far and this one.
use Rattle.std.proofs.Common.{◌≡◌, ◌≢◌, ◌∙◌, ◌⊎◌, Bool, true, false, ℕ, ℤ, refl, ap, sym, subst, List, [], ◌∷◌}
use Rattle.std.proofs.Common.{◌++◌, append_assoc, inl, inr}
use Rattle.std.proofs.lemmas.List.{append_cancel_left}
use Rattle.std.specs.Prelude.{Option, Some, None, IsSome, slice_index, slice_set, ◌==◌, ◌+◌, ⊤}
use Rattle.std.specs.Option.{option_map}
use Rattle.std.proofs.lemmas.Bool.{false≢true}
use Rattle.js_base.specs.declared.ids.HostId.{HostId}
use Rattle.capability.specs.declared.token.Token.{Token}
use Rattle.host_code.specs.declared.message.Message.{Message}
use Rattle.host_code.specs.declared.code.Entry.{Entry}
use Rattle.host_code.specs.Code.{CodeShape, entry_at, halt}
use Rattle.host_code.specs.Sound.{IsHost, IsOther, IsSoundCode}
use Rattle.host_code.specs.Thread.{ThreadShape}
use Rattle.host_core.specs.Fits.{StateFits}
use Rattle.host_core.specs.Host.{HostState, Outcome, after_entering, after_push, new_token, thread_at}
use Rattle.host_core.specs.Start.{host_at_start, idle_host, last_token, main_frame}
use Rattle.host_core.specs.Told.{told_key}
use Rattle.event_text.specs.Words.{Word}
use Rattle.journal_laws.specs.Bare.{bare_thread}
use Rattle.event_text.specs.JournalText.{IsSendLine, sent_words}
use Rattle.journal_laws.specs.Plays.{AreNotedOf, HaveOwnNames, IsJournalOf, MayMakeStep, Plays, step_words}
use Rattle.journal_laws.specs.Steps.{Step, turns, takes}
use Rattle.journal_laws.specs.ToldPlays.{ByNext, HasNoStep, IsBarred, IsChosenStep, IsPlayedBefore, IsToldStep}
use Rattle.journal_laws.specs.ToldPlays.{PlaysLast, ToldPlays}
use Rattle.journal_laws.proofs.AlikeSteps.{ArePart}
use Rattle.journal_laws.proofs.KeptStacks.{HasStack}
use Rattle.journal_laws.proofs.OwnTags.{marked, real_has, real_marked, real_tag}
use Rattle.journal_laws.proofs.OwnTags.{told_has, told_tag}
use Rattle.journal_laws.proofs.Retagged.{IsCast, cast}
use Rattle.journal_laws.proofs.Retagged.{tagged}
use Rattle.journal_laws.proofs.SameChecks.{told_of}
use Rattle.journal_laws.proofs.SameFields as fields
use Rattle.journal_laws.proofs.WithoutHalt.{without_halt}
use Rattle.journal_laws.proofs.FollowedSteps as followed

module _ (code : CodeShape) (sound : IsSoundCode code) (own : HaveOwnNames code) where
  abbrev Follows : List ℕ → HostState → HostState → Type 0
  Follows key host real = followed.Follows code sound own key host real

  abbrev Parted : (Bool → Type 0) → Outcome → Outcome → Type 0
  Parted chosen outcome beside = followed.Parted code sound own chosen outcome beside

  -- ---- the start

  abbrev rooted : List (List ℤ) → List ℕ → HostId → Option Entry → HostState
  rooted values key me found =
      after_entering (after_push (idle_host code values key me) halt main_frame (last_token me)) found main_frame
      (new_token (idle_host code values key me) halt main_frame)

  -- the third host, where the token that is kept with the entry that ends the program is marked
  abbrev both_rooted : List (List ℤ) → HostId → Option Entry → HostState
  both_rooted values me found =
      after_entering
      (after_push (idle_host code values told_key me) halt main_frame (tagged marked (last_token me))) found main_frame
      (new_token (idle_host code values told_key me) halt main_frame)

  rooted_follows : (values : List (List ℤ)) (me : HostId) (key : List ℕ) (found : Option Entry) →
      StateFits code (rooted values told_key me found) → StateFits code (rooted values key me found) →
      Follows key (rooted values told_key me found) (rooted values key me found)
  rooted_follows values me key found fits fits_real = record {
    both = both_rooted values me found;
    told = told_part found;
    casts = (
      0,
      false,
      ap (λ token. goes found token (last_token me)) made
          ∙ ap (goes found (tagged (real_tag key) token)) (sym (real_marked key (last_token me)))
          ∙ same found,
    );
    stack = stack_part found;
    stack_both = both_part found;
    fits = fits;
    fits_real = fits_real;
  }
    where
      token : Token
      token = new_token (idle_host code values told_key me) halt main_frame

      serial : ℕ
      serial = slice_index (idle_host code values told_key me).serials halt.0

      made : new_token (idle_host code values key me) halt main_frame ≡ tagged (real_tag key) token
      made = ap (λ tag. record token { tag = tag }) (sym (real_has key me main_frame halt serial))

      made_told : token ≡ tagged told_tag token
      made_told = ap (λ tag. record token { tag = tag }) (sym (told_has me main_frame halt serial))

      goes : Option Entry → Token → Token → HostState
      goes found one kept =
          let idle = idle_host code values key me in
          after_entering (record idle {
            entries = record { token = one; entry = halt; frame = main_frame; kept = kept } ∷ [];
            serials = slice_set idle.serials halt.0 (slice_index idle.serials halt.0 + 1);
          }) found main_frame one

      same : (found : Option Entry) →
          goes found (tagged (real_tag key) token) (tagged (real_tag key) (tagged marked (last_token me)))
          ≡ cast (real_tag key) key 0 false (both_rooted values me found)
      same None = refl
      same (Some entry) = refl

      told_part : (found : Option Entry) →
          IsCast told_tag told_key (without_halt (rooted values told_key me found))
          (without_halt (both_rooted values me found))
      told_part None = (0, false, refl)
      told_part (Some entry) = (
        0,
        false,
        ap (λ one. record (without_halt (rooted values told_key me (Some entry))) {
          running = Some (thread_at entry main_frame one);
        }) made_told,
      )

      stack_part : (found : Option Entry) → HasStack told_key (rooted values told_key me found)
      stack_part None = record { key_is = refl; made = (refl, tt); low = tt }
      stack_part (Some entry) = record { key_is = refl; made = (refl, tt); low = tt }

      both_part : (found : Option Entry) → HasStack told_key (both_rooted values me found)
      both_part None = record { key_is = refl; made = (refl, tt); low = tt }
      both_part (Some entry) = record { key_is = refl; made = (refl, tt); low = tt }

  start_follows : (values : List (List ℤ)) (me : HostId) (key : List ℕ) → IsHost code me →
      Follows key (host_at_start code values told_key me) (host_at_start code values key me)
  start_follows values me key there = by (me.0 == code.root.0) refl
    where
      fits : (key : List ℕ) → StateFits code (host_at_start code values key me)
      fits key = fields.start_fits code sound own values key me there

      by : (root : Bool) → (me.0 == code.root.0) ≡ root →
          Follows key (host_at_start code values told_key me) (host_at_start code values key me)
      by true is =
          let first : StateFits code (rooted values told_key me (entry_at code code.main)) = rw is at (fits told_key) in
          let second : StateFits code (rooted values key me (entry_at code code.main)) = rw is at (fits key) in
          rw is (rooted_follows values me key (entry_at code code.main) first second)
      by false is =
          let first : StateFits code (idle_host code values told_key me) = rw is at (fits told_key) in
          let second : StateFits code (idle_host code values key me) = rw is at (fits key) in
          rw is (record {
            both = idle_host code values told_key me;
            told = (0, false, refl);
            casts = (0, false, refl);
            stack = record { key_is = refl; made = tt; low = tt };
            stack_both = record { key_is = refl; made = tt; low = tt };
            fits = first;
            fits_real = second;
          })

  -- ---- whole plays

  told_chosen : (host : HostState) (step : Step) (outcome : Outcome) → IsToldStep code host step outcome →
      IsChosenStep (λ passes. ⊤) code host step outcome
  told_chosen host turns outcome (inl (passes, unsure, is)) = inl (passes, tt, unsure, is)
  told_chosen host turns outcome (inr closed) = inr closed
  told_chosen host (takes from letter) outcome (inl (passes, unsure, is)) = inl (passes, tt, unsure, is)
  told_chosen host (takes from letter) outcome (inr closed) = inr closed

  parted_apart : (chosen : Bool → Type 0) (outcome beside : Outcome) → Parted chosen outcome beside →
      ArePart outcome.state beside.state
  parted_apart chosen outcome beside parted = by parted.part
    where
      by : ((parted.passes ≡ true) × IsSome outcome.state.running × (beside.state.running ≡ None))
          ⊎ ((parted.passes ≡ false) × (outcome.state.running ≡ None) × IsSome beside.state.running) →
          ArePart outcome.state beside.state
      by (inl (passes, runs, rests)) = inr (runs, rests)
      by (inr (passes, rests, runs)) = inl (rests, runs)

  abbrev rest_of : List (List Word) → List (List Word)
  rest_of [] = []
  rest_of (line ∷ lines) = lines

  abbrev first_or : List Word → List (List Word) → List Word
  first_or none [] = none
  first_or none (line ∷ lines) = line

  none_left : (line : List Word) (lines others : List (List Word)) → others ≡ [] → others ≡ line ∷ lines → ⊥
  none_left line lines others none is =
      let clash : ◌≡◌ {A = List (List Word)} [] (line ∷ lines) = sym none ∙ is in cc

  -- what is left of the lines of both, behind what was sent alike
  behind_same : (sent told : List (List Word)) (later after rest : List (List Word)) → sent ≡ told →
      told ++ after ≡ (sent ++ later) ++ rest → after ≡ later ++ rest
  behind_same sent told later after rest same is =
      append_cancel_left sent after (later ++ rest)
      (ap (λ (front : List (List Word)). front ++ after) same ∙ is ∙ append_assoc sent later rest)

  -- the state of the real host behind the same lines, and what is left of its run
  record GoesOn (key : List ℕ) (last : HostState) (end : HostState) (left : List (List Word)) : Type 0 where
    real : HostState
    others : List Step
    plays : Plays code real others end left
    stands : Follows key last real ⊎ ArePart last real

  parted_stops : (host real : HostState) (step : Step) (steps others : List Step) (last end : HostState)
      (lines more rest : List (List Word)) → ArePart host real → ToldPlays code host (step ∷ steps) last lines →
      Plays code real others end more → more ≡ lines ++ rest → ⊥
  parted_stops host real step steps [] last end lines more rest part (outcome, later, may, is, play, whole) go left =
      none_left _ _ more go.1 (left ∙ ap (λ (front : List (List Word)). front ++ rest) whole)
  parted_stops host real step steps (another ∷ others) last end lines more rest part
      (outcome, later, may, is, play, whole) (beside, after, also, made, go, all) left =
      fields.no_line code sound own host real step another part may also
      (sym (ap (first_or []) (sym all ∙ left ∙ ap (λ (front : List (List Word)). front ++ rest) whole)))

  -- hosts that part make no step more
  apart : (key : List ℕ) (steps others : List Step) (host real last end : HostState)
      (lines more rest : List (List Word)) → ArePart host real → ToldPlays code host steps last lines →
      Plays code real others end more → more ≡ lines ++ rest → GoesOn key last end rest
  apart key [] others host real last end lines more rest part plays go left = record {
    real = real;
    others = others;
    plays = subst (Plays code real others end) (left ∙ ap (λ (front : List (List Word)). front ++ rest) plays.1) go;
    stands = inr (subst (λ h. ArePart h real) plays.0 part);
  }
  apart key (step ∷ steps) others host real last end lines more rest part plays go left =
      absurd (parted_stops host real step steps others last end lines more rest part plays go left)

  along : (key : List ℕ) (steps others : List Step) (host real last end : HostState)
      (lines more rest : List (List Word)) → Follows key host real → ToldPlays code host steps last lines →
      Plays code real others end more → more ≡ lines ++ rest → GoesOn key last end rest
  along key [] others host real last end lines more rest follows plays go left =
      record {
        real = real;
        others = others;
        plays = subst (Plays code real others end) (left ∙ ap (λ (front : List (List Word)). front ++ rest) plays.1) go;
        stands = inl (subst (λ h. Follows key h real) plays.0 follows);
      }
  along key (step ∷ steps) [] host real last end lines more rest follows
      (outcome, later, may, is, play, whole) go left =
      absurd (none_left _ _ more go.1 (left ∙ ap (λ (front : List (List Word)). front ++ rest) whole))
  along key (step ∷ steps) (another ∷ others) host real last end lines more rest follows
      (outcome, later, may, is, play, whole) (beside, after, also, made, go, all) left =
      let lines_are = sym all ∙ left ∙ ap (λ (front : List (List Word)). front ++ rest) whole in
      let words : step_words code step ≡ step_words code another = sym (ap (first_or []) lines_are) in
      let alike = fields.same_steps code sound own host real step another may also words in
      let tails = ap rest_of lines_are in
      elim (followed.meets code sound own key host real step another (λ passes. ⊤) outcome beside follows may also alike
      (told_chosen host step outcome is) made) [
        | inl on ↦
            along key steps others outcome.state beside.state last end later after rest on.0 play go
            (behind_same (sent_words code outcome.sent) (sent_words code beside.sent) later after rest
            (fields.said_alike code sound own outcome.sent beside.sent on.1) tails)
        | inr parted ↦
            apart key steps others outcome.state beside.state last end later after rest
            (parted_apart (λ passes. ⊤) outcome beside parted) play go
            (behind_same (sent_words code outcome.sent) (sent_words code beside.sent) later after rest
            (ap (sent_words code) (parted.silent ∙ sym parted.silent_too)) tails)
      ]

  -- ---- no run

  -- where no thread of the one runs, none of the other does
  rest_told : (host real : HostState) → told_of host ≡ told_of real → real.running ≡ None → host.running ≡ None
  rest_told host real same none =
      by host.running (ap (λ (h : HostState). h.running) same ∙ ap (option_map bare_thread) none)
    where
      by : (running : Option ThreadShape) → option_map bare_thread running ≡ None → running ≡ None
      by None is = refl
      by (Some thread) is = absurd cc

  runs_told : (host real : HostState) → told_of host ≡ told_of real → IsSome real.running → IsSome host.running
  runs_told host real same runs = by host.running refl
    where
      by : (running : Option ThreadShape) → host.running ≡ running → IsSome running
      by (Some thread) is = refl
      by None is = absurd (fields.none_runs code sound own real runs (rest_told real host (sym same) is))

  -- the played host may make the step that the real one makes
  may_too : (key : List ℕ) (host real : HostState) (step : Step) → Follows key host real → MayMakeStep code real step →
      MayMakeStep code host step
  may_too key host real turns follows may =
      runs_told host real (followed.same_told_of code sound own key host real follows) may
  may_too key host real (takes from letter) follows may =
      let same = followed.same_told_of code sound own key host real follows in
      record {
        rest = rest_told host real same may.rest;
        other = subst (λ me. IsOther code me from) (sym (ap (λ (h : HostState). h.me) same)) may.other;
        fits = may.fits;
        real = may.real;
      }

  -- a host that makes no step of the line stands for a real one which goes on as it did
  no_step : (key : List ℕ) (host real : HostState) (others : List Step) (end : HostState) (line : List Word)
      (more behind : List (List Word)) → Follows key host real → HasNoStep code host line →
      Plays code real others end more → more ≡ line ∷ behind → ⊥
  no_step key host real [] end line more behind follows none go is = none_left line behind more go.1 is
  no_step key host real (another ∷ others) end line more behind follows none
      (beside, after, also, made, go, all) is =
      none another (may_too key host real another follows also) (ap (first_or []) (sym is ∙ all))

  -- nor does one go on from which it parted as the line told
  no_parting : (outcome beside : Outcome) (others : List Step) (end : HostState) (line : List Word)
      (more behind : List (List Word)) → Parted (ByNext (line ∷ [])) outcome beside →
      Plays code beside.state others end more → more ≡ line ∷ behind → ⊥
  no_parting outcome beside [] end line more behind parted go is = none_left line behind more go.1 is
  no_parting outcome beside (another ∷ others) end line more behind parted (third, after, also, made, go, all) is =
      by another also (ap (first_or []) (sym is ∙ all)) parted.part
    where
      by : (step : Step) → MayMakeStep code beside.state step → line ≡ step_words code step →
          (((parted.passes ≡ true) × IsSome outcome.state.running × (beside.state.running ≡ None))
          ⊎ ((parted.passes ≡ false) × (outcome.state.running ≡ None) × IsSome beside.state.running)) → ⊥
      by turns may words (inl (passes, runs, rests)) = fields.none_runs code sound own beside.state may rests
      by turns may words (inr (passes, rests, runs)) = false≢true (sym passes ∙ parted.why.1 words)
      by (takes from letter) may words (inl (passes, runs, rests)) =
          fields.turn_line code from letter (sym (parted.why.0 passes) ∙ words)
      by (takes from letter) may words (inr (passes, rests, runs)) =
          fields.none_runs code sound own beside.state runs may.rest

  last_makes : (key : List ℕ) (start real last end : HostState) (others : List Step) (front : List (List Word))
      (line : List Word) (more behind : List (List Word)) → (played : PlaysLast code start front (line ∷ []) last) →
      Follows key played.before real ⊎ ArePart played.before real → HasNoStep code last line →
      Plays code real others end more →
      more ≡ step_words code played.step ∷ (sent_words code played.sent ++ line ∷ behind) → ⊥
  last_makes key start real last end [] front line more behind played how none go is =
      none_left _ _ more go.1 is
  last_makes key start real last end (another ∷ others) front line more behind played (inr part) none
      (beside, after, also, made, go, all) is =
      fields.no_line code sound own played.before real played.step another part played.may also
      (sym (ap (first_or []) (sym all ∙ is)))
  last_makes key start real last end (another ∷ others) front line more behind played (inl follows) none
      (beside, after, also, made, go, all) is =
      let outcome : Outcome = record { state = last; sent = played.sent } in
      let lines_are = sym all ∙ is in
      let words : step_words code played.step ≡ step_words code another = sym (ap (first_or []) lines_are) in
      let alike = fields.same_steps code sound own played.before real played.step another played.may also words in
      let tails = ap rest_of lines_are in
      elim (followed.meets code sound own key played.before real played.step another (ByNext (line ∷ [])) outcome beside
      follows played.may also
      alike played.is made) [
        | inl on ↦
            no_step key last beside.state others end line after behind on.0 none go
            (append_cancel_left (sent_words code played.sent) after (line ∷ behind)
            (ap (λ (words : List (List Word)). words ++ after)
            (fields.said_alike code sound own played.sent beside.sent on.1) ∙ tails))
        | inr parted ↦
            no_parting outcome beside others end line after behind parted go
            (append_cancel_left (sent_words code played.sent) after (line ∷ behind)
            (ap (λ (words : List (List Word)). words ++ after)
            (ap (sent_words code) (parted.silent ∙ sym parted.silent_too)) ∙ tails))
      ]

  no_line_more : (key : List ℕ) (start real last end : HostState) (others : List Step) (front : List (List Word))
      (line : List Word) (more behind : List (List Word)) → Follows key start real →
      IsPlayedBefore code start front (line ∷ []) last → HasNoStep code last line →
      Plays code real others end more → more ≡ front ++ line ∷ behind → ⊥
  no_line_more key start real last end others front line more behind follows (inl (empty, same)) none go is =
      no_step key last real others end line more behind (subst (λ h. Follows key h real) same follows) none go
      (is ∙ ap (λ (lines : List (List Word)). lines ++ line ∷ behind) empty)
  no_line_more key start real last end others front line more behind follows (inr played) none go is =
      let sent = sent_words code played.sent in
      let rest = step_words code played.step ∷ (sent ++ line ∷ behind) in
      let left : more ≡ played.front ++ rest =
      is ∙ ap (λ (lines : List (List Word)). lines ++ line ∷ behind) played.lines_are
      ∙ append_assoc played.front (step_words code played.step ∷ sent) (line ∷ behind) in
      let goes = along key played.steps others start real played.before end played.front more rest follows played.plays
      go left in
      last_makes key start goes.real last end goes.others front line rest behind played goes.stands none goes.plays refl

  -- ---- what was sent has another line

  empty_front : (front : List (List Word)) (line : List Word) (rest : List (List Word)) →
      ◌≡◌ {A = List (List Word)} [] (front ++ line ∷ rest) → ⊥
  empty_front [] line rest is = cc
  empty_front (first ∷ front) line rest is = cc

  -- behind a line that was sent alike
  other_sent : (sent told : Option (HostId × Message)) (front later after behind : List (List Word))
      (said line : List Word) → line ≢ said → sent_words code sent ≡ sent_words code told →
      sent_words code sent ++ later ≡ front ++ said ∷ [] → sent_words code told ++ after ≡ front ++ line ∷ behind →
      (rest : List (List Word)) × (later ≡ rest ++ said ∷ []) × (after ≡ rest ++ line ∷ behind)
  other_sent None told front later after behind said line other same is also =
      (front, is, ap (λ (words : List (List Word)). words ++ after) same ∙ also)
  other_sent (Some sent) told [] later after behind said line other same is also =
      absurd (other (sym (ap (first_or []) (ap (λ (words : List (List Word)). words ++ after) same ∙ also))
      ∙ ap (first_or []) is))
  other_sent (Some sent) told (first ∷ front) later after behind said line other same is also =
      (front, ap rest_of is, ap rest_of (ap (λ (words : List (List Word)). words ++ after) same ∙ also))

  unsaid_apart : (steps others : List Step) (host real last end : HostState)
      (lines more front behind : List (List Word)) (said line : List Word) → ArePart host real →
      ToldPlays code host steps last lines → lines ≡ front ++ said ∷ [] → IsSendLine said →
      Plays code real others end more → more ≡ front ++ line ∷ behind → ⊥
  unsaid_apart [] others host real last end lines more front behind said line part plays is sends go also =
      empty_front front said [] (sym plays.1 ∙ is)
  unsaid_apart (step ∷ steps) others host real last end lines more [] behind said line part
      (outcome, later, may, made, play, whole) is sends go also =
      fields.step_line code step (subst IsSendLine (sym (ap (first_or []) (sym whole ∙ is))) sends)
  unsaid_apart (step ∷ steps) [] host real last end lines more (first ∷ front) behind said line part plays is sends
      go also = none_left _ _ more go.1 also
  unsaid_apart (step ∷ steps) (another ∷ others) host real last end lines more (first ∷ front) behind said line part
      (outcome, later, may, told, play, whole) is sends (beside, after, too, made, go, all) also =
      fields.no_line code sound own host real step another part may too
      (ap (first_or []) (sym whole ∙ is) ∙ sym (ap (first_or []) (sym all ∙ also)))

  unsaid : (key : List ℕ) (steps others : List Step) (host real last end : HostState)
      (lines more front behind : List (List Word)) (said line : List Word) → Follows key host real →
      ToldPlays code host steps last lines → lines ≡ front ++ said ∷ [] → IsSendLine said → line ≢ said →
      Plays code real others end more → more ≡ front ++ line ∷ behind → ⊥
  unsaid key [] others host real last end lines more front behind said line follows plays is sends other go also =
      empty_front front said [] (sym plays.1 ∙ is)
  unsaid key (step ∷ steps) others host real last end lines more [] behind said line follows
      (outcome, later, may, made, play, whole) is sends other go also =
      fields.step_line code step (subst IsSendLine (sym (ap (first_or []) (sym whole ∙ is))) sends)
  unsaid key (step ∷ steps) [] host real last end lines more (first ∷ front) behind said line follows plays is sends
      other go also = none_left _ _ more go.1 also
  unsaid key (step ∷ steps) (another ∷ others) host real last end lines more (first ∷ front) behind said line follows
      (outcome, later, may, told, play, whole) is sends other (beside, after, too, made, go, all) also =
      let lines_are = sym whole ∙ is in
      let more_are = sym all ∙ also in
      let words : step_words code step ≡ step_words code another =
      ap (first_or []) lines_are ∙ sym (ap (first_or []) more_are) in
      let alike = fields.same_steps code sound own host real step another may too words in
      elim (followed.meets code sound own key host real step another (λ passes. ⊤) outcome beside follows may too alike
      (told_chosen host step outcome told) made) [
        | inl on ↦
            let (rest, left, right) =
            other_sent outcome.sent beside.sent front later after behind said line other
            (fields.said_alike code sound own outcome.sent beside.sent on.1) (ap rest_of lines_are)
            (ap rest_of more_are) in
            unsaid key steps others outcome.state beside.state last end later after rest behind said line on.0 play left
            sends other go right
        | inr parted ↦
            let (rest, left, right) =
            other_sent outcome.sent beside.sent front later after behind said line other
            (ap (sent_words code) (parted.silent ∙ sym parted.silent_too)) (ap rest_of lines_are)
            (ap rest_of more_are) in
            unsaid_apart steps others outcome.state beside.state last end later after rest behind said line
            (parted_apart (λ passes. ⊤) outcome beside parted) play left sends go right
      ]

  -- ---- no host has the lines and this one

  more_behind : (front all : List (List Word)) (line : List Word) → AreNotedOf (front ++ line ∷ []) all →
      (behind : List (List Word)) × (all ≡ front ++ line ∷ behind)
  more_behind front all line (inl whole) = ([], sym whole)
  more_behind front all line (inr (sent, is, whole)) =
      (sent ∷ [], whole ∙ append_assoc front (line ∷ []) (sent ∷ []))

  pub barred : (values : List (List ℤ)) (me : HostId) (key : List ℕ) (front : List (List Word)) (line : List Word)
      (steps : List Step) (last : HostState) → IsHost code me →
      IsBarred code (host_at_start code values told_key me) front line →
      IsJournalOf code (host_at_start code values key me) (front ++ line ∷ []) steps last → ⊥
  barred values me key front line steps last there (inl (shown, played, none)) (all, plays, noted) =
      let (behind, is) = more_behind front all line noted in
      no_line_more key (host_at_start code values told_key me) (host_at_start code values key me) shown last steps front
      line all behind (start_follows values me key there) played none plays is
  barred values me key front line steps last there (inr (told, shown, said, play, sends, other)) (all, plays, noted) =
      let (behind, is) = more_behind front all line noted in
      unsaid key told steps (host_at_start code values told_key me) (host_at_start code values key me) shown last
      (front ++ said ∷ []) all front behind said line (start_follows values me key there) play refl sends other plays is
