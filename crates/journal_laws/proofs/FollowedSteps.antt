-- A played host and a real one go the same way, but for the entry that ends the program. Both are a third host with
-- other tags, which makes the steps of the real one. So a token that is right on the played host, as the host made it
-- and never gave it away, is right on the real one.
use Rattle.std.proofs.Common.{◌≡◌, ◌∙◌, ◌⊎◌, ◌↔◌, Bool, true, false, ℕ, refl, ap, sym, subst, List, [], ◌∷◌}
use Rattle.std.proofs.Common.{inl, inr}
use Rattle.std.specs.Prelude.{Option, Some, None, IsSome, IsTrue, All, map, filter}
use Rattle.std.specs.Option.{option_map}
use Rattle.std.proofs.lemmas.Bool.{false≢true}
use Rattle.std.proofs.lemmas.List.Elements.{All-head}
use Rattle.capability.specs.declared.token.Token.{Token}
use Rattle.ics_stack.specs.declared.stack.StackEntry.{StackEntry}
use Rattle.ics_stack.specs.Stack.{top_token}
use Rattle.host_code.specs.Code.{CodeShape}
use Rattle.host_code.specs.Sound.{IsHost, IsSoundCode}
use Rattle.host_code.specs.Thread.{ThreadShape}
use Rattle.host_core.specs.Fits.{StackEntryFits, IsEntryOf, StateFits}
use Rattle.host_core.specs.Host.{HostState, Outcome, with_running}
use Rattle.host_core.specs.Host.{without_message}
use Rattle.host_core.specs.Told.{settled, told_key, with_wrong_tags}
use Rattle.journal_laws.specs.Bare.{bare_host, bare_sent}
use Rattle.journal_laws.specs.Plays.{HaveOwnNames, MayMakeStep}
use Rattle.journal_laws.specs.Steps.{Step, turns, takes, IsStepOfHost, bare_step, told_step}
use Rattle.journal_laws.specs.ToldPlays.{IsChosenStep, IsToldStep}
use Rattle.journal_laws.proofs.AlikeSteps.{open_taken, open_turned}
use Rattle.journal_laws.proofs.KeptStacks.{AreMade, HasStack, IsMade, stack_kept}
use Rattle.journal_laws.proofs.OffAgain.{IsStepBy, IsTop, MayBeTop, StepSyncs, check_told, first_lasting, off_check}
use Rattle.journal_laws.proofs.OffAgain.{presented, presented_cast, started}
use Rattle.journal_laws.proofs.OffAgain.{step_by, step_off, step_without, still, still_ignored}
use Rattle.journal_laws.proofs.OffAgain.{HasTop, top_or_none}
use Rattle.journal_laws.proofs.OwnTags.{marked, real_has, real_tag}
use Rattle.journal_laws.proofs.OwnTags.{told_has, told_tag}
use Rattle.journal_laws.proofs.Retagged.{AreCast, HasTags, IsCast, cast, cast_bare, cast_without, popped}
use Rattle.journal_laws.proofs.Retagged.{sent_bare, step_cast, tagged, tagged_entry, tagged_step}
use Rattle.journal_laws.proofs.Retagged.{tagged_thread}
use Rattle.journal_laws.proofs.SameChecks.{CheckOf, same_takes_off, same_value, takes_off, told_of}
use Rattle.journal_laws.proofs.SameFields as fields
use Rattle.journal_laws.proofs.TakenOff.{HasStarted, RestsFor}
use Rattle.journal_laws.proofs.WithoutHalt.{halt_left_out, is_lasting, without_halt}
use Rattle.journal_laws.proofs.AlikeMoves.{made_of, made_told, made_real, made_bare, marked_bare, chosen_told}
use Rattle.journal_laws.proofs.AlikeMoves.{rests_made, off_syncs, check_syncs, marked_syncs, pushes, both_ways, IsOff}
use Rattle.journal_laws.proofs.AlikeMoves.{off_of, agree}

module _ (code : CodeShape) (sound : IsSoundCode code) (own : HaveOwnNames code) where
  -- ---- a played host and a real one

  pub record Follows (key : List ℕ) (host real : HostState) : Type 0 where
    pub both : HostState
    pub told : IsCast told_tag told_key (without_halt host) (without_halt both)
    pub casts : IsCast (real_tag key) key real both
    pub stack : HasStack told_key host
    pub stack_both : HasStack told_key both
    pub fits : StateFits code host
    pub fits_real : StateFits code real

  pub both_told : (key : List ℕ) (host real : HostState) → (follows : Follows key host real) →
      told_of follows.both ≡ told_of real
  both_told key host real follows =
      let (ignored, halted, is) = follows.casts in
      sym (cast_bare (real_tag key) key ignored halted (without_halt follows.both))
      ∙ ap bare_host (sym (cast_without (real_tag key) key ignored halted follows.both))
      ∙ ap told_of (sym is)

  pub same_told_of : (key : List ℕ) (host real : HostState) → Follows key host real → told_of host ≡ told_of real
  same_told_of key host real follows =
      let (ignored, halted, is) = follows.told in
      ap bare_host is ∙ cast_bare told_tag told_key ignored halted (without_halt follows.both)
      ∙ both_told key host real follows

  pub me_of_both : (key : List ℕ) (host real : HostState) → (follows : Follows key host real) →
      real.me ≡ follows.both.me
  me_of_both key host real follows = let (ignored, halted, is) = follows.casts in ap (λ (h : HostState). h.me) is

  -- the real step, which the third host makes with it
  pub real_cast : (key : List ℕ) (host real : HostState) (another : Step) (beside : Outcome) (passes : Bool) →
      (follows : Follows key host real) → told_step code real another passes ≡ beside →
      AreCast (real_tag key) key beside (told_step code follows.both (tagged_step marked another) passes)
  real_cast key host real another beside passes follows is =
      let (ignored, halted, casts) = follows.casts in
      let left = told_step code follows.both (tagged_step marked another) passes in
      let has : HasTags (real_tag key) follows.both.key key =
      subst (λ made. HasTags (real_tag key) made key) (sym follows.stack_both.key_is) (real_has key) in
      subst (λ outcome. AreCast (real_tag key) key outcome left)
      (ap (λ h. told_step code h (tagged_step (real_tag key) (tagged_step marked another)) passes) (sym casts)
      ∙ ap (λ step. told_step code real step passes) (made_real key another) ∙ is)
      (step_cast (real_tag key) key code ignored halted follows.both (tagged_step marked another) passes has)

  pub both_stack : (key : List ℕ) (host real : HostState) (another : Step) (passes : Bool) →
      (follows : Follows key host real) → StepSyncs another passes →
      HasStack told_key (told_step code follows.both (tagged_step marked another) passes).state
  both_stack key host real another passes follows syncs =
      stack_kept code told_key follows.both (tagged_step marked another) passes
      (pushes code follows.both (tagged_step marked another) passes sound
      (subst (IsHost code) (me_of_both key host real follows) follows.fits_real.me)
      (marked_syncs another passes syncs)) follows.stack_both

  -- what is left of both, where the played one is the third without the entry that ends the program
  pub go_on : (key : List ℕ) (host real : HostState) (step another : Step) (outcome beside : Outcome)
      (one other : Bool) → (follows : Follows key host real) → MayMakeStep code host step →
      MayMakeStep code real another →
      IsToldStep code host step outcome → IsStepOfHost code real another beside →
      told_step code host (made_of step) one ≡ outcome → StepSyncs (made_of step) one →
      told_step code real another other ≡ beside → StepSyncs another other →
      IsCast told_tag told_key (without_halt outcome.state)
      (without_halt (told_step code follows.both (tagged_step marked another) other).state) →
      Follows key outcome.state beside.state
  go_on key host real step another outcome beside one other follows may also told made is syncs makes syncs_too left =
      record {
        both = (told_step code follows.both (tagged_step marked another) other).state;
        told = left;
        casts = (real_cast key host real another beside other follows makes).0;
        stack = subst (λ (after : Outcome). HasStack told_key after.state) is
            (stack_kept code told_key host (made_of step) one
            (pushes code host (made_of step) one sound follows.fits.me syncs) follows.stack);
        stack_both = both_stack key host real another other follows syncs_too;
        fits = fields.told_fits code sound own host step outcome follows.fits may told;
        fits_real = fields.step_fits code sound own real another beside follows.fits_real also made;
      }

  -- ---- a step that takes nothing off

  pub closed_step : (chosen : Bool → Type 0) (host : HostState) (step : Step) (outcome : Outcome) →
      StateFits code host → MayMakeStep code host step → takes_off code host (made_of step) ≡ false →
      IsChosenStep chosen code host step outcome → IsStepOfHost code host (made_of step) outcome
  closed_step chosen host turns outcome fits may off (inr closed) = closed.1
  closed_step chosen host (takes from letter) outcome fits may off (inr closed) = closed.1
  closed_step chosen host turns outcome fits may off (inl (passes, why, unsure, is)) =
      absurd (false≢true (sym off ∙ (open_turned code host host.running passes outcome fits unsure is).0))
  closed_step chosen host (takes from letter) outcome fits may off (inl (passes, why, unsure, is)) =
      absurd (false≢true (sym off
      ∙ (open_taken code host from (with_wrong_tags letter) passes outcome may.rest unsure is).0))

  pub same_passing : (key : List ℕ) (host real : HostState) (step another : Step) (one other : Bool) →
      Follows key host real → bare_step step ≡ bare_step another → takes_off code host (made_of step) ≡ false →
      takes_off code real another ≡ false → IsTrue one ↔ CheckOf code host (made_of step) →
      IsTrue other ↔ CheckOf code real another → one ≡ other
  same_passing key host real step another one other follows alike off off_too check beside =
      let same = same_told_of key host real follows in
      let steps : bare_step (made_of step) ≡ bare_step another = made_bare step ∙ alike in
      let first : IsTrue one ↔ CheckOf code (told_of real) (bare_step another) =
      subst (λ s. IsTrue one ↔ CheckOf code (told_of real) s) steps
      (subst (λ h. IsTrue one ↔ CheckOf code h (bare_step (made_of step))) same
      (both_ways check (check_told code host (made_of step) off))) in
      same_value one other first (both_ways beside (check_told code real another off_too))

  pub plain_cast : (key : List ℕ) (host real : HostState) (step another : Step) (outcome : Outcome) (passes : Bool) →
      (follows : Follows key host real) → bare_step step ≡ bare_step another →
      takes_off code host (made_of step) ≡ false →
      takes_off code follows.both (tagged_step marked another) ≡ false →
      told_step code host (made_of step) passes ≡ outcome → StepSyncs (made_of step) passes →
      StepSyncs another passes →
      AreCast told_tag told_key (halt_left_out outcome)
      (halt_left_out (told_step code follows.both (tagged_step marked another) passes))
  plain_cast key host real step another outcome passes follows alike off off_too is syncs syncs_too =
      let (ignored, halted, told) = follows.told in
      let both = follows.both in
      let move = tagged_step marked another in
      let has : HasTags told_tag both.key told_key =
      subst (λ made. HasTags told_tag made told_key) (sym follows.stack_both.key_is) told_has in
      let there : IsHost code both.me =
      subst (IsHost code) (me_of_both key host real follows) follows.fits_real.me in
      let first : told_step code (cast told_tag told_key ignored halted (without_halt both)) (tagged_step told_tag move)
      passes ≡ halt_left_out outcome =
      ap (λ h. told_step code h (tagged_step told_tag move) passes) (sym told)
      ∙ ap (λ s. told_step code (without_halt host) s passes) (made_told step another alike)
      ∙ step_without code host (made_of step) passes sound follows.fits.me off syncs
      ∙ ap halt_left_out is in
      let second : told_step code (without_halt both) move passes ≡ halt_left_out (told_step code both move passes) =
      step_without code both move passes sound there off_too (marked_syncs another passes syncs_too) in
      subst (λ after. AreCast told_tag told_key after (halt_left_out (told_step code both move passes))) first
      (subst (λ after. AreCast told_tag told_key
      (told_step code (cast told_tag told_key ignored halted (without_halt both)) (tagged_step told_tag move) passes)
      after) second
      (step_cast told_tag told_key code ignored halted (without_halt both) move passes has))

  -- ---- how they go on, or part

  -- nothing was sent, and an open step was chosen so that one has a thread now and the other has none
  pub record Parted (chosen : Bool → Type 0) (outcome beside : Outcome) : Type 0 where
    pub silent : outcome.sent ≡ None
    pub silent_too : beside.sent ≡ None
    pub passes : Bool
    pub why : chosen passes
    pub part : ((passes ≡ true) × IsSome outcome.state.running × (beside.state.running ≡ None))
        ⊎ ((passes ≡ false) × (outcome.state.running ≡ None) × IsSome beside.state.running)

  abbrev pub Meets : List ℕ → (Bool → Type 0) → Outcome → Outcome → Type 0
  Meets key chosen outcome beside =
      (Follows key outcome.state beside.state × (bare_sent outcome.sent ≡ bare_sent beside.sent))
      ⊎ Parted chosen outcome beside

  pub plain_meets : (key : List ℕ) (host real : HostState) (step another : Step) (chosen : Bool → Type 0)
      (outcome beside : Outcome) → (follows : Follows key host real) → MayMakeStep code host step →
      MayMakeStep code real another → bare_step step ≡ bare_step another → IsChosenStep chosen code host step outcome →
      IsStepOfHost code real another beside → takes_off code host (made_of step) ≡ false →
      takes_off code real another ≡ false → takes_off code follows.both (tagged_step marked another) ≡ false →
      Meets key chosen outcome beside
  plain_meets key host real step another chosen outcome beside follows may also alike is made off off_too off_both =
      let closed = closed_step chosen host step outcome follows.fits may off is in
      let (one, by_one, check) = step_by code host (made_of step) outcome closed in
      let (other, by_other, beside_check) = step_by code real another beside made in
      let same = same_passing key host real step another one other follows alike off off_too check beside_check in
      let by_same : told_step code host (made_of step) other ≡ outcome =
      ap (told_step code host (made_of step)) (sym same) ∙ by_one in
      let syncs : StepSyncs (made_of step) other =
      subst (StepSyncs (made_of step)) same (check_syncs code host (made_of step) one check) in
      let syncs_too = check_syncs code real another other beside_check in
      let left =
      plain_cast key host real step another outcome other follows alike off off_both by_same syncs syncs_too in
      let right = real_cast key host real another beside other follows by_other in
      inl (
        go_on key host real step another outcome beside other other follows may also
            (chosen_told code chosen host step outcome is) made by_same syncs by_other syncs_too left.0,
        ap bare_sent left.1
            ∙ sent_bare told_tag (told_step code follows.both (tagged_step marked another) other).sent
            ∙ sym (sent_bare (real_tag key) (told_step code follows.both (tagged_step marked another) other).sent)
            ∙ sym (ap bare_sent right.1),
      )

  -- ---- a step that takes off

  -- nothing lasts on the stacks
  pub still_cast : (key : List ℕ) (host real : HostState) (one other : Bool) → (follows : Follows key host real) →
      filter is_lasting follows.both.entries ≡ [] →
      IsCast told_tag told_key (without_halt (settled code host one)) (without_halt (settled code follows.both other))
  still_cast key host real one other follows none =
      let (ignored, halted, told) = follows.told in
      let both = follows.both in
      let nothing : filter is_lasting host.entries ≡ [] =
      ap (λ (h : HostState). h.entries) told ∙ ap (map (tagged_entry told_tag)) none in
      let (count, ends, left) = still code host one nothing in
      let (more, stops, beside) = still code both other none in (
        count,
        ends,
        left ∙ ap (λ (h : HostState). record h { running = None; ignored = count; halted = ends }) told
            ∙ sym (ap (cast told_tag told_key count ends) beside),
      )

  -- neither takes an entry off
  pub ignored_cast : (key : List ℕ) (host real : HostState) → (follows : Follows key host real) →
      IsCast told_tag told_key (without_halt (settled code host false))
      (without_halt (settled code follows.both false))
  ignored_cast key host real follows =
      let (ignored, halted, told) = follows.told in
      let (count, ends, left) = still_ignored code host in
      let (more, stops, beside) = still_ignored code follows.both in (
        count,
        ends,
        left ∙ ap (λ (h : HostState). record h { running = None; ignored = count; halted = ends }) told
            ∙ sym (ap (cast told_tag told_key count ends) beside),
      )

  -- both start the thread of the top entry
  pub started_cast : (key : List ℕ) (host real : HostState) → (follows : Follows key host real) →
      HasStarted code host (settled code host true) → HasStarted code follows.both (settled code follows.both true) →
      IsCast told_tag told_key (without_halt (settled code host true))
      (without_halt (settled code follows.both true))
  started_cast key host real follows first second =
      let (ignored, halted, told) = follows.told in
      let bare = without_halt follows.both in
      let (count, ends, left) =
      popped told_tag told_key code ignored halted (with_running bare None) bare.entries in (
        count,
        ends,
        first.told ∙ ap (λ h. settled code h true) told ∙ left
            ∙ sym (ap (cast told_tag told_key count ends) second.told),
      )

  -- the top entry of the third host, and those of the two others
  pub record HasTops (key : List ℕ) (host real both : HostState) : Type 0 where
    pub top : StackEntry
    pub made : IsMade told_key top.token
    pub host_starts : HasStarted code host (settled code host true)
    pub real_starts : HasStarted code real (settled code real true)
    pub both_starts : HasStarted code both (settled code both true)
    pub host_top : top_token host.entries ≡ Some (tagged told_tag top.token)
    pub real_top : top_token real.entries ≡ Some (tagged (real_tag key) top.token)

  pub has_tops : (key : List ℕ) (host real : HostState) → (follows : Follows key host real) →
      HasTop follows.both.entries → HasTops key host real follows.both
  has_tops key host real follows (top, below, stack, lasting) =
      let (ignored, halted, told) = follows.told in
      let (count, ends, casts) = follows.casts in
      let both = follows.both in
      let lasts : filter is_lasting both.entries ≡ top ∷ filter is_lasting below =
      ap (filter is_lasting) stack ∙ rw lasting refl in
      let (under, here, lasting_too) =
      first_lasting host.entries (tagged_entry told_tag top) (map (tagged_entry told_tag) (filter is_lasting below))
      follows.stack.low (ap (λ (h : HostState). h.entries) told ∙ ap (map (tagged_entry told_tag)) lasts) in
      let there : real.entries ≡ tagged_entry (real_tag key) top ∷ map (tagged_entry (real_tag key)) below =
      ap (λ (h : HostState). h.entries) casts ∙ ap (map (tagged_entry (real_tag key))) stack in
      let host_entry : IsEntryOf code host.me top.entry =
      (All-head (StackEntryFits code host.me) (tagged_entry told_tag top) under
      (subst (All (StackEntryFits code host.me)) here follows.fits.entries)).entry in
      let real_entry : IsEntryOf code real.me top.entry =
      (All-head (StackEntryFits code real.me) (tagged_entry (real_tag key) top)
      (map (tagged_entry (real_tag key)) below)
      (subst (All (StackEntryFits code real.me)) there follows.fits_real.entries)).entry in
      let both_entry : IsEntryOf code both.me top.entry =
      subst (λ me. IsEntryOf code me top.entry) (me_of_both key host real follows) real_entry in
      record {
        top = top;
        made = (subst (AreMade told_key) stack follows.stack_both.made).0;
        host_starts = started code host (tagged_entry told_tag top) under here lasting_too host_entry;
        real_starts =
            started code real (tagged_entry (real_tag key) top) (map (tagged_entry (real_tag key)) below) there lasting
            real_entry;
        both_starts = started code both top below stack lasting both_entry;
        host_top = ap top_token here;
        real_top = ap top_token there;
      }

  -- the tokens that both present are one token of the third host
  pub host_presents : (key : List ℕ) (host real : HostState) (step another : Step) → (follows : Follows key host real) →
      bare_step step ≡ bare_step another →
      presented host (made_of step)
      ≡ option_map (tagged told_tag) (presented follows.both (tagged_step marked another))
  host_presents key host real step another follows alike =
      let (ignored, halted, told) = follows.told in
      ap (presented (without_halt host)) (sym (made_told step another alike))
      ∙ ap (λ h. presented h (tagged_step told_tag (tagged_step marked another))) told
      ∙ presented_cast told_tag told_key ignored halted (without_halt follows.both) (tagged_step marked another)

  pub real_presents : (key : List ℕ) (host real : HostState) (another : Step) → (follows : Follows key host real) →
      presented real another
      ≡ option_map (tagged (real_tag key)) (presented follows.both (tagged_step marked another))
  real_presents key host real another follows =
      let (ignored, halted, casts) = follows.casts in
      ap (presented real) (sym (made_real key another))
      ∙ ap (λ h. presented h (tagged_step (real_tag key) (tagged_step marked another))) casts
      ∙ presented_cast (real_tag key) key ignored halted follows.both (tagged_step marked another)

  -- the same truth value, or the step was open and chosen
  pub chosen_or_same : (key : List ℕ) (host real : HostState) (step another : Step) (chosen : Bool → Type 0)
      (one other : Bool) → (follows : Follows key host real) → bare_step step ≡ bare_step another →
      HasTops key host real follows.both →
      (chosen one ⊎ ((¬ MayBeTop host (presented host (made_of step)))
      × (IsTrue one ↔ IsTop host (presented host (made_of step))))) →
      IsTrue other ↔ IsTop real (presented real another) → (one ≡ other) ⊎ chosen one
  chosen_or_same key host real step another chosen one other follows alike tops (inl why) beside = inr why
  chosen_or_same key host real step another chosen one other follows alike tops (inr (sure, check)) beside =
      let held = presented follows.both (tagged_step marked another) in
      let first = host_presents key host real step another follows alike in
      let second = real_presents key host real another follows in
      inl (agree key host real tops.top.token held one other tops.made tops.host_top tops.real_top
      (subst (λ found. ¬ MayBeTop host found) first sure)
      (subst (λ found. IsTrue one ↔ IsTop host found) first check)
      (subst (λ found. IsTrue other ↔ IsTop real found) second beside))

  pub off_meets : (key : List ℕ) (host real : HostState) (step another : Step) (chosen : Bool → Type 0)
      (outcome beside : Outcome) → (follows : Follows key host real) → MayMakeStep code host step →
      MayMakeStep code real another → bare_step step ≡ bare_step another → IsChosenStep chosen code host step outcome →
      IsStepOfHost code real another beside → takes_off code host (made_of step) ≡ true →
      takes_off code real another ≡ true → takes_off code follows.both (tagged_step marked another) ≡ true →
      RestsFor real another → RestsFor follows.both (tagged_step marked another) →
      Meets key chosen outcome beside
  off_meets key host real step another chosen outcome beside follows may also alike is made off off_too off_both rest
      rest_both =
      by (top_or_none follows.both.entries follows.stack_both.low)
    where
      both : HostState
      both = follows.both

      move : Step
      move = tagged_step marked another

      taken : IsOff chosen code host (made_of step) outcome
      taken = off_of code chosen host step outcome off (rests_made code host step may) is

      real_taken : IsStepBy code real another beside
      real_taken = step_by code real another beside made

      one : Bool
      one = taken.0

      other : Bool
      other = real_taken.0

      by_one : told_step code host (made_of step) one ≡ outcome
      by_one = step_off code host (made_of step) one off (rests_made code host step may) ∙ taken.1

      left_both : told_step code both move other ≡ without_message (settled code both other)
      left_both = step_off code both move other off_both rest_both

      left_real : without_message (settled code real other) ≡ beside
      left_real = sym (step_off code real another other off_too rest) ∙ real_taken.1

      silent : None ≡ outcome.sent
      silent = ap (λ (left : Outcome). left.sent) taken.1

      silent_too : None ≡ beside.sent
      silent_too = ap (λ (left : Outcome). left.sent) left_real

      on : IsCast told_tag told_key (without_halt (settled code host one)) (without_halt (settled code both other)) →
          Meets key chosen outcome beside
      on left =
          inl (
            go_on key host real step another outcome beside one other follows may also
                (chosen_told code chosen host step outcome is) made by_one (off_syncs code host (made_of step) one off)
                real_taken.1 (off_syncs code real another other off_too)
                (subst (λ (after : Outcome). IsCast told_tag told_key (without_halt after.state)
                (without_halt (told_step code both move other).state)) taken.1
                (subst (λ (after : Outcome). IsCast told_tag told_key (without_halt (settled code host one))
                (without_halt after.state)) (sym left_both) left)),
            ap bare_sent (sym silent ∙ silent_too),
          )

      same : HasTops key host real both → (first second : Bool) → first ≡ second →
          IsCast told_tag told_key (without_halt (settled code host first)) (without_halt (settled code both second))
      same tops true true agrees = started_cast key host real follows tops.host_starts tops.both_starts
      same tops false false agrees = ignored_cast key host real follows
      same tops true false agrees = absurd (false≢true (sym agrees))
      same tops false true agrees = absurd (false≢true agrees)

      apart : HasTops key host real both → chosen one → (first second : Bool) → one ≡ first → other ≡ second →
          Meets key chosen outcome beside
      apart tops why true true first second = on (same tops one other (first ∙ sym second))
      apart tops why false false first second = on (same tops one other (first ∙ sym second))
      apart tops why true false first second =
          inr (record {
            silent = sym silent;
            silent_too = sym silent_too;
            passes = one;
            why = why;
            part = inl (
              first,
              subst (λ (after : Outcome). IsSome after.state.running)
                  (ap (λ passes. without_message (settled code host passes)) (sym first) ∙ taken.1)
                  tops.host_starts.runs,
              sym (ap (λ (after : Outcome). after.state.running)
                  (ap (λ passes. without_message (settled code real passes)) (sym second) ∙ left_real)),
            );
          })
      apart tops why false true first second =
          inr (record {
            silent = sym silent;
            silent_too = sym silent_too;
            passes = one;
            why = why;
            part = inr (
              first,
              sym (ap (λ (after : Outcome). after.state.running)
                  (ap (λ passes. without_message (settled code host passes)) (sym first) ∙ taken.1)),
              subst (λ (after : Outcome). IsSome after.state.running)
                  (ap (λ passes. without_message (settled code real passes)) (sym second) ∙ left_real)
                  tops.real_starts.runs,
            );
          })

      choose : HasTops key host real both → (one ≡ other) ⊎ chosen one → Meets key chosen outcome beside
      choose tops (inl agrees) = on (same tops one other agrees)
      choose tops (inr why) = apart tops why one other refl refl

      by : HasTop both.entries ⊎ (filter is_lasting both.entries ≡ []) → Meets key chosen outcome beside
      by (inr none) = on (still_cast key host real one other follows none)
      by (inl found) =
          let tops = has_tops key host real follows found in
          choose tops (chosen_or_same key host real step another chosen one other follows alike tops taken.2
          (both_ways real_taken.2 (off_check code real another off_too)))

  -- ---- one step of both

  pub real_rests : (real : HostState) (another : Step) → MayMakeStep code real another → RestsFor real another
  real_rests real turns may = tt
  real_rests real (takes from letter) may = may.rest

  pub none_before : (tags : Token → List ℕ) (running : Option ThreadShape) →
      option_map (tagged_thread tags) running ≡ None → running ≡ None
  none_before tags None none = refl
  none_before tags (Some thread) none = absurd cc

  pub both_rests : (key : List ℕ) (host real : HostState) (another : Step) → (follows : Follows key host real) →
      MayMakeStep code real another → RestsFor follows.both (tagged_step marked another)
  both_rests key host real turns follows may = tt
  both_rests key host real (takes from letter) follows may =
      let (ignored, halted, casts) = follows.casts in
      none_before (real_tag key) follows.both.running (sym (ap (λ (h : HostState). h.running) casts) ∙ may.rest)

  pub meets : (key : List ℕ) (host real : HostState) (step another : Step) (chosen : Bool → Type 0)
      (outcome beside : Outcome) → Follows key host real → MayMakeStep code host step → MayMakeStep code real another →
      bare_step step ≡ bare_step another → IsChosenStep chosen code host step outcome →
      IsStepOfHost code real another beside → Meets key chosen outcome beside
  meets key host real step another chosen outcome beside follows may also alike is made =
      by (takes_off code real another) refl
    where
      steps : bare_step (made_of step) ≡ bare_step another
      steps = made_bare step ∙ alike

      off : takes_off code host (made_of step) ≡ takes_off code real another
      off = same_takes_off code host real (made_of step) another (same_told_of key host real follows) steps

      off_both : takes_off code follows.both (tagged_step marked another) ≡ takes_off code real another
      off_both =
          same_takes_off code follows.both real (tagged_step marked another) another (both_told key host real follows)
          (marked_bare another)

      by : (takes : Bool) → takes_off code real another ≡ takes → Meets key chosen outcome beside
      by false no_off =
          plain_meets key host real step another chosen outcome beside follows may also alike is made (off ∙ no_off)
          no_off (off_both ∙ no_off)
      by true is_off =
          off_meets key host real step another chosen outcome beside follows may also alike is made (off ∙ is_off)
          is_off (off_both ∙ is_off) (real_rests real another also) (both_rests key host real another follows also)
