-- Two runs of one host with the same journal leave the same fields. The hosts are told alike all along, but for the
-- entry that ends the program; and where they are not, one has a thread and the other has none, so that no line of the
-- one can be a line of the other, and the journal has ended.
use Rattle.std.proofs.Common.{◌≡◌, ◌≢◌, ◌∙◌, Bool, true, false, ℕ, ℤ, refl, ap, sym, subst, List, [], ◌∷◌, ◌++◌}
use Rattle.std.proofs.Common.{inl, inr, arith, codes}
use Rattle.std.specs.Prelude.{Option, Some, None, IsSome, ◌==◌, if◌then◌else◌}
use Rattle.std.proofs.lemmas.Bool.{false≢true}
use Rattle.js_base.specs.declared.ids.HostId.{HostId}
use Rattle.host_code.specs.declared.message.Message.{Message}
use Rattle.host_code.specs.declared.message.Message.TheVariants as message
use Rattle.host_code.specs.declared.code.Entry.{Entry}
use Rattle.host_code.specs.Code.{CodeShape, entry_at, halt}
use Rattle.host_code.specs.MessageText.{host_text}
use Rattle.host_code.specs.Messages.{MessageFits}
use Rattle.host_code.specs.Sound.{IsHost, IsSoundCode}
use Rattle.host_core.specs.Fits.{StateFits, TokensFit}
use Rattle.host_core.specs.Host.{HostState, Outcome, after_entering, after_push, new_token}
use Rattle.host_core.specs.Host.{with_running}
use Rattle.host_core.specs.Start.{host_at_start, idle_host, last_token, main_frame}
use Rattle.host_core.specs.Told.{settled, with_wrong_tags}
use Rattle.host_core.proofs.Kept.{kept_at_rest, kept_ignored, kept_pop}
use Rattle.host_core.proofs.StartKept.{idle_fits, root_fits}
use Rattle.host_core.proofs.TakingKept.{taking_kept}
use Rattle.host_core.proofs.TurnKept.{same_host, turn_kept}
use Rattle.event_text.specs.JournalText.{IsSendLine, sent_words}
use Rattle.event_text.specs.Lines.{words}
use Rattle.event_text.specs.Words.{Word}
use Rattle.journal_laws.specs.Bare.{bare_message, bare_sent}
use Rattle.journal_laws.specs.Plays.{HaveOwnNames, IsJournalOf, MayMakeStep, Plays, step_words}
use Rattle.journal_laws.specs.Steps.{Step, turns, takes, IsStepOfHost, bare_step}
use Rattle.journal_laws.specs.ToldPlays.{IsPlayed, IsToldStep, ToldPlays}
use Rattle.journal_laws.proofs.AlikeSteps.{ArePart, HaveSameFields, IsLineStep, Meet, fields_back}
use Rattle.journal_laws.proofs.AlikeSteps.{fields_of_same, fields_through, fields_told, made_step, open_taken}
use Rattle.journal_laws.proofs.AlikeSteps.{open_turned, steps_meet, told_step_line}
use Rattle.journal_laws.proofs.BareTakings.{printed_bare}
use Rattle.journal_laws.proofs.CloseJournals.{AreClose, close_behind, close_flipped, close_rest, noted_close}
use Rattle.journal_laws.proofs.SaidMessages as said
use Rattle.journal_laws.proofs.SameChecks.{told_of}
use Rattle.journal_laws.proofs.TakenOff.{IsSettled}

-- ---- lines

abbrev first : List ℕ → ℕ
first [] = 0
first (byte ∷ bytes) = byte

abbrev second : List ℕ → ℕ
second [] = 0
second (byte ∷ bytes) = first bytes

abbrev verb : List Word → Word
verb [] = []
verb (word ∷ words) = word

-- the line of a step is not that of what was sent
pub step_line : (code : CodeShape) (step : Step) → ¬ IsSendLine (step_words code step)
step_line code turns is = let e : 116 ≡ 115 = ap first is in omega (arith, e)
step_line code (takes from letter) is = let e : 116 ≡ 115 = ap first is in omega (arith, e)

-- the line of a turn is not that of a message
pub turn_line : (code : CodeShape) (from : HostId) (letter : Message) →
    step_words code turns ≢ step_words code (takes from letter)
turn_line code from letter same = let e : 117 ≡ 97 = ap (λ line. second (verb line)) same in omega (arith, e)

-- ---- steps that have one line

abbrev rest_of : List Word → List Word
rest_of [] = []
rest_of (word ∷ words) = words

module _ (code : CodeShape) (sound : IsSoundCode code) (own : HaveOwnNames code) where
  pub same_steps : (one other : HostState) (step another : Step) → MayMakeStep code one step →
      MayMakeStep code other another →
      step_words code step ≡ step_words code another → bare_step step ≡ bare_step another
  same_steps one other turns turns may also same = refl
  same_steps one other turns (takes from letter) may also same = absurd (turn_line code from letter same)
  same_steps one other (takes from letter) turns may also same = absurd (turn_line code from letter (sym same))
  same_steps one other (takes from letter) (takes sender message) may also same =
      let hosts : from ≡ sender =
      said.same_host code sound own from sender may.other.0 also.other.0 (ap (λ line. verb (rest_of line)) same) in
      let letters : bare_message letter ≡ bare_message message =
      said.same_words code sound own letter message may.fits may.real also.fits also.real
      (ap (λ line. rest_of (rest_of line)) same) in
      ap (λ host. takes host (bare_message letter)) hosts ∙ ap (takes sender) letters

  -- ---- what stays

  pub tokens_fit : (letter : Message) → MessageFits code letter → TokensFit code letter
  tokens_fit (message.Get request field index) fits = tt
  tokens_fit (message.Set request field index value) fits = tt
  tokens_fit (message.Forward request frame variable value) fits = tt
  tokens_fit (message.Sync request frame entry token) fits = fits
  tokens_fit (message.Rgoto frame entry token) fits = fits
  tokens_fit (message.RgotoWith frame entry token riders) fits = fits.0
  tokens_fit (message.Lgoto token) fits = fits
  tokens_fit (message.Value request value) fits = tt
  tokens_fit (message.Ack request) fits = tt
  tokens_fit (message.Token request token) fits = fits

  pub step_fits : (host : HostState) (step : Step) (outcome : Outcome) → StateFits code host →
      MayMakeStep code host step → IsStepOfHost code host step outcome → StateFits code outcome.state
  step_fits host turns outcome fits may is = (turn_kept code host outcome sound fits is).0
  step_fits host (takes from letter) outcome fits may is =
      (taking_kept code host from letter outcome sound fits may.other (tokens_fit letter may.fits) is).0

  pub wrong_fit : (letter : Message) → TokensFit code letter → TokensFit code (with_wrong_tags letter)
  wrong_fit (message.Get request field index) fits = tt
  wrong_fit (message.Set request field index value) fits = tt
  wrong_fit (message.Forward request frame variable value) fits = tt
  wrong_fit (message.Sync request frame entry token) fits = fits
  wrong_fit (message.Rgoto frame entry token) fits = fits
  wrong_fit (message.RgotoWith frame entry token riders) fits = fits
  wrong_fit (message.Lgoto token) fits = fits
  wrong_fit (message.Value request value) fits = tt
  wrong_fit (message.Ack request) fits = tt
  wrong_fit (message.Token request token) fits = fits

  settled_fits : (host : HostState) (outcome : Outcome) → StateFits code host → IsSettled code host outcome →
      StateFits code outcome.state
  settled_fits host outcome fits is =
      subst (StateFits code) (ap (λ (left : Outcome). left.state) is.leaves) (by is.passes)
    where
      by : (passes : Bool) → StateFits code (settled code host passes)
      by true = kept_pop code (with_running host None) host.entries sound (kept_at_rest code host fits) fits.entries
          fits.stack
      by false = kept_ignored code (with_running host None) (kept_at_rest code host fits)

  pub start_fits : (values : List (List ℤ)) (key : List ℕ) (me : HostId) → IsHost code me →
      StateFits code (host_at_start code values key me)
  start_fits values key me there = by (me.0 == code.root.0) refl
    where
      by : (root : Bool) → (me.0 == code.root.0) ≡ root → StateFits code (host_at_start code values key me)
      by true is = rw is (root_fits code (idle_host code values key me) sound (idle_fits code values key me there)
          (same_host me code.root is))
      by false is = rw is (idle_fits code values key me there)

  start_told : (values : List (List ℤ)) (key other : List ℕ) (me : HostId) →
      told_of (host_at_start code values key me) ≡ told_of (host_at_start code values other me)
  start_told values key other me = by (me.0 == code.root.0) (entry_at code code.main)
    where
      idle : List ℕ → HostState
      idle key = idle_host code values key me

      rooted : List ℕ → Option Entry → HostState
      rooted key found =
          after_entering (after_push (idle key) halt main_frame (last_token me)) found main_frame
          (new_token (idle key) halt main_frame)

      by : (root : Bool) (found : Option Entry) →
          told_of (if root then rooted key found else idle key)
          ≡ told_of (if root then rooted other found else idle other)
      by false found = refl
      by true None = refl
      by true (Some entry) = refl

  -- ---- what is sent alike is said alike

  sent_bare : (sent : Option (HostId × Message)) → sent_words code (bare_sent sent) ≡ sent_words code sent
  sent_bare None = refl
  sent_bare (Some sent) =
      ap (λ (text : List ℕ). (codes "send" ∷ host_text code sent.0 ∷ words text) ∷ []) (printed_bare code sent.1)

  pub said_alike : (sent told : Option (HostId × Message)) → bare_sent sent ≡ bare_sent told →
      sent_words code sent ≡ sent_words code told
  said_alike sent told same = sym (sent_bare sent) ∙ ap (sent_words code) same ∙ sent_bare told

  -- ---- where one has a thread and the other has none

  pub none_runs : (host : HostState) → IsSome host.running → host.running ≡ None → ⊥
  none_runs host some rest = false≢true (subst IsSome rest some)

  -- then neither has a next line that could be the other's
  pub no_line : (one other : HostState) (step another : Step) → ArePart one other → MayMakeStep code one step →
      MayMakeStep code other another → step_words code step ≢ step_words code another
  no_line one other turns turns (inl part) may also same = none_runs one may part.0
  no_line one other turns turns (inr part) may also same = none_runs other also part.1
  no_line one other turns (takes from letter) part may also same = turn_line code from letter same
  no_line one other (takes from letter) turns part may also same = turn_line code from letter (sym same)
  no_line one other (takes from letter) (takes sender message) (inl part) may also same =
      none_runs other part.1 also.rest
  no_line one other (takes from letter) (takes sender message) (inr part) may also same =
      none_runs one part.0 may.rest

  -- ---- whole plays

  -- steps by their lines lead from one state to another, and leave these lines
  abbrev pub LinePlays : HostState → List Step → HostState → List (List Word) → Type 0
  LinePlays start [] last lines = (start ≡ last) × (lines ≡ [])
  LinePlays start (step ∷ steps) last lines =
      (outcome : Outcome) × (later : List (List Word)) × MayMakeStep code start step
      × IsLineStep code start step outcome
      × StateFits code outcome.state × LinePlays outcome.state steps last later
      × (lines ≡ step_words code step ∷ (sent_words code outcome.sent ++ later))

  pub made_plays : (start : HostState) (steps : List Step) (last : HostState) (lines : List (List Word)) →
      StateFits code start → Plays code start steps last lines → LinePlays start steps last lines
  made_plays start [] last lines fits plays = plays
  made_plays start (step ∷ steps) last lines fits (outcome, later, may, is, plays, whole) =
      let fit = step_fits start step outcome fits may is in (
        outcome,
        later,
        may,
        made_step code start step outcome may is,
        fit,
        made_plays outcome.state steps last later fit plays,
        whole,
      )

  -- a line of a step, where there is none
  none_ahead : (step : Step) (lines more behind : List (List Word)) → lines ≡ [] →
      more ≡ step_words code step ∷ behind → AreClose lines more → ⊥
  none_ahead step lines more behind none whole close =
      let ahead : AreClose [] (step_words code step ∷ behind) =
      subst (AreClose []) whole (subst (λ l. AreClose l more) none close) in
      step_line code step ahead.0

  ahead : (step another : Step) (lines more behind beyond : List (List Word)) →
      lines ≡ step_words code step ∷ behind → more ≡ step_words code another ∷ beyond → AreClose lines more →
      (step_words code step ≡ step_words code another) × AreClose behind beyond
  ahead step another lines more behind beyond whole all close =
      close_behind (step_words code step) (step_words code another) behind beyond (step_line code step)
      (subst (λ l. AreClose l (step_words code another ∷ beyond)) whole (subst (AreClose lines) all close))

  -- hosts that part make no step more
  both_stop : (one other : HostState) (steps others : List Step) (last end : HostState)
      (lines more : List (List Word)) → ArePart one other → LinePlays one steps last lines →
      LinePlays other others end more → AreClose lines more → (one ≡ last) × (other ≡ end)
  both_stop one other [] [] last end lines more part plays play close = (plays.0, play.0)
  both_stop one other [] (step ∷ others) last end lines more part plays (outcome, later, may, is, fit, go, whole)
      close = absurd (none_ahead step lines more _ plays.1 whole close)
  both_stop one other (step ∷ steps) [] last end lines more part (outcome, later, may, is, fit, go, whole) play close =
      absurd (none_ahead step more lines _ play.1 whole (close_flipped lines more close))
  both_stop one other (step ∷ steps) (another ∷ others) last end lines more part
      (outcome, later, may, is, fit, go, whole) (beside, after, also, are, fits, on, all) close =
      absurd (no_line one other step another part may also (ahead step another lines more _ _ whole all close).0)

  close_sent : (outcome beside : Outcome) (later after : List (List Word)) →
      bare_sent outcome.sent ≡ bare_sent beside.sent →
      AreClose (sent_words code outcome.sent ++ later) (sent_words code beside.sent ++ after) → AreClose later after
  close_sent outcome beside later after same close =
      close_rest (sent_words code outcome.sent) later after
      (subst (λ ws. AreClose (sent_words code outcome.sent ++ later) (ws ++ after))
      (sym (said_alike outcome.sent beside.sent same)) close)

  -- how plays end behind a step of both, where they go on from what is told alike
  meet_then : (outcome beside : Outcome) (steps others : List Step) (last end : HostState)
      (later after : List (List Word)) → Meet outcome beside → LinePlays outcome.state steps last later →
      LinePlays beside.state others end after →
      AreClose (sent_words code outcome.sent ++ later) (sent_words code beside.sent ++ after) →
      (told_of outcome.state ≡ told_of beside.state → AreClose later after → HaveSameFields last end) →
      HaveSameFields last end
  meet_then outcome beside steps others last end later after (inl (told, sent)) plays play close rest =
      rest told (close_sent outcome beside later after sent close)
  meet_then outcome beside steps others last end later after (inr parts) plays play close rest =
      let near = close_sent outcome beside later after (ap bare_sent (parts.silent ∙ sym parts.silent_too)) close in
      let stop = both_stop outcome.state beside.state steps others last end later after parts.part plays play near in
      fields_through last outcome.state end (fields_back outcome.state last (fields_of_same outcome.state last stop.0))
      (fields_through outcome.state beside.state end parts.fields (fields_of_same beside.state end stop.1))

  pub fields_same : (steps others : List Step) (one other last end : HostState) (lines more : List (List Word)) →
      StateFits code one → StateFits code other → told_of one ≡ told_of other → LinePlays one steps last lines →
      LinePlays other others end more → AreClose lines more → HaveSameFields last end
  fields_same [] [] one other last end lines more fits fit told plays play close =
      fields_through last one end (fields_back one last (fields_of_same one last plays.0))
      (fields_through one other end (fields_told one other told) (fields_of_same other end play.0))
  fields_same [] (step ∷ others) one other last end lines more fits fit told plays
      (outcome, later, may, is, after_fits, go, whole) close =
      absurd (none_ahead step lines more _ plays.1 whole close)
  fields_same (step ∷ steps) [] one other last end lines more fits fit told
      (outcome, later, may, is, after_fits, go, whole) play close =
      absurd (none_ahead step more lines _ play.1 whole (close_flipped lines more close))
  fields_same (step ∷ steps) (another ∷ others) one other last end lines more fits fit told
      (outcome, later, may, is, keeps, plays, whole) (beside, after, also, are, keep, play, all) close =
      let behind = ahead step another lines more _ _ whole all close in
      let alike = same_steps one other step another may also behind.0 in
      meet_then outcome beside steps others last end later after
      (steps_meet code sound one other step another outcome beside fits fit told alike is are) plays play behind.1
      (λ same near. fields_same steps others outcome.state beside.state last end later after keeps keep same plays play
      near)

  pub determined : (values : List (List ℤ)) (me : HostId) (key other : List ℕ) (lines : List (List Word))
      (steps others : List Step) (last end : HostState) → IsHost code me →
      IsJournalOf code (host_at_start code values key me) lines steps last →
      IsJournalOf code (host_at_start code values other me) lines others end → HaveSameFields last end
  determined values me key other lines steps others last end there (all, plays, noted) (more, play, also) =
      let first = host_at_start code values key me in
      let second = host_at_start code values other me in
      let fits = start_fits values key me there in
      let fit = start_fits values other me there in
      fields_same steps others first second last end all more fits fit (start_told values key other me)
      (made_plays first steps last all fits plays) (made_plays second others end more fit play)
      (noted_close lines all more noted also)

  -- ---- played hosts

  pub told_fits : (host : HostState) (step : Step) (outcome : Outcome) → StateFits code host →
      MayMakeStep code host step →
      IsToldStep code host step outcome → StateFits code outcome.state
  told_fits host turns outcome fits may (inr (closed, is)) = (turn_kept code host outcome sound fits is).0
  told_fits host (takes from letter) outcome fits may (inr (closed, is)) =
      (taking_kept code host from (with_wrong_tags letter) outcome sound fits may.other
      (wrong_fit letter (tokens_fit letter may.fits)) is).0
  told_fits host turns outcome fits may (inl (passes, unsure, is)) =
      settled_fits host outcome fits (open_turned code host host.running passes outcome fits unsure is).1
  told_fits host (takes from letter) outcome fits may (inl (passes, unsure, is)) =
      settled_fits host outcome fits
      (open_taken code host from (with_wrong_tags letter) passes outcome may.rest unsure is).1

  told_plays : (start : HostState) (steps : List Step) (last : HostState) (lines : List (List Word)) →
      StateFits code start → ToldPlays code start steps last lines → LinePlays start steps last lines
  told_plays start [] last lines fits plays = plays
  told_plays start (step ∷ steps) last lines fits (outcome, later, may, is, plays, whole) =
      let fit = told_fits start step outcome fits may is in (
        outcome,
        later,
        may,
        told_step_line code start step outcome fits may is,
        fit,
        told_plays outcome.state steps last later fit plays,
        whole,
      )

  -- a host that is played has the fields of each host with the journal
  pub played_fields : (values : List (List ℤ)) (me : HostId) (key other : List ℕ) (lines : List (List Word))
      (shown : HostState) (steps : List Step) (last : HostState) → IsHost code me →
      IsPlayed code (host_at_start code values other me) lines shown →
      IsJournalOf code (host_at_start code values key me) lines steps last → HaveSameFields last shown
  played_fields values me key other lines shown steps last there (others, more, play, also) (all, plays, noted) =
      let first = host_at_start code values key me in
      let second = host_at_start code values other me in
      let fits = start_fits values key me there in
      let fit = start_fits values other me there in
      fields_same steps others first second last shown all more fits fit (start_told values key other me)
      (made_plays first steps last all fits plays) (told_plays second others shown more fit play)
      (noted_close lines all more noted also)
