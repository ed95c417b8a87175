-- Steps of a played host and of a real one that have the same line, and the third host's between them.
use Rattle.std.proofs.Common.{◌≡◌, ◌∙◌, ◌⊎◌, ◌↔◌, Bool, true, false, ℕ, refl, ap, sym, subst, List}
use Rattle.std.proofs.Common.{inl, inr}
use Rattle.std.specs.Prelude.{Option, Some, None, IsTrue}
use Rattle.std.specs.Option.{option_map}
use Rattle.std.proofs.lemmas.Bool.{false≢true}
use Rattle.js_base.specs.declared.ids.HostId.{HostId}
use Rattle.capability.specs.declared.token.Token.{Token}
use Rattle.ics_stack.specs.Stack.{top_token}
use Rattle.host_code.specs.declared.message.Message.{Message}
use Rattle.host_code.specs.declared.message.Message.TheVariants as message
use Rattle.host_code.specs.Code.{CodeShape}
use Rattle.host_code.specs.Sound.{IsHost, IsSoundCode}
use Rattle.host_core.specs.Host.{HostState, Outcome}
use Rattle.host_core.specs.Host.{without_message}
use Rattle.host_core.specs.Told.{IsUnsure, settled, told_key, with_wrong_tags}
use Rattle.journal_laws.specs.Plays.{MayMakeStep}
use Rattle.journal_laws.specs.Steps.{Step, turns, takes, bare_step}
use Rattle.journal_laws.specs.ToldPlays.{IsChosenStep, IsToldStep}
use Rattle.journal_laws.proofs.AlikeSteps.{wrong_alike}
use Rattle.journal_laws.proofs.KeptStacks.{IsMade, StepPushes}
use Rattle.journal_laws.proofs.OffAgain.{IsTop, MayBeTop, StepSyncs, off_check}
use Rattle.journal_laws.proofs.OffAgain.{open_lgoto, open_turn, passing_syncs, presented}
use Rattle.journal_laws.proofs.OffAgain.{step_by, step_off, tagged_syncs}
use Rattle.journal_laws.proofs.OffAgain.{thread_pushes, told_off}
use Rattle.journal_laws.proofs.OwnTags.{marked, marked_real, marked_told, real_tag, same_told}
use Rattle.journal_laws.proofs.OwnTags.{told_tag}
use Rattle.journal_laws.proofs.Retagged.{message_bare}
use Rattle.journal_laws.proofs.Retagged.{tagged, tagged_step}
use Rattle.journal_laws.proofs.SameChecks.{CheckOf, same_value, takes_off}
use Rattle.journal_laws.proofs.TakenOff.{RestsFor}

-- ---- steps that are alike

-- the step that a played host makes
abbrev pub made_of : Step → Step
made_of turns = turns
made_of (takes from letter) = takes from (with_wrong_tags letter)

abbrev pub is_turn : Step → Bool
is_turn turns = true
is_turn (takes from letter) = false

abbrev pub from_or : HostId → Step → HostId
from_or none turns = none
from_or none (takes from letter) = from

abbrev pub letter_or : Message → Step → Message
letter_or none turns = none
letter_or none (takes from letter) = letter

pub made_told : (step another : Step) → bare_step step ≡ bare_step another →
    tagged_step told_tag (tagged_step marked another) ≡ made_of step
made_told turns turns same = refl
made_told turns (takes from letter) same = absurd (false≢true (sym (ap is_turn same)))
made_told (takes from letter) turns same = absurd (false≢true (ap is_turn same))
made_told (takes from letter) (takes sender message) same =
    ap (takes sender) (marked_told letter message (ap (letter_or letter) same))
    ∙ ap (λ host. takes host (with_wrong_tags letter)) (sym (ap (from_or from) same))

pub made_real : (key : List ℕ) (step : Step) → tagged_step (real_tag key) (tagged_step marked step) ≡ step
made_real key turns = refl
made_real key (takes from letter) = ap (takes from) (marked_real key letter)

pub made_bare : (step : Step) → bare_step (made_of step) ≡ bare_step step
made_bare turns = refl
made_bare (takes from letter) = ap (takes from) (wrong_alike letter)

pub marked_bare : (step : Step) → bare_step (tagged_step marked step) ≡ bare_step step
marked_bare turns = refl
marked_bare (takes from letter) = ap (takes from) (message_bare marked letter)

pub chosen_told : (code : CodeShape) (chosen : Bool → Type 0) (host : HostState) (step : Step) (outcome : Outcome) →
    IsChosenStep chosen code host step outcome → IsToldStep code host step outcome
chosen_told code chosen host turns outcome (inl (passes, why, unsure, is)) = inl (passes, unsure, is)
chosen_told code chosen host turns outcome (inr closed) = inr closed
chosen_told code chosen host (takes from letter) outcome (inl (passes, why, unsure, is)) = inl (passes, unsure, is)
chosen_told code chosen host (takes from letter) outcome (inr closed) = inr closed

pub rests_made : (code : CodeShape) (host : HostState) (step : Step) → MayMakeStep code host step →
    RestsFor host (made_of step)
rests_made code host turns may = tt
rests_made code host (takes from letter) may = may.rest

pub off_syncs : (code : CodeShape) (host : HostState) (step : Step) (passes : Bool) → takes_off code host step ≡ true →
    StepSyncs step passes
off_syncs code host turns passes off = tt
off_syncs code host (takes from (message.Lgoto token)) passes off = λ holds. tt
off_syncs code host (takes from (message.Get request field index)) passes off = absurd cc
off_syncs code host (takes from (message.Set request field index value)) passes off = absurd cc
off_syncs code host (takes from (message.Forward request frame variable value)) passes off = absurd cc
off_syncs code host (takes from (message.Sync request frame entry token)) passes off = absurd cc
off_syncs code host (takes from (message.Rgoto frame entry token)) passes off = absurd cc
off_syncs code host (takes from (message.RgotoWith frame entry token riders)) passes off = absurd cc
off_syncs code host (takes from (message.Value request value)) passes off = absurd cc
off_syncs code host (takes from (message.Ack request)) passes off = absurd cc
off_syncs code host (takes from (message.Token request token)) passes off = absurd cc

pub check_syncs : (code : CodeShape) (host : HostState) (step : Step) (passes : Bool) →
    IsTrue passes ↔ CheckOf code host step → StepSyncs step passes
check_syncs code host turns passes check = tt
check_syncs code host (takes from letter) passes check = λ holds. passing_syncs code host from letter (check.0 holds)

pub marked_syncs : (step : Step) (passes : Bool) → StepSyncs step passes → StepSyncs (tagged_step marked step) passes
marked_syncs turns passes syncs = tt
marked_syncs (takes from letter) passes syncs = λ holds. tagged_syncs marked letter (syncs holds)

pub pushes : (code : CodeShape) (host : HostState) (step : Step) (passes : Bool) → IsSoundCode code →
    IsHost code host.me → StepSyncs step passes → StepPushes code host step passes
pushes code host turns passes sound there syncs = thread_pushes code host.me host.running sound there
pushes code host (takes from letter) passes sound there syncs = syncs

pub both_ways : {A B C : Type 0} → A ↔ B → B ↔ C → A ↔ C
both_ways one two = (λ a. two.0 (one.0 a), λ c. one.1 (two.1 c))

pub some_same : {A : Type 0} (one other : A) → ◌≡◌ {A = Option A} (Some one) (Some other) → one ≡ other
some_same {A = A} one other same = ap or_one same
  where
    or_one : Option A → A
    or_one None = one
    or_one (Some found) = found

-- what a played host makes of a step that takes off: an open one as it was chosen, and any other by its check
abbrev pub IsOff : (Bool → Type 0) → CodeShape → HostState → Step → Outcome → Type 0
IsOff chosen code host step outcome =
    (passes : Bool) × (without_message (settled code host passes) ≡ outcome)
    × (chosen passes
    ⊎ ((¬ MayBeTop host (presented host step)) × (IsTrue passes ↔ IsTop host (presented host step))))

pub off_of : (code : CodeShape) (chosen : Bool → Type 0) (host : HostState) (step : Step) (outcome : Outcome) →
    takes_off code host (made_of step) ≡ true → RestsFor host (made_of step) →
    IsChosenStep chosen code host step outcome → IsOff chosen code host (made_of step) outcome
off_of code chosen host turns outcome off rest (inl (passes, why, unsure, is)) =
    (passes, sym (told_off code host host.running passes off) ∙ is, inl why)
off_of code chosen host turns outcome off rest (inr (closed, is)) =
    let (passes, made, check) = step_by code host turns outcome is in (
      passes,
      sym (step_off code host turns passes off rest) ∙ made,
      inr (
        λ unsure. closed (open_turn code host host.running off unsure),
        both_ways check (off_check code host turns off),
      ),
    )
off_of code chosen host (takes from letter) outcome off rest (inl (passes, why, unsure, is)) =
    (passes, sym (step_off code host (takes from (with_wrong_tags letter)) passes off rest) ∙ is, inl why)
off_of code chosen host (takes from letter) outcome off rest (inr (closed, is)) =
    let step = takes from (with_wrong_tags letter) in
    let (passes, made, check) = step_by code host step outcome is in (
      passes,
      sym (step_off code host step passes off rest) ∙ made,
      inr (
        λ unsure. closed (open_lgoto host (with_wrong_tags letter) unsure),
        both_ways check (off_check code host step off),
      ),
    )

-- where the step is not open, the real host makes of it what the played one does
pub agree : (key : List ℕ) (host real : HostState) (top : Token) (held : Option Token) (one other : Bool) →
    IsMade told_key top → top_token host.entries ≡ Some (tagged told_tag top) →
    top_token real.entries ≡ Some (tagged (real_tag key) top) →
    ¬ MayBeTop host (option_map (tagged told_tag) held) →
    IsTrue one ↔ IsTop host (option_map (tagged told_tag) held) →
    IsTrue other ↔ IsTop real (option_map (tagged (real_tag key)) held) → one ≡ other
agree key host real top None one other made at also sure check beside = same_value one other check beside
agree key host real top (Some held) true true made at also sure check beside = refl
agree key host real top (Some held) false false made at also sure check beside = refl
agree key host real top (Some held) true false made at also sure check beside =
    let same : top ≡ held =
    same_told top held made (some_same (tagged told_tag top) (tagged told_tag held) (sym at ∙ check.0 refl)) in
    absurd (false≢true (beside.1 (also ∙ ap (λ one. Some (tagged (real_tag key) one)) same)))
agree key host real top (Some held) false true made at also sure check beside =
    let same : tagged (real_tag key) top ≡ tagged (real_tag key) held =
    some_same (tagged (real_tag key) top) (tagged (real_tag key) held) (sym also ∙ beside.0 refl) in
    let unsure : IsUnsure (Some (tagged told_tag top)) (tagged told_tag held) = (
      λ is. false≢true (check.1 (at ∙ ap Some (sym is))),
      ap (λ (one : Token). record one { tag = told_tag top }) same,
    ) in
    absurd (sure (subst (λ found. IsUnsure found (tagged told_tag held)) (sym at) unsure))
