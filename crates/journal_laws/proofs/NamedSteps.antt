-- The step of the third host, in which the token that it takes has a name, and that of the real one. What a host made
-- has no name, and no name stands on it twice.
use Rattle.std.proofs.Common.{◌≡◌, ◌∙◌, ◌⊎◌, ◌↔◌, ◌+◌, ◌≤◌, Bool, true, false, ℕ, suc, refl, ap, sym}
use Rattle.std.proofs.Common.{List, ◌∷◌, inl, inr, arith, codes}
use Rattle.std.specs.Prelude.{Option, Some, None, IsSome, IsTrue, ◌==◌, if◌then◌else◌}
use Rattle.std.specs.Option.{option_map}
use Rattle.std.proofs.lemmas.Bool.Decides.{nat_tests}
use Rattle.capability.specs.declared.token.Token.{Token}
use Rattle.host_code.specs.declared.instruction.Instr.{Instr}
use Rattle.host_code.specs.declared.message.Message.{Message}
use Rattle.host_code.specs.declared.message.Message.TheVariants as message
use Rattle.host_code.specs.Code.{CodeShape, instruction_at}
use Rattle.host_code.specs.MessageText.{host_text, message_text}
use Rattle.host_code.specs.Thread.{ThreadShape}
use Rattle.host_core.specs.Host.{HostState, Outcome, with_running}
use Rattle.host_core.specs.Told.{told_key, with_wrong_tags}
use Rattle.host_core.specs.Turn.{IsRunning, IsTurnOf}
use Rattle.event_text.specs.Lines.{words}
use Rattle.journal_laws.specs.Plays.{step_words}
use Rattle.journal_laws.specs.Steps.{Step, turns, takes, IsStepOfHost, after_running, after_turn, bare_step, told_step}
use Rattle.journal_laws.proofs.BareTakings.{printed_bare}
use Rattle.journal_laws.proofs.CountedNames.{Rests, count, hits, letter_hits}
use Rattle.journal_laws.proofs.CountedNames.{step_counts, step_hits}
use Rattle.journal_laws.proofs.FatedTags.{fate_tag}
use Rattle.journal_laws.proofs.FatedTags.{letter_fated, named, named_is, none}
use Rattle.journal_laws.proofs.FatedTags.{wrong_picked}
use Rattle.journal_laws.proofs.KeptStacks.{StepPushes, SyncsOther}
use Rattle.journal_laws.proofs.AlikeMoves.{made_of}
use Rattle.journal_laws.proofs.OffAgain.{IsStepBy}
use Rattle.journal_laws.proofs.Retagged.{message_bare}
use Rattle.journal_laws.proofs.Retagged.{tagged, tagged_message, tagged_step, tagged_thread}
use Rattle.journal_laws.proofs.SameChecks.{CheckOfInstruction, CheckOfThread}

pub both_ways : {A B C : Type 0} → A ↔ B → B ↔ C → A ↔ C
both_ways one two = (λ a. two.0 (one.0 a), λ c. one.1 (two.1 c))

pub turned : {A B : Type 0} → A ↔ B → B ↔ A
turned both = (both.1, both.0)

pub none_some : {A : Type 0} (one : A) → ◌≡◌ {A = Option A} None (Some one) → ⊥
none_some one is = cc

-- ---- a step by its truth value

pub step_is : (code : CodeShape) (host : HostState) (step : Step) (outcome : Outcome) →
    IsStepBy code host step outcome → IsStepOfHost code host step outcome
step_is code host (takes from letter) outcome (passes, is, check) = (passes, check, is)
step_is code host turns outcome (passes, is, check) = by host.running is check
  where
    runs : (thread : ThreadShape) (found : Option Instr) →
        after_running code (with_running host None) thread found passes ≡ outcome →
        IsTrue passes ↔ CheckOfInstruction code host thread.held found →
        IsRunning code (with_running host None) thread found outcome
    runs thread None is check = is
    runs thread (Some instruction) is check = (passes, check, is)

    by : (running : Option ThreadShape) → after_turn code host running passes ≡ outcome →
        IsTrue passes ↔ CheckOfThread code host running → IsTurnOf code host running outcome
    by None is check = is
    by (Some thread) is check = runs thread (instruction_at code host.me thread.at) is check

-- ---- the step of the third host, and that of the real one

abbrev pub move_of : ℕ → Step → Step
move_of name step = tagged_step (named name) step

abbrev pub real_of : (ℕ → Bool) → ℕ → Step → Step
real_of fate name step = tagged_step (fate_tag fate) (move_of name step)

pub told_move : (name : ℕ) (step : Step) → (name == 0) ≡ false →
    tagged_step (fate_tag none) (move_of name step) ≡ made_of step
told_move name turns some = refl
told_move name (takes from letter) some = ap (takes from) (letter_fated none name letter some ∙ wrong_picked letter)

pub tagged_bare : (tags : Token → List ℕ) (step : Step) → bare_step (tagged_step tags step) ≡ bare_step step
tagged_bare tags turns = refl
tagged_bare tags (takes from letter) = ap (takes from) (message_bare tags letter)

pub tagged_words : (code : CodeShape) (tags : Token → List ℕ) (step : Step) →
    step_words code (tagged_step tags step) ≡ step_words code step
tagged_words code tags turns = refl
tagged_words code tags (takes from letter) =
    ap (λ (text : List ℕ). codes "take" ∷ host_text code from ∷ words text)
    (sym (printed_bare code (tagged_message tags letter)) ∙ ap (message_text code) (message_bare tags letter)
    ∙ printed_bare code letter)

pub running_runs : (tags : Token → List ℕ) (running : Option ThreadShape) →
    IsSome (option_map (tagged_thread tags) running) → IsSome running
running_runs tags (Some thread) runs = refl
running_runs tags None runs = runs

pub runs_running : (tags : Token → List ℕ) (running : Option ThreadShape) → IsSome running →
    IsSome (option_map (tagged_thread tags) running)
runs_running tags (Some thread) runs = refl
runs_running tags None runs = runs

pub none_before : (tags : Token → List ℕ) (running : Option ThreadShape) →
    option_map (tagged_thread tags) running ≡ None → running ≡ None
none_before tags None rest = refl
none_before tags (Some thread) rest = absurd cc

pub made_syncs : (letter : Message) → SyncsOther (with_wrong_tags letter) → SyncsOther letter
made_syncs (message.Get request field index) other = tt
made_syncs (message.Set request field index value) other = tt
made_syncs (message.Forward request frame variable value) other = tt
made_syncs (message.Sync request frame entry token) other = other
made_syncs (message.Rgoto frame entry token) other = tt
made_syncs (message.RgotoWith frame entry token riders) other = tt
made_syncs (message.Lgoto token) other = tt
made_syncs (message.Value request value) other = tt
made_syncs (message.Ack request) other = tt
made_syncs (message.Token request token) other = tt

-- how often names stand on the third host
pub record Names (next : ℕ) (host : HostState) : Type 0 where
  pub single : (name : ℕ) → count name host ≤ 1
  pub zero_none : count 0 host ≡ 0
  pub fresh : (name : ℕ) → next ≤ name → count name host ≡ 0
  pub some : 1 ≤ next

pub not_zero : (name : ℕ) → 1 ≤ name → (name == 0) ≡ false
not_zero name some = by (name == 0) refl
  where
    by : (nil : Bool) → (name == 0) ≡ nil → nil ≡ false
    by false is = refl
    by true is = absurd (let e : name ≡ 0 = grind (arith, nat_tests) in omega (arith, e, some))

pub named_hits : (name next : ℕ) (token : Token) →
    hits name (tagged (named next) token) ≡ (if next == name then 1 else 0)
named_hits name next token =
    ap (λ right. if right then 0 else (if next == name then 1 else 0)) (named_is next token)

pub one_more : (next name : ℕ) (before after more : ℕ) → after ≤ before + more →
    (more ≡ 0) ⊎ (more ≡ (if next == name then 1 else 0)) →
    (next ≤ name → before ≡ 0) → before ≤ 1 → (after ≤ 1) × (suc next ≤ name → after ≡ 0)
one_more next name before after more few (inl is) fresh single = (
  omega (arith, few, is, single),
  λ past. let zero_before = fresh (omega (arith, past)) in
      omega (arith, few, is, zero_before),
)
one_more next name before after more few (inr is) fresh single = by (next == name) refl
  where
    by : (same : Bool) → (next == name) ≡ same → (after ≤ 1) × (suc next ≤ name → after ≡ 0)
    by true here =
        let same : next ≡ name = grind (arith, nat_tests) in
        let one : more ≡ 1 = is ∙ (rw here refl) in
        let before_none = fresh (omega (arith, same)) in
        (omega (arith, few, one, before_none), λ past. absurd (omega (arith, past, same)))
    by false here =
        let zero_more : more ≡ 0 = is ∙ (rw here refl) in (
          omega (arith, few, zero_more, single),
          λ past. let before_none = fresh (omega (arith, past)) in
              omega (arith, few, zero_more, before_none),
        )

pub letter_named : (name next : ℕ) (letter : Message) →
    (letter_hits name (tagged_message (named next) letter) ≡ 0)
    ⊎ (letter_hits name (tagged_message (named next) letter) ≡ (if next == name then 1 else 0))
letter_named name next (message.Get request field index) = inl refl
letter_named name next (message.Set request field index value) = inl refl
letter_named name next (message.Forward request frame variable value) = inl refl
letter_named name next (message.Sync request frame entry token) = inr (named_hits name next token)
letter_named name next (message.Rgoto frame entry token) = inr (named_hits name next token)
letter_named name next (message.RgotoWith frame entry token riders) = inr (named_hits name next token)
letter_named name next (message.Lgoto token) = inl refl
letter_named name next (message.Value request value) = inl refl
letter_named name next (message.Ack request) = inl refl
letter_named name next (message.Token request token) = inr (named_hits name next token)

pub step_named : (name next : ℕ) (step : Step) →
    (step_hits name (move_of next step) ≡ 0) ⊎ (step_hits name (move_of next step) ≡ (if next == name then 1 else 0))
step_named name next turns = inl refl
step_named name next (takes from letter) = letter_named name next letter

pub names_on : (code : CodeShape) (next : ℕ) (host : HostState) (step : Step) (passes : Bool) → Names next host →
    Rests host (move_of next step) → host.key ≡ told_key → StepPushes code host (move_of next step) passes →
    Names (suc next) (told_step code host (move_of next step) passes).state
names_on code next host step passes names rest key other = record {
  single = λ name. (all name).0;
  zero_none =
      let few = step_counts 0 code host (move_of next step) passes rest key other in
      by (step_named 0 next step) few;
  fresh = λ name. (all name).1;
  some = let more = names.some in omega (arith, more);
}
  where
    all : (name : ℕ) → (count name (told_step code host (move_of next step) passes).state ≤ 1)
        × (suc next ≤ name → count name (told_step code host (move_of next step) passes).state ≡ 0)
    all name =
        one_more next name (count name host) (count name (told_step code host (move_of next step) passes).state)
        (step_hits name (move_of next step)) (step_counts name code host (move_of next step) passes rest key other)
        (step_named name next step) (names.fresh name) (names.single name)

    by : (step_hits 0 (move_of next step) ≡ 0) ⊎ (step_hits 0 (move_of next step) ≡ (if next == 0 then 1 else 0)) →
        count 0 (told_step code host (move_of next step) passes).state
        ≤ count 0 host + step_hits 0 (move_of next step) →
        count 0 (told_step code host (move_of next step) passes).state ≡ 0
    by (inl is) few = let before = names.zero_none in omega (arith, few, is, before)
    by (inr is) few =
        let zero_more : step_hits 0 (move_of next step) ≡ 0 = is ∙ (rw (not_zero next names.some) refl) in
        let before = names.zero_none in
        omega (arith, few, zero_more, before)
