-- A host that has a journal has the front of it, at any line.
use Rattle.std.proofs.Common.{◌≡◌, ◌⊎◌, ◌∙◌, refl, sym, ap, subst, List, [], ◌∷◌, ◌++◌, Option, Some, None, inl, inr}
use Rattle.std.proofs.Common.{ℕ, ⊎_elim}
use Rattle.std.proofs.lemmas.List.{append_assoc}
use Rattle.std.specs.Prelude.{ℤ}
use Rattle.js_base.specs.declared.ids.HostId.{HostId}
use Rattle.host_code.specs.declared.message.Message.{Message}
use Rattle.host_code.specs.Code.{CodeShape}
use Rattle.host_core.specs.Host.{HostState, Outcome}
use Rattle.host_core.specs.Start.{host_at_start}
use Rattle.event_text.specs.JournalText.{IsSendLine, sent_words}
use Rattle.event_text.specs.Words.{Word}
use Rattle.journal_laws.specs.Plays.{AreNotedOf, IsJournalOf, MayMakeStep, Plays, step_words}
use Rattle.journal_laws.specs.Steps.{IsStepOfHost, Step}
use Rattle.jiffields.specs.Runs.{HasRun}

-- some steps of the host have these lines
abbrev HasSteps : CodeShape → HostState → List (List Word) → Type 0
HasSteps code start lines = (steps : List Step) × (last : HostState) × IsJournalOf code start lines steps last

-- nothing is sent, or there is one line for it
sent_lines : (code : CodeShape) (sent : Option (HostId × Message)) →
    (sent_words code sent ≡ []) ⊎ ((line : List Word) × IsSendLine line × (sent_words code sent ≡ line ∷ []))
sent_lines code None = inl refl
sent_lines code (Some letter) = inr (_, refl, refl)

-- no step
none_made : (code : CodeShape) (start : HostState) → HasSteps code start []
none_made code start = ([], start, ([], (refl, refl), inl refl))

-- a step that sent nothing, in front of others
quiet_step : (code : CodeShape) (start : HostState) (step : Step) (outcome : Outcome) (lines : List (List Word)) →
    MayMakeStep code start step → IsStepOfHost code start step outcome → sent_words code outcome.sent ≡ [] →
    HasSteps code outcome.state lines → HasSteps code start (step_words code step ∷ lines)
quiet_step code start step outcome lines may is quiet (steps, last, (all, plays, noted)) = (
  step ∷ steps,
  last,
  (
    step_words code step ∷ all,
    (outcome, all, may, is, plays, ap (λ said. step_words code step ∷ (said ++ all)) (sym quiet)),
    ⊎_elim (λ same. inl (ap (λ ls. step_words code step ∷ ls) same))
        (λ more. inr (more.0, more.1, ap (λ ls. step_words code step ∷ ls) more.2)) noted,
  ),
)

-- a step that sent something, in front of others
loud_step : (code : CodeShape) (start : HostState) (step : Step) (outcome : Outcome) (sent : List Word)
    (lines : List (List Word)) → MayMakeStep code start step → IsStepOfHost code start step outcome →
    sent_words code outcome.sent ≡ sent ∷ [] → HasSteps code outcome.state lines →
    HasSteps code start (step_words code step ∷ sent ∷ lines)
loud_step code start step outcome sent lines may is loud (steps, last, (all, plays, noted)) = (
  step ∷ steps,
  last,
  (
    step_words code step ∷ sent ∷ all,
    (outcome, all, may, is, plays, ap (λ said. step_words code step ∷ (said ++ all)) (sym loud)),
    ⊎_elim (λ same. inl (ap (λ ls. step_words code step ∷ sent ∷ ls) same))
        (λ more. inr (more.0, more.1, ap (λ ls. step_words code step ∷ sent ∷ ls) more.2)) noted,
  ),
)

-- a step whose line of what was sent is missing
cut_step : (code : CodeShape) (start : HostState) (step : Step) (outcome : Outcome) (sent : List Word) →
    MayMakeStep code start step → IsStepOfHost code start step outcome → IsSendLine sent →
    sent_words code outcome.sent ≡ sent ∷ [] → HasSteps code start (step_words code step ∷ [])
cut_step code start step outcome sent may is sends loud = (
  step ∷ [],
  outcome.state,
  (
    step_words code step ∷ sent ∷ [],
    (outcome, [], may, is, (refl, refl), ap (λ said. step_words code step ∷ (said ++ [])) (sym loud)),
    inr (sent, sends, refl),
  ),
)

first_same : (a b : List Word) (xs ys : List (List Word)) → ◌≡◌ {A = List (List Word)} (a ∷ xs) (b ∷ ys) → a ≡ b
first_same a b xs ys is = cc

rest_same : (a b : List Word) (xs ys : List (List Word)) → ◌≡◌ {A = List (List Word)} (a ∷ xs) (b ∷ ys) → xs ≡ ys
rest_same a b xs ys is = cc

pub front_steps : (code : CodeShape) (steps : List Step) (start last : HostState)
    (all front behind : List (List Word)) → Plays code start steps last all → all ≡ front ++ behind →
    HasSteps code start front
front_steps code steps start last all [] behind plays is = none_made code start
front_steps code [] start last all (line ∷ front) behind plays is =
    absurd (let none = sym plays.1 ∙ is in let never : ⊥ = cc in never)
front_steps code (step ∷ steps) start last all (line ∷ []) behind (outcome, later, may, does, plays, lines) is =
    let first : step_words code step ≡ line = first_same _ _ _ _ (sym lines ∙ is) in
    subst (λ (l : List Word). HasSteps code start (l ∷ [])) first
    (⊎_elim
    (λ quiet. quiet_step code start step outcome [] may does quiet (none_made code outcome.state))
    (λ loud. cut_step code start step outcome loud.0 may does loud.1 loud.2)
    (sent_lines code outcome.sent))
front_steps code (step ∷ steps) start last all (line ∷ next ∷ front) behind
    (outcome, later, may, does, plays, lines) is =
    let first : step_words code step ≡ line = first_same _ _ _ _ (sym lines ∙ is) in
    let rest : sent_words code outcome.sent ++ later ≡ next ∷ (front ++ behind) = rest_same _ _ _ _ (sym lines ∙ is) in
    subst (λ (l : List Word). HasSteps code start (l ∷ next ∷ front)) first
    (⊎_elim
    (λ quiet. quiet_step code start step outcome (next ∷ front) may does quiet
    (front_steps code steps outcome.state last later (next ∷ front) behind plays
    (ap (λ said. said ++ later) (sym quiet) ∙ rest)))
    (λ loud.
    let both : loud.0 ∷ later ≡ next ∷ (front ++ behind) = ap (λ said. said ++ later) (sym loud.2) ∙ rest in
    subst (λ (l : List Word). HasSteps code start (step_words code step ∷ l ∷ front))
    (first_same loud.0 next later (front ++ behind) both)
    (loud_step code start step outcome loud.0 front may does loud.2
    (front_steps code steps outcome.state last later front behind plays
    (rest_same loud.0 next later (front ++ behind) both))))
    (sent_lines code outcome.sent))

-- so a run of a journal has each front of it
pub front_run : (code : CodeShape) (values : List (List ℤ)) (me : HostId) (front behind : List (List Word)) →
    HasRun code values me (front ++ behind) → HasRun code values me front
front_run code values me front behind (key, steps, last, (all, plays, noted)) =
    let start = host_at_start code values key me in
    let made : HasSteps code start front = ⊎_elim
    (λ same. front_steps code steps start last all front behind plays (sym same))
    (λ more. front_steps code steps start last all front (behind ++ more.0 ∷ []) plays
    (more.2 ∙ append_assoc front behind (more.0 ∷ [])))
    noted in
    (key, made.0, made.1, made.2)
