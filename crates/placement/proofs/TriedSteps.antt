-- The moves of a pass: which they are, and that they put each part on a host that may hold it.
use Rattle.std.proofs.Common.{◌≡◌, ◌≢◌, ◌∙◌, ℕ, zero, suc, ◌+◌, ◌<◌, Bool, List, [], ◌∷◌, ◌++◌, length, get_or}
use Rattle.std.proofs.Common.{drop, drop-cons, sym, ap, subst, arith, inl, inr}
use Rattle.std.proofs.lemmas.List.Elements.{All-head, All-tail}
use Rattle.std.specs.Prelude.{All, nat_eq, if◌then◌else◌, slice_index}
use Rattle.std.specs.List.{AllByRecursion}
use Rattle.std.specs.Int.{bit_at}
use Rattle.std.proofs.lemmas.Bool.{cases_eq, eq-eqb, ne_eqb}
use Rattle.std.proofs.lemmas.Nat.Bits.{bit_at-zero}
use Rattle.need_labels.specs.Plan.{PlanShape}
use Rattle.msg_cost.specs.declared.step.Step.{Step}
use Rattle.msg_cost.specs.declared.step.Step.TheVariants as step
use Rattle.place_rules.specs.Allowed.{AllowedShape}
use Rattle.place_rules.specs.PlaceRules.{IsWordOfSome}
use Rattle.placement.specs.declared.costed.Costed.{Costed}
use Rattle.placement.specs.declared.part.Part.{Part}
use Rattle.placement.specs.Choice.{after_step, after_steps}
use Rattle.placement.specs.Steps.{step_to, field_part, statement_part, steps_of, steps_from, steps_in, IsAllowedStep}
use Rattle.placement.specs.Views.{IsCostedAs}
use Rattle.placement.proofs.Passes.{steps_append}

-- ---- the moves of a part

with_step : (part : Part) (word host : ℕ) → bit_at word host ≡ 1 →
    steps_of part word (suc host) ≡ steps_of part word host ++ step_to part host ∷ []
with_step part word host has =
    ap (λ (test : Bool). steps_of part word host ++ (if test then step_to part host ∷ [] else []))
    (eq-eqb (bit_at word host) 1 has)

without_step : (part : Part) (word host : ℕ) → bit_at word host ≢ 1 →
    steps_of part word (suc host) ≡ steps_of part word host ++ []
without_step part word host has =
    ap (λ (test : Bool). steps_of part word host ++ (if test then step_to part host ∷ [] else []))
    (ne_eqb (bit_at word host) 1 has)

-- the plan after one more host was tried
pub tried_more : (cost : PlanShape → ℕ) (start : PlanShape) (part : Part) (word host : ℕ) → bit_at word host ≡ 1 →
    after_step cost (after_steps cost start (steps_of part word host)) (step_to part host)
    ≡ after_steps cost start (steps_of part word (suc host))
tried_more cost start part word host has =
    sym (ap (λ (steps : List Step). after_steps cost start steps) (with_step part word host has)
    ∙ steps_append cost start (steps_of part word host) (step_to part host ∷ []))

pub tried_no_more : (cost : PlanShape → ℕ) (start : PlanShape) (part : Part) (word host : ℕ) → bit_at word host ≢ 1 →
    after_steps cost start (steps_of part word host) ≡ after_steps cost start (steps_of part word (suc host))
tried_no_more cost start part word host has =
    sym (ap (λ (steps : List Step). after_steps cost start steps) (without_step part word host has)
    ∙ steps_append cost start (steps_of part word host) [])

-- ---- facts for all moves

all_append : (P : Step → Type 0) (first second : List Step) → AllByRecursion P first → AllByRecursion P second →
    AllByRecursion P (first ++ second)
all_append P [] second here rest = rest
all_append P (step ∷ first) second here rest = (here.0, all_append P first second here.1 rest)

all_first : (P : Step → Type 0) (first second : List Step) → AllByRecursion P (first ++ second) →
    AllByRecursion P first
all_first P [] second all = tt
all_first P (step ∷ first) second all = (all.0, all_first P first second all.1)

all_second : (P : Step → Type 0) (first second : List Step) → AllByRecursion P (first ++ second) →
    AllByRecursion P second
all_second P [] second all = all
all_second P (step ∷ first) second all = all_second P first second all.1

-- what holds of the moves to the hosts of a word
all_of : (P : Step → Type 0) (part : Part) (word count : ℕ) →
    ((host : ℕ) → bit_at word host ≡ 1 → P (step_to part host)) → AllByRecursion P (steps_of part word count)
all_of P part word zero each = tt
all_of P part word (suc host) each =
    let before = all_of P part word host each in
    let All : List Step → Type 0 = λ steps. AllByRecursion P steps in
    elim (cases_eq (bit_at word host) 1) [
      | inl has ↦ subst All (sym (with_step part word host has))
          (all_append P (steps_of part word host) (step_to part host ∷ []) before (each host has, tt))
      | inr not ↦ subst All (sym (without_step part word host not))
          (all_append P (steps_of part word host) [] before tt)
    ]

-- the move to a host of the word is among them
one_of : (P : Step → Type 0) (part : Part) (word count : ℕ) → AllByRecursion P (steps_of part word count) →
    (host : ℕ) → host < count → bit_at word host ≡ 1 → P (step_to part host)
one_of P part word zero all host less has = absurd (omega arith)
one_of P part word (suc last) all host less has =
    let All : List Step → Type 0 = λ steps. AllByRecursion P steps in
    elim (cases_eq host last) [
      | inl same ↦
          let here : bit_at word last ≡ 1 = subst (λ (h : ℕ). bit_at word h ≡ 1) same has in
          let those = subst All (with_step part word last here) all in
          let found = all_second P (steps_of part word last) (step_to part last ∷ []) those in
          subst (λ (h : ℕ). P (step_to part h)) (sym same) found.0
      | inr other ↦
          one_of P part word last
          (all_first P (steps_of part word last)
          (if nat_eq (bit_at word last) 1 then step_to part last ∷ [] else []) all) host (omega arith) has
    ]

-- what holds of the moves of all parts, each with its word
all_from : (P : Step → Type 0) (part_of : ℕ → Part) (count number : ℕ) (words : List ℕ) →
    ((place : ℕ) (host : ℕ) → bit_at (slice_index words place) host ≡ 1 → P (step_to (part_of (number + place)) host)) →
    AllByRecursion P (steps_from part_of count number words)
all_from P part_of count number [] each = tt
all_from P part_of count number (word ∷ words) each =
    let here : number + 0 ≡ number = omega arith in
    all_append P (steps_of (part_of number) word count) (steps_from part_of count (suc number) words)
    (all_of P (part_of number) word count
    (λ host has. subst (λ (n : ℕ). P (step_to (part_of n) host)) here (each 0 host has)))
    (all_from P part_of count (suc number) words
    (λ place host has.
    let next : number + suc place ≡ suc number + place = omega arith in
    subst (λ (n : ℕ). P (step_to (part_of n) host)) next (each (suc place) host has)))

one_from : (P : Step → Type 0) (part_of : ℕ → Part) (count number : ℕ) (words : List ℕ) →
    AllByRecursion P (steps_from part_of count number words) → (place host : ℕ) → host < count →
    bit_at (slice_index words place) host ≡ 1 → P (step_to (part_of (number + place)) host)
one_from P part_of count number [] all place host less has =
    let none : bit_at 0 host ≡ 0 = bit_at-zero host in
    absurd (omega arith)
one_from P part_of count number (word ∷ words) all zero host less has =
    let here : number ≡ number + 0 = omega arith in
    subst (λ (n : ℕ). P (step_to (part_of n) host)) here
    (one_of P (part_of number) word count
    (all_first P (steps_of (part_of number) word count) (steps_from part_of count (suc number) words) all) host less
    has)
one_from P part_of count number (word ∷ words) all (suc place) host less has =
    let next : suc number + place ≡ number + suc place = omega arith in
    subst (λ (n : ℕ). P (step_to (part_of n) host)) next
    (one_from P part_of count (suc number) words
    (all_second P (steps_of (part_of number) word count) (steps_from part_of count (suc number) words) all) place host
    less has)

bit_below : (count : ℕ) (words : List ℕ) → All (IsWordOfSome count) words → (place host : ℕ) →
    bit_at (slice_index words place) host ≡ 1 → host < count
bit_below count [] some place host has =
    let none : bit_at 0 host ≡ 0 = bit_at-zero host in
    absurd (omega arith)
bit_below count (word ∷ words) some zero host has =
    (All-head (IsWordOfSome count) word words some).within host has
bit_below count (word ∷ words) some (suc place) host has =
    bit_below count words (All-tail (IsWordOfSome count) word words some) place host has

-- each move of a pass is to a host that may hold the part
pub steps_allowed : (count : ℕ) (allowed : AllowedShape) →
    AllByRecursion (IsAllowedStep allowed) (steps_in count allowed)
steps_allowed count allowed =
    all_append (IsAllowedStep allowed) (steps_from field_part count 0 allowed.fields)
    (steps_from statement_part count 0 allowed.statements)
    (all_from (IsAllowedStep allowed) field_part count 0 allowed.fields
    (λ place host has. subst (λ (n : ℕ). bit_at (slice_index allowed.fields n) host ≡ 1) (sym (plus_none place)) has))
    (all_from (IsAllowedStep allowed) statement_part count 0 allowed.statements
    (λ place host has.
    subst (λ (n : ℕ). bit_at (slice_index allowed.statements n) host ≡ 1) (sym (plus_none place)) has))
  where
    plus_none : (place : ℕ) → 0 + place ≡ place
    plus_none place = omega arith

-- what holds of each move of a pass holds of each move to a host that may hold the part, where there are so many hosts
-- at least
pub step_among : (P : Step → Type 0) (count : ℕ) (allowed : AllowedShape) → All (IsWordOfSome count) allowed.fields →
    All (IsWordOfSome count) allowed.statements → AllByRecursion P (steps_in count allowed) → (step : Step) →
    IsAllowedStep allowed step → P step
step_among P count allowed fields statements all (step.Field field host) has =
    let here : 0 + field.0 ≡ field.0 = omega arith in
    subst (λ (n : ℕ). P (step_to (field_part n) host.0)) here
    (one_from P field_part count 0 allowed.fields
    (all_first P (steps_from field_part count 0 allowed.fields) (steps_from statement_part count 0 allowed.statements)
    all) field.0 host.0 (bit_below count allowed.fields fields field.0 host.0 has) has)
step_among P count allowed fields statements all (step.Statement statement host) has =
    let here : 0 + statement.0 ≡ statement.0 = omega arith in
    subst (λ (n : ℕ). P (step_to (statement_part n) host.0)) here
    (one_from P statement_part count 0 allowed.statements
    (all_second P (steps_from field_part count 0 allowed.fields) (steps_from statement_part count 0 allowed.statements)
    all) statement.0 host.0 (bit_below count allowed.statements statements statement.0 host.0 has)
    has)

-- ---- plans with their costs

pub with_more : (cost : PlanShape → ℕ) (start : PlanShape) (part : Part) (word host : ℕ) (best next : Costed) →
    bit_at word host ≡ 1 → IsCostedAs cost (after_steps cost start (steps_of part word host)) best →
    IsCostedAs cost (after_step cost best.plan (step_to part host)) next →
    IsCostedAs cost (after_steps cost start (steps_of part word (host + 1))) next
with_more cost start part word host best next has so_far tried =
    let more : after_step cost best.plan (step_to part host)
    ≡ after_steps cost start (steps_of part word (suc host)) =
    ap (λ (plan : PlanShape). after_step cost plan (step_to part host)) so_far.same
    ∙ tried_more cost start part word host has in
    let next_number : suc host ≡ host + 1 = omega arith in
    let Q : ℕ → Type 0 = λ n. IsCostedAs cost (after_steps cost start (steps_of part word n)) next in
    subst Q next_number (subst (λ (plan : PlanShape). IsCostedAs cost plan next) more tried)

pub with_no_more : (cost : PlanShape → ℕ) (start : PlanShape) (part : Part) (word host : ℕ) (best : Costed) →
    bit_at word host ≢ 1 → IsCostedAs cost (after_steps cost start (steps_of part word host)) best →
    IsCostedAs cost (after_steps cost start (steps_of part word (host + 1))) best
with_no_more cost start part word host best has so_far =
    let next_number : suc host ≡ host + 1 = omega arith in
    let Q : ℕ → Type 0 = λ n. IsCostedAs cost (after_steps cost start (steps_of part word n)) best in
    subst Q next_number
    (subst (λ (plan : PlanShape). IsCostedAs cost plan best) (tried_no_more cost start part word host has) so_far)

-- the moves of one part were tried, and those of the parts behind it are left
pub parts_left : (cost : PlanShape → ℕ) (part_of : ℕ → Part) (count number : ℕ) (words : List ℕ)
    (plan next all : PlanShape) → number < length words →
    after_steps cost plan (steps_from part_of count number (drop number words)) ≡ all →
    next ≡ after_steps cost plan (steps_of (part_of number) (get_or words number 0) count) →
    after_steps cost next (steps_from part_of count (number + 1) (drop (number + 1) words)) ≡ all
parts_left cost part_of count number words plan next all within was is =
    let word = get_or words number 0 in
    let rest = drop (suc number) words in
    let cut : drop number words ≡ word ∷ rest = drop-cons words number 0 within in
    let first = steps_of (part_of number) word count in
    let others = steps_from part_of count (suc number) rest in
    let next_number : number + 1 ≡ suc number = omega arith in
    ap (λ (n : ℕ). after_steps cost next (steps_from part_of count n (drop n words))) next_number
    ∙ ap (λ (one : PlanShape). after_steps cost one others) is
    ∙ sym (steps_append cost plan first others)
    ∙ sym (ap (λ (left : List ℕ). after_steps cost plan (steps_from part_of count number left)) cut)
    ∙ was

pub both_passes : (cost : PlanShape → ℕ) (first second : List Step) (start plan : PlanShape) (next : Costed) →
    plan ≡ after_steps cost start first → IsCostedAs cost (after_steps cost plan second) next →
    IsCostedAs cost (after_steps cost start (first ++ second)) next
both_passes cost first second start plan next is tried =
    let all : after_steps cost plan second ≡ after_steps cost start (first ++ second) =
    ap (λ (one : PlanShape). after_steps cost one second) is ∙ sym (steps_append cost start first second) in
    subst (λ (one : PlanShape). IsCostedAs cost one next) all tried
