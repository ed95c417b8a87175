-- Numbers of statements of a program that is made, in decimal digits.
use Rattle.std.proofs.Common.{◌≡◌, ◌≢◌, ℕ, ◌<◌, List, sym, ◌∙◌, arith}
use Rattle.std.specs.Fmt.{decimal}
use Rattle.front_end.specs.StepCounts.{IsStepCount}
use Rattle.front_end.proofs.StepCounts.{same_steps}
use Rattle.split_words.specs.declared.words.TheConstants.{MADE_STATEMENTS}
use Rattle.split_words.specs.Commands.{IsMadeCount}

-- so many steps could be asked for too
pub as_steps : (statements : ℕ) → IsMadeCount statements → IsStepCount statements
as_steps statements is = record { least = is.least; most = omega (arith, is.most) }

-- no number of statements was written where no number of steps was
pub none_made : (word : List ℕ) → ((steps : ℕ) → IsStepCount steps → word ≢ decimal steps) →
    (statements : ℕ) → IsMadeCount statements → word ≢ decimal statements
none_made word none statements is = none statements (as_steps statements is)

-- and where a larger one was
pub more_made : (word : List ℕ) (many : ℕ) → IsStepCount many → word ≡ decimal many → MADE_STATEMENTS < many →
    (statements : ℕ) → IsMadeCount statements → word ≢ decimal statements
more_made word many count was more statements is same =
    let equal : many ≡ statements = same_steps many statements count (as_steps statements is) (sym was ∙ same) in
    let never : ⊥ = omega (arith, is.most) in never
