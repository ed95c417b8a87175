-- What is due behind a stage that is read once more.
use Rattle.std.proofs.Common.{◌+◌, ◌*◌, ◌<◌, ◌≤◌, ◌^◌, List, length, map, inl, arith, Result}
use Rattle.std.proofs.lemmas.List.{length-map}
use Rattle.js_base.specs.declared.limits.TheConstants.{METHODS, VARIABLES}
use Rattle.jif_tree.specs.declared.program.Var.{Var}
use Rattle.jif_tree.specs.Trees.{var_tree}
use Rattle.front_end.specs.declared.stop.Stop.{Stop}
use Rattle.front_end.specs.declared.verdict.Verdict.{Verdict}
use Rattle.front_end.specs.Loading.{EndsIn}
use Rattle.front_end.specs.Stages.{StageEnd, given, DueThen}
use Rattle.front_end.specs.Verdicts.{VerdictShape}
use Rattle.front_end.proofs.Stages.{ends_weaker}

-- a stage that gave this, and what is due for it
pub due_behind : {X : Type 0} (First : StageEnd X → Type 0) (Last : X → VerdictShape → Type 0) (x : X)
    (result : Result Verdict Stop) → First (given x) → EndsIn (Last x) result → EndsIn (DueThen First Last) result
due_behind First Last x result was ends =
    ends_weaker (Last x) (DueThen First Last) result (λ verdict is. inl (x, was, is)) ends

-- a program has few variables
pub few_variables : (vars : List Var) → length (map var_tree vars) ≤ METHODS * (VARIABLES + 1) → length vars < 2 ^ 32
few_variables vars few = let same = length-map vars var_tree in omega (arith, same, few)
