use Rattle.std.proofs.Common.{◌<◌, length, map, refl, arith, rules}
use Rattle.std.proofs.lemmas.Grind.{common_steps}
use Rattle.std.proofs.lemmas.List.{length-map}
use Rattle.std.proofs.lemmas.Result.{IfOk-weaker}
use Rattle.std.specs.Prelude.{string_bytes}
use Rattle.front_end.specs.Verdicts.{verdict_shape}
use Rattle.jifmerge.specs.declared.due.TheConstants.{FEWEST}
use Rattle.jifmerge.proofs.DueWords.{usage_due}
use Rattle.jifmerge.proofs.due.due_verdict.Goals as goal

pub returns-then-words-lt-FEWEST-clause-due : goal.returns-then-words-lt-FEWEST-clause-due
returns-then-words-lt-FEWEST-clause-due g c =
    let few : length c.args.words.now < FEWEST = first_of (search rules, grind (arith, common_steps), grind arith) in
    IfOk-weaker c.usage.result _ _
    (λ verdict is. usage_due _ _ (verdict_shape verdict) (rw (length-map c.args.words.now string_bytes) few) refl refl
    is)
    c.usage.ensures
