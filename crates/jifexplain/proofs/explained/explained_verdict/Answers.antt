use Rattle.std.proofs.Common.{subst, sym}
use Rattle.front_end.specs.Loading.{EndsIn}
use Rattle.front_end.specs.Verdicts.{verdict_shape}
use Rattle.front_end.specs.declared.verdict.Verdict.{Verdict}
use Rattle.jifexplain.specs.Explained.{ExplainsVerdict}
use Rattle.jifexplain.specs.Questions.{asked_shape}
use Rattle.jifexplain.proofs.explained.explained_verdict.Goals as goal

pub returns-in-Refuse : goal.returns-in-Refuse
returns-in-Refuse c = λ p h loaded_p loaded_h.
    subst (λ (refused : Verdict). EndsIn (ExplainsVerdict c.args.names.now.program.now c.args.names.now.hosts.now p h
    (asked_shape c.args.names.now.asked) (verdict_shape refused)) c.explained.result) (sym c.in-Refuse.is) (c.explained.ensures p h loaded_p loaded_h)
