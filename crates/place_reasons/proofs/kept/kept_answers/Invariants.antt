use Rattle.std.proofs.Common.{All, take}
use Rattle.place_reasons.specs.Kept.{AnswersQuestion}
use Rattle.place_reasons.proofs.kept.kept_answers.Given as goal

-- none of those so far is asked for
abbrev pub invariant-loop-one : goal.invariant-loop-one
invariant-loop-one l = All (λ one. ¬ AnswersQuestion l.question l.held one) (take l.one-index l.kept)
