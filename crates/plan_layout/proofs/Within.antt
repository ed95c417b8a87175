-- Nothing in a row begins behind its end.
use Rattle.std.proofs.Common.{◌≤◌, ◌<◌, ℕ, zero, suc, List, [], ◌∷◌, length, get_or, arith}
use Rattle.drawing_text.specs.Spans.{past, past_all, starts_from}
use Rattle.drawing_text.specs.declared.spans.Span.{Span}

behind_from : (from : ℕ) (spans : List Span) → from ≤ past_all from spans
behind_from from [] = omega arith
behind_from from (span ∷ spans) =
    let more = behind_from (past from span) spans in omega (arith, more)

pub starts_within : (from k d : ℕ) (spans : List Span) → k < length (starts_from from spans) →
    get_or (starts_from from spans) k d ≤ past_all from spans
starts_within from k d [] lt = absurd (omega (arith, lt))
starts_within from zero d (span ∷ spans) lt =
    let more = behind_from (past from span) spans in omega (arith, more)
starts_within from (suc k) d (span ∷ spans) lt = starts_within (past from span) k d spans (omega (arith, lt))
