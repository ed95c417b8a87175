use Rattle.std.proofs.Common.{◌≡◌, ◌++◌, take}
use Rattle.std.specs.List.{flat_map}
use Rattle.explain_texts.proofs.DraftParts.{starts_part}
use Rattle.explain_texts.proofs.written.+starts.Given as goal

-- the first tokens of the statements so far were added
abbrev pub invariant-push_starts-loop-statement : goal.invariant-push_starts-loop-statement
invariant-push_starts-loop-statement l =
    l.tokens.items ≡ l.initial.tokens.items ++ flat_map starts_part (take l.statement-index l.block)
