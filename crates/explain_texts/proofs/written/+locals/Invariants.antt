use Rattle.std.proofs.Common.{◌≡◌, ◌++◌, take}
use Rattle.std.specs.List.{flat_map}
use Rattle.explain_texts.proofs.DraftParts.{locals_part}
use Rattle.explain_texts.proofs.written.+locals.Given as goal

-- the names of the locals so far were added
abbrev pub invariant-push_locals-loop-statement : goal.invariant-push_locals-loop-statement
invariant-push_locals-loop-statement l =
    l.tokens.items ≡ l.initial.tokens.items ++ flat_map locals_part (take l.statement-index l.block)
