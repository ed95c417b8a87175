use Rattle.std.proofs.Common.{◌≡◌, ◌++◌, map, take}
use Rattle.msg_cost.specs.Views.{ids_of}
use Rattle.msg_cost.proofs.index.add_block.Given as goal

-- the numbers so far
abbrev pub invariant-loop-statement : goal.invariant-loop-statement
invariant-loop-statement l =
    l.numbers.items
    ≡ l.fn.numbers.items ++ map (λ statement. statement.0) (ids_of (take l.statement-index l.block))
