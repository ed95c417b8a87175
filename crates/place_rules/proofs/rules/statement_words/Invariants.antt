use Rattle.std.proofs.Common.{length, take}
use Rattle.std.specs.List.{AllZip, zip}
use Rattle.place_rules.specs.PlaceRules.{IsWordOf, MayHoldStatement}
use Rattle.place_rules.proofs.rules.statement_words.Given as goal

-- they are the words of the statements so far
abbrev pub invariant-loop-label : goal.invariant-loop-label
invariant-loop-label l = AllZip (λ one word. IsWordOf (MayHoldStatement one) l.hosts word)
    (take (length l.yielded) (zip l.used l.need)) l.words.items
