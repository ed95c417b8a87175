use Rattle.std.proofs.Common.{length, map, take}
use Rattle.std.specs.List.{AllZip, zip}
use Rattle.jif_tree.specs.Trees.{field_tree}
use Rattle.place_rules.specs.PlaceRules.{IsWordOf, MayHoldField}
use Rattle.place_rules.proofs.rules.field_words.Given as goal

-- they are the words of the fields so far
abbrev pub invariant-loop-field : goal.invariant-loop-field
invariant-loop-field l = AllZip (λ one word. IsWordOf (MayHoldField one) l.hosts word)
    (take (length l.yielded) (zip (map field_tree l.fields) l.told)) l.words.items
