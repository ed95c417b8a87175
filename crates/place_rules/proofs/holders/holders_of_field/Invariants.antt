use Rattle.std.proofs.Common.{take}
use Rattle.jif_tree.specs.Trees.{field_tree}
use Rattle.place_rules.specs.PlaceRules.{IsWordOf, MayHoldField}
use Rattle.place_rules.proofs.holders.holders_of_field.Given as goal

-- it is the word of the hosts so far
abbrev pub invariant-loop-place : goal.invariant-loop-place
invariant-loop-place l = IsWordOf (MayHoldField (field_tree l.field, l.told)) (take l.place l.hosts) l.word
