use Rattle.std.proofs.Common.{rules, ap, ◌∙◌}
use Rattle.std.proofs.lemmas.Int.{to_z-of_z, wrapping_neg_is}
use Rattle.std.specs.Int.{w64, int_wrapping_neg}
use Rattle.jif_tree.proofs.operators.negated.Goals as goal

pub returns : goal.returns
returns c =
    to_z-of_z w64 c.wrapping_neg.result (search rules) ∙ c.wrapping_neg.ensures
    ∙ ap (int_wrapping_neg w64) (to_z-of_z w64 c.args.value c.ranges.value)
    ∙ wrapping_neg_is w64 c.args.value c.ranges.value
