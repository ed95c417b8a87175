use Rattle.std.proofs.Common.{refl, ◌∷◌, []}
use Rattle.need_labels.proofs.Exprs.{both_exprs}
use Rattle.need_labels.proofs.Walked.{walked_from}
use Rattle.need_labels.proofs.uses.walk_two.Goals as goal

pub returns : goal.returns
returns c =
    walked_from c.args.place.now c.args.found.now _ c.args.id _ _ _ refl refl refl
    (both_exprs (_ ∷ []) (_ ∷ []) (rw c.start-current.ensures at c.in_ok-add_expr.ensures.adds)
    c.in_ok-add_expr-2.ensures.adds)
