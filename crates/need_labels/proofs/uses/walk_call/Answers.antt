use Rattle.std.proofs.Common.{refl}
use Rattle.need_labels.proofs.Walked.{walked_from, also_told}
use Rattle.need_labels.proofs.uses.walk_call.Goals as goal

pub returns : goal.returns
returns c =
    rw c.after_call-current.ensures
    (also_told _ _ _ (walked_from c.args.place.now c.args.found.now _ c.args.id _ _ _ refl refl refl
    (rw c.start-current.ensures at c.in_ok-add_exprs.ensures)))
