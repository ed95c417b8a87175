use Rattle.need_labels.specs.Finding.{labelled_at}
use Rattle.need_labels.proofs.Backings.{label_backs}
use Rattle.need_labels.proofs.Exprs.{no_reads}
use Rattle.need_labels.proofs.FoundRows.{one_added}
use Rattle.need_labels.proofs.WholePrograms.{head_added}
use Rattle.need_labels.proofs.finding.add_method.Goals as goal

pub returns : goal.returns
returns c =
    let principals = c.args.place.now.principals.now in
    let labelled = labelled_at c.args.place.now in
    let begin = c.args.place.now.method.now.begin in
    head_added _ _
    (one_added principals labelled c.args.found.now _ _ c.need_of.result begin c.in_ok-push.ensures.items
    c.in_ok-push-2.ensures.items (c.need_of.ensures principals _ (label_backs principals begin))
    (no_reads principals labelled _ _ c.args.found.now.reads) (label_backs principals begin))
    (rw c.deref.ensures.value at c.in_ok-add_block.ensures)
