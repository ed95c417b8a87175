use Rattle.std.proofs.lemmas.Result.{err_from_is_err_and}
use Rattle.byte_format.proofs.Items.{items_more, items_done}
use Rattle.split_file.proofs.Items.{items_fail}
use Rattle.split_file.specs.Reading.{label_at}
use Rattle.split_file.proofs.tables.label_rows_of.Goals as goal

pub returns-in_err-label : goal.returns-in_err-label
returns-in_err-label c =
    let p = err_from_is_err_and c.from_residual.result c.from_residual.ensures.1 in
    rw (p.1, p.2) (items_fail (λ _. label_at) c.loop.labels.items (c.args.count) c.loop.counter _ c.loop.rest.now _
    c.loop-test.true c.in_err-label.ensures c.loop.invariant)

pub loop-preserved : goal.loop-preserved
loop-preserved c =
    rw c.in_ok-push.ensures.items (items_more (λ _. label_at) c.loop.labels.items (c.args.count) c.loop.counter _
    c.loop.rest.now _ _ c.loop-test.true c.in_ok-label.ensures c.loop.invariant)

pub returns : goal.returns
returns c =
    items_done (λ _. label_at) c.loop.labels.items (c.args.count) c.loop.counter c.loop.rest.now _ c.loop-test.false
    c.loop.invariant
