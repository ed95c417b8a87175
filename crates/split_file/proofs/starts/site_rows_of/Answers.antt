use Rattle.std.proofs.lemmas.Result.{err_from_is_err_and}
use Rattle.byte_format.proofs.Items.{items_more, items_done}
use Rattle.split_file.proofs.Items.{items_fail}
use Rattle.split_file.specs.Reading.{host_id_at}
use Rattle.split_file.proofs.starts.site_rows_of.Goals as goal

pub returns-in_err-site : goal.returns-in_err-site
returns-in_err-site c =
    let p = err_from_is_err_and c.from_residual.result c.from_residual.ensures.1 in
    rw (p.1, p.2) (items_fail (λ _. host_id_at c.args.hosts) c.loop.sites.items
    (c.args.count) c.loop.counter _ c.loop.rest.now _
    c.loop-test.true c.in_err-site.ensures c.loop.invariant)

pub loop-preserved : goal.loop-preserved
loop-preserved c =
    rw c.in_ok-push.ensures.items (items_more (λ _. host_id_at c.args.hosts) c.loop.sites.items
    (c.args.count) c.loop.counter _
    c.loop.rest.now _ _ c.loop-test.true c.in_ok-site.ensures c.loop.invariant)

pub returns : goal.returns
returns c =
    items_done (λ _. host_id_at c.args.hosts) c.loop.sites.items (c.args.count) c.loop.counter c.loop.rest.now _
    c.loop-test.false
    c.loop.invariant
