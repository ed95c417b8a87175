use Rattle.need_labels.specs.Labelled.{labelled_of}
use Rattle.place_texts.proofs.ToldHosts.{told_more}
use Rattle.place_texts.proofs.lines.told_hosts.Goals as goal

pub loop-host-preserved : goal.loop-host-preserved
loop-host-preserved c =
    rw c.in_ok-push.ensures.items
    (told_more c.args.search.now.principals.now (labelled_of c.args.search.now.checked.now) c.args.hosts.now
    c.loop-host.told.items c.loop-host.host-index c.host-item.result (record { fields = c.in_ok-fields.fields })
    c.loop-host-test.true c.host-item.is c.loop-host.invariant
    (rw c.label.ensures at c.in_ok-fields.ensures))
