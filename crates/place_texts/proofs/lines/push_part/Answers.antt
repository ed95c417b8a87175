use Rattle.need_labels.specs.Labelled.{labelled_of}
use Rattle.place_texts.proofs.ToldHosts.{told_at, told_long}
use Rattle.place_texts.proofs.lines.push_part.Goals as goal

pub bounds-holding-place : goal.bounds-holding-place
bounds-holding-place c =
    let holding = c.args.holding.now in
    told_long holding.hosts.now.principals (labelled_of holding.checked.now) holding.hosts.now.hosts holding.told.now
    c.loop-place.place c.requires.holding.told (rw c.hosts-hosts.ensures.hosts at c.loop-place-test.true)

pub push_at-requires-clause-told : goal.push_at-requires-clause-told
push_at-requires-clause-told c =
    let holding = c.args.holding.now in
    rw c.deref.ensures.value
    (told_at holding.hosts.now.principals (labelled_of holding.checked.now) holding.hosts.now.hosts holding.told.now
    c.loop-place.place c.index-hosts-place.result c.index-holding-place.result c.requires.holding.told
    (rw c.hosts-hosts.ensures.hosts at c.loop-place-test.true)
    (rw c.hosts-hosts.ensures.hosts at c.index-hosts-place.is))
