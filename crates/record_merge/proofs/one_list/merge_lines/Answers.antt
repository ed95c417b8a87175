use Rattle.std.proofs.Common.{◌∙◌, length, ap, subst}
use Rattle.net_world.specs.World.{world_at_start}
use Rattle.record_merge.specs.JournalLines.{all_of}
use Rattle.record_merge.specs.Meeting.{IsMetToEnd}
use Rattle.record_merge.proofs.Merged.{not_merged, all_met}
use Rattle.record_merge.proofs.one_list.merge_lines.Goals as goal

pub first_left-requires-clause-count : goal.first_left-requires-clause-count
first_left-requires-clause-count c = ap length c.deref.ensures.value ∙ c.in_ok-events.ensures.count

pub returns-in-Some-clause-refused : goal.returns-in-Some-clause-refused
returns-in-Some-clause-refused c =
    let code = c.args.code.now in
    let rows = c.args.hosts.now.hosts in
    let store = c.args.start.now in
    let places = c.walk.new.places.items in
    not_merged code (world_at_start code rows 0 store) c.args.journals.now places c.in_ok-events.events.items
    c.in-Some.host c.in-Some.number (c.single_laws.ensures.start code rows store)
    (subst (λ w. IsMetToEnd code w (all_of c.args.journals.now) places c.in_ok-events.events.items)
    c.in_ok-world.ensures.start c.in_ok-events.ensures.end)
    (rw c.deref.ensures.value at c.in-Some.ensures.some) (rw c.deref.ensures.value at c.in-Some.ensures.number)

pub returns-clause-meets : goal.returns-clause-meets
returns-clause-meets c =
    let code = c.args.code.now in
    let places = c.walk.new.places.items in
    let world = world_at_start code c.args.hosts.now.hosts 0 c.args.start.now in
    all_met code world (all_of c.args.journals.now) places c.in_ok-events.events.items
    (subst (λ w. IsMetToEnd code w (all_of c.args.journals.now) places c.in_ok-events.events.items)
    c.in_ok-world.ensures.start c.in_ok-events.ensures.end)
    (rw c.deref.ensures.value at c.in-None.ensures.none)
