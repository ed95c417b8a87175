use Rattle.need_labels.specs.Labelled.{labelled_of}
use Rattle.placement.proofs.placing.place.Goals as goal

pub cheapest_start-requires-clause-fields : goal.cheapest_start-requires-clause-fields
cheapest_start-requires-clause-fields c =
    (c.place_rule_laws.ensures.some_host (labelled_of c.args.checked.now) c.args.needs.now c.args.hosts.now
    c.in_ok-allowed.allowed (c.in_ok-allowed.ensures).allowed).0

pub cheapest_start-requires-clause-statements : goal.cheapest_start-requires-clause-statements
cheapest_start-requires-clause-statements c =
    (c.place_rule_laws.ensures.some_host (labelled_of c.args.checked.now) c.args.needs.now c.args.hosts.now
    c.in_ok-allowed.allowed (c.in_ok-allowed.ensures).allowed).1
