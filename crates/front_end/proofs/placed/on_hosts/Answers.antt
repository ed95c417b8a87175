use Rattle.std.proofs.Common.{rules, refl}
use Rattle.jif_tree.specs.Trees.{program_tree}
use Rattle.need_labels.specs.Labelled.{labelled_of}
use Rattle.front_end.proofs.PlacedLists.{a_host_each}
use Rattle.front_end.proofs.ReadLaws.{splittable}
use Rattle.front_end.proofs.placed.on_hosts.Goals as goal

pub invariant_of-result : goal.invariant_of-result
invariant_of-result c =
    let source = c.source.inside in
    let labelled = labelled_of source.checked in
    let needs_are = rw c.principals.ensures.principals at c.in_ok-needs.ensures in
    let needs = c.in_ok-needs.needs in
    let allowed = c.placement_laws.ensures.allowed labelled needs source.hosts _ _ c.in-Ok.ensures.placed in
    let has = c.placement_laws.ensures.hosts labelled needs source.hosts _ _ c.in-Ok.ensures.placed in
    rw (← c.source.view_is) (record {
      each = a_host_each source.hosts.principals source.checked needs source.hosts _ needs_are allowed;
      statements = c.source.invariant.read.statements;
      splittable = splittable (record { file = source.hosts; tree = program_tree source.checked.program }) _ _
          c.source.invariant.read c.principals.ensures.sound c.source.invariant.short has;
    })

pub returns-in-Ok : goal.returns-in-Ok
returns-in-Ok c =
    let labelled = c.source.invariant.labelled in
    rw (← c.source.view_is) (record {
      same = refl;
      needs = rw (← labelled, ← c.principals.ensures.principals) c.in_ok-needs.ensures;
      plan = rw (← labelled) c.in-Ok.ensures.placed;
    })

pub returns-in-Err : goal.returns-in-Err
returns-in-Err c =
    let labelled = c.source.invariant.labelled in
    rw (← c.source.view_is) (search rules)
