-- Programs in their places.
use Rattle.host_decl.specs.Hosts.{HostsShape}
use Rattle.jif_tree.specs.declared.program.Checked.{Checked}
use Rattle.need_labels.specs.Labelled.{Labelled, labelled_of}
use Rattle.need_labels.specs.Needs.{NeedsShape}
use Rattle.need_labels.specs.Plan.{PlanShape}
use Rattle.msg_cost.specs.Moves.{PlannedShape, planned_of}

-- A program with its labels, what its statements need, the hosts, and a plan: all that its code depends on.
pub record PlacedProgram : Type 0 where
  pub labelled : Labelled
  pub needs : NeedsShape
  pub hosts : HostsShape
  pub plan : PlanShape

-- a checked program in its places
abbrev pub placed_of : Checked → NeedsShape → HostsShape → PlanShape → PlacedProgram
placed_of checked needs hosts plan =
    record { labelled = labelled_of checked; needs = needs; hosts = hosts; plan = plan }

-- what counts and walks see of it
abbrev pub planned_from : PlacedProgram → PlannedShape
planned_from placed = planned_of placed.labelled placed.needs placed.hosts placed.plan
