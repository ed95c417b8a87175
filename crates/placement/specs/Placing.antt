-- What `place` answers.
use Rattle.std.specs.Prelude.{◌<◌, All, length}
use Rattle.std.specs.List.{AllZip}
use Rattle.host_decl.specs.Hosts.{HostsShape}
use Rattle.need_labels.specs.Labelled.{Labelled}
use Rattle.need_labels.specs.Needs.{NeedsShape}
use Rattle.need_labels.specs.Plan.{PlanShape}
use Rattle.msg_cost.specs.Cost.{plan_cost}
use Rattle.place_rules.specs.Allowed.{AllowedShape}
use Rattle.place_rules.specs.PlaceRules.{AreAllowed, HoldsOn, MayHoldField, MayHoldStatement, told_fields}
use Rattle.place_rules.specs.PlaceRules.{needed_statements}
use Rattle.placement.specs.Choice.{IsChosen}

-- who may hold what, and the plan that is chosen among those that put each part on a host that may hold it
pub record IsPlaced (labelled : Labelled) (needs : NeedsShape) (hosts : HostsShape) (allowed : AllowedShape)
    (plan : PlanShape) : Type 0 where
  pub words : AreAllowed labelled needs hosts allowed
  pub choice : IsChosen (plan_cost labelled needs hosts) allowed (length hosts.hosts) plan

-- each field and each statement stands on a host that may hold it
pub record IsAllowedPlan (labelled : Labelled) (needs : NeedsShape) (hosts : HostsShape) (plan : PlanShape) :
    Type 0 where
  pub fields : AllZip (λ one host. HoldsOn (MayHoldField one) hosts.hosts host.0) (told_fields labelled needs)
      plan.fields
  pub statements : AllZip (λ one host. HoldsOn (MayHoldStatement one) hosts.hosts host.0) (needed_statements needs)
      plan.statements

-- all hosts of a plan are hosts of the file
pub record HasHosts (hosts : HostsShape) (plan : PlanShape) : Type 0 where
  pub fields : All (λ host. host.0 < length hosts.hosts) plan.fields
  pub statements : All (λ host. host.0 < length hosts.hosts) plan.statements
