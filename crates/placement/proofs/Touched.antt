-- What a move of a part touches costs as much for each host.
use Rattle.std.proofs.Common.{◌≡◌, ℕ, refl}
use Rattle.need_labels.specs.Labelled.{labelled_of}
use Rattle.need_labels.specs.Plan.{PlanShape}
use Rattle.msg_cost.specs.declared.index.Index.{Index}
use Rattle.msg_cost.specs.Touched.{touched_cost}
use Rattle.placement.specs.declared.costed.Counted.{Counted}
use Rattle.placement.specs.declared.part.Part.{Part}
use Rattle.placement.specs.declared.part.Part.TheVariants as part
use Rattle.placement.specs.Steps.{step_to}
use Rattle.placement.specs.Views.{touched_in}

pub touched_by : (counted : Counted) (index : Index) (one : Part) (host : ℕ) (plan : PlanShape) →
    touched_cost (labelled_of counted.checked.now) counted.needs.now counted.hosts.now index (step_to one host) plan
    ≡ touched_in counted index one plan
touched_by counted index (part.Field field) host plan = refl
touched_by counted index (part.Statement statement) host plan = refl
