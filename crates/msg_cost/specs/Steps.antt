-- Plans after a move of one field or one statement.
use Rattle.std.specs.Prelude.{slice_set}
use Rattle.need_labels.specs.Plan.{PlanShape}
use Rattle.msg_cost.specs.declared.step.Step.{Step}
use Rattle.msg_cost.specs.declared.step.Step.TheVariants as step

-- The plan after the move. A field or statement that is not there can't be moved.
abbrev pub moved : PlanShape → Step → PlanShape
moved plan (step.Field field host) = record plan { fields = slice_set plan.fields field.0 host }
moved plan (step.Statement statement host) = record plan { statements = slice_set plan.statements statement.0 host }
