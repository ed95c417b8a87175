-- What contracts see of the values of the code.
use Rattle.std.specs.Prelude.{ℕ, ◌-◌, ◌^◌, min, List, map, Option, Some, None}
use Rattle.js_base.specs.declared.ids.StmtId.{StmtId}
use Rattle.jif_tree.specs.declared.program.Stmt.{Stmt}
use Rattle.jif_tree.specs.Trees.{program_tree}
use Rattle.msg_cost.specs.declared.planned.Planned.{Planned}
use Rattle.msg_cost.specs.declared.seated.Seated.{Seated}
use Rattle.msg_cost.specs.declared.step.Step.{Step}
use Rattle.msg_cost.specs.Moves.{PlannedShape}
use Rattle.msg_cost.specs.Steps.{moved}
use Rattle.need_labels.specs.Plan.{PlanShape}

abbrev pub shape_of : Planned → PlannedShape
shape_of planned = record {
  program = program_tree planned.program.now;
  needs = planned.needs.now;
  hosts = planned.hosts.now;
  plan = planned.plan.now;
}

-- the plan, with a part moved where there is a move
abbrev pub with_step : PlanShape → Option Step → PlanShape
with_step plan None = plan
with_step plan (Some step) = moved plan step

abbrev pub seated_shape : Seated → PlannedShape
seated_shape seated = record {
  program = program_tree seated.program.now;
  needs = seated.needs.now;
  hosts = seated.hosts.now;
  plan = with_step seated.plan.now seated.step;
}

abbrev pub ids_of : List Stmt → List StmtId
ids_of statements = map (λ statement. statement.id) statements

-- the number, or the largest one of 64 bits
abbrev pub capped : ℕ → ℕ
capped number = min number (2 ^ 64 - 1)
