-- The code of a program in its places, and what its plan costs.
use Rattle.std.specs.Prelude.{ℕ}
use Rattle.host_code.specs.Code.{CodeShape}
use Rattle.split_rules.specs.Placed.{PlacedProgram}
use Rattle.split_rules.specs.SplitCode.{split_code}
use Rattle.front_end.specs.PlacedSources.{PlacedSource, labelled_source}
use Rattle.msg_cost.specs.Cost.{plan_cost}

-- the program in its places
abbrev pub program_of : PlacedSource → PlacedProgram
program_of placed = record {
  labelled = labelled_source placed.source;
  needs = placed.needs;
  hosts = placed.source.file;
  plan = placed.plan;
}

-- the code of all hosts
abbrev pub code_of : PlacedSource → CodeShape
code_of placed = split_code (program_of placed)

-- what the plan costs
abbrev pub cost_of : PlacedSource → ℕ
cost_of placed = plan_cost (labelled_source placed.source) placed.needs placed.source.file placed.plan
