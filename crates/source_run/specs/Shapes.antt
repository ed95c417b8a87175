-- The machine as contracts see it.
use Rattle.std.specs.Prelude.{List, ℤ}
use Rattle.source_run.specs.declared.machine.Machine.{Machine}
use Rattle.source_run.specs.Machine.{MachineShape, tasks_of}

abbrev pub shape_of : Machine → List (List ℤ) → MachineShape
shape_of machine store =
    record { tasks = tasks_of machine.tasks.items; frames = machine.frames.items; store = store }
