use Rattle.std.proofs.lemmas.Result.{on_ok_weaker}
use Rattle.control_split.specs.Views.{placed_in}
use Rattle.control_split.proofs.MethodTraces.{program_traced}
use Rattle.control_split.proofs.methods.program.Goals as goal

pub returns : goal.returns
returns c =
    on_ok_weaker c.bodies.result (λ whole.
    program_traced (placed_in c.args.split.now) c.args.trace.now c.halt_entry.new.trace c.method_entries.new.trace
    c.bodies.new.trace c.requires.first
    c.in_ok-halt_entry.ensures c.in_ok-method_entries.ensures whole) c.bodies.ensures
