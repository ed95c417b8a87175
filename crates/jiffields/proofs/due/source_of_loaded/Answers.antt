use Rattle.jiffields.proofs.due.source_of_loaded.Goals as goal

pub returns-in-Program : goal.returns-in-Program
returns-in-Program c = rw c.in-Program.is c.program_source.ensures

pub returns-in-Code : goal.returns-in-Code
returns-in-Code c = rw c.in-Code.is c.code_source.ensures
