use Rattle.child_programs.proofs.mem_spawner.MemSpawner.start.Goals as goal

pub returns-clause-listed : goal.returns-clause-listed
returns-clause-listed c = rw (← c.self.view_is) (rw c.deref.ensures.value at c.is_listed-listed.ensures)
