use Rattle.node_links.proofs.mem_links.MemLinks.start.Goals as goal

pub returns-clause-listed : goal.returns-clause-listed
returns-clause-listed c = rw (← c.self.view_is) (rw c.deref.ensures.value at c.is_listed-listed.ensures)
