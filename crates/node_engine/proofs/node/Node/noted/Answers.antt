use Rattle.node_engine.proofs.Breaking.{line_breaks, line_without_memory, the_other}
use Rattle.node_engine.proofs.node.Node.noted.Goals as goal

pub returns-in-Err-OutOfMemory-clause-err : goal.returns-in-Err-OutOfMemory-clause-err
returns-in-Err-OutOfMemory-clause-err g c =
    line_without_memory _ _ _ _ _ (rw c.as_bytes.ensures.value at c.in-Err-OutOfMemory.ensures.err)
    (the_other c.in-Err-OutOfMemory.ensures.no_fault (λ same. let never : ⊥ = cc in never))

pub returns-in-Err-Failed-clause-err : goal.returns-in-Err-Failed-clause-err
returns-in-Err-Failed-clause-err g c =
    line_breaks _ _ _ _ _ (rw c.as_bytes.ensures.value at c.in-Err-Failed.ensures.err)
    (record { no_less = c.in-Err-Failed.ensures.faults; rose = c.in-Err-Failed.ensures.cause (cc) })
