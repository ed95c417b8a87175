use Rattle.std.proofs.Common.{refl}
use Rattle.node_engine.proofs.Breaking.{send_breaks, send_without_memory, the_other}
use Rattle.node_engine.proofs.node.Node.put_out.Goals as goal

pub returns-in-Err-OutOfMemory-clause-err : goal.returns-in-Err-OutOfMemory-clause-err
returns-in-Err-OutOfMemory-clause-err g c =
    send_without_memory _ _ _ _ _ _
    c.in-Err-OutOfMemory.ensures.err
    (record {
      faults = λ journal.
          (the_other c.in-Err-OutOfMemory.ensures.no_fault (λ same. let never : ⊥ = cc in never), refl);
      begun = c.in-Err-OutOfMemory.ensures.begun;
      left = c.in-Err-OutOfMemory.ensures.left;
    })

pub returns-in-Err-Failed-clause-err : goal.returns-in-Err-Failed-clause-err
returns-in-Err-Failed-clause-err g c =
    send_breaks _ _ _ _ _ _
    c.in-Err-Failed.ensures.err
    (record {
      faults = λ journal.
          (record { no_less = c.in-Err-Failed.ensures.faults; rose = c.in-Err-Failed.ensures.cause (cc) }, refl);
      begun = c.in-Err-Failed.ensures.begun;
      left = c.in-Err-Failed.ensures.left;
    })
