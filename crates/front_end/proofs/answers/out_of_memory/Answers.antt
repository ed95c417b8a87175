use Rattle.front_end.proofs.Answering.{front_put}
use Rattle.front_end.proofs.answers.out_of_memory.Goals as goal

pub returns-clause-line : goal.returns-clause-line
returns-clause-line g c =
    front_put c.put.result _ _ _ (rw c.as_bytes.ensures.value at c.put.ensures.ok)
    (rw c.as_bytes.ensures.value at c.put.ensures.err)
