use Rattle.link_seal.specs.Opening.{opens}
use Rattle.node_seals.proofs.OpenedLinks.{ok_unsealed}
use Rattle.node_seals.proofs.seals.opened_by.Goals as goal

pub returns-in-Err-OutOfMemory-clause-memory : goal.returns-in-Err-OutOfMemory-clause-memory
returns-in-Err-OutOfMemory-clause-memory c =
    rw c.in-Some.is
    (ok_unsealed c.args.from (opens c.in-Some.opener c.args.bytes.now)
    (c.in-Err-OutOfMemory.ensures.memory c.in-Err-OutOfMemory.field-0-is))
