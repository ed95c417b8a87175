use Rattle.jif_resolve.proofs.PrincipalNames.{told_apart}
use Rattle.jif_resolve.proofs.names.is_named.Goals as goal

pub returns-then-ends_differ : goal.returns-then-ends_differ
returns-then-ends_differ c =
    told_apart c.args.own.now c.args.name.now
    (rw (c.as_bytes.ensures.value, c.as_bytes-2.ensures.value) at c.ends_differ.ensures c.if-ends_differ.true)
