use Rattle.std.proofs.Common.{arith}
use Rattle.label_lattice.specs.Label.{IsLabel}
use Rattle.split_file.specs.Spelling.{host_bytes}
use Rattle.split_file.proofs.Appends.{item_more}
use Rattle.split_file.proofs.writing.put_hosts.Goals as goal

pub loop-host-preserved : goal.loop-host-preserved
loop-host-preserved c =
    item_more host_bytes (λ host. IsLabel host.label) c.args.hosts.now c.loop-host.host-index c.host-item.result _ _ _
    (omega arith) c.host-item.is
    c.loop-host.invariant c.in_ok-put_host.ensures.bytes c.in_ok-put_host.ensures.real
