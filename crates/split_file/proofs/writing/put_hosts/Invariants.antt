use Rattle.std.proofs.Common.{take}
use Rattle.label_lattice.specs.Label.{IsLabel}
use Rattle.split_file.specs.Spelling.{host_bytes}
use Rattle.split_file.specs.Put.{ArePut}
use Rattle.split_file.proofs.writing.put_hosts.Given as goal

abbrev pub invariant-loop-host : goal.invariant-loop-host
invariant-loop-host l =
    ArePut host_bytes (λ host. IsLabel host.label) l.initial.out.items (take l.host-index l.hosts) l.out.items
