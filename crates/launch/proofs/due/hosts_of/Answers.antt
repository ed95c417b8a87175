use Rattle.js_base.specs.declared.limits.TheConstants.{HOSTS_BYTES}
use Rattle.launch.proofs.Dues.{hosts_ended, one_file}
use Rattle.launch.proofs.due.hosts_of.Goals as goal

pub returns-clause-hosts : goal.returns-clause-hosts
returns-clause-hosts g c =
    let gives = one_file (g.F.Files.held c.args.files.now) (record { name = c.args.name; most = HOSTS_BYTES })
    c.in_ok-loaded.loaded.items c.file-item.result c.in_ok-loaded.ensures.loaded
    (rw c.as_slice.ensures.value at c.file-item.is) in
    hosts_ended c.args.name.now _ gives.0 c.hosts_read.result gives.1
    (record { loads = c.in_ok-loaded.ensures.loads; no_fault = c.in_ok-loaded.ensures.faults })
    (c.hosts_read.ensures.read gives.0 gives.2)
