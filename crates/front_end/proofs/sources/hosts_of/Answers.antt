use Rattle.front_end.proofs.Results.{are_short}
use Rattle.front_end.proofs.sources.hosts_of.Goals as goal

pub returns-in-Bytes-clause-short : goal.returns-in-Bytes-clause-short
returns-in-Bytes-clause-short c =
    are_short c.read_hosts.result _ _ c.host_file_laws.ensures.short_names c.read_hosts.ensures
