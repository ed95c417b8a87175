use Rattle.host_decl.specs.declared.error.HostsError.{HostsError}
use Rattle.host_decl.specs.declared.error.HostsError.TheVariants as hosts_error
use Rattle.host_decl.specs.Reading.{RefusesHosts}
use Rattle.host_decl.specs.Refusal.{refusal_shape}
use Rattle.front_end.specs.Verdicts.{hosts_refused}
use Rattle.front_end.proofs.Stages.{refusal_stops}
use Rattle.front_end.proofs.sources.hosts_read.Goals as goal

pub returns-in-Err-clause-read : goal.returns-in-Err-clause-read
returns-in-Err-clause-read c = λ h loaded.
    refusal_stops (RefusesHosts h) hosts_error.OutOfMemory
    (λ (why : HostsError). hosts_refused (refusal_shape why)) c.in-Err.why c.hosts_refused.result c.stopped.result
    (c.in-Err.ensures.read h loaded) c.hosts_refused.ensures.refused c.hosts_refused.ensures.not_memory
    c.stopped.ensures
