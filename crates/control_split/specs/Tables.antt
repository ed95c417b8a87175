-- The hosts, fields, variables and call sites of a code.
use Rattle.std.specs.Prelude.{List, map}
use Rattle.label_lattice.specs.declared.label.Label.{Label}
use Rattle.host_decl.specs.Hosts.{HostShape}
use Rattle.host_code.specs.Code.{CodeHostShape}
use Rattle.control_split.specs.Trace.{TraceShape}
use Rattle.split_rules.specs.SplitCode.{with_labels}

-- labels that are named behind those of a trace
abbrev pub naming : TraceShape → List Label → TraceShape
naming trace labels = record trace { labels = with_labels trace.labels labels }

abbrev pub code_hosts : List HostShape → List CodeHostShape
code_hosts hosts = map (λ host. record { name = host.name; label = host.label }) hosts
