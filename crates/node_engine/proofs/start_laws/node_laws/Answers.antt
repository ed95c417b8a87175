use Rattle.std.proofs.Common.{ℕ, List, refl, ⊎_elim}
use Rattle.host_decl.specs.Refusal.{refusal_shape}
use Rattle.front_end.specs.Sources.{HostsRead}
use Rattle.front_end.specs.Stages.{given, stopped}
use Rattle.front_end.specs.Verdicts.{Print, hosts_refused}
use Rattle.front_end.proofs.SomeStages.{HasOutcome}
use Rattle.node_engine.proofs.OnlyRefusals.{node_refuses, ready_refuses}
use Rattle.node_starts.proofs.OneSource.{OneSources}
use Rattle.node_engine.proofs.OneNode.{loaded_once, node_once, ready_once}
use Rattle.node_starts.proofs.SomeSource.{SomeSources}
use Rattle.node_engine.proofs.SomeNode.{node_some, ready_some}
use Rattle.node_engine.proofs.start_laws.node_laws.Goals as goal

sources : (c : goal.After-script_laws) → OneSources
sources c = record {
  plans = c.source_laws.ensures.one_plan;
  hosts = c.source_laws.ensures.one_hosts;
  one_refusal = c.verify_laws.ensures.one_refusal;
  never_both = c.verify_laws.ensures.never_both;
}

-- a host file has hosts, or is refused
hosts_some : (c : goal.After-script_laws) (bytes : List ℕ) → HasOutcome (HostsRead bytes)
hosts_some c bytes =
    ⊎_elim
    (λ read. (given read.0, read.1))
    (λ fails. let why = fails.0 in (stopped (hosts_refused (refusal_shape why)), (why, fails.2, fails.1, refl)))
    (c.host_file_laws.ensures.meaning_or_refusal bytes)

some_sources : (c : goal.After-script_laws) → SomeSources
some_sources c = record {
  plans = c.source_laws.ensures.some_plan;
  hosts = hosts_some c;
  start = c.script_laws.ensures.some_start;
  parts = c.verify_laws.ensures.sound_or_refused;
}

pub returns-clause-one_node : goal.returns-clause-one_node
returns-clause-one_node c = node_once (sources c)

pub returns-clause-some_node : goal.returns-clause-some_node
returns-clause-some_node c = node_some (some_sources c)

pub returns-clause-no_report : goal.returns-clause-no_report
returns-clause-no_report c = λ asked source hosts start answer text due.
    node_refuses asked source hosts start (Print answer text) due

pub returns-clause-one_ready : goal.returns-clause-one_ready
returns-clause-one_ready c = ready_once (sources c)

pub returns-clause-some_ready : goal.returns-clause-some_ready
returns-clause-some_ready c = ready_some (some_sources c)

pub returns-clause-no_ready_report : goal.returns-clause-no_ready_report
returns-clause-no_ready_report c = λ asked source hosts start keys answer text due.
    ready_refuses asked source hosts start keys (Print answer text) due

pub returns-clause-one_loaded : goal.returns-clause-one_loaded
returns-clause-one_loaded c = loaded_once (sources c)
