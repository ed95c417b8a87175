use Rattle.host_code.specs.Code.{CodeShape}
use Rattle.host_decl.specs.Hosts.{HostsShape}
use Rattle.front_end.specs.Sources.{HostsRead}
use Rattle.front_end.specs.Stages.{Then}
use Rattle.front_end.proofs.Stages.{handed_on, then_ends, then_stops}
use Rattle.node_starts.specs.NodeSources.{CodeRead, FromCode, Valued, node_source}
use Rattle.node_starts.proofs.node_source.code_source.Goals as goal

pub returns-in_err-code : goal.returns-in_err-code
returns-in_err-code c = λ k h s loaded_k loaded_h loaded_s.
    handed_on node_source (FromCode c.args.name.now k h c.args.file.now s) c.in_err-code.field-0.0
    c.from_residual.result c.from_residual.ensures
    (then_stops (CodeRead c.args.name.now k) (λ code. Then (HostsRead h) (Valued c.args.file.now s code))
    c.in_err-code.field-0.0 (c.in_err-code.ensures k loaded_k))

pub returns-in_err-hosts : goal.returns-in_err-hosts
returns-in_err-hosts c = λ k h s loaded_k loaded_h loaded_s.
    then_ends (λ (code : CodeShape). code) node_source (CodeRead c.args.name.now k)
    (λ code. Then (HostsRead h) (Valued c.args.file.now s code)) c.in_ok-code.code
    c.from_residual-in_err-hosts.result (c.in_ok-code.ensures k loaded_k)
    (handed_on node_source (Then (HostsRead h) (Valued c.args.file.now s c.in_ok-code.code))
    c.in_err-hosts.field-0.0 c.from_residual-in_err-hosts.result c.from_residual-in_err-hosts.ensures
    (then_stops (HostsRead h) (Valued c.args.file.now s c.in_ok-code.code) c.in_err-hosts.field-0.0
    (c.in_err-hosts.ensures.read h loaded_h)))

pub returns : goal.returns
returns c = λ k h s loaded_k loaded_h loaded_s.
    then_ends (λ (code : CodeShape). code) node_source (CodeRead c.args.name.now k)
    (λ code. Then (HostsRead h) (Valued c.args.file.now s code)) c.in_ok-code.code
    c.valued.result (c.in_ok-code.ensures k loaded_k)
    (then_ends (λ (hosts : HostsShape). hosts) node_source (HostsRead h)
    (Valued c.args.file.now s c.in_ok-code.code) c.in_ok-hosts.hosts c.valued.result
    (c.in_ok-hosts.ensures.read h loaded_h) (c.valued.ensures s loaded_s))
