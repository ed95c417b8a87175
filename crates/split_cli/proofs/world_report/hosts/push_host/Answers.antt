use Rattle.std.proofs.Common.{◌++◌, ap, ◌∙◌}
use Rattle.std.specs.String.{string_bytes}
use Rattle.std.proofs.lemmas.Result.{on_ok_weaker}
use Rattle.split_cli.proofs.WorldLines.{host_shown, host_hidden}
use Rattle.split_cli.proofs.world_report.hosts.push_host.Goals as goal

pub returns-in-Some : goal.returns-in-Some
returns-in-Some c =
    on_ok_weaker c.push_state.result
    (λ pushed. pushed ∙ ap (λ text. string_bytes c.args.text.now ++ text)
    (host_shown c.args.world.now c.args.number c.host_name.result.now _ c.in-Some.host.now
    (rw c.in-Some.is at c.host.ensures) c.host_name.ensures))
    c.push_state.ensures

pub returns-in-None : goal.returns-in-None
returns-in-None c =
    host_hidden c.args.world.now c.args.number _ (string_bytes c.args.text.now) (rw c.in-None.is at c.host.ensures)
