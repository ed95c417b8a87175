use Rattle.std.proofs.Common.{◌≡◌, ◌++◌}
use Rattle.std.specs.List.{flat_map, range_with_len}
use Rattle.std.specs.String.{string_bytes}
use Rattle.net_world.specs.Fits.{world_of}
use Rattle.net_world.specs.World.{state_at}
use Rattle.host_code.specs.MessageText.{host_text}
use Rattle.split_cli.specs.WorldReport.{host_line}
use Rattle.front_end.specs.Text.{lines_text}
use Rattle.split_cli.proofs.world_report.hosts.push_hosts.Given as goal

-- the lines of the hosts so far were added
abbrev pub invariant-loop-number : goal.invariant-loop-number
invariant-loop-number l =
    string_bytes l.text ≡ string_bytes l.initial.text ++ lines_text
    (flat_map (λ number. host_line (host_text l.code (record { 0 = number }))
    (state_at (world_of l.world) (record { 0 = number }))) (range_with_len 0 l.number))
