use Rattle.std.proofs.Common.{◌≡◌, ◌++◌}
use Rattle.std.specs.List.{flat_map, range_with_len}
use Rattle.std.specs.String.{string_bytes}
use Rattle.net_world.specs.Fits.{world_of}
use Rattle.split_cli.specs.WorldReport.{messages_in, queue_lines}
use Rattle.front_end.specs.Text.{lines_text}
use Rattle.split_cli.proofs.world_report.flying.push_flying_from.Given as goal

-- the lines of what is in flight to the hosts so far were added
abbrev pub invariant-loop-to : goal.invariant-loop-to
invariant-loop-to l =
    string_bytes l.text ≡ string_bytes l.initial.text ++ lines_text
    (flat_map (λ to. queue_lines l.code l.from.0 to 0 (messages_in (world_of l.world) l.from.0 to))
    (range_with_len 0 l.to))
