use Rattle.std.proofs.Common.{◌≡◌, ◌++◌}
use Rattle.std.specs.List.{flat_map, range_with_len}
use Rattle.std.specs.String.{string_bytes}
use Rattle.net_world.specs.Fits.{world_of}
use Rattle.split_cli.specs.WorldReport.{lines_from}
use Rattle.front_end.specs.Text.{lines_text}
use Rattle.split_cli.proofs.world_report.flying.push_flying.Given as goal

-- the lines of what the hosts so far sent were added
abbrev pub invariant-loop-from : goal.invariant-loop-from
invariant-loop-from l =
    string_bytes l.text ≡ string_bytes l.initial.text ++ lines_text
    (flat_map (lines_from l.code (world_of l.world)) (range_with_len 0 l.from))
