use Rattle.std.proofs.Common.{◌≡◌, ◌++◌, take}
use Rattle.std.specs.String.{string_bytes}
use Rattle.net_world.specs.Fits.{world_of}
use Rattle.split_cli.specs.WorldReport.{sent_lines}
use Rattle.front_end.specs.Text.{lines_text}
use Rattle.split_cli.proofs.world_report.sent.push_sent.Given as goal

-- the lines of the messages so far were added
abbrev pub invariant-loop-number : goal.invariant-loop-number
invariant-loop-number l =
    string_bytes l.text ≡ string_bytes l.initial.text ++ lines_text
    (sent_lines l.code 0 (take l.number (world_of l.world).sent))
