use Rattle.std.proofs.Common.{◌≡◌, ◌++◌, take}
use Rattle.std.specs.String.{string_bytes}
use Rattle.split_cli.specs.WorldReport.{queue_lines}
use Rattle.front_end.specs.Text.{lines_text}
use Rattle.split_cli.proofs.world_report.flying.push_queue.Given as goal

-- the lines of the messages so far were added
abbrev pub invariant-loop-place : goal.invariant-loop-place
invariant-loop-place l =
    string_bytes l.text ≡ string_bytes l.initial.text ++ lines_text
    (queue_lines l.code l.pair.0.0 l.pair.1.0 0 (take l.place l.queue))
