use Rattle.std.specs.Str.Lines.{lines}
use Rattle.event_text.specs.Lines.{said_from}
use Rattle.event_text.proofs.OwnTokens.{all_own}
use Rattle.event_text.proofs.script.read_lines.Goals as goal

pub returns-clause-own : goal.returns-clause-own
returns-clause-own c =
    let left = c.take_settings-left.result in
    all_own c.args.code.now c.take_bad-bad.result.0 (said_from left.number (lines left.bytes.now))
    c.in_ok-events.events.items c.in_ok-events.ensures
