use Rattle.std.proofs.Common.{ap, sym, ◌∙◌}
use Rattle.std.specs.Prelude.{option_copied}
use Rattle.jiffields.proofs.LastBytes.{by_last}
use Rattle.jiffields.proofs.lines.is_open.Goals as goal

pub returns-in-Some : goal.returns-in-Some
returns-in-Some c =
    by_last c.args.bytes.now c.in-Some.byte.now (sym c.last.ensures.value ∙ ap option_copied c.in-Some.is)
