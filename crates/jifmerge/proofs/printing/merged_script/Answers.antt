use Rattle.std.proofs.Common.{rules}
use Rattle.std.specs.String.{string_bytes}
use Rattle.jifmerge.proofs.Printed.{script_put}
use Rattle.jifmerge.proofs.printing.merged_script.Goals as goal

pub returns : goal.returns
returns c =
    script_put c.args.code.now c.args.start.now c.args.events.now (string_bytes c.new-text.result)
    (string_bytes c.push_settings.new.text) (string_bytes c.push_events.new.text) (search rules)
    (rw (c.fields.ensures.fields, c.rows.ensures) at c.in_ok-push_settings.ensures) c.in_ok-push_events.ensures
