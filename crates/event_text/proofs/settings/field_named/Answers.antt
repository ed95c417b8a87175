use Rattle.event_text.proofs.Naming.{field_named-at}
use Rattle.event_text.proofs.settings.field_named.Goals as goal

pub returns-clause-place : goal.returns-clause-place
returns-clause-place g c =
    field_named-at g.F.ScriptField.form c.args.fields.now c.args.name.now _ c.place_of_name.ensures.place
