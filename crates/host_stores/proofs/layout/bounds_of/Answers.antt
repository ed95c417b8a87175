use Rattle.host_stores.proofs.RowPlaces.{row_there}
use Rattle.host_stores.proofs.layout.bounds_of.Goals as goal

pub returns-clause-there : goal.returns-clause-there
returns-clause-there c =
    row_there c.args.elements.now c.args.offsets.now c.args.field.0 0 0 c.requires c.if-place-offsets.false
