use Rattle.std.proofs.Common.{sym}
use Rattle.host_stores.proofs.RowPlaces.{no_row}
use Rattle.host_stores.proofs.layout.row_in.Goals as goal

pub returns-in-None : goal.returns-in-None
returns-in-None c =
    sym (no_row c.args.elements.now c.args.offsets.now c.args.field.0 c.in-None.ensures.none)
