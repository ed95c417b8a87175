use Rattle.std.proofs.Common.{◌∙◌, length, refl, ap, sym, subst}
use Rattle.std.specs.Prelude.{Option, option_map, unwrap_or}
use Rattle.std.proofs.lemmas.Bool.{ltb-true, ltb-false}
use Rattle.std.proofs.lemmas.Option.{slice_get_read, slice_get_past}
use Rattle.std.specs.Global.{Vec}
use Rattle.msg_cost.specs.declared.piece.Piece.{Piece as Kept}
use Rattle.msg_cost.specs.Pieces.{pieces_cost, others_cost, program_pieces}
use Rattle.msg_cost.specs.PieceViews.{all_pieces}
use Rattle.msg_cost.specs.Tables.{HaveTables}
use Rattle.msg_cost.specs.Views.{seated_shape, capped}
use Rattle.msg_cost.proofs.change.part_cost.Goals as goal

pub row_cost-requires-clause-know : goal.row_cost-requires-clause-know
row_cost-requires-clause-know c =
    let rows = c.args.rows.now in
    let row = c.in-Some.row.now in
    let lookup = c.in-Some.ensures.lookup in
    let within = ltb-true c.args.number (length rows) (sym lookup.0) in
    rw c.deref.ensures.value
    (subst (λ (one : Vec Kept). HaveTables c.args.planned.now.needs.now c.args.planned.now.hosts.now one.items)
    (sym lookup.1) (c.requires.know c.args.number row within))

pub returns-in-Some : goal.returns-in-Some
returns-in-Some c =
    let planned = seated_shape c.args.planned.now in
    let rows = c.args.rows.now in
    let row = c.in-Some.row.now in
    let lookup = c.in-Some.ensures.lookup in
    let found = slice_get_read rows (length rows) c.args.number row refl
    (ltb-true c.args.number (length rows) (sym lookup.0)) lookup.1 in
    (rw c.deref.ensures.value at c.row_cost.ensures)
    ∙ sym (ap (λ (one : Option (Vec Kept)).
    capped (unwrap_or (option_map (λ (row : Vec Kept). others_cost planned c.args.moved (all_pieces row.items)) one)
    (pieces_cost planned c.args.moved (program_pieces planned.program)))) found)

pub returns-in-None : goal.returns-in-None
returns-in-None c =
    let planned = seated_shape c.args.planned.now in
    let rows = c.args.rows.now in
    let lookup = c.in-None.ensures.lookup in
    c.all_cost.ensures c.args.moved
    ∙ sym (ap (λ (one : Option (Vec Kept)).
    capped (unwrap_or (option_map (λ (row : Vec Kept). others_cost planned c.args.moved (all_pieces row.items)) one)
    (pieces_cost planned c.args.moved (program_pieces planned.program))))
    (slice_get_past rows c.args.number (ltb-false c.args.number (length rows) (sym lookup.0))))
