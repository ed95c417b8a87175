use Rattle.std.proofs.Common.{◌≡◌, ◌∙◌, [], List, ℕ, length, get_or, replicate, sym, ap, arith}
use Rattle.std.proofs.lemmas.List.{length-map, length-replicate, get_or-replicate}
use Rattle.std.specs.Global.{Vec}
use Rattle.msg_cost.specs.declared.piece.Piece.{Piece as Kept}
use Rattle.msg_cost.specs.PieceViews.{all_pieces}
use Rattle.msg_cost.specs.Pieces.{CostPiece}
use Rattle.msg_cost.proofs.Noting.{no_rows}
use Rattle.msg_cost.proofs.TrustTables.{empty_tables}
use Rattle.msg_cost.proofs.index.pieces_by_part.Goals as goal

pub fill_rows-requires-clause-empty : goal.fill_rows-requires-clause-empty
fill_rows-requires-clause-empty c = no_rows _ c.args.count _ c.in_ok-rows.ensures

pub fill_rows-requires-clause-long : goal.fill_rows-requires-clause-long
fill_rows-requires-clause-long c =
    let zeros : c.deref_mut.result.now ≡ replicate c.args.count 0 =
    c.deref_mut.ensures.value ∙ c.in_ok-marks.ensures.items_if_clones_equal (λ mark is. is) in
    ap length zeros ∙ length-replicate c.args.count 0
    ∙ sym (ap length c.in_ok-rows.ensures ∙ length-replicate {A = List CostPiece} c.args.count [])

pub fill_rows-requires-clause-unmarked : goal.fill_rows-requires-clause-unmarked
fill_rows-requires-clause-unmarked c number below =
    let zeros : c.deref_mut.result.now ≡ replicate c.args.count 0 =
    c.deref_mut.ensures.value ∙ c.in_ok-marks.ensures.items_if_clones_equal (λ mark is. is) in
    let long : length c.deref_mut.result.now ≡ c.args.count = ap length zeros ∙ length-replicate c.args.count 0 in
    ap (λ (marks : List ℕ). get_or marks number 0) zeros
    ∙ get_or-replicate c.args.count number 0 0 (omega arith)

pub returns-clause-rows : goal.returns-clause-rows
returns-clause-rows c = c.in_ok-fill_rows.ensures.rows

pub returns-clause-long : goal.returns-clause-long
returns-clause-long c =
    let shape : Vec Kept → List CostPiece = λ row. all_pieces row.items in
    sym (length-map c.fill_rows.new.rows.items shape)
    ∙ c.in_ok-fill_rows.ensures.long ∙ ap length c.in_ok-rows.ensures
    ∙ length-replicate {A = List CostPiece} c.args.count []

pub returns-clause-tables : goal.returns-clause-tables
returns-clause-tables c hosts have =
    c.in_ok-fill_rows.ensures.tables hosts have
    (empty_tables c.args.needs.now hosts c.args.count c.in_ok-rows.rows.items c.in_ok-rows.ensures)
