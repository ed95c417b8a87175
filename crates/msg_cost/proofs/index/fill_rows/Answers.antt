use Rattle.std.proofs.Common.{◌≡◌, ◌∙◌, ◌+◌, ◌++◌, ◌∷◌, [], List, take, sym, ap, subst, arith}
use Rattle.std.proofs.lemmas.List.{take_more, take_all, map-append}
use Rattle.jif_tree.specs.Trees.{program_tree}
use Rattle.msg_cost.specs.declared.piece.Piece.{Piece as Kept}
use Rattle.msg_cost.specs.PieceViews.{piece_shape, all_pieces}
use Rattle.msg_cost.specs.Pieces.{CostPiece}
use Rattle.msg_cost.specs.Rows.{AreRows, numbers_of, rows_of}
use Rattle.msg_cost.proofs.Noting.{rows_more, next_turn}
use Rattle.msg_cost.proofs.TrustTables.{table_of}
use Rattle.msg_cost.proofs.index.fill_rows.Goals as goal

pub note_all-requires-clause-fresh : goal.note_all-requires-clause-fresh
note_all-requires-clause-fresh c number below =
    let most = c.loop-place.invariant.turns number below in
    omega arith

pub loop-place-preserved : goal.loop-place-preserved
loop-place-preserved c =
    let touched = numbers_of c.args.kind (program_tree c.args.program.now) c.args.needs.now in
    let place = c.loop-place.place in
    let pieces = c.args.pieces.now in
    let piece = c.index-pieces-place.result in
    let before = rows_of c.loop-place.rows.items in
    let after = rows_of c.note_all.new.rows.items in
    let numbers = touched (piece_shape piece) in
    let noted = rw (c.deref.ensures.value, c.in_ok-numbers.ensures) at c.in_ok-note_all.ensures.noted in
    let cut : take (place + 1) pieces ≡ take place pieces ++ piece ∷ [] =
    take_more pieces place piece c.loop-place-test.true
    ∙ ap (λ (one : Kept). take place pieces ++ one ∷ []) (sym c.index-pieces-place.is) in
    let shapes : all_pieces (take (place + 1) pieces) ≡ all_pieces (take place pieces) ++ piece_shape piece ∷ [] =
    ap all_pieces cut ∙ map-append piece_shape (take place pieces) (piece ∷ []) in
    let long = noted.long in
    let marked = noted.marked in
    record {
      rows = subst (λ (all : List CostPiece). AreRows touched all after) (sym shapes)
          (rows_more touched (all_pieces (take place pieces)) (piece_shape piece) (place + 1) before after
          c.note_all.new.marks c.loop-place.invariant.rows noted);
      long = marked ∙ sym long;
      many = long ∙ c.loop-place.invariant.many;
      turns = next_turn (place + 1) (piece_shape piece) numbers before after c.note_all.new.marks noted;
      tables = λ hosts have was.
          let has = table_of c.args.needs.now hosts pieces place piece c.loop-place-test.true c.index-pieces-place.is
          have in
          c.in_ok-note_all.ensures.tables c.args.needs.now hosts has (c.loop-place.invariant.tables hosts have was);
    }

pub returns-clause-rows : goal.returns-clause-rows
returns-clause-rows c =
    let touched = numbers_of c.args.kind (program_tree c.args.program.now) c.args.needs.now in
    let P : List Kept → Type 0 = λ all. AreRows touched (all_pieces all) (rows_of c.loop-place.rows.items) in
    subst P (take_all c.loop-place.place c.args.pieces.now c.loop-place-test.false) c.loop-place.invariant.rows
