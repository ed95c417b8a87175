use Rattle.std.proofs.Common.{◌≡◌, ◌∙◌, ◌++◌, suc, false, List, [], ◌∷◌, map, drop, ap, subst, add-one}
use Rattle.std.specs.List.{flat_map}
use Rattle.js_base.proofs.Lists.{next_of}
use Rattle.jif_tree.specs.declared.program.Method.{Method}
use Rattle.jif_tree.specs.Trees.{method_tree, program_tree}
use Rattle.msg_cost.specs.Pieces.{CostPiece, method_pieces}
use Rattle.msg_cost.specs.PieceViews.{all_pieces}
use Rattle.msg_cost.proofs.PieceWalks.{walk_is, walked_added, method_more}
use Rattle.msg_cost.proofs.pieces.program_pieces.Goals as goal

pub loop-method-preserved : goal.loop-method-preserved
loop-method-preserved c =
    let program = program_tree c.args.program.now in
    let method = c.method-item.result in
    let items = c.deref-method-items.result.now in
    let so_far = all_pieces c.loop-method.pieces.items in
    let next = next_of items c.loop-method.method-index method c.loop-method-test.true c.method-item.is in
    let P : List Method → Type 0 = λ left. so_far ++ flat_map (method_pieces program) (map method_tree left)
    ≡ flat_map (method_pieces program) (map method_tree items) in
    let shape = c.walk_of-walk.ensures.shape in
    let block = method.body.items in
    let pushed = c.in_ok-add_piece.ensures.pieces
    ∙ ap (λ (one : CostPiece). so_far ++ one ∷ [])
    (walk_is c.walk_of-walk.result 1 method.head false block shape.0 shape.1 shape.2
    (shape.3 ∙ c.deref.ensures.value)) in
    let added = rw (shape.0, shape.1, shape.3 ∙ c.deref.ensures.value) at c.in_ok-add_block.ensures.pieces in
    rw add-one (record {
      pieces = method_more program so_far _ _ method (drop (suc c.loop-method.method-index) items)
          (subst P next c.loop-method.invariant.pieces)
          (walked_added program 1 method.head false block so_far _ _ pushed added);
      tables = c.in_ok-add_block.ensures.tables;
    })
