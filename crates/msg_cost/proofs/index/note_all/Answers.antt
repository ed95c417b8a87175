use Rattle.std.proofs.Common.{◌≡◌, ◌∙◌, ◌+◌, ◌++◌, ◌∷◌, [], List, ℕ, take, get_or, true, false, sym, subst}
use Rattle.std.proofs.lemmas.List.{take_more}
use Rattle.msg_cost.specs.PieceViews.{piece_shape}
use Rattle.msg_cost.specs.Pieces.{CostPiece}
use Rattle.msg_cost.specs.Rows.{AreNoted, rows_of}
use Rattle.msg_cost.proofs.Noting.{noted_first, noted_here, noted_again}
use Rattle.msg_cost.proofs.index.note_all.Goals as goal
use Rattle.msg_cost.proofs.index.note_all.Goals.{then-is_unmarked+in_ok-push_at, else-is_unmarked}

true_not_false : true ≡ false → ⊥
true_not_false same = cc

pub loop-number-preserved : goal.loop-number-preserved
loop-number-preserved c =
    let piece = piece_shape c.args.piece in
    let before = rows_of c.args.rows.now.items in
    let i = c.loop-number.number-index in
    let number = get_or c.args.numbers.now i 0 in
    let done = take i c.args.numbers.now in
    let after = rows_of c.loop-number.rows.items in
    let marks = c.loop-number.marks in
    let Noted : List ℕ → List (List CostPiece) → List ℕ → Type 0 = λ numbers rows noted.
    AreNoted c.args.turn piece numbers before rows noted in
    let more : done ++ number ∷ [] ≡ take (i + 1) c.args.numbers.now =
    sym (take_more c.args.numbers.now i 0 c.loop-number-test.true) in
    record {
      noted = subst (λ (numbers : List ℕ).
          Noted numbers (rows_of c.if-is_unmarked.rows.items) c.if-is_unmarked.marks) more
          (elim c.if-is_unmarked.branch [
            | then-is_unmarked+in_ok-push_at w ↦
                let fresh = c.is_unmarked.ensures.0 w.if-is_unmarked.true in
                rw (w.rows-is, w.marks-is, w.in_ok-push_at.ensures.rows)
                (noted_here c.args.turn piece done number before after marks fresh.0 fresh.1
                c.loop-number.invariant.noted)
            | else-is_unmarked w ↦
                rw (w.rows-is, w.marks-is)
                (noted_again c.args.turn piece done number before after marks
                (λ fresh. true_not_false (sym (c.is_unmarked.ensures.1 fresh) ∙ w.if-is_unmarked.false))
                c.loop-number.invariant.noted)
          ]);
      tables = λ needs hosts has have. elim c.if-is_unmarked.branch [
        | then-is_unmarked+in_ok-push_at w ↦
            rw w.rows-is
            (w.in_ok-push_at.ensures.tables needs hosts has (c.loop-number.invariant.tables needs hosts has have))
        | else-is_unmarked w ↦ rw w.rows-is (c.loop-number.invariant.tables needs hosts has have)
      ];
    }

pub loop-number-init : goal.loop-number-init
loop-number-init c = record {
  noted = noted_first c.args.turn (piece_shape c.args.piece) (rows_of c.args.rows.now.items) c.args.marks.now
      c.requires.long c.requires.fresh;
  tables = λ needs hosts has have. have;
}
