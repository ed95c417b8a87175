use Rattle.std.proofs.Common.{refl}
use Rattle.plan_picture.specs.Loops.{brackets_text, loop_bracket}
use Rattle.plan_picture.proofs.Walks.{piece_written}
use Rattle.plan_picture.proofs.loops.push_brackets.Goals as goal

pub loop-one-preserved : goal.loop-one-preserved
loop-one-preserved c =
    piece_written (brackets_text c.args.places.now) (loop_bracket c.args.places.now) (λ x xs. refl) c.args.loops.now
    c.loop-one.one-index _ _ _ _ _ c.loop-one-test.true refl c.loop-one.invariant c.in_ok-push_loop_bracket.ensures
