use Rattle.std.proofs.Common.{◌≡◌, ◌≤◌, ◌<◌, take, length, sym, subst, arith}
use Rattle.text_places.specs.Places.{column_behind, line_behind}
use Rattle.text_places.proofs.Columns.{line_small, column_small, line_next, column_next}
use Rattle.text_places.proofs.places.Place.moved.Goals as goal

pub behind-here-requires-clause-line : goal.behind-here-requires-clause-line
behind-here-requires-clause-line c =
    line_small c.args.text.now c.loop-here.here.at c.loop-here.here.line (omega arith) c.requires.short
    c.loop-here.invariant.1

pub behind-here-requires-clause-column : goal.behind-here-requires-clause-column
behind-here-requires-clause-column c =
    column_small c.args.text.now c.loop-here.here.at c.loop-here.here.column (omega arith) c.requires.short
    c.loop-here.invariant.2

pub loop-here-preserved : goal.loop-here-preserved
loop-here-preserved c =
    let lt : c.loop-here.here.at < length c.args.text.now = omega arith in
    subst (λ at. (at ≤ c.args.to) × (c.behind-here.result.line ≡ line_behind (take at c.args.text.now))
    × (c.behind-here.result.column ≡ column_behind (take at c.args.text.now))) (sym c.behind-here.ensures.at) (
      omega arith,
      line_next c.args.text.now c.loop-here.here.at 0 c.loop-here.here.line c.behind-here.result.line lt
          c.loop-here.invariant.1 c.behind-here.ensures.line,
      column_next c.args.text.now c.loop-here.here.at 0 c.loop-here.here.column c.behind-here.result.column lt
          c.loop-here.invariant.2 c.behind-here.ensures.column,
    )
