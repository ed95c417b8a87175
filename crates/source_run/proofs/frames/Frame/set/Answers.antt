use Rattle.std.proofs.Common.{◌∙◌, ◌<◌, ap, w64, length, List, arith, ◌++◌}
use Rattle.source_run.specs.Windows.{own_cells}
use Rattle.std.proofs.lemmas.Int.{to_z-of_z}
use Rattle.source_run.specs.declared.cells.Cell.{Cell}
use Rattle.source_run.specs.Frames.{FrameShape}
use Rattle.source_run.proofs.OwnCells.{set-own, set-others}
use Rattle.source_run.proofs.frames.Frame.set.Goals as goal

pub returns-in-Some : goal.returns-in-Some
returns-in-Some c =
    let at = c.in-Some.ensures in
    let f = c.self.inside in
    let frame : List Cell → FrameShape = λ cells. record { cells = cells; returns = f.returns } in
    rw (to_z-of_z w64 c.args.value c.ranges.value, ← c.self.view_is)
    (ap frame (set-own f.own.items f.first c.in-Some.place c.args.var c.args.value f.others.items
    (let below : c.in-Some.place < length f.own.items = omega (arith, f.own.ok.0, at.0) in below) at.1))

pub returns-in_ok-set_in-in-None : goal.returns-in_ok-set_in-in-None
returns-in_ok-set_in-in-None c =
    let f = c.self.inside in
    let frame : List Cell → FrameShape = λ cells. record { cells = cells; returns = f.returns } in
    rw (← c.self.view_is)
    (ap (λ (cells : List Cell). frame (own_cells f.first f.own.items ++ cells))
    (rw (to_z-of_z w64 c.args.value c.ranges.value) at c.in_ok-set_in-in-None.ensures)
    ∙ ap frame (set-others f.own.items f.first c.args.var c.args.value f.others.items
    (λ k below. c.in-None.ensures k (omega (arith, f.own.ok.0)))))
