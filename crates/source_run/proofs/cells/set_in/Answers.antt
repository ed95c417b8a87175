use Rattle.std.proofs.Common.{◌≡◌, sym, subst, List, Some, None, w64}
use Rattle.std.proofs.lemmas.Int.{to_z-of_z}
use Rattle.source_run.specs.declared.cells.Cell.{Cell}
use Rattle.source_run.specs.Cells.{place_in}
use Rattle.source_run.proofs.CellValues.{with_cell-set, with_cell-push}
use Rattle.source_run.proofs.cells.set_in.Goals as goal

pub returns-in-Some : goal.returns-in-Some
returns-in-Some c =
    let a = c.args in
    let P : List Cell → Type 0 = λ cells. place_in cells a.var.0 ≡ Some (c.in-Some.place) in
    rw (to_z-of_z w64 a.value c.ranges.value)
    (with_cell-set a.cells.now.items a.var c.in-Some.place a.value
    (subst P c.deref.ensures.value (sym c.in-Some.ensures.place)))

pub returns-in_ok-push-in-None : goal.returns-in_ok-push-in-None
returns-in_ok-push-in-None c =
    let a = c.args in
    let P : List Cell → Type 0 = λ cells. place_in cells a.var.0 ≡ None in
    rw (
      to_z-of_z w64 a.value c.ranges.value,
      with_cell-push a.cells.now.items a.var a.value
          (subst P c.deref.ensures.value (sym c.in-None.ensures.place)),
    ) at c.in_ok-push-in-None.ensures.items
