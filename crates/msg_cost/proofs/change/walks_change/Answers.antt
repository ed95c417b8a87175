use Rattle.std.proofs.Common.{length, refl, subst, sym}
use Rattle.std.proofs.lemmas.Bool.{ltb-true, ltb-false}
use Rattle.std.proofs.lemmas.Option.{slice_get_read, slice_get_past}
use Rattle.std.specs.Global.{Vec}
use Rattle.need_labels.specs.Labelled.{labelled_of}
use Rattle.msg_cost.specs.declared.piece.Piece.{Piece as Kept}
use Rattle.msg_cost.specs.declared.step.Step.{Step}
use Rattle.msg_cost.specs.declared.walk_change.Change.{Change}
use Rattle.msg_cost.specs.Moves.{planned_of}
use Rattle.msg_cost.specs.Steps.{moved}
use Rattle.msg_cost.specs.Tables.{HaveTables}
use Rattle.msg_cost.specs.Walks.{under, IsMoved, IsChange}
use Rattle.msg_cost.proofs.Touched.{walks_changed, touched_walks, field_moved, statement_moves, row_moved, absent_moved}
use Rattle.msg_cost.proofs.change.walks_change.Goals as goal

pub row_change-requires-clause-moved : goal.row_change-requires-clause-moved
row_change-requires-clause-moved c =
    let planned = planned_of (labelled_of c.args.checked.now) c.args.needs.now c.args.hosts.now c.args.plan.now in
    let statement = c.in-Statement.statement in
    subst (λ (move : Step). IsMoved statement planned (under planned (moved planned.plan move)))
    (sym c.in-Statement.is) (statement_moves planned statement c.in-Statement.field-1)

pub row_change-requires-clause-know : goal.row_change-requires-clause-know
row_change-requires-clause-know c =
    let rows = c.args.index.now.statements.items in
    let row = c.in-Some.row.now in
    let lookup = rw c.deref.ensures.value at c.in-Some.ensures.lookup in
    let within = ltb-true c.in-Statement.statement.0 (length rows) (sym lookup.0) in
    rw c.deref-in-Some.ensures.value
    (subst (λ (one : Vec Kept). HaveTables c.args.needs.now c.args.hosts.now one.items) (sym lookup.1)
    (c.requires.index.statement_tables c.in-Statement.statement.0 row within))

pub returns-in-Field-clause-change : goal.returns-in-Field-clause-change
returns-in-Field-clause-change c =
    let planned = planned_of (labelled_of c.args.checked.now) c.args.needs.now c.args.hosts.now c.args.plan.now in
    let none : Change = record { before = 0; after = 0 } in
    let Changed : Step → Type 0 = λ move. IsChange (touched_walks planned c.args.index.now move)
    (touched_walks (under planned (moved planned.plan move)) c.args.index.now move) none in
    (walks_changed planned c.hosts-sound.ensures.sound c.requires.within c.args.index.now c.requires.index.rows
    c.args.step none
    (subst Changed (sym c.in-Field.is)
    (field_moved planned c.args.index.now c.in-Field.field-0 c.in-Field.field-1))).0

pub returns-in-Some-clause-change : goal.returns-in-Some-clause-change
returns-in-Some-clause-change c =
    let planned = planned_of (labelled_of c.args.checked.now) c.args.needs.now c.args.hosts.now c.args.plan.now in
    let rows = c.args.index.now.statements.items in
    let row = c.in-Some.row.now in
    let lookup = rw c.deref.ensures.value at c.in-Some.ensures.lookup in
    let number = c.in-Statement.statement.0 in
    let found = slice_get_read rows (length rows) number row refl (ltb-true number (length rows) (sym lookup.0))
    lookup.1 in
    (walks_changed planned c.hosts-sound.ensures.sound c.requires.within c.args.index.now c.requires.index.rows
    c.args.step c.row_change.result
    (row_moved planned c.args.index.now c.args.step c.in-Statement.statement c.in-Statement.field-1 row
    c.row_change.result c.in-Statement.is found (rw c.deref-in-Some.ensures.value at c.row_change.ensures))).0

pub returns-in-Some-clause-small : goal.returns-in-Some-clause-small
returns-in-Some-clause-small c =
    let planned = planned_of (labelled_of c.args.checked.now) c.args.needs.now c.args.hosts.now c.args.plan.now in
    let rows = c.args.index.now.statements.items in
    let row = c.in-Some.row.now in
    let lookup = rw c.deref.ensures.value at c.in-Some.ensures.lookup in
    let number = c.in-Statement.statement.0 in
    let found = slice_get_read rows (length rows) number row refl (ltb-true number (length rows) (sym lookup.0))
    lookup.1 in
    (walks_changed planned c.hosts-sound.ensures.sound c.requires.within c.args.index.now c.requires.index.rows
    c.args.step c.row_change.result
    (row_moved planned c.args.index.now c.args.step c.in-Statement.statement c.in-Statement.field-1 row
    c.row_change.result c.in-Statement.is found (rw c.deref-in-Some.ensures.value at c.row_change.ensures))).1

pub returns-in-None-clause-change : goal.returns-in-None-clause-change
returns-in-None-clause-change c =
    let planned = planned_of (labelled_of c.args.checked.now) c.args.needs.now c.args.hosts.now c.args.plan.now in
    let rows = c.args.index.now.statements.items in
    let lookup = rw c.deref.ensures.value at c.in-None.ensures.lookup in
    let number = c.in-Statement.statement.0 in
    (walks_changed planned c.hosts-sound.ensures.sound c.requires.within c.args.index.now c.requires.index.rows
    c.args.step (record { before = 0; after = 0 })
    (absent_moved planned c.args.index.now c.args.step c.in-Statement.statement c.in-Statement.field-1
    c.in-Statement.is (slice_get_past rows number (ltb-false number (length rows) (sym lookup.0))))).0
