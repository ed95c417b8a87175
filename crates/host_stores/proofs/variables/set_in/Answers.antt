use Rattle.std.proofs.Common.{rules, subst, List, Ok, Err}
use Rattle.host_stores.specs.declared.variables.VarCell.{VarCell}
use Rattle.host_stores.specs.Order.{IsPlaceOf}
use Rattle.host_stores.proofs.Cells.{set_at_place, order_at_place, insert_at_place, order_inserted}
use Rattle.host_stores.proofs.Cells.{is_set-set, is_set-insert}
use Rattle.host_stores.proofs.variables.set_in.Goals as goal

pub returns-in-Ok-clause-variables : goal.returns-in-Ok-clause-variables
returns-in-Ok-clause-variables c other another =
    let place = subst (λ (cells : List VarCell). IsPlaceOf cells c.args.frame c.args.var (Ok c.in-Ok.place))
    c.deref.ensures.value c.in-Ok.ensures in
    let set = set_at_place c.args.cells.now.items c.in-Ok.place c.args.frame c.args.var c.args.value other another
    c.requires.order place in
    search (rules, set)

pub returns-in-Ok-clause-set : goal.returns-in-Ok-clause-set
returns-in-Ok-clause-set c other another =
    let place = subst (λ (cells : List VarCell). IsPlaceOf cells c.args.frame c.args.var (Ok c.in-Ok.place))
    c.deref.ensures.value c.in-Ok.ensures in
    let set = is_set-set c.args.cells.now.items c.in-Ok.place c.args.frame c.args.var c.args.value other another
    place in
    search (rules, set)

pub returns-in-Ok-clause-order : goal.returns-in-Ok-clause-order
returns-in-Ok-clause-order c =
    order_at_place c.args.cells.now.items c.in-Ok.place c.args.frame c.args.var _ c.requires.order
    (subst (λ (cells : List VarCell). IsPlaceOf cells c.args.frame c.args.var (Ok c.in-Ok.place))
    c.deref.ensures.value c.in-Ok.ensures)

pub returns-in-Err-clause-variables : goal.returns-in-Err-clause-variables
returns-in-Err-clause-variables c other another =
    let place = subst (λ (cells : List VarCell). IsPlaceOf cells c.args.frame c.args.var (Err c.in-Err.place))
    c.deref.ensures.value c.in-Err.ensures in
    let inserted = insert_at_place c.args.cells.now.items c.in-Err.place c.args.frame c.args.var c.args.value other
    another place in
    let items = c.insert_at.ensures.items in
    search (rules, inserted)

pub returns-in-Err-clause-set : goal.returns-in-Err-clause-set
returns-in-Err-clause-set c other another =
    let inserted = is_set-insert c.args.cells.now.items c.in-Err.place c.args.frame c.args.var c.args.value other
    another in
    let items = c.insert_at.ensures.items in
    search (rules, inserted)

pub returns-in-Err-clause-order : goal.returns-in-Err-clause-order
returns-in-Err-clause-order c =
    let place = subst (λ (cells : List VarCell). IsPlaceOf cells c.args.frame c.args.var (Err c.in-Err.place))
    c.deref.ensures.value c.in-Err.ensures in
    let order = order_inserted c.args.cells.now.items c.in-Err.place c.args.frame c.args.var c.args.value
    c.requires.order place in
    let items = c.insert_at.ensures.items in
    search (rules, order)
