use Rattle.std.proofs.Common.{List, subst, arith}
use Rattle.jif_tree.specs.declared.program.Method.{Method}
use Rattle.msg_cost.specs.Tables.{AreBodies}
use Rattle.msg_cost.proofs.TrustTables.{no_bodies, more_bodies, all_bodies}
use Rattle.msg_cost.proofs.index.body_tables.Goals as goal

pub loop-method-init : goal.loop-method-init
loop-method-init c =
    no_bodies c.args.needs.now c.args.hosts.now c.deref-method-items.result.now _ c.new-tables.ensures.items

pub loop-method-preserved : goal.loop-method-preserved
loop-method-preserved c =
    more_bodies c.args.needs.now c.args.hosts.now c.deref-method-items.result.now c.loop-method.method-index
    c.loop-method.tables.items _ c.method-item.result c.block_table.result c.loop-method-test.true c.method-item.is
    (rw c.deref.ensures.value at c.block_table.ensures) c.in_ok-push.ensures.items c.loop-method.invariant

pub returns : goal.returns
returns c =
    let needs = c.args.needs.now in
    let hosts = c.args.hosts.now in
    let items = c.deref-method-items.result.now in
    subst (λ (methods : List Method). AreBodies needs hosts methods c.loop-method.tables.items)
    c.deref-method-items.ensures.value
    (all_bodies needs hosts items c.loop-method.method-index c.loop-method.tables.items (omega arith)
    c.loop-method.invariant)
