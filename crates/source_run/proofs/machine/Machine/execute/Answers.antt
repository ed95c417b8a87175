use Rattle.std.proofs.Common.{map, refl}
use Rattle.std.proofs.lemmas.Result.{on_ok_weaker}
use Rattle.source_run.specs.Machine.{value_at_frame}
use Rattle.source_run.specs.Windows.{blank_of}
use Rattle.source_run.specs.Shapes.{shape_of}
use Rattle.source_run.proofs.Blocks.{branch_leaves, loop_leaves}
use Rattle.source_run.proofs.machine.Machine.execute.Goals as goal

pub returns-in-If-clause-ok : goal.returns-in-If-clause-ok
returns-in-If-clause-ok c =
    let m = shape_of c.args.self.now c.args.store.now in
    on_ok_weaker c.choose.result (λ h. rw h.1
    (branch_leaves c.args.program.now (blank_of c.args.windows.now) m c.args.at.frame
    c.args.at.kind.now c.in-If.guard c.in-If.yes c.in-If.no _ _ _ _
    _ _ c.in-If.is refl c.deref.ensures.value c.deref-in-If.ensures.value h.0))
    c.choose.ensures

pub returns-in-While-clause-ok : goal.returns-in-While-clause-ok
returns-in-While-clause-ok c =
    let m = shape_of c.args.self.now c.args.store.now in
    on_ok_weaker c.repeat.result (λ h. rw h.1
    (loop_leaves c.args.program.now (blank_of c.args.windows.now) m c.args.at.frame
    c.args.at.kind.now c.in-While.guard c.in-While.body _ _ _ _
    _ c.in-While.is refl c.deref-in-While.ensures.value h.0))
    c.repeat.ensures

pub returns-in_ok-push_block-in-Call-clause-ok : goal.returns-in_ok-push_block-in-Call-clause-ok
returns-in_ok-push_block-in-Call-clause-ok c =
    let m = shape_of c.args.self.now c.args.store.now in
    rw c.in-Call.is (on_ok_weaker c.call.result
    (λ h. rw c.in_ok-push_block-in-Call.ensures at
    (h c.args.store.now (map (value_at_frame m c.args.at.frame) c.in-Call.args.items) (blank_of c.args.windows.now)
    (rw (c.variables-own.ensures, c.deref-in-Call.ensures.value, c.deref-in-Call-2.ensures.value) at
    c.in_ok-called-in-Call.ensures)))
    c.call.ensures)
