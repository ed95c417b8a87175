use Rattle.std.proofs.Common.{length, refl, sym}
use Rattle.std.proofs.lemmas.Bool.{ltb-true, ltb-false}
use Rattle.std.proofs.lemmas.Option.{slice_get_read, slice_get_past}
use Rattle.msg_cost.proofs.Noting.{head_added, head_absent}
use Rattle.msg_cost.proofs.index.add_head.Goals as goal

pub returns-in_ok-push-in-Some : goal.returns-in_ok-push-in-Some
returns-in_ok-push-in-Some c =
    let methods = c.args.program.now.methods.items in
    let lookup = rw c.deref.ensures.value at c.in-Some.ensures.lookup in
    let called = c.in-Some.called.now in
    let found = slice_get_read methods (length methods) c.args.method.0 called refl
    (ltb-true c.args.method.0 (length methods) (sym lookup.0)) lookup.1 in
    head_added methods c.args.method.0 called c.args.numbers.now.items _ found c.in_ok-push-in-Some.ensures.items

pub returns-in-None : goal.returns-in-None
returns-in-None c =
    let methods = c.args.program.now.methods.items in
    let lookup = rw c.deref.ensures.value at c.in-None.ensures.lookup in
    head_absent methods c.args.method.0 c.args.numbers.now.items
    (slice_get_past methods c.args.method.0 (ltb-false c.args.method.0 (length methods) (sym lookup.0)))
