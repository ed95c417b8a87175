use Rattle.std.proofs.Common.{◌≡◌, ◌++◌, ◌∷◌, [], map, length, refl, sym}
use Rattle.std.proofs.lemmas.Bool.{ltb-true, ltb-false}
use Rattle.std.proofs.lemmas.Option.{slice_get_read, slice_get_past}
use Rattle.std.proofs.lemmas.Result.{IfOk-weaker}
use Rattle.jif_tree.specs.LabelRules.{method_at}
use Rattle.jif_tree.specs.Trees.{program_tree}
use Rattle.msg_cost.specs.Touches.{statements_of_method}
use Rattle.msg_cost.specs.Views.{ids_of}
use Rattle.msg_cost.proofs.Noting.{method_added, method_absent}
use Rattle.msg_cost.proofs.index.add_method.Goals as goal

pub returns-in_ok-push-in-Some : goal.returns-in_ok-push-in-Some
returns-in_ok-push-in-Some c =
    let methods = c.args.program.now.methods.items in
    let lookup = rw c.deref.ensures.value at c.in-Some.ensures.lookup in
    let called = c.in-Some.called.now in
    let found = slice_get_read methods (length methods) c.args.method.0 called refl
    (ltb-true c.args.method.0 (length methods) (sym lookup.0)) lookup.1 in
    let old = c.args.numbers.now.items in
    IfOk-weaker c.add_block.result
    (λ (one : Unit {0}). c.add_block.new.numbers.items
    ≡ (old ++ called.head.0 ∷ []) ++ map (λ statement. statement.0) (ids_of called.body.items))
    (λ (one : Unit {0}). c.add_block.new.numbers.items
    ≡ old ++ map (λ statement. statement.0)
    (statements_of_method (method_at (program_tree c.args.program.now) c.args.method)))
    (λ one is. method_added methods c.args.method.0 called old _ found is)
    (rw (c.in_ok-push-in-Some.ensures.items, c.deref-in-Some.ensures.value) at c.add_block.ensures)

pub returns-in-None : goal.returns-in-None
returns-in-None c =
    let methods = c.args.program.now.methods.items in
    let lookup = rw c.deref.ensures.value at c.in-None.ensures.lookup in
    method_absent methods c.args.method.0 c.args.numbers.now.items
    (slice_get_past methods c.args.method.0 (ltb-false c.args.method.0 (length methods) (sym lookup.0)))
