use Rattle.std.proofs.Common.{◌≡◌, ◌∙◌, ◌<◌, List, get_or, length, ap, sym, subst, refl, arith}
use Rattle.std.proofs.lemmas.List.{length-map}
use Rattle.jif_tree.specs.declared.program.Method.{Method}
use Rattle.jif_tree.specs.Trees.{method_tree}
use Rattle.msg_cost.specs.Moves.{called_end}
use Rattle.msg_cost.specs.Views.{seated_shape}
use Rattle.msg_cost.proofs.Found.{none_found, one_more_found, all_found, method_there}
use Rattle.msg_cost.proofs.ends.method_ends.Goals as goal

pub loop-place-preserved : goal.loop-place-preserved
loop-place-preserved c =
    let planned = seated_shape c.args.planned.now in
    let method = c.method-item.result in
    let place = c.loop-place.place in
    let methods = c.args.planned.now.program.now.methods.items in
    let same = c.deref-method-items.ensures.value in
    let P : List Method → Type 0 = λ items. method ≡ get_or items place method in
    let within : place < length methods = subst (λ items. place < length items) same c.loop-place-test.true in
    let few = length-map methods method_tree in
    let ended = rw (c.host_of.ensures, c.deref.ensures.value) at c.block_end.ensures in
    one_more_found planned c.loop-place.ends place c.block_end.result (omega (arith, few))
    (ended ∙ sym (ap (called_end planned) (method_there methods place method within (subst P same c.method-item.is))))
    c.loop-place.invariant

pub loop-place-init : goal.loop-place-init
loop-place-init c = none_found (seated_shape c.args.planned.now) _ refl

pub returns : goal.returns
returns c =
    let few = length-map c.args.planned.now.program.now.methods.items method_tree in
    let same = ap length c.deref-method-items.ensures.value in
    all_found (seated_shape c.args.planned.now) c.loop-place.ends c.loop-place.place (omega (arith, few, same))
    c.loop-place.invariant
