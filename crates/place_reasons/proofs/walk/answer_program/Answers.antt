use Rattle.std.proofs.Common.{ℕ, ◌+◌, suc, List, map, drop, sym, subst, add-one}
use Rattle.js_base.proofs.Lists.{next_of}
use Rattle.jif_tree.specs.declared.program.Method.{Method}
use Rattle.jif_tree.specs.Trees.{program_tree, method_tree}
use Rattle.place_reasons.proofs.Walking.{Reaches, starts, goes_on}
use Rattle.place_reasons.proofs.walk.answer_program.Goals as goal

pub loop-number-init : goal.loop-number-init
loop-number-init c =
    rw c.new-answers.ensures.items (starts c.args.question c.args.principals.now (program_tree c.args.program.now) c.args.held c.in_ok-known.known
    c.in_ok-known.ensures.labels c.in_ok-known.ensures.causes c.in_ok-known.ensures.long)

pub loop-number-preserved : goal.loop-number-preserved
loop-number-preserved c =
    let principals = c.args.principals.now in
    let program = program_tree c.args.program.now in
    let methods = c.args.program.now.methods.items in
    let number = c.loop-number.number in
    let method = c.method-item.result in
    let value = c.deref-method-items.ensures.value in
    let P : List Method → Type 0 = λ left. Reaches c.args.question principals program c.args.held number
    c.loop-number.known c.loop-number.answers.items (map method_tree left) in
    let R : ℕ → Type 0 = λ next. Reaches c.args.question principals program c.args.held (number + 1)
    c.answer_method.new.known c.answer_method.new.answers.items (map method_tree (drop next methods)) in
    subst R (sym (add-one number)) (goes_on c.args.question principals program c.args.held number c.loop-number.known
    c.answer_method.new.known c.loop-number.answers.items c.answer_method.new.answers.items
    (method_tree method) (map method_tree (drop (suc number) methods))
    (subst P (next_of methods number method (rw value at c.loop-number-test.true) (rw value at c.method-item.is))
    c.loop-number.invariant) c.in_ok-answer_method.ensures)
