use Rattle.std.proofs.Common.{◌≡◌, ◌∙◌, ℕ, ◌<◌, suc, sym, ap, subst, List, ◌∷◌, map, drop, length, get_or, add-one}
use Rattle.std.proofs.lemmas.List.{length-map, get_or-map}
use Rattle.std.specs.Prelude.{All}
use Rattle.js_base.proofs.Lists.{next_of}
use Rattle.principals.specs.ActsFor.{Declared, AreDeclared}
use Rattle.jif_tree.specs.declared.program.Method.{Method}
use Rattle.jif_tree.specs.Trees.{MethodTree, program_tree, method_tree}
use Rattle.label_check.specs.Parts.{RefusesFor}
use Rattle.label_check.specs.Places.{PassesMethods, asks_of_methods}
use Rattle.label_check.proofs.Exits.{handed_on}
use Rattle.label_check.proofs.Passing.{passes_on, refused_left}
use Rattle.label_check.proofs.checker.check_methods.Goals as goal

-- the methods that are left begin with the next
next_method : (methods : List Method) (place : ℕ) (method : Method) → place < length methods →
    method ≡ get_or methods place method →
    map method_tree (drop place methods) ≡ method_tree method ∷ map method_tree (drop (suc place) methods)
next_method methods place method within is =
    ap (map method_tree) (next_of methods place method within is)

authority_of : (principals : Declared) (methods : List Method) (place : ℕ) (method : Method) →
    All (λ tree. AreDeclared principals tree.authority) (map method_tree methods) → place < length methods →
    method ≡ get_or methods place method → AreDeclared principals method.authority.items
authority_of principals methods place method all within is =
    subst (λ (tree : MethodTree). AreDeclared principals tree.authority)
    (get_or-map method_tree methods place method (method_tree method) within ∙ ap method_tree (sym is))
    (all place (method_tree method) (rw length-map within))

pub check_method-requires : goal.check_method-requires
check_method-requires c =
    authority_of c.args.principals.now c.args.program.now.methods.items c.loop-method.method-index c.method-item.result
    c.requires (rw c.deref-method-items.ensures.value at c.loop-method-test.true)
    (rw c.deref-method-items.ensures.value at c.method-item.is)

pub returns-in_err-check_method-clause-err : goal.returns-in_err-check_method-clause-err
returns-in_err-check_method-clause-err c =
    let methods = c.args.program.now.methods.items in
    let rest = map method_tree (drop (suc c.loop-method.method-index) methods) in
    let is = rw c.deref-method-items.ensures.value at c.method-item.is in
    let within = rw c.deref-method-items.ensures.value at c.loop-method-test.true in
    let Q : List MethodTree → Type 0 = λ left.
    RefusesFor c.args.principals.now
    (asks_of_methods c.args.principals.now (program_tree c.args.program.now) c.loop-method.found left)
    c.in_err-check_method.field-0.0 in
    handed_on c.from_residual.result c.from_residual.ensures
    (refused_left c.loop-method.invariant
    (subst Q (sym (next_method methods c.loop-method.method-index c.method-item.result within is))
    (c.in_err-check_method.ensures.err rest)))

pub loop-method-preserved : goal.loop-method-preserved
loop-method-preserved c =
    let methods = c.args.program.now.methods.items in
    let rest = map method_tree (drop (suc c.loop-method.method-index) methods) in
    let is = rw c.deref-method-items.ensures.value at c.method-item.is in
    let within = rw c.deref-method-items.ensures.value at c.loop-method-test.true in
    let Q : List MethodTree → Type 0 = λ left.
    PassesMethods c.args.principals.now (program_tree c.args.program.now) c.loop-method.found left
    c.check_method.new.found rest in
    rw add-one (passes_on c.loop-method.invariant
    (subst Q (sym (next_method methods c.loop-method.method-index c.method-item.result within is))
    (c.in_ok-check_method.ensures.ok rest)))
