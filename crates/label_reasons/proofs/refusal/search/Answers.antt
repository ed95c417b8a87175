use Rattle.std.proofs.Common.{ℕ, ◌+◌, suc, List, map, drop, refl, sym, subst, add-one}
use Rattle.js_base.proofs.Lists.{next_of}
use Rattle.jif_tree.specs.declared.program.Method.{Method}
use Rattle.jif_tree.specs.Trees.{program_tree, method_tree}
use Rattle.label_reasons.proofs.MethodSearches.{Reaches, starts, goes_on, is_found, authority_there, declared_there}
use Rattle.label_reasons.proofs.refusal.search.Goals as goal

pub loop-number-init : goal.loop-number-init
loop-number-init c =
    starts c.args.principals.now (program_tree c.args.program.now) c.args.held c.in_ok-known.known
    c.in_ok-known.ensures.labels c.in_ok-known.ensures.causes c.in_ok-known.ensures.long

pub search_method-found-requires-clause-authority : goal.search_method-found-requires-clause-authority
search_method-found-requires-clause-authority c =
    let value = c.deref-method-items.ensures.value in
    declared_there c.args.principals.now c.args.program.now.methods.items c.loop-number.number c.method-item.result
    c.requires.authority (rw value at c.loop-number-test.true) (rw value at c.method-item.is)

pub loop-number-preserved : goal.loop-number-preserved
loop-number-preserved c =
    let principals = c.args.principals.now in
    let program = program_tree c.args.program.now in
    let methods = c.args.program.now.methods.items in
    let number = c.loop-number.number in
    let method = c.method-item.result in
    let value = c.deref-method-items.ensures.value in
    let P : List Method → Type 0 = λ left. Reaches principals program c.args.held number c.loop-number.known
    (map method_tree left) in
    let R : ℕ → Type 0 = λ next. Reaches principals program c.args.held (number + 1) c.search_method-found.new.known
    (map method_tree (drop next methods)) in
    subst R (sym (add-one number)) (goes_on principals program c.args.held number c.loop-number.known c.search_method-found.new.known
    (method_tree method) (map method_tree (drop (suc number) methods))
    (subst P (next_of methods number method (rw value at c.loop-number-test.true) (rw value at c.method-item.is))
    c.loop-number.invariant) (rw c.in-None.is at c.search_method-found.ensures))

pub returns-in-Some : goal.returns-in-Some
returns-in-Some c =
    let principals = c.args.principals.now in
    let program = program_tree c.args.program.now in
    let methods = c.args.program.now.methods.items in
    let number = c.loop-number.number in
    let method = c.method-item.result in
    let value = c.deref-method-items.ensures.value in
    let within = rw value at c.loop-number-test.true in
    let is = rw value at c.method-item.is in
    let P : List Method → Type 0 = λ left. Reaches principals program c.args.held number c.loop-number.known
    (map method_tree left) in
    is_found principals program c.args.held number c.loop-number.known c.search_method-found.new.known (method_tree method)
    (map method_tree (drop (suc number) methods)) c.in-Some.found
    (subst P (next_of methods number method within is) c.loop-number.invariant)
    (rw c.in-Some.is at c.search_method-found.ensures) (authority_there program methods number method refl within is)
