use Rattle.std.proofs.Common.{◌∙◌, suc, List, ◌∷◌, map, drop, ap, sym, add-one}
use Rattle.std.proofs.Math.Seq.{drop-cons}
use Rattle.jif_tree.specs.declared.program.Method.{Method}
use Rattle.jif_tree.specs.Trees.{method_tree}
use Rattle.split_rules.specs.Walk.{methods_emissions}
use Rattle.control_split.specs.Trace.{traced}
use Rattle.control_split.specs.Views.{labelled_in, planned_in}
use Rattle.control_split.proofs.MethodTraces.{bodies_more, sized_at}
use Rattle.control_split.proofs.methods.bodies.Goals as goal

pub body-requires : goal.body-requires
body-requires c =
    let value = c.deref-method-items.ensures.value in
    sized_at c.args.split.now.checked.now.program.methods.items c.loop-number.number c.method-item.result
    (rw value at c.loop-number-test.true) (rw value at c.method-item.is) c.requires.sized

pub loop-number-preserved : goal.loop-number-preserved
loop-number-preserved c =
    let split = c.args.split.now in
    let principals = split.hosts.now.principals in
    let methods = split.checked.now.program.methods.items in
    let number = c.loop-number.number in
    let method = c.method-item.result in
    let rest = drop (suc number) methods in
    let value = c.deref-method-items.ensures.value in
    let left = drop-cons methods number method (rw value at c.loop-number-test.true)
    ∙ ap (λ (next : Method). next ∷ rest) (sym (rw value at c.method-item.is)) in
    rw (add-one number) (bodies_more principals (labelled_in split) (planned_in split) c.loop-number.trace
    c.body.new.trace number (method_tree method) (map method_tree rest) c.in_ok-body.ensures
    ∙ ap (λ (some : List Method). traced c.loop-number.trace (methods_emissions principals (labelled_in split)
    (planned_in split) c.loop-number.trace.counts number (map method_tree some))) (sym left)
    ∙ c.loop-number.invariant)
