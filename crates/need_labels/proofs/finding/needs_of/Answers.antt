use Rattle.std.proofs.Common.{List, map, refl, ap, subst}
use Rattle.std.specs.List.{flat_map}
use Rattle.std.proofs.lemmas.List.{take_all}
use Rattle.jif_tree.specs.declared.program.Method.{Method}
use Rattle.jif_tree.specs.Trees.{method_tree}
use Rattle.need_labels.specs.Needs.{NeedsShape, method_uses}
use Rattle.need_labels.specs.Labelled.{labelled_of}
use Rattle.need_labels.specs.Finding.{AreFound}
use Rattle.need_labels.proofs.WholePrograms.{nothing_found, authority_of, needs_found}
use Rattle.need_labels.proofs.finding.needs_of.Goals as goal

pub loop-method-init : goal.loop-method-init
loop-method-init c =
    nothing_found _ _ _ c.in_ok-with_capacity.ensures.items c.in_ok-with_capacity-2.ensures.items
    (c.in_ok-no_reads.ensures (labelled_of c.args.checked.now) refl)

pub add_method-requires : goal.add_method-requires
add_method-requires c =
    authority_of c.args.principals.now c.args.checked.now.program.methods.items c.loop-method.method-index
    c.method-item.result
    c.requires (rw c.deref-method-items.ensures.value at c.loop-method-test.true)
    (rw c.deref-method-items.ensures.value at c.method-item.is)

pub returns : goal.returns
returns c =
    let labelled = labelled_of c.args.checked.now in
    let methods = c.args.checked.now.program.methods.items in
    needs_found c.args.principals.now labelled c.loop-method.found c.new.result
    (ap (λ (needs : NeedsShape). needs.used) c.new.ensures) (ap (λ (needs : NeedsShape). needs.need) c.new.ensures)
    (ap (λ (needs : NeedsShape). needs.loc) c.new.ensures) (ap (λ (needs : NeedsShape). needs.readers) c.new.ensures)
    (subst (λ (some : List Method).
    AreFound c.args.principals.now labelled
    (flat_map (method_uses c.args.principals.now labelled) (map method_tree some)) c.loop-method.found)
    (take_all c.loop-method.method-index methods
    (rw c.deref-method-items.ensures.value at c.loop-method-test.false)) c.loop-method.invariant)
