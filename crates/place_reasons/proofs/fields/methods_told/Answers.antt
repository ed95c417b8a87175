use Rattle.std.proofs.Common.{◌<◌, ◌∙◌, length, ap, rules}
use Rattle.jif_tree.specs.Trees.{block_tree, method_tree}
use Rattle.need_labels.specs.Labelled.{labelled_of}
use Rattle.place_reasons.specs.Firsts.{or_first}
use Rattle.place_reasons.specs.Reasons.{Site, block_told, method_told}
use Rattle.place_reasons.specs.Search.{told_for}
use Rattle.place_reasons.proofs.Firsts.{first_more}
use Rattle.place_reasons.proofs.Sites.{same_site}
use Rattle.place_reasons.proofs.fields.methods_told.Goals as goal

pub loop-method-preserved : goal.loop-method-preserved
loop-method-preserved c = λ field within.
    let asked = c.args.search.now in
    let methods = asked.checked.now.program.methods.items in
    let item = c.method-item.result in
    let there : field.0 < length c.loop-method.found = search rules in
    let value = c.deref-method-items.ensures.value in
    let of = c.site_of-site.ensures in
    (rw c.deref.ensures.value at c.in_ok-block_told.ensures) field there
    ∙ ap (λ (site : Site). or_first (told_for c.loop-method.found field)
    (block_told site field (block_tree item.body.items)))
    (same_site c.site_of-site.result asked.principals.now asked.checked.now c.args.host.now item of.principals
    of.checked of.host of.method)
    ∙ ap (λ before. or_first before (method_told asked.principals.now (labelled_of asked.checked.now) c.args.host.now
    field (method_tree item))) (c.loop-method.invariant field within)
    ∙ first_more (λ method. method_told asked.principals.now (labelled_of asked.checked.now) c.args.host.now field
    (method_tree method)) (told_for c.args.found.now field) methods c.loop-method.method-index item
    (rw value at c.loop-method-test.true) (rw value at c.method-item.is)
