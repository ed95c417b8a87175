use Rattle.std.proofs.Common.{◌≡◌, ◌∙◌, ◌<◌, length, replicate, subst, sym, ap, rules}
use Rattle.std.specs.Prelude.{None}
use Rattle.std.proofs.lemmas.List.{length-map, length-replicate}
use Rattle.jif_tree.specs.Trees.{field_tree, method_tree}
use Rattle.need_labels.specs.Labelled.{labelled_of}
use Rattle.place_reasons.specs.Firsts.{first_some, or_first}
use Rattle.place_reasons.specs.Reasons.{method_told}
use Rattle.place_reasons.specs.Search.{AreTold}
use Rattle.place_reasons.proofs.Firsts.{first_mapped}
use Rattle.place_reasons.proofs.ToldSlots.{nothing_told, written_back}
use Rattle.place_reasons.proofs.fields.fields_told.Goals as goal

pub returns : goal.returns
returns c =
    let asked = c.args.search.now in
    let fields = asked.checked.now.program.fields.items in
    let methods = asked.checked.now.program.methods.items in
    let labelled = labelled_of asked.checked.now in
    let new = c.methods_told.new.found in
    let zeros : c.deref_mut.result.now ≡ replicate c.len.result None =
    c.deref_mut.ensures.value ∙ c.in_ok-found.ensures in
    let count : c.len.result ≡ length fields = search rules in
    let long : length new ≡ length c.deref_mut.result.now = search rules in
    let whole : c.in_ok-found.found.len ≡ length new = search rules in
    let all : length new ≡ c.len.result = long ∙ ap length zeros ∙ length-replicate c.len.result None in
    subst (AreTold asked.principals.now labelled c.args.host.now)
    (sym (written_back new c.in_ok-found.found.items c.in_ok-found.found.len whole)) (record {
      each = all ∙ count ∙ sym (length-map fields field_tree);
      told = λ field within.
          c.in_ok-methods_told.ensures field (subst (λ n. field.0 < n) long within)
          ∙ ap (λ before. or_first before (first_some (λ method. method_told asked.principals.now labelled
          c.args.host.now field (method_tree method)) methods))
          (nothing_told c.deref_mut.result.now c.len.result field zeros (subst (λ n. field.0 < n) all within))
          ∙ sym (first_mapped (method_told asked.principals.now labelled c.args.host.now field) method_tree methods);
    })
