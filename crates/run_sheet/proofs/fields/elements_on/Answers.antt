use Rattle.std.proofs.Common.{rules, arith, ℕ, ◌+◌, ◌≡◌, List, [], ◌∷◌, ◌++◌, ap, sym, ◌∙◌, SFits, w64}
use Rattle.std.specs.Prelude.{pos, ℤ}
use Rattle.std.proofs.lemmas.Int.{to_z-of_z}
use Rattle.std.proofs.lemmas.List.FromFn.{map-range_with_len_more}
use Rattle.host_core.specs.Host.{HostModel, state_of}
use Rattle.jif_tree.specs.Store.{element_at, row_of}
use Rattle.run_sheet.specs.FieldMarks.{elements_on}
use Rattle.run_sheet.proofs.fields.elements_on.Goals as goal

one_element : (host : HostModel) (field : ℕ) (index : ℕ) (row next : List ℤ) (value : ℤ) →
    row ≡ elements_on (state_of host) field index → value ≡ element_at (row_of host.stores.rows field) (pos index) →
    next ≡ row ++ value ∷ [] → next ≡ elements_on (state_of host) field (index + 1)
one_element host field index row next value before is more =
    more ∙ ap (λ (r : List ℤ). r ++ value ∷ []) before
    ∙ ap (λ (v : ℤ). elements_on (state_of host) field index ++ v ∷ []) is
    ∙ sym (map-range_with_len_more (λ (k : ℕ). element_at (row_of host.stores.rows field) (pos k)) 0 index index
    (omega arith))

pub loop-index-preserved : goal.loop-index-preserved
loop-index-preserved c =
    let value : c.field.result
    ≡ element_at (row_of c.args.host.now.stores.rows c.args.field.0) (pos c.loop-index.index) = search rules in
    let fits : SFits w64 c.field.result = search rules in
    one_element c.args.host.now c.args.field.0 c.loop-index.index c.loop-index.elements.items c.push.new.self.items
    c.field.result c.loop-index.invariant value
    (c.in_ok-push.ensures.items
    ∙ ap (λ element. c.loop-index.elements.items ++ element ∷ []) (to_z-of_z w64 c.field.result fits))
