-- The test of whether whoever trusts a label trusts a host decides it.
use Rattle.std.proofs.Common.{◌≡◌, ℕ, ◌<◌, ◌==◌, Bool, true, false, if◌then◌else◌, get_or, arith, subst, sym, ap, ◌∙◌}
use Rattle.std.proofs.Common.{length, refl, Option, Some, slice_get}
use Rattle.std.proofs.lemmas.Bool.{false≢true}
use Rattle.std.specs.Option.{option_map}
use Rattle.std.specs.Prelude.{IsTrue, ◌↔◌}
use Rattle.std.specs.Int.{bit_at}
use Rattle.std.specs.List.{range_with_len}
use Rattle.std.proofs.lemmas.List.FromFn.{length-range_with_len, get_or-range_with_len}
use Rattle.std.proofs.lemmas.List.Sums.{AllPass-from_list_all, list_all-from_AllPass}
use Rattle.label_lattice.specs.Label.{IntegFlows}
use Rattle.label_lattice.specs.declared.label.Label.{Label}
use Rattle.entry_check.specs.Checks.{label_at}
use Rattle.host_code.specs.Code.{CodeFieldShape, CodeHostShape, CodeShape}
use Rattle.js_base.specs.declared.ids.HostId.{HostId}
use Rattle.run_sheet.specs.FieldMarks.{is_trusted_alike, reaches_field, reaches_label}

abbrev passes : Label → Label → ℕ → Bool
passes host label k = if bit_at label.trust k == 1 then bit_at host.trust k == 1 else true

one_passes : (a b : ℕ) → (a ≡ 1 → b ≡ 1) → (if a == 1 then b == 1 else true) ≡ true
one_passes a b holds = grind arith

passes_one : (a b : ℕ) → (if a == 1 then b == 1 else true) ≡ true → a ≡ 1 → b ≡ 1
passes_one a b passed is = grind arith

at_place : (k d : ℕ) → k < 64 → get_or (range_with_len 0 64) k d ≡ k
at_place k d within = omega (arith, get_or-range_with_len 0 64 k d within)

pub alike_from : (host label : Label) → IntegFlows host label → is_trusted_alike host label ≡ true
unfolding is_trusted_alike
alike_from host label flows =
    list_all-from_AllPass (passes host label) (range_with_len 0 64)
    (λ k d less.
    let within : k < 64 = omega (arith, less, length-range_with_len 0 64) in
    subst (λ n. passes host label n ≡ true) (sym (at_place k d within))
    (one_passes (bit_at label.trust k) (bit_at host.trust k) (flows k within)))

pub from_alike : (host label : Label) → is_trusted_alike host label ≡ true → IntegFlows host label
unfolding is_trusted_alike
from_alike host label alike k within trusts =
    let less : k < length (range_with_len 0 64) = omega (arith, within, length-range_with_len 0 64) in
    let passed : passes host label (get_or (range_with_len 0 64) k 0) ≡ true =
    AllPass-from_list_all (passes host label) (range_with_len 0 64) alike k 0 less in
    passes_one (bit_at label.trust k) (bit_at host.trust k)
    (subst (λ n. passes host label n ≡ true) (at_place k 0 within) passed) trusts

-- what is true exactly where the integrity of the host's label may flow to the other is this test
pub same_test : (is : Bool) (host label : Label) → (IsTrue is ↔ IntegFlows host label) →
    is ≡ is_trusted_alike host label
same_test is host label same = by_cases is (is_trusted_alike host label) refl refl
  where
    by_cases : (one other : Bool) → is ≡ one → is_trusted_alike host label ≡ other → is ≡ is_trusted_alike host label
    by_cases true other holds test = holds ∙ sym (alike_from host label (same.0 holds))
    by_cases false true fails test = absurd (false≢true (sym fails ∙ same.1 (from_alike host label test)))
    by_cases false false fails test = fails ∙ sym test

-- so a host reaches a field by what the code has of both
pub reached : (code : CodeShape) (field : CodeFieldShape) (at : HostId) (is : Bool) (host : CodeHostShape)
    (label other : Label) → slice_get code.hosts at.0 ≡ Some host → label_at code field.label ≡ Some label →
    other ≡ host.label → (IsTrue is ↔ IntegFlows other label) → is ≡ reaches_field code field at
reached code field at is host label other here there named same =
    same_test is host.label label (subst (λ (l : Label). IsTrue is ↔ IntegFlows l label) named same)
    ∙ sym (ap (λ (h : Option CodeHostShape). reaches_label (option_map (λ (one : CodeHostShape). one.label) h)
    (label_at code field.label)) here
    ∙ ap (λ (l : Option Label). reaches_label (Some host.label) l) there)
