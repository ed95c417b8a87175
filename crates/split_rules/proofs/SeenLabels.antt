-- Which labels a host may see that may see a join, and whose labels it may affect that is trusted for a need.
use Rattle.std.proofs.Common.{◌≡◌, ◌∙◌, ℕ, zero, suc, ◌<◌, ◌⊎◌, true, inl, inr, List, [], ◌∷◌, ◌++◌, map, refl, ap}
use Rattle.std.proofs.Common.{sym, subst, arith, bit_and, true≢false, length}
use Rattle.std.specs.Prelude.{Option, Some, None, Any, slice_get, slice_index, unwrap_or}
use Rattle.std.specs.Int.{bit_at}
use Rattle.std.specs.List.{AllByRecursion, fold}
use Rattle.std.specs.Option.{IsSomeAnd, option_map}
use Rattle.std.proofs.lemmas.Nat.Bits.{bit_at_and, bit_at-zero}
use Rattle.std.proofs.lemmas.Option.{slice_get-map, slice_get_within, slice_get_cases}
use Rattle.js_base.specs.declared.ids.HostId.{HostId}
use Rattle.js_base.specs.declared.ids.FieldId.{FieldId}
use Rattle.js_base.specs.declared.ids.VarId.{VarId}
use Rattle.js_base.specs.declared.ids.StmtId.{StmtId}
use Rattle.js_base.specs.declared.ids.MethodId.{MethodId}
use Rattle.js_base.proofs.BitLemmas.{is_bit}
use Rattle.principals.specs.ActsFor.{Declared}
use Rattle.label_lattice.specs.declared.label.Label.{Label}
use Rattle.label_lattice.specs.declared.label.TheConstants.{READERS}
use Rattle.label_lattice.specs.Label.{ConfFlows, IntegFlows, IsTrustedBy, Trusts}
use Rattle.label_lattice.specs.Lattice.{common_rows, join_of, empty_label}
use Rattle.host_decl.specs.Hosts.{HostShape}
use Rattle.jif_tree.specs.Trees.{FieldTree}
use Rattle.jif_tree.specs.LabelRules.{field_label}
use Rattle.jif_tree.specs.WellNumbered.{HasVariable}
use Rattle.need_labels.specs.Labelled.{Labelled}
use Rattle.need_labels.specs.Needs.{Backing, for_label, Backs, IsNeed, label_of}
use Rattle.need_labels.specs.Plan.{field_host}
use Rattle.need_labels.proofs.Somewhere.{any_here, any_later, any_left}
use Rattle.msg_cost.specs.Moves.{PlannedShape, is_trusted_for}
use Rattle.msg_cost.proofs.Trusted.{test_decides}
use Rattle.split_rules.specs.Allowed.{IsTrustedHost}
use Rattle.split_rules.proofs.ToldEmissions.{Sees, Affects, AffectsVariable, ReadsWell, PutsWell}

-- ---- joins

common_bit : (first second : List ℕ) (owner reader : ℕ) → bit_at (slice_index (common_rows first second) owner) reader
    ≡ bit_at (bit_and (slice_index first owner) (slice_index second owner)) reader
common_bit [] second owner reader =
    let both = bit_at_and 0 (slice_index second owner) reader in
    let none = bit_at-zero reader in
    omega arith
common_bit (x ∷ xs) [] owner reader =
    let both = bit_at_and (slice_index (x ∷ xs) owner) 0 reader in
    let none = bit_at-zero reader in
    omega arith
common_bit (x ∷ xs) (y ∷ ys) zero reader = refl
common_bit (x ∷ xs) (y ∷ ys) (suc owner) reader = common_bit xs ys owner reader

-- a host may see both parts of a join that it may see
pub flows_first : (first second : Label) → ConfFlows first (join_of first second)
unfolding join_of
flows_first first second owner reader owner_in reader_in forbids =
    let is = common_bit first.rows second.rows owner reader in
    let both = bit_at_and (slice_index first.rows owner) (slice_index second.rows owner) reader in
    omega arith

pub flows_second : (first second : Label) → ConfFlows second (join_of first second)
unfolding join_of
flows_second first second owner reader owner_in reader_in forbids =
    let is = common_bit first.rows second.rows owner reader in
    let both = bit_at_and (slice_index first.rows owner) (slice_index second.rows owner) reader in
    omega arith

one_clear : (first second : ℕ) → first < 2 → second < 2 → (first ≡ 1 → second ≡ 1 → ⊥) → (first ≡ 0) ⊎ (second ≡ 0)
one_clear zero second one two apart = inl refl
one_clear (suc first) zero one two apart = inr refl
one_clear (suc first) (suc second) one two apart = absurd (apart (omega arith) (omega arith))

pub flows_both : (first second to : Label) → ConfFlows first to → ConfFlows second to →
    ConfFlows (join_of first second) to
unfolding join_of
flows_both first second to one two owner reader owner_in reader_in forbids =
    let first_bit = bit_at (slice_index first.rows owner) reader in
    let second_bit = bit_at (slice_index second.rows owner) reader in
    let is = common_bit first.rows second.rows owner reader in
    let both = bit_at_and (slice_index first.rows owner) (slice_index second.rows owner) reader in
    elim (one_clear first_bit second_bit (is_bit _ reader) (is_bit _ reader)
    (λ set also. omega (arith, is, both, set, also, forbids))) [
      | inl clear ↦ one owner reader owner_in reader_in clear
      | inr clear ↦ two owner reader owner_in reader_in clear
    ]

-- ---- what a host may see

pub sees_less : (planned : PlannedShape) (host : HostId) (from to : Label) → ConfFlows from to →
    Sees planned host to → Sees planned host from
sees_less planned host from to less sees = by (slice_get planned.hosts.hosts host.0) sees
  where
    by : (found : Option HostShape) → IsSomeAnd found (λ row. ConfFlows to row.label) →
        IsSomeAnd found (λ row. ConfFlows from row.label)
    by None never = absurd never
    by (Some row) flows = λ owner reader owner_in reader_in forbids.
        flows owner reader owner_in reader_in (less owner reader owner_in reader_in forbids)

pub sees_both : (planned : PlannedShape) (host : HostId) (first second : Label) → Sees planned host first →
    Sees planned host second → Sees planned host (join_of first second)
sees_both planned host first second one two = by (slice_get planned.hosts.hosts host.0) one two
  where
    by : (found : Option HostShape) → IsSomeAnd found (λ row. ConfFlows first row.label) →
        IsSomeAnd found (λ row. ConfFlows second row.label) →
        IsSomeAnd found (λ row. ConfFlows (join_of first second) row.label)
    by None never also = absurd never
    by (Some row) flows also = flows_both first second row.label flows also

-- the parts of a join of many
pub folded_sees : (planned : PlannedShape) (host : HostId) (first : Label) (others : List Label) →
    Sees planned host (fold join_of first others) →
    Sees planned host first × AllByRecursion (Sees planned host) others
folded_sees planned host first [] sees = (sees, tt)
folded_sees planned host first (label ∷ others) sees =
    let so = folded_sees planned host (join_of first label) others sees in (
      sees_less planned host first (join_of first label) (flows_first first label) so.0,
      (sees_less planned host label (join_of first label) (flows_second first label) so.0, so.1),
    )

-- and what flows to such a join
pub flows_folded : (first : Label) (others : List Label) →
    ConfFlows first (fold join_of first others)
    × AllByRecursion (λ label. ConfFlows label (fold join_of first others)) others
flows_folded first [] = (λ owner reader owner_in reader_in forbids. forbids, tt)
flows_folded first (label ∷ others) =
    let so = flows_folded (join_of first label) others in (
      λ owner reader owner_in reader_in forbids.
          so.0 owner reader owner_in reader_in (flows_first first label owner reader owner_in reader_in forbids),
      (
        λ owner reader owner_in reader_in forbids.
            so.0 owner reader owner_in reader_in (flows_second first label owner reader owner_in reader_in forbids),
        so.1,
      ),
    )

-- ---- what a host may affect

pub trusted_host : (planned : PlannedShape) (host : HostId) (statement : StmtId) →
    is_trusted_for planned host statement ≡ true →
    IsTrustedHost planned.hosts (slice_index planned.needs.need statement.0) host
trusted_host planned host statement trusted = by (slice_get planned.hosts.hosts host.0) refl trusted
  where
    need : ℕ
    need = slice_index planned.needs.need statement.0

    by : (found : Option HostShape) → slice_get planned.hosts.hosts host.0 ≡ found →
        is_trusted_for planned host statement ≡ true → IsTrustedHost planned.hosts need host
    by None is holds = absurd (true≢false (sym (rw is at holds)))
    by (Some row) is holds =
        let P : Option HostShape → Type 0 = λ found. IsSomeAnd found (λ it. IsTrustedBy it.label need) in
        subst P (sym is) ((test_decides row.label need).0 (rw is at holds))

affects_one : (planned : PlannedShape) (host : HostId) (need : ℕ) (label : Label) →
    IsTrustedHost planned.hosts need host →
    ((p : ℕ) → p < READERS → Trusts label p → bit_at need p ≡ 1) → Affects planned host label
affects_one planned host need label trusted within = by (slice_get planned.hosts.hosts host.0) trusted
  where
    by : (found : Option HostShape) → IsSomeAnd found (λ row. IsTrustedBy row.label need) →
        IsSomeAnd found (λ row. IntegFlows row.label label)
    by None never = absurd never
    by (Some row) trusts = λ p p_in holds. trusts p p_in (within p p_in holds)

all_affected : (planned : PlannedShape) (principals : Declared) (host : HostId) (need : ℕ) →
    IsTrustedHost planned.hosts need host → (changed : List Label) →
    ((p : ℕ) → p < READERS → Any (Backs principals p) (map for_label changed) → bit_at need p ≡ 1) →
    AllByRecursion (Affects planned host) changed
all_affected planned principals host need trusted [] within = tt
all_affected planned principals host need trusted (label ∷ changed) within = (
  affects_one planned host need label trusted
      (λ p p_in trusts. within p p_in (any_here (Backs principals p) (for_label label) (map for_label changed) trusts)),
  all_affected planned principals host need trusted changed
      (λ p p_in some. within p p_in (any_later (Backs principals p) (for_label label) (map for_label changed) some)),
)

-- the host of a statement affects all that the statement changes
pub changes_affected : (planned : PlannedShape) (principals : Declared) (host : HostId) (need : ℕ) →
    IsTrustedHost planned.hosts need host → (changed : List Label) (released nested : List Backing) →
    IsNeed principals (map for_label changed ++ released ++ nested) need →
    AllByRecursion (Affects planned host) changed
changes_affected planned principals host need trusted changed released nested is =
    all_affected planned principals host need trusted changed
    (λ p p_in some. (is.members p p_in).1 (any_left (Backs principals p) (map for_label changed ++ released) nested
    (any_left (Backs principals p) (map for_label changed) released some)))

-- ---- fields and variables

abbrev pub label_in : Option FieldTree → Label
label_in found = unwrap_or (option_map (λ tree. tree.label) found) empty_label

pub reads_field : (labelled : Labelled) (planned : PlannedShape) (host : HostId) (pc : Label) (field : FieldId)
    (tree : FieldTree) → slice_get labelled.program.fields field.0 ≡ Some tree →
    Sees planned host (field_label labelled.program field) → Sees planned (field_host planned.plan field) pc →
    ReadsWell labelled planned host pc field
reads_field labelled planned host pc field tree is sees told =
    let P : Option FieldTree → Type 0 = λ found.
    IsSomeAnd found (λ it. Sees planned host it.label × Sees planned (field_host planned.plan field) pc) in
    let Q : Label → Type 0 = λ label. Sees planned host label in
    let own : Sees planned host tree.label = subst Q (ap label_in is) sees in
    subst P (sym is) (own, told)

pub puts_field : (labelled : Labelled) (planned : PlannedShape) (host : HostId) (pc : Label) (field : FieldId)
    (tree : FieldTree) → slice_get labelled.program.fields field.0 ≡ Some tree →
    Affects planned host (field_label labelled.program field) → Sees planned (field_host planned.plan field) pc →
    PutsWell labelled planned host pc field
puts_field labelled planned host pc field tree is affects told =
    let P : Option FieldTree → Type 0 = λ found.
    IsSomeAnd found (λ it. Affects planned host it.label × Sees planned (field_host planned.plan field) pc) in
    let Q : Label → Type 0 = λ label. Affects planned host label in
    let own : Affects planned host tree.label = subst Q (ap label_in is) affects in
    subst P (sym is) (own, told)

abbrev pub label_found : Option Label → Label
label_found found = unwrap_or (unwrap_or (option_map Some found) None) empty_label

pub label_of_found : (labelled : Labelled) (x : VarId) →
    label_of labelled x ≡ label_found (slice_get labelled.var_labels x.0)
label_of_found labelled x =
    ap (λ found. unwrap_or (unwrap_or found None) empty_label) (slice_get-map Some labelled.var_labels x.0)

pub affects_variable : (labelled : Labelled) (planned : PlannedShape) (host : HostId) (method : MethodId) (x : VarId) →
    length labelled.var_labels ≡ length labelled.program.vars → HasVariable labelled.program method x →
    Affects planned host (label_of labelled x) → AffectsVariable labelled planned host x
affects_variable labelled planned host method x many there affects =
    let within = slice_get_within labelled.program.vars x.0 there.0 there.1 in
    elim ((slice_get_cases labelled.var_labels x.0).1) [
      | inl found ↦
          let P : Option Label → Type 0 = λ it. IsSomeAnd it (Affects planned host) in
          let Q : Label → Type 0 = λ label. Affects planned host label in
          let own : Affects planned host found.0 =
          subst Q (label_of_found labelled x ∙ ap label_found found.2) affects in
          subst P (sym found.2) own
      | inr past ↦ absurd (let over = past.0 in omega arith)
    ]
