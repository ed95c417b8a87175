-- What the first pair and the first principal tell, and that a head may be held where there is neither.
use Rattle.std.proofs.Common.{◌≡◌, ◌⊎◌, inl, inr, ℕ, zero, suc, ◌+◌, ◌<◌, ◌≤◌, Bool, true, false, List, [], ◌∷◌}
use Rattle.std.proofs.Common.{length, refl, sym, ap, subst, arith}
use Rattle.std.specs.Prelude.{◌&&◌, not, if◌then◌else◌, Option, Some, None, slice_get, unwrap_or}
use Rattle.std.specs.List.{range_with_len}
use Rattle.std.specs.Option.{option_map}
use Rattle.std.proofs.lemmas.Bool.{and_parts, cases_eq, false≢true}
use Rattle.std.proofs.lemmas.List.Elements.{All-nil}
use Rattle.std.proofs.lemmas.Option.{none-some}
use Rattle.js_base.specs.declared.ids.PrincipalId.{PrincipalId}
use Rattle.principals.specs.ActsFor.{Declared, IsDeclared}
use Rattle.label_lattice.specs.declared.label.Label.{Label}
use Rattle.label_lattice.specs.declared.label.TheConstants.{READERS}
use Rattle.label_lattice.specs.Label.{ConfFlows, IntegFlows, Trusts, PolicyForbids}
use Rattle.label_lattice.specs.Over.{IsLabelOver}
use Rattle.label_lattice.specs.Printed.{is_trusted_by}
use Rattle.host_decl.specs.Hosts.{HostShape}
use Rattle.jif_tree.specs.Trees.{MethodTree}
use Rattle.jif_tree.specs.LabelRules.{may_release}
use Rattle.label_reasons.specs.declared.reason.Trait.{Trait}
use Rattle.label_reasons.specs.declared.reason.Trait.TheVariants.{Keeps, Distrusts}
use Rattle.label_reasons.specs.Traits.{TraitIsLacking, IsDeclaredTrait}
use Rattle.label_reasons.specs.Listed.{listed}
use Rattle.label_reasons.specs.Reasons.{fails_in}
use Rattle.label_reasons.proofs.TraitTests.{AreTrusted, not_both}
use Rattle.label_reasons.proofs.ActsTests.{ActsLaws}
use Rattle.label_reasons.proofs.Listing.{none_listed}
use Rattle.label_reasons.proofs.Failing.{holds_else}
use Rattle.need_labels.specs.Needs.{Backs, IsNeed, for_label}
use Rattle.need_labels.proofs.Somewhere.{any_here, any_first, any_none}
use Rattle.place_rules.specs.PlaceRules.{MayHoldStatement}
use Rattle.place_reasons.specs.declared.reason.PlaceReason.{PlaceReason}
use Rattle.place_reasons.specs.declared.reason.PlaceReason.TheVariants as row
use Rattle.place_reasons.specs.declared.reason.Needed.TheVariants as needed
use Rattle.place_reasons.specs.Firsts.{or_first, first_some}
use Rattle.place_reasons.specs.Reasons.{first_pair, untrusting, first_untrusting, head_reason}
use Rattle.place_reasons.proofs.FirstPairs.{IsPairOf, first_pair_is, flows_not}

-- ---- pairs

fails_so : (principals : Declared) (from to : Label) (pair : Trait) → IsPairOf principals from to pair →
    IsDeclaredTrait principals pair × TraitIsLacking pair from to
fails_so principals from to (Keeps owner reader) is = (is.within, is.fails)
fails_so principals from to (Distrusts principal) is = absurd is.fails

pub pair_true : (principals : Declared) (from to : Label) (pair : Trait) → IsDeclared principals →
    first_pair principals from to ≡ Some pair → IsDeclaredTrait principals pair × TraitIsLacking pair from to
pair_true principals from to pair declared is =
    fails_so principals from to pair (first_pair_is principals declared from to pair is)

pub pair_denies : (principals : Declared) (from to : Label) (pair : Trait) → IsDeclared principals →
    first_pair principals from to ≡ Some pair → ¬ ConfFlows from to
pair_denies principals from to pair declared is flows =
    flows_not principals from to pair flows (first_pair_is principals declared from to pair is)

none_first : {X : Type 0} (xs : List X) → slice_get xs 0 ≡ None → xs ≡ []
none_first [] none = refl
none_first (x ∷ xs) none = absurd (none-some x (sym none))

pub pair_due : AreTrusted → (principals : Declared) → ActsLaws principals → (from to : Label) →
    IsLabelOver principals from → first_pair principals from to ≡ None → ConfFlows from to
pair_due tells principals laws from to over none owner reader owner_in reader_in held =
    let test : Trait → Bool = fails_in principals (may_release [] from to) in
    let holds = holds_else tells principals laws (may_release [] from to)
    (All-nil (λ (member : PrincipalId). member.0 < length principals.names), over)
    (none_listed principals test (none_first (listed principals test) none)) in
    elim (holds owner reader owner_in reader_in held) [
      | inl also ↦ also
      | inr some ↦ absurd (any_none (λ member. PolicyForbids principals member [] owner reader) some)
    ]

-- ---- principals

pub or_so : {Y : Type 0} (P : Y → Type 0) (first second : Option Y) (y : Y) → ((z : Y) → first ≡ Some z → P z) →
    ((z : Y) → second ≡ Some z → P z) → or_first first second ≡ Some y → P y
or_so P None second y one other is = other y is
or_so P (Some x) second y one other is = one y is

pub or_nones : {Y : Type 0} (first second : Option Y) → or_first first second ≡ None → (first ≡ None) × (second ≡ None)
or_nones None second none = (refl, none)
or_nones (Some x) second none = absurd (none-some x (sym none))

pub range_so : {Y : Type 0} (P : Y → Type 0) (make : ℕ → Option Y) (from count : ℕ) →
    ((k : ℕ) → k < from + count → (y : Y) → make k ≡ Some y → P y) → (y : Y) →
    first_some make (range_with_len from count) ≡ Some y → P y
range_so P make from zero each y is = absurd (none-some y is)
range_so P make from (suc count) each y is =
    or_so P (make from) (first_some make (range_with_len (from + 1) count)) y (each from (omega arith))
    (range_so P make (from + 1) count (λ k lt. each k (omega (arith, lt)))) is

pub range_none : {Y : Type 0} (make : ℕ → Option Y) (from count k : ℕ) → from ≤ k → k < from + count →
    first_some make (range_with_len from count) ≡ None → make k ≡ None
range_none make from zero k above below none = absurd (omega (arith, above, below))
range_none {Y} make from (suc count) k above below none =
    let both = or_nones (make from) (first_some make (range_with_len (from + 1) count)) none in
    elim (cases_eq from k) [
      | inl same ↦ let P : ℕ → Type 0 = λ n. make n ≡ None in subst P same both.0
      | inr other ↦ range_none make (from + 1) count k (omega (arith, above, other)) (omega (arith, below)) both.1
    ]

if_so : (b : Bool) (x y : ℕ) → (if b then Some x else None) ≡ Some y → (b ≡ true) × (x ≡ y)
if_so true x y is = (refl, ap (λ (found : Option ℕ). unwrap_or found x) is)
if_so false x y is = absurd (none-some y is)

other_true : (a b : Bool) (x : ℕ) → a ≡ true → (if a && not b then Some x else None) ≡ None → b ≡ true
other_true true true x is none = refl
other_true true false x is none = absurd (none-some x (sym none))
other_true false b x is none = absurd (false≢true is)

-- a declared principal that trusts the one label and not the other
abbrev pub IsUntrusting : Declared → Label → Label → ℕ → Type 0
IsUntrusting principals host label principal =
    (principal < length principals.names) × Trusts label principal × (¬ Trusts host principal)

pub trust_true : AreTrusted → (principals : Declared) (host label : Label) (principal : ℕ) →
    first_untrusting principals host label ≡ Some principal → IsUntrusting principals host label principal
trust_true tells principals host label principal is =
    range_so (IsUntrusting principals host label) (untrusting host label) 0 (length principals.names)
    (λ k lt y made.
    let parts = if_so (is_trusted_by label k && not (is_trusted_by host k)) k y made in
    let both = and_parts (is_trusted_by label k) (not (is_trusted_by host k)) parts.0 in
    subst (IsUntrusting principals host label) parts.1 (
      omega (arith, lt),
      (tells label k).0 both.0,
      λ also. not_both (is_trusted_by host k) ((tells host k).1 also) both.1,
    )) principal is

pub trust_due : AreTrusted → (principals : Declared) (host label : Label) → IsLabelOver principals label →
    first_untrusting principals host label ≡ None → IntegFlows host label
trust_due tells principals host label over none principal within trusts =
    let declared = over.trusts.declared principal within trusts in
    (tells host principal).0 (other_true (is_trusted_by label principal) (is_trusted_by host principal) principal
    ((tells label principal).1 trusts)
    (range_none (untrusting host label) 0 (length principals.names) principal (omega arith) (omega (arith, declared))
    none))

-- ---- heads

pub either_some : {X Y Z : Type 0} (f : X → Z) (g : Y → Z) (a : Option X) (b : Option Y) (z : Z) →
    or_first (option_map f a) (option_map g b) ≡ Some z → ((x : X) × (a ≡ Some x)) ⊎ ((y : Y) × (b ≡ Some y))
either_some f g (Some x) b z is = inl (x, refl)
either_some f g None (Some y) z is = inr (y, refl)
either_some f g None None z is = absurd (none-some z is)

neither_some : {X Y Z : Type 0} (f : X → Z) (g : Y → Z) (a : Option X) (b : Option Y) →
    or_first (option_map f a) (option_map g b) ≡ None → (a ≡ None) × (b ≡ None)
neither_some f g (Some x) b none = absurd (none-some (f x) (sym none))
neither_some f g None (Some y) none = absurd (none-some (g y) (sym none))
neither_some f g None None none = (refl, refl)

pub head_true : AreTrusted → (principals : Declared) (host : HostShape) (method : MethodTree) (need : ℕ)
    (reason : PlaceReason) → IsDeclared principals → IsNeed principals (for_label method.begin ∷ []) need →
    head_reason principals host.label method ≡ Some reason → ¬ MayHoldStatement (method.begin, need) host
head_true tells principals host method need reason declared needs is may =
    elim (either_some (λ pair. row.Begins pair) (λ principal. row.Needs principal needed.Head method.head)
    (first_pair principals method.begin host.label) (first_untrusting principals host.label method.begin) reason is) [
      | inl pair ↦ pair_denies principals method.begin host.label pair.0 declared pair.1 may.0
      | inr one ↦
          let says = trust_true tells principals host.label method.begin one.0 one.1 in
          let few = declared.names.few in
          let within : one.0 < READERS = omega (arith, says.0, few) in
          says.2 (may.1 one.0 within ((needs.members one.0 within).1
          (any_here (Backs principals one.0) (for_label method.begin) [] says.1)))
    ]

pub head_due : AreTrusted → (principals : Declared) → ActsLaws principals → (host : HostShape) (method : MethodTree)
    (need : ℕ) → IsLabelOver principals method.begin → IsNeed principals (for_label method.begin ∷ []) need →
    head_reason principals host.label method ≡ None → MayHoldStatement (method.begin, need) host
head_due tells principals laws host method need over needs none =
    let both = neither_some (λ pair. row.Begins pair) (λ principal. row.Needs principal needed.Head method.head)
    (first_pair principals method.begin host.label) (first_untrusting principals host.label method.begin) none in (
      pair_due tells principals laws method.begin host.label over both.0,
      λ principal within set. elim (any_first (Backs principals principal) (for_label method.begin) []
          ((needs.members principal within).0 set)) [
            | inl trusts ↦ trust_due tells principals host.label method.begin over both.1 principal within trusts
            | inr later ↦ absurd (any_none (Backs principals principal) later)
          ],
    )
