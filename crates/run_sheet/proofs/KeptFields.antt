-- A field is kept exactly where no host that misbehaves may affect it.
use Rattle.std.proofs.Common.{◌≡◌, ◌≢◌, ℕ, zero, suc, Bool, true, false, List, [], ◌∷◌, map, ap, refl, sym}
use Rattle.std.proofs.Common.{subst, ◌∙◌, arith, Option, Some, None, slice_get, cond}
use Rattle.std.specs.Prelude.{◌↔◌, Any, IsSomeAnd}
use Rattle.std.specs.List.{cons_option, filter_map}
use Rattle.std.proofs.lemmas.Bool.{false≢true}
use Rattle.entry_check.specs.Checks.{label_at, label_of_host}
use Rattle.host_code.specs.Code.{CodeFieldShape, CodeShape}
use Rattle.jif_tree.specs.Altered.{Exposure, FieldIsAffected, IsAffected}
use Rattle.js_base.specs.declared.ids.HostId.{HostId}
use Rattle.label_lattice.specs.Label.{IntegFlows}
use Rattle.label_lattice.specs.declared.label.Label.{Label}
use Rattle.net_world.specs.World.{WorldShape, misbehaves}
use Rattle.run_chart.specs.declared.sheet.Mark.TheVariants as mark
use Rattle.run_sheet.specs.ChartLaws.{IsExposedTo}
use Rattle.run_sheet.specs.FieldMarks.{field_mark, is_trusted_alike, misbehaving_in, reaches_field}
use Rattle.run_sheet.specs.FieldMarks.{reaches_label, reaching}
use Rattle.run_sheet.proofs.TrustedAlike.{alike_from, from_alike}

-- ---- the mark

pub marked_kept : (on : Bool) (bad those : List HostId) → field_mark on bad those ≡ mark.Kept →
    (bad ≢ []) × (on ≡ false) × (those ≡ [])
marked_kept on [] those is = absurd (cc is)
marked_kept true (first ∷ others) those is = absurd (cc is)
marked_kept false (first ∷ others) [] is = (λ none. cc none, refl, refl)
marked_kept false (first ∷ others) (one ∷ more) is = absurd (cc is)

pub kept_mark : (on : Bool) (bad those : List HostId) → bad ≢ [] → on ≡ false → those ≡ [] →
    field_mark on bad those ≡ mark.Kept
kept_mark on [] those some obeys none = absurd (some refl)
kept_mark true (first ∷ others) those some obeys none = absurd (false≢true (sym obeys))
kept_mark false (first ∷ others) [] some obeys none = refl
kept_mark false (first ∷ others) (one ∷ more) some obeys none = absurd (cc none)

-- ---- who may affect the field

any_next : {X : Type 0} (P : X → Type 0) (x : X) (xs : List X) → Any P xs → Any P (x ∷ xs)
any_next P x xs (k, y, within, read, holds) = (suc k, y, omega (arith, within), read, holds)

any_first : {X : Type 0} (P : X → Type 0) (x : X) (xs : List X) → P x → Any P (x ∷ xs)
any_first P x xs holds = (0, x, omega arith, refl, holds)

none_any : {X : Type 0} (P : X → Type 0) → ¬ Any P []
none_any P (k, x, within, read, holds) = absurd (omega (arith, within))

-- neither is the first such, nor is another
none_next : {X : Type 0} (P : X → Type 0) (x : X) (xs : List X) → ¬ P x → ¬ Any P xs → ¬ Any P (x ∷ xs)
none_next P x xs not none (zero, y, within, read, holds) = not (subst P (sym read) holds)
none_next P x xs not none (suc k, y, within, read, holds) = none (k, y, omega (arith, within), read, holds)

module _ (code : CodeShape) (field : CodeFieldShape) (label : Label) (there : label_at code field.label ≡ Some label)
  where
    reaches : (host : HostId) (own : Label) → label_of_host code host ≡ Some own →
        reaches_field code field host ≡ is_trusted_alike own label
    reaches host own is =
        ap (λ (o : Option Label). reaches_label o (label_at code field.label)) is
        ∙ ap (λ (o : Option Label). reaches_label (Some own) o) there

    lacks : (host : HostId) → label_of_host code host ≡ None → reaches_field code field host ≡ false
    lacks host is =
        ap (λ (o : Option Label). reaches_label o (label_at code field.label)) is

    -- one host more: whether it reaches the field, and whether its label does
    abbrev labels : List HostId → List Label
    labels hosts = filter_map (label_of_host code) hosts

    abbrev Affects : Label → Type 0
    Affects host = IntegFlows host label

    -- what the test of the first host leaves of them
    tested : (host : HostId) (hosts : List HostId) (is : Bool) → reaches_field code field host ≡ is →
        reaching code field (host ∷ hosts) ≡ cond is (host ∷ reaching code field hosts) (reaching code field hosts)
    tested host hosts is same =
        ap (λ (b : Bool). cond b (host ∷ reaching code field hosts) (reaching code field hosts)) same

    -- the labels with that of the first host
    with_label : (host : HostId) (hosts : List HostId) (own : Option Label) → label_of_host code host ≡ own →
        labels (host ∷ hosts) ≡ cons_option own (labels hosts)
    with_label host hosts own has = ap (λ (o : Option Label). cons_option o (labels hosts)) has

    none_more : (host : HostId) (hosts : List HostId) →
        (reaching code field hosts ≡ [] → ¬ Any Affects (labels hosts)) → reaching code field (host ∷ hosts) ≡ [] →
        (is : Bool) → reaches_field code field host ≡ is → (own : Option Label) → label_of_host code host ≡ own →
        ¬ Any Affects (labels (host ∷ hosts))
    none_more host hosts rest none true is own has = absurd (cc (sym (tested host hosts true is) ∙ none))
    none_more host hosts rest none false is None has =
        subst (λ (all : List Label). ¬ Any Affects all) (sym (with_label host hosts None has))
        (rest (sym (tested host hosts false is) ∙ none))
    none_more host hosts rest none false is (Some own) has =
        subst (λ (all : List Label). ¬ Any Affects all) (sym (with_label host hosts (Some own) has))
        (none_next Affects own (labels hosts)
        (λ flows. false≢true (sym is ∙ reaches host own has ∙ alike_from own label flows))
        (rest (sym (tested host hosts false is) ∙ none)))

    pub none_reach : (hosts : List HostId) → reaching code field hosts ≡ [] → ¬ Any Affects (labels hosts)
    none_reach [] none = none_any Affects
    none_reach (host ∷ hosts) none =
        none_more host hosts (none_reach hosts) none (reaches_field code field host) refl (label_of_host code host) refl

    none_behind : (host : HostId) (hosts : List HostId) (own : Option Label) → label_of_host code host ≡ own →
        ¬ Any Affects (labels (host ∷ hosts)) → ¬ Any Affects (labels hosts)
    none_behind host hosts None has none some =
        none (subst (Any Affects) (sym (with_label host hosts None has)) some)
    none_behind host hosts (Some own) has none some =
        none (subst (Any Affects) (sym (with_label host hosts (Some own) has))
        (any_next Affects own (labels hosts) some))

    more_none : (host : HostId) (hosts : List HostId) → reaching code field hosts ≡ [] →
        ¬ Any Affects (labels (host ∷ hosts)) → (is : Bool) → reaches_field code field host ≡ is →
        (own : Option Label) → label_of_host code host ≡ own → reaching code field (host ∷ hosts) ≡ []
    more_none host hosts rest none true is None has = absurd (false≢true (sym (lacks host has) ∙ is))
    more_none host hosts rest none true is (Some own) has =
        absurd (none (subst (Any Affects) (sym (with_label host hosts (Some own) has))
        (any_first Affects own (labels hosts) (from_alike own label (sym (reaches host own has) ∙ is)))))
    more_none host hosts rest none false is own has = tested host hosts false is ∙ rest

    pub reach_none : (hosts : List HostId) → ¬ Any Affects (labels hosts) → reaching code field hosts ≡ []
    reach_none [] none = refl
    reach_none (host ∷ hosts) none =
        more_none host hosts
        (reach_none hosts (none_behind host hosts (label_of_host code host) refl none)) none
        (reaches_field code field host) refl (label_of_host code host) refl

-- ---- the field's label in the exposure

at_place : (xs : List Label) (k : ℕ) (o : Option Label) →
    slice_get (map (λ (label : Label). Some label) xs) k ≡ Some o → slice_get xs k ≡ o
at_place [] k o is = absurd (cc is)
at_place (x ∷ xs) zero o is = cc is
at_place (x ∷ xs) (suc k) o is = at_place xs k o is

at_both : (labels : List Label) (found : List (Option Label)) (n : ℕ) (one : Option Label) →
    map (λ (label : Label). Some label) labels ≡ found → slice_get found n ≡ Some one →
    slice_get labels n ≡ one
at_both labels found n one same there = at_place labels n one
    (subst (λ (xs : List (Option Label)). slice_get xs n ≡ Some one) (sym same) there)

mapped_at : {X Y : Type 0} (f : X → Y) (xs : List X) (n : ℕ) (x : X) → slice_get xs n ≡ Some x →
    slice_get (map f xs) n ≡ Some (f x)
mapped_at f [] n x is = absurd (cc is)
mapped_at f (y ∷ xs) zero x is = cc is
mapped_at f (y ∷ xs) (suc n) x is = mapped_at f xs n x is

pub label_exposed : (code : CodeShape) (world : WorldShape) (exposure : Exposure) (number : ℕ)
    (field : CodeFieldShape) → IsExposedTo code world exposure → slice_get code.fields number ≡ Some field →
    slice_get exposure.fields number ≡ label_at code field.label
label_exposed code world exposure number field exposed is =
    at_both exposure.fields (map (λ (one : CodeFieldShape). label_at code one.label) code.fields) number
    (label_at code field.label) exposed.fields
    (mapped_at (λ (one : CodeFieldShape). label_at code one.label) code.fields number field is)

unreached : (own label : Option Label) → label ≡ None → reaches_label own label ≡ false
unreached None label is = refl
unreached (Some own) None is = refl
unreached (Some own) (Some label) is = absurd (cc is)

-- a field without a label is reached by nobody
none_reached : (code : CodeShape) (field : CodeFieldShape) → label_at code field.label ≡ None → (hosts : List HostId) →
    reaching code field hosts ≡ []
none_reached code field none [] = refl
none_reached code field none (host ∷ hosts) =
    ap (λ (b : Bool). cond b (host ∷ reaching code field hosts) (reaching code field hosts))
    (unreached (label_of_host code host) (label_at code field.label) none)
    ∙ none_reached code field none hosts

-- whether hosts of these labels may affect what has the label, if it is there
abbrev affected_by : CodeShape → List HostId → Option Label → Type 0
affected_by code hosts label = IsSomeAnd label (IsAffected (filter_map (label_of_host code) hosts))

not_affected : (code : CodeShape) (field : CodeFieldShape) (hosts : List HostId) (label : Option Label) →
    label_at code field.label ≡ label → reaching code field hosts ≡ [] → ¬ affected_by code hosts label
not_affected code field hosts None is none affected = affected
not_affected code field hosts (Some label) is none affected = none_reach code field label is hosts none affected

none_affects : (code : CodeShape) (field : CodeFieldShape) (hosts : List HostId) (label : Option Label) →
    label_at code field.label ≡ label → ¬ affected_by code hosts label → reaching code field hosts ≡ []
none_affects code field hosts None is not = none_reached code field is hosts
none_affects code field hosts (Some label) is not = reach_none code field label is hosts not

-- in an exposure to them it is the same
affected_is : (code : CodeShape) (world : WorldShape) (exposure : Exposure) (number : ℕ) (field : CodeFieldShape) →
    IsExposedTo code world exposure → slice_get code.fields number ≡ Some field →
    affected_by code (misbehaving_in code world) (label_at code field.label)
    ≡ FieldIsAffected exposure (record { 0 = number })
affected_is code world exposure number field exposed is =
    ap (λ (bad : List Label). IsSomeAnd (label_at code field.label) (IsAffected bad)) (sym exposed.bad)
    ∙ ap (λ (label : Option Label). IsSomeAnd label (IsAffected exposure.bad))
    (sym (label_exposed code world exposure number field exposed is))

pub kept_exactly : (code : CodeShape) (world : WorldShape) (exposure : Exposure) (number : ℕ) (field : CodeFieldShape) →
    IsExposedTo code world exposure → slice_get code.fields number ≡ Some field →
    ((field_mark (misbehaves world field.host) (misbehaving_in code world)
    (reaching code field (misbehaving_in code world)) ≡ mark.Kept)
    ↔ ((misbehaving_in code world ≢ []) × (misbehaves world field.host ≡ false)
    × ¬ FieldIsAffected exposure (record { 0 = number })))
kept_exactly code world exposure number field exposed is =
    let bad = misbehaving_in code world in
    let same = affected_is code world exposure number field exposed is in (
      λ kept.
          let parts = marked_kept (misbehaves world field.host) bad (reaching code field bad) kept in (
            parts.0,
            parts.1,
            subst (λ (P : Type 0). ¬ P) same
                (not_affected code field bad (label_at code field.label) refl parts.2),
          ),
      λ parts.
          kept_mark (misbehaves world field.host) bad (reaching code field bad) parts.0 parts.1
          (none_affects code field bad (label_at code field.label) refl
          (subst (λ (P : Type 0). ¬ P) (sym same) parts.2)),
    )
