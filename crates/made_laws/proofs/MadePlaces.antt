-- Each part of the program that is made has a host that may hold it: what is of one label stands on the host of this
-- label.
use Rattle.std.proofs.Common.{◌≡◌, ◌≢◌, ℕ, zero, suc, ◌+◌, ◌<◌, ◌≤◌, ◌%◌, ◌==◌, Bool, true, false, List, [], ◌∷◌}
use Rattle.std.proofs.Common.{◌++◌}
use Rattle.std.proofs.Common.{length, map, refl, sym, subst, ap, ◌∙◌, arith, Some, filter, if◌then◌else◌}
use Rattle.std.specs.Prelude.{Any, Option, slice_get, unwrap_or, nat_eq}
use Rattle.std.specs.Option.{IsSomeAnd}
use Rattle.std.specs.List.{AllByRecursion, AllZip, fold, flat_map, zip}
use Rattle.std.proofs.lemmas.List.{append-nil}
use Rattle.label_lattice.specs.declared.label.Label.{Label}
use Rattle.label_lattice.specs.Label.{ConfFlows, IntegFlows, Trusts}
use Rattle.label_lattice.specs.Lattice.{join_of, empty_label}
use Rattle.label_lattice.specs.Over.{IsLabelOver}
use Rattle.label_lattice.specs.PrintedExamples.{alice_and_bob}
use Rattle.host_decl.specs.Hosts.{HostShape}
use Rattle.jif_tree.specs.Trees.{FieldTree}
use Rattle.jif_tree.specs.LabelRules.{MethodSetting, VariableLabels, StatementLabels, setting_of, block_labels}
use Rattle.jif_tree.specs.LabelRules.{field_label}
use Rattle.jif_tree.specs.LabelRules.{program_labels, variable_labels}
use Rattle.need_labels.specs.Labelled.{Labelled, pc_of}
use Rattle.need_labels.specs.Needs.{for_label, Backs, StatementUse, block_uses, statement_uses, NeedsShape}
use Rattle.need_labels.specs.Needs.{IsNeed, AreNeedsOf, Telling, told_of}
use Rattle.place_rules.specs.PlaceRules.{MayHoldField, MayHoldStatement, HasHolder}
use Rattle.place_rules.specs.Refusal.{IsPlaceRefused}
use Rattle.place_rules.specs.declared.place_error.PlaceError.{PlaceError}
use Rattle.place_rules.specs.declared.place_error.PlaceError.TheVariants as error
use Rattle.made_laws.proofs.MadeLabels.{LabelLaws, MadeLabels, both, joined_both, any_of_one}
use Rattle.made_laws.proofs.MadeHosts.{made_file}
use Rattle.made_laws.proofs.MadeTrees.{made_tree, alice_field, bob_field, method_tree, block_tree}
use Rattle.made_laws.proofs.MadeTrees.{field_at}

-- ---- the program with its labels

abbrev pub made_labelled : MadeLabels → (lines : ℕ → ℕ) → List ℕ → Labelled
made_labelled labels lines numbers =
    let tree = made_tree labels lines numbers in
    record {
      program = tree;
      var_labels = variable_labels alice_and_bob tree;
      pc = map (λ statement. statement.pc) (program_labels alice_and_bob tree);
    }

abbrev own_setting : MadeLabels → (lines : ℕ → ℕ) → List ℕ → MethodSetting
own_setting labels lines numbers =
    setting_of alice_and_bob (made_tree labels lines numbers) (method_tree lines numbers)

-- each statement has the program label that both trust
abbrev all_both : List ℕ → List Label
all_both numbers = map (λ n. both) numbers

block_pcs : (labels : MadeLabels) (lines : ℕ → ℕ) (whole : List ℕ) (variables : VariableLabels) (id at : ℕ)
    (numbers : List ℕ) →
    map (λ statement. statement.pc)
    (block_labels (own_setting labels lines whole) both variables (block_tree lines id at numbers)) ≡ all_both numbers
block_pcs labels lines whole variables id at [] = refl
block_pcs labels lines whole variables id at (n ∷ numbers) =
    ap (λ (rest : List Label). both ∷ rest) (block_pcs labels lines whole variables (id + 1) (at + 3 + 3) numbers)

program_pcs : (labels : MadeLabels) (lines : ℕ → ℕ) (numbers : List ℕ) →
    (made_labelled labels lines numbers).pc ≡ both ∷ all_both numbers
program_pcs labels lines numbers =
    let block = block_labels (own_setting labels lines numbers) both [] (block_tree lines 1 34 numbers) in
    ap (λ (statements : List StatementLabels). both ∷ map (λ statement. statement.pc) statements) (append-nil block)
    ∙ ap (λ (rest : List Label). both ∷ rest) (block_pcs labels lines numbers [] 1 34 numbers)

same_everywhere : (numbers : List ℕ) (place : ℕ) → place < length numbers →
    slice_get (all_both numbers) place ≡ Some both
same_everywhere [] place less = absurd (omega (arith, less))
same_everywhere (n ∷ numbers) zero less = refl
same_everywhere (n ∷ numbers) (suc place) less = same_everywhere numbers place (omega (arith, less))

pc_is : (labels : MadeLabels) (lines : ℕ → ℕ) (numbers : List ℕ) (place : ℕ) → place ≤ length numbers →
    pc_of (made_labelled labels lines numbers) (record { 0 = place }) ≡ both
pc_is labels lines numbers zero less =
    ap (λ (pcs : List Label). unwrap_or (slice_get pcs 0) empty_label) (program_pcs labels lines numbers)
pc_is labels lines numbers (suc place) less =
    ap (λ (pcs : List Label). unwrap_or (slice_get pcs (suc place)) empty_label) (program_pcs labels lines numbers)
    ∙ ap (λ (found : Option Label). unwrap_or found empty_label)
    (same_everywhere numbers place (omega (arith, less)))

-- ---- what the statements need

-- the label of the field that a statement sets
abbrev own_label : MadeLabels → (lines : ℕ → ℕ) → List ℕ → Bool → Label
own_label labels lines whole even = field_label (made_tree labels lines whole) (field_at even)

-- some host has this label
pub record HasHost (labels : MadeLabels) (label : Label) : Type 0 where
  pub place : ℕ
  pub host : HostShape
  pub there : slice_get (made_file labels).hosts place ≡ Some host
  pub own : host.label ≡ label

own_host : (labels : MadeLabels) (lines : ℕ → ℕ) (whole : List ℕ) (even : Bool) →
    HasHost labels (own_label labels lines whole even)
own_host labels lines whole true = record { place = 1; host = _; there = refl; own = refl }
own_host labels lines whole false = record { place = 2; host = _; there = refl; own = refl }

own_over : (labels : MadeLabels) (lines : ℕ → ℕ) (whole : List ℕ) (even : Bool) →
    IsLabelOver alice_and_bob (own_label labels lines whole even)
own_over labels lines whole true = labels.alice_said.over
own_over labels lines whole false = labels.bob_said.over

-- what a statement tells is of the label of its field
used_is : LabelLaws → (label pc : Label) → IsLabelOver alice_and_bob label → pc ≡ both →
    join_of (join_of (join_of pc label) both) (join_of label both) ≡ label
used_is laws label pc over is =
    let joined = joined_both laws label over in
    let first = ap (λ (one : Label). join_of one label) is ∙ laws.join_commutative both label ∙ joined in
    ap (λ (one : Label). join_of (join_of one both) (join_of label both)) first
    ∙ ap (λ (one : Label). join_of one one) joined ∙ laws.join_idempotent label

-- it tells what has one label, and those have to trust its host who trust this label, which some host has
pub record IsOfLabel (labels : MadeLabels) (one : StatementUse) : Type 0 where
  pub label : Label
  pub used : one.used ≡ label
  pub backing : one.backing ≡ for_label label ∷ []
  pub tellings : AllByRecursion (λ (telling : Telling). telling.label ≡ both) one.tellings
  pub host : HasHost labels label

block_of_labels : LabelLaws → (labels : MadeLabels) (lines : ℕ → ℕ) (whole : List ℕ) (id at : ℕ) (numbers : List ℕ) →
    id + length numbers ≤ length whole + 1 →
    AllByRecursion (IsOfLabel labels) (block_uses (made_labelled labels lines whole) (own_setting labels lines whole)
    (block_tree lines id at numbers))
block_of_labels laws labels lines whole id at [] within = tt
block_of_labels laws labels lines whole id at (n ∷ numbers) within =
    let pc = pc_is labels lines whole id (omega (arith, within)) in
    let even = n % 2 == 0 in (
      record {
        label = own_label labels lines whole even;
        used = used_is laws (own_label labels lines whole even) _ (own_over labels lines whole even) pc;
        backing = refl;
        tellings = (pc, tt);
        host = own_host labels lines whole even;
      },
      block_of_labels laws labels lines whole (id + 1) (at + 3 + 3) numbers (omega (arith, within)),
    )

all_of_labels : LabelLaws → (labels : MadeLabels) (lines : ℕ → ℕ) (numbers : List ℕ) →
    AllByRecursion (IsOfLabel labels) (statement_uses alice_and_bob (made_labelled labels lines numbers))
all_of_labels laws labels lines numbers =
    let block = block_uses (made_labelled labels lines numbers) (own_setting labels lines numbers)
    (block_tree lines 1 34 numbers) in (
      record {
        label = both;
        used = refl;
        backing = refl;
        tellings = tt;
        host = record { place = 0; host = _; there = refl; own = refl };
      },
      subst (λ uses. AllByRecursion (IsOfLabel labels) uses) (sym (append-nil block))
          (block_of_labels laws labels lines numbers 1 34 numbers (omega arith)),
    )

-- ---- statements have hosts

all_at : {X : Type 0} (P : X → Type 0) (all : List X) (place : ℕ) (one : X) → AllByRecursion P all →
    slice_get all place ≡ Some one → P one
all_at P [] place one each there = absurd (let no = there in cc)
all_at P (x ∷ all) zero one each there = subst P (let same : x ≡ one = cc in same) each.0
all_at P (x ∷ all) (suc place) one each there = all_at P all place one each.1 there

held_on : {X : Type 0} (P : X → Type 0) (found : Option X) (x : X) → found ≡ Some x → P x → IsSomeAnd found P
held_on P found x is holds = rw is holds

statement_held : LabelLaws → (labels : MadeLabels) (one : StatementUse) (need : ℕ) → IsOfLabel labels one →
    IsNeed alice_and_bob one.backing need → HasHolder (MayHoldStatement (one.used, need)) (made_file labels).hosts
statement_held laws labels one need of is =
    let host = of.host in
    let flows = laws.reflexive of.label in (
      host.place,
      held_on (MayHoldStatement (one.used, need)) _ host.host host.there (
        subst (λ (label : Label). ConfFlows label host.host.label) (sym of.used)
            (subst (λ (label : Label). ConfFlows of.label label) (sym host.own) flows.0),
        λ principal within set.
            let backed = (is.members principal within).0 set in
            let by_one = subst (λ backing. Any (Backs alice_and_bob principal) backing) of.backing backed in
            subst (λ (label : Label). Trusts label principal) (sym host.own)
            (any_of_one (Backs alice_and_bob principal) (for_label of.label) by_one),
      ),
    )

statements_held : LabelLaws → (labels : MadeLabels) (uses : List StatementUse) (needs : List ℕ) →
    AllByRecursion (IsOfLabel labels) uses → AllZip (λ one word. IsNeed alice_and_bob one.backing word) uses needs →
    AllByRecursion (λ one. HasHolder (MayHoldStatement one) (made_file labels).hosts)
    (zip (map (λ one. one.used) uses) needs)
statements_held laws labels [] needs of are = tt
statements_held laws labels (one ∷ uses) [] of are = absurd are
statements_held laws labels (one ∷ uses) (need ∷ needs) of are =
    (statement_held laws labels one need of.0 are.0, statements_held laws labels uses needs of.1 are.1)

-- ---- fields have hosts

-- what reads tell is what both trust
told_both : LabelLaws → (test : Telling → Bool) (tellings : List Telling) →
    AllByRecursion (λ (telling : Telling). telling.label ≡ both) tellings →
    fold join_of both (map (λ telling. telling.label) (filter test tellings)) ≡ both
told_both laws test [] all = refl
told_both laws test (telling ∷ tellings) all = by (told_both laws test tellings all.1) (test telling)
  where
    by : fold join_of both (map (λ one. one.label) (filter test tellings)) ≡ both → (passes : Bool) →
        fold join_of both (map (λ one. one.label)
        (if passes then telling ∷ filter test tellings else filter test tellings)) ≡ both
    by rest false = rest
    by rest true =
        ap (λ (label : Label). fold join_of (join_of both label) (map (λ one. one.label) (filter test tellings))) all.0
        ∙ ap (λ (label : Label). fold join_of label (map (λ one. one.label) (filter test tellings)))
        (laws.join_idempotent both)
        ∙ rest

all_joined : {X : Type 0} (P : X → Type 0) (front more : List X) → AllByRecursion P front → AllByRecursion P more →
    AllByRecursion P (front ++ more)
all_joined P [] more one two = two
all_joined P (x ∷ front) more one two = (one.0, all_joined P front more one.1 two)

all_told : (labels : MadeLabels) (uses : List StatementUse) → AllByRecursion (IsOfLabel labels) uses →
    AllByRecursion (λ (telling : Telling). telling.label ≡ both) (flat_map (λ one. one.tellings) uses)
all_told labels [] of = tt
all_told labels (one ∷ uses) of =
    all_joined (λ telling. telling.label ≡ both) one.tellings (flat_map (λ one. one.tellings) uses) of.0.tellings
    (all_told labels uses of.1)

field_held : LabelLaws → (labels : MadeLabels) (field : FieldTree) (told : Label) → told ≡ both →
    IsLabelOver alice_and_bob field.label → HasHost labels field.label →
    HasHolder (MayHoldField (field, told)) (made_file labels).hosts
field_held laws labels field told is over host =
    let flows = laws.reflexive field.label in
    let joined = ap (join_of field.label) is ∙ joined_both laws field.label over in (
      host.place,
      held_on (MayHoldField (field, told)) _ host.host host.there (
        subst (λ (label : Label). ConfFlows label host.host.label) (sym joined)
            (subst (λ (label : Label). ConfFlows field.label label) (sym host.own) flows.0),
        subst (λ (label : Label). IntegFlows label field.label) (sym host.own) flows.1,
      ),
    )

-- ---- the whole

-- no part is without a host
pub has_place : LabelLaws → (labels : MadeLabels) (lines : ℕ → ℕ) (numbers : List ℕ) (needs : NeedsShape)
    (why : PlaceError) → AreNeedsOf alice_and_bob (made_labelled labels lines numbers) needs →
    why ≢ error.OutOfMemory → ¬ IsPlaceRefused (made_labelled labels lines numbers) needs (made_file labels) why
has_place laws labels lines numbers needs error.OutOfMemory are some refused = some refl
has_place laws labels lines numbers needs (error.NoHostForField field) are some refused =
    refused.unheld (all_at (λ one. HasHolder (MayHoldField one) (made_file labels).hosts) _ field.0 refused.one
    (subst (λ loc. AllByRecursion (λ one. HasHolder (MayHoldField one) (made_file labels).hosts)
    (zip (made_tree labels lines numbers).fields loc)) (sym are.loc) (first, (second, tt))) refused.place)
  where
    uses : List StatementUse
    uses = statement_uses alice_and_bob (made_labelled labels lines numbers)

    told : (field : ℕ) → told_of alice_and_bob (flat_map (λ one. one.tellings) uses) field ≡ both
    told field =
        told_both laws (λ telling. nat_eq telling.field.0 field) (flat_map (λ one. one.tellings) uses)
        (all_told labels uses (all_of_labels laws labels lines numbers))

    first : HasHolder (MayHoldField (alice_field labels, told_of alice_and_bob (flat_map (λ one. one.tellings) uses) 0))
        (made_file labels).hosts
    first =
        field_held laws labels (alice_field labels) _ (told 0) labels.alice_said.over
        (own_host labels lines numbers true)

    second : HasHolder (MayHoldField (bob_field labels, told_of alice_and_bob (flat_map (λ one. one.tellings) uses) 1))
        (made_file labels).hosts
    second =
        field_held laws labels (bob_field labels) _ (told 1) labels.bob_said.over (own_host labels lines numbers false)
has_place laws labels lines numbers needs (error.NoHostForStatement statement) are some refused =
    refused.1.unheld (all_at (λ one. HasHolder (MayHoldStatement one) (made_file labels).hosts) _ statement.0
    refused.1.one
    (subst (λ used. AllByRecursion (λ one. HasHolder (MayHoldStatement one) (made_file labels).hosts)
    (zip used needs.need)) (sym are.used)
    (statements_held laws labels (statement_uses alice_and_bob (made_labelled labels lines numbers)) needs.need
    (all_of_labels laws labels lines numbers) are.need))
    refused.1.place)
