-- Over a whole program: a part has no reason exactly where the host may hold it.
use Rattle.std.proofs.Common.{◌≡◌, ◌↔◌, ℕ, suc, ◌+◌, List, [], ◌∷◌, ◌++◌, map, length, flat_map, refl, sym, ap, ap₂}
use Rattle.std.proofs.Common.{◌∙◌, subst, arith}
use Rattle.std.specs.Prelude.{All, Option, Some, None, slice_get}
use Rattle.std.specs.List.{AllZip, zip, range_with_len}
use Rattle.std.proofs.lemmas.List.{map-append}
use Rattle.std.proofs.lemmas.List.Concat.{flat_map-cons}
use Rattle.std.proofs.lemmas.List.Elements.{All-head, All-tail}
use Rattle.js_base.specs.declared.ids.FieldId.{FieldId}
use Rattle.principals.specs.ActsFor.{Declared, IsDeclared}
use Rattle.label_lattice.specs.declared.label.Label.{Label}
use Rattle.label_lattice.specs.Over.{IsLabelOver}
use Rattle.host_decl.specs.Hosts.{HostShape}
use Rattle.jif_tree.specs.Trees.{BlockTree, done, set_local, set_field, set_element, branch, loop, call}
use Rattle.jif_tree.specs.Trees.{give_back, FieldTree, MethodTree, ProgramTree}
use Rattle.jif_tree.specs.WrittenLabels.{written_in, written_in_block}
use Rattle.label_check.proofs.LabelOrder.{LabelOrder}
use Rattle.label_reasons.specs.Programs.{IsMethodOver, IsProgramOver}
use Rattle.label_reasons.proofs.TraitTests.{AreTrusted}
use Rattle.label_reasons.proofs.ActsTests.{ActsLaws}
use Rattle.need_labels.specs.Labelled.{Labelled}
use Rattle.need_labels.specs.Needs.{StatementUse, IsNeed, for_label, block_uses, method_uses, statement_uses, told_of}
use Rattle.need_labels.specs.Needs.{NeedsShape, AreNeedsOf}
use Rattle.place_rules.specs.PlaceRules.{MayHoldField, MayHoldStatement, told_fields, needed_statements}
use Rattle.place_reasons.specs.declared.reason.PlaceReason.{PlaceReason}
use Rattle.place_reasons.specs.Programs.{IsFieldOver, labelled_by, rest_of}
use Rattle.place_reasons.specs.ProgramReasons.{field_reasons, block_reasons, method_reasons, statement_reasons}
use Rattle.place_reasons.specs.Reasons.{site_of, exprs_of, field_reason, head_reason, statement_reason}
use Rattle.place_reasons.specs.Refuted.{statements_in}
use Rattle.place_reasons.proofs.PairLaws.{head_true, head_due}
use Rattle.place_reasons.proofs.ToldLabels.{tellings_of}
use Rattle.place_reasons.proofs.FieldLaws.{LabelLaws, label_is, field_true, field_due}
use Rattle.place_reasons.proofs.StatementLaws.{DeclaresAll, statement_true, statement_due}
use Rattle.place_reasons.proofs.ProgramLabels.{both_of, IsAllOver, all_over, use_over, IsSiteOver, backing_over}
use Rattle.place_reasons.proofs.ProgramLabels.{one_written, two_written, told_over}

-- what is cited
pub record PlaceLaws (principals : Declared) : Type 0 where
  pub trusts : AreTrusted
  pub acts : ActsLaws principals
  pub labels : LabelLaws principals
  pub declares : DeclaresAll principals
  pub declared : IsDeclared principals

-- ---- lists

zip_append : {A B : Type 0} (R : A → B → Type 0) (xs more : List A) (ys others : List B) → AllZip R xs ys →
    AllZip R more others → AllZip R (xs ++ more) (ys ++ others)
zip_append R [] more [] others one two = two
zip_append R [] more (y ∷ ys) others one two = absurd one
zip_append R (x ∷ xs) more [] others one two = absurd one
zip_append R (x ∷ xs) more (y ∷ ys) others one two = (one.0, zip_append R xs more ys others one.1 two)

-- what is made of each number, and each item with what is made of its number
zip_numbered : {X A B : Type 0} (R : A → X × B → Type 0) (f : ℕ → A) (g : ℕ → B) (xs : List X) (from : ℕ) →
    ((k : ℕ) (x : X) → slice_get xs k ≡ Some x → R (f (from + k)) (x, g (from + k))) →
    AllZip R (map f (range_with_len from (length xs))) (zip xs (map g (range_with_len from (length xs))))
zip_numbered R f g [] from each = tt
zip_numbered R f g (x ∷ xs) from each =
    let P : ℕ → Type 0 = λ n. R (f n) (x, g n) in
    let first : from + 0 ≡ from = omega arith in (
      subst P first (each 0 x refl),
      zip_numbered R f g xs (from + 1) (λ k y is.
          let Q : ℕ → Type 0 = λ n. R (f n) (y, g n) in
          let same : from + suc k ≡ (from + 1) + k = omega arith in
          subst Q same (each (suc k) y is)),
    )

-- ---- the statements of a block, one by one

pub one_by_one : (principals : Declared) (labelled : Labelled) (host : Label) (method : MethodTree)
    (block : BlockTree) → block_reasons principals labelled host method block
    ≡ map (statement_reason principals labelled host method) (statements_in block)
one_by_one principals labelled host method done = refl
one_by_one principals labelled host method (set_local heading x value rest) =
    ap (λ reasons. statement_reason principals labelled host method (set_local heading x value done) ∷ reasons)
    (one_by_one principals labelled host method rest)
one_by_one principals labelled host method (set_field heading field value rest) =
    ap (λ reasons. statement_reason principals labelled host method (set_field heading field value done) ∷ reasons)
    (one_by_one principals labelled host method rest)
one_by_one principals labelled host method (set_element heading field index value rest) =
    ap (λ reasons. statement_reason principals labelled host method (set_element heading field index value done)
    ∷ reasons) (one_by_one principals labelled host method rest)
one_by_one principals labelled host method (branch heading guard first second rest) =
    let one : BlockTree → Option PlaceReason = statement_reason principals labelled host method in
    ap (λ reasons. one (branch heading guard first second done) ∷ reasons)
    (ap₂ (λ xs ys. xs ++ ys)
    (ap₂ (λ xs ys. xs ++ ys) (one_by_one principals labelled host method first)
    (one_by_one principals labelled host method second)
    ∙ sym (map-append one (statements_in first) (statements_in second)))
    (one_by_one principals labelled host method rest)
    ∙ sym (map-append one (statements_in first ++ statements_in second) (statements_in rest)))
one_by_one principals labelled host method (loop heading guard body rest) =
    let one : BlockTree → Option PlaceReason = statement_reason principals labelled host method in
    ap (λ reasons. one (loop heading guard body done) ∷ reasons)
    (ap₂ (λ xs ys. xs ++ ys) (one_by_one principals labelled host method body)
    (one_by_one principals labelled host method rest)
    ∙ sym (map-append one (statements_in body) (statements_in rest)))
one_by_one principals labelled host method (call heading place called arguments into rest) =
    ap (λ reasons. statement_reason principals labelled host method (call heading place called arguments into done)
    ∷ reasons) (one_by_one principals labelled host method rest)
one_by_one principals labelled host method (give_back heading value rest) =
    ap (λ reasons. statement_reason principals labelled host method (give_back heading value done) ∷ reasons)
    (one_by_one principals labelled host method rest)

-- ---- a reason is missing exactly where the host may hold the part

none_else : (found : Option PlaceReason) → ((reason : PlaceReason) → ¬ (found ≡ Some reason)) → found ≡ None
none_else None never = refl
none_else (Some reason) never = absurd (never reason refl)

abbrev HoldsUse : Declared → HostShape → Option PlaceReason → StatementUse → Type 0
HoldsUse principals host reason one = (need : ℕ) → IsNeed principals one.backing need →
    ((reason ≡ None) ↔ MayHoldStatement (one.used, need) host)

head_holds : (principals : Declared) → PlaceLaws principals → (host : HostShape) (method : MethodTree) →
    IsLabelOver principals method.begin → (need : ℕ) → IsNeed principals (for_label method.begin ∷ []) need →
    (head_reason principals host.label method ≡ None) ↔ MayHoldStatement (method.begin, need) host
head_holds principals laws host method over need needs = (
  λ none. head_due laws.trusts principals laws.acts host method need over needs none,
  λ may. none_else (head_reason principals host.label method)
      (λ reason is. head_true laws.trusts principals host method need reason laws.declared needs is may),
)

-- the one statement of a block
statement_holds : (principals : Declared) → PlaceLaws principals → (labelled : Labelled) (host : HostShape)
    (method : MethodTree) → IsSiteOver (site_of principals labelled host.label method) method → (block : BlockTree)
    (one : StatementUse) (inside : List StatementUse) → rest_of block ≡ done →
    block_uses labelled (site_of principals labelled host.label method).setting block ≡ one ∷ inside →
    All (IsLabelOver principals) (flat_map written_in (exprs_of block)) →
    HoldsUse principals host (statement_reason principals labelled host.label method block) one
statement_holds principals laws labelled host method is block one inside alone uses written need needs =
    let over = use_over principals labelled is.over method block written in (
      λ none. statement_due laws.trusts principals laws.acts laws.labels laws.declares labelled host method block one
          inside need uses over
          (backing_over (site_of principals labelled host.label method) method is block one inside uses) needs none,
      λ may. none_else (statement_reason principals labelled host.label method block)
          (λ reason so. statement_true laws.trusts principals laws.acts laws.labels laws.declared labelled host method
          block one inside need reason alone uses over needs so may),
    )

block_holds : (principals : Declared) → PlaceLaws principals → (labelled : Labelled) (host : HostShape)
    (method : MethodTree) → IsSiteOver (site_of principals labelled host.label method) method → (block : BlockTree) →
    All (IsLabelOver principals) (written_in_block block) →
    AllZip (HoldsUse principals host) (block_reasons principals labelled host.label method block)
    (block_uses labelled (site_of principals labelled host.label method).setting block)
block_holds principals laws labelled host method is done written = tt
block_holds principals laws labelled host method is (set_local heading x value rest) written =
    let both = both_of (IsLabelOver principals) (written_in value) (written_in_block rest) written in (
      statement_holds principals laws labelled host method is (set_local heading x value done) _ [] refl refl
          (one_written principals value both.0),
      block_holds principals laws labelled host method is rest both.1,
    )
block_holds principals laws labelled host method is (set_field heading field value rest) written =
    let both = both_of (IsLabelOver principals) (written_in value) (written_in_block rest) written in (
      statement_holds principals laws labelled host method is (set_field heading field value done) _ [] refl refl
          (one_written principals value both.0),
      block_holds principals laws labelled host method is rest both.1,
    )
block_holds principals laws labelled host method is (set_element heading field index value rest) written =
    let both = both_of (IsLabelOver principals) (written_in index ++ written_in value) (written_in_block rest) written
    in (
      statement_holds principals laws labelled host method is (set_element heading field index value done) _ [] refl
          refl (two_written principals index value both.0),
      block_holds principals laws labelled host method is rest both.1,
    )
block_holds principals laws labelled host method is (branch heading guard first second rest) written =
    let P : Label → Type 0 = IsLabelOver principals in
    let R : Option PlaceReason → StatementUse → Type 0 = HoldsUse principals host in
    let uses : BlockTree → List StatementUse =
    block_uses labelled (site_of principals labelled host.label method).setting in
    let reasons : BlockTree → List (Option PlaceReason) = block_reasons principals labelled host.label method in
    let outer = both_of P ((written_in guard ++ written_in_block first) ++ written_in_block second)
    (written_in_block rest) written in
    let blocks = both_of P (written_in guard ++ written_in_block first) (written_in_block second) outer.0 in
    let before = both_of P (written_in guard) (written_in_block first) blocks.0 in (
      statement_holds principals laws labelled host method is (branch heading guard first second done) _
          ((uses first ++ uses second) ++ []) refl refl (one_written principals guard before.0),
      zip_append R (reasons first ++ reasons second) (reasons rest) (uses first ++ uses second) (uses rest)
          (zip_append R (reasons first) (reasons second) (uses first) (uses second)
          (block_holds principals laws labelled host method is first before.1)
          (block_holds principals laws labelled host method is second blocks.1))
          (block_holds principals laws labelled host method is rest outer.1),
    )
block_holds principals laws labelled host method is (loop heading guard body rest) written =
    let P : Label → Type 0 = IsLabelOver principals in
    let R : Option PlaceReason → StatementUse → Type 0 = HoldsUse principals host in
    let uses : BlockTree → List StatementUse =
    block_uses labelled (site_of principals labelled host.label method).setting in
    let reasons : BlockTree → List (Option PlaceReason) = block_reasons principals labelled host.label method in
    let outer = both_of P (written_in guard ++ written_in_block body) (written_in_block rest) written in
    let before = both_of P (written_in guard) (written_in_block body) outer.0 in (
      statement_holds principals laws labelled host method is (loop heading guard body done) _ (uses body ++ []) refl
          refl (one_written principals guard before.0),
      zip_append R (reasons body) (reasons rest) (uses body) (uses rest)
          (block_holds principals laws labelled host method is body before.1)
          (block_holds principals laws labelled host method is rest outer.1),
    )
block_holds principals laws labelled host method is (call heading place called arguments into rest) written =
    let both = both_of (IsLabelOver principals) (flat_map written_in arguments) (written_in_block rest) written in (
      statement_holds principals laws labelled host method is (call heading place called arguments into done) _ [] refl
          refl both.0,
      block_holds principals laws labelled host method is rest both.1,
    )
block_holds principals laws labelled host method is (give_back heading value rest) written =
    let both = both_of (IsLabelOver principals) (written_in value) (written_in_block rest) written in (
      statement_holds principals laws labelled host method is (give_back heading value done) _ [] refl refl
          (one_written principals value both.0),
      block_holds principals laws labelled host method is rest both.1,
    )

methods_hold : (principals : Declared) → PlaceLaws principals → (labelled : Labelled) → IsAllOver principals labelled →
    (host : HostShape) (methods : List MethodTree) → All (IsMethodOver principals) methods →
    AllZip (HoldsUse principals host) (flat_map (method_reasons principals labelled host.label) methods)
    (flat_map (method_uses principals labelled) methods)
methods_hold principals laws labelled over host [] all = tt
methods_hold principals laws labelled over host (method ∷ methods) all =
    let first = All-head (IsMethodOver principals) method methods all in
    let R : Option PlaceReason → StatementUse → Type 0 = HoldsUse principals host in
    let reasons : MethodTree → List (Option PlaceReason) = method_reasons principals labelled host.label in
    let uses : MethodTree → List StatementUse = method_uses principals labelled in
    let P : List (Option PlaceReason) → Type 0 = λ list. AllZip R list (flat_map uses (method ∷ methods)) in
    let Q : List StatementUse → Type 0 = λ list. AllZip R (reasons method ++ flat_map reasons methods) list in
    let own : AllZip R (reasons method) (uses method) = (
      head_holds principals laws host method first.begin,
      block_holds principals laws labelled host method
          (record { over = over; begin = first.begin; authority = first.authority }) method.body first.body,
    ) in
    subst P (sym (flat_map-cons reasons method methods)) (subst Q (sym (flat_map-cons uses method methods))
    (zip_append R (reasons method) (flat_map reasons methods) (uses method) (flat_map uses methods) own
    (methods_hold principals laws labelled over host methods
    (All-tail (IsMethodOver principals) method methods all))))

-- with the word of each statement
with_words : (principals : Declared) (host : HostShape) (reasons : List (Option PlaceReason))
    (uses : List StatementUse) (words : List ℕ) → AllZip (HoldsUse principals host) reasons uses →
    AllZip (λ one word. IsNeed principals one.backing word) uses words →
    AllZip (λ reason one. (reason ≡ None) ↔ MayHoldStatement one host) reasons
    (zip (map (λ (one : StatementUse). one.used) uses) words)
with_words principals host [] [] [] hold needs = tt
with_words principals host [] [] (word ∷ words) hold needs = absurd needs
with_words principals host [] (one ∷ uses) words hold needs = absurd hold
with_words principals host (reason ∷ reasons) [] words hold needs = absurd hold
with_words principals host (reason ∷ reasons) (one ∷ uses) [] hold needs = absurd needs
with_words principals host (reason ∷ reasons) (one ∷ uses) (word ∷ words) hold needs =
    (hold.0 word needs.0, with_words principals host reasons uses words hold.1 needs.1)

pub statements_hold : (principals : Declared) → PlaceLaws principals → LabelOrder principals → (program : ProgramTree)
    (needs : NeedsShape) (host : HostShape) → IsProgramOver principals program →
    AreNeedsOf principals (labelled_by principals program) needs →
    AllZip (λ reason one. (reason ≡ None) ↔ MayHoldStatement one host)
    (statement_reasons principals (labelled_by principals program) host.label) (needed_statements needs)
statements_hold principals laws order program needs host is are =
    let labelled : Labelled = labelled_by principals program in
    let reasons : List (Option PlaceReason) = statement_reasons principals labelled host.label in
    let P : List Label → Type 0 = λ used.
    AllZip (λ reason one. (reason ≡ None) ↔ MayHoldStatement one host) reasons (zip used needs.need) in
    subst P (sym are.used) (with_words principals host reasons (statement_uses principals labelled) needs.need
    (methods_hold principals laws labelled (all_over principals program order is) host program.methods is.methods)
    are.need)

-- ---- fields

field_holds : (principals : Declared) → PlaceLaws principals → (labelled : Labelled) → IsAllOver principals labelled →
    All (IsMethodOver principals) labelled.program.methods → (host : HostShape) (field : FieldId) (tree : FieldTree) →
    slice_get labelled.program.fields field.0 ≡ Some tree →
    (field_reason principals labelled host.label field ≡ None)
    ↔ MayHoldField (tree, told_of principals (tellings_of (statement_uses principals labelled)) field.0) host
field_holds principals laws labelled over methods host field tree there =
    let field_is : IsFieldOver principals labelled field tree = record {
      place = there;
      label = subst (IsLabelOver principals) (label_is labelled field tree there) (over.fields field);
      told = told_over principals labelled over methods field;
    } in (
      λ none. field_due laws.trusts principals laws.acts laws.labels labelled host field tree field_is none,
      λ may. none_else (field_reason principals labelled host.label field) (λ reason is.
          field_true laws.trusts principals laws.labels laws.declared labelled host field tree reason field_is is may),
    )

pub fields_hold : (principals : Declared) → PlaceLaws principals → LabelOrder principals → (program : ProgramTree)
    (needs : NeedsShape) (host : HostShape) → IsProgramOver principals program →
    AreNeedsOf principals (labelled_by principals program) needs →
    AllZip (λ reason one. (reason ≡ None) ↔ MayHoldField one host)
    (field_reasons principals (labelled_by principals program) host.label)
    (told_fields (labelled_by principals program) needs)
fields_hold principals laws order program needs host is are =
    let labelled : Labelled = labelled_by principals program in
    let R : Option PlaceReason → FieldTree × Label → Type 0 = λ reason one. (reason ≡ None) ↔ MayHoldField one host in
    let reason : ℕ → Option PlaceReason = λ number.
    field_reason principals labelled host.label (record { 0 = number }) in
    let told : ℕ → Label = told_of principals (tellings_of (statement_uses principals labelled)) in
    let P : List Label → Type 0 = λ loc.
    AllZip R (map reason (range_with_len 0 (length program.fields))) (zip program.fields loc) in
    let over = all_over principals program order is in
    subst P (sym are.loc) (zip_numbered R reason told program.fields 0 (λ k tree there.
    let Q : ℕ → Type 0 = λ n. R (reason n) (tree, told n) in
    let same : k ≡ 0 + k = omega arith in
    subst Q same (field_holds principals laws labelled over is.methods host (record { 0 = k }) tree there)))
