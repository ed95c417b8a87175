-- A resolved program has labels where variables are set and where they are read, and its methods begin and return as
-- typed code asks.
use Rattle.std.proofs.Common.{◌≡◌, ℕ, suc, ◌+◌, ◌<◌, Bool, true, false, if◌then◌else◌, List, [], ◌∷◌, ◌++◌, All, length}
use Rattle.std.proofs.Common.{refl, sym, subst, arith}
use Rattle.std.specs.Prelude.{⊤}
use Rattle.std.specs.List.{AllByRecursion}
use Rattle.principals.specs.ActsFor.{Declared, IsDeclared}
use Rattle.label_lattice.specs.Over.{TrustsOver}
use Rattle.label_lattice.specs.declared.label.TheConstants.{READERS}
use Rattle.jif_tree.specs.LabelRules.{VariableLabels, declared_labels, labels_after}
use Rattle.jif_tree.specs.LabelRules as rules
use Rattle.jif_tree.specs.Labelling.{IsLabelled, AreLabelledMethods}
use Rattle.jif_tree.specs.ValueLabels.{AreAllValuesLabelled}
use Rattle.jif_tree.specs.Returns.{ReturnsLast}
use Rattle.jif_tree.specs.Trees.{MethodTree, ProgramTree}
use Rattle.jif_tree.specs.WellNumbered.{is_some, AreMethodsIn}
use Rattle.jif_tree.proofs.LabelsKept.{Stay, stay_same, stay_then, block_stays}
use Rattle.jif_grammar.specs.DraftShapes.{FieldShape, MethodShape, DraftShape}
use Rattle.jif_resolve.specs.Faults.{setting_of}
use Rattle.jif_resolve.specs.Meanings.{Global, fields_from, methods_from, globals_of}
use Rattle.jif_resolve.specs.Places.{head_after, body_place}
use Rattle.jif_resolve.specs.Resolved.{AreMethodsFor}
use Rattle.jif_resolve.specs.Returns.{AreReturnedLast}
use Rattle.jif_resolve.specs.Variables.{param_ids}
use Rattle.jif_resolve.specs.Verdicts.{IsProgramOf}
use Rattle.jif_resolve.proofs.BeginLabels.{begins_over, readers}
use Rattle.jif_resolve.proofs.DeclaredLabels.{IsHeadLabelled, heads_labelled}
use Rattle.jif_resolve.proofs.KnownLabels.{IsNoLocal, AreKnownLabelled, known_params}
use Rattle.jif_resolve.proofs.LabelledBlocks.{BlockLabels, IsLabelledSetting, block_labelled, params_later}
use Rattle.jif_resolve.proofs.Meant.{both_all}
use Rattle.jif_resolve.proofs.Returning.{returns_last}
use Rattle.jif_resolve.proofs.WellNumbered.{well_numbered}
use Rattle.jif_resolve.specs.declared.meaning.Meaning.TheVariants as sense

-- ---- names of the whole program

fields_no_locals : (number : ℕ) (fields : List FieldShape) → AllByRecursion IsNoLocal (fields_from number fields)
fields_no_locals number [] = tt
fields_no_locals number (field ∷ fields) = (of_kind field.array, fields_no_locals (suc number) fields)
  where
    of_kind : (array : Bool) →
        IsNoLocal (record {
          name = field.name;
          meaning = if array then sense.Array (record { 0 = number }) else sense.Plain (record { 0 = number });
        })
    of_kind true = refl
    of_kind false = refl

methods_no_locals : (number : ℕ) (methods : List MethodShape) → AllByRecursion IsNoLocal (methods_from number methods)
methods_no_locals number [] = tt
methods_no_locals number (method ∷ methods) = (refl, methods_no_locals (suc number) methods)

pub no_locals : (draft : DraftShape) → AllByRecursion IsNoLocal (globals_of draft)
no_locals draft =
    both_all IsNoLocal (fields_from 0 draft.fields) (methods_from 0 draft.methods) (fields_no_locals 0 draft.fields)
    (methods_no_locals 0 draft.methods)

-- ---- methods

-- what else a method keeps, beside the labels of variables
pub record IsFit (principals : Declared) (method : MethodTree) : Type 0 where
  pub begins : TrustsOver principals method.begin
  pub authority : All (λ member. member.0 < READERS) method.authority
  pub returns : ReturnsLast true method.body

-- the bodies of methods, of which the first is gone over with these labels of variables
abbrev AreBodiesLabelled : Declared → ProgramTree → VariableLabels → List MethodTree → Type 0
AreBodiesLabelled principals program labels [] = ⊤
AreBodiesLabelled principals program labels (method ∷ methods) =
    let setting = rules.setting_of principals program method in
    BlockLabels setting method.begin labels method.body
    × AreBodiesLabelled principals program (labels_after setting method.begin labels method.body) methods

bodies_labelled : (principals : Declared) (program : ProgramTree) (globals : List Global) →
    AllByRecursion IsNoLocal globals → AllByRecursion (IsHeadLabelled program) program.methods → (number : ℕ)
    (labels : VariableLabels) → Stay (declared_labels program) labels → (before methods : List MethodShape)
    (trees : List MethodTree) → AreMethodsFor principals globals before methods trees →
    AllByRecursion (IsHeadLabelled program) trees → AreMethodsIn program number trees →
    AreBodiesLabelled principals program labels trees
bodies_labelled principals program globals none heads number labels stay before [] trees is own numbered =
    subst (AreBodiesLabelled principals program labels) (sym is) tt
bodies_labelled principals program globals none heads number labels stay before (method ∷ methods) trees
    (first, others, same, one, behind) own numbered =
    let setting = rules.setting_of principals program first in
    let s = setting_of principals globals method in
    let head = head_after before in
    let place = body_place head method in
    let declared = declared_labels program in
    let mine = subst (AllByRecursion (IsHeadLabelled program)) same own in
    let there = subst (AreMethodsIn program number) same numbered in
    let given : IsLabelledSetting s setting = record { globals = none; heads = heads; result = mine.0.1 } in
    let params : AllByRecursion (IsLabelled labels) (param_ids head.first method.params) =
    params_later declared labels stay (param_ids head.first method.params)
    (subst (AllByRecursion (IsLabelled declared)) one.params mine.0.0) in
    let start : head.first ≡ head.first + length head.earlier = omega arith in
    let known : AreKnownLabelled labels place.known =
    known_params labels head tt method.params
    (subst (λ n. AllByRecursion (IsLabelled labels) (param_ids n method.params)) start params) in
    let after = labels_after setting first.begin labels first.body in
    subst (AreBodiesLabelled principals program labels) (sym same) (
      block_labelled s setting (record { 0 = number }) (is_some first.result) given place first.begin labels stay known
          method.body first.body one.body there.0.body,
      bodies_labelled principals program globals none heads (suc number) after
          (stay_then declared labels after stay (block_stays setting first.begin labels first.body))
          (before ++ method ∷ []) methods others behind mine.1 there.1,
    )

program_bodies : (principals : Declared) (draft : DraftShape) (tree : ProgramTree) →
    IsProgramOf principals draft tree → AreBodiesLabelled principals tree (declared_labels tree) tree.methods
program_bodies principals draft tree is =
    let heads = heads_labelled principals draft tree is in
    bodies_labelled principals tree (globals_of draft) (no_locals draft) heads 0 (declared_labels tree)
    (stay_same (declared_labels tree)) [] draft.methods tree.methods is.is_tree.methods heads
    (well_numbered principals draft tree is).methods

-- what is set in methods, with what else they keep
methods_labelled : (principals : Declared) (program : ProgramTree) (labels : VariableLabels)
    (methods : List MethodTree) → AreBodiesLabelled principals program labels methods →
    All (IsFit principals) methods → AreLabelledMethods principals program labels methods
methods_labelled principals program labels [] bodies fits = tt
methods_labelled principals program labels (method ∷ methods) bodies fits =
    let setting = rules.setting_of principals program method in
    let after = labels_after setting method.begin labels method.body in
    let fit : IsFit principals method = fits 0 method (omega arith) in (
      record {
        labelled = bodies.0.set;
        begins = fit.begins;
        authority = fit.authority;
        returns = fit.returns;
      },
      methods_labelled principals program after methods bodies.1 (λ k d less. fits (suc k) d (omega arith)),
    )

-- what is read in methods
methods_values : (principals : Declared) (program : ProgramTree) (labels : VariableLabels)
    (methods : List MethodTree) → AreBodiesLabelled principals program labels methods →
    AreAllValuesLabelled principals program labels methods
methods_values principals program labels [] bodies = tt
methods_values principals program labels (method ∷ methods) bodies =
    let setting = rules.setting_of principals program method in
    let after = labels_after setting method.begin labels method.body in
    (bodies.0.read, methods_values principals program after methods bodies.1)

pub values_are_labelled : (principals : Declared) (draft : DraftShape) (tree : ProgramTree) →
    IsProgramOf principals draft tree → AreAllValuesLabelled principals tree (declared_labels tree) tree.methods
values_are_labelled principals draft tree is =
    methods_values principals tree (declared_labels tree) tree.methods (program_bodies principals draft tree is)

pub methods_are_labelled : (principals : Declared) (draft : DraftShape) (tree : ProgramTree) → IsDeclared principals →
    AreReturnedLast draft → IsProgramOf principals draft tree →
    AreLabelledMethods principals tree (declared_labels tree) tree.methods
methods_are_labelled principals draft tree declared returned is =
    methods_labelled principals tree (declared_labels tree) tree.methods (program_bodies principals draft tree is)
    (λ k d less. record {
      begins = begins_over principals draft tree is k d less;
      authority = readers principals draft tree declared is k d less;
      returns = returns_last principals draft tree returned is k d less;
    })
