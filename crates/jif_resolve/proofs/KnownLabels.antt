-- Names that are known at a place of a method stand for variables that have labels: they were declared before.
use Rattle.std.proofs.Common.{◌≡◌, ℕ, suc, ◌+◌, List, [], ◌∷◌, ◌++◌, length, Option, Some, None}
use Rattle.std.proofs.Common.{refl, sym, subst, arith}
use Rattle.std.specs.Prelude.{⊤}
use Rattle.std.specs.List.{AllByRecursion}
use Rattle.std.specs.Option.{option_map}
use Rattle.std.specs.Str.{bytes_eq}
use Rattle.std.proofs.lemmas.List.{length-append}
use Rattle.js_base.specs.declared.ids.VarId.{VarId}
use Rattle.jif_tree.specs.LabelRules.{VariableLabels}
use Rattle.jif_tree.specs.Labelling.{IsLabelled, IsLabelledIfAny}
use Rattle.jif_tree.proofs.LabelsKept.{Stay}
use Rattle.jif_tree.proofs.LabelsKept.{labelled_later}
use Rattle.jif_grammar.specs.DraftShapes.{NameShape}
use Rattle.jif_grammar.specs.DraftShapes.{ParamShape}
use Rattle.jif_resolve.specs.Meanings.{Global, earlier_of, first_named, global_meaning}
use Rattle.jif_resolve.specs.Places.{Setting, Place, Known, after_variable, after_params}
use Rattle.jif_resolve.specs.Places.{known_variable}
use Rattle.jif_resolve.specs.Places.{local_or_global, meaning_at}
use Rattle.jif_resolve.specs.Resolved.{local_of, into_tree}
use Rattle.jif_resolve.specs.Variables.{param_ids}
use Rattle.jif_resolve.proofs.Meant.{either_way}
use Rattle.jif_resolve.specs.declared.meaning.Meaning.{Meaning}
use Rattle.jif_resolve.specs.declared.meaning.Meaning.TheVariants as sense

-- ---- names of the whole program

-- it stands for no parameter and no local
abbrev pub IsNoLocal : Global → Type 0
IsNoLocal global = local_of (Some global.meaning) ≡ None

abbrev FirstIsNoLocal : Option Global → Type 0
FirstIsNoLocal None = ⊤
FirstIsNoLocal (Some global) = IsNoLocal global

earlier_no_local : (global : Global) (other : Option Global) → IsNoLocal global → FirstIsNoLocal other →
    IsNoLocal (earlier_of global other)
earlier_no_local global None one two = one
earlier_no_local global (Some other) one two = either_way IsNoLocal _ other global two one

first_no_local : (globals : List Global) → AllByRecursion IsNoLocal globals → (name : List ℕ) →
    FirstIsNoLocal (first_named name globals)
first_no_local [] all name = tt
first_no_local (global ∷ globals) all name =
    let rest = first_named name globals in
    let rest_is = first_no_local globals all.1 name in
    either_way FirstIsNoLocal (bytes_eq name global.name.text) (Some (earlier_of global rest)) rest
    (earlier_no_local global rest all.0 rest_is) rest_is

meaning_no_local : (first : Option Global) → FirstIsNoLocal first →
    local_of (option_map (λ global. global.meaning) first) ≡ None
meaning_no_local None is = refl
meaning_no_local (Some global) is = is

-- ---- names that are known at a place

abbrev pub AreKnownLabelled : VariableLabels → List Known → Type 0
AreKnownLabelled labels known = AllByRecursion (λ local. IsLabelled labels local.variable) known

pub known_later : (labels later : VariableLabels) → Stay labels later → (known : List Known) →
    AreKnownLabelled labels known → AreKnownLabelled later known
known_later labels later stay [] all = tt
known_later labels later stay (local ∷ known) all =
    (labelled_later labels later stay local.variable all.0, known_later labels later stay known all.1)

known_labelled : (labels : VariableLabels) (known : List Known) → AreKnownLabelled labels known → (name : List ℕ) →
    IsLabelledIfAny labels (known_variable known name)
known_labelled labels [] all name = tt
known_labelled labels (local ∷ known) all name =
    either_way (IsLabelledIfAny labels) (bytes_eq name local.name) (Some local.variable) (known_variable known name)
    all.0 (known_labelled labels known all.1 name)

either_labelled : (labels : VariableLabels) (variable : Option VarId) (global : Option Meaning) →
    IsLabelledIfAny labels variable → local_of global ≡ None →
    IsLabelledIfAny labels (local_of (local_or_global variable global))
either_labelled labels None global is none = subst (IsLabelledIfAny labels) (sym none) tt
either_labelled labels (Some variable) global is none = is

pub meaning_labelled : (labels : VariableLabels) (s : Setting) (p : Place) → AllByRecursion IsNoLocal s.globals →
    AreKnownLabelled labels p.known → (name : List ℕ) → IsLabelledIfAny labels (local_of (meaning_at s p name))
meaning_labelled labels s p globals known name =
    either_labelled labels (known_variable p.known name) (global_meaning s.globals name)
    (known_labelled labels p.known known name)
    (meaning_no_local (first_named name s.globals) (first_no_local s.globals globals name))

kept_labelled : (labels : VariableLabels) (found kept : Option VarId) → IsLabelledIfAny labels found →
    option_map Some found ≡ Some kept → IsLabelledIfAny labels kept
kept_labelled labels None kept is made = absurd cc
kept_labelled labels (Some variable) kept is made =
    let same : Some variable ≡ kept = cc in subst (IsLabelledIfAny labels) same is

pub into_labelled : (labels : VariableLabels) (s : Setting) (p : Place) (into : Option NameShape) (kept : Option VarId) →
    AllByRecursion IsNoLocal s.globals → AreKnownLabelled labels p.known → into_tree s p into ≡ Some kept →
    IsLabelledIfAny labels kept
into_labelled labels s p None kept globals known made =
    let same : None ≡ kept = cc in subst (IsLabelledIfAny labels) same tt
into_labelled labels s p (Some name) kept globals known made =
    kept_labelled labels (local_of (meaning_at s p name.text)) kept
    (meaning_labelled labels s p globals known name.text) made

-- the parameters are known from the head on
pub known_params : (labels : VariableLabels) (p : Place) → AreKnownLabelled labels p.known →
    (params : List ParamShape) →
    AllByRecursion (IsLabelled labels) (param_ids (p.first + length p.earlier) params) →
    AreKnownLabelled labels (after_params p params).known
known_params labels p known [] all = known
known_params labels p known (param ∷ params) all =
    let name = param.name.text in
    let grown : length (p.earlier ++ name ∷ []) ≡ length p.earlier + length (name ∷ []) =
    length-append p.earlier (name ∷ []) in
    let next : suc (p.first + length p.earlier) ≡ p.first + length (p.earlier ++ name ∷ []) = omega arith in
    known_params labels (after_variable p param.name) (all.0, known) params
    (subst (λ n. AllByRecursion (IsLabelled labels) (param_ids n params)) next all.1)
