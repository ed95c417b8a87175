-- What a name stands for is there in the program.
use Rattle.std.proofs.Common.{◌≡◌, ℕ, suc, ◌+◌, Bool, true, false, if◌then◌else◌, nat_lt, List, [], ◌∷◌, ◌++◌}
use Rattle.std.proofs.Common.{length, Option, Some, None, slice_get, refl, ap, ◌∙◌, subst, arith}
use Rattle.std.specs.Prelude.{⊤}
use Rattle.std.specs.Option.{option_map}
use Rattle.std.specs.List.{AllZip, AllByRecursion}
use Rattle.std.specs.Str.{bytes_eq}
use Rattle.js_base.specs.declared.ids.FieldId.{FieldId}
use Rattle.js_base.specs.declared.ids.VarId.{VarId}
use Rattle.js_base.specs.declared.ids.MethodId.{MethodId}
use Rattle.principals.specs.ActsFor.{Declared}
use Rattle.jif_tree.specs.Trees.{FieldTree, MethodTree, ProgramTree}
use Rattle.jif_tree.specs.WellNumbered.{is_some, HasField, HasVariable, HasOptionalVariable, HasMethod}
use Rattle.jif_grammar.specs.DraftShapes.{FieldShape, ParamShape, MethodShape}
use Rattle.jif_resolve.specs.Meanings.{Global, has_result}
use Rattle.jif_resolve.specs.Meanings.{fields_from, methods_from, earlier_of, first_named}
use Rattle.jif_resolve.specs.Places.{Setting, Place, Known, known_variable, local_or_global, meaning_at, head_after}
use Rattle.jif_resolve.specs.Faults.{setting_of}
use Rattle.jif_resolve.specs.Variables.{param_ids}
use Rattle.jif_resolve.specs.Resolved.{IsFieldFor, IsMethodFor, AreMethodsFor}
use Rattle.jif_resolve.specs.declared.meaning.Meaning.{Meaning}
use Rattle.jif_resolve.specs.declared.meaning.Meaning.TheVariants as sense

abbrev pub Means : ProgramTree → MethodId → Option Meaning → Type 0
Means program own None = ⊤
Means program own (Some (sense.Variable variable)) = HasVariable program own variable
Means program own (Some (sense.Plain field)) = HasField program false field
Means program own (Some (sense.Array field)) = HasField program true field
Means program own (Some (sense.Method method params gives)) = HasMethod program params gives method

-- it stands for the same in each method
abbrev pub GlobalIs : ProgramTree → Global → Type 0
GlobalIs program global = (own : MethodId) → Means program own (Some global.meaning)

abbrev pub FirstIs : ProgramTree → Option Global → Type 0
FirstIs program None = ⊤
FirstIs program (Some global) = GlobalIs program global

abbrev pub AreKnownIn : ProgramTree → MethodId → List Known → Type 0
AreKnownIn program own known = AllByRecursion (λ local. HasVariable program own local.variable) known

pub either_way : {X : Type 0} (P : X → Type 0) (b : Bool) (x y : X) → P x → P y → P (if b then x else y)
either_way P true x y one two = one
either_way P false x y one two = two

-- ---- looking up

earlier_is : (program : ProgramTree) (global : Global) (other : Option Global) → GlobalIs program global →
    FirstIs program other → GlobalIs program (earlier_of global other)
earlier_is program global None one two = one
earlier_is program global (Some other) one two =
    either_way (GlobalIs program) (nat_lt other.name.at global.name.at) other global two one

first_is : (program : ProgramTree) (globals : List Global) → AllByRecursion (GlobalIs program) globals →
    (name : List ℕ) → FirstIs program (first_named name globals)
first_is program [] all name = tt
first_is program (global ∷ globals) all name =
    let rest = first_named name globals in
    let rest_is = first_is program globals all.1 name in
    either_way (FirstIs program) (bytes_eq name global.name.text) (Some (earlier_of global rest)) rest
    (earlier_is program global rest all.0 rest_is) rest_is

means_first : (program : ProgramTree) (own : MethodId) (first : Option Global) → FirstIs program first →
    Means program own (option_map (λ global. global.meaning) first)
means_first program own None is = tt
means_first program own (Some global) is = is own

known_is : (program : ProgramTree) (own : MethodId) (known : List Known) → AreKnownIn program own known →
    (name : List ℕ) → HasOptionalVariable program own (known_variable known name)
known_is program own [] all name = tt
known_is program own (local ∷ known) all name =
    either_way (HasOptionalVariable program own) (bytes_eq name local.name) (Some local.variable)
    (known_variable known name) all.0 (known_is program own known all.1 name)

either_is : (program : ProgramTree) (own : MethodId) (variable : Option VarId) (global : Option Meaning) →
    HasOptionalVariable program own variable → Means program own global →
    Means program own (local_or_global variable global)
either_is program own None global one two = two
either_is program own (Some variable) global one two = one

pub means_at : (program : ProgramTree) (own : MethodId) (s : Setting) (p : Place) →
    AllByRecursion (GlobalIs program) s.globals → AreKnownIn program own p.known → (name : List ℕ) →
    Means program own (meaning_at s p name)
means_at program own s p globals known name =
    either_is program own (known_variable p.known name) _ (known_is program own p.known known name)
    (means_first program own (first_named name s.globals) (first_is program s.globals globals name))

-- ---- what the names of the whole program stand for

-- the items from this number on
abbrev pub StandsFrom : {X : Type 0} → List X → ℕ → List X → Type 0
StandsFrom {X} all first items =
    (i : ℕ) (item : X) → slice_get items i ≡ Some item → slice_get all (first + i) ≡ Some item

pub from_start : {X : Type 0} (all : List X) → StandsFrom all 0 all
from_start all i item is = (let same : 0 + i ≡ i = omega arith in ap (slice_get all) same) ∙ is

pub head_stands : {X : Type 0} (all : List X) (first : ℕ) (item : X) (items : List X) →
    StandsFrom all first (item ∷ items) → slice_get all first ≡ Some item
head_stands all first item items stands =
    (let same : first ≡ first + 0 = omega arith in ap (slice_get all) same) ∙ stands 0 item refl

pub tail_stands : {X : Type 0} (all : List X) (first : ℕ) (item : X) (items : List X) →
    StandsFrom all first (item ∷ items) → StandsFrom all (suc first) items
tail_stands all first item items stands i next is =
    (let same : suc first + i ≡ first + suc i = omega arith in ap (slice_get all) same) ∙ stands (suc i) next is

field_means : (program : ProgramTree) (own : MethodId) (array : Bool) (field : FieldId) →
    HasField program array field → Means program own (Some (if array then sense.Array field else sense.Plain field))
field_means program own true field is = is
field_means program own false field is = is

pub fields_are : (program : ProgramTree) (principals : Declared) (first : ℕ) (fields : List FieldShape)
    (trees : List FieldTree) → AllZip (IsFieldFor principals) fields trees → StandsFrom program.fields first trees →
    AllByRecursion (GlobalIs program) (fields_from first fields)
fields_are program principals first [] trees all stands = tt
fields_are program principals first (field ∷ fields) [] all stands = absurd all
fields_are program principals first (field ∷ fields) (tree ∷ trees) all stands = (
  λ own. field_means program own field.array (record { 0 = first })
      (tree, head_stands program.fields first tree trees stands, all.0.array),
  fields_are program principals (suc first) fields trees all.1
      (tail_stands program.fields first tree trees stands),
)

pub length_of_params : (first : ℕ) (params : List ParamShape) → length (param_ids first params) ≡ length params
length_of_params first [] = refl
length_of_params first (param ∷ params) = ap suc (length_of_params (suc first) params)

some_where : (gives : Bool) (variable : VarId) → is_some (if gives then Some variable else None) ≡ gives
some_where true variable = refl
some_where false variable = refl

pub gives_result : (s : Setting) (head : Place) (method : MethodShape) (tree : MethodTree) →
    IsMethodFor s head method tree → is_some tree.result ≡ has_result method.result
gives_result s head method tree is = ap is_some is.result ∙ some_where (has_result method.result) _

pub method_there : (program : ProgramTree) (s : Setting) (head : Place) (number : ℕ) (method : MethodShape)
    (tree : MethodTree) → IsMethodFor s head method tree → slice_get program.methods number ≡ Some tree →
    HasMethod program (length method.params) (has_result method.result) (record { 0 = number })
method_there program s head number method tree is stands = (
  tree,
  stands,
  ap length is.params ∙ length_of_params head.first method.params,
  gives_result s head method tree is,
)

pub methods_are : (program : ProgramTree) (principals : Declared) (globals : List Global) (first : ℕ)
    (before methods : List MethodShape) (trees : List MethodTree) →
    AreMethodsFor principals globals before methods trees → StandsFrom program.methods first trees →
    AllByRecursion (GlobalIs program) (methods_from first methods)
methods_are program principals globals first before [] trees all stands = tt
methods_are program principals globals first before (method ∷ methods) trees (t, ts, same, one, behind) stands =
    let here : StandsFrom program.methods first (t ∷ ts) = subst (StandsFrom program.methods first) same stands in (
      λ own. method_there program (setting_of principals globals method) (head_after before) first method t one
          (head_stands program.methods first t ts here),
      methods_are program principals globals (suc first) (before ++ method ∷ []) methods ts behind
          (tail_stands program.methods first t ts here),
    )

pub both_all : {X : Type 0} (P : X → Type 0) (xs ys : List X) → AllByRecursion P xs → AllByRecursion P ys →
    AllByRecursion P (xs ++ ys)
both_all P [] ys one two = two
both_all P (x ∷ xs) ys one two = (one.0, both_all P xs ys one.1 two)
