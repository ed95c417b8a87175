-- What is known at a place of a method, and how it is printed.
use Rattle.std.proofs.Common.{◌≡◌, ◌<◌, ◌≤◌, ℕ, suc, ◌+◌, ◌==◌, Bool, true, false, not, nat_lt}
use Rattle.std.proofs.Common.{if◌then◌else◌, List, [], ◌∷◌, ◌++◌, map, length, Option, Some, None, refl, ap, sym, ◌∙◌}
use Rattle.std.proofs.Common.{subst, arith}
use Rattle.std.specs.Prelude.{slice_get, ⊤}
use Rattle.std.specs.Option.{option_map}
use Rattle.std.specs.List.{AllZip, AllByRecursion, flat_map}
use Rattle.std.specs.Str.{bytes_eq}
use Rattle.std.proofs.lemmas.Slice.Eq.{bytes_eq-Decides}
use Rattle.js_base.specs.Name.{IsName}
use Rattle.js_base.specs.declared.ids.VarId.{VarId}
use Rattle.js_base.specs.declared.ids.MethodId.{MethodId}
use Rattle.js_base.proofs.Lists.{none_joined, none_in_two}
use Rattle.principals.specs.ActsFor.{Declared, IsDeclared}
use Rattle.label_lattice.specs.declared.label.Label.{Label}
use Rattle.jif_tree.specs.Trees.{ExprTree}
use Rattle.jif_tree.specs.Trees.{VarTree, ProgramTree}
use Rattle.jif_grammar.specs.DraftShapes.{NameShape, LabelShape, ExprShape}
use Rattle.jif_grammar.specs.Drafts.{expr_width, args_at, optional_label_at}
use Rattle.jif_resolve.specs.Counts.{LocalShape}
use Rattle.jif_resolve.specs.Labels.{IsOptionalLabelFor}
use Rattle.jif_resolve.specs.Meanings.{Global, first_named, earlier_of, global_meaning}
use Rattle.jif_resolve.specs.Places.{Setting, Place, Known, known_variable, local_or_global, meaning_at}
use Rattle.jif_resolve.specs.Faults.{fault_where, optional_label_faults}
use Rattle.jif_resolve.specs.Faults.{called_faults, same_truth}
use Rattle.jif_resolve.specs.Faults.{expr_faults}
use Rattle.jif_resolve.specs.Resolved.{method_of, IsExprFor}
use Rattle.jif_resolve.specs.declared.fault.FaultKind.TheVariants.{WrongType, WrongCount}
use Rattle.jif_resolve.specs.declared.meaning.Meaning.{Meaning}
use Rattle.jif_resolve.specs.declared.meaning.Meaning.TheVariants as sense
use Rattle.jif_parse.specs.PrintedNames.{Naming, name_of_variable, variable_name}
use Rattle.jif_parse.specs.PrintedNames.{method_name}
use Rattle.jif_parse.specs.PrintedExprs.{expr_phrase}
use Rattle.jif_parse.proofs.PrintedLists.{none_where}
use Rattle.jif_parse.proofs.PrintedApart.{AreNamed, IsNamedOptional}
use Rattle.jif_parse.proofs.PrintedPhrases.{label_phrase}
use Rattle.jif_parse.proofs.PrintedLabels.{Laws, label_back}
use Rattle.jif_parse.proofs.PrintedBackExprs.{SameGlobals, with_globals, naming_in, NameIs, NameIsWhere, AreNamesAt}
use Rattle.jif_parse.proofs.PrintedBackExprs.{IsNamedShape, used_at, again}
use Rattle.jif_parse.proofs.PrintedBackExprs.{expr_back, label_clean, label_named}

-- ---- variables

-- the variable of this number has this name and this label
pub record IsVariableAt (naming : Naming) (n : ℕ) (name : List ℕ) (label : Option LabelShape) : Type 0 where
  pub tree : VarTree
  pub there : slice_get naming.program.vars n ≡ Some tree
  pub named : tree.name ≡ name
  pub labelled : IsOptionalLabelFor naming.principals label tree.label

-- the variables from this number on are these locals
abbrev pub LocalsAre : Naming → ℕ → List LocalShape → Type 0
LocalsAre naming n [] = ⊤
LocalsAre naming n (local ∷ locals) =
    IsVariableAt naming n local.name.text local.label × LocalsAre naming (suc n) locals

pub locals_front : (naming : Naming) (n : ℕ) (xs ys : List LocalShape) → LocalsAre naming n (xs ++ ys) →
    LocalsAre naming n xs
locals_front naming n [] ys are = tt
locals_front naming n (x ∷ xs) ys are = (are.0, locals_front naming (suc n) xs ys are.1)

pub locals_behind : (naming : Naming) (n : ℕ) (xs ys : List LocalShape) → LocalsAre naming n (xs ++ ys) →
    LocalsAre naming (n + length xs) ys
locals_behind naming n [] ys are = subst (λ k. LocalsAre naming k ys) (omega arith) are
locals_behind naming n (x ∷ xs) ys are =
    subst (λ k. LocalsAre naming k ys) (omega arith) (locals_behind naming (suc n) xs ys are.1)

pub locals_joined : (naming : Naming) (n : ℕ) (xs ys : List LocalShape) → LocalsAre naming n xs →
    LocalsAre naming (n + length xs) ys → LocalsAre naming n (xs ++ ys)
locals_joined naming n [] ys one two = subst (λ k. LocalsAre naming k ys) (omega arith) two
locals_joined naming n (x ∷ xs) ys one two =
    (one.0, locals_joined naming (suc n) xs ys one.1 (subst (λ k. LocalsAre naming k ys) (omega arith) two))

pub name_there : (naming : Naming) (x : VarId) (name : List ℕ) (label : Option LabelShape) →
    IsVariableAt naming x.0 name label → variable_name naming x ≡ name
name_there naming x name label is = ap name_of_variable is.there ∙ is.named

-- ---- what is known

-- the known variables have numbers below this one, and their names
abbrev pub KnownAre : Naming → ℕ → List Known → Type 0
KnownAre naming n known =
    AllByRecursion (λ local. (variable_name naming local.variable ≡ local.name) × (local.variable.0 < n)) known

pub known_later : (naming : Naming) (n m : ℕ) (known : List Known) → n ≤ m → KnownAre naming n known →
    KnownAre naming m known
known_later naming n m [] more are = tt
known_later naming n m (local ∷ known) more are =
    ((are.0.0, omega (arith, are.0.1)), known_later naming n m known more are.1)

abbrev pub GlobalsAre : Naming → List Global → Type 0
GlobalsAre naming globals = AllByRecursion (λ global. (n : ℕ) → NameIs naming n global.meaning global.name.text) globals

abbrev pub FirstIs : Naming → ℕ → List ℕ → Option Global → Type 0
FirstIs naming n name None = ⊤
FirstIs naming n name (Some global) = NameIs naming n global.meaning name

pub either_way : {X : Type 0} (P : X → Type 0) (b : Bool) (x y : X) → (b ≡ true → P x) → P y → P (if b then x else y)
either_way P true x y one two = one refl
either_way P false x y one two = two

pub earlier_is : (naming : Naming) (n : ℕ) (name : List ℕ) (global : Global) (other : Option Global) →
    NameIs naming n global.meaning name → FirstIs naming n name other →
    NameIs naming n (earlier_of global other).meaning name
earlier_is naming n name global None one two = one
earlier_is naming n name global (Some other) one two =
    either_way (λ g. NameIs naming n g.meaning name) (nat_lt other.name.at global.name.at) other global (λ b. two) one

pub first_is : (naming : Naming) (n : ℕ) (name : List ℕ) (globals : List Global) → GlobalsAre naming globals →
    FirstIs naming n name (first_named name globals)
first_is naming n name [] are = tt
first_is naming n name (global ∷ globals) are =
    let rest = first_named name globals in
    let behind = first_is naming n name globals are.1 in
    either_way (FirstIs naming n name) (bytes_eq name global.name.text) (Some (earlier_of global rest)) rest
    (λ same. earlier_is naming n name global rest
    (subst (NameIs naming n global.meaning) (sym ((bytes_eq-Decides name global.name.text).0 same)) (are.0 n)) behind)
    behind

pub global_is : (naming : Naming) (n : ℕ) (name : List ℕ) (first : Option Global) → FirstIs naming n name first →
    NameIsWhere naming n (option_map (λ global. global.meaning) first) name
global_is naming n name None is = tt
global_is naming n name (Some global) is = is

abbrev pub VariableWhere : Naming → ℕ → Option VarId → List ℕ → Type 0
VariableWhere naming n None name = ⊤
VariableWhere naming n (Some v) name = (variable_name naming v ≡ name) × (v.0 < n)

pub known_is : (naming : Naming) (n : ℕ) (name : List ℕ) (known : List Known) → KnownAre naming n known →
    VariableWhere naming n (known_variable known name) name
known_is naming n name [] are = tt
known_is naming n name (local ∷ known) are =
    either_way (λ v. VariableWhere naming n v name) (bytes_eq name local.name) (Some local.variable)
    (known_variable known name)
    (λ same. (are.0.0 ∙ sym ((bytes_eq-Decides name local.name).0 same), are.0.1)) (known_is naming n name known are.1)

pub either_is : (naming : Naming) (n : ℕ) (name : List ℕ) (variable : Option VarId) (global : Option Meaning) →
    VariableWhere naming n variable name → NameIsWhere naming n global name →
    NameIsWhere naming n (local_or_global variable global) name
either_is naming n name None global one two = two
either_is naming n name (Some v) global one two = one

pub names_at : (naming : Naming) (n : ℕ) (s : Setting) (p : Place) → GlobalsAre naming s.globals →
    KnownAre naming n p.known → AreNamesAt naming n s p
names_at naming n s p globals known name =
    either_is naming n name (known_variable p.known name) (global_meaning s.globals name)
    (known_is naming n name p.known known) (global_is naming n name (first_named name s.globals)
    (first_is naming n name s.globals globals))

-- ---- labels that may be left out

pub optional_back : Laws → (principals : Declared) → IsDeclared principals → (written : Option LabelShape)
    (label : Option Label) → IsOptionalLabelFor principals written label → (at : ℕ) →
    IsOptionalLabelFor principals (optional_label_at at (label_phrase principals label)) label
optional_back laws principals declared None label is at =
    let Q : Option Label → Type 0 = λ l. IsOptionalLabelFor principals
    (optional_label_at at (label_phrase principals l)) l in
    subst Q (sym is) refl
optional_back laws principals declared (Some written) label (l, is, labelled) at =
    let Q : Option Label → Type 0 = λ l. IsOptionalLabelFor principals
    (optional_label_at at (label_phrase principals l)) l in
    subst Q (sym is) (l, refl, label_back laws principals l declared labelled.over at)

pub optional_clean : (principals : Declared) (written : Option LabelShape) (label : Option Label) →
    IsOptionalLabelFor principals written label → optional_label_faults principals written ≡ []
optional_clean principals None label is = refl
optional_clean principals (Some written) label (l, is, labelled) = label_clean principals written l labelled

pub optional_named : (principals : Declared) → IsDeclared principals → (label : Option Label) →
    IsNamedOptional (label_phrase principals label)
optional_named principals declared None = tt
optional_named principals declared (Some label) = label_named principals label declared

-- ---- arguments

pub record ArgsBack (s : Setting) (p : Place) (naming : Naming) (args : List ExprTree) : Type 0 where
  pub are : (at : ℕ) → AllZip (IsExprFor s p) (args_at at (map (expr_phrase naming) args)) args
  pub clean : (at : ℕ) → flat_map (expr_faults s p) (args_at at (map (expr_phrase naming) args)) ≡ []
  pub long : (at : ℕ) → length (args_at at (map (expr_phrase naming) args)) ≡ length args
  pub named : AreNamed (map (expr_phrase naming) args)

pub args_back : Laws → (s : Setting) → IsDeclared s.principals → (others : List Global) → SameGlobals s.globals others →
    (program : ProgramTree) (n : ℕ) (p : Place) → AreNamesAt (naming_in s program) n s p → (shapes : List ExprShape)
    (args : List ExprTree) → AllByRecursion IsNamedShape shapes → AllZip (IsExprFor s p) shapes args →
    ArgsBack (with_globals s others) p (naming_in s program) args
args_back laws s declared others same program n p names [] [] named are =
    record { are = λ at. tt; clean = λ at. refl; long = λ at. refl; named = tt }
args_back laws s declared others same program n p names [] (arg ∷ args) named are = absurd are
args_back laws s declared others same program n p names (shape ∷ shapes) [] named are = absurd are
args_back laws s declared others same program n p names (shape ∷ shapes) (arg ∷ args) named are =
    let naming : Naming = naming_in s program in
    let one = expr_back laws s declared others same program n p names shape arg named.0 are.0 in
    let rest = args_back laws s declared others same program n p names shapes args named.1 are.1 in
    let place : ℕ → ℕ = λ at. at + expr_width (expr_phrase naming arg) + 1 in
    record {
      are = λ at. (one.is at, rest.are (place at));
      clean = λ at. none_joined _ _ (one.clean at) (rest.clean (place at));
      long = λ at. ap suc (rest.long (place at));
      named = (one.named, rest.named);
    }

-- ---- calls

pub called_clean : (at other : ℕ) (keeps : Bool) (args : ℕ) (means : Option Meaning) →
    called_faults at keeps args means ≡ [] → called_faults other keeps args means ≡ []
called_clean at other keeps args None none = absurd cc
called_clean at other keeps args (Some (sense.Variable v)) none = absurd cc
called_clean at other keeps args (Some (sense.Plain f)) none = absurd cc
called_clean at other keeps args (Some (sense.Array f)) none = absurd cc
called_clean at other keeps args (Some (sense.Method m params gives)) none =
    let both = none_in_two (fault_where (not (same_truth keeps gives)) WrongType at)
    (fault_where (not (args == params)) WrongCount at) none in
    none_joined _ _ (ap (λ b. fault_where b WrongType other) (none_where _ WrongType at both.0))
    (ap (λ b. fault_where b WrongCount other) (none_where _ WrongCount at both.1))

-- a method is found again
pub record MethodBack (s : Setting) (p : Place) (naming : Naming) (m : MethodId) (keeps : Bool)
    (args : ℕ) : Type 0 where
  pub is : method_of (meaning_at s p (method_name naming m)) ≡ Some m
  pub clean : (at : ℕ) → called_faults at keeps args (meaning_at s p (method_name naming m)) ≡ []
  pub named : IsName (method_name naming m)

pub method_back : (s : Setting) (others : List Global) → SameGlobals s.globals others →
    (naming : Naming) (n : ℕ) (p : Place) →
    AreNamesAt naming n s p → (name : NameShape) (m : MethodId) (keeps : Bool) (args : ℕ) → IsName name.text →
    (means : Option Meaning) → meaning_at s p name.text ≡ means → method_of means ≡ Some m →
    called_faults name.at keeps args means ≡ [] → MethodBack (with_globals s others) p naming m keeps args
method_back s others same naming n p names name m keeps args is None means made none = absurd cc
method_back s others same naming n p names name m keeps args is (Some (sense.Variable v)) means made none = absurd cc
method_back s others same naming n p names name m keeps args is (Some (sense.Plain g)) means made none = absurd cc
method_back s others same naming n p names name m keeps args is (Some (sense.Array g)) means made none = absurd cc
method_back s others same naming n p names name m keeps args is (Some (sense.Method k params gives)) means made none =
    let used = used_at s naming n p names name.text (sense.Method k params gives) means in
    let back = again s others same p name.text (method_name naming k) (sense.Method k params gives) means used in
    let Q : MethodId → Type 0 = λ h. MethodBack (with_globals s others) p naming h keeps args in
    let tree : k ≡ m = cc in
    subst Q tree (record {
      is = ap method_of back;
      clean = λ at. ap (called_faults at keeps args) back
          ∙ called_clean name.at at keeps args (Some (sense.Method k params gives)) none;
      named = subst IsName (sym used) is;
    })

-- a variable is found again
pub record VariableBack (s : Setting) (p : Place) (naming : Naming) (n : ℕ) (v : VarId) : Type 0 where
  pub is : meaning_at s p (variable_name naming v) ≡ Some (sense.Variable v)
  pub below : v.0 < n
  pub named : IsName (variable_name naming v)

pub variable_found : (s : Setting) (others : List Global) → SameGlobals s.globals others → (naming : Naming) (n : ℕ)
    (p : Place) → AreNamesAt naming n s p → (name : List ℕ) (v : VarId) → IsName name →
    meaning_at s p name ≡ Some (sense.Variable v) → VariableBack (with_globals s others) p naming n v
variable_found s others same naming n p names name v is means =
    let used = used_at s naming n p names name (sense.Variable v) means in
    record {
      is = again s others same p name (variable_name naming v) (sense.Variable v) means used.0;
      below = used.1;
      named = subst IsName (sym used.0) is;
    }
