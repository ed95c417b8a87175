-- The phrases of a program are read as the same program, but for its lines.
use Rattle.std.proofs.Common.{◌≡◌, ◌<◌, ℕ, zero, suc, ℤ, pos, negsuc, ◌+◌, ◌&&◌, ◌==◌, not, codes, Bool, true}
use Rattle.std.proofs.Common.{false, if◌then◌else◌, List, [], ◌∷◌, ◌++◌, map, length, Option, Some, None, refl, ap}
use Rattle.std.proofs.Common.{sym, ◌∙◌, subst, arith}
use Rattle.std.specs.Prelude.{slice_get, ⊤}
use Rattle.std.specs.List.{AllZip, AllByRecursion, flat_map}
use Rattle.std.specs.Str.{bytes_eq}
use Rattle.std.proofs.lemmas.List.{length-append, length-map}
use Rattle.std.proofs.lemmas.List.Sums.{sum_by-append}
use Rattle.js_base.specs.Name.{IsName}
use Rattle.js_base.specs.declared.ids.MethodId.{MethodId}
use Rattle.js_base.proofs.Lists.{none_joined, none_in_two, none_in_three}
use Rattle.principals.specs.ActsFor.{Declared, IsDeclared}
use Rattle.jif_tree.specs.Trees.{FieldTree, VarTree, MethodTree, ProgramTree}
use Rattle.jif_grammar.specs.Phrases as phrase
use Rattle.jif_grammar.specs.Phrases.{ItemPhrase, ProgramPhrase}
use Rattle.jif_grammar.specs.DraftShapes.{FieldShape, LabelShape, ParamShape, MethodShape, DraftShape}
use Rattle.jif_grammar.specs.Drafts.{fields_at, method_at, methods_at, after_item, draft_of}
use Rattle.jif_resolve.specs.Counts.{locals_in, calls_in, LocalShape}
use Rattle.jif_resolve.specs.Labels.{IsOptionalLabelFor}
use Rattle.jif_resolve.specs.Meanings.{Global, has_result, is_main, main_from, fields_from, methods_from, globals_of}
use Rattle.jif_resolve.specs.Places.{Place, head_after, counted, variables_in, numbered_in}
use Rattle.jif_resolve.specs.Faults.{setting_of, method_faults, methods_faults, label_faults, global_faults}
use Rattle.jif_resolve.specs.Variables.{VariableShape, result_variables, method_variables, variables_from}
use Rattle.jif_resolve.specs.Resolved.{IsFieldFor, IsVariableFor, IsMethodFor, AreMethodsFor}
use Rattle.jif_resolve.specs.Verdicts.{IsProgramOf}
use Rattle.jif_resolve.specs.Returns.{ReturnsLast}
use Rattle.jif_parse.specs.PrintedNames.{Naming}
use Rattle.jif_parse.specs.PrintedProgram.{seen_after_method}
use Rattle.jif_parse.specs.PrintedBack.{method_without_lines, without_lines}
use Rattle.jif_parse.proofs.PrintedApart.{IsSmall, IsNamedEnd, IsNamedItem, IsNamedProgram}
use Rattle.jif_parse.proofs.PrintedPhrases.{fields_phrases, method_phrase, methods_phrases, program_phrase}
use Rattle.jif_parse.proofs.PrintedPhrases.{field_phrase, field_end_phrase, HasElements}
use Rattle.jif_parse.proofs.PrintedSpelled.{IsPrintable}
use Rattle.jif_parse.proofs.PrintedLabels.{Laws}
use Rattle.jif_parse.proofs.PrintedBackExprs.{SameGlobals, label_clean, label_named}
use Rattle.jif_parse.proofs.PrintedKnown.{GlobalsAre}
use Rattle.jif_parse.proofs.PrintedBackStatements.{three_joined}
use Rattle.jif_parse.proofs.PrintedBackMethods.{VarsAre, vars_front, vars_behind, vars_joined, param_variable}
use Rattle.jif_parse.proofs.PrintedBackMethods.{local_variable, IsNamedMethod, MethodFresh, method_back, MethodAlike}
use Rattle.jif_parse.proofs.PrintedBackGlobals.{SameEach, each_joined, Distinct, distinct_names, globals_same}
use Rattle.jif_parse.proofs.PrintedBackGlobals.{globals_clean, AllApart, no_fields_after, ArePlainFields, fields_back}
use Rattle.jif_parse.proofs.PrintedBackGlobals.{fields_same, fields_named, methods_same, methods_named}

-- ---- variables

own_vars : (principals : Declared) (naming : Naming) → naming.principals ≡ principals → (n : ℕ)
    (variables : List VariableShape) (trees : List VarTree) → AllZip (IsVariableFor principals) variables trees →
    ((i : ℕ) (tree : VarTree) → slice_get trees i ≡ Some tree → slice_get naming.program.vars (n + i) ≡ Some tree) →
    VarsAre naming n variables
own_vars principals naming same n [] trees are stands = tt
own_vars principals naming same n (v ∷ vs) [] are stands = absurd are
own_vars principals naming same n (v ∷ vs) (tree ∷ trees) are stands = (
  record {
    tree = tree;
    there = ap (slice_get naming.program.vars) (omega arith) ∙ stands 0 tree refl;
    named = are.0.name;
    labelled = subst (λ ps. IsOptionalLabelFor ps v.label tree.label) (sym same) are.0.label;
  },
  own_vars principals naming same (suc n) vs trees are.1
      (λ i t is. ap (slice_get naming.program.vars) (omega arith) ∙ stands (suc i) t is),
)

-- those of the same methods
abbrev SameMethods : List VariableShape → List VariableShape → Type 0
SameMethods [] [] = ⊤
SameMethods [] (w ∷ ws) = ⊥
SameMethods (v ∷ vs) [] = ⊥
SameMethods (v ∷ vs) (w ∷ ws) = (v.method ≡ w.method) × SameMethods vs ws

same_tree : (a b : Option VarTree) (x y : VarTree) → a ≡ Some x → a ≡ Some y → x ≡ y
same_tree a b x y one two = let both : Some x ≡ Some y = sym one ∙ two in cc

vars_back : (principals : Declared) (naming : Naming) → naming.principals ≡ principals → (n : ℕ)
    (variables others : List VariableShape) (trees : List VarTree) → AllZip (IsVariableFor principals) variables trees →
    ((i : ℕ) (tree : VarTree) → slice_get trees i ≡ Some tree → slice_get naming.program.vars (n + i) ≡ Some tree) →
    SameMethods variables others → VarsAre naming n others → AllZip (IsVariableFor principals) others trees
vars_back principals naming same n [] [] [] are stands alike vars = tt
vars_back principals naming same n [] [] (tree ∷ trees) are stands alike vars = absurd are
vars_back principals naming same n [] (w ∷ ws) trees are stands alike vars = absurd alike
vars_back principals naming same n (v ∷ vs) [] trees are stands alike vars = absurd alike
vars_back principals naming same n (v ∷ vs) (w ∷ ws) [] are stands alike vars = absurd are
vars_back principals naming same n (v ∷ vs) (w ∷ ws) (tree ∷ trees) are stands alike vars =
    let there : slice_get naming.program.vars n ≡ Some tree =
    ap (slice_get naming.program.vars) (omega arith) ∙ stands 0 tree refl in
    let one = same_tree (slice_get naming.program.vars n) None vars.0.tree tree vars.0.there there in (
      record {
        method = are.0.method ∙ alike.0;
        name = ap (λ t. t.name) (sym one) ∙ vars.0.named;
        label = subst (λ ps. IsOptionalLabelFor ps w.label tree.label) same
            (subst (λ t. IsOptionalLabelFor naming.principals w.label t.label) one vars.0.labelled);
      },
      vars_back principals naming same (suc n) vs ws trees are.1
          (λ i t is. ap (slice_get naming.program.vars) (omega arith) ∙ stands (suc i) t is) alike.1 vars.1,
    )

alike_joined : (vs ws more others : List VariableShape) → SameMethods vs ws → SameMethods more others →
    SameMethods (vs ++ more) (ws ++ others)
alike_joined [] [] more others one two = two
alike_joined [] (w ∷ ws) more others one two = absurd one
alike_joined (v ∷ vs) [] more others one two = absurd one
alike_joined (v ∷ vs) (w ∷ ws) more others one two = (one.0, alike_joined vs ws more others one.1 two)

params_alike : (own : MethodId) (xs ys : List ParamShape) → length xs ≡ length ys →
    SameMethods (map (param_variable own) xs) (map (param_variable own) ys)
params_alike own [] [] same = tt
params_alike own [] (y ∷ ys) same = absurd (omega (arith, same))
params_alike own (x ∷ xs) [] same = absurd (omega (arith, same))
params_alike own (x ∷ xs) (y ∷ ys) same = (refl, params_alike own xs ys (omega (arith, same)))

locals_alike : (own : MethodId) (xs ys : List LocalShape) → length xs ≡ length ys →
    SameMethods (map (local_variable own) xs) (map (local_variable own) ys)
locals_alike own [] [] same = tt
locals_alike own [] (y ∷ ys) same = absurd (omega (arith, same))
locals_alike own (x ∷ xs) [] same = absurd (omega (arith, same))
locals_alike own (x ∷ xs) (y ∷ ys) same = (refl, locals_alike own xs ys (omega (arith, same)))

result_alike : (own : MethodId) (x y : Option LabelShape) → has_result x ≡ has_result y →
    SameMethods (result_variables own x) (result_variables own y)
result_alike own None None same = tt
result_alike own None (Some b) same = absurd cc
result_alike own (Some a) None same = absurd cc
result_alike own (Some a) (Some b) same = (refl, tt)

-- ---- methods

result_long : (own : MethodId) (result : Option LabelShape) →
    length (result_variables own result) ≡ (if has_result result then 1 else 0)
result_long own None = refl
result_long own (Some label) = refl

variables_long : (own : MethodId) (method : MethodShape) → length (method_variables own method) ≡ variables_in method
variables_long own method =
    let front : List VariableShape = map (param_variable own) method.params in
    let middle : List VariableShape = map (local_variable own) (locals_in method.body) in
    let final : List VariableShape = result_variables own method.result in
    let one : length (front ++ middle ++ final) ≡ length (front ++ middle) + length final =
    length-append (front ++ middle) final in
    let two : length (front ++ middle) ≡ length front + length middle = length-append front middle in
    let three : length front ≡ length method.params = length-map method.params (param_variable own) in
    let four : length middle ≡ length (locals_in method.body) =
    length-map (locals_in method.body) (local_variable own) in
    let five = result_long own method.result in
    omega (arith, one, two, three, four, five)

counted_more : (amount : MethodShape → ℕ) (before : List MethodShape) (method : MethodShape) →
    counted amount (before ++ method ∷ []) ≡ counted amount before + amount method
counted_more amount before method = sum_by-append amount before (method ∷ []) ∙ omega arith

-- as much stands in both
pub record SameCounts (before others : List MethodShape) : Type 0 where
  pub variables : counted variables_in others ≡ counted variables_in before
  pub numbered : counted numbered_in others ≡ counted numbered_in before
  pub calls : counted (λ method. calls_in method.body) others ≡ counted (λ method. calls_in method.body) before

head_same : (before others : List MethodShape) → SameCounts before others → head_after others ≡ head_after before
head_same before others same =
    let of : ℕ → ℕ → ℕ → Place =
    λ first statement site. record {
      first = first;
      earlier = [];
      known = [];
      statement = statement;
      site = 1 + site;
    } in
    ap (λ n. of n (counted numbered_in others) (counted (λ method. calls_in method.body) others)) same.variables
    ∙ ap (λ n. of (counted variables_in before) n (counted (λ method. calls_in method.body) others)) same.numbered
    ∙ ap (λ n. of (counted variables_in before) (counted numbered_in before) n) same.calls

-- what holds of methods that stand after others
pub record MethodsStand (principals : Declared) (globals : List Global) (program : ProgramTree) (number : ℕ)
    (before methods : List MethodShape) (trees : List MethodTree) : Type 0 where
  pub are : AreMethodsFor principals globals before methods trees
  pub clean : methods_faults principals globals before methods ≡ []
  pub vars : VarsAre (record { principals = principals; program = program }) (counted variables_in before)
      (variables_from number methods)
  pub named : AllByRecursion IsNamedMethod methods
  pub returns : AllByRecursion (λ method. ReturnsLast method.body) methods

pub record MethodsFresh (principals : Declared) (others : List Global) (program : ProgramTree) (number : ℕ)
    (before fresh_before methods : List MethodShape) (trees : List MethodTree) (fresh : List MethodShape) : Type 0 where
  pub again : List MethodTree
  pub are : AreMethodsFor principals others fresh_before fresh again
  pub same : map method_without_lines again ≡ map method_without_lines trees
  pub clean : methods_faults principals others fresh_before fresh ≡ []
  pub vars : VarsAre (record { principals = principals; program = program }) (counted variables_in before)
      (variables_from number fresh)
  pub alike : SameMethods (variables_from number methods) (variables_from number fresh)
  pub main : main_from number fresh ≡ main_from number methods

-- the phrases are like these methods
abbrev pub MethodsAlike : Naming → List MethodShape → List ItemPhrase → Type 0
MethodsAlike naming [] [] = ⊤
MethodsAlike naming [] (item ∷ items) = ⊥
MethodsAlike naming (method ∷ methods) [] = ⊥
MethodsAlike naming (method ∷ methods) (phrase.field own ∷ items) = ⊥
MethodsAlike naming (method ∷ methods) (phrase.method own ∷ items) =
    MethodAlike naming method own × MethodsAlike naming methods items

pub record MethodsMade (principals : Declared) (others : List Global) (program : ProgramTree) (number seen : ℕ)
    (before methods : List MethodShape) (trees : List MethodTree) : Type 0 where
  pub printable : AllByRecursion (IsPrintable (record { principals = principals; program = program })) trees
  pub named : IsNamedProgram (methods_phrases (record { principals = principals; program = program }) seen trees)
  pub alike : MethodsAlike (record { principals = principals; program = program }) methods
      (methods_phrases (record { principals = principals; program = program }) seen trees)
  pub back : (fresh_before : List MethodShape) → SameCounts before fresh_before → (lines : ℕ → ℕ) (at : ℕ) →
      MethodsFresh principals others program number before fresh_before methods trees
      (methods_at lines at (methods_phrases (record { principals = principals; program = program }) seen trees))

main_same : (number : ℕ) (one two : MethodShape) (methods others : List MethodShape) → two.name.text ≡ one.name.text →
    length two.params ≡ length one.params → has_result two.result ≡ has_result one.result →
    main_from (suc number) others ≡ main_from (suc number) methods →
    main_from number (two ∷ others) ≡ main_from number (one ∷ methods)
main_same number one two methods others names counts gives rest =
    let test : List ℕ → ℕ → Bool → Bool =
    λ name count b. bytes_eq name (codes "main") && (count == 0 && not b) in
    let found : Bool → Option MethodId → Option MethodId =
    λ b behind. if b then Some (record { 0 = number }) else behind in
    ap (λ t. found (test t (length two.params) (has_result two.result)) (main_from (suc number) others)) names
    ∙ ap (λ k. found (test one.name.text k (has_result two.result)) (main_from (suc number) others)) counts
    ∙ ap (λ b. found (test one.name.text (length one.params) b) (main_from (suc number) others)) gives
    ∙ ap (λ m. found (is_main one) m) rest

pub methods_back : (laws : Laws) (principals : Declared) → IsDeclared principals → (globals others : List Global) →
    SameGlobals globals others → (program : ProgramTree) →
    GlobalsAre (record { principals = principals; program = program }) globals → (number seen : ℕ)
    (before methods : List MethodShape) (trees : List MethodTree) → seen ≡ counted variables_in before →
    MethodsStand principals globals program number before methods trees →
    MethodsMade principals others program number seen before methods trees
methods_back laws principals declared globals others same program globals_are number seen before [] trees seen_is
    stands =
    let Q : List MethodTree → Type 0 = λ ts. MethodsMade principals others program number seen before [] ts in
    subst Q (sym stands.are) (record {
      printable = tt;
      named = tt;
      alike = tt;
      back = λ fresh_before counts lines at. record {
        again = [];
        are = refl;
        same = refl;
        clean = refl;
        vars = tt;
        alike = tt;
        main = refl;
      };
    })
methods_back laws principals declared globals others same program globals_are number seen before (method ∷ methods)
    trees
    seen_is stands =
    let naming : Naming = record { principals = principals; program = program } in
    let own : MethodId = record { 0 = number } in
    let t = stands.are.0 in
    let ts = stands.are.1 in
    let s = setting_of principals globals method in
    let first : ℕ = counted variables_in before in
    let faults = none_in_two (method_faults s (head_after before) method)
    (methods_faults principals globals (before ++ method ∷ []) methods) stands.clean in
    let own_variables : List VariableShape = method_variables own method in
    let later : List VariableShape = variables_from (suc number) methods in
    let long : length own_variables ≡ variables_in method = variables_long own method in
    let made = method_back laws principals declared globals others same program globals_are own before method t
    stands.are.3 faults.0 (vars_front naming first own_variables later stands.vars) stands.named.0 stands.returns.0 in
    let after : ℕ = seen_after_method seen t in
    let after_is : after ≡ counted variables_in (before ++ method ∷ []) =
    ap (λ k. seen_after_method k t) seen_is ∙ made.seen ∙ sym (counted_more variables_in before method) in
    let rest = methods_back laws principals declared globals others same program globals_are (suc number) after
    (before ++ method ∷ []) methods ts after_is (record {
      are = stands.are.4;
      clean = faults.1;
      vars = subst (λ k. VarsAre naming k later)
          (ap (λ k. first + k) long ∙ sym (counted_more variables_in before method))
          (vars_behind naming first own_variables later stands.vars);
      named = stands.named.1;
      returns = stands.returns.1;
    }) in
    let Q : List MethodTree → Type 0 =
    λ xs. MethodsMade principals others program number seen before (method ∷ methods) xs in
    subst Q (sym stands.are.2) (record {
      printable = (made.printable, rest.printable);
      named = (
        subst (λ k. IsNamedItem (phrase.method (method_phrase naming k t))) (sym seen_is) made.named,
        rest.named,
      );
      alike = (subst (λ k. MethodAlike naming method (method_phrase naming k t)) (sym seen_is) made.alike, rest.alike);
      back = λ fresh_before counts lines at.
          (let own_phrase = method_phrase naming seen t in
          let fresh : MethodShape = method_at lines at own_phrase in
          let next : ℕ = after_item at (phrase.method own_phrase) in
          let F : ℕ → Type 0 = λ k.
          MethodFresh principals others program own (head_after before) method t
          (method_at lines at (method_phrase naming k t)) in
          let one : MethodFresh principals others program own (head_after before) method t fresh =
          subst F (sym seen_is) (made.back lines at) in
          let variables : variables_in fresh ≡ variables_in method =
          ap (λ k. k + length (locals_in fresh.body) + (if has_result fresh.result then 1 else 0)) one.params
          ∙ ap (λ k. length method.params + k + (if has_result fresh.result then 1 else 0)) one.locals
          ∙ ap (λ b. length method.params + length (locals_in method.body) + (if b then 1 else 0)) one.gives in
          let counts_after : SameCounts (before ++ method ∷ []) (fresh_before ++ fresh ∷ []) = record {
            variables = counted_more variables_in fresh_before fresh
                ∙ ap (λ k. k + variables_in fresh) counts.variables ∙ ap (λ k. first + k) variables
                ∙ sym (counted_more variables_in before method);
            numbered = counted_more numbered_in fresh_before fresh
                ∙ ap (λ k. k + numbered_in fresh) counts.numbered
                ∙ ap (λ k. counted numbered_in before + (1 + k)) one.statements
                ∙ sym (counted_more numbered_in before method);
            calls = counted_more (λ m. calls_in m.body) fresh_before fresh
                ∙ ap (λ k. k + calls_in fresh.body) counts.calls
                ∙ ap (λ k. counted (λ m. calls_in m.body) before + k) one.calls
                ∙ sym (counted_more (λ m. calls_in m.body) before method);
          } in
          let back = rest.back (fresh_before ++ fresh ∷ []) counts_after lines next in
          let left : List MethodShape = methods_at lines next (methods_phrases naming after ts) in
          let head : head_after fresh_before ≡ head_after before = head_same before fresh_before counts in
          let fresh_long : length (method_variables own fresh) ≡ variables_in method =
          variables_long own fresh ∙ variables in
          record {
            again = one.again ∷ back.again;
            are = (
              one.again,
              back.again,
              refl,
              subst (λ h. IsMethodFor (setting_of principals others fresh) h fresh one.again) (sym head) one.is,
              back.are,
            );
            same = ap (λ m. m ∷ map method_without_lines back.again) one.same
                ∙ ap (λ ms. method_without_lines t ∷ ms) back.same;
            clean = none_joined _ _
                (subst (λ h. method_faults (setting_of principals others fresh) h fresh ≡ []) (sym head) one.clean)
                back.clean;
            vars = vars_joined naming first (method_variables own fresh) (variables_from (suc number) left) one.vars
                (subst (λ k. VarsAre naming k (variables_from (suc number) left))
                (counted_more variables_in before method ∙ ap (λ k. first + k) (sym fresh_long)) back.vars);
            alike = alike_joined own_variables (method_variables own fresh) later (variables_from (suc number) left)
                (alike_joined
                (map (param_variable own) method.params ++ map (local_variable own) (locals_in method.body))
                (map (param_variable own) fresh.params ++ map (local_variable own) (locals_in fresh.body))
                (result_variables own method.result) (result_variables own fresh.result)
                (alike_joined (map (param_variable own) method.params) (map (param_variable own) fresh.params)
                (map (local_variable own) (locals_in method.body)) (map (local_variable own) (locals_in fresh.body))
                (params_alike own method.params fresh.params (sym one.params))
                (locals_alike own (locals_in method.body) (locals_in fresh.body) (sym one.locals)))
                (result_alike own method.result fresh.result (sym one.gives))) back.alike;
            main = main_same number method fresh methods left one.name one.params one.gives back.main;
          });
    })

-- ---- programs

methods_behind : (principals : Declared) (lines : ℕ → ℕ) (fields : List FieldTree) (after : ProgramPhrase) (at : ℕ) →
    (k : ℕ) × (methods_at lines at (fields_phrases principals fields ++ after) ≡ methods_at lines k after)
methods_behind principals lines [] after at = (at, refl)
methods_behind principals lines (field ∷ fields) after at =
    methods_behind principals lines fields after (after_item at (phrase.field (field_phrase principals field)))

labels_clean : (principals : Declared) (fields : List FieldShape) (trees : List FieldTree) →
    AllZip (IsFieldFor principals) fields trees → flat_map (λ field. label_faults principals field.label) fields ≡ []
labels_clean principals [] trees are = refl
labels_clean principals (field ∷ fields) [] are = absurd are
labels_clean principals (field ∷ fields) (tree ∷ trees) are =
    none_joined (label_faults principals field.label) (flat_map (λ field. label_faults principals field.label) fields)
    (label_clean principals field.label tree.label are.0.label) (labels_clean principals fields trees are.1)

abbrev pub IsSmallFirst : ℤ → Type 0
IsSmallFirst (pos n) = IsSmall n
IsSmallFirst (negsuc n) = IsSmall (suc n)

pub record IsNamedField (field : FieldShape) : Type 0 where
  pub name : IsName field.name.text
  pub size : IsSmall field.size
  pub first : IsSmallFirst field.first

end_named : (array : Bool) (size : ℕ) (first : ℤ) → IsSmall size → IsSmallFirst first →
    IsNamedEnd (field_end_phrase array size first)
end_named true size first one two = one
end_named false size (pos zero) one two = tt
end_named false size (pos (suc n)) one two = two
end_named false size (negsuc n) one two = two

fields_named_so : (principals : Declared) → IsDeclared principals → (fields : List FieldShape) (trees : List FieldTree)
    (after : ProgramPhrase) → AllZip (IsFieldFor principals) fields trees → AllByRecursion IsNamedField fields →
    IsNamedProgram after → IsNamedProgram (fields_phrases principals trees ++ after)
fields_named_so principals declared [] [] after are named rest = rest
fields_named_so principals declared [] (tree ∷ trees) after are named rest = absurd are
fields_named_so principals declared (field ∷ fields) [] after are named rest = absurd are
fields_named_so principals declared (field ∷ fields) (tree ∷ trees) after are named rest = (
  (
    label_named principals tree.label declared,
    subst IsName (sym are.0.name) named.0.name,
    end_named tree.array tree.size tree.first (subst IsSmall (sym are.0.size) named.0.size)
        (subst IsSmallFirst (sym are.0.first) named.0.first),
  ),
  fields_named_so principals declared fields trees after are.1 named.1 rest,
)

fields_some : (principals : Declared) (fields : List FieldShape) (trees : List FieldTree) →
    AllZip (IsFieldFor principals) fields trees → ArePlainFields fields → HasElements trees
fields_some principals [] [] are plain = tt
fields_some principals [] (tree ∷ trees) are plain = absurd are
fields_some principals (field ∷ fields) [] are plain = absurd are
fields_some principals (field ∷ fields) (tree ∷ trees) are plain =
    (subst (λ n. 0 < n) (sym are.0.size) plain.0.some, fields_some principals fields trees are.1 plain.1)

from_start : {X : Type 0} (all : List X) (i : ℕ) (item : X) → slice_get all i ≡ Some item →
    slice_get all (0 + i) ≡ Some item
from_start all i item is = (let same : 0 + i ≡ i = omega arith in ap (slice_get all) same) ∙ is

both_are : (naming : Naming) (gs hs : List Global) → GlobalsAre naming gs → GlobalsAre naming hs →
    GlobalsAre naming (gs ++ hs)
both_are naming [] hs one two = two
both_are naming (g ∷ gs) hs one two = (one.0, both_are naming gs hs one.1 two)

-- what is asked of a draft
pub record IsPrintableDraft (draft : DraftShape) : Type 0 where
  pub apart : AllApart (globals_of draft)
  pub plain : ArePlainFields draft.fields
  pub fields : AllByRecursion IsNamedField draft.fields
  pub methods : AllByRecursion IsNamedMethod draft.methods
  pub returns : AllByRecursion (λ method. ReturnsLast method.body) draft.methods

pub record ProgramFresh (principals : Declared) (tree : ProgramTree) (draft : DraftShape) : Type 0 where
  pub again : ProgramTree
  pub is : IsProgramOf principals draft again
  pub same : without_lines again ≡ without_lines tree

pub record ProgramMade (principals : Declared) (draft : DraftShape) (tree : ProgramTree) : Type 0 where
  pub printable : AllByRecursion (IsPrintable (record { principals = principals; program = tree })) tree.methods
  pub named : IsNamedProgram (program_phrase principals tree)
  pub some : HasElements tree.fields
  pub alike : MethodsAlike (record { principals = principals; program = tree }) draft.methods
      (methods_phrases (record { principals = principals; program = tree }) 0 tree.methods)
  pub back : (lines : ℕ → ℕ) → ProgramFresh principals tree (draft_of lines (program_phrase principals tree))

pub program_back : (laws : Laws) (principals : Declared) → IsDeclared principals → (draft : DraftShape)
    (tree : ProgramTree) → IsPrintableDraft draft → IsProgramOf principals draft tree →
    ProgramMade principals draft tree
program_back laws principals declared draft tree asked is =
    let naming : Naming = record { principals = principals; program = tree } in
    let globals : List Global = globals_of draft in
    let items : ProgramPhrase = methods_phrases naming 0 tree.methods in
    let program : ProgramPhrase = program_phrase principals tree in
    let faults = none_in_three (flat_map (λ global. global_faults globals global.name) globals)
    (flat_map (λ field. label_faults principals field.label) draft.fields)
    (methods_faults principals globals [] draft.methods) is.no_faults in
    let distinct : Distinct globals = distinct_names globals asked.apart faults.0 in
    let globals_are : GlobalsAre naming globals =
    both_are naming (fields_from 0 draft.fields) (methods_from 0 draft.methods)
    (fields_named naming principals 0 draft.fields tree.fields is.is_tree.fields (from_start tree.fields))
    (methods_named naming principals globals 0 [] draft.methods tree.methods is.is_tree.methods
    (from_start tree.methods)) in
    let fresh_fields : List FieldShape = fields_at 0 program in
    let fields : AllZip (IsFieldFor principals) fresh_fields tree.fields =
    fields_back laws principals declared draft.fields tree.fields is.is_tree.fields asked.plain items
    (no_fields_after naming 0 tree.methods) 0 in
    let place : (ℕ → ℕ) → ℕ = λ lines. (methods_behind principals lines tree.fields items 0).0 in
    let fresh_methods : (ℕ → ℕ) → List MethodShape = λ lines. methods_at lines (place lines) items in
    let others : (ℕ → ℕ) → List Global =
    λ lines. fields_from 0 fresh_fields ++ methods_from 0 (fresh_methods lines) in
    let each : (lines : ℕ → ℕ) → SameEach globals (others lines) =
    λ lines. each_joined (fields_from 0 draft.fields) (fields_from 0 fresh_fields) (methods_from 0 draft.methods)
    (methods_from 0 (fresh_methods lines))
    (fields_same principals 0 draft.fields fresh_fields tree.fields is.is_tree.fields fields)
    (methods_same principals globals naming lines 0 [] draft.methods tree.methods is.is_tree.methods 0 (place lines)) in
    let stands : MethodsStand principals globals tree 0 [] draft.methods tree.methods = record {
      are = is.is_tree.methods;
      clean = faults.2;
      vars = own_vars principals naming refl 0 (variables_from 0 draft.methods) tree.vars is.is_tree.vars
          (from_start tree.vars);
      named = asked.methods;
      returns = asked.returns;
    } in
    let made : (lines : ℕ → ℕ) → MethodsMade principals (others lines) tree 0 0 [] draft.methods tree.methods =
    λ lines. methods_back laws principals declared globals (others lines)
    (globals_same globals (others lines) distinct (each lines)) tree globals_are 0 0 [] draft.methods tree.methods refl
    stands in
    let no_lines : ℕ → ℕ = λ n. 0 in
    record {
      printable = (made no_lines).printable;
      named = fields_named_so principals declared draft.fields tree.fields items is.is_tree.fields asked.fields
          (made no_lines).named;
      alike = (made no_lines).alike;
      some = fields_some principals draft.fields tree.fields is.is_tree.fields asked.plain;
      back = λ lines.
          (let back = (made lines).back [] (record { variables = refl; numbered = refl; calls = refl }) lines
          (place lines) in
          let again : ProgramTree = record tree { methods = back.again } in
          let F : List MethodShape → Type 0 = λ methods.
          (let fresh : DraftShape = record { fields = fresh_fields; methods = methods } in
          ProgramFresh principals tree fresh) in
          subst F (sym (methods_behind principals lines tree.fields items 0).1) (record {
            again = again;
            is = record {
              no_faults = three_joined _ _ _ (globals_clean globals (others lines) distinct (each lines))
                  (labels_clean principals fresh_fields tree.fields fields) back.clean;
              is_tree = record {
                fields = fields;
                vars = vars_back principals naming refl 0 (variables_from 0 draft.methods)
                    (variables_from 0 (fresh_methods lines)) tree.vars is.is_tree.vars (from_start tree.vars) back.alike
                    back.vars;
                methods = back.are;
                main = back.main ∙ is.is_tree.main;
              };
            };
            same = ap (λ ms. (let one : ProgramTree = record tree { methods = ms } in one)) back.same;
          }));
    }
