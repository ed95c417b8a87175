-- A program that was read and resolved has the names of its tokens.
use Rattle.std.proofs.Common.{◌≡◌, ℕ, suc, ◌+◌, ◌<◌, ◌≤◌, codes, List, [], ◌∷◌, ◌++◌, map, length, Option, Some, None}
use Rattle.std.proofs.Common.{inl, inr, refl, sym, subst, arith}
use Rattle.std.specs.Prelude.{◌⊎◌, All}
use Rattle.std.specs.List.{AllZip, AllByRecursion}
use Rattle.std.proofs.lemmas.List.Elements.{All-nil, All-cons, All-append, All-from_recursion}
use Rattle.js_base.specs.declared.ids.MethodId.{MethodId}
use Rattle.principals.specs.ActsFor.{Declared}
use Rattle.jif_lex.specs.declared.token.Token.{Token}
use Rattle.jif_lex.specs.TokenLists.{AreTokens}
use Rattle.jif_tree.specs.Trees.{FieldTree, VarTree, ProgramTree}
use Rattle.jif_tree.specs.Named.{IsNameInText, IsNamedVariable, AreNamed}
use Rattle.jif_grammar.specs.DraftShapes.{LabelShape, BlockShape, end_shape, declaration_shape, assignment_shape}
use Rattle.jif_grammar.specs.DraftShapes.{element_assignment_shape, branch_shape, loop_shape, call_shape}
use Rattle.jif_grammar.specs.DraftShapes.{return_shape, FieldShape, ParamShape, MethodShape, DraftShape}
use Rattle.jif_grammar.specs.Programs as grammar
use Rattle.jif_grammar.specs.Programs.{line_at}
use Rattle.jif_resolve.specs.AddedVariables.{param_variable, local_variable}
use Rattle.jif_resolve.specs.Counts.{LocalShape, locals_in}
use Rattle.jif_resolve.specs.Meanings.{globals_of}
use Rattle.jif_resolve.specs.Resolved.{IsFieldFor, IsVariableFor}
use Rattle.jif_resolve.specs.Variables.{VariableShape, result_variables, method_variables, variables_from}
use Rattle.jif_resolve.specs.Verdicts.{IsProgramOf}
use Rattle.jif_resolve.proofs.EachMethod.{each_method, method_count}
use Rattle.jif_parse.proofs.PrintedAlike.{IsNamedBlockShape}
use Rattle.jif_parse.proofs.PrintedBackMethods.{AreNamedParams, IsNamedMethod}
use Rattle.jif_parse.proofs.PrintedNamesOf.{StartsSmall, phrases_found}

-- ---- fields

abbrev IsNamedField : FieldTree → Type 0
IsNamedField field = IsNameInText field.name

named_fields : (principals : Declared) (fields : List FieldShape) (trees : List FieldTree) →
    AllZip (IsFieldFor principals) fields trees → AllByRecursion StartsSmall fields → All IsNamedField trees
named_fields principals [] [] are named = All-nil IsNamedField
named_fields principals [] (tree ∷ trees) are named = absurd are
named_fields principals (field ∷ fields) [] are named = absurd are
named_fields principals (field ∷ fields) (tree ∷ trees) are named =
    All-cons IsNamedField tree trees (subst IsNameInText (sym are.0.name) named.0.0)
    (named_fields principals fields trees are.1 named.1)

-- ---- variables

-- it has a name or is a result, and belongs to one of so many methods
abbrev IsNamedAmong : ℕ → VariableShape → Type 0
IsNamedAmong count variable =
    (IsNameInText variable.name ⊎ (variable.name ≡ codes "return")) × (variable.method.0 < count)

params_among : (count : ℕ) (own : MethodId) → own.0 < count → (params : List ParamShape) → AreNamedParams params →
    All (IsNamedAmong count) (map (param_variable own) params)
params_among count own among [] named = All-nil (IsNamedAmong count)
params_among count own among (param ∷ params) named =
    All-cons (IsNamedAmong count) (param_variable own param) (map (param_variable own) params) (inl named.0, among)
    (params_among count own among params named.1)

abbrev HasName : LocalShape → Type 0
HasName local = IsNameInText local.name.text

locals_named : (block : BlockShape) → IsNamedBlockShape block → All HasName (locals_in block)
locals_named end_shape named = All-nil HasName
locals_named (declaration_shape start label name value rest) named =
    All-cons HasName (record { name = name; label = label }) (locals_in rest) named.0 (locals_named rest named.2)
locals_named (assignment_shape start name value rest) named = locals_named rest named.2
locals_named (element_assignment_shape start name index value rest) named = locals_named rest named.3
locals_named (branch_shape start guard first second rest) named =
    All-append HasName (locals_in first ++ locals_in second) (locals_in rest)
    (All-append HasName (locals_in first) (locals_in second) (locals_named first named.1) (locals_named second named.2))
    (locals_named rest named.3)
locals_named (loop_shape start guard body rest) named =
    All-append HasName (locals_in body) (locals_in rest) (locals_named body named.1) (locals_named rest named.2)
locals_named (call_shape start name args into rest) named = locals_named rest named.3
locals_named (return_shape start value rest) named = locals_named rest named.1

locals_among : (count : ℕ) (own : MethodId) → own.0 < count → (locals : List LocalShape) → All HasName locals →
    All (IsNamedAmong count) (map (local_variable own) locals)
locals_among count own among [] named = All-nil (IsNamedAmong count)
locals_among count own among (local ∷ locals) named =
    All-cons (IsNamedAmong count) (local_variable own local) (map (local_variable own) locals)
    (inl (named 0 local (omega arith)), among)
    (locals_among count own among locals (λ k d within. named (suc k) d (omega arith)))

result_among : (count : ℕ) (own : MethodId) → own.0 < count → (result : Option LabelShape) →
    All (IsNamedAmong count) (result_variables own result)
result_among count own among None = All-nil (IsNamedAmong count)
result_among count own among (Some label) =
    All-cons (IsNamedAmong count) (record { method = own; name = codes "return"; label = Some label }) []
    (inr refl, among) (All-nil (IsNamedAmong count))

method_among : (count : ℕ) (own : MethodId) → own.0 < count → (method : MethodShape) → IsNamedMethod method →
    All (IsNamedAmong count) (method_variables own method)
method_among count own among method named =
    let params : List VariableShape = map (param_variable own) method.params in
    let locals : List VariableShape = map (local_variable own) (locals_in method.body) in
    All-append (IsNamedAmong count) (params ++ locals) (result_variables own method.result)
    (All-append (IsNamedAmong count) params locals (params_among count own among method.params named.1)
    (locals_among count own among (locals_in method.body) (locals_named method.body named.3)))
    (result_among count own among method.result)

variables_among : (count number : ℕ) (methods : List MethodShape) → number + length methods ≤ count →
    AllByRecursion IsNamedMethod methods → All (IsNamedAmong count) (variables_from number methods)
variables_among count number [] within named = All-nil (IsNamedAmong count)
variables_among count number (method ∷ methods) within named =
    let own : MethodId = record { 0 = number } in
    All-append (IsNamedAmong count) (method_variables own method) (variables_from (suc number) methods)
    (method_among count own (omega arith) method named.0)
    (variables_among count (suc number) methods (omega arith) named.1)

named_variables : (principals : Declared) (program : ProgramTree) (variables : List VariableShape)
    (trees : List VarTree) → AllZip (IsVariableFor principals) variables trees →
    All (IsNamedAmong (length program.methods)) variables → All (IsNamedVariable program) trees
named_variables principals program [] [] are named = All-nil (IsNamedVariable program)
named_variables principals program [] (tree ∷ trees) are named = absurd are
named_variables principals program (variable ∷ variables) [] are named = absurd are
named_variables principals program (variable ∷ variables) (tree ∷ trees) are named =
    let own = named 0 variable (omega arith) in
    All-cons (IsNamedVariable program) tree trees (record {
      name = subst (λ name. IsNameInText name ⊎ (name ≡ codes "return")) (sym are.0.name) own.0;
      method = subst (λ method. method.0 < length program.methods) (sym are.0.method) own.1;
    })
    (named_variables principals program variables trees are.1 (λ k d within. named (suc k) d (omega arith)))

-- ---- programs

abbrev IsNamedDraft : DraftShape → Type 0
IsNamedDraft draft = AllByRecursion StartsSmall draft.fields × AllByRecursion IsNamedMethod draft.methods

pub draft_named : (list : List Token) (draft : DraftShape) → AreTokens list → grammar.IsProgramOf list draft →
    IsNamedDraft draft
draft_named list draft fits is_program =
    subst IsNamedDraft (sym is_program.draft_is)
    (phrases_found list is_program.program fits is_program.text.spells (line_at list))

pub program_named : (list : List Token) (principals : Declared) (draft : DraftShape) (tree : ProgramTree) →
    AreTokens list → grammar.IsProgramOf list draft → IsProgramOf principals draft tree →
    AreNamed tree
program_named list principals draft tree fits is_program resolved =
    let named = draft_named list draft fits is_program in
    let is = resolved.is_tree in
    let globals = globals_of draft in
    let many = method_count principals globals [] draft.methods tree.methods is.methods in
    record {
      fields = named_fields principals draft.fields tree.fields is.fields named.0;
      variables = named_variables principals tree (variables_from 0 draft.methods) tree.vars is.vars
          (variables_among (length tree.methods) 0 draft.methods (omega arith) named.1);
      methods = each_method IsNamedMethod _ principals globals
          (λ head method one made own. subst IsNameInText (sym made.name) own.0)
          [] draft.methods tree.methods is.methods (All-from_recursion IsNamedMethod draft.methods named.1);
    }
