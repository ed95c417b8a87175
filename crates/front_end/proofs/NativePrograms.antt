-- A program of the code that is seen as the tree of a program that was read.
use Rattle.std.proofs.Common.{◌≡◌, ℕ, suc, ◌<◌, ◌≤◌, ◌^◌, List, [], ◌∷◌, map, length}
use Rattle.std.proofs.Common.{ap, ◌∙◌, sym, subst, arith, rules, Global, String, string_bytes, ⊎_elim, All}
use Rattle.std.specs.Prelude.{◌⊎◌, codes}
use Rattle.std.proofs.lemmas.Str.{IsUtf8-from_ascii}
use Rattle.std.specs.List.{AllByRecursion, flat_map}
use Rattle.std.proofs.lemmas.List.{length-append}
use Rattle.std.proofs.lemmas.List.Elements.{recursion_from_All}
use Rattle.js_base.specs.declared.ids.MethodId.{MethodId}
use Rattle.js_base.specs.declared.limits.TheConstants.{PROGRAM_BYTES, STATEMENTS, PARAMETERS}
use Rattle.js_base.proofs.NameTexts.{name_IsUtf8}
use Rattle.jif_tree.specs.Limits.{IsWithinLimits}
use Rattle.jif_tree.specs.Named.{IsNameInText, IsNamedVariable, AreNamed}
use Rattle.jif_tree.specs.Numbering.{block_statements}
use Rattle.jif_tree.specs.Trees.{FieldTree, VarTree, MethodTree, ProgramTree, field_tree, var_tree, method_tree}
use Rattle.jif_tree.specs.Trees.{program_tree, block_tree, BlockTree}
use Rattle.jif_tree.specs.WellNumbered.{AreMethodsIn, IsMethodIn, IsWellNumbered, is_some}
use Rattle.front_end.proofs.NativeBlocks.{block_seen}
use Rattle.front_end.proofs.NativeParts.{IsSeen, vector, text_seen, vector_seen}

-- ---- items

name_seen : (text : List ℕ) → IsNameInText text → IsSeen {X = String Global} string_bytes text
name_seen text is = text_seen text (name_IsUtf8 text is.name) (omega (arith, is.short))

return_seen : (text : List ℕ) → text ≡ codes "return" → IsSeen {X = String Global} string_bytes text
return_seen text is =
    subst (IsSeen {X = String Global} string_bytes) (sym is)
    (text_seen (codes "return") (IsUtf8-from_ascii (codes "return") (search rules)) (omega arith))

field_seen : (field : FieldTree) → IsNameInText field.name → IsSeen field_tree field
field_seen field named =
    let name = name_seen field.name named in (
      record {
        name = name.0;
        label = field.label;
        size = field.size;
        array = field.array;
        first = field.first;
      },
      ap (λ text. record {
        name = text;
        label = field.label;
        size = field.size;
        array = field.array;
        first = field.first;
      }) name.1,
    )

variable_seen : (variable : VarTree) → IsNameInText variable.name ⊎ (variable.name ≡ codes "return") →
    IsSeen var_tree variable
variable_seen variable named =
    let name = ⊎_elim (name_seen variable.name) (return_seen variable.name) named in (
      record { method = variable.method; name = name.0; label = variable.label },
      ap (λ text. record { method = variable.method; name = text; label = variable.label }) name.1,
    )

-- ---- methods

-- a method whose parts are short
pub record IsShortMethod (method : MethodTree) : Type 0 where
  pub name : IsNameInText method.name
  pub params : length method.params ≤ PARAMETERS
  pub authority : length method.authority ≤ PROGRAM_BYTES
  pub statements : length (block_statements method.body) ≤ STATEMENTS

method_seen : (program : ProgramTree) → IsWithinLimits program → (number : MethodId) (method : MethodTree) →
    IsMethodIn program number method → IsShortMethod method → IsSeen method_tree method
method_seen program within number method is short =
    let name = name_seen method.name short.name in
    let body = block_seen program within number (is_some method.result) method.body is.body short.statements in
    let named : List ℕ → BlockTree → MethodTree =
    λ text block. record {
      name = text;
      begin = method.begin;
      params = method.params;
      result = method.result;
      authority = method.authority;
      head = method.head;
      line = method.line;
      body = block;
    } in (
      record {
        name = name.0;
        begin = method.begin;
        params = vector method.params (omega (arith, short.params));
        result = method.result;
        authority = vector method.authority (omega (arith, short.authority));
        head = method.head;
        line = method.line;
        body = vector body.statements (omega (arith, body.few, short.statements));
      },
      ap (λ text. named text (block_tree body.statements)) name.1 ∙ ap (named method.name) body.is,
    )

methods_seen : (program : ProgramTree) → IsWithinLimits program → (first : ℕ) (methods : List MethodTree) →
    AreMethodsIn program first methods → AllByRecursion IsShortMethod methods →
    AllByRecursion (IsSeen method_tree) methods
methods_seen program within first [] are short = tt
methods_seen program within first (method ∷ methods) are short = (
  method_seen program within (record { 0 = first }) method are.0 short.0,
  methods_seen program within (suc first) methods are.1 short.1,
)

short_methods : (methods : List MethodTree) → AllByRecursion (λ method. IsNameInText method.name) methods →
    AllByRecursion (λ method. length method.params ≤ PARAMETERS) methods →
    AllByRecursion (λ method. length method.authority ≤ PROGRAM_BYTES) methods →
    length (flat_map (λ method. method.head.0 ∷ block_statements method.body) methods) ≤ STATEMENTS →
    AllByRecursion IsShortMethod methods
short_methods [] names params authority statements = tt
short_methods (method ∷ methods) names params authority statements =
    let both =
    length-append (method.head.0 ∷ block_statements method.body)
    (flat_map (λ method. method.head.0 ∷ block_statements method.body) methods) in (
      record {
        name = names.0;
        params = params.0;
        authority = authority.0;
        statements = omega (arith, both, statements);
      },
      short_methods methods names.1 params.1 authority.1 (omega (arith, both, statements)),
    )

-- ---- programs

fields_seen : (fields : List FieldTree) → AllByRecursion (λ field. IsNameInText field.name) fields →
    AllByRecursion (IsSeen field_tree) fields
fields_seen [] named = tt
fields_seen (field ∷ fields) named = (field_seen field named.0, fields_seen fields named.1)

variables_seen : (program : ProgramTree) (variables : List VarTree) →
    AllByRecursion (IsNamedVariable program) variables → AllByRecursion (IsSeen var_tree) variables
variables_seen program [] named = tt
variables_seen program (variable ∷ variables) named =
    (variable_seen variable named.0.name, variables_seen program variables named.1)

-- all lists of a program are short, and its names can be held
pub record IsShortProgram (program : ProgramTree) : Type 0 where
  pub named : AreNamed program
  pub within : IsWithinLimits program
  pub numbered : IsWellNumbered program
  pub variables : length program.vars < 2 ^ 63
  pub authorities : All (λ method. length method.authority ≤ PROGRAM_BYTES) program.methods

-- there is a program of the code with this tree
pub program_seen : (program : ProgramTree) → IsShortProgram program → IsSeen program_tree program
program_seen program short =
    let fields = vector_seen field_tree program.fields (omega (arith, short.within.fields))
    (fields_seen program.fields
    (recursion_from_All (λ field. IsNameInText field.name) program.fields short.named.fields)) in
    let variables = vector_seen var_tree program.vars short.variables (variables_seen program program.vars
    (recursion_from_All (IsNamedVariable program) program.vars short.named.variables)) in
    let methods = vector_seen method_tree program.methods (omega (arith, short.within.methods))
    (methods_seen program short.within 0 program.methods short.numbered.methods
    (short_methods program.methods
    (recursion_from_All (λ method. IsNameInText method.name) program.methods short.named.methods)
    (recursion_from_All (λ method. length method.params ≤ PARAMETERS) program.methods short.within.params)
    (recursion_from_All (λ method. length method.authority ≤ PROGRAM_BYTES) program.methods short.authorities)
    short.within.statements)) in
    let of_fields : List FieldTree → ProgramTree =
    λ x. record {
      fields = x;
      vars = map var_tree variables.0.items;
      methods = map method_tree methods.0.items;
      main = program.main;
    } in
    let of_vars : List VarTree → ProgramTree =
    λ x. record { fields = program.fields; vars = x; methods = map method_tree methods.0.items; main = program.main } in
    let of_methods : List MethodTree → ProgramTree =
    λ x. record { fields = program.fields; vars = program.vars; methods = x; main = program.main } in (
      record { fields = fields.0; vars = variables.0; methods = methods.0; main = program.main },
      ap of_fields fields.1 ∙ ap of_vars variables.1 ∙ ap of_methods methods.1,
    )
