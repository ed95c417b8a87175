-- The phrases that a program is printed as.
use Rattle.std.proofs.Common.{◌+◌, ◌≡◌, ◌≤◌, ◌<◌, ℕ, zero, suc, ℤ, pos, negsuc, Bool, true, false, List, [], ◌∷◌}
use Rattle.std.proofs.Common.{◌++◌, map, Option, Some, None, refl, arith}
use Rattle.std.specs.Prelude.{nat_lt, if◌then◌else◌, ⊤}
use Rattle.std.proofs.lemmas.Bool.Decides.{nat_tests}
use Rattle.js_base.specs.declared.ids.VarId.{VarId}
use Rattle.js_base.specs.declared.binary_operator.BinOp.{BinOp}
use Rattle.js_base.specs.declared.binary_operator.BinOp.TheVariants as operators
use Rattle.principals.specs.ActsFor.{Declared}
use Rattle.label_lattice.specs.declared.label.Label.{Label}
use Rattle.label_lattice.specs.Written.{Part, TrustIsLast}
use Rattle.label_lattice.specs.Printed.{each_where, printed_parts, printed_policy, trust_parts}
use Rattle.label_lattice.specs.Printed.{names_where, is_trusted_by, forbids_some}
use Rattle.jif_tree.specs.Trees as tree
use Rattle.jif_tree.specs.Trees.{ExprTree, BlockTree, done, set_local, set_field, set_element, branch, loop, call}
use Rattle.jif_tree.specs.Trees.{give_back, FieldTree, MethodTree, ProgramTree}
use Rattle.jif_grammar.specs.Phrases as phrase
use Rattle.jif_grammar.specs.Phrases.{LabelPhrase, ExprPhrase, BlockPhrase, FieldEnd, FieldPhrase, ParamPhrase}
use Rattle.jif_grammar.specs.Phrases.{MethodPhrase, ItemPhrase, ProgramPhrase}
use Rattle.jif_grammar.specs.Operators.{operator_level, tightest_level}
use Rattle.jif_grammar.specs.Grouping.{level, IsGrouped, AreGrouped, IsOptionalLabel, IsBlock, IsFieldEnd, AreParams}
use Rattle.jif_grammar.specs.Grouping.{IsResult, IsProgram}
use Rattle.jif_parse.specs.PrintedNames.{Naming, field_name, variable_name, variable_label, method_name, principal_name}
use Rattle.jif_parse.specs.PrintedExprs.{operand, parenthesized_where, expr_phrase}
use Rattle.jif_parse.specs.PrintedProgram.{seen_after, seen_behind, seen_in, seen_after_method, is_done}

-- ---- the phrases

abbrev pub label_phrase : Declared → Option Label → Option LabelPhrase
label_phrase principals None = None
label_phrase principals (Some label) = Some (printed_parts principals label)

-- of a parameter, which has a label
abbrev pub label_or_none : Declared → Option Label → LabelPhrase
label_or_none principals None = []
label_or_none principals (Some label) = printed_parts principals label

abbrev pub assigned_phrase : Bool → Option LabelPhrase → List ℕ → ExprPhrase → BlockPhrase → BlockPhrase
assigned_phrase true label name value rest = phrase.assignment name value rest
assigned_phrase false label name value rest = phrase.declaration label name value rest

abbrev pub branch_phrase : Bool → ExprPhrase → BlockPhrase → BlockPhrase → BlockPhrase → BlockPhrase
branch_phrase true guard first second rest = phrase.branch guard first rest
branch_phrase false guard first second rest = phrase.branch_else guard first second rest

abbrev pub call_phrase : Naming → Option VarId → List ℕ → List ExprPhrase → BlockPhrase → BlockPhrase
call_phrase naming None name args rest = phrase.call name args rest
call_phrase naming (Some into) name args rest = phrase.call_into (variable_name naming into) name args rest

-- the statements before a `return`
abbrev pub block_phrase : Naming → ℕ → BlockTree → BlockPhrase
block_phrase naming seen done = phrase.end
block_phrase naming seen (set_local heading x value rest) =
    assigned_phrase (nat_lt x.0 seen) (label_phrase naming.principals (variable_label naming x))
    (variable_name naming x)
    (expr_phrase naming value) (block_phrase naming (seen_after seen x) rest)
block_phrase naming seen (set_field heading field value rest) =
    phrase.assignment (field_name naming field) (expr_phrase naming value) (block_phrase naming seen rest)
block_phrase naming seen (set_element heading field index value rest) =
    phrase.element_assignment (field_name naming field) (expr_phrase naming index) (expr_phrase naming value)
    (block_phrase naming seen rest)
block_phrase naming seen (branch heading guard first second rest) =
    branch_phrase (is_done second) (expr_phrase naming guard) (block_phrase naming seen first)
    (block_phrase naming (seen_behind seen first) second)
    (block_phrase naming (seen_behind (seen_behind seen first) second) rest)
block_phrase naming seen (loop heading guard body rest) =
    phrase.loop (expr_phrase naming guard) (block_phrase naming seen body)
    (block_phrase naming (seen_behind seen body) rest)
block_phrase naming seen (call heading site method args into rest) =
    call_phrase naming into (method_name naming method) (map (expr_phrase naming) args) (block_phrase naming seen rest)
block_phrase naming seen (give_back heading value rest) = phrase.end

-- what a block returns
abbrev pub result_phrase : Naming → BlockTree → Option ExprPhrase
result_phrase naming done = None
result_phrase naming (set_local heading x value rest) = result_phrase naming rest
result_phrase naming (set_field heading field value rest) = result_phrase naming rest
result_phrase naming (set_element heading field index value rest) = result_phrase naming rest
result_phrase naming (branch heading guard first second rest) = result_phrase naming rest
result_phrase naming (loop heading guard body rest) = result_phrase naming rest
result_phrase naming (call heading site method args into rest) = result_phrase naming rest
result_phrase naming (give_back heading value rest) = Some (expr_phrase naming value)

abbrev pub first_phrase : ℤ → FieldEnd
first_phrase (pos zero) = phrase.unset
first_phrase (pos (suc n)) = phrase.set false (suc n)
first_phrase (negsuc n) = phrase.set true (suc n)

abbrev pub field_end_phrase : Bool → ℕ → ℤ → FieldEnd
field_end_phrase true size first = phrase.sized size
field_end_phrase false size first = first_phrase first

abbrev pub field_phrase : Declared → FieldTree → FieldPhrase
field_phrase principals field = record {
  label = printed_parts principals field.label;
  name = field.name;
  ending = field_end_phrase field.array field.size field.first;
}

abbrev pub param_phrase : Naming → VarId → ParamPhrase
param_phrase naming x =
    record { label = label_or_none naming.principals (variable_label naming x); name = variable_name naming x }

abbrev pub kind_phrase : Naming → Option VarId → Option LabelPhrase
kind_phrase naming None = None
kind_phrase naming (Some result) = Some (label_or_none naming.principals (variable_label naming result))

abbrev pub method_phrase : Naming → ℕ → MethodTree → MethodPhrase
method_phrase naming seen method = record {
  kind = kind_phrase naming method.result;
  name = method.name;
  begin = printed_parts naming.principals method.begin;
  params = map (param_phrase naming) method.params;
  authority = map (principal_name naming) method.authority;
  body = block_phrase naming (seen_in seen method) method.body;
  result = result_phrase naming method.body;
}

abbrev pub methods_phrases : Naming → ℕ → List MethodTree → List ItemPhrase
methods_phrases naming seen [] = []
methods_phrases naming seen (method ∷ methods) =
    phrase.method (method_phrase naming seen method)
    ∷ methods_phrases naming (seen_after_method seen method) methods

abbrev pub fields_phrases : Declared → List FieldTree → List ItemPhrase
fields_phrases principals fields = map (λ field. phrase.field (field_phrase principals field)) fields

abbrev pub program_phrase : Declared → ProgramTree → ProgramPhrase
program_phrase principals program =
    fields_phrases principals program.fields
    ++ methods_phrases (record { principals = principals; program = program }) 0 program.methods

-- ---- they are well grouped

trust_alone : (names : List (List ℕ)) → TrustIsLast (trust_parts names)
trust_alone [] = tt
trust_alone (name ∷ names) = refl

policies_first : (principals : Declared) (label : Label) (first : ℕ) (names : List (List ℕ)) (after : List Part) →
    TrustIsLast after →
    TrustIsLast (each_where (forbids_some label) (printed_policy principals label) first names ++ after)
policies_first principals label first [] after last = last
policies_first principals label first (name ∷ names) after last =
    by (forbids_some label first) (policies_first principals label (first + 1) names after last)
  where
    by : (b : Bool) →
        TrustIsLast (each_where (forbids_some label) (printed_policy principals label) (first + 1) names ++ after) →
        TrustIsLast ((if b then printed_policy principals label first name ∷ [] else [])
        ++ each_where (forbids_some label) (printed_policy principals label) (first + 1) names ++ after)
    by true one = one
    by false one = one

pub label_grouped : (principals : Declared) (label : Label) → TrustIsLast (printed_parts principals label)
label_grouped principals label =
    policies_first principals label 0 principals.names (trust_parts (names_where (is_trusted_by label) principals))
    (trust_alone (names_where (is_trusted_by label) principals))

-- an operand binds as tightly as it has to, where no more is asked than of what no operator makes
pub operand_level : (least : ℕ) (e : ExprPhrase) → least ≤ tightest_level → least ≤ level (operand least e)
unfolding operand
operand_level least e most = by (nat_lt (level e) least) refl
  where
    by : (b : Bool) → nat_lt (level e) least ≡ b → least ≤ level (parenthesized_where b e)
    by true is = most
    by false is = grind (arith, nat_tests)

pub operand_grouped : (least : ℕ) (e : ExprPhrase) → IsGrouped e → IsGrouped (operand least e)
unfolding operand
operand_grouped least e is = by (nat_lt (level e) least)
  where
    by : (b : Bool) → IsGrouped (parenthesized_where b e)
    by true = is
    by false = is

below_tightest : (o : BinOp) → suc (operator_level o) ≤ tightest_level
below_tightest o =
    elim o as (λ x. suc (operator_level x) ≤ tightest_level) [
      | operators.Or ↦ omega arith
      | _ ↦ omega arith
    ]

pub expr_grouped : (naming : Naming) (e : ExprTree) → IsGrouped (expr_phrase naming e)
expr_grouped naming (tree.number (pos n)) = tt
expr_grouped naming (tree.number (negsuc n)) = (omega arith, tt)
expr_grouped naming (tree.local x) = tt
expr_grouped naming (tree.scalar field) = tt
expr_grouped naming (tree.element field index) = expr_grouped naming index
expr_grouped naming (tree.inverted inner) = (
  operand_level tightest_level (expr_phrase naming inner) (omega arith),
  operand_grouped tightest_level (expr_phrase naming inner) (expr_grouped naming inner),
)
expr_grouped naming (tree.negated inner) = (
  operand_level tightest_level (expr_phrase naming inner) (omega arith),
  operand_grouped tightest_level (expr_phrase naming inner) (expr_grouped naming inner),
)
expr_grouped naming (tree.binary operator left right) =
    let below = below_tightest operator in (
      operand_level (operator_level operator) (expr_phrase naming left) (omega arith),
      operand_level (suc (operator_level operator)) (expr_phrase naming right) below,
      operand_grouped (operator_level operator) (expr_phrase naming left) (expr_grouped naming left),
      operand_grouped (suc (operator_level operator)) (expr_phrase naming right) (expr_grouped naming right),
    )
expr_grouped naming (tree.declassified inner label) = (expr_grouped naming inner, label_grouped naming.principals label)
expr_grouped naming (tree.endorsed inner label) = (expr_grouped naming inner, label_grouped naming.principals label)

args_grouped : (naming : Naming) (args : List ExprTree) → AreGrouped (map (expr_phrase naming) args)
args_grouped naming [] = tt
args_grouped naming (arg ∷ args) = (expr_grouped naming arg, args_grouped naming args)

optional_grouped : (principals : Declared) (label : Option Label) → IsOptionalLabel (label_phrase principals label)
optional_grouped principals None = tt
optional_grouped principals (Some label) = label_grouped principals label

or_none_grouped : (principals : Declared) (label : Option Label) → TrustIsLast (label_or_none principals label)
or_none_grouped principals None = tt
or_none_grouped principals (Some label) = label_grouped principals label

branch_grouped : (b : Bool) (guard : ExprPhrase) (first second rest : BlockPhrase) → IsGrouped guard → IsBlock first →
    IsBlock second → IsBlock rest → IsBlock (branch_phrase b guard first second rest)
branch_grouped true guard first second rest test one two behind = (test, one, behind)
branch_grouped false guard first second rest test one two behind = (test, one, two, behind)

pub block_grouped : (naming : Naming) (seen : ℕ) (block : BlockTree) → IsBlock (block_phrase naming seen block)
block_grouped naming seen done = tt
block_grouped naming seen (set_local heading x value rest) =
    by (nat_lt x.0 seen) (block_grouped naming (seen_after seen x) rest)
  where
    by : (b : Bool) → IsBlock (block_phrase naming (seen_after seen x) rest) →
        IsBlock (assigned_phrase b (label_phrase naming.principals (variable_label naming x)) (variable_name naming x)
        (expr_phrase naming value) (block_phrase naming (seen_after seen x) rest))
    by true behind = (expr_grouped naming value, behind)
    by false behind = (optional_grouped naming.principals (variable_label naming x), expr_grouped naming value, behind)
block_grouped naming seen (set_field heading field value rest) =
    (expr_grouped naming value, block_grouped naming seen rest)
block_grouped naming seen (set_element heading field index value rest) =
    (expr_grouped naming index, expr_grouped naming value, block_grouped naming seen rest)
block_grouped naming seen (branch heading guard first second rest) =
    branch_grouped (is_done second) (expr_phrase naming guard) (block_phrase naming seen first)
    (block_phrase naming (seen_behind seen first) second)
    (block_phrase naming (seen_behind (seen_behind seen first) second) rest) (expr_grouped naming guard)
    (block_grouped naming seen first) (block_grouped naming (seen_behind seen first) second)
    (block_grouped naming (seen_behind (seen_behind seen first) second) rest)
block_grouped naming seen (loop heading guard body rest) =
    (expr_grouped naming guard, block_grouped naming seen body, block_grouped naming (seen_behind seen body) rest)
block_grouped naming seen (call heading site method args None rest) =
    (args_grouped naming args, block_grouped naming seen rest)
block_grouped naming seen (call heading site method args (Some into) rest) =
    (args_grouped naming args, block_grouped naming seen rest)
block_grouped naming seen (give_back heading value rest) = tt

result_grouped : (naming : Naming) (block : BlockTree) → IsResult (result_phrase naming block)
result_grouped naming done = tt
result_grouped naming (set_local heading x value rest) = result_grouped naming rest
result_grouped naming (set_field heading field value rest) = result_grouped naming rest
result_grouped naming (set_element heading field index value rest) = result_grouped naming rest
result_grouped naming (branch heading guard first second rest) = result_grouped naming rest
result_grouped naming (loop heading guard body rest) = result_grouped naming rest
result_grouped naming (call heading site method args into rest) = result_grouped naming rest
result_grouped naming (give_back heading value rest) = expr_grouped naming value

params_grouped : (naming : Naming) (params : List VarId) → AreParams (map (param_phrase naming) params)
params_grouped naming [] = tt
params_grouped naming (x ∷ params) =
    (or_none_grouped naming.principals (variable_label naming x), params_grouped naming params)

kind_grouped : (naming : Naming) (result : Option VarId) → IsOptionalLabel (kind_phrase naming result)
kind_grouped naming None = tt
kind_grouped naming (Some x) = or_none_grouped naming.principals (variable_label naming x)

methods_grouped : (naming : Naming) (seen : ℕ) (methods : List MethodTree) →
    IsProgram (methods_phrases naming seen methods)
methods_grouped naming seen [] = tt
methods_grouped naming seen (method ∷ methods) = (
  (
    kind_grouped naming method.result,
    label_grouped naming.principals method.begin,
    params_grouped naming method.params,
    block_grouped naming (seen_in seen method) method.body,
    result_grouped naming method.body,
  ),
  methods_grouped naming (seen_after_method seen method) methods,
)

-- every array has an element
abbrev pub HasElements : List FieldTree → Type 0
HasElements [] = ⊤
HasElements (field ∷ fields) = (0 < field.size) × HasElements fields

field_end_grouped : (array : Bool) (size : ℕ) (first : ℤ) → 0 < size → IsFieldEnd (field_end_phrase array size first)
field_end_grouped true size first some = some
field_end_grouped false size (pos zero) some = tt
field_end_grouped false size (pos (suc n)) some = tt
field_end_grouped false size (negsuc n) some = tt

fields_grouped : (principals : Declared) (fields : List FieldTree) (after : ProgramPhrase) → HasElements fields →
    IsProgram after → IsProgram (fields_phrases principals fields ++ after)
fields_grouped principals [] after some rest = rest
fields_grouped principals (field ∷ fields) after some rest = (
  (label_grouped principals field.label, field_end_grouped field.array field.size field.first some.0),
  fields_grouped principals fields after some.1 rest,
)

pub program_grouped : (principals : Declared) (program : ProgramTree) → HasElements program.fields →
    IsProgram (program_phrase principals program)
program_grouped principals program some =
    let naming : Naming = record { principals = principals; program = program } in
    fields_grouped principals program.fields (methods_phrases naming 0 program.methods) some
    (methods_grouped naming 0 program.methods)
