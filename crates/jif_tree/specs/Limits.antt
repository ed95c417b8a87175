-- The limits of programs.
use Rattle.std.specs.Prelude.{◌≡◌, ℕ, ◌+◌, ◌<◌, ◌≤◌, false, All, length, Some, slice_get, sum_by}
use Rattle.std.specs.List.{flat_map}
use Rattle.js_base.specs.declared.limits.TheConstants.{FIELDS, METHODS, PARAMETERS, VARIABLES, STATEMENTS}
use Rattle.js_base.specs.declared.limits.TheConstants.{EXPRESSION_NODES, ARRAY_SIZE, ELEMENTS}
use Rattle.jif_tree.specs.Trees.{FieldTree, MethodTree, ProgramTree}
use Rattle.jif_tree.specs.Numbering.{statement_numbers}
use Rattle.jif_tree.specs.Sizes.{block_nodes, IsBlockNested, variables_in, results_in}

-- a plain field has one element
pub record IsSizedField (field : FieldTree) : Type 0 where
  pub some : 0 < field.size
  pub few : field.size ≤ ARRAY_SIZE
  pub plain : (field.array ≡ false) → field.size ≡ 1

pub record IsWithinLimits (program : ProgramTree) : Type 0 where
  pub fields : length program.fields ≤ FIELDS
  pub sizes : All IsSizedField program.fields
  pub elements : sum_by (λ field. field.size) program.fields ≤ ELEMENTS
  pub methods : length program.methods ≤ METHODS
  pub params : All (λ method. length method.params ≤ PARAMETERS) program.methods
  -- parameters and locals; a result is one more
  pub variables : (number : ℕ) (method : MethodTree) → slice_get program.methods number ≡ Some method →
      length (variables_in program number) ≤ VARIABLES + results_in method.result
  -- the heads of methods count as statements
  pub statements : length (statement_numbers program) ≤ STATEMENTS
  -- of each statement, those of its own expressions
  pub nodes : All (λ nodes. nodes ≤ EXPRESSION_NODES) (flat_map (λ method. block_nodes method.body) program.methods)
  pub nesting : All (λ method. IsBlockNested 0 method.body) program.methods
