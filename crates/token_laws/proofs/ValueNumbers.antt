-- The value of an expression has 64 bits, where its numbers and what it reads have.
use Rattle.std.proofs.Common.{ℕ, zero, suc, Bool, true, false, List, [], ◌∷◌, arith}
use Rattle.std.specs.Prelude.{ℤ, pos, negsuc, All, slice_get, unwrap_or, if◌then◌else◌, int_div, int_rem}
use Rattle.std.specs.Int.{int_wrapping_div, cast_unsigned, w64}
use Rattle.std.specs.List.{AllByRecursion}
use Rattle.std.specs.Ordering.{int_eq}
use Rattle.std.proofs.lemmas.Int.{SFits-int_wrap}
use Rattle.std.proofs.lemmas.List.Elements.{All-nil, All-set}
use borrow.Author.Differences.{fits_in, read_fits}
use lib.Signed.{mag_rem}
use Rattle.js_base.specs.declared.ids.VarId.{VarId}
use Rattle.js_base.specs.declared.binary_operator.BinOp.{BinOp}
use Rattle.js_base.specs.declared.binary_operator.BinOp.TheVariants as binary
use Rattle.jif_tree.specs.Numbers.{IsNumber}
use Rattle.jif_tree.specs.Operators.{number_of, binary_value}
use Rattle.jif_tree.specs.Store.{row_of, element_at, with_element, store_after_write}
use Rattle.host_code.specs.declared.code_expr.Node.{Node}
use Rattle.host_code.specs.declared.code_expr.Node.TheVariants as node
use Rattle.host_core.specs.Values.{values_after_node, values_after, first_of_values}
use Rattle.host_core.specs.Values.{value_of_nodes}
use Rattle.token_laws.specs.Numbers.{NodeHasNumber, HaveNumbers, RowsHaveNumbers}

-- ---- operators

pub zero_fits : IsNumber (pos 0)
zero_fits = record { sfits = omega arith }

truth_fits : (b : Bool) → IsNumber (number_of b)
truth_fits true = record { sfits = omega arith }
truth_fits false = record { sfits = omega arith }

divided : (left right : ℤ) (none : Bool) → IsNumber (if none then pos 0 else int_wrapping_div w64 left right)
divided left right true = zero_fits
divided left right false = omega (arith, fits_in, read_fits w64 (cast_unsigned w64 (int_div left right)))

left_over : (left right : ℤ) (none : Bool) → IsNumber left → IsNumber (if none then pos 0 else int_rem left right)
left_over left right true fits = zero_fits
left_over left right false fits =
    let less = mag_rem left right in
    let most = fits.sfits in
    record { sfits = omega arith }

binary_fits : (operator : BinOp) (left right : ℤ) → IsNumber left → IsNumber (binary_value operator left right)
binary_fits binary.Or left right fits = truth_fits _
binary_fits binary.And left right fits = truth_fits _
binary_fits binary.Equal left right fits = truth_fits _
binary_fits binary.NotEqual left right fits = truth_fits _
binary_fits binary.Less left right fits = truth_fits _
binary_fits binary.LessEqual left right fits = truth_fits _
binary_fits binary.Greater left right fits = truth_fits _
binary_fits binary.GreaterEqual left right fits = truth_fits _
binary_fits binary.Add left right fits = SFits-int_wrap w64 _
binary_fits binary.Subtract left right fits = SFits-int_wrap w64 _
binary_fits binary.Multiply left right fits = SFits-int_wrap w64 _
binary_fits binary.Divide left right fits = divided left right (int_eq right (pos 0))
binary_fits binary.Remainder left right fits = left_over left right (int_eq right (pos 0)) fits

-- ---- expressions

-- the item at a place, where each item has a property and so has what stands for a missing one
item_or : {X : Type 0} (P : X → Type 0) (xs : List X) (place : ℕ) (default : X) → All P xs → P default →
    P (unwrap_or (slice_get xs place) default)
item_or P [] place default all also = also
item_or P (x ∷ xs) zero default all also = all 0 x (omega arith)
item_or P (x ∷ xs) (suc place) default all also =
    item_or P xs place default (λ k d lt. all (suc k) d (omega arith)) also

node_fits : (variables : VarId → ℤ) (temporaries : List ℤ) (one : Node) (values : List ℤ) →
    ((x : VarId) → IsNumber (variables x)) → All IsNumber temporaries → NodeHasNumber one →
    AllByRecursion IsNumber values → AllByRecursion IsNumber (values_after_node variables temporaries one values)
node_fits variables temporaries (node.Number n) values read kept named all = (named, all)
node_fits variables temporaries (node.Var x) values read kept named all = (read x, all)
node_fits variables temporaries (node.Temp t) values read kept named all =
    (item_or IsNumber temporaries t (pos 0) kept zero_fits, all)
node_fits variables temporaries node.Not [] read kept named all = all
node_fits variables temporaries node.Not (value ∷ values) read kept named all = (truth_fits _, all.1)
node_fits variables temporaries node.Negate [] read kept named all = all
node_fits variables temporaries node.Negate (value ∷ values) read kept named all = (SFits-int_wrap w64 _, all.1)
node_fits variables temporaries (node.Binary operator) [] read kept named all = all
node_fits variables temporaries (node.Binary operator) (right ∷ []) read kept named all = all
node_fits variables temporaries (node.Binary operator) (right ∷ (left ∷ values)) read kept named all =
    (binary_fits operator left right all.1.0, all.1.1)

nodes_fit : (variables : VarId → ℤ) (temporaries : List ℤ) (nodes : List Node) (values : List ℤ) →
    ((x : VarId) → IsNumber (variables x)) → All IsNumber temporaries → HaveNumbers nodes →
    AllByRecursion IsNumber values → AllByRecursion IsNumber (values_after variables temporaries nodes values)
nodes_fit variables temporaries [] values read kept named all = all
nodes_fit variables temporaries (one ∷ nodes) values read kept named all =
    nodes_fit variables temporaries nodes (values_after_node variables temporaries one values) read kept
    (λ k d lt. named (suc k) d (omega arith))
    (node_fits variables temporaries one values read kept (named 0 one (omega arith)) all)

first_fits : (values : List ℤ) → AllByRecursion IsNumber values → IsNumber (first_of_values values)
first_fits [] all = zero_fits
first_fits (value ∷ values) all = all.0

pub value_fits : (variables : VarId → ℤ) (temporaries : List ℤ) (nodes : List Node) →
    ((x : VarId) → IsNumber (variables x)) → All IsNumber temporaries → HaveNumbers nodes →
    IsNumber (value_of_nodes variables temporaries nodes)
value_fits variables temporaries nodes read kept named =
    first_fits (values_after variables temporaries nodes [])
    (nodes_fit variables temporaries nodes [] read kept named tt)

-- ---- fields

pub row_fits : (rows : List (List ℤ)) (field : ℕ) → RowsHaveNumbers rows → All IsNumber (row_of rows field)
row_fits rows field fits = item_or (All IsNumber) rows field [] fits (All-nil IsNumber)

pub element_fits : (row : List ℤ) (index : ℤ) → All IsNumber row → IsNumber (element_at row index)
element_fits row (pos index) fits = item_or IsNumber row index (pos 0) fits zero_fits
element_fits row (negsuc below) fits = zero_fits

changed_fits : (row : List ℤ) (index value : ℤ) → All IsNumber row → IsNumber value →
    All IsNumber (with_element row index value)
changed_fits row (pos index) value fits also = All-set IsNumber row index value also fits
changed_fits row (negsuc below) value fits also = fits

pub written_fits : (rows : List (List ℤ)) (field : ℕ) (index value : ℤ) → RowsHaveNumbers rows → IsNumber value →
    RowsHaveNumbers (store_after_write rows field index value)
written_fits rows field index value fits also =
    All-set (All IsNumber) rows field (with_element (row_of rows field) index value)
    (changed_fits (row_of rows field) index value (row_fits rows field fits) also) fits
