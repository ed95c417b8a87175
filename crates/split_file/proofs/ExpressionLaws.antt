-- Laws of the readers of expressions.
use Rattle.std.proofs.Common.{◌≡◌, ℕ, ◌^◌, ◌<◌, ◌≤◌, true, false, List, [], ◌∷◌, ◌++◌, length, Option, Some, None, refl}
use Rattle.std.proofs.Common.{sym, ap, subst, ◌∙◌, arith}
use Rattle.std.specs.Prelude.{FitsSigned, All, ⊤, ◌==◌, nat_le}
use Rattle.std.specs.List.{flat_map}
use Rattle.std.specs.Option.{option_map_or}
use Rattle.std.specs.Int.{w64}
use Rattle.std.proofs.lemmas.Bool.{eqb-true, leb-true, le-leb}
use Rattle.std.proofs.lemmas.List.{append-nil}
use Rattle.js_base.specs.declared.binary_operator.BinOp.{BinOp}
use Rattle.js_base.specs.declared.binary_operator.BinOp.TheVariants as binary
use Rattle.js_base.specs.declared.ids.VarId.{VarId}
use Rattle.host_code.specs.declared.code_expr.Node.{Node}
use Rattle.host_code.specs.declared.code_expr.Node.TheVariants as node
use Rattle.host_code.specs.declared.code_expr.TheConstants.{MOST_NODES}
use Rattle.host_code.specs.CodeExpr.{depth_after}
use Rattle.byte_format.specs.Numbers.{number_bytes}
use Rattle.byte_format.specs.Reader.{sequel, given, require, items_at}
use Rattle.byte_format.proofs.NumberLaws.{byte_reads, byte_again, number_reads, number_again, integer_reads}
use Rattle.byte_format.proofs.NumberLaws.{integer_again}
use Rattle.byte_format.proofs.Sequels.{Reads, Again, reads_then, reads_given, reads_last, reads_require, reads_refused}
use Rattle.byte_format.proofs.Sequels.{reads_if, again_then, again_given, again_last, again_require}
use Rattle.byte_format.proofs.ItemLaws.{all_of, in_all, all_weaker, all_read, items_again}
use Rattle.split_file.specs.declared.fault.Fault.TheVariants as fault
use Rattle.split_file.specs.Spelling.{operator_byte, node_bytes, expression_bytes}
use Rattle.split_file.specs.Reader.{SplitReader, byte_at}
use Rattle.split_file.specs.Reading.{operator_of, number_node_at, variable_id_at, variable_node_at, temporary_node_at}
use Rattle.split_file.specs.Reading.{operator_node_at, node_of, node_at, leave_one, expression_at}
use Rattle.split_file.proofs.Sequels.{reads_place, reads_in_range, again_place, again_in_range}
use Rattle.split_file.proofs.NumberLaws.{index_reads, index_again}

-- ---- operators

pub operator_reads : (at byte : ℕ) → Reads (operator_of at byte)
    (λ operator text. (text ≡ []) × (operator_byte operator ≡ byte))
unfolding operator_of
operator_reads at byte =
    reads_if (byte == 6) (λ is. reads_given _ (refl, sym (eqb-true _ _ is))) (λ _.
    reads_if (byte == 7) (λ is. reads_given _ (refl, sym (eqb-true _ _ is))) (λ _.
    reads_if (byte == 8) (λ is. reads_given _ (refl, sym (eqb-true _ _ is))) (λ _.
    reads_if (byte == 9) (λ is. reads_given _ (refl, sym (eqb-true _ _ is))) (λ _.
    reads_if (byte == 10) (λ is. reads_given _ (refl, sym (eqb-true _ _ is))) (λ _.
    reads_if (byte == 11) (λ is. reads_given _ (refl, sym (eqb-true _ _ is))) (λ _.
    reads_if (byte == 12) (λ is. reads_given _ (refl, sym (eqb-true _ _ is))) (λ _.
    reads_if (byte == 13) (λ is. reads_given _ (refl, sym (eqb-true _ _ is))) (λ _.
    reads_if (byte == 14) (λ is. reads_given _ (refl, sym (eqb-true _ _ is))) (λ _.
    reads_if (byte == 15) (λ is. reads_given _ (refl, sym (eqb-true _ _ is))) (λ _.
    reads_if (byte == 16) (λ is. reads_given _ (refl, sym (eqb-true _ _ is))) (λ _.
    reads_if (byte == 17) (λ is. reads_given _ (refl, sym (eqb-true _ _ is))) (λ _.
    reads_if (byte == 18) (λ is. reads_given _ (refl, sym (eqb-true _ _ is))) (λ _.
    reads_refused (fault.BadField at))))))))))))))

pub operator_again : (at : ℕ) (operator : BinOp) → Again (operator_of at (operator_byte operator)) operator []
unfolding operator_of
operator_again at binary.Or = again_given binary.Or
operator_again at binary.And = again_given binary.And
operator_again at binary.Equal = again_given binary.Equal
operator_again at binary.NotEqual = again_given binary.NotEqual
operator_again at binary.Less = again_given binary.Less
operator_again at binary.LessEqual = again_given binary.LessEqual
operator_again at binary.Greater = again_given binary.Greater
operator_again at binary.GreaterEqual = again_given binary.GreaterEqual
operator_again at binary.Add = again_given binary.Add
operator_again at binary.Subtract = again_given binary.Subtract
operator_again at binary.Multiply = again_given binary.Multiply
operator_again at binary.Divide = again_given binary.Divide
operator_again at binary.Remainder = again_given binary.Remainder

-- ---- nodes

abbrev pub NodeIs : ℕ → ℕ → Node → Type 0
NodeIs variables temporaries (node.Number n) = FitsSigned w64 n
NodeIs variables temporaries (node.Var variable) = variable.0 < variables
NodeIs variables temporaries (node.Temp temporary) = temporary < temporaries
NodeIs variables temporaries _ = ⊤

-- what follows a first byte
pub reads_tag : {A : Type 0} {reader : SplitReader A} {s : A → List ℕ} {P : A → Type 0} (tag byte : ℕ) →
    (byte == tag) ≡ true → Reads reader (λ x text. (tag ∷ text ≡ s x) × P x) →
    Reads reader (λ x text. (byte ∷ text ≡ s x) × P x)
reads_tag {reader = reader} {s = s} {P = P} tag byte is one =
    subst (λ b. Reads reader (λ x text. (b ∷ text ≡ s x) × P x)) (sym (eqb-true byte tag is)) one

pub variable_id_reads : (variables : ℕ) → Reads (variable_id_at variables)
    (λ variable text. (text ≡ number_bytes variable.0) × (variable.0 < variables))
unfolding variable_id_at
variable_id_reads variables = reads_last _ (index_reads variables) (λ variable lt. (refl, lt))

pub variable_id_again : (variables : ℕ) (variable : VarId) → variables < 2 ^ 32 → variable.0 < variables →
    Again (variable_id_at variables) variable (number_bytes variable.0)
unfolding variable_id_at
variable_id_again variables variable few lt =
    again_last (λ n. record { 0 = n }) (index_again variables variable.0 few lt)

operator_first : (variables temporaries at byte : ℕ) → Reads (operator_node_at at byte)
    (λ n text. (byte ∷ text ≡ node_bytes n) × NodeIs variables temporaries n)
unfolding operator_node_at
operator_first variables temporaries at byte =
    reads_then (operator_reads at byte) (λ operator is. reads_given _ (ap (λ b. b ∷ []) (sym is), tt))

number_first : (variables temporaries : ℕ) → Reads number_node_at
    (λ n text. (1 ∷ text ≡ node_bytes n) × NodeIs variables temporaries n)
unfolding number_node_at
number_first variables temporaries = reads_last _ (integer_reads _) (λ n fits. (refl, fits))

variable_first : (variables temporaries : ℕ) → Reads (variable_node_at variables)
    (λ n text. (2 ∷ text ≡ node_bytes n) × NodeIs variables temporaries n)
unfolding variable_node_at
variable_first variables temporaries = reads_last _ (variable_id_reads variables) (λ variable lt. (refl, lt))

temporary_first : (variables temporaries : ℕ) → Reads (temporary_node_at temporaries)
    (λ n text. (3 ∷ text ≡ node_bytes n) × NodeIs variables temporaries n)
unfolding temporary_node_at
temporary_first variables temporaries = reads_last _ (index_reads temporaries) (λ temporary lt. (refl, lt))

node_tail : (variables temporaries at byte : ℕ) → Reads (node_of variables temporaries at byte)
    (λ n text. (byte ∷ text ≡ node_bytes n) × NodeIs variables temporaries n)
unfolding node_of
node_tail variables temporaries at byte =
    reads_if (byte == 1) (λ is. reads_tag 1 byte is (number_first variables temporaries)) (λ _.
    reads_if (byte == 2) (λ is. reads_tag 2 byte is (variable_first variables temporaries)) (λ _.
    reads_if (byte == 3) (λ is. reads_tag 3 byte is (temporary_first variables temporaries)) (λ _.
    reads_if (byte == 4) (λ is. reads_tag 4 byte is (reads_given node.Not (refl, tt))) (λ _.
    reads_if (byte == 5) (λ is. reads_tag 5 byte is (reads_given node.Negate (refl, tt))) (λ _.
    operator_first variables temporaries at byte)))))

pub node_reads : (variables temporaries : ℕ) → Reads (node_at variables temporaries)
    (λ n text. (text ≡ node_bytes n) × NodeIs variables temporaries n)
unfolding node_at
node_reads variables temporaries =
    reads_place (λ at. reads_then (byte_reads _) (λ byte lt. node_tail variables temporaries at byte))

operator_node_again : (variables temporaries at : ℕ) (operator : BinOp) →
    Again (node_of variables temporaries at (operator_byte operator)) (node.Binary operator) []
unfolding node_of operator_node_at
operator_node_again variables temporaries at binary.Or = again_last node.Binary (operator_again at binary.Or)
operator_node_again variables temporaries at binary.And = again_last node.Binary (operator_again at binary.And)
operator_node_again variables temporaries at binary.Equal = again_last node.Binary (operator_again at binary.Equal)
operator_node_again variables temporaries at binary.NotEqual =
    again_last node.Binary (operator_again at binary.NotEqual)
operator_node_again variables temporaries at binary.Less = again_last node.Binary (operator_again at binary.Less)
operator_node_again variables temporaries at binary.LessEqual =
    again_last node.Binary (operator_again at binary.LessEqual)
operator_node_again variables temporaries at binary.Greater = again_last node.Binary (operator_again at binary.Greater)
operator_node_again variables temporaries at binary.GreaterEqual =
    again_last node.Binary (operator_again at binary.GreaterEqual)
operator_node_again variables temporaries at binary.Add = again_last node.Binary (operator_again at binary.Add)
operator_node_again variables temporaries at binary.Subtract =
    again_last node.Binary (operator_again at binary.Subtract)
operator_node_again variables temporaries at binary.Multiply =
    again_last node.Binary (operator_again at binary.Multiply)
operator_node_again variables temporaries at binary.Divide = again_last node.Binary (operator_again at binary.Divide)
operator_node_again variables temporaries at binary.Remainder =
    again_last node.Binary (operator_again at binary.Remainder)

node_behind : (variables temporaries at : ℕ) (n : Node) → variables < 2 ^ 32 → temporaries < 2 ^ 32 →
    NodeIs variables temporaries n →
    Again (sequel byte_at (λ byte. node_of variables temporaries at byte)) n (node_bytes n)
unfolding node_of number_node_at variable_node_at temporary_node_at
node_behind variables temporaries at (node.Number n) few short is =
    again_then (node_of variables temporaries at) (byte_again _ 1) (again_last node.Number (integer_again _ n is))
node_behind variables temporaries at (node.Var variable) few short is =
    again_then (node_of variables temporaries at) (byte_again _ 2)
    (again_last node.Var (variable_id_again variables variable few is))
node_behind variables temporaries at (node.Temp temporary) few short is =
    again_then (node_of variables temporaries at) (byte_again _ 3)
    (again_last node.Temp (index_again temporaries temporary short is))
node_behind variables temporaries at node.Not few short is =
    again_then (node_of variables temporaries at) (byte_again _ 4) (again_given node.Not)
node_behind variables temporaries at node.Negate few short is =
    again_then (node_of variables temporaries at) (byte_again _ 5) (again_given node.Negate)
node_behind variables temporaries at (node.Binary operator) few short is =
    again_then (node_of variables temporaries at) (byte_again _ (operator_byte operator))
    (operator_node_again variables temporaries at operator)

pub node_again : (variables temporaries : ℕ) (n : Node) → variables < 2 ^ 32 → temporaries < 2 ^ 32 →
    NodeIs variables temporaries n → Again (node_at variables temporaries) n (node_bytes n)
unfolding node_at
node_again variables temporaries n few short is =
    again_place (λ at. node_behind variables temporaries at n few short is)

-- ---- expressions

pub record ExpressionIs (variables temporaries : ℕ) (nodes : List Node) : Type 0 where
  pub few : length nodes ≤ MOST_NODES
  pub leaves : depth_after nodes 0 ≡ Some 1
  pub each : All (NodeIs variables temporaries) nodes

one_left : (depth : Option ℕ) → option_map_or (λ d. d == 1) depth false ≡ true → depth ≡ Some 1
one_left None is = absurd cc
one_left (Some d) is = ap Some (eqb-true _ _ is)

one_again : (depth : Option ℕ) → depth ≡ Some 1 → option_map_or (λ d. d == 1) depth false ≡ true
one_again depth is = rw is refl

pub expression_reads : (variables temporaries : ℕ) → Reads (expression_at variables temporaries)
    (λ nodes text. (text ≡ expression_bytes nodes) × ExpressionIs variables temporaries nodes)
unfolding expression_at
expression_reads variables temporaries =
    reads_place (λ at. reads_then (reads_in_range (number_reads _)) (λ count count_is.
    reads_then (all_read (λ _. node_at variables temporaries) node_bytes (λ _ n. NodeIs variables temporaries n)
    (λ _. node_reads variables temporaries) count) (λ nodes nodes_are.
    reads_require (fault.BadField at) (λ leaves. reads_given nodes (
      ap (λ t. number_bytes count ++ t) (append-nil (flat_map node_bytes nodes))
          ∙ ap (λ n. number_bytes n ++ flat_map node_bytes nodes) (sym nodes_are.0),
      record {
        few = subst (λ n. n ≤ MOST_NODES) (sym nodes_are.0) (leb-true _ _ count_is.1);
        leaves = one_left (depth_after nodes 0) leaves;
        each = all_of (NodeIs variables temporaries) [] nodes nodes_are.1;
      },
    )))))

pub expression_again : (variables temporaries : ℕ) (nodes : List Node) → variables < 2 ^ 32 → temporaries < 2 ^ 32 →
    ExpressionIs variables temporaries nodes →
    Again (expression_at variables temporaries) nodes (expression_bytes nodes)
unfolding expression_at
expression_again variables temporaries nodes few short is =
    let each = all_weaker (λ _ n. NodeIs variables temporaries n)
    (λ _ n. Again (node_at variables temporaries) n (node_bytes n))
    (λ _ n there. node_again variables temporaries n few short there) [] nodes
    (in_all (NodeIs variables temporaries) [] nodes is.each) in
    let count = again_in_range (λ count. nat_le count MOST_NODES) (le-leb _ _ is.few)
    (number_again _ (length nodes) (omega (arith, is.few))) in
    let behind : (at : ℕ) → Again (sequel (items_at (λ _. node_at variables temporaries) [] (length nodes))
    (λ found. sequel (require (leave_one found) (fault.BadField at)) (λ _. given found)))
    nodes (flat_map node_bytes nodes) =
    λ at. subst (λ t. Again (sequel (items_at (λ _. node_at variables temporaries) [] (length nodes))
    (λ found. sequel (require (leave_one found) (fault.BadField at)) (λ _. given found))) nodes t)
    (append-nil (flat_map node_bytes nodes))
    (again_then (λ found. sequel (require (leave_one found) (fault.BadField at)) (λ _. given found))
    (items_again (λ _. node_at variables temporaries) node_bytes [] nodes each)
    (again_require (fault.BadField at) (one_again (depth_after nodes 0) is.leaves) (again_given nodes))) in
    again_place (λ at. again_then _ count (behind at))
