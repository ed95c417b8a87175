-- Operations and instructions as they are read, and as they are sound in the whole code.
use Rattle.std.proofs.Common.{◌≡◌, ℕ, ◌<◌, true, List, [], length, refl, subst}
use Rattle.std.proofs.lemmas.List.Elements.{All-weaker}
use Rattle.js_base.specs.declared.ids.HostId.{HostId}
use Rattle.host_code.specs.declared.instruction.Instr.{Instr}
use Rattle.host_code.specs.declared.instruction.Op.{Op}
use Rattle.host_code.specs.declared.instruction.Op.TheVariants as op
use Rattle.host_code.specs.declared.code_expr.Node.{Node}
use Rattle.host_code.specs.declared.code_expr.Node.TheVariants as node
use Rattle.host_code.specs.Code.{CodeShape, part_of}
use Rattle.host_code.specs.Sound.{NodeFits, ExpressionFits, OperationFits, IsLeaving}
use Rattle.split_file.specs.Spelling.{has_riders}
use Rattle.split_file.specs.Reading.{is_leaving, with_parts}
use Rattle.split_file.specs.File.{HasWord, IsWordExpression, HasExpressions}
use Rattle.split_file.proofs.ExpressionLaws.{NodeIs}
use Rattle.split_file.proofs.OperationLaws.{OperationIs, ExpressionFor}

-- ---- expressions

node_fits : (code : CodeShape) (count : ℕ) (n : Node) → NodeIs (length code.variables) count n → NodeFits code count n
node_fits code count (node.Number n) is = tt
node_fits code count (node.Var variable) is = is
node_fits code count (node.Temp temporary) is = is
node_fits code count node.Not is = tt
node_fits code count node.Negate is = tt
node_fits code count (node.Binary operator) is = tt

node_word : (variables count : ℕ) (n : Node) → NodeIs variables count n → HasWord n
node_word variables count (node.Number n) is = is
node_word variables count (node.Var variable) is = tt
node_word variables count (node.Temp temporary) is = tt
node_word variables count node.Not is = tt
node_word variables count node.Negate is = tt
node_word variables count (node.Binary operator) is = tt

node_is : (code : CodeShape) (count : ℕ) (n : Node) → NodeFits code count n → HasWord n →
    NodeIs (length code.variables) count n
node_is code count (node.Number n) fits word = word
node_is code count (node.Var variable) fits word = fits
node_is code count (node.Temp temporary) fits word = fits
node_is code count node.Not fits word = tt
node_is code count node.Negate fits word = tt
node_is code count (node.Binary operator) fits word = tt

expression_fits : (code : CodeShape) (count : ℕ) (nodes : List Node) → ExpressionFor code count nodes →
    ExpressionFits code count nodes
expression_fits code count nodes is =
    All-weaker (NodeIs (length code.variables) count) (NodeFits code count) (node_fits code count) nodes is.each

expression_words : (code : CodeShape) (count : ℕ) (nodes : List Node) → ExpressionFor code count nodes →
    IsWordExpression nodes
expression_words code count nodes is = (
  record { few = is.few; leaves_one = is.leaves },
  All-weaker (NodeIs (length code.variables) count) HasWord (node_word (length code.variables) count) nodes is.each,
)

expression_is : (code : CodeShape) (count : ℕ) (nodes : List Node) → ExpressionFits code count nodes →
    IsWordExpression nodes → ExpressionFor code count nodes
expression_is code count nodes fits words = record {
  few = words.0.few;
  leaves = words.0.leaves_one;
  each = λ k d lt. node_is code count _ (fits k d lt) (words.1 k d lt);
}

-- ---- operations: the code without its instructions tells all but how many there are

pub operation_fits : (version : ℕ) (code : CodeShape) (parts : List (List Instr)) (me : HostId) (count places : ℕ)
    (o : Op) →
    places ≡ length (part_of (with_parts code parts) me) → OperationIs version code me count places o →
    OperationFits (with_parts code parts) me count o
operation_fits version code parts me count places (op.Read field index) long is =
    (is.0, expression_fits code count index is.1)
operation_fits version code parts me count places (op.Let variable value) long is =
    (is.0, expression_fits code count value is.1)
operation_fits version code parts me count places (op.Put field index value) long is =
    (is.0, expression_fits code count index is.1.0, expression_fits code count value is.1.1)
operation_fits version code parts me count places (op.Send variable to) long is = is
operation_fits version code parts me count places (op.Frame site) long is = is
operation_fits version code parts me count places (op.Arg variable value) long is =
    (is.0, expression_fits code count value is.1)
operation_fits version code parts me count places (op.Pass variable to) long is = is
operation_fits version code parts me count places (op.Push entry) long is = is
operation_fits version code parts me count places (op.Ask entry on) long is = is
operation_fits version code parts me count places (op.Go entry on) long is = is
operation_fits version code parts me count places (op.Call entry on) long is = is
operation_fits version code parts me count places (op.Ret variable value) long is =
    (is.0, expression_fits code count value is.1)
operation_fits version code parts me count places op.Back long is = tt
operation_fits version code parts me count places (op.Branch guard target) long is =
    (expression_fits code count guard is.0, subst (λ n. target < n) long is.1)
operation_fits version code parts me count places (op.GoWith entry on riders) long is = is.1
operation_fits version code parts me count places (op.CallWith entry on riders) long is = is.1

pub operation_words : (version : ℕ) (code : CodeShape) (me : HostId) (count places : ℕ) (o : Op) →
    OperationIs version code me count places o → HasExpressions o
operation_words version code me count places (op.Read field index) is = expression_words code count index is.1
operation_words version code me count places (op.Let variable value) is = expression_words code count value is.1
operation_words version code me count places (op.Put field index value) is =
    (expression_words code count index is.1.0, expression_words code count value is.1.1)
operation_words version code me count places (op.Send variable to) is = tt
operation_words version code me count places (op.Frame site) is = tt
operation_words version code me count places (op.Arg variable value) is = expression_words code count value is.1
operation_words version code me count places (op.Pass variable to) is = tt
operation_words version code me count places (op.Push entry) is = tt
operation_words version code me count places (op.Ask entry on) is = tt
operation_words version code me count places (op.Go entry on) is = tt
operation_words version code me count places (op.Call entry on) is = tt
operation_words version code me count places (op.Ret variable value) is = expression_words code count value is.1
operation_words version code me count places op.Back is = tt
operation_words version code me count places (op.Branch guard target) is = expression_words code count guard is.0
operation_words version code me count places (op.GoWith entry on riders) is = tt
operation_words version code me count places (op.CallWith entry on riders) is = tt

pub operation_is : (version : ℕ) (code : CodeShape) (me : HostId) (count : ℕ) (o : Op) →
    (has_riders o ≡ true → version ≡ 2) → OperationFits code me count o → HasExpressions o →
    OperationIs version (with_parts code []) me count (length (part_of code me)) o
operation_is version code me count (op.Read field index) riding fits words =
    (fits.0, expression_is code count index fits.1 words)
operation_is version code me count (op.Let variable value) riding fits words =
    (fits.0, expression_is code count value fits.1 words)
operation_is version code me count (op.Put field index value) riding fits words =
    (fits.0, (expression_is code count index fits.1 words.0, expression_is code count value fits.2 words.1))
operation_is version code me count (op.Send variable to) riding fits words = fits
operation_is version code me count (op.Frame site) riding fits words = fits
operation_is version code me count (op.Arg variable value) riding fits words =
    (fits.0, expression_is code count value fits.1 words)
operation_is version code me count (op.Pass variable to) riding fits words = fits
operation_is version code me count (op.Push entry) riding fits words = fits
operation_is version code me count (op.Ask entry on) riding fits words = fits
operation_is version code me count (op.Go entry on) riding fits words = fits
operation_is version code me count (op.Call entry on) riding fits words = fits
operation_is version code me count (op.Ret variable value) riding fits words =
    (fits.0, expression_is code count value fits.1 words)
operation_is version code me count op.Back riding fits words = tt
operation_is version code me count (op.Branch guard target) riding fits words =
    (expression_is code count guard fits.0 words, fits.1)
operation_is version code me count (op.GoWith entry on riders) riding fits words = (riding refl, fits)
operation_is version code me count (op.CallWith entry on riders) riding fits words = (riding refl, fits)

-- ---- the end of a part

pub leaving : (o : Op) → is_leaving o ≡ true → IsLeaving o
leaving (op.Read field index) is = absurd cc
leaving (op.Let variable value) is = absurd cc
leaving (op.Put field index value) is = absurd cc
leaving (op.Send variable to) is = absurd cc
leaving (op.Frame site) is = absurd cc
leaving (op.Arg variable value) is = absurd cc
leaving (op.Pass variable to) is = absurd cc
leaving (op.Push entry) is = absurd cc
leaving (op.Ask entry on) is = absurd cc
leaving (op.Go entry on) is = tt
leaving (op.Call entry on) is = absurd cc
leaving (op.Ret variable value) is = absurd cc
leaving op.Back is = tt
leaving (op.Branch guard target) is = absurd cc
leaving (op.GoWith entry on riders) is = tt
leaving (op.CallWith entry on riders) is = absurd cc

pub leaves : (o : Op) → IsLeaving o → is_leaving o ≡ true
leaves (op.Read field index) is = absurd is
leaves (op.Let variable value) is = absurd is
leaves (op.Put field index value) is = absurd is
leaves (op.Send variable to) is = absurd is
leaves (op.Frame site) is = absurd is
leaves (op.Arg variable value) is = absurd is
leaves (op.Pass variable to) is = absurd is
leaves (op.Push entry) is = absurd is
leaves (op.Ask entry on) is = absurd is
leaves (op.Go entry on) is = refl
leaves (op.Call entry on) is = absurd is
leaves (op.Ret variable value) is = absurd is
leaves op.Back is = refl
leaves (op.Branch guard target) is = absurd is
leaves (op.GoWith entry on riders) is = refl
leaves (op.CallWith entry on riders) is = absurd is
