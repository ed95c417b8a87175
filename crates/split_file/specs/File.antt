-- Which code a split file holds, and otherwise why it is refused.
use Rattle.std.specs.Prelude.{◌≡◌, ℕ, ◌-◌, ◌<◌, ◌^◌, List, length, All, Result, Ok, Err, ⊤, FitsSigned}
use Rattle.std.specs.Int.{w64}
use Rattle.label_lattice.specs.Label.{IsLabel}
use Rattle.host_code.specs.declared.instruction.Instr.{Instr}
use Rattle.host_code.specs.declared.instruction.Op.{Op}
use Rattle.host_code.specs.declared.instruction.Op.TheVariants as op
use Rattle.host_code.specs.declared.code_expr.Node.{Node}
use Rattle.host_code.specs.declared.code_expr.Node.TheVariants as node
use Rattle.host_code.specs.Code.{CodeShape}
use Rattle.host_code.specs.CodeExpr.{IsExpression}
use Rattle.host_code.specs.Sound.{IsSoundCode}
use Rattle.split_file.specs.declared.fault.Fault.{Fault}
use Rattle.split_file.specs.declared.fault.Fault.TheVariants as fault
use Rattle.split_file.specs.declared.fault.ReadError.{ReadError}
use Rattle.split_file.specs.declared.fault.ReadError.TheVariants as error
use Rattle.split_file.specs.declared.error.SplitError.{SplitError}
use Rattle.split_file.specs.declared.error.SplitError.TheVariants as refusal
use Rattle.split_file.specs.Reading.{code_at}

-- ---- what the types of a code keep

abbrev pub HasWord : Node → Type 0
HasWord (node.Number n) = FitsSigned w64 n
HasWord _ = ⊤

abbrev pub IsWordExpression : List Node → Type 0
IsWordExpression nodes = IsExpression nodes × All HasWord nodes

abbrev pub HasExpressions : Op → Type 0
HasExpressions (op.Read field index) = IsWordExpression index
HasExpressions (op.Let variable value) = IsWordExpression value
HasExpressions (op.Put field index value) = IsWordExpression index × IsWordExpression value
HasExpressions (op.Arg variable value) = IsWordExpression value
HasExpressions (op.Ret variable value) = IsWordExpression value
HasExpressions (op.Branch guard target) = IsWordExpression guard
HasExpressions _ = ⊤

abbrev pub IsRealInstruction : Instr → Type 0
IsRealInstruction instruction = (instruction.statement.0 < 2 ^ 32) × HasExpressions instruction.op

-- Each number fits its type, and each expression leaves one value. Every code in memory is such.
pub record IsReal (code : CodeShape) : Type 0 where
  pub hosts : All (λ host. IsLabel host.label) code.hosts
  pub labels : All IsLabel code.labels
  pub fields : All (λ field. FitsSigned w64 field.first) code.fields
  pub entries : All (λ entry. entry.need < 2 ^ 64) code.entries
  pub parts : All (All IsRealInstruction) code.parts

-- a code that there may be in memory, in which all that is named is there and where it has to be
abbrev pub IsRealCode : CodeShape → Type 0
IsRealCode code = IsSoundCode code × IsReal code

-- ---- the file

-- the refusal for a fault in so many bytes
abbrev pub refusal_of : ℕ → Fault → SplitError
refusal_of total fault.Short = refusal.Short
refusal_of total fault.BadMagic = refusal.BadMagic
refusal_of total fault.BadVersion = refusal.BadVersion
refusal_of total (fault.BadField left) = refusal.BadField (total - left)
refusal_of total fault.Trailing = refusal.Trailing

-- what stands for an error, of which want of memory is no fault of the bytes
abbrev pub IsSplitRefusal : ℕ → ReadError → SplitError → Type 0
IsSplitRefusal total error.OutOfMemory refused = refused ≡ refusal.OutOfMemory
IsSplitRefusal total (error.Fault what) refused = refused ≡ refusal_of total what

abbrev pub outcome : ℕ → Result (CodeShape × List ℕ) Fault → Result CodeShape SplitError
outcome total (Ok x) = Ok x.0
outcome total (Err what) = Err (refusal_of total what)

-- the code that a file of these bytes holds, or its refusal
unfoldable pub file_code : List ℕ → Result CodeShape SplitError
file_code bytes = outcome (length bytes) (code_at bytes)
