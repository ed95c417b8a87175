-- Code with a shade for each of its instructions and entries, so that each instruction keeps the law of its kind.
use Rattle.std.specs.Prelude.{◌≡◌, ℕ, ◌<◌, suc, false, List, [], length, Some, IfSome, slice_get}
use Rattle.js_base.specs.declared.ids.HostId.{HostId}
use Rattle.js_base.specs.declared.ids.FieldId.{FieldId}
use Rattle.js_base.specs.declared.ids.VarId.{VarId}
use Rattle.label_lattice.specs.declared.label.Label.{Label}
use Rattle.jif_tree.specs.Trees.{MethodTree}
use Rattle.jif_tree.specs.LabelRules.{field_label}
use Rattle.host_code.specs.declared.code.Entry.{Entry}
use Rattle.host_code.specs.declared.instruction.Instr.{Instr}
use Rattle.host_code.specs.declared.instruction.Op.{Op}
use Rattle.host_code.specs.declared.instruction.Op.TheVariants as op
use Rattle.host_code.specs.Code.{CodeShape, CodeFieldShape, CodeVariableShape, instruction_at, field_at, variable_at}
use Rattle.entry_check.specs.Checks.{MaySee, label_at, label_of_host}
use Rattle.need_labels.specs.Needs.{label_of}
use Rattle.need_labels.specs.Plan.{field_host}
use Rattle.msg_cost.specs.Moves.{PlannedShape}
use Rattle.split_rules.specs.Releases.{ReleasesShape, operands_at}
use Rattle.split_shades.specs.Basis.{Basis}
use Rattle.split_shades.specs.Flows.{IsSeenOn}
use Rattle.split_shades.specs.Shades.{Shade, EntryShade, Ahead, MeetsShade, ahead_of}
use Rattle.split_shades.specs.Shading.{Scene, IsShade, IsEntryShade, FollowsInShade, DividesInShade, EndsInShade}
use Rattle.split_shades.specs.Shading.{method_shade, halt_shade}

-- the entries, the shade of the instruction at a place of a host, and where the branch of a number leads on its host
pub record Shades : Type 0 where
  pub entries : List EntryShade
  pub at : HostId → ℕ → Shade
  pub exits : HostId → ℕ → ℕ

-- The instruction of a host keeps the law of its kind, and goes on behind itself or where it branches. The branch of a
-- loop leads out of it.
abbrev pub IsShadedOp : Scene → Shades → HostId → ℕ → Op → Type 0
IsShadedOp scene shades me place (op.Branch guard target) =
    let here = shades.at me place in
    (next : Ahead) × (other : Ahead) × (here.calls ≡ false) × DividesInShade scene here guard here.guard next other
    × MeetsShade next (shades.at me (suc place)) × MeetsShade other (shades.at me target)
    × IfSome here.guard (λ own. target ≡ shades.exits me own)
IsShadedOp scene shades me place (op.Go there on) =
    EndsInShade scene shades.entries (shades.at me place) (op.Go there on)
IsShadedOp scene shades me place (op.Call there on) =
    EndsInShade scene shades.entries (shades.at me place) (op.Call there on)
IsShadedOp scene shades me place (op.GoWith there on riders) =
    EndsInShade scene shades.entries (shades.at me place) (op.GoWith there on riders)
IsShadedOp scene shades me place (op.CallWith there on riders) =
    EndsInShade scene shades.entries (shades.at me place) (op.CallWith there on riders)
IsShadedOp scene shades me place op.Back = EndsInShade scene shades.entries (shades.at me place) op.Back
IsShadedOp scene shades me place other =
    (next : Ahead) × FollowsInShade scene shades.entries me (shades.at me place) other next
    × MeetsShade next (shades.at me (suc place))

-- The code has the program label of the instruction. The branch of a loop leads behind all of its guard.
pub record IsShadedAt (scene : Scene) (code : CodeShape) (shades : Shades) (me : HostId) (place : ℕ) (there : Instr) :
    Type 0 where
  pub label_is : label_at code there.label ≡ Some (shades.at me place).pc
  pub is_shade : IsShade scene shades.entries (shades.at me place)
  pub exits : IfSome (shades.at me place).guard (λ own. place < shades.exits me own)
  pub law : IsShadedOp scene shades me place there.op

-- The code has the label of the entry.
pub record IsShadedEntry (scene : Scene) (code : CodeShape) (shades : Shades) (number : ℕ) (entry : Entry) :
    Type 0 where
  pub it : EntryShade
  pub is : slice_get shades.entries number ≡ Some it
  pub label_is : label_at code entry.label ≡ Some it.label
  pub is_shade : IsEntryShade scene shades.entries entry.host it

-- Nothing stands where the program ends. Each other entry stands at an instruction of its own level and block.
pub record IsShadedCode (scene : Scene) (code : CodeShape) (shades : Shades) : Type 0 where
  pub many : length shades.entries ≡ length code.entries
  pub halts : slice_get shades.entries 0 ≡ Some (halt_shade scene.basis.labelled.program)
  pub methods : (place : ℕ) (tree : MethodTree) →
      slice_get scene.basis.labelled.program.methods place ≡ Some tree →
      slice_get shades.entries (suc place) ≡ Some (method_shade place tree)
  pub entries : (number : ℕ) (entry : Entry) → slice_get code.entries number ≡ Some entry →
      IsShadedEntry scene code shades number entry
  pub stands : (number : ℕ) (entry : Entry) (it : EntryShade) → slice_get code.entries (suc number) ≡ Some entry →
      slice_get shades.entries (suc number) ≡ Some it → MeetsShade (ahead_of it) (shades.at entry.host entry.at)
  pub instructions : (host : HostId) (place : ℕ) (there : Instr) → instruction_at code host place ≡ Some there →
      IsShadedAt scene code shades host place there

-- no instruction of the code releases anything
abbrev pub ReleaseNothing : CodeShape → Shades → Type 0
ReleaseNothing code shades = (host : HostId) (place : ℕ) (there : Instr) →
    instruction_at code host place ≡ Some there → (shades.at host place).released ≡ []

-- what each instruction of the code releases, by its shade, is its row of a table
abbrev pub IsTabled : CodeShape → Shades → ReleasesShape → Type 0
IsTabled code shades table = (host : HostId) (place : ℕ) (there : Instr) →
    instruction_at code host place ≡ Some there → (shades.at host place).released ≡ operands_at table host place

-- ---- what else the code has

-- The code has the labels of the fields and the variables, and the hosts of the fields, who may see them. What a host
-- may see by the plan, it may see by the code.
pub record AreKnownInCode (basis : Basis) (planned : PlannedShape) (code : CodeShape) : Type 0 where
  pub fields : (field : FieldId) (there : CodeFieldShape) → field_at code field ≡ Some there →
      (label_at code there.label ≡ Some (field_label basis.labelled.program field))
      × (there.host ≡ field_host planned.plan field)
      × MaySee (label_at code there.label) (label_of_host code there.host)
  pub variables : (x : VarId) (there : CodeVariableShape) → variable_at code x ≡ Some there →
      label_at code there.label ≡ Some (label_of basis.labelled x)
  pub hosts : (host : HostId) (label : Label) → IsSeenOn planned host label →
      MaySee (Some label) (label_of_host code host)
