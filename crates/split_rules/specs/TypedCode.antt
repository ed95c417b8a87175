-- Code with a position for each of its instructions and entries, so that each instruction keeps the law of its kind.
use Rattle.std.specs.Prelude.{◌≡◌, ℕ, suc, List, [], ◌∷◌, Some, length, slice_get}
use Rattle.js_base.specs.declared.ids.HostId.{HostId}
use Rattle.jif_tree.specs.Trees.{MethodTree}
use Rattle.jif_tree.specs.LabelRules.{method_at}
use Rattle.host_code.specs.declared.code.Entry.{Entry}
use Rattle.host_code.specs.declared.instruction.Instr.{Instr}
use Rattle.host_code.specs.declared.instruction.Op.{Op}
use Rattle.host_code.specs.declared.instruction.Op.TheVariants as op
use Rattle.host_code.specs.Code.{CodeShape, instruction_at}
use Rattle.msg_cost.specs.Moves.{PlannedShape}
use Rattle.split_rules.specs.Walk.{need_of}
use Rattle.split_rules.specs.Positions.{all_due, body, Position, calm, Entrance}
use Rattle.split_rules.specs.Typing.{EntryIs, AreDueOn, IsTrustedAt, Covers, need_of_method, IsCalm}
use Rattle.split_rules.specs.Typing.{Follows, Divides, Ends}

-- each method has an entry, where its whole body is due
abbrev pub AreMethodEntries : PlannedShape → List Entrance → Type 0
AreMethodEntries planned entries =
    (place : ℕ) (tree : MethodTree) → slice_get planned.program.methods place ≡ Some tree →
    EntryIs entries (suc place) (calm (body (record { 0 = place })) (all_due tree.body))
    (need_of planned (tree.head ∷ []))

-- the entries, and the position of the instruction at a place of a host, both by their numbers
pub record Table : Type 0 where
  pub entries : List Entrance
  pub at : ℕ → ℕ → Position

-- the instruction of a host keeps the law of its kind, and goes on behind itself or where it branches
abbrev pub IsTypedOp : PlannedShape → Table → HostId → ℕ → Op → Type 0
IsTypedOp planned table me place (op.Branch guard target) =
    Divides planned me (table.at me.0 place) guard (table.at me.0 (suc place)) (table.at me.0 target)
IsTypedOp planned table me place (op.Go there on) = Ends planned table.entries (table.at me.0 place) (op.Go there on)
IsTypedOp planned table me place (op.Call there on) =
    Ends planned table.entries (table.at me.0 place) (op.Call there on)
IsTypedOp planned table me place (op.GoWith there on riders) =
    Ends planned table.entries (table.at me.0 place) (op.GoWith there on riders)
IsTypedOp planned table me place (op.CallWith there on riders) =
    Ends planned table.entries (table.at me.0 place) (op.CallWith there on riders)
IsTypedOp planned table me place op.Back = Ends planned table.entries (table.at me.0 place) op.Back
IsTypedOp planned table me place other =
    Follows planned table.entries me (table.at me.0 place) other (table.at me.0 (suc place))

-- An entry stands at an instruction of its own position, which is calm. Its host is trusted for all that is due there,
-- and its need has all who have to trust the hosts of that.
pub record IsTypedEntry (planned : PlannedShape) (table : Table) (number : ℕ) (entry : Entry) : Type 0 where
  pub position : Position
  pub is : EntryIs table.entries number position entry.need
  pub is_calm : IsCalm position
  pub stands : table.at entry.host.0 entry.at ≡ position
  pub trusted : AreDueOn planned entry.host position.due
  pub covers : Covers planned entry.need position.due

-- The entry that ends the program has nothing due. All others are typed, and so are all instructions, whose hosts are
-- trusted for all that is due there and has to be sent.
pub record IsTypedCode (planned : PlannedShape) (code : CodeShape) (table : Table) : Type 0 where
  pub many : length table.entries ≡ length code.entries
  pub halts : EntryIs table.entries 0 (calm (body planned.program.main) [])
      (need_of_method planned (method_at planned.program planned.program.main))
  pub methods : AreMethodEntries planned table.entries
  pub entries : (number : ℕ) (entry : Entry) → slice_get code.entries (suc number) ≡ Some entry →
      IsTypedEntry planned table (suc number) entry
  pub instructions : (host : HostId) (place : ℕ) (there : Instr) →
      instruction_at code host place ≡ Some there →
      IsTrustedAt planned host (table.at host.0 place) × IsTypedOp planned table host place there.op
