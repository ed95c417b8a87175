-- What a way stands for, in words.
use Rattle.std.specs.Prelude.{ℕ, zero, suc, Bool, true, false, List, [], ◌++◌, Option, Some, None, codes}
use Rattle.std.specs.Prelude.{if◌then◌else◌, slice_get}
use Rattle.std.specs.Fmt.{decimal}
use Rattle.js_base.specs.declared.ids.EntryId.{EntryId}
use Rattle.js_base.specs.declared.ids.HostId.{HostId}
use Rattle.js_base.specs.declared.ids.VarId.{VarId}
use Rattle.host_code.specs.Code.{CodeShape, instruction_at}
use Rattle.host_code.specs.InstructionText.{variables_text}
use Rattle.host_code.specs.MessageText as texts
use Rattle.host_code.specs.declared.instruction.Instr.{Instr}
use Rattle.host_code.specs.declared.instruction.Op.{Op}
use Rattle.host_code.specs.declared.instruction.Op.TheVariants as op
use Rattle.jif_tree.specs.Trees.{MethodTree, ProgramTree}
use Rattle.plan_ways.specs.declared.ends.Way.{Way}
use Rattle.plan_ways.specs.declared.ends.WayKind.{WayKind}
use Rattle.plan_ways.specs.declared.ends.WayKind.TheVariants as kind
use Rattle.plan_ways.specs.declared.ends.WayText.{WayText}
use Rattle.plan_ways.specs.declared.ends.WayText.TheVariants as what

abbrev pub is_call : WayText → Bool
is_call (what.Method entry) = true
is_call other = false

-- what the host does
abbrev pub verb_of : WayKind → WayText → List ℕ
verb_of kind.Get what = codes " reads "
verb_of kind.Set what = codes " sets "
verb_of kind.Forward what = codes " sends "
verb_of kind.Sync what = codes " pushes "
verb_of kind.Go what = if is_call what then codes " calls " else codes " goes on at "
verb_of kind.Back what = codes " gives the token of "

-- how the other host is joined to it
abbrev pub link_of : WayKind → WayText → List ℕ
link_of kind.Get what = codes " of "
link_of kind.Set what = codes " of "
link_of kind.Forward what = codes " to "
link_of kind.Sync what = codes " on "
link_of kind.Go what = if is_call what then codes " on " else codes " of "
link_of kind.Back what = codes " back to "

abbrev pub other_for : WayKind → Way → HostId
other_for kind.Get way = way.from
other_for other way = way.to

-- the other host: that of the field that is read, or the one to which the way leads
abbrev pub other_of : Way → HostId
other_of way = other_for way.kind way

abbrev pub entry_text : EntryId → List ℕ
entry_text entry = texts.entry_text entry

abbrev pub name_of_method : Option MethodTree → List ℕ
name_of_method None = []
name_of_method (Some method) = method.name

abbrev pub name_at : List MethodTree → ℕ → List ℕ
name_at methods zero = []
name_at methods (suc place) = name_of_method (slice_get methods place)

-- the name of the method that is entered at an entry, nothing where there is none
abbrev pub method_text : ProgramTree → EntryId → List ℕ
method_text program entry = name_at program.methods entry.0

abbrev pub what_text : CodeShape → ProgramTree → WayText → List ℕ
what_text code program (what.Field field) = texts.field_text code field
what_text code program (what.Variable variable) = texts.variable_text code variable
what_text code program (what.Result variable) = texts.variable_text code variable
what_text code program (what.Entry entry) = entry_text entry
what_text code program (what.Method entry) = method_text program entry

abbrev pub with_text : CodeShape → List VarId → List ℕ
with_text code riders = codes " with" ++ variables_text code riders

abbrev pub riders_of : CodeShape → Op → List ℕ
riders_of code (op.GoWith entry on riders) = with_text code riders
riders_of code (op.CallWith entry on riders) = with_text code riders
riders_of code other = []

abbrev pub riders_at : CodeShape → Option Instr → List ℕ
riders_at code None = []
riders_at code (Some instruction) = riders_of code instruction.op

abbrev pub riders_text : CodeShape → Way → List ℕ
riders_text code way = if way.rides then riders_at code (instruction_at code way.host way.at) else []

abbrev pub who_text : CodeShape → Way → List ℕ
who_text code way =
    codes "statement " ++ (decimal way.statement.0 ++ (codes ": " ++ (texts.host_text code way.host
    ++ verb_of way.kind way.what)))

-- `statement K: HOST reads FIELD of HOST` and the like
abbrev pub tip_text : CodeShape → ProgramTree → Way → List ℕ
tip_text code program way =
    who_text code way ++ (what_text code program way.what ++ (link_of way.kind way.what
    ++ (texts.host_text code (other_of way) ++ riders_text code way)))
