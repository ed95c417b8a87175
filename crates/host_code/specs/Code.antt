-- The code of all hosts, as contracts see it. A name is the list of its bytes, and a label is its place among the
-- labels.
use Rattle.std.specs.Prelude.{ℕ, Bool, ℤ, List, [], Option, None}
use Rattle.std.specs.Prelude.{unwrap_or}
use Rattle.std.specs.Prelude.{slice_get, suc, zero}
use Rattle.js_base.specs.declared.ids.HostId.{HostId}
use Rattle.js_base.specs.declared.ids.FieldId.{FieldId}
use Rattle.js_base.specs.declared.ids.VarId.{VarId}
use Rattle.js_base.specs.declared.ids.EntryId.{EntryId}
use Rattle.js_base.specs.declared.ids.SiteId.{SiteId}
use Rattle.label_lattice.specs.declared.label.Label.{Label}
use Rattle.host_code.specs.declared.code.Entry.{Entry}
use Rattle.host_code.specs.declared.instruction.Instr.{Instr}

-- a host, and the most that it may see and who trusts it
pub record CodeHostShape : Type 0 where
  pub name : List ℕ
  pub label : Label

-- a field or an array of so many elements, each of which starts with the same value, on its host
pub record CodeFieldShape : Type 0 where
  pub name : List ℕ
  pub label : ℕ
  pub size : ℕ
  pub array : Bool
  pub first : ℤ
  pub host : HostId

-- a parameter, a local or a result, with the name of its method
pub record CodeVariableShape : Type 0 where
  pub name : List ℕ
  pub label : ℕ

-- Sites count from 1, so the host of site s stands at place s - 1. There is a list of instructions for each host.
pub record CodeShape : Type 0 where
  pub hosts : List CodeHostShape
  pub labels : List Label
  pub fields : List CodeFieldShape
  pub variables : List CodeVariableShape
  pub entries : List Entry
  pub sites : List HostId
  pub parts : List (List Instr)
  pub root : HostId
  pub main : EntryId

-- the entry that ends the program
abbrev pub halt : EntryId
halt = record { 0 = 0 }

-- a host's instructions, none where there is no such host
abbrev pub part_of : CodeShape → HostId → List Instr
part_of code host = unwrap_or (slice_get code.parts host.0) []

abbrev pub instruction_at : CodeShape → HostId → ℕ → Option Instr
instruction_at code host at = slice_get (part_of code host) at

abbrev pub field_at : CodeShape → FieldId → Option CodeFieldShape
field_at code field = slice_get code.fields field.0

abbrev pub variable_at : CodeShape → VarId → Option CodeVariableShape
variable_at code variable = slice_get code.variables variable.0

abbrev pub entry_at : CodeShape → EntryId → Option Entry
entry_at code entry = slice_get code.entries entry.0

-- the host of a call site
abbrev pub host_of_site : List HostId → ℕ → Option HostId
host_of_site sites zero = None
host_of_site sites (suc place) = slice_get sites place

abbrev pub site_at : CodeShape → SiteId → Option HostId
site_at code site = host_of_site code.sites site.0
