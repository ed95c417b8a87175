-- Which code bytes spell, or what is wrong with them. Each item is read and tested in the order of the bytes. What
-- speaks of a later part is tested behind all parts.
--
-- Of a split file the first fault from the front is told. The place of a text is that of its length, and a text that
-- passes the end is short, whatever it begins with. The first eight bytes are compared when all are there. An
-- expression that does not leave one value, or has no nodes, is refused at its count, once all its nodes were read; a
-- part that ends in another way than code may, at its last instruction. Without an entry the root is out of range. The
-- version is, where it is 2 and no values ride, and that is tested behind all parts too. All words of a label are taken
-- as they are. So each file that is none has one refusal.
use Rattle.std.specs.Prelude.{ℕ, ◌+◌, ◌*◌, suc, Bool, true, false, not, ◌&&◌, ◌||◌, ◌==◌, if◌then◌else◌, List, [], ◌∷◌}
use Rattle.std.specs.Prelude.{length, nat_lt, nat_le, slice_get, sum_by, codes, Ok, Err, ⊤}
use Rattle.std.specs.Option.{option_map_or}
use Rattle.std.specs.List.{before_first, after_first}
use Rattle.std.specs.Str.{bytes_eq}
use Rattle.std.specs.Int.{w16, w32, w64}
use Rattle.js_base.specs.declared.binary_operator.BinOp.{BinOp}
use Rattle.js_base.specs.declared.binary_operator.BinOp.TheVariants as binary
use Rattle.js_base.specs.declared.ids.HostId.{HostId}
use Rattle.js_base.specs.declared.ids.FieldId.{FieldId}
use Rattle.js_base.specs.declared.ids.VarId.{VarId}
use Rattle.js_base.specs.declared.ids.EntryId.{EntryId}
use Rattle.js_base.specs.declared.ids.SiteId.{SiteId}
use Rattle.js_base.specs.declared.limits.TheConstants.{HOSTS, PRINCIPALS, ARRAY_SIZE, ELEMENTS}
use Rattle.js_base.specs.Name.{is_name}
use Rattle.label_lattice.specs.declared.label.Label.{Label}
use Rattle.host_code.specs.declared.code.Entry.{Entry}
use Rattle.host_code.specs.declared.instruction.Instr.{Instr}
use Rattle.host_code.specs.declared.instruction.Op.{Op}
use Rattle.host_code.specs.declared.instruction.Op.TheVariants as op
use Rattle.host_code.specs.declared.code_expr.Node.{Node}
use Rattle.host_code.specs.declared.code_expr.Node.TheVariants as node
use Rattle.host_code.specs.declared.code_expr.TheConstants.{MOST_NODES}
use Rattle.host_code.specs.declared.riders.TheConstants.{MOST_RIDERS}
use Rattle.host_code.specs.Code.{CodeShape, CodeHostShape, CodeFieldShape, CodeVariableShape, part_of, host_of_site}
use Rattle.host_code.specs.CodeExpr.{depth_after}
use Rattle.host_code.specs.Sound.{temporaries_at}
use Rattle.byte_format.specs.Reader.{◌>>=◌, given, refused, require, items_at}
use Rattle.split_file.specs.declared.fault.Fault.TheVariants as fault
use Rattle.split_file.specs.declared.reading.Front.{Front}
use Rattle.split_file.specs.Spelling.{magic, version_of}
use Rattle.split_file.specs.Reader.{SplitReader, place, in_range, byte_at, bytes_at, number_at, integer_at, text_at}
use Rattle.split_file.specs.Reader.{list_at}

-- ---- names

abbrev pub is_dot : ℕ → Bool
is_dot byte = byte == 46

-- `METHOD.NAME`, or `METHOD.return`
abbrev pub is_variable_name : List ℕ → Bool
is_variable_name text =
    is_name (before_first is_dot text)
    && (is_name (after_first is_dot text) || bytes_eq (after_first is_dot text) (codes "return"))

unfoldable pub name_at : SplitReader (List ℕ)
name_at = in_range is_name text_at

-- ---- indices

-- a number below a count
unfoldable pub index_at : ℕ → SplitReader ℕ
index_at count = in_range (λ index. nat_lt index count) (number_at w32)

unfoldable pub host_id_at : ℕ → SplitReader HostId
host_id_at hosts = do
  host ← in_range (λ host. nat_lt host hosts) byte_at
  given (record { 0 = host })

-- ---- labels and hosts

unfoldable pub label_at : SplitReader Label
label_at = do
  rows ← items_at (λ _. number_at w64) [] PRINCIPALS
  trust ← number_at w64
  given (record { rows = rows; trust = trust })

unfoldable pub host_row_at : SplitReader CodeHostShape
host_row_at = do
  name ← name_at
  label ← label_at
  given (record { name = name; label = label })

unfoldable pub hosts_at : SplitReader (List CodeHostShape)
hosts_at = do
  count ← in_range (λ count. nat_lt 0 count && nat_le count HOSTS) (number_at w32)
  items_at (λ _. host_row_at) [] count

-- ---- fields and variables

unfoldable pub flag_at : SplitReader Bool
flag_at = do
  byte ← in_range (λ byte. nat_le byte 1) byte_at
  given (byte == 1)

-- how many elements some fields have
abbrev pub elements_of : List CodeFieldShape → ℕ
elements_of fields = sum_by (λ field. field.size) fields

-- a size is within the limits, where there are so many elements before
abbrev pub is_size : ℕ → ℕ → Bool
is_size before size = nat_lt 0 size && nat_le size ARRAY_SIZE && nat_le (before + size) ELEMENTS

-- A size, and whether it is that of an array. A plain field has one element, and where it has not, its size is out of
-- range.
unfoldable pub shape_at : ℕ → SplitReader (ℕ × Bool)
shape_at before = do
  at ← place
  size ← in_range (is_size before) (number_at w32)
  array ← flag_at
  _ ← require (array || size == 1) (fault.BadField at)
  given (size, array)

-- a field, where those before it have so many elements
unfoldable pub field_row_at : ℕ → ℕ → ℕ → SplitReader CodeFieldShape
field_row_at hosts labels before = do
  name ← name_at
  label ← index_at labels
  shape ← shape_at before
  first ← integer_at
  host ← host_id_at hosts
  given (record { name = name; label = label; size = shape.0; array = shape.1; first = first; host = host })

unfoldable pub variable_row_at : ℕ → SplitReader CodeVariableShape
variable_row_at labels = do
  name ← in_range is_variable_name text_at
  label ← index_at labels
  given (record { name = name; label = label })

-- ---- entries, sites, and where the program starts

abbrev pub is_empty : {A : Type 0} → List A → Bool
is_empty [] = true
is_empty (x ∷ xs) = false

-- an entry; the first of all stands at its host's first instruction
unfoldable pub entry_row_at : ℕ → ℕ → Bool → SplitReader Entry
entry_row_at hosts labels is_first = do
  host ← host_id_at hosts
  at ← in_range (λ at. not is_first || at == 0) (number_at w32)
  label ← index_at labels
  need ← number_at w64
  given (record { host = host; at = at; label = label; need = need })

-- the entry of this number is there, on this host
abbrev pub is_entry_on : List Entry → ℕ → ℕ → Bool
is_entry_on entries number host = option_map_or (λ entry. entry.host.0 == host) (slice_get entries number) false

unfoldable pub root_at : List Entry → SplitReader HostId
root_at entries = do
  root ← in_range (is_entry_on entries 0) byte_at
  given (record { 0 = root })

unfoldable pub main_at : List Entry → HostId → SplitReader EntryId
main_at entries root = do
  main ← in_range (λ main. is_entry_on entries main root.0) (number_at w32)
  given (record { 0 = main })

-- ---- expressions

-- an operator by its byte
unfoldable pub operator_of : ℕ → ℕ → SplitReader BinOp
operator_of at byte =
    if byte == 6 then given binary.Or
    else (if byte == 7 then given binary.And
    else (if byte == 8 then given binary.Equal
    else (if byte == 9 then given binary.NotEqual
    else (if byte == 10 then given binary.Less
    else (if byte == 11 then given binary.LessEqual
    else (if byte == 12 then given binary.Greater
    else (if byte == 13 then given binary.GreaterEqual
    else (if byte == 14 then given binary.Add
    else (if byte == 15 then given binary.Subtract
    else (if byte == 16 then given binary.Multiply
    else (if byte == 17 then given binary.Divide
    else (if byte == 18 then given binary.Remainder
    else refused (fault.BadField at)))))))))))))

unfoldable pub number_node_at : SplitReader Node
number_node_at = do
  n ← integer_at
  given (node.Number n)

-- one of so many variables
unfoldable pub variable_id_at : ℕ → SplitReader VarId
variable_id_at variables = do
  variable ← index_at variables
  given (record { 0 = variable })

unfoldable pub variable_node_at : ℕ → SplitReader Node
variable_node_at variables = do
  variable ← variable_id_at variables
  given (node.Var variable)

unfoldable pub temporary_node_at : ℕ → SplitReader Node
temporary_node_at temporaries = do
  temporary ← index_at temporaries
  given (node.Temp temporary)

unfoldable pub operator_node_at : ℕ → ℕ → SplitReader Node
operator_node_at at byte = do
  operator ← operator_of at byte
  given (node.Binary operator)

-- what follows the first byte of a node
unfoldable pub node_of : ℕ → ℕ → ℕ → ℕ → SplitReader Node
node_of variables temporaries at byte =
    if byte == 1 then number_node_at
    else (if byte == 2 then variable_node_at variables
    else (if byte == 3 then temporary_node_at temporaries
    else (if byte == 4 then given node.Not
    else (if byte == 5 then given node.Negate
    else operator_node_at at byte))))

-- a node, where there are so many variables and a thread has so many temporaries
unfoldable pub node_at : ℕ → ℕ → SplitReader Node
node_at variables temporaries = do
  at ← place
  byte ← byte_at
  node_of variables temporaries at byte

-- the nodes leave exactly one value
abbrev pub leave_one : List Node → Bool
leave_one nodes = option_map_or (λ depth. depth == 1) (depth_after nodes 0) false

-- an expression, or its count of nodes is out of range
unfoldable pub expression_at : ℕ → ℕ → SplitReader (List Node)
expression_at variables temporaries = do
  at ← place
  count ← in_range (λ count. nat_le count MOST_NODES) (number_at w32)
  nodes ← items_at (λ _. node_at variables temporaries) [] count
  _ ← require (leave_one nodes) (fault.BadField at)
  given nodes

-- ---- operands

unfoldable pub field_id_at : CodeShape → SplitReader FieldId
field_id_at code = do
  field ← index_at (length code.fields)
  given (record { 0 = field })

-- another host
unfoldable pub other_host_at : CodeShape → HostId → SplitReader HostId
other_host_at code me = do
  host ← in_range (λ host. nat_lt host (length code.hosts) && not (host == me.0)) byte_at
  given (record { 0 = host })

-- a site on this host
unfoldable pub own_site_at : CodeShape → HostId → SplitReader SiteId
own_site_at code me = do
  site ← in_range (λ site. option_map_or (λ host. host.0 == me.0) (host_of_site code.sites site) false) (number_at w32)
  given (record { 0 = site })

-- an entry on this host, which is not the one that ends the program
unfoldable pub own_entry_at : CodeShape → HostId → SplitReader EntryId
own_entry_at code me = do
  entry ← in_range (λ entry. not (entry == 0) && is_entry_on code.entries entry me.0) (number_at w32)
  given (record { 0 = entry })

-- an entry that is not the one that ends the program
unfoldable pub some_entry_at : CodeShape → SplitReader EntryId
some_entry_at code = do
  entry ← in_range (λ entry. not (entry == 0) && nat_lt entry (length code.entries)) (number_at w32)
  given (record { 0 = entry })

-- the host of an entry
unfoldable pub host_of_entry_at : CodeShape → EntryId → SplitReader HostId
host_of_entry_at code entry = do
  host ← in_range (λ host. nat_lt host (length code.hosts) && is_entry_on code.entries entry.0 host) byte_at
  given (record { 0 = host })

-- the host of an entry, which is another host
unfoldable pub other_host_of_entry_at : CodeShape → HostId → EntryId → SplitReader HostId
other_host_of_entry_at code me entry = do
  host ← in_range (λ host. nat_lt host (length code.hosts) && not (host == me.0)
      && is_entry_on code.entries entry.0 host) byte_at
  given (record { 0 = host })

-- ---- operations

-- a variable and its value
unfoldable pub valued_at : CodeShape → ℕ → SplitReader (VarId × List Node)
valued_at code temporaries = do
  variable ← variable_id_at (length code.variables)
  value ← expression_at (length code.variables) temporaries
  given (variable, value)

-- a variable and another host
unfoldable pub sent_at : CodeShape → HostId → SplitReader (VarId × HostId)
sent_at code me = do
  variable ← variable_id_at (length code.variables)
  to ← other_host_at code me
  given (variable, to)

-- an entry on another host
unfoldable pub entered_at : CodeShape → HostId → SplitReader (EntryId × HostId)
entered_at code me = do
  entry ← some_entry_at code
  on ← other_host_of_entry_at code me entry
  given (entry, on)

unfoldable pub read_at : CodeShape → ℕ → SplitReader Op
read_at code temporaries = do
  field ← field_id_at code
  index ← expression_at (length code.variables) temporaries
  given (op.Read field index)

unfoldable pub let_at : CodeShape → ℕ → SplitReader Op
let_at code temporaries = do
  to ← valued_at code temporaries
  given (op.Let to.0 to.1)

unfoldable pub put_at : CodeShape → ℕ → SplitReader Op
put_at code temporaries = do
  field ← field_id_at code
  index ← expression_at (length code.variables) temporaries
  value ← expression_at (length code.variables) temporaries
  given (op.Put field index value)

unfoldable pub send_at : CodeShape → HostId → SplitReader Op
send_at code me = do
  what ← sent_at code me
  given (op.Send what.0 what.1)

unfoldable pub frame_at : CodeShape → HostId → SplitReader Op
frame_at code me = do
  site ← own_site_at code me
  given (op.Frame site)

unfoldable pub arg_at : CodeShape → ℕ → SplitReader Op
arg_at code temporaries = do
  to ← valued_at code temporaries
  given (op.Arg to.0 to.1)

unfoldable pub pass_at : CodeShape → HostId → SplitReader Op
pass_at code me = do
  what ← sent_at code me
  given (op.Pass what.0 what.1)

unfoldable pub push_at : CodeShape → HostId → SplitReader Op
push_at code me = do
  entry ← own_entry_at code me
  given (op.Push entry)

unfoldable pub ask_at : CodeShape → HostId → SplitReader Op
ask_at code me = do
  where_to ← entered_at code me
  given (op.Ask where_to.0 where_to.1)

unfoldable pub go_at : CodeShape → HostId → SplitReader Op
go_at code me = do
  where_to ← entered_at code me
  given (op.Go where_to.0 where_to.1)

unfoldable pub call_at : CodeShape → SplitReader Op
call_at code = do
  entry ← some_entry_at code
  on ← host_of_entry_at code entry
  given (op.Call entry on)

unfoldable pub ret_at : CodeShape → ℕ → SplitReader Op
ret_at code temporaries = do
  to ← valued_at code temporaries
  given (op.Ret to.0 to.1)

-- a host has so many instructions
unfoldable pub branch_at : CodeShape → ℕ → ℕ → SplitReader Op
branch_at code temporaries places = do
  guard ← expression_at (length code.variables) temporaries
  target ← index_at places
  given (op.Branch guard target)

-- the variables whose values ride, 1 to 8, of so many
unfoldable pub riders_at : ℕ → SplitReader (List VarId)
riders_at variables = do
  count ← in_range (λ count. nat_le 1 count && nat_le count MOST_RIDERS) (number_at w32)
  items_at (λ _. variable_id_at variables) [] count

unfoldable pub go_with_at : CodeShape → HostId → SplitReader Op
go_with_at code me = do
  where_to ← entered_at code me
  riders ← riders_at (length code.variables)
  given (op.GoWith where_to.0 where_to.1 riders)

unfoldable pub call_with_at : CodeShape → HostId → SplitReader Op
call_with_at code me = do
  where_to ← entered_at code me
  riders ← riders_at (length code.variables)
  given (op.CallWith where_to.0 where_to.1 riders)

-- what follows the first byte of an operation, in a file of this version
unfoldable pub operation_of : ℕ → CodeShape → HostId → ℕ → ℕ → ℕ → ℕ → SplitReader Op
operation_of version code me temporaries places at byte =
    if byte == 1 then read_at code temporaries
    else (if byte == 2 then let_at code temporaries
    else (if byte == 3 then put_at code temporaries
    else (if byte == 4 then send_at code me
    else (if byte == 5 then frame_at code me
    else (if byte == 6 then arg_at code temporaries
    else (if byte == 7 then pass_at code me
    else (if byte == 8 then push_at code me
    else (if byte == 9 then ask_at code me
    else (if byte == 10 then go_at code me
    else (if byte == 11 then call_at code
    else (if byte == 12 then ret_at code temporaries
    else (if byte == 13 then given op.Back
    else (if byte == 14 then branch_at code temporaries places
    else (if byte == 15 && version == 2 then go_with_at code me
    else (if byte == 16 && version == 2 then call_with_at code me
    else refused (fault.BadField at))))))))))))))))

unfoldable pub operation_at : ℕ → CodeShape → HostId → ℕ → ℕ → SplitReader Op
operation_at version code me temporaries places = do
  at ← place
  byte ← byte_at
  operation_of version code me temporaries places at byte

-- ---- instructions

-- the operation ends a thread on this host
abbrev pub is_leaving : Op → Bool
is_leaving op.Back = true
is_leaving (op.Go entry on) = true
is_leaving (op.GoWith entry on riders) = true
is_leaving _ = false

-- The instruction of this number, of a host that has so many, where a thread has so many temporaries. The last one has
-- to leave the host, and is out of range as a whole where it does not.
unfoldable pub instruction_at : ℕ → CodeShape → HostId → ℕ → ℕ → ℕ → SplitReader Instr
instruction_at version code me places temporaries number = do
  at ← place
  label ← index_at (length code.labels)
  statement ← number_at w32
  operation ← operation_at version code me temporaries places
  _ ← require (nat_lt (suc number) places || is_leaving operation) (fault.BadField at)
  given (record { label = label; statement = record { 0 = statement }; op = operation })

-- an instruction behind some others
unfoldable pub next_instruction_at : ℕ → CodeShape → HostId → ℕ → List Instr → SplitReader Instr
next_instruction_at version code me places before =
    instruction_at version code me places (temporaries_at code.entries me before (length before)) (length before)

-- the instructions of a host
unfoldable pub part_at : ℕ → CodeShape → HostId → SplitReader (List Instr)
part_at version code me = do
  places ← number_at w32
  items_at (next_instruction_at version code me places) [] places

-- the parts of the hosts in order, behind those of some
unfoldable pub next_part_at : ℕ → CodeShape → List (List Instr) → SplitReader (List Instr)
next_part_at version code before = part_at version code (record { 0 = length before })

-- ---- the file

unfoldable pub magic_at : SplitReader ⊤
magic_at = do
  bytes ← bytes_at 8
  require (bytes_eq bytes magic) fault.BadMagic

-- the version, and how many bytes there are from it on
unfoldable pub version_at : SplitReader (ℕ × ℕ)
version_at = do
  at ← place
  version ← number_at w16
  _ ← require (version == 1 || version == 2) fault.BadVersion
  given (version, at)

-- what is named by instructions, and what they are labelled with
pub record TablesShape : Type 0 where
  pub hosts : List CodeHostShape
  pub labels : List Label
  pub fields : List CodeFieldShape
  pub variables : List CodeVariableShape

unfoldable pub tables_at : SplitReader TablesShape
tables_at = do
  hosts ← hosts_at
  labels ← list_at (λ _. label_at)
  fields ← list_at (λ before. field_row_at (length hosts) (length labels) (elements_of before))
  variables ← list_at (λ _. variable_row_at (length labels))
  given (record { hosts = hosts; labels = labels; fields = fields; variables = variables })

-- where threads and calls start, and how many bytes there are behind the entries
pub record StartsShape : Type 0 where
  pub entries : List Entry
  pub behind : ℕ
  pub sites : List HostId
  pub root : HostId
  pub main : EntryId

unfoldable pub starts_at : ℕ → ℕ → SplitReader StartsShape
starts_at hosts labels = do
  entries ← list_at (λ before. entry_row_at hosts labels (is_empty before))
  behind ← place
  sites ← list_at (λ _. host_id_at hosts)
  root ← root_at entries
  main ← main_at entries root
  given (record { entries = entries; behind = behind; sites = sites; root = root; main = main })

-- a code without its instructions
abbrev pub code_with : TablesShape → StartsShape → CodeShape
code_with tables starts = record {
  hosts = tables.hosts;
  labels = tables.labels;
  fields = tables.fields;
  variables = tables.variables;
  entries = starts.entries;
  sites = starts.sites;
  parts = [];
  root = starts.root;
  main = starts.main;
}

-- all that stands before the instructions
unfoldable pub front_at : SplitReader (CodeShape × Front)
front_at = do
  _ ← magic_at
  version ← version_at
  tables ← tables_at
  starts ← starts_at (length tables.hosts) (length tables.labels)
  given (code_with tables starts, record { version = version.0; from_version = version.1; behind = starts.behind })

unfoldable pub ended : SplitReader ⊤
ended [] = Ok (tt, [])
ended (byte ∷ bytes) = Err fault.Trailing

-- the file is of the version of its code, or this is out of range
unfoldable pub version_stands : CodeShape → Front → SplitReader ⊤
version_stands code front = require (front.version == version_of code) (fault.BadField front.from_version)

-- how many bytes an entry has, and how many of them there are from its place on
abbrev pub ENTRY_BYTES : ℕ
ENTRY_BYTES = 17

abbrev pub PLACE_BYTES : ℕ
PLACE_BYTES = 16

-- each of some entries, behind which there are so many bytes, stands at an instruction of its host
unfoldable pub entries_stand : CodeShape → List Entry → ℕ → SplitReader ⊤
entries_stand code [] behind = given tt
entries_stand code (entry ∷ entries) behind = do
  _ ← require (nat_lt entry.at (length (part_of code entry.host)))
      (fault.BadField (PLACE_BYTES + ENTRY_BYTES * length entries + behind))
  entries_stand code entries behind

-- a code with these instructions
abbrev pub with_parts : CodeShape → List (List Instr) → CodeShape
with_parts code parts = record code { parts = parts }

-- all of the bytes
unfoldable pub code_at : SplitReader CodeShape
code_at = do
  front ← front_at
  parts ← items_at (next_part_at front.1.version front.0) [] (length front.0.hosts)
  _ ← ended
  _ ← version_stands (with_parts front.0 parts) front.1
  _ ← entries_stand (with_parts front.0 parts) front.0.entries front.1.behind
  given (with_parts front.0 parts)
