-- How code is put together from the items of a trace: each instruction goes to the list of its host, and it is noted
-- where entries stand and branches lead.
use Rattle.std.specs.Prelude.{ℕ, suc, List, [], ◌∷◌, ◌++◌, map, length, replicate, take, Option, Some, None, unwrap_or}
use Rattle.std.specs.Prelude.{slice_set, slice_index_or}
use Rattle.js_base.specs.declared.ids.HostId.{HostId}
use Rattle.host_code.specs.declared.code.Entry.{Entry}
use Rattle.host_code.specs.declared.instruction.Instr.{Instr}
use Rattle.host_code.specs.declared.instruction.Op.{Op}
use Rattle.host_code.specs.declared.instruction.Op.TheVariants as op
use Rattle.control_split.specs.declared.parts.TheConstants.{HOST_NUMBERS}
use Rattle.control_split.specs.declared.trace.TraceItem.{TraceItem}
use Rattle.control_split.specs.declared.trace.TraceItem.TheVariants as item
use Rattle.split_rules.specs.Emissions.{Counts}

-- the instructions of each number of a host, the entries, and the numbers of instructions at which these stand and
-- branches lead, as far as they are known
pub record AssemblyShape : Type 0 where
  pub lists : List (List Instr)
  pub entries : List Entry
  pub standing : List (Option ℕ)
  pub landing : List (Option ℕ)

-- nothing yet, for so many entries and branches
abbrev pub first_assembly : Counts → AssemblyShape
first_assembly counts = record {
  lists = replicate HOST_NUMBERS [];
  entries = [];
  standing = replicate counts.entries None;
  landing = replicate counts.branches None;
}

abbrev pub list_on : List (List Instr) → HostId → List Instr
list_on lists host = slice_index_or lists host.0 []

-- a place is noted for a number that is there and has none
abbrev pub noted : List (Option ℕ) → ℕ → ℕ → List (Option ℕ)
noted places number place = noted_for (slice_index_or places number (Some 0))
  where
    noted_for : Option ℕ → List (Option ℕ)
    noted_for None = slice_set places number (Some place)
    noted_for (Some earlier) = places

-- with one more item
abbrev pub with_item : AssemblyShape → TraceItem → AssemblyShape
with_item assembly (item.Instruction host instruction) = record assembly {
  lists = slice_set assembly.lists host.0 (list_on assembly.lists host ++ instruction ∷ []);
}
with_item assembly (item.Entry host label need) = record assembly {
  entries = assembly.entries ++ record { host = host; at = 0; label = label; need = need } ∷ [];
}
with_item assembly (item.Stands host number) = record assembly {
  standing = noted assembly.standing number (length (list_on assembly.lists host));
}
with_item assembly (item.Lands host number) = record assembly {
  landing = noted assembly.landing number (length (list_on assembly.lists host));
}

abbrev pub assembled : AssemblyShape → List TraceItem → AssemblyShape
assembled assembly [] = assembly
assembled assembly (one ∷ others) = assembled (with_item assembly one) others

-- the place that is noted for a number, the end where there is none
abbrev pub noted_place : List (Option ℕ) → ℕ → ℕ → ℕ
noted_place places number end = unwrap_or (slice_index_or places number None) end

-- the entries with their places, of which the first has this number
abbrev pub settled_entries : AssemblyShape → ℕ → List Entry → List Entry
settled_entries assembly number [] = []
settled_entries assembly number (entry ∷ others) =
    record entry {
      at = noted_place assembly.standing number (length (list_on assembly.lists entry.host));
    } ∷ settled_entries assembly (suc number) others

abbrev pub settled_operation : List (Option ℕ) → ℕ → Op → Op
settled_operation landing end (op.Branch guard number) = op.Branch guard (noted_place landing number end)
settled_operation landing end other = other

abbrev pub settled_instruction : List (Option ℕ) → ℕ → Instr → Instr
settled_instruction landing end instruction = record {
  label = instruction.label;
  statement = instruction.statement;
  op = settled_operation landing end instruction.op;
}

-- a list whose branches lead where they should
abbrev pub settled_part : List (Option ℕ) → List Instr → List Instr
settled_part landing list = map (settled_instruction landing (length list)) list

abbrev pub settled_parts : AssemblyShape → ℕ → List (List Instr)
settled_parts assembly hosts = map (settled_part assembly.landing) (take hosts assembly.lists)
