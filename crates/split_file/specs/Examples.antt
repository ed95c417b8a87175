-- A small code, and its split file in parts.
use Rattle.std.specs.Prelude.{ℕ, List, [], ◌∷◌, ◌++◌, codes}
use Rattle.js_base.specs.declared.ids.HostId.{HostId}
use Rattle.label_lattice.specs.Lattice.{free_rows}
use Rattle.label_lattice.specs.declared.label.Label.{Label}
use Rattle.host_code.specs.declared.code.Entry.{Entry}
use Rattle.host_code.specs.declared.instruction.Instr.{Instr}
use Rattle.host_code.specs.declared.instruction.Op.{Op}
use Rattle.host_code.specs.declared.instruction.Op.TheVariants as op
use Rattle.host_code.specs.Code.{CodeShape, CodeHostShape}

-- the label `{}`
abbrev pub free : Label
free = record { rows = free_rows; trust = 0 }

abbrev pub free_host : List ℕ → CodeHostShape
free_host name = record { name = name; label = free }

abbrev pub first_entry : Entry
first_entry = record { host = record { 0 = 0 }; at = 0; label = 0; need = 0 }

abbrev pub only_back : List Instr
only_back = record { label = 0; statement = record { 0 = 0 }; op = op.Back } ∷ []

-- two hosts, of which the first runs a `main` that does nothing
abbrev pub empty_main : CodeShape
empty_main = record {
  hosts = free_host (codes "A") ∷ free_host (codes "B") ∷ [];
  labels = free ∷ [];
  fields = [];
  variables = [];
  entries = first_entry ∷ first_entry ∷ [];
  sites = [];
  parts = only_back ∷ [] ∷ [];
  root = record { 0 = 0 };
  main = record { 0 = 1 };
}

-- how every file of version 1 begins
abbrev pub file_head : List ℕ
file_head = codes "JIFSPLIT" ++ 0 ∷ 1 ∷ []

abbrev pub first_host : HostId
first_host = record { 0 = 0 }

-- the thread goes on at entry 2 on the other host, and the value of variable 0 rides
abbrev pub riding_go : Op
riding_go = op.GoWith (record { 0 = 2 }) (record { 0 = 1 }) (record { 0 = 0 } ∷ [])

-- two hosts, of which the first hands its thread over to the second with the value of a variable
abbrev pub riding_main : CodeShape
riding_main = record {
  hosts = free_host (codes "A") ∷ free_host (codes "B") ∷ [];
  labels = free ∷ [];
  fields = [];
  variables = record { name = codes "main.x"; label = 0 } ∷ [];
  entries = first_entry ∷ first_entry ∷ record { host = record { 0 = 1 }; at = 0; label = 0; need = 0 } ∷ [];
  sites = [];
  parts = (record { label = 0; statement = record { 0 = 0 }; op = riding_go } ∷ []) ∷ only_back ∷ [];
  root = first_host;
  main = record { 0 = 1 };
}
