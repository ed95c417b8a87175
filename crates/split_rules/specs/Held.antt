-- What is asked of a program that was checked, of its needs and of a plan so that hosts may see what they are told. It
-- speaks of confidentiality, where `IsAllowed` speaks of trust.
--
-- Labels of values are asked for where they stand. A walk takes the label of a value from the labels of the variables
-- behind the whole program, and the label check takes it from those at the statement. Both are the same where each
-- variable of the value has a label there. `IsWellHeld` asks for just that (`values`), of all values.
use Rattle.std.specs.Prelude.{◌≡◌, ℕ, map, slice_get}
use Rattle.std.specs.List.{AllZip, zip}
use Rattle.std.specs.Option.{IsSomeAnd}
use Rattle.js_base.specs.declared.ids.HostId.{HostId}
use Rattle.label_lattice.specs.declared.label.Label.{Label}
use Rattle.label_lattice.specs.Label.{ConfFlows, IntegFlows, IsTrustedBy}
use Rattle.label_lattice.specs.Lattice.{join_of}
use Rattle.host_decl.specs.Hosts.{HostsShape}
use Rattle.jif_tree.specs.Trees.{FieldTree}
use Rattle.jif_tree.specs.LabelRules.{declared_labels, program_labels}
use Rattle.jif_tree.specs.ValueLabels.{AreAllValuesLabelled}
use Rattle.split_rules.specs.Placed.{PlacedProgram}

-- ---- places

-- The host of a field sees the field and learns what its reads tell, and whoever trusts the field trusts the host.
abbrev pub HoldsField : HostsShape → FieldTree × Label → HostId → Type 0
HoldsField hosts (field, told) host = IsSomeAnd (slice_get hosts.hosts host.0) (λ row.
    ConfFlows (join_of field.label told) row.label × IntegFlows row.label field.label)

-- The host of a statement learns what its execution tells, and whoever has to trust it does.
abbrev pub HoldsStatement : HostsShape → Label × ℕ → HostId → Type 0
HoldsStatement hosts (used, need) host = IsSomeAnd (slice_get hosts.hosts host.0) (λ row.
    ConfFlows used row.label × IsTrustedBy row.label need)

-- The program labels are those of the label check, and each field and each statement stands on a host that may hold it.
pub record IsWellHeld (placed : PlacedProgram) : Type 0 where
  pub pc : placed.labelled.pc ≡ map (λ one. one.pc) (program_labels placed.hosts.principals placed.labelled.program)
  pub values : AreAllValuesLabelled placed.hosts.principals placed.labelled.program
      (declared_labels placed.labelled.program)
      placed.labelled.program.methods
  pub fields : AllZip (HoldsField placed.hosts) (zip placed.labelled.program.fields placed.needs.loc) placed.plan.fields
  pub statements : AllZip (HoldsStatement placed.hosts) (zip placed.needs.used placed.needs.need) placed.plan.statements
