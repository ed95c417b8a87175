-- What is asked of a program that was checked, of its needs and of a plan so that hosts are trusted for what their
-- statements start. It speaks of the rules of labels and needs, where `IsTypable` speaks of what follows from them.
use Rattle.std.specs.Prelude.{◌≡◌, ℕ, slice_get}
use Rattle.std.specs.List.{AllZip}
use Rattle.std.specs.Option.{IsSomeAnd}
use Rattle.js_base.specs.declared.ids.HostId.{HostId}
use Rattle.label_lattice.specs.Label.{IsTrustedBy}
use Rattle.host_decl.specs.Hosts.{HostsShape}
use Rattle.jif_tree.specs.LabelRules.{declared_labels, IsWellLabelled, variable_labels}
use Rattle.jif_tree.specs.Labelling.{AreLabelledMethods}
use Rattle.jif_tree.specs.Numbering.{CountsFrom, statement_numbers}
use Rattle.jif_tree.specs.WellNumbered.{IsWellNumbered}
use Rattle.need_labels.specs.Needs.{AreNeedsOf}
use Rattle.split_rules.specs.Placed.{PlacedProgram}

-- a host is trusted for a need
abbrev pub IsTrustedHost : HostsShape → ℕ → HostId → Type 0
IsTrustedHost hosts need host = IsSomeAnd (slice_get hosts.hosts host.0) (λ row. IsTrustedBy row.label need)

-- The program passes the label check, and each statement's host is trusted for the statement's own need.
pub record IsAllowed (placed : PlacedProgram) : Type 0 where
  pub numbered : IsWellNumbered placed.labelled.program
  pub statements : CountsFrom 0 (statement_numbers placed.labelled.program)
  pub well_labelled : IsWellLabelled placed.hosts.principals placed.labelled.program
  pub var_labels : placed.labelled.var_labels ≡ variable_labels placed.hosts.principals placed.labelled.program
  pub methods : AreLabelledMethods placed.hosts.principals placed.labelled.program
      (declared_labels placed.labelled.program)
      placed.labelled.program.methods
  pub needs_of : AreNeedsOf placed.hosts.principals placed.labelled placed.needs
  pub trusted : AllZip (IsTrustedHost placed.hosts) placed.needs.need placed.plan.statements
