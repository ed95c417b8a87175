-- What `check` answers.
use Rattle.std.specs.Prelude.{◌≡◌, ◌⊎◌, List, All, map, ⊤}
use Rattle.js_base.specs.declared.ids.PrincipalId.{PrincipalId}
use Rattle.principals.specs.ActsFor.{Declared, AreDeclared}
use Rattle.label_lattice.specs.declared.label.Label.{Label}
use Rattle.jif_tree.specs.declared.program.Program.{Program}
use Rattle.jif_tree.specs.declared.program.Checked.{Checked}
use Rattle.jif_tree.specs.Trees.{ProgramTree, program_tree}
use Rattle.jif_tree.specs.LabelRules.{Constraint, may_release, trusted, may_endorse, may_begin, may_flow, Obligation}
use Rattle.jif_tree.specs.LabelRules.{obligations, IsWellLabelled, IsFirstFailure, program_labels, variable_labels}
use Rattle.label_check.specs.declared.check_error.CheckError.{CheckError}
use Rattle.label_check.specs.declared.check_error.CheckError.TheVariants as error

-- by whose authority a method releases and endorses is declared
abbrev pub AreAuthorities : Declared → ProgramTree → Type 0
AreAuthorities principals program = All (λ method. AreDeclared principals method.authority) program.methods

-- the program is well labelled, and is handed back with the labels of its variables and of its statements
pub record IsChecked (principals : Declared) (program : Program) (checked : Checked) : Type 0 where
  pub kept : checked.program ≡ program
  pub well_labelled : IsWellLabelled principals (program_tree program)
  pub variables : checked.var_labels.items ≡ variable_labels principals (program_tree program)
  pub statements :
      checked.pc.items ≡ map (λ statement. statement.pc) (program_labels principals (program_tree program))

-- a statement asks for authority that its method does not have
abbrev pub AsksAuthority : Constraint → Type 0
AsksAuthority what =
    ((authority : List PrincipalId) × (from : Label) × (to : Label) × (what ≡ may_release authority from to))
    ⊎ ((authority : List PrincipalId) × (from : Label) × (to : Label) × (what ≡ may_endorse authority from to))

abbrev pub AsksTrust : Constraint → Type 0
AsksTrust what = (authority : List PrincipalId) × (pc : Label) × (what ≡ trusted authority pc)

-- which obligation a refusal tells
abbrev pub Tells : CheckError → Obligation → Type 0
Tells error.OutOfMemory failed = ⊥
Tells (error.BadFlow statement from to) failed =
    failed ≡ record { statement = statement; constraint = may_flow from to }
Tells (error.BadBegin statement pc begin) failed =
    failed ≡ record { statement = statement; constraint = may_begin pc begin }
Tells (error.NoAuthority statement) failed = (failed.statement ≡ statement) × AsksAuthority failed.constraint
Tells (error.WeakProgramLabel statement) failed = (failed.statement ≡ statement) × AsksTrust failed.constraint

-- the refusal tells the first of these obligations that fails, unless memory ran out
abbrev pub IsRefusedAmong : Declared → List Obligation → CheckError → Type 0
IsRefusedAmong principals all error.OutOfMemory = ⊤
IsRefusedAmong principals all why =
    (failed : Obligation) × IsFirstFailure principals all failed × Tells why failed

-- of the obligations of a program
abbrev pub IsLabelRefusedFor : Declared → ProgramTree → CheckError → Type 0
IsLabelRefusedFor principals program why = IsRefusedAmong principals (obligations principals program) why
