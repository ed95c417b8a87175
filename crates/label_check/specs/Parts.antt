-- What the parts of the check answer, so that they can be put in a row.
use Rattle.std.specs.Prelude.{◌≡◌, List, [], ◌∷◌, ◌++◌, map, All}
use Rattle.js_base.specs.declared.ids.StmtId.{StmtId}
use Rattle.js_base.specs.declared.ids.VarId.{VarId}
use Rattle.principals.specs.ActsFor.{Declared}
use Rattle.label_lattice.specs.declared.label.Label.{Label}
use Rattle.jif_tree.specs.LabelRules.{Constraint, Obligation, Meets, VariableLabels, StatementLabels}
use Rattle.jif_tree.specs.LabelRules.{obligations_of, flow_of, variable_label}
use Rattle.label_check.specs.declared.check_error.CheckError.{CheckError}
use Rattle.label_check.specs.Checking.{IsRefusedAmong}

-- what a statement asks for
abbrev pub asked : StmtId → List Constraint → List Obligation
asked statement constraints = map (λ constraint. record { statement = statement; constraint = constraint }) constraints

-- all of them are met
pub record AreMet (principals : Declared) (all : List Obligation) : Type 0 where
  pub each : All (Meets principals) all

-- the refusal is for these
pub record RefusesFor (principals : Declared) (all : List Obligation) (why : CheckError) : Type 0 where
  pub among : IsRefusedAmong principals all why

abbrev pub pcs_of : List StatementLabels → List Label
pcs_of statements = map (λ statement. statement.pc) statements

-- From statements to those that are left of them: with the program labels so far, what is left makes the same program
-- labels and leaves the same labels of the variables. What was asked for on the way was met.
pub record PassesStatements (principals : Declared)
    (pcs : List Label) (labels : VariableLabels) (all : List StatementLabels)
    (pcs_behind : List Label) (labels_behind : VariableLabels) (left : List StatementLabels) : Type 0 where
  pub same_pcs : pcs ++ pcs_of all ≡ pcs_behind ++ pcs_of left
  pub same_labels : labels ≡ labels_behind
  pub asks : List Obligation
  pub place : obligations_of all ≡ asks ++ obligations_of left
  pub met : AreMet principals asks

-- a flow for each label to the parameter at its place
abbrev pub flows_to_params : Label → VariableLabels → List Label → List VarId → List Constraint
flows_to_params pc labels [] params = []
flows_to_params pc labels (from ∷ others) [] = []
flows_to_params pc labels (from ∷ others) (param ∷ params) =
    flow_of pc from (variable_label labels param) ∷ flows_to_params pc labels others params
