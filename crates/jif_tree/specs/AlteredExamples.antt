-- A configuration with a misbehaving host that principal 0 trusts, to see what the host may make of it.
use Rattle.std.specs.Prelude.{ℕ, pos, List, [], ◌∷◌}
use Rattle.js_base.specs.declared.ids.FieldId.{FieldId}
use Rattle.js_base.specs.declared.ids.VarId.{VarId}
use Rattle.label_lattice.specs.declared.label.Label.{Label}
use Rattle.label_lattice.specs.Lattice.{free_rows}
use Rattle.jif_tree.specs.declared.program.StmtKind as kind
use Rattle.jif_tree.specs.declared.program.Expr as expr
use Rattle.jif_tree.specs.SourceRun.{Item, run, Configuration}
use Rattle.jif_tree.specs.Altered.{Exposure}

-- trusted by the principals of a word
abbrev trusted_by : ℕ → Label
trusted_by word = record { rows = free_rows; trust = word }

-- a field that principal 0 trusts, and one that principal 1 trusts
abbrev pub field_of_0 : FieldId
field_of_0 = record { 0 = 0 }

abbrev pub field_of_1 : FieldId
field_of_1 = record { 0 = 1 }

-- and two such variables
abbrev pub variable_of_0 : VarId
variable_of_0 = record { 0 = 0 }

abbrev pub variable_of_1 : VarId
variable_of_1 = record { 0 = 1 }

-- Statement 0 is for principal 0, and statement 1 for principal 1.
abbrev pub one_bad : Exposure
one_bad = record {
  bad = trusted_by 1 ∷ [];
  fields = trusted_by 1 ∷ trusted_by 2 ∷ [];
  variables = trusted_by 1 ∷ trusted_by 2 ∷ [];
  needs = 1 ∷ 2 ∷ [];
}

abbrev pub none_bad : Exposure
none_bad = record one_bad { bad = [] }

-- a statement of `main` that writes 1 to a field
abbrev writes : ℕ → FieldId → Item
writes place field =
    run 0 (record { id = record { 0 = place }; line = 1; kind = kind.SetField field (expr.Number (pos 1)) })

abbrev pub for_0 : Item
for_0 = writes 0 field_of_0

abbrev pub for_1 : Item
for_1 = writes 1 field_of_1

-- the fields hold 5 and 7, and these items are pending
abbrev pub pending_with : List Item → Configuration
pending_with items = record {
  store = (pos 5 ∷ []) ∷ (pos 7 ∷ []) ∷ [];
  calls = record { caller = 0; method = 0; values = λ x. pos 0 } ∷ [];
  pending = items;
}
