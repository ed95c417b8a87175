-- What the hosts that misbehave may affect, and what they leave as it was.
use Rattle.std.specs.Prelude.{◌≡◌, ◌⊎◌, ℕ, ◌+◌, ℤ, ◌==◌, if◌then◌else◌, List, [], ◌∷◌, ◌++◌, map, Some, IsSomeAnd}
use Rattle.std.specs.Prelude.{slice_get}
use Rattle.std.specs.Int.{bit_at}
use Rattle.js_base.specs.declared.ids.HostId.{HostId}
use Rattle.js_base.specs.declared.ids.FieldId.{FieldId}
use Rattle.js_base.specs.declared.ids.FrameId.{FrameId}
use Rattle.js_base.specs.declared.ids.VarId.{VarId}
use Rattle.label_lattice.specs.declared.label.Label.{Label}
use Rattle.host_decl.specs.Hosts as declared_hosts
use Rattle.jif_tree.specs.Altered.{Exposure, FieldIsAffected, VariableIsAffected}
use Rattle.jif_tree.specs.Store.{row_of}
use Rattle.host_code.specs.Code.{CodeShape, CodeFieldShape}
use Rattle.host_core.specs.Host.{HostState}
use Rattle.net_world.specs.World.{WorldShape, state_at}
use Rattle.split_rules.specs.Placed.{PlacedProgram}

-- ---- who misbehaves

-- of hosts from a number on, the labels of those whose bit is set
abbrev pub bad_labels : ℕ → ℕ → List declared_hosts.HostShape → List Label
bad_labels bad number [] = []
bad_labels bad number (row ∷ rows) =
    (if bit_at bad number == 1 then row.label ∷ [] else []) ++ bad_labels bad (number + 1) rows

-- what the hosts of the word's bits may affect
abbrev pub exposure_of : PlacedProgram → ℕ → Exposure
exposure_of placed bad = record {
  bad = bad_labels bad 0 placed.hosts.hosts;
  fields = map (λ field. field.label) placed.labelled.program.fields;
  variables = placed.labelled.var_labels;
  needs = placed.needs.need;
}

-- ---- what they leave

-- each field and each variable of a host is as it was, or may be affected
pub record IsAsBefore (exposure : Exposure) (old new : HostState) : Type 0 where
  pub rows : (field : FieldId) →
      (row_of new.rows field.0 ≡ row_of old.rows field.0) ⊎ FieldIsAffected exposure field
  pub variables : (frame : FrameId) (x : VarId) →
      (new.variables frame x ≡ old.variables frame x) ⊎ VariableIsAffected exposure x

-- so it is on each obeying host, and these hosts obeyed before
abbrev pub AreAsBefore : Exposure → WorldShape → WorldShape → Type 0
AreAsBefore exposure world after = (host : HostId) (new : HostState) → state_at after host ≡ Some new →
    IsSomeAnd (state_at world host) (λ old. IsAsBefore exposure old new)

-- each field on an obeying host that may not be affected has there what the store has
abbrev pub FieldsStand : CodeShape → Exposure → WorldShape → List (List ℤ) → Type 0
FieldsStand code exposure world store =
    (number : ℕ) (field : CodeFieldShape) (state : HostState) → slice_get code.fields number ≡ Some field →
    state_at world field.host ≡ Some state → ¬ FieldIsAffected exposure (record { 0 = number }) →
    row_of state.rows number ≡ row_of store number
