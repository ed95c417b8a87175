-- What laws of costs speak of.
use Rattle.std.specs.Prelude.{◌≡◌, ◌<◌, All, length}
use Rattle.js_base.specs.declared.ids.FieldId.{FieldId}
use Rattle.js_base.specs.declared.ids.HostId.{HostId}
use Rattle.jif_tree.specs.Numbering.{statement_numbers}
use Rattle.need_labels.specs.Plan.{field_host, statement_host}
use Rattle.msg_cost.specs.Moves.{PlannedShape}

-- one host has all fields, all statements, and so all readers of variables
pub record StandsOn (planned : PlannedShape) (host : HostId) : Type 0 where
  pub fields : (field : FieldId) → field.0 < length planned.program.fields → field_host planned.plan field ≡ host
  pub statements : All (λ number. statement_host planned.plan (record { 0 = number }) ≡ host)
      (statement_numbers planned.program)
  pub readers : All (All (λ statement. statement_host planned.plan statement ≡ host)) planned.needs.readers
