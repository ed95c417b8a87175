-- Plans: on which host each field and each statement stands. The host of a branch or a loop evaluates its guard, and
-- that of a method's head is the method's home.
use Rattle.std.specs.Prelude.{List, slice_get, unwrap_or}
use Rattle.js_base.specs.declared.ids.FieldId.{FieldId}
use Rattle.js_base.specs.declared.ids.HostId.{HostId}
use Rattle.js_base.specs.declared.ids.StmtId.{StmtId}

-- the hosts of the fields and of the statements, by their numbers
pub record PlanShape : Type 0 where
  pub fields : List HostId
  pub statements : List HostId

abbrev pub first_host : HostId
first_host = record { 0 = 0 }

abbrev pub field_host : PlanShape → FieldId → HostId
field_host plan field = unwrap_or (slice_get plan.fields field.0) first_host

abbrev pub statement_host : PlanShape → StmtId → HostId
statement_host plan statement = unwrap_or (slice_get plan.statements statement.0) first_host
