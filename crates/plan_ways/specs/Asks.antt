-- What the instructions of a code ask of other hosts, with no word on where control stands.
use Rattle.std.specs.Prelude.{ℕ, ◌+◌, ◌==◌, Bool, true, false, List, [], ◌∷◌, ◌++◌, length, Option, Some, None}
use Rattle.std.specs.Prelude.{if◌then◌else◌}
use Rattle.std.specs.List.{flat_map, range_with_len}
use Rattle.js_base.specs.declared.ids.HostId.{HostId}
use Rattle.js_base.specs.declared.ids.StmtId.{StmtId}
use Rattle.host_code.specs.Code.{CodeShape, instruction_at, part_of}
use Rattle.host_code.specs.declared.instruction.Instr.{Instr}
use Rattle.host_code.specs.declared.instruction.Op.{Op}
use Rattle.host_code.specs.declared.instruction.Op.TheVariants as op
use Rattle.need_labels.specs.Plan.{PlanShape, field_host}
use Rattle.plan_ways.specs.Ends.{kept}
use Rattle.plan_ways.specs.Ways.{SheetShape, asked_by}
use Rattle.plan_ways.specs.declared.ends.Way.{Way}
use Rattle.plan_ways.specs.declared.ends.WayKind.{WayKind}
use Rattle.plan_ways.specs.declared.ends.WayKind.TheVariants as kind
use Rattle.plan_ways.specs.declared.ends.WayText.{WayText}
use Rattle.plan_ways.specs.declared.ends.WayText.TheVariants as what
use Rattle.plan_ways.specs.declared.stands.Place.{Place}

-- the instruction of this number of a host, made for this statement, has something go from a host to a host
pub record Request : Type 0 where
  pub kind : WayKind
  pub statement : StmtId
  pub host : HostId
  pub at : ℕ
  pub from : HostId
  pub to : HostId
  pub what : WayText
  pub rides : Bool

-- what stays on its host is not asked of another
abbrev pub between : Request → List Request
between request = if request.from.0 == request.to.0 then [] else request ∷ []

-- Fields are read and set, variables are sent, entries are pushed on other hosts, control is handed on, and methods are
-- called, on other hosts or on the same.
abbrev pub requests_of : PlanShape → HostId → ℕ → StmtId → Op → List Request
requests_of plan host at statement (op.Read field index) = between (record {
  kind = kind.Get;
  statement = statement;
  host = host;
  at = at;
  from = field_host plan field;
  to = host;
  what = what.Field field;
  rides = false;
})
requests_of plan host at statement (op.Put field index value) = between (record {
  kind = kind.Set;
  statement = statement;
  host = host;
  at = at;
  from = host;
  to = field_host plan field;
  what = what.Field field;
  rides = false;
})
requests_of plan host at statement (op.Send variable to) = between (record {
  kind = kind.Forward;
  statement = statement;
  host = host;
  at = at;
  from = host;
  to = to;
  what = what.Variable variable;
  rides = false;
})
requests_of plan host at statement (op.Pass variable to) = between (record {
  kind = kind.Forward;
  statement = statement;
  host = host;
  at = at;
  from = host;
  to = to;
  what = what.Variable variable;
  rides = false;
})
requests_of plan host at statement (op.Ask entry on) = between (record {
  kind = kind.Sync;
  statement = statement;
  host = host;
  at = at;
  from = host;
  to = on;
  what = what.Entry entry;
  rides = false;
})
requests_of plan host at statement (op.Go entry on) = between (record {
  kind = kind.Go;
  statement = statement;
  host = host;
  at = at;
  from = host;
  to = on;
  what = what.Entry entry;
  rides = false;
})
requests_of plan host at statement (op.GoWith entry on riders) = between (record {
  kind = kind.Go;
  statement = statement;
  host = host;
  at = at;
  from = host;
  to = on;
  what = what.Entry entry;
  rides = true;
})
requests_of plan host at statement (op.Call entry on) = record {
  kind = kind.Go;
  statement = statement;
  host = host;
  at = at;
  from = host;
  to = on;
  what = what.Method entry;
  rides = false;
} ∷ []
requests_of plan host at statement (op.CallWith entry on riders) = record {
  kind = kind.Go;
  statement = statement;
  host = host;
  at = at;
  from = host;
  to = on;
  what = what.Method entry;
  rides = true;
} ∷ []
requests_of plan host at statement other = []

-- of these instructions of a host, of which the first has this number
abbrev pub requests_from : PlanShape → HostId → ℕ → List Instr → List Request
requests_from plan host at [] = []
requests_from plan host at (instruction ∷ others) =
    requests_of plan host at instruction.statement instruction.op ++ requests_from plan host (at + 1) others

abbrev pub requests_on : CodeShape → PlanShape → ℕ → List Request
requests_on code plan number =
    requests_from plan (record { 0 = number }) 0 (part_of code (record { 0 = number }))

-- of all hosts and instructions, in order
abbrev pub code_requests : CodeShape → PlanShape → List Request
code_requests code plan = flat_map (requests_on code plan) (range_with_len 0 (length code.hosts))

-- ---- of ways

-- what a way says without its ends
abbrev pub request_of : Way → Request
request_of way = record {
  kind = way.kind;
  statement = way.statement;
  host = way.host;
  at = way.at;
  from = way.from;
  to = way.to;
  what = way.what;
  rides = way.rides;
}

abbrev pub is_sent : WayText → Bool
is_sent (what.Result variable) = false
is_sent other = true

abbrev pub is_asking : WayKind → WayText → Bool
is_asking kind.Back what = false
is_asking kind.Forward what = is_sent what
is_asking other what = true

-- whether an instruction asks for the way, and it is neither that of a result nor that of a token that is given back
abbrev pub is_asked : Way → Bool
is_asked way = is_asking way.kind way.what

-- a way, where its ends are two
abbrev pub apart : Way → List Way
apart way = kept (Some way)

-- the way of what is asked at a place, also where its ends are one
abbrev pub listed : Option Way → List Way
listed None = []
listed (Some way) = way ∷ []

abbrev pub asked_there : SheetShape → Place → Option Instr → List Way
asked_there sheet place None = []
asked_there sheet place (Some instruction) = listed (asked_by sheet place instruction)

abbrev pub asked_at : SheetShape → Place → List Way
asked_at sheet place = asked_there sheet place (instruction_at sheet.code place.host place.at)

abbrev pub asked_ways : SheetShape → List Place → List Way
asked_ways sheet places = flat_map (asked_at sheet) places
