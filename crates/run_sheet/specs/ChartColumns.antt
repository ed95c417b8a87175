-- The hosts of a chart, each with its fields.
use Rattle.std.specs.Prelude.{ℕ, false, List, [], map, Option, Some, None, slice_get, unwrap_or}
use Rattle.host_code.specs.Code.{CodeHostShape}
use Rattle.host_code.specs.MessageText.{host_text}
use Rattle.js_base.specs.declared.ids.HostId.{HostId}
use Rattle.label_lattice.specs.Printed.{printed_label}
use Rattle.net_world.specs.World.{misbehaves}
use Rattle.principals.specs.ActsFor.{Declared}
use Rattle.run_chart.specs.Sheets.{ChartHostShape}
use Rattle.run_sheet.specs.FieldMarks.{chart_fields}
use Rattle.run_sheet.specs.RunSources.{RunSourceShape, hosts_in}

abbrev pub label_words : Declared → Option CodeHostShape → List ℕ
label_words principals None = []
label_words principals (Some host) = printed_label principals host.label

-- a host, where these misbehave
abbrev pub chart_column : RunSourceShape → (bad : List HostId) → HostId → ChartHostShape
chart_column source bad host = record {
  name = host_text source.code host;
  label = label_words source.principals (slice_get source.code.hosts host.0);
  misbehaves = misbehaves source.world host;
  runs = unwrap_or (slice_get source.running host.0) false;
  fields = chart_fields source.code source.world bad host 0 source.code.fields;
}

abbrev pub chart_columns : RunSourceShape → (bad : List HostId) → List ChartHostShape
chart_columns source bad = map (chart_column source bad) (hosts_in source.code)
