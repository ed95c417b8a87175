use Rattle.std.proofs.Common.{◌≡◌, ◌++◌, drop, map}
use Rattle.net_world.specs.Fits.{world_of}
use Rattle.run_chart.specs.Sheets.{chart_field_shape}
use Rattle.run_sheet.specs.FieldMarks.{chart_fields}
use Rattle.run_sheet.proofs.fields.chart_fields.Given as goal

-- the fields so far, and those of the ones that are left, are all
abbrev pub invariant-loop-number : goal.invariant-loop-number
invariant-loop-number l =
    map chart_field_shape l.fields.items
    ++ chart_fields l.code (world_of l.world) l.bad l.host l.number (drop l.number l.code.fields)
    ≡ chart_fields l.code (world_of l.world) l.bad l.host 0 l.code.fields
