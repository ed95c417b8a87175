-- A message that went to the left, past the lifeline of another host, and was taken in a later row.
use Rattle.std.specs.Prelude.{false, true, List, [], ◌∷◌}
use Rattle.js_base.specs.declared.ids.HostId.{HostId}
use Rattle.run_chart.specs.declared.arrows.ChartArrow.{ChartArrow}
use Rattle.run_chart.specs.declared.columns.ChartColumn.{ChartColumn}
use Rattle.run_chart.specs.declared.rows.ChartPlace.{ChartPlace}
use Rattle.run_chart.specs.declared.sheet.Start.{Start}

abbrev pub sample_columns : List ChartColumn
sample_columns =
    record { left = 55; middle = 164; width = 218; wide = true; before = 200; behind = 243 }
    ∷ record { left = 305; middle = 407; width = 204; wide = true; before = 243; behind = 269 }
    ∷ record { left = 541; middle = 676; width = 270; wide = true; before = 269; behind = 200 } ∷ []

-- the row in which it was sent, and the one in which it was taken
abbrev pub sample_places : List ChartPlace
sample_places =
    record { start = 206; line = 218; begin = 218; end = 226 }
    ∷ record { start = 298; line = 314; begin = 319; end = 322 } ∷ []

abbrev pub sample_start : Start
sample_start = record { row = 0; lane = 0 }

abbrev pub sample_sender : HostId
sample_sender = record { 0 = 2 }

abbrev pub sample_taker : HostId
sample_taker = record { 0 = 0 }

-- from beside the right lifeline at the height where it was sent, down beside this to the line of the row in which it
-- was taken, and along this line to before the left lifeline
abbrev pub sample_arrow : ChartArrow
sample_arrow = record {
  right = false;
  tipped = true;
  dot = 673;
  begin = 218;
  at = 666;
  line = 314;
  end = 175;
  tip = 169;
  beside = 658;
  above = 310;
  room = 35;
}
