-- What the chart of a run of a program in its places is drawn by, and its text.
use Rattle.std.specs.Prelude.{ℕ, Bool, List}
use Rattle.front_end.specs.PlacedCode.{code_of}
use Rattle.front_end.specs.PlacedSources.{PlacedSource}
use Rattle.host_code.specs.Code.{CodeFieldShape, CodeShape}
use Rattle.jif_tree.specs.Numbering.{statement_lines}
use Rattle.jif_tree.specs.Trees.{ProgramTree}
use Rattle.net_world.specs.World.{WorldShape}
use Rattle.principals.specs.ActsFor.{Declared}
use Rattle.run_chart.specs.Chart.{chart_text}
use Rattle.run_chart.specs.Sheets.{ChartFieldShape}
use Rattle.run_rows.specs.Rows.{Moment}
use Rattle.run_rows.specs.declared.row.Row.{Row}
use Rattle.run_sheet.specs.Charts.{chart_of}
use Rattle.run_sheet.specs.FieldMarks.{chart_field, misbehaving_in}
use Rattle.run_sheet.specs.RunSources.{RunSourceShape, running_in}
use Rattle.statement_texts.specs.Texts.{statement_texts}

-- of a program, over these principals, and its code: with the rows of a run, the numbers of the events that sent what
-- is in flight at its end, the hosts on which a thread ran before it, and the world at its end
abbrev pub source_by : ProgramTree → Declared → CodeShape → List Row → (senders : List (List ℕ)) →
    (running : List Bool) → (last : WorldShape) → RunSourceShape
source_by tree principals code rows senders running last = record {
  code = code;
  principals = principals;
  texts = statement_texts principals tree;
  lines = statement_lines tree;
  rows = rows;
  senders = senders;
  running = running;
  world = last;
}

-- of a program in its places
abbrev pub source_with : PlacedSource → List Row → (senders : List (List ℕ)) → (running : List Bool) →
    (last : WorldShape) → RunSourceShape
source_with placed = source_by placed.source.tree placed.source.file.principals (code_of placed)

-- A run of a program in its places, from the first world to the last moment, with these rows. Which hosts run is told
-- of the first world.
abbrev pub source_of : PlacedSource → (first : WorldShape) → List Row → (last : Moment) → RunSourceShape
source_of placed first rows last =
    source_with placed rows last.senders (running_in (code_of placed) first) last.world

-- the chart that is drawn by it
abbrev pub text_of : RunSourceShape → List ℕ
text_of source = chart_text (chart_of source)

-- what the chart shows of the field of a number, where events left this world
abbrev pub field_shown : PlacedSource → (last : WorldShape) → (number : ℕ) → CodeFieldShape → ChartFieldShape
field_shown placed last number field =
    chart_field (code_of placed) last (misbehaving_in (code_of placed) last) number field
