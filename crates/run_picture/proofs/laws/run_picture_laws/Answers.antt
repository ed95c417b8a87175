use Rattle.std.proofs.Common.{refl, arith}
use Rattle.front_end.specs.PlacedCode.{code_of, program_of}
use Rattle.net_world.specs.Replay.{events_in}
use Rattle.run_rows.specs.Rows.{first_moment}
use Rattle.run_sheet.specs.ChartColumns.{chart_column}
use Rattle.run_sheet.specs.FieldMarks.{misbehaving_in}
use Rattle.script_stages.specs.FirstWorld.{first_world}
use Rattle.run_picture.specs.RunCharts.{source_of}
use Rattle.run_picture.proofs.AsReplay.{as_replay, refused_as_replay}
use Rattle.run_picture.proofs.Exposures.{exposed}
use Rattle.run_picture.proofs.OneRun.{RunLaws, run_once}
use Rattle.run_picture.proofs.ShownFields.{column_there, field_there}
use Rattle.run_picture.proofs.SomeRun.{run_some}
use Rattle.run_picture.proofs.laws.run_picture_laws.Goals as goal

run_laws : (c : goal.After-sheet_laws) → RunLaws
run_laws c = record {
  steps = record { one = c.step_laws.ensures.one; not_refused = c.step_laws.ensures.not_refused };
  ran = c.row_laws.ensures.ran;
  rows = c.row_laws.ensures.one;
}

pub returns-clause-one : goal.returns-clause-one
returns-clause-one c = run_once (run_laws c) c.source_laws.ensures.one_plan

pub returns-clause-some : goal.returns-clause-some
returns-clause-some c =
    run_some c.reason_laws.ensures.some_why c.step_laws.ensures.happens_or_refused c.script_laws.ensures.some_script
    c.source_laws.ensures.some_plan

pub returns-clause-as_replay : goal.returns-clause-as_replay
returns-clause-as_replay c = λ file placed first last said.
    as_replay (run_laws c) c.reason_laws.ensures.some_why file (code_of placed) first last said

pub returns-clause-refused_as_replay : goal.returns-clause-refused_as_replay
returns-clause-refused_as_replay c = refused_as_replay

pub returns-clause-kept : goal.returns-clause-kept
returns-clause-kept c = λ placed said rows last number field is there.
    let first = first_world placed said.bad said.start in
    c.sheet_laws.ensures.kept (code_of placed) last.world _ number field
    (exposed c.step_laws.ensures.misbehaving (program_of placed) said.bad said.start (events_in said.events) last.world
    (c.row_laws.ensures.ran (code_of placed) (first_moment first) last said.events rows is))
    there

pub returns-clause-shown : goal.returns-clause-shown
returns-clause-shown c = λ placed first rows last number field there within.
    let source = source_of placed first rows last in
    let bad = misbehaving_in (code_of placed) last.world in (
      chart_column source bad field.host,
      column_there source bad field.host within,
      field_there (code_of placed) last.world bad field.host 0 (code_of placed).fields number number field
          (omega arith) there refl,
    )
