-- What the sheet of a run is made of.
use Rattle.std.specs.Prelude.{ℕ, Bool, List, map, length, All}
use Rattle.std.specs.List.{range_with_len}
use Rattle.host_code.specs.Code.{CodeShape}
use Rattle.js_base.specs.declared.ids.HostId.{HostId}
use Rattle.net_world.specs.Fits.{WorldFits, world_of}
use Rattle.net_world.specs.World.{WorldShape, state_at}
use Rattle.principals.specs.ActsFor.{Declared}
use Rattle.run_rows.specs.Rows.{WhatFits, runs_in}
use Rattle.run_rows.specs.declared.row.Row.{Row}
use Rattle.statement_texts.specs.Texts.{StatementTextShape, statement_text_shape}
use Rattle.run_sheet.specs.declared.source.RunSource.{RunSource}

-- The code that ran, who is declared, the statements by number with their lines, the rows of the events, the numbers of
-- the events that sent what is in flight at the end, on which hosts a thread ran before the first event, and the world
-- at the end. Who misbehaves is who has no state there.
pub record RunSourceShape : Type 0 where
  pub code : CodeShape
  pub principals : Declared
  pub texts : List StatementTextShape
  pub lines : List ℕ
  pub rows : List Row
  pub senders : List (List ℕ)
  pub running : List Bool
  pub world : WorldShape

-- so many hosts, by number
abbrev pub hosts_below : ℕ → List HostId
hosts_below count = map (λ number. record { 0 = number }) (range_with_len 0 count)

abbrev pub hosts_in : CodeShape → List HostId
hosts_in code = hosts_below (length code.hosts)

-- on which hosts of a code a thread runs
abbrev pub running_in : CodeShape → WorldShape → List Bool
running_in code world = map (λ host. runs_in (state_at world host)) (hosts_in code)

-- ---- in the program

abbrev pub run_source_shape : RunSource → RunSourceShape
run_source_shape source = record {
  code = source.code.now;
  principals = source.principals.now;
  texts = map statement_text_shape source.texts.now;
  lines = source.lines.now;
  rows = source.rows.now;
  senders = source.senders.now;
  running = source.running.now;
  world = world_of source.world.now;
}

-- the world and what the rows name are of the code
pub record SourceFits (source : RunSource) : Type 0 where
  pub world : WorldFits source.code.now source.world.now
  pub rows : All (λ row. WhatFits source.code.now row.what) source.rows.now
