use Rattle.std.proofs.Common.{refl}
use Rattle.plan_layout.proofs.Clear as clear
use Rattle.plan_layout.proofs.Gaps as gaps
use Rattle.plan_layout.proofs.Tracks as tracks
use Rattle.plan_layout.proofs.laws.layout_laws.Goals as goal

pub returns-clause-columns_apart : goal.returns-clause-columns_apart
returns-clause-columns_apart c = λ from widths lines i j lt within. (gaps.room lines from widths i j lt within).1

pub returns-clause-rows_apart : goal.returns-clause-rows_apart
returns-clause-rows_apart c = gaps.rows_apart

pub returns-clause-across : goal.returns-clause-across
returns-clause-across c = clear.across_clear

pub returns-clause-along : goal.returns-clause-along
returns-clause-along c = clear.along_clear

pub returns-clause-into : goal.returns-clause-into
returns-clause-into c = clear.into_clear

pub returns-clause-tracks : goal.returns-clause-tracks
returns-clause-tracks c = tracks.apart

pub returns-clause-sides : goal.returns-clause-sides
returns-clause-sides c = tracks.sides_apart

pub returns-clause-worked_columns : goal.returns-clause-worked_columns
returns-clause-worked_columns c = refl

pub returns-clause-worked_end : goal.returns-clause-worked_end
returns-clause-worked_end c = refl

pub returns-clause-worked_tracks : goal.returns-clause-worked_tracks
returns-clause-worked_tracks c = refl
