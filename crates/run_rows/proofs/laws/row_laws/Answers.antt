use Rattle.std.proofs.Common.{◌<◌, Bool, length, subst, sym}
use Rattle.std.specs.Prelude.{◌↔◌, IsSomeAnd, IsTrue, slice_get}
use Rattle.net_world.specs.Told.{message_made}
use Rattle.net_world.specs.Choice.{Runs}
use Rattle.net_world.specs.World.{state_at, mover, tokens_sent}
use Rattle.run_rows.proofs.StatesOf.{and_some}
use Rattle.run_rows.proofs.OneRow.{one_list}
use Rattle.run_rows.proofs.PicturedMore.{pictured_ran}
use Rattle.run_rows.proofs.RowLaws as law
use Rattle.run_rows.proofs.SeenAfter.{runs_there, waits_there}
use Rattle.run_rows.proofs.laws.row_laws.Goals as goal

pub returns-clause-ran : goal.returns-clause-ran
returns-clause-ran c = λ code world last said rows is. pictured_ran code world said rows last is

pub returns-clause-lines : goal.returns-clause-lines
returns-clause-lines c = law.lines

pub returns-clause-one : goal.returns-clause-one
returns-clause-one c = λ code at last ends said rows others.
    one_list code at last ends said rows others (c.reason_laws.ensures.one_why code)

pub returns-clause-take_ignored : goal.returns-clause-take_ignored
returns-clause-take_ignored c = λ code world next line place from to state flight row its there obeys.
    c.reason_laws.ensures.why_due code state from flight.message row.ignored
    (and_some (state_at world to) state _ obeys
    (and_some (slice_get (world.flying from to) place) flight _ there its.ignored))

pub returns-clause-act_ignored : goal.returns-clause-act_ignored
returns-clause-act_ignored c = λ code world next line from to made state taken row its makes obeys.
    c.reason_laws.ensures.why_due code state from taken row.ignored
    (and_some (state_at world to) state _ obeys
    (and_some (message_made (tokens_sent world) made) taken _ makes its.ignored))

pub returns-clause-told : goal.returns-clause-told
returns-clause-told c = law.told

pub returns-clause-pushed : goal.returns-clause-pushed
returns-clause-pushed c = law.pushed

pub returns-clause-taken_off : goal.returns-clause-taken_off
returns-clause-taken_off c = law.taken_off

pub returns-clause-same : goal.returns-clause-same
returns-clause-same c = law.same

pub returns-clause-first : goal.returns-clause-first
returns-clause-first c = law.first

pub returns-clause-runs : goal.returns-clause-runs
returns-clause-runs c = λ code world next said row is.
    subst (λ (runs : Bool). IsTrue runs ↔ Runs next (mover said.1)) (sym is.runs)
    (runs_there (state_at next (mover said.1)))

pub returns-clause-waits : goal.returns-clause-waits
returns-clause-waits c = λ code world next said row is.
    subst (λ (waits : Bool). IsTrue waits ↔ IsSomeAnd (state_at next (mover said.1)) (λ state. 0 < length state.waiting))
    (sym is.waits) (waits_there (state_at next (mover said.1)))
