use Rattle.std.proofs.Common.{◌≡◌, ℕ}
use Rattle.std.proofs.lemmas.Result.{IfOk-weaker}
use Rattle.net_world.specs.Released.{OneIsFront}
use Rattle.run_comparison.specs.Compare.{GoApart, holds}
use Rattle.run_comparison.specs.FollowedRuns.{run_with}
use Rattle.net_world.specs.Replay.{events_in}
use Rattle.front_end.specs.Verdicts.{events_differ}
use Rattle.run_comparison.proofs.CompareDue.{premise_stops}
use Rattle.run_comparison.proofs.comparing.same_events.Goals as goal

pub returns-in-None : goal.returns-in-None
returns-in-None c = λ last last_too.
    holds (rw (c.deref.ensures.value, c.deref-2.ensures.value) at c.in-None.ensures)

pub returns-in-Some : goal.returns-in-Some
returns-in-Some c = λ last last_too.
    let one = (run_with c.args.one.now last).seen in
    let other = (run_with c.args.other.now last_too).seen in
    premise_stops (OneIsFront (events_in one) (events_in other))
    (λ verdict. (line : ℕ) × GoApart one other line × (verdict ≡ events_differ c.args.name.now line))
    c.at_line.result c.stopped.result
    (IfOk-weaker c.at_line.result _ _ (λ verdict is. (
      c.in-Some.line,
      rw (c.deref.ensures.value, c.deref-2.ensures.value) at c.in-Some.ensures,
      is,
    ))
    c.at_line.ensures)
    c.stopped.ensures
