use Rattle.std.proofs.Common.{◌∙◌, add-one, ap, arith}
use Rattle.js_base.specs.Counts.{counted}
use Rattle.front_end.specs.Loads.{files_change}
use Rattle.front_end.proofs.Stages.{stops_weaker}
use Rattle.front_end.proofs.Stops.{counted_by_little, few_loads, held_in_front, name_at, one_more_given, stop_at}
use Rattle.front_end.proofs.load.load_all.Goals as goal

pub returns-in_err-push-in-Ok-clause-few : goal.returns-in_err-push-in-Ok-clause-few
returns-in_err-push-in-Ok-clause-few g c =
    few_loads c.loop-one.one-index _ _ _ _ c.loop-one.invariant.loads c.load.ensures.loads (omega arith)

pub returns-in-Err-clause-stopped : goal.returns-in-Err-clause-stopped
returns-in-Err-clause-stopped g c =
    stops_weaker _ _ c.due_at_stop.result
    (λ verdict is. stop_at _ c.loop-one.one-index _ (files_change g.F.Files c.args.files.now c.load.new.files) _ _
    c.in-Err.stop verdict
    (name_at c.args.asked.now c.loop-one.one-index _ (omega arith))
    (held_in_front _ c.args.asked.now c.loop-one.one-index c.loop-one.all.items c.loop-one.invariant.given_are)
    c.loop-one.invariant.loads c.loop-one.invariant.faults c.load.ensures.loads
    (rw c.loop-one.invariant.kept.held at c.in-Err.ensures.loaded) c.in-Err.ensures.faults is)
    c.due_at_stop.ensures

pub returns-in-Err-clause-few : goal.returns-in-Err-clause-few
returns-in-Err-clause-few g c =
    few_loads c.loop-one.one-index _ _ _ _ c.loop-one.invariant.loads c.load.ensures.loads (omega arith)

pub loop-one-preserved : goal.loop-one-preserved
loop-one-preserved g c = record {
  given_are = rw c.in_ok-push-in-Ok.ensures.items (one_more_given _ c.args.asked.now c.loop-one.one-index _
      c.loop-one.all.items c.in-Ok.loaded (omega arith) c.loop-one.invariant.given_are
      (rw c.loop-one.invariant.kept.held at c.in-Ok.ensures.loaded));
  loads = rw add-one (c.load.ensures.loads ∙ ap counted c.loop-one.invariant.loads);
  faults = c.in-Ok.ensures.faults ∙ c.loop-one.invariant.faults;
  kept = record {
    saves = c.load.ensures.saves ∙ c.loop-one.invariant.kept.saves;
    held = c.load.ensures.held ∙ c.loop-one.invariant.kept.held;
  };
}

pub returns-clause-few : goal.returns-clause-few
returns-clause-few g c =
    omega (arith, c.loop-one.invariant.loads, counted_by_little c.loop-one.one-index (g.F.Files.loads c.args.files.now))
