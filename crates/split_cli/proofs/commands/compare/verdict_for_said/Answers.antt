use Rattle.std.proofs.Common.{inl, inr}
use Rattle.net_world.specs.Fits.{world_of}
use Rattle.run_comparison.specs.Compare.{DueForReadScripts, SameBits, SameValues, SameEvents, IsPromptRun}
use Rattle.run_comparison.specs.Followed.{EventsFollowed}
use Rattle.run_comparison.specs.FollowedRuns.{run_of}
use Rattle.front_end.specs.PlacedShapes.{placed_shape}
use Rattle.front_end.specs.Stages.{given, stopped}
use Rattle.run_comparison.proofs.CompareDue.{followed_as, misbehave_as, starts_as, compared_as, runs_due}
use Rattle.front_end.proofs.Stages.{due_handed_on, memory_ran_out, stops_weaker}
use Rattle.split_cli.proofs.commands.compare.verdict_for_said.Goals as goal

pub returns-in_err-table : goal.returns-in_err-table
returns-in_err-table c =
    memory_ran_out (DueForReadScripts (placed_shape c.args.placed.now) c.args.name.now c.args.one.now
    c.args.other_name.now
    c.args.other.now)
    c.from_residual.result c.from_residual.ensures

pub returns-in_err-world : goal.returns-in_err-world
returns-in_err-world c =
    memory_ran_out (DueForReadScripts (placed_shape c.args.placed.now) c.args.name.now c.args.one.now
    c.args.other_name.now
    c.args.other.now)
    c.from_residual-in_err-world.result c.from_residual-in_err-world.ensures

pub returns-in_err-run : goal.returns-in_err-run
returns-in_err-run c =
    due_handed_on (DueForReadScripts (placed_shape c.args.placed.now) c.args.name.now c.args.one.now
    c.args.other_name.now
    c.args.other.now)
    c.in_err-run.field-0.0 c.from_residual-in_err-run.result
    c.from_residual-in_err-run.ensures
    (stops_weaker (λ verdict. EventsFollowed c.args.name.now c.args.code.now c.in_ok-table.table
    (world_of c.in_ok-world.world)
    c.events.result.now (stopped verdict))
    (DueForReadScripts (placed_shape c.args.placed.now) c.args.name.now c.args.one.now c.args.other_name.now
    c.args.other.now)
    c.in_err-run.field-0.0
    (λ verdict was.
    inr (followed_as c.args.name.now (placed_shape c.args.placed.now) c.args.code.now c.args.one.now _ _ _
    (stopped verdict) c.requires.code c.in_ok-table.ensures c.in_ok-world.ensures.first c.events.ensures was))
    c.in_err-run.ensures.follow)

pub returns-in_err-other_world : goal.returns-in_err-other_world
returns-in_err-other_world c =
    memory_ran_out (DueForReadScripts (placed_shape c.args.placed.now) c.args.name.now c.args.one.now
    c.args.other_name.now
    c.args.other.now)
    c.from_residual-in_err-other_world.result c.from_residual-in_err-other_world.ensures

pub returns-in_err-other_run : goal.returns-in_err-other_run
returns-in_err-other_run c =
    due_handed_on (DueForReadScripts (placed_shape c.args.placed.now) c.args.name.now c.args.one.now
    c.args.other_name.now
    c.args.other.now)
    c.in_err-other_run.field-0.0 c.from_residual-in_err-other_run.result
    c.from_residual-in_err-other_run.ensures
    (stops_weaker (λ verdict. EventsFollowed c.args.other_name.now c.args.code.now c.in_ok-table.table
    (world_of c.in_ok-other_world.other_world) c.events-2.result.now (stopped verdict))
    (DueForReadScripts (placed_shape c.args.placed.now) c.args.name.now c.args.one.now c.args.other_name.now
    c.args.other.now)
    c.in_err-other_run.field-0.0
    (λ verdict was.
    inl (
      run_of c.in_ok-run.run',
      followed_as c.args.name.now (placed_shape c.args.placed.now) c.args.code.now c.args.one.now _ _ _
          (given (run_of c.in_ok-run.run')) c.requires.code c.in_ok-table.ensures c.in_ok-world.ensures.first
          c.events.ensures
          c.in_ok-run.ensures.follow,
      inr (followed_as c.args.other_name.now (placed_shape c.args.placed.now) c.args.code.now c.args.other.now _ _ _
          (stopped verdict) c.requires.code c.in_ok-table.ensures c.in_ok-other_world.ensures.first c.events-2.ensures
          was),
    ))
    c.in_err-other_run.ensures.follow)

pub returns-in_err-same_misbehave : goal.returns-in_err-same_misbehave
returns-in_err-same_misbehave c =
    due_handed_on (DueForReadScripts (placed_shape c.args.placed.now) c.args.name.now c.args.one.now
    c.args.other_name.now
    c.args.other.now)
    c.in_err-same_misbehave.field-0.0 c.from_residual-in_err-same_misbehave.result
    c.from_residual-in_err-same_misbehave.ensures
    (stops_weaker (λ verdict. SameBits c.bad.result c.bad-2.result (stopped verdict))
    (DueForReadScripts (placed_shape c.args.placed.now) c.args.name.now c.args.one.now c.args.other_name.now
    c.args.other.now)
    c.in_err-same_misbehave.field-0.0
    (λ verdict was.
    runs_due (placed_shape c.args.placed.now) c.args.code.now c.in_ok-table.table c.args.name.now c.args.one.now
    (run_of c.in_ok-run.run') c.args.other_name.now c.args.other.now (run_of c.in_ok-other_run.other_run) _ _ _ _
    verdict
    c.requires.code c.in_ok-table.ensures c.in_ok-world.ensures.first c.events.ensures c.in_ok-run.ensures.follow
    c.in_ok-other_world.ensures.first c.events-2.ensures c.in_ok-other_run.ensures.follow
    (inr (misbehave_as c.args.one.now c.args.other.now _ _ (stopped verdict) c.bad.ensures c.bad-2.ensures
    was)))
    c.in_err-same_misbehave.ensures)

pub returns-in_err-same_starts : goal.returns-in_err-same_starts
returns-in_err-same_starts c =
    due_handed_on (DueForReadScripts (placed_shape c.args.placed.now) c.args.name.now c.args.one.now
    c.args.other_name.now
    c.args.other.now)
    c.in_err-same_starts.field-0.0 c.from_residual-in_err-same_starts.result
    c.from_residual-in_err-same_starts.ensures
    (stops_weaker (λ verdict. SameValues c.args.code.now (world_of c.in_ok-world.world) c.start.result.now
    c.start-2.result.now (stopped verdict))
    (DueForReadScripts (placed_shape c.args.placed.now) c.args.name.now c.args.one.now c.args.other_name.now
    c.args.other.now)
    c.in_err-same_starts.field-0.0
    (λ verdict was.
    runs_due (placed_shape c.args.placed.now) c.args.code.now c.in_ok-table.table c.args.name.now c.args.one.now
    (run_of c.in_ok-run.run') c.args.other_name.now c.args.other.now (run_of c.in_ok-other_run.other_run) _ _ _ _
    verdict
    c.requires.code c.in_ok-table.ensures c.in_ok-world.ensures.first c.events.ensures c.in_ok-run.ensures.follow
    c.in_ok-other_world.ensures.first c.events-2.ensures c.in_ok-other_run.ensures.follow
    (inl (
      tt,
      misbehave_as c.args.one.now c.args.other.now _ _ (given tt) c.bad.ensures c.bad-2.ensures
          c.in_ok-same_misbehave.ensures,
      inr (starts_as (placed_shape c.args.placed.now) c.args.code.now (world_of c.in_ok-world.world) c.args.one.now
          c.args.other.now _ _ (stopped verdict) c.requires.code c.in_ok-world.ensures.first c.start.ensures
          c.start-2.ensures was),
    )))
    (c.in_err-same_starts.ensures c.args.code.now (world_of c.in_ok-world.world) c.start.result.now
    c.start-2.result.now
    c.unlike_field-unlike.ensures))

pub returns-in_err-same_events : goal.returns-in_err-same_events
returns-in_err-same_events c =
    due_handed_on (DueForReadScripts (placed_shape c.args.placed.now) c.args.name.now c.args.one.now
    c.args.other_name.now
    c.args.other.now)
    c.in_err-same_events.field-0.0 c.from_residual-in_err-same_events.result
    c.from_residual-in_err-same_events.ensures
    (stops_weaker (λ verdict. SameEvents c.args.name.now (run_of c.in_ok-run.run').run
    (run_of c.in_ok-other_run.other_run).run (stopped verdict))
    (DueForReadScripts (placed_shape c.args.placed.now) c.args.name.now c.args.one.now c.args.other_name.now
    c.args.other.now)
    c.in_err-same_events.field-0.0
    (λ verdict was.
    runs_due (placed_shape c.args.placed.now) c.args.code.now c.in_ok-table.table c.args.name.now c.args.one.now
    (run_of c.in_ok-run.run') c.args.other_name.now c.args.other.now (run_of c.in_ok-other_run.other_run) _ _ _ _
    verdict
    c.requires.code c.in_ok-table.ensures c.in_ok-world.ensures.first c.events.ensures c.in_ok-run.ensures.follow
    c.in_ok-other_world.ensures.first c.events-2.ensures c.in_ok-other_run.ensures.follow
    (inl (
      tt,
      misbehave_as c.args.one.now c.args.other.now _ _ (given tt) c.bad.ensures c.bad-2.ensures
          c.in_ok-same_misbehave.ensures,
      inl (
        tt,
        starts_as (placed_shape c.args.placed.now) c.args.code.now (world_of c.in_ok-world.world) c.args.one.now
            c.args.other.now _ _ (given tt) c.requires.code c.in_ok-world.ensures.first c.start.ensures
            c.start-2.ensures
            (c.in_ok-same_starts.ensures c.args.code.now (world_of c.in_ok-world.world) c.start.result.now
            c.start-2.result.now
            c.unlike_field-unlike.ensures),
        inr was,
      ),
    )))
    (c.in_err-same_events.ensures (world_of c.in_ok-run.run'.world) (world_of c.in_ok-other_run.other_run.world)))

pub returns-in_err-is_prompt : goal.returns-in_err-is_prompt
returns-in_err-is_prompt c =
    due_handed_on (DueForReadScripts (placed_shape c.args.placed.now) c.args.name.now c.args.one.now
    c.args.other_name.now
    c.args.other.now)
    c.in_err-is_prompt.field-0.0 c.from_residual-in_err-is_prompt.result
    c.from_residual-in_err-is_prompt.ensures
    (stops_weaker (λ verdict. IsPromptRun c.args.name.now (run_of c.in_ok-run.run').run (stopped verdict))
    (DueForReadScripts (placed_shape c.args.placed.now) c.args.name.now c.args.one.now c.args.other_name.now
    c.args.other.now)
    c.in_err-is_prompt.field-0.0
    (λ verdict was.
    runs_due (placed_shape c.args.placed.now) c.args.code.now c.in_ok-table.table c.args.name.now c.args.one.now
    (run_of c.in_ok-run.run') c.args.other_name.now c.args.other.now (run_of c.in_ok-other_run.other_run) _ _ _ _
    verdict
    c.requires.code c.in_ok-table.ensures c.in_ok-world.ensures.first c.events.ensures c.in_ok-run.ensures.follow
    c.in_ok-other_world.ensures.first c.events-2.ensures c.in_ok-other_run.ensures.follow
    (inl (
      tt,
      misbehave_as c.args.one.now c.args.other.now _ _ (given tt) c.bad.ensures c.bad-2.ensures
          c.in_ok-same_misbehave.ensures,
      inl (
        tt,
        starts_as (placed_shape c.args.placed.now) c.args.code.now (world_of c.in_ok-world.world) c.args.one.now
            c.args.other.now _ _ (given tt) c.requires.code c.in_ok-world.ensures.first c.start.ensures
            c.start-2.ensures
            (c.in_ok-same_starts.ensures c.args.code.now (world_of c.in_ok-world.world) c.start.result.now
            c.start-2.result.now
            c.unlike_field-unlike.ensures),
        inl (
          tt,
          c.in_ok-same_events.ensures (world_of c.in_ok-run.run'.world) (world_of c.in_ok-other_run.other_run.world),
          inr was,
        ),
      ),
    )))
    (c.in_err-is_prompt.ensures (world_of c.in_ok-run.run'.world)))

pub returns-in_err-is_prompt-2 : goal.returns-in_err-is_prompt-2
returns-in_err-is_prompt-2 c =
    due_handed_on (DueForReadScripts (placed_shape c.args.placed.now) c.args.name.now c.args.one.now
    c.args.other_name.now
    c.args.other.now)
    c.in_err-is_prompt-2.field-0.0 c.from_residual-in_err-is_prompt-2.result
    c.from_residual-in_err-is_prompt-2.ensures
    (stops_weaker (λ verdict. IsPromptRun c.args.other_name.now (run_of c.in_ok-other_run.other_run).run
    (stopped verdict))
    (DueForReadScripts (placed_shape c.args.placed.now) c.args.name.now c.args.one.now c.args.other_name.now
    c.args.other.now)
    c.in_err-is_prompt-2.field-0.0
    (λ verdict was.
    runs_due (placed_shape c.args.placed.now) c.args.code.now c.in_ok-table.table c.args.name.now c.args.one.now
    (run_of c.in_ok-run.run') c.args.other_name.now c.args.other.now (run_of c.in_ok-other_run.other_run) _ _ _ _
    verdict
    c.requires.code c.in_ok-table.ensures c.in_ok-world.ensures.first c.events.ensures c.in_ok-run.ensures.follow
    c.in_ok-other_world.ensures.first c.events-2.ensures c.in_ok-other_run.ensures.follow
    (inl (
      tt,
      misbehave_as c.args.one.now c.args.other.now _ _ (given tt) c.bad.ensures c.bad-2.ensures
          c.in_ok-same_misbehave.ensures,
      inl (
        tt,
        starts_as (placed_shape c.args.placed.now) c.args.code.now (world_of c.in_ok-world.world) c.args.one.now
            c.args.other.now _ _ (given tt) c.requires.code c.in_ok-world.ensures.first c.start.ensures
            c.start-2.ensures
            (c.in_ok-same_starts.ensures c.args.code.now (world_of c.in_ok-world.world) c.start.result.now
            c.start-2.result.now
            c.unlike_field-unlike.ensures),
        inl (
          tt,
          c.in_ok-same_events.ensures (world_of c.in_ok-run.run'.world) (world_of c.in_ok-other_run.other_run.world),
          inl (
            tt,
            c.in_ok-is_prompt.ensures (world_of c.in_ok-run.run'.world),
            inr was,
          ),
        ),
      ),
    )))
    (c.in_err-is_prompt-2.ensures (world_of c.in_ok-other_run.other_run.world)))

pub returns-in_err-compared : goal.returns-in_err-compared
returns-in_err-compared c =
    memory_ran_out (DueForReadScripts (placed_shape c.args.placed.now) c.args.name.now c.args.one.now
    c.args.other_name.now
    c.args.other.now)
    c.from_residual-in_err-compared.result c.from_residual-in_err-compared.ensures

pub returns : goal.returns
returns c =
    runs_due (placed_shape c.args.placed.now) c.args.code.now c.in_ok-table.table c.args.name.now c.args.one.now
    (run_of c.in_ok-run.run') c.args.other_name.now c.args.other.now (run_of c.in_ok-other_run.other_run) _ _ _ _
    _
    c.requires.code c.in_ok-table.ensures c.in_ok-world.ensures.first c.events.ensures c.in_ok-run.ensures.follow
    c.in_ok-other_world.ensures.first c.events-2.ensures c.in_ok-other_run.ensures.follow
    (inl (
      tt,
      misbehave_as c.args.one.now c.args.other.now _ _ (given tt) c.bad.ensures c.bad-2.ensures
          c.in_ok-same_misbehave.ensures,
      inl (
        tt,
        starts_as (placed_shape c.args.placed.now) c.args.code.now (world_of c.in_ok-world.world) c.args.one.now
            c.args.other.now _ _ (given tt) c.requires.code c.in_ok-world.ensures.first c.start.ensures
            c.start-2.ensures
            (c.in_ok-same_starts.ensures c.args.code.now (world_of c.in_ok-world.world) c.start.result.now
            c.start-2.result.now
            c.unlike_field-unlike.ensures),
        inl (
          tt,
          c.in_ok-same_events.ensures (world_of c.in_ok-run.run'.world) (world_of c.in_ok-other_run.other_run.world),
          inl (
            tt,
            c.in_ok-is_prompt.ensures (world_of c.in_ok-run.run'.world),
            inl (
              tt,
              c.in_ok-is_prompt-2.ensures (world_of c.in_ok-other_run.other_run.world),
              compared_as (placed_shape c.args.placed.now) _ _ _ _ _ _ _ _ _ c.sent.ensures c.sent-2.ensures
                  c.deref.ensures.value c.deref-2.ensures.value c.in_ok-compared.ensures,
            ),
          ),
        ),
      ),
    ))
