use Rattle.std.proofs.Common.{◌∙◌, inl}
use Rattle.front_end.specs.Answers.{sink_change}
use Rattle.front_end.specs.Refusals.{refusal_shape}
use Rattle.front_end.proofs.Answering.{nothing_put, refuses_by_put}
use Rattle.front_end.proofs.answers.refuse.Goals as goal

pub returns-in-Ok : goal.returns-in-Ok
returns-in-Ok g c =
    let bytes_are = c.as_bytes.ensures.value ∙ c.in-Ok.ensures in
    refuses_by_put c.args.program.now (refusal_shape c.args.refusal.now) c.put-put.result c.status_after.result
    (sink_change g.E.Sink c.args.err.now c.status_after.new.err) (g.E.Sink.taken c.put-put.new.self)
    (g.E.Sink.faults c.put-put.new.self)
    (rw bytes_are at c.put-put.ensures.ok) (rw bytes_are at c.put-put.ensures.err)
    c.put-put.ensures.no_fault c.put-put.ensures.cause
    (rw c.status.ensures at c.status_after.ensures.ok) c.status_after.ensures.failed c.status_after.ensures.memory
    (rw c.requires at c.status_after.ensures.line) c.status_after.ensures.untouched

pub returns-in-Err : goal.returns-in-Err
returns-in-Err g c =
    inl (
      c.out_of_memory.ensures.status,
      (g.E.Sink.taken c.args.err.now, nothing_put _ _, rw c.requires at c.out_of_memory.ensures.line),
    )
