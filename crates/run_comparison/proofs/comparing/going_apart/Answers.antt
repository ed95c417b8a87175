use Rattle.std.proofs.Common.{sym, ◌∙◌}
use Rattle.std.proofs.lemmas.Bool.{false≢true}
use Rattle.run_comparison.proofs.AlikeLists.{alike_by_length, events_of, go_apart, past_events, same_events_more}
use Rattle.run_comparison.proofs.AlikeLists.{within_both}
use Rattle.run_comparison.proofs.comparing.going_apart.Goals as goal

pub returns-then-not-is_same_event : goal.returns-then-not-is_same_event
returns-then-not-is_same_event c =
    let both = within_both c.loop-place.place _ _ _ c.min-place-end.ensures c.loop-place-test.true in
    go_apart c.args.one.now c.args.other.now c.loop-place.place _ _ _ both.0 both.1
    (λ same. false≢true (sym c.if-not-is_same_event.true ∙ c.is_same_event.ensures.1 same))
    c.loop-place.invariant

pub loop-place-preserved : goal.loop-place-preserved
loop-place-preserved c =
    let both = within_both c.loop-place.place _ _ _ c.min-place-end.ensures c.loop-place-test.true in
    same_events_more c.args.one.now c.args.other.now c.loop-place.place _ _ both.0 both.1
    (c.is_same_event.ensures.0 c.if-not-is_same_event.false) c.loop-place.invariant

pub returns : goal.returns
returns c =
    alike_by_length (events_of c.args.one.now) (events_of c.args.other.now) c.loop-place.place c.loop-place.invariant
    (past_events c.args.one.now c.args.other.now c.loop-place.place _ c.min-place-end.ensures c.loop-place-test.false)
