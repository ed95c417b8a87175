use Rattle.std.proofs.Common.{sym, ap, ◌∙◌, Some, add-one}
use Rattle.std.proofs.lemmas.Bool.{false≢true}
use Rattle.std.proofs.lemmas.Option.{slice_get-get_or}
use Rattle.run_comparison.proofs.AlikeLists.{alike_by_length, differ_at, past_one, same_more, within_both}
use Rattle.run_comparison.proofs.comparing.first_difference.Goals as goal

pub returns-then-not-is_same_sent : goal.returns-then-not-is_same_sent
returns-then-not-is_same_sent c =
    let both = within_both c.loop-place.place _ _ _ c.min-place-end.ensures c.loop-place-test.true in
    differ_at c.args.one.now c.args.other.now c.loop-place.place _ _
    (slice_get-get_or c.args.one.now c.loop-place.place _ both.0 ∙ ap Some (sym c.index-one-place.is))
    (slice_get-get_or c.args.other.now c.loop-place.place _ both.1 ∙ ap Some (sym c.index-other-place.is))
    (λ same. false≢true (sym c.if-not-is_same_sent.true ∙ c.is_same_sent.ensures.1 same))
    c.loop-place.invariant

pub loop-place-preserved : goal.loop-place-preserved
loop-place-preserved c =
    let both = within_both c.loop-place.place _ _ _ c.min-place-end.ensures c.loop-place-test.true in
    rw add-one (same_more c.args.one.now c.args.other.now c.loop-place.place _ _
    (slice_get-get_or c.args.one.now c.loop-place.place _ both.0 ∙ ap Some (sym c.index-one-place.is))
    (slice_get-get_or c.args.other.now c.loop-place.place _ both.1 ∙ ap Some (sym c.index-other-place.is))
    (c.is_same_sent.ensures.0 c.if-not-is_same_sent.false) c.loop-place.invariant)

pub returns : goal.returns
returns c =
    alike_by_length c.args.one.now c.args.other.now c.loop-place.place c.loop-place.invariant
    (past_one c.loop-place.place _ _ _ c.min-place-end.ensures c.loop-place-test.false)
