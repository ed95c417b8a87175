use Rattle.jifmerge.proofs.LoadedWords.{pair_more, pairs_end}
use Rattle.jifmerge.proofs.due.asked_files.Goals as goal

pub loop-place-preserved : goal.loop-place-preserved
loop-place-preserved c =
    rw c.in_ok-push.ensures.items
    (pair_more c.args.words.now c.loop-place.place c.index-words-place.result c.loop-place.asked.items _ _
    c.loop-place-test.true c.index-words-place.is c.as_str.ensures.value c.most_of-most.ensures c.loop-place.invariant)

pub returns : goal.returns
returns c =
    pairs_end c.args.words.now c.loop-place.place c.loop-place.asked.items _ c.loop-place-test.false
    c.loop-place.invariant
