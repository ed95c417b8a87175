use Rattle.record_merge.proofs.ReadJournals.{journal_more, sound_more, few_more}
use Rattle.record_merge.proofs.reading.read_journals.Goals as goal

pub loop-number-preserved : goal.loop-number-preserved
loop-number-preserved c =
    let read = rw c.as_slice.ensures.value at c.in-Ok.ensures.read in
    record {
      read = journal_more c.loop-number.all.items _ c.in-Ok.lines c.args.journals.now c.loop-number.number _
          c.index-journals-number.result _ c.loop-number-test.true c.index-journals-number.is read.1
          c.in_ok-push-in-Ok.ensures.items c.loop-number.invariant.read;
      sound = sound_more c.args.code.now c.args.journals.now c.loop-number.number _ c.index-journals-number.result
          c.loop-number-test.true c.index-journals-number.is read.0 c.loop-number.invariant.sound;
      few = few_more c.loop-number.all.items _ c.in-Ok.lines c.loop-number.number c.in_ok-push-in-Ok.ensures.items
          c.in-Ok.ensures.few c.loop-number.invariant.few;
    }
