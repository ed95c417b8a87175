use Rattle.host_core.specs.Host.{state_of}
use Rattle.record_merge.specs.JournalLines.{journal_of}
use Rattle.journal_player.proofs.Played.{chosen_taking}
use Rattle.journal_player.proofs.player.make_take.Goals as goal

pub returns-in-Ok-clause-made : goal.returns-in-Ok-clause-made
returns-in-Ok-clause-made c =
    let found = rw c.in-Some.is at c.in_ok-from.ensures.some in
    record {
      from = c.in-Some.from;
      message = c.in-Some.message;
      line_is = found.1;
      may = found.0;
      told =
          chosen_taking c.args.code.now (state_of c.args.host.now) c.in-Some.from c.in-Some.message
          c.turns_next-passes.result c.is_open_taking-open.result _ (journal_of c.args.others.now)
          c.is_open_taking-open.ensures c.turns_next-passes.ensures c.in-Ok.ensures.ok;
    }
