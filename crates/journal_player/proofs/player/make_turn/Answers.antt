use Rattle.std.proofs.Common.{rules, subst, arith}
use Rattle.std.proofs.lemmas.Grind.{common_steps}
use Rattle.host_core.specs.Host.{Outcome, state_of}
use Rattle.host_core.specs.Told.{IsToldTurn}
use Rattle.record_merge.specs.JournalLines.{journal_of}
use Rattle.journal_player.proofs.Played.{chosen_turn}
use Rattle.journal_player.proofs.player.make_turn.Goals as goal

pub returns-in-Ok-clause-made : goal.returns-in-Ok-clause-made
returns-in-Ok-clause-made c =
    let outcome : Outcome = record { state = state_of c.turn.new.self; sent = c.turn.new.sent } in
    record {
      runs = first_of (search rules, grind (arith, common_steps));
      told =
          chosen_turn c.args.code.now (state_of c.args.host.now) c.turns_next-passes.result
          c.is_open_turn-open.result outcome (journal_of c.args.others.now) c.is_open_turn-open.ensures.open
          c.turns_next-passes.ensures
          (subst (λ host. IsToldTurn c.args.code.now (state_of host) c.turns_next-passes.result outcome)
          c.is_open_turn-open.ensures.same c.in-Ok.ensures.ok);
    }
