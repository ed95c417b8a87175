use Rattle.std.proofs.Common.{◌∙◌, ◌+◌, arith}
use Rattle.host_core.specs.Host.{state_of}
use Rattle.host_core.specs.Start.{host_at_start}
use Rattle.host_core.specs.Told.{told_key}
use Rattle.record_merge.specs.JournalLines.{journal_of}
use Rattle.journal_player.specs.Playing.{IsPlayRefusal}
use Rattle.journal_player.proofs.Played.{error_on, line_here, refused_by, played_more, played_whole, still_within}
use Rattle.journal_player.proofs.player.play_all.Goals as goal

pub loop-place-preserved : goal.loop-place-preserved
loop-place-preserved c =
    let lines = c.args.lines.now in
    let place = c.loop-place.place in
    let more = c.in_ok-more.more in
    let before = c.loop-place.invariant in
    let within = c.loop-place-test.true in
    let ensured = c.in_ok-more.ensures in
    let made = ensured.made in
    let counted = ensured.counts.0 in
    let few = before.calls in
    record {
      within = still_within lines place more within ensured.few;
      own = ensured.own ∙ before.own;
      fits = ensured.fits;
      calls = omega (arith, counted, few);
      stopped = ensured.counts.1 ∙ before.stopped;
      played =
          played_more c.args.code.now (host_at_start c.args.code.now c.args.store.now told_key c.args.me)
          (state_of c.loop-place.host) (state_of c.play_line.new.host) (journal_of lines) _ place (place + 1 + more)
          more _ made.0 before.played (line_here lines place _ within) (omega arith) before.fits.state made.1 made.2;
    }

pub returns-clause-played : goal.returns-clause-played
returns-clause-played c =
    let past = c.loop-place-test.false in
    played_whole c.args.code.now (host_at_start c.args.code.now c.args.store.now told_key c.args.me)
    (state_of c.loop-place.host) c.args.lines.now c.loop-place.place (omega (arith, past))
    c.loop-place.invariant.played

pub returns-in_err-more-clause-refused : goal.returns-in_err-more-clause-refused
returns-in_err-more-clause-refused c =
    let start = host_at_start c.args.code.now c.args.store.now told_key c.args.me in
    error_on (IsPlayRefusal c.args.code.now start c.args.lines.now) c.in_err-more.field-0.0
    c.from_residual-in_err-more.result c.from_residual-in_err-more.ensures
    (refused_by c.args.code.now start (state_of c.loop-place.host) c.args.lines.now c.loop-place.place _
    c.in_err-more.field-0.0 c.loop-place-test.true c.loop-place.invariant.played c.in_err-more.ensures.refused)
