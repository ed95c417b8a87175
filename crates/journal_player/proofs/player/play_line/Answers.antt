use Rattle.std.proofs.Common.{sym, subst}
use Rattle.std.proofs.lemmas.Result.{IfOk-weaker}
use Rattle.host_core.specs.Host.{state_of}
use Rattle.event_text.specs.Lines.{words}
use Rattle.record_merge.specs.JournalLines.{journal_of}
use Rattle.journal_player.specs.Playing.{Makes}
use Rattle.journal_player.proofs.Played.{bad_next, makes_take, makes_turn}
use Rattle.journal_player.proofs.player.play_line.Goals.{then-is_turn_line+in_ok-sent, else-is_turn_line+in_ok-sent-2}
use Rattle.journal_player.proofs.player.play_line.Goals as goal

pub returns-clause-made : goal.returns-clause-made
returns-clause-made c =
    let code = c.args.code.now in
    let before = state_of c.args.host.now in
    let line = words c.args.line.bytes.now in
    let others = journal_of c.args.others.now in
    let sent = c.if-is_turn_line.sent in
    let makes : Makes code before line sent (state_of c.if-is_turn_line.host) others =
    elim c.if-is_turn_line.branch [
      | then-is_turn_line+in_ok-sent w ↦
          subst (λ host. Makes code before line sent (state_of host) others) (sym w.host-is)
          (subst (λ some. Makes code before line some (state_of w.make_turn.new.host) others) (sym w.sent-is)
          (makes_turn code before line _ (state_of w.make_turn.new.host) others
          (c.is_turn_line.ensures.0 w.if-is_turn_line.true) w.in_ok-sent.ensures.made))
      | else-is_turn_line+in_ok-sent-2 w ↦
          subst (λ host. Makes code before line sent (state_of host) others) (sym w.host-is)
          (subst (λ some. Makes code before line some (state_of w.make_take.new.host) others) (sym w.sent-is)
          (makes_take code before line _ (state_of w.make_take.new.host) others w.in_ok-sent-2.ensures.made))
    ] in
    IfOk-weaker c.behind_step.result _ _ (λ more behind. (sent, makes, behind)) c.behind_step.ensures.behind

pub returns-clause-refused : goal.returns-clause-refused
returns-clause-refused c =
    let code = c.args.code.now in
    let before = state_of c.args.host.now in
    let line = words c.args.line.bytes.now in
    let others = journal_of c.args.others.now in
    let sent = c.if-is_turn_line.sent in
    let makes : Makes code before line sent (state_of c.if-is_turn_line.host) others =
    elim c.if-is_turn_line.branch [
      | then-is_turn_line+in_ok-sent w ↦
          subst (λ host. Makes code before line sent (state_of host) others) (sym w.host-is)
          (subst (λ some. Makes code before line some (state_of w.make_turn.new.host) others) (sym w.sent-is)
          (makes_turn code before line _ (state_of w.make_turn.new.host) others
          (c.is_turn_line.ensures.0 w.if-is_turn_line.true) w.in_ok-sent.ensures.made))
      | else-is_turn_line+in_ok-sent-2 w ↦
          subst (λ host. Makes code before line sent (state_of host) others) (sym w.host-is)
          (subst (λ some. Makes code before line some (state_of w.make_take.new.host) others) (sym w.sent-is)
          (makes_take code before line _ (state_of w.make_take.new.host) others w.in_ok-sent-2.ensures.made))
    ] in
    bad_next code before c.args.line c.args.others.now sent (state_of c.if-is_turn_line.host) c.behind_step.result makes
    c.behind_step.ensures.refused
