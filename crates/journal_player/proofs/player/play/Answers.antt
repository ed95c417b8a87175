use Rattle.std.proofs.lemmas.Result.{IfErr-weaker, IfOk-weaker}
use Rattle.host_core.specs.Host.{state_of}
use Rattle.host_core.specs.Told.{told_key}
use Rattle.record_merge.specs.JournalLines.{journal_of}
use Rattle.journal_player.proofs.Played.{play_error}
use Rattle.journal_player.proofs.player.play.Goals as goal

pub returns-clause-fields : goal.returns-clause-fields
returns-clause-fields c =
    IfOk-weaker c.play_all.result _ _ (λ host played key steps last own journal.
    (c.field_laws.ensures.played c.args.code.now c.args.store.now c.args.me key told_key
    (journal_of c.args.lines.now) (state_of host) steps last c.sound_code.ensures own c.requires.me played journal).0)
    c.play_all.ensures.played

pub returns-clause-real : goal.returns-clause-real
returns-clause-real c =
    IfOk-weaker c.play_all.result _ _ (λ host played own.
    c.field_laws.ensures.real c.args.code.now c.args.store.now c.args.me (journal_of c.args.lines.now) (state_of host)
    c.sound_code.ensures own c.requires.me played) c.play_all.ensures.played

pub returns-clause-refused : goal.returns-clause-refused
returns-clause-refused c =
    IfErr-weaker c.play_all.result _ _ (λ why refused.
    play_error c.args.code.now c.args.store.now c.args.me c.args.lines.now why
    (λ own key front line steps last.
    c.field_laws.ensures.barred c.args.code.now c.args.store.now c.args.me key front line steps last
    c.sound_code.ensures own c.requires.me)
    (λ own front shown.
    c.field_laws.ensures.real c.args.code.now c.args.store.now c.args.me front shown c.sound_code.ensures own
    c.requires.me) refused) c.play_all.ensures.refused
