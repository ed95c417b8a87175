use Rattle.std.proofs.Common.{◌≡◌, ◌∙◌, false, rules, sym, arith}
use Rattle.std.proofs.lemmas.Bool.{false≢true}
use Rattle.std.proofs.lemmas.Grind.{common_steps}
use Rattle.host_core.specs.Host.{state_of}
use Rattle.event_text.specs.Lines.{words}
use Rattle.journal_player.proofs.Untaken.{barred, unlike, untaken}
use Rattle.journal_player.proofs.player.takeable.Goals as goal

pub returns-in_default-clause-none : goal.returns-in_default-clause-none
returns-in_default-clause-none c =
    untaken c.args.code.now (state_of c.args.host.now) (words c.args.line.bytes.now) c.sound_code.ensures
    c.requires.line (first_of (search rules, grind (arith, common_steps)))

pub returns-then-not-may_take-clause-none : goal.returns-then-not-may_take-clause-none
returns-then-not-may_take-clause-none c =
    let no : c.may_take.result ≡ false = search rules in
    barred c.args.code.now (state_of c.args.host.now) (words c.args.line.bytes.now) c.in-Some.from c.in-Some.message
    c.sound_code.ensures c.requires.line (first_of (search rules, grind (arith, common_steps)))
    (λ can. false≢true (sym no ∙ c.may_take.ensures.1 can))

pub returns-else-branch-clause-none : goal.returns-else-branch-clause-none
returns-else-branch-clause-none c =
    let no : c.in_ok-is_take_line.field-0 ≡ false = search rules in
    unlike c.args.code.now (state_of c.args.host.now) (words c.args.line.bytes.now) c.in-Some.from c.in-Some.message
    c.sound_code.ensures c.requires.line (first_of (search rules, grind (arith, common_steps)))
    (λ is. false≢true (sym no ∙ c.in_ok-is_take_line.ensures.1 is))
