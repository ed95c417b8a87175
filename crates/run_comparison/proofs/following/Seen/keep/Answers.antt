use Rattle.std.proofs.Common.{sym, ◌∙◌}
use Rattle.std.proofs.lemmas.Bool.{false≢true}
use Rattle.run_comparison.specs.FollowedRuns.{hidden}
use Rattle.run_comparison.proofs.FollowedEvents.{added_on_ok}
use Rattle.run_comparison.proofs.following.Seen.keep.Goals as goal

pub returns-then-secret : goal.returns-then-secret
returns-then-secret c = λ last. hidden (c.secret.ensures.exact.0 c.if-secret.true)

pub returns : goal.returns
returns c =
    added_on_ok _ _ _ c.args.self.now c.push.new.self _ _ (λ secret. false≢true (sym c.if-secret.false
    ∙ c.secret.ensures.exact.1 secret))
    c.quiet-quiet.ensures.exact c.push.ensures.events c.push.ensures.late
