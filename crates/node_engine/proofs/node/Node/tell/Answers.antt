use Rattle.std.proofs.Common.{◌∙◌}
use Rattle.std.proofs.lemmas.Result.{on_ok_weaker, IfErr-weaker}
use Rattle.node_engine.proofs.Closing.{other_is_sealed, told_does, told_stops}
use Rattle.node_engine.proofs.node.Node.tell.Goals as goal

pub returns-clause-ok : goal.returns-clause-ok
returns-clause-ok g c =
    on_ok_weaker c.sent.result (λ does. told_does _ _ c.args.to.0 _ _ c.if-to-self.false does) c.sent.ensures.ok

pub returns-clause-raised : goal.returns-clause-raised
returns-clause-raised g c =
    on_ok_weaker c.sent.result (λ is. is ∙ other_is_sealed _ _ c.args.to.0 c.if-to-self.false) c.sent.ensures.raised

pub returns-clause-err : goal.returns-clause-err
returns-clause-err g c =
    IfErr-weaker c.sent.result _ _ (λ error stops. told_stops error _ _ c.args.to.0 _ _ c.if-to-self.false stops)
    c.sent.ensures.err
