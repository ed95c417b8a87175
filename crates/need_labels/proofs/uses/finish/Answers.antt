use Rattle.std.proofs.Common.{refl, map}
use Rattle.need_labels.specs.Needs.{for_label}
use Rattle.need_labels.proofs.Walked.{finished}
use Rattle.need_labels.proofs.uses.finish.Goals as goal

pub returns : goal.returns
returns c start id exprs told changed is backed =
    finished c.args.place.now start c.args.found.now _ id exprs told changed c.args.current.now c.need_of.result
    c.with_releases-backed.result c.in_ok-push.ensures.items c.in_ok-push-2.ensures.items refl
    (λ releasing. c.with_releases-backed.ensures (map for_label changed) exprs releasing backed)
    (λ parts is_backed. c.need_of.ensures c.args.place.now.principals.now parts is_backed) is
