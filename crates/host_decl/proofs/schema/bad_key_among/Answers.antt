use Rattle.host_decl.proofs.BadKeys.{bad_here, sound_here, bad_after}
use Rattle.host_decl.proofs.schema.bad_key_among.Goals as goal

pub returns-in-Some-clause-some : goal.returns-in-Some-clause-some
returns-in-Some-clause-some c =
    c.loop-item.invariant.1 c.in-Some.key.now
    (bad_here c.args.kind c.args.items.now c.loop-item.item-index c.item-item.result c.in-Some.key.now
    c.loop-item-test.true c.item-item.is c.in-Some.ensures.some)

pub loop-item-preserved : goal.loop-item-preserved
loop-item-preserved c = (
  λ sound. c.loop-item.invariant.0
      (sound_here c.args.kind c.args.items.now c.loop-item.item-index c.item-item.result c.loop-item-test.true
      c.item-item.is c.in_default.ensures.none sound),
  λ key bad. c.loop-item.invariant.1 key
      (bad_after c.args.kind c.args.items.now c.loop-item.item-index c.item-item.result key c.loop-item-test.true
      c.item-item.is c.in_default.ensures.none bad),
)
