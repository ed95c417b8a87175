use Rattle.std.proofs.Common.{◌∙◌, sym, arith}
use Rattle.js_base.proofs.Texts.{no_texts}
use Rattle.js_base.proofs.NamedItems.{no_repeat_more, repeats_earlier}
use Rattle.js_base.proofs.named.first_repeated.Goals as goal

pub loop-place-init : goal.loop-place-init
loop-place-init g c = no_texts

pub returns-then-is_some-clause-repeated : goal.returns-then-is_some-clause-repeated
returns-then-is_some-clause-repeated g c name here =
    repeats_earlier g.T.Named.called c.args.items.now c.loop-place.place c.place_of.result c.index-items-place.result _
    name (omega arith) c.index-items-place.is c.name.ensures (sym c.is_some.ensures ∙ c.if-is_some.true)
    c.place_of.ensures.found here

pub loop-place-preserved : goal.loop-place-preserved
loop-place-preserved g c =
    no_repeat_more g.T.Named.called c.args.items.now c.loop-place.place c.place_of.result c.index-items-place.result _
    (omega arith) c.index-items-place.is c.name.ensures (sym c.is_some.ensures ∙ c.if-is_some.false)
    c.place_of.ensures.none c.loop-place.invariant
