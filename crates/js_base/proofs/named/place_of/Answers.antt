use Rattle.std.proofs.Common.{◌∙◌, sym, arith}
use Rattle.js_base.proofs.NamedItems.{name_found, no_name_more, lacks_so_far}
use Rattle.js_base.proofs.named.place_of.Goals as goal

pub returns-then-eq-clause-found : goal.returns-then-eq-clause-found
returns-then-eq-clause-found g c =
    name_found g.T.Named.called _ c.loop-index.index _ _ _ (omega arith) c.index-items-index.is c.name.ensures
    (sym c.eq.ensures ∙ c.if-eq.true)

pub returns-then-eq-clause-none_before : goal.returns-then-eq-clause-none_before
returns-then-eq-clause-none_before g c = lacks_so_far _ c.loop-index.index c.args.name.now c.loop-index.invariant

pub loop-index-preserved : goal.loop-index-preserved
loop-index-preserved g c =
    no_name_more g.T.Named.called _ _ _ _ _ (omega arith) c.index-items-index.is c.name.ensures
    (sym c.eq.ensures ∙ c.if-eq.false) c.loop-index.invariant
