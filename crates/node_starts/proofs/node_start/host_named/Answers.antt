use Rattle.std.proofs.Common.{sym, ◌∙◌, ◌≢◌, arith}
use Rattle.std.proofs.lemmas.Bool.{false≢true}
use Rattle.std.proofs.lemmas.Slice.Eq.{bytes_eq-Decides}
use Rattle.node_starts.proofs.Rows.{all_more, all_of_them, row_at}
use Rattle.node_starts.proofs.node_start.host_named.Goals as goal

pub returns-then-eq-clause-found : goal.returns-then-eq-clause-found
returns-then-eq-clause-found c = (
  c.index-rows-number.result,
  rw (← c.hosts-rows.ensures.hosts)
      (row_at c.hosts-rows.result.now c.loop-number.number c.index-rows-number.result c.loop-number-test.true
      c.index-rows-number.is),
  sym c.name.ensures ∙ (bytes_eq-Decides c.name.result.now c.args.name.now).0 (sym c.if-eq.ensures),
  rw (← c.hosts-rows.ensures.hosts) c.loop-number.invariant,
)

pub loop-number-preserved : goal.loop-number-preserved
loop-number-preserved c =
    all_more (λ row. row.name ≢ c.args.name.now) c.hosts-rows.result.now c.loop-number.number
    c.index-rows-number.result c.loop-number-test.true c.index-rows-number.is
    (λ same.
    false≢true (c.if-eq.ensures
    ∙ (bytes_eq-Decides c.name.result.now c.args.name.now).1 (c.name.ensures ∙ same))) c.loop-number.invariant

pub returns-clause-none : goal.returns-clause-none
returns-clause-none c =
    rw (← c.hosts-rows.ensures.hosts)
    (all_of_them (λ row. row.name ≢ c.args.name.now) c.hosts-rows.result.now c.loop-number.number (omega arith)
    c.loop-number.invariant)
