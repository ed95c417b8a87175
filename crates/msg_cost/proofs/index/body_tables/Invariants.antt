use Rattle.msg_cost.proofs.TrustTables.{BodiesTo}
use Rattle.msg_cost.proofs.index.body_tables.Given as goal

-- the tables of the bodies so far
abbrev pub invariant-loop-method : goal.invariant-loop-method
invariant-loop-method l = BodiesTo l.needs l.hosts l.method-items l.method-index l.tables.items
