use Rattle.std.proofs.Common.{refl}
use Rattle.node_seals.specs.Seals.{opened_of}
use Rattle.node_engine.proofs.Noting.{steps_noted}
use Rattle.node_engine.proofs.OneUnit.{one_arrival, one_parts}
use Rattle.node_engine.proofs.UnitParts.{some_arrival, some_parts, some_taking}
use Rattle.node_engine.proofs.laws.unit_laws.Goals as goal

pub returns-clause-some_arrival : goal.returns-clause-some_arrival
returns-clause-some_arrival c = some_arrival

pub returns-clause-one_arrival : goal.returns-clause-one_arrival
returns-clause-one_arrival c = λ code me seals bytes. one_arrival code me bytes (opened_of seals bytes)

pub returns-clause-some_taking : goal.returns-clause-some_taking
returns-clause-some_taking c = some_taking c.step_laws.ensures.some_taking

pub returns-clause-some_parts : goal.returns-clause-some_parts
returns-clause-some_parts c = some_parts c.step_laws.ensures.some_taking c.step_laws.ensures.some_turn

pub returns-clause-one_parts : goal.returns-clause-one_parts
returns-clause-one_parts c = one_parts

pub returns-clause-steps_noted : goal.returns-clause-steps_noted
returns-clause-steps_noted c = steps_noted

pub returns-clause-worked_short : goal.returns-clause-worked_short
returns-clause-worked_short c = λ code me. rw c.wire_laws.ensures.worked_nothing refl
