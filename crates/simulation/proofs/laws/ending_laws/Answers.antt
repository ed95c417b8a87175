use Rattle.simulation.proofs.Ending.{ends_soon, halts_soon}
use Rattle.simulation.proofs.Obeyed.{laws_of}
use Rattle.simulation.proofs.laws.ending_laws.Goals as goal

pub returns-clause-ends : goal.returns-clause-ends
returns-clause-ends c =
    let laws = laws_of c.split_laws.ensures.sound c.trust_laws.ensures.typable c.split_laws.ensures.typed
    c.altered_laws.ensures.plain in
    λ program placed store steps events world set runs ran.
    ends_soon laws c.pace_laws.ensures.paced program placed store steps set runs events world ran

pub returns-clause-halts : goal.returns-clause-halts
returns-clause-halts c =
    let laws = laws_of c.split_laws.ensures.sound c.trust_laws.ensures.typable c.split_laws.ensures.typed
    c.altered_laws.ensures.plain in
    λ program placed store steps set runs.
    halts_soon laws c.pace_laws.ensures.paced program placed store steps set runs
