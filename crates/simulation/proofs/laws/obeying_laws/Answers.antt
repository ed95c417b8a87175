use Rattle.simulation.proofs.Obeyed.{laws_of, fields_follow, steps_counted, idle_ends, nothing_ignored}
use Rattle.simulation.proofs.Obeyed.{next_there, one_there}
use Rattle.simulation.proofs.laws.obeying_laws.Goals as goal

pub returns-clause-follows : goal.returns-clause-follows
returns-clause-follows c =
    let laws = laws_of c.split_laws.ensures.sound c.trust_laws.ensures.typable c.split_laws.ensures.typed
    c.altered_laws.ensures.plain in
    λ program placed store events world set ran.
    fields_follow laws program placed store events world set ran

pub returns-clause-counted : goal.returns-clause-counted
returns-clause-counted c =
    let laws = laws_of c.split_laws.ensures.sound c.trust_laws.ensures.typable c.split_laws.ensures.typed
    c.altered_laws.ensures.plain in
    λ program placed store events world set ran.
    steps_counted laws program placed store events world set ran

pub returns-clause-idle : goal.returns-clause-idle
returns-clause-idle c =
    let laws = laws_of c.split_laws.ensures.sound c.trust_laws.ensures.typable c.split_laws.ensures.typed
    c.altered_laws.ensures.plain in
    λ program placed store events world set ran none nothing.
    idle_ends laws program placed store events world set ran none nothing

pub returns-clause-ignored : goal.returns-clause-ignored
returns-clause-ignored c =
    let laws = laws_of c.split_laws.ensures.sound c.trust_laws.ensures.typable c.split_laws.ensures.typed
    c.altered_laws.ensures.plain in
    λ program placed store events world host state set ran is.
    nothing_ignored laws program placed store events world set ran host state is

pub returns-clause-next : goal.returns-clause-next
returns-clause-next c =
    let laws = laws_of c.split_laws.ensures.sound c.trust_laws.ensures.typable c.split_laws.ensures.typed
    c.altered_laws.ensures.plain in
    λ program placed store events world event set ran next.
    next_there laws program placed store events world set ran event next

pub returns-clause-one : goal.returns-clause-one
returns-clause-one c =
    let laws = laws_of c.split_laws.ensures.sound c.trust_laws.ensures.typable c.split_laws.ensures.typed
    c.altered_laws.ensures.plain in
    λ program placed store events world after other first second set ran step also.
    one_there laws program placed store events world set ran first second after other step also
