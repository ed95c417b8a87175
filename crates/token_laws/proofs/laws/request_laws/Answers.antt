use Rattle.net_world.specs.World.{state_at}
use Rattle.token_laws.proofs.AskedLaws.{known_asked, one_under_way, under_way_awaited, waits_once, all_counted}
use Rattle.token_laws.proofs.Tests.{some_found}
use Rattle.token_laws.proofs.laws.request_laws.Goals as goal

pub returns-clause-one : goal.returns-clause-one
returns-clause-one c = λ code rows bad store events world host one other request first second reach obeys under also.
    let is = some_found (state_at world host) obeys in
    one_under_way world host one other is.0 request first second
    ((known_asked code rows bad store events world reach).hosts host is.0 is.1) under also

pub returns-clause-awaited : goal.returns-clause-awaited
returns-clause-awaited c = λ code rows bad store events world host other state request spot reach obeys under.
    under_way_awaited world host other state request spot
    ((known_asked code rows bad store events world reach).hosts host state obeys) under

pub returns-clause-apart : goal.returns-clause-apart
returns-clause-apart c =
    λ code rows bad store events world host state first second one other reach obeys there also same.
    waits_once world.flying host state first second one other
    ((known_asked code rows bad store events world reach).hosts host state obeys) there also same

pub returns-clause-counted : goal.returns-clause-counted
returns-clause-counted c = λ code rows bad store events world host state reach obeys.
    all_counted world.flying host state ((known_asked code rows bad store events world reach).hosts host state obeys)
