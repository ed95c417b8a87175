use Rattle.std.proofs.Common.{◌≡◌, take}
use Rattle.place_reasons.specs.declared.reason.Needed.TheVariants as needed
use Rattle.place_reasons.specs.Firsts.{or_first, first_some}
use Rattle.place_reasons.specs.Reasons.{variable_backed}
use Rattle.place_reasons.specs.Search.{site_is}
use Rattle.place_reasons.proofs.backed.params_backed.Given as goal

-- what was found is what there was, and otherwise the first of the parameters so far
abbrev pub invariant-loop-param : goal.invariant-loop-param
invariant-loop-param l =
    l.found ≡ or_first l.fn.found (first_some (variable_backed (site_is l.site) l.principal l.here
    (λ x. needed.Parameter x l.method)) (take l.param-index l.params))
