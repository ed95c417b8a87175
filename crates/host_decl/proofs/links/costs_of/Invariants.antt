use Rattle.std.proofs.Common.{◌≡◌, ◌++◌, drop, map, pos}
use Rattle.host_decl.specs.DraftView.{link_draft}
use Rattle.host_decl.specs.Hosts.{names_of}
use Rattle.host_decl.specs.Meaning.{cost_between}
use Rattle.host_decl.proofs.links.costs_of.Given as goal

abbrev pub invariant-loop-host : goal.invariant-loop-host
invariant-loop-host l =
    map (λ row. map pos row.items) l.costs.items ++ map
    (λ from. map (cost_between (map link_draft l.links) from) (names_of l.hosts)) (names_of (drop l.host-index l.hosts))
    ≡ map (λ from. map (cost_between (map link_draft l.links) from) (names_of l.hosts)) (names_of l.hosts)
