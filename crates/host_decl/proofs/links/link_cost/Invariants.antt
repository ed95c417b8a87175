use Rattle.std.proofs.Common.{◌≡◌, drop, map, IsTrue}
use Rattle.std.specs.List.{AllByRecursion}
use Rattle.host_decl.specs.DraftView.{link_draft}
use Rattle.host_decl.specs.Meaning.{link_cost, is_cost}
use Rattle.host_decl.proofs.links.link_cost.Given as goal

abbrev pub invariant-loop-link : goal.invariant-loop-link
invariant-loop-link l =
    (link_cost (map link_draft (drop l.link-index l.links)) l.from l.to ≡ link_cost
    (map link_draft l.links) l.from l.to)
    × AllByRecursion (λ link. IsTrue (is_cost link.cost)) (drop l.link-index l.links)
