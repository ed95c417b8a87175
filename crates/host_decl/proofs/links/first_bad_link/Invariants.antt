use Rattle.std.proofs.Common.{map}
use Rattle.host_decl.specs.DraftView.{link_draft}
use Rattle.host_decl.specs.Hosts.{names_of}
use Rattle.host_decl.specs.Meaning.{AreSoundUpTo}
use Rattle.host_decl.proofs.links.first_bad_link.Given as goal

abbrev pub invariant-loop-number : goal.invariant-loop-number
invariant-loop-number l = AreSoundUpTo (names_of l.hosts) (map link_draft l.links) l.number
