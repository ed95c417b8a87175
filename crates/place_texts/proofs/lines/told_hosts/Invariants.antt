use Rattle.std.proofs.Common.{take}
use Rattle.need_labels.specs.Labelled.{labelled_of}
use Rattle.place_texts.specs.Holding.{AreToldHosts}
use Rattle.place_texts.proofs.lines.told_hosts.Given as goal

-- the hosts so far
abbrev pub invariant-loop-host : goal.invariant-loop-host
invariant-loop-host l =
    AreToldHosts l.search.principals.now (labelled_of l.search.checked.now) (take l.host-index l.hosts) l.told.items
