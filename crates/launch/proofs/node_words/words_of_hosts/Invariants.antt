use Rattle.std.proofs.Common.{◌≡◌, map, take}
use Rattle.std.specs.Prelude.{string_bytes}
use Rattle.launch.specs.Report.{node_words, run_words}
use Rattle.launch.proofs.node_words.words_of_hosts.Given as goal

-- the words for the nodes of the hosts so far
abbrev pub invariant-loop-host : goal.invariant-loop-host
invariant-loop-host l =
    map (λ one. map string_bytes one.items) l.all.items
    ≡ map (λ host. node_words (run_words l.run) host.name) (take l.host-index l.hosts)
