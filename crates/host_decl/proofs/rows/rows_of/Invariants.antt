use Rattle.std.proofs.Common.{◌≡◌, length}
use Rattle.std.specs.Vec.Iter.{into_iter_items, into_iter_len}
use Rattle.host_decl.proofs.HostRows.{ReadSoFar}
use Rattle.host_decl.proofs.rows.rows_of.Given as goal

abbrev pub invariant-loop-host : goal.invariant-loop-host
invariant-loop-host l =
    ReadSoFar l.principals l.fn.hosts.items l.yielded (into_iter_items l.host-iterator) l.rows.items
    × (into_iter_len l.host-iterator ≡ length (into_iter_items l.host-iterator))
