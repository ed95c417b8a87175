-- Before the first event all hosts have a state where none is to misbehave.
use Rattle.std.proofs.Common.{◌≡◌, ℕ, zero, suc, ◌+◌, false, List, [], ◌∷◌, Some, None, refl, ap}
use Rattle.std.specs.Prelude.{ℤ, slice_get, ◌==◌, if◌then◌else◌}
use Rattle.std.proofs.lemmas.Nat.Bits.{bit_at-zero}
use Rattle.host_decl.specs.Hosts as declared_hosts
use Rattle.host_code.specs.Code.{CodeShape}
use Rattle.host_core.specs.Start.{host_at_start}
use Rattle.net_world.specs.World.{AllObey, is_absent, host_before, hosts_before, world_at_start}

pub no_bad : (code : CodeShape) (store : List (List ℤ)) (n : ℕ) (row : declared_hosts.HostShape) →
    host_before code store 0 n row ≡ Some (host_at_start code store row.key (record { 0 = n }))
no_bad code store n row =
    ap (λ bit. if bit == 1 then None else Some (host_at_start code store row.key (record { 0 = n }))) (bit_at-zero n)

none_absent : (code : CodeShape) (store : List (List ℤ)) (n : ℕ) (rows : List declared_hosts.HostShape) (k : ℕ) →
    is_absent (slice_get (hosts_before code store 0 n rows) k) ≡ false
none_absent code store n [] k = refl
none_absent code store n (row ∷ rows) zero = ap (λ o. is_absent (Some o)) (no_bad code store n row)
none_absent code store n (row ∷ rows) (suc k) = none_absent code store (n + 1) rows k

pub obey_at_start : (code : CodeShape) (rows : List declared_hosts.HostShape) (store : List (List ℤ)) →
    AllObey (world_at_start code rows 0 store)
obey_at_start code rows store host = none_absent code store 0 rows host.0
