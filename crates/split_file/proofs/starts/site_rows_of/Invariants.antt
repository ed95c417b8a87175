use Rattle.std.proofs.Common.{◌≡◌, ◌-◌, []}
use Rattle.byte_format.specs.Reader.{items_at}
use Rattle.split_file.specs.Reading.{host_id_at}
use Rattle.split_file.proofs.starts.site_rows_of.Given as goal

abbrev pub invariant-loop : goal.invariant-loop
invariant-loop l =
    items_at (λ _. host_id_at l.hosts) l.sites.items (l.count - l.counter) l.rest
    ≡ items_at (λ _. host_id_at l.hosts) [] (l.count) l.bytes
