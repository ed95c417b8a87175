use Rattle.std.proofs.Common.{◌≡◌}
use Rattle.std.specs.List.{find}
use Rattle.toml.specs.View.{table_view}
use Rattle.host_decl.proofs.BadKeys.{holds_unfit, key_bytes}
use Rattle.host_decl.proofs.schema.unfit_key.Given as goal

abbrev pub invariant-loop-key : goal.invariant-loop-key
invariant-loop-key l =
    find (holds_unfit l.kind (table_view l.table)) (key_bytes l.key-iterator) ≡ find
    (holds_unfit l.kind (table_view l.table)) (key_bytes l.table.entries)
