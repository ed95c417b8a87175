use Rattle.std.proofs.Common.{◌≡◌, drop, map}
use Rattle.std.specs.List.{find}
use Rattle.toml.specs.View.{table_view}
use Rattle.host_decl.specs.Schema.{required_keys}
use Rattle.host_decl.proofs.BadKeys.{holds_nothing}
use Rattle.host_decl.proofs.schema.missing_key.Given as goal

abbrev pub invariant-loop-key : goal.invariant-loop-key
invariant-loop-key l =
    find (holds_nothing (table_view l.table)) (map (λ key. key.now) (drop l.key-index l.key-items)) ≡ find
    (holds_nothing (table_view l.table)) (required_keys l.fn.kind)
