use Rattle.std.proofs.Common.{ap}
use Rattle.toml.specs.View.{table_view}
use Rattle.host_decl.proofs.DeclaredNames.{names_are_names, host_names_are_names}
use Rattle.host_decl.proofs.read.read_hosts.Goals as goal

pub resolve-requires-clause-names : goal.resolve-requires-clause-names
resolve-requires-clause-names c =
    names_are_names (table_view c.in_ok-file.file) c.in_ok-draft.draft.names.items c.in_default.ensures.none.0
    (ap (λ file. file.names) c.in_ok-draft.ensures)

pub resolve-requires-clause-hosts : goal.resolve-requires-clause-hosts
resolve-requires-clause-hosts c =
    host_names_are_names (table_view c.in_ok-file.file) c.in_ok-draft.draft c.in_default.ensures.none
    c.in_ok-draft.ensures
