use Rattle.std.proofs.Common.{sym, subst}
use Rattle.std.specs.List.{AllByRecursion}
use Rattle.toml.specs.View.{table_view}
use Rattle.host_decl.specs.declared.schema.TableKind.TheVariants.{Host}
use Rattle.host_decl.specs.Schema.{IsSound, tables_of}
use Rattle.host_decl.proofs.BadKeys.{sound_hosts}
use Rattle.host_decl.proofs.file_draft.file_draft.Goals as goal

pub hosts_of-requires : goal.hosts_of-requires
hosts_of-requires c =
    subst (λ items. AllByRecursion (IsSound Host) (tables_of items)) (sym c.items_at-3.ensures)
    (sound_hosts (table_view c.args.file.now) c.requires)
