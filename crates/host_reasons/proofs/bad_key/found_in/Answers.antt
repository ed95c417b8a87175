use Rattle.toml.specs.View.{items_view, table_view}
use Rattle.host_decl.proofs.BadKeys.{whole_file_is_sound}
use Rattle.host_reasons.proofs.bad_key.found_in.Goals as goal

pub returns-clause-none : goal.returns-clause-none
returns-clause-none c =
    whole_file_is_sound (table_view c.args.file.now) (items_view c.items_at.result.now)
    (items_view c.items_at-2.result.now)
    c.items_at.ensures c.items_at-2.ensures c.in_default.ensures.none c.in_default-found_among.ensures.none
    c.in_default-found_among-2.ensures.none
