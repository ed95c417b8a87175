use Rattle.toml.specs.View.{items_view, table_view}
use Rattle.host_decl.proofs.BadKeys.{host_key_is_first, link_key_is_first, whole_file_is_sound}
use Rattle.host_decl.proofs.schema.bad_key.Goals as goal

pub returns-in-Some-bad_key_among-clause-some : goal.returns-in-Some-bad_key_among-clause-some
returns-in-Some-bad_key_among-clause-some c =
    host_key_is_first (table_view c.args.file.now)
    (items_view c.items_at.result.now) c.in-Some-bad_key_among.key.now c.items_at.ensures
    c.in_default.ensures.none c.in-Some-bad_key_among.ensures.some

pub returns-in-Some-bad_key_among-2-clause-some : goal.returns-in-Some-bad_key_among-2-clause-some
returns-in-Some-bad_key_among-2-clause-some c =
    link_key_is_first (table_view c.args.file.now) (items_view c.items_at.result.now)
    (items_view c.items_at-2.result.now) c.in-Some-bad_key_among-2.key.now
    c.items_at.ensures c.items_at-2.ensures c.in_default.ensures.none c.in_default-bad_key_among.ensures.none
    c.in-Some-bad_key_among-2.ensures.some

pub returns-clause-none : goal.returns-clause-none
returns-clause-none c =
    whole_file_is_sound (table_view c.args.file.now) (items_view c.items_at.result.now)
    (items_view c.items_at-2.result.now)
    c.items_at.ensures c.items_at-2.ensures c.in_default.ensures.none c.in_default-bad_key_among.ensures.none
    c.in_default-bad_key_among-2.ensures.none
