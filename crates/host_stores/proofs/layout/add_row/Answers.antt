use Rattle.std.proofs.Common.{rules, ◌≡◌, length, ◌++◌}
use Rattle.host_stores.proofs.RowPlaces.{offsets_more, rows_more}
use Rattle.host_stores.proofs.layout.add_row.Goals as goal

pub returns-clause-offsets : goal.returns-clause-offsets
returns-clause-offsets c =
    let elements = c.args.elements.now.items in
    let last : c.len.result ≡ length (elements ++ c.args.row.now) = search rules in
    rw (c.in_ok-push.ensures.items, c.in_ok-extend_from_slice.ensures.items)
    (offsets_more elements c.args.row.now c.args.offsets.now.items c.len.result c.requires last)

pub returns-clause-rows : goal.returns-clause-rows
returns-clause-rows c =
    let elements = c.args.elements.now.items in
    let last : c.len.result ≡ length (elements ++ c.args.row.now) = search rules in
    rw (c.in_ok-push.ensures.items, c.in_ok-extend_from_slice.ensures.items)
    (rows_more elements c.args.row.now c.args.offsets.now.items c.len.result c.requires last)
