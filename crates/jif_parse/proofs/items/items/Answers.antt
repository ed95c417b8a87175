use Rattle.jif_parse.specs.Items.{FailsWhole}
use Rattle.jif_parse.proofs.Exits.{handed_on}
use Rattle.jif_parse.proofs.ItemLists.{nothing_read, later_item_fails, item_more, item_falls, all_items, none_left}
use Rattle.jif_parse.proofs.items.items.Goals as goal

pub loop-alloc-init : goal.loop-alloc-init
loop-alloc-init c =
    nothing_read c.args.cursor.now _ c.new.ensures.items c.new-2.ensures.items

pub returns-in_err-next-clause-fails : goal.returns-in_err-next-clause-fails
returns-in_err-next-clause-fails c =
    handed_on (FailsWhole c.args.cursor.now) c.in_err-next.field-0.0 c.from_residual.result c.from_residual.ensures
    (later_item_fails c.loop-alloc.invariant.takes c.in_err-next.ensures.fails)

pub loop-alloc-smaller : goal.loop-alloc-smaller
loop-alloc-smaller c =
    item_falls c.widths_of_phrases.ensures c.in_ok-next.ensures.read

pub loop-alloc-preserved : goal.loop-alloc-preserved
loop-alloc-preserved c =
    item_more c.loop-alloc.draft c.add.new.draft c.loop-alloc.invariant c.in_ok-next.ensures.read
    c.in_ok-add.ensures.added

pub returns-clause-read : goal.returns-clause-read
returns-clause-read c =
    all_items c.loop-alloc.invariant (none_left c.loop-alloc.cursor.rest.now c.loop-alloc-test.ensures)
