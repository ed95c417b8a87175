use Rattle.std.proofs.Common.{rules}
use Rattle.std.proofs.lemmas.Int.{to_z-of_z}
use mir.Syntax.{w64}
use mir.Val.{SFits}
use Rattle.std.proofs.Common.{refl}
use Rattle.jif_parse.specs.Items.{FailsWhole}
use Rattle.jif_parse.proofs.Exits.{handed_on}
use Rattle.jif_parse.proofs.ItemLists.{named_fails, field_end_fails, field_read, int_method_over, begin_fails}
use Rattle.jif_parse.proofs.ItemLists.{int_tail_fails, int_read}
use Rattle.jif_parse.proofs.items.int_item.Goals as goal

pub returns-in_err-label-clause-fails : goal.returns-in_err-label-clause-fails
returns-in_err-label-clause-fails c =
    handed_on (FailsWhole c.args.cursor.now) c.in_err-label.field-0.0 c.from_residual.result c.from_residual.ensures
    (named_fails c.requires c.pass.ensures c.in_err-label.ensures.fails)

pub returns-in_err-take-clause-fails : goal.returns-in_err-take-clause-fails
returns-in_err-take-clause-fails c =
    handed_on (FailsWhole c.args.cursor.now) c.in_err-take.field-0.0 c.from_residual-in_err-take.result
    c.from_residual-in_err-take.ensures
    (int_method_over c.requires c.pass.ensures c.in_ok-label.ensures.read (c.if-is_next.ensures.0 refl)
    c.in_err-take.ensures.over)

pub returns-in_err-begin-clause-fails : goal.returns-in_err-begin-clause-fails
returns-in_err-begin-clause-fails c =
    handed_on (FailsWhole c.args.cursor.now) c.in_err-begin.field-0.0 c.from_residual-in_err-begin.result
    c.from_residual-in_err-begin.ensures
    (begin_fails c.requires c.pass.ensures c.in_ok-label.ensures.read (c.if-is_next.ensures.0 refl)
    c.in_ok-take.ensures.counted c.in_err-begin.ensures.fails)

pub returns-in_err-tail-clause-fails : goal.returns-in_err-tail-clause-fails
returns-in_err-tail-clause-fails c =
    handed_on (FailsWhole c.args.cursor.now) c.in_err-tail.field-0.0 c.from_residual-in_err-tail.result
    c.from_residual-in_err-tail.ensures
    (int_tail_fails c.requires c.pass.ensures c.in_ok-label.ensures.read (c.if-is_next.ensures.0 refl)
    c.in_ok-take.ensures.counted c.in_ok-begin.ensures.read c.in_err-tail.ensures.fails)

pub returns-then-is_next-clause-read : goal.returns-then-is_next-clause-read
returns-then-is_next-clause-read c =
    int_read c.in_ok-tail.tail c.widths_of_phrases.ensures c.next_line-line.ensures c.requires c.pass.ensures
    c.in_ok-label.ensures.read (c.if-is_next.ensures.0 refl) c.in_ok-take.ensures.counted c.in_ok-begin.ensures.read
    c.in_ok-tail.ensures.read

pub returns-in_err-ending-clause-fails : goal.returns-in_err-ending-clause-fails
returns-in_err-ending-clause-fails c =
    handed_on (FailsWhole c.args.cursor.now) c.in_err-ending.field-0.0 c.from_residual-in_err-ending.result
    c.from_residual-in_err-ending.ensures
    (field_end_fails c.requires c.pass.ensures c.in_ok-label.ensures.read c.in_err-ending.ensures.fails)

pub returns-clause-read : goal.returns-clause-read
returns-clause-read c =
    let fits : SFits w64 c.in_ok-ending.ending.first = search rules in
    rw (to_z-of_z w64 c.in_ok-ending.ending.first fits)
    (field_read c.widths_of_phrases.ensures c.requires c.pass.ensures c.in_ok-label.ensures.read
    c.in_ok-ending.ensures.read)
