use Rattle.jif_parse.specs.Items.{FailsWhole}
use Rattle.jif_parse.proofs.Exits.{handed_on}
use Rattle.jif_parse.proofs.ItemLists.{void_over, void_name_fails, void_label_fails, void_tail_fails, void_read}
use Rattle.jif_parse.proofs.items.void_method.Goals as goal

pub returns-in_err-take-clause-fails : goal.returns-in_err-take-clause-fails
returns-in_err-take-clause-fails c =
    handed_on (FailsWhole c.args.cursor.now) c.in_err-take.field-0.0 c.from_residual.result c.from_residual.ensures
    (void_over c.requires c.in_err-take.ensures.over)

pub returns-in_err-name-clause-fails : goal.returns-in_err-name-clause-fails
returns-in_err-name-clause-fails c =
    handed_on (FailsWhole c.args.cursor.now) c.in_err-name.field-0.0 c.from_residual-in_err-name.result
    c.from_residual-in_err-name.ensures
    (void_name_fails c.requires c.in_ok-take.ensures.counted c.in_err-name.ensures.other)

pub returns-in_err-begin-clause-fails : goal.returns-in_err-begin-clause-fails
returns-in_err-begin-clause-fails c =
    handed_on (FailsWhole c.args.cursor.now) c.in_err-begin.field-0.0 c.from_residual-in_err-begin.result
    c.from_residual-in_err-begin.ensures
    (void_label_fails c.requires c.in_ok-take.ensures.counted c.in_ok-name.ensures.read c.in_err-begin.ensures.fails)

pub returns-in_err-tail-clause-fails : goal.returns-in_err-tail-clause-fails
returns-in_err-tail-clause-fails c =
    handed_on (FailsWhole c.args.cursor.now) c.in_err-tail.field-0.0 c.from_residual-in_err-tail.result
    c.from_residual-in_err-tail.ensures
    (void_tail_fails c.requires c.in_ok-take.ensures.counted c.in_ok-name.ensures.read c.in_ok-begin.ensures.read
    c.in_err-tail.ensures.fails)

pub returns-clause-read : goal.returns-clause-read
returns-clause-read c =
    void_read c.in_ok-tail.tail c.widths_of_phrases.ensures c.next_line-line.ensures c.requires
    c.in_ok-take.ensures.counted
    c.in_ok-name.ensures.read c.in_ok-begin.ensures.read c.in_ok-tail.ensures.read
