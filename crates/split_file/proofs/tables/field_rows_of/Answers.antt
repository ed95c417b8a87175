use Rattle.std.proofs.Common.{◌≡◌, subst, refl, List, Ok}
use Rattle.std.proofs.lemmas.Result.{err_from_is_err_and}
use Rattle.std.proofs.lemmas.List.Sums.{sum_by_push}
use Rattle.host_code.specs.Code.{CodeFieldShape}
use Rattle.byte_format.proofs.Items.{items_more, items_done}
use Rattle.split_file.specs.Reader.{SplitReader, ReadFails}
use Rattle.split_file.specs.Reading.{field_row_at, elements_of}
use Rattle.split_file.proofs.Items.{items_fail}
use Rattle.split_file.proofs.tables.field_rows_of.Goals as goal

pub returns-in_err-field : goal.returns-in_err-field
returns-in_err-field c =
    let item : List CodeFieldShape → SplitReader CodeFieldShape =
    λ before. field_row_at c.args.hosts c.args.labels (elements_of before) in
    let p = err_from_is_err_and c.from_residual.result c.from_residual.ensures.1 in
    let fails = subst (λ n. ReadFails c.in_err-field.field-0.0
    (field_row_at c.args.hosts c.args.labels n c.loop.rest.now))
    c.loop.invariant.elements c.in_err-field.ensures.field in
    rw (p.1, p.2) (items_fail item c.loop.fields.items c.args.count c.loop.counter _ c.loop.rest.now _
    c.loop-test.true fails c.loop.invariant.read)

pub returns : goal.returns
returns c =
    items_done (λ before. field_row_at c.args.hosts c.args.labels (elements_of before)) c.loop.fields.items
    c.args.count c.loop.counter c.loop.rest.now _ c.loop-test.false c.loop.invariant.read

pub loop-preserved : goal.loop-preserved
loop-preserved c =
    let item : List CodeFieldShape → SplitReader CodeFieldShape =
    λ before. field_row_at c.args.hosts c.args.labels (elements_of before) in
    let next = subst (λ n. field_row_at c.args.hosts c.args.labels n c.loop.rest.now
    ≡ Ok (c.in_ok-field.field, c.in_ok-field.after.now))
    c.loop.invariant.elements c.in_ok-field.ensures.field in
    let sum = sum_by_push (λ field. field.size) c.loop.fields.items c.in_ok-field.field in
    record {
      read = rw c.in_ok-push.ensures.items (items_more item c.loop.fields.items c.args.count c.loop.counter _
          c.loop.rest.now _ _ c.loop-test.true next c.loop.invariant.read);
      elements = rw c.in_ok-push.ensures.items
          (rw sum (rw (← c.loop.invariant.elements, c.size-elements.ensures) refl));
      within = rw c.size-elements.ensures c.in_ok-field.ensures.within;
    }
