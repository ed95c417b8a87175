use Rattle.std.proofs.Common.{◌≡◌, List, Ok, ◌+◌, length, subst, sym, ap, ◌∙◌}
use Rattle.std.proofs.lemmas.Result.{err_from_is_err_and}
use Rattle.std.proofs.lemmas.List.{length_push}
use Rattle.host_code.specs.declared.code.Entry.{Entry}
use Rattle.byte_format.proofs.Items.{items_more, items_done}
use Rattle.split_file.specs.Reader.{SplitReader, ReadFails}
use Rattle.split_file.specs.Reading.{entry_row_at, is_empty}
use Rattle.split_file.proofs.Items.{items_fail, some_pushed}
use Rattle.split_file.proofs.starts.entry_rows_of.Goals as goal

pub returns-in_err-entry-clause-entries : goal.returns-in_err-entry-clause-entries
returns-in_err-entry-clause-entries c =
    let item : List Entry → SplitReader Entry = λ before. entry_row_at c.args.hosts c.args.labels (is_empty before) in
    let p = err_from_is_err_and c.from_residual.result c.from_residual.ensures.1 in
    let fails = subst (λ first. ReadFails c.in_err-entry.field-0.0 (entry_row_at c.args.hosts c.args.labels first
    c.loop.rest.now))
    c.loop.invariant.first c.in_err-entry.ensures in
    rw (p.1, p.2) (items_fail item c.loop.entries.items c.args.count c.loop.counter _ c.loop.rest.now _
    c.loop-test.true fails c.loop.invariant.read)

pub loop-preserved : goal.loop-preserved
loop-preserved c =
    let item : List Entry → SplitReader Entry = λ before. entry_row_at c.args.hosts c.args.labels (is_empty before) in
    let next = subst (λ first. entry_row_at c.args.hosts c.args.labels first c.loop.rest.now
    ≡ Ok (c.in_ok-entry.entry, c.in_ok-entry.after.now))
    c.loop.invariant.first c.in_ok-entry.ensures in
    record {
      read = rw c.in_ok-push.ensures.items (items_more item c.loop.entries.items c.args.count c.loop.counter _
          c.loop.rest.now _ _ c.loop-test.true next c.loop.invariant.read);
      count = ap length c.in_ok-push.ensures.items ∙ length_push c.loop.entries.items c.in_ok-entry.entry
          ∙ ap (λ n. n + 1) c.loop.invariant.count;
      first = rw c.in_ok-push.ensures.items (sym (some_pushed c.loop.entries.items c.in_ok-entry.entry));
    }

pub returns-clause-entries : goal.returns-clause-entries
returns-clause-entries c =
    items_done (λ before. entry_row_at c.args.hosts c.args.labels (is_empty before)) c.loop.entries.items
    c.args.count c.loop.counter c.loop.rest.now _ c.loop-test.false c.loop.invariant.read
