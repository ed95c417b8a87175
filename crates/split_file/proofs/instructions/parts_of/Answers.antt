use Rattle.std.proofs.Common.{◌≡◌, ◌+◌, List, Ok, length, ap, sym, subst, ◌∙◌}
use Rattle.std.proofs.lemmas.Result.{err_from_is_err_and}
use Rattle.std.proofs.lemmas.List.{length_push}
use Rattle.host_code.specs.declared.instruction.Instr.{Instr}
use Rattle.host_code.specs.CodeParts.{shape_of}
use Rattle.byte_format.proofs.Items.{items_more}
use Rattle.split_file.specs.Reader.{SplitReader, ReadFails}
use Rattle.split_file.specs.Reading.{next_part_at}
use Rattle.split_file.proofs.Items.{items_fail}
use Rattle.split_file.proofs.NextItems.{next_part}
use Rattle.split_file.proofs.instructions.parts_of.Goals as goal

pub returns-in_err-part : goal.returns-in_err-part
returns-in_err-part c =
    let code = shape_of c.args.code.now in
    let p = err_from_is_err_and c.from_residual.result c.from_residual.ensures.1 in
    let same = next_part c.args.version code c.loop-host.parts.items c.loop-host.host c.loop-host.invariant.count in
    let fails = subst (λ (item : SplitReader (List Instr)). ReadFails c.in_err-part.field-0.0
    (item c.loop-host.rest.now))
    (sym same) c.in_err-part.ensures in
    rw (p.1, p.2) (items_fail (next_part_at c.args.version code) c.loop-host.parts.items c.args.count c.loop-host.host _
    c.loop-host.rest.now _ c.loop-host-test.true fails c.loop-host.invariant.read)

pub loop-host-preserved : goal.loop-host-preserved
loop-host-preserved c =
    let code = shape_of c.args.code.now in
    let before = c.loop-host.parts.items in
    let same = next_part c.args.version code before c.loop-host.host c.loop-host.invariant.count in
    let read = subst (λ (item : SplitReader (List Instr)). item c.loop-host.rest.now
    ≡ Ok (c.in_ok-part.part, c.in_ok-part.after.now)) (sym same) c.in_ok-part.ensures in
    record {
      read = rw c.in_ok-push.ensures.items (items_more (next_part_at c.args.version code) before c.args.count
          c.loop-host.host _
          c.loop-host.rest.now _ _ c.loop-host-test.true read c.loop-host.invariant.read);
      count = ap length c.in_ok-push.ensures.items ∙ length_push before c.in_ok-part.part
          ∙ ap (λ n. n + 1) c.loop-host.invariant.count;
    }
