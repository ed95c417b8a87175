use Rattle.std.proofs.Common.{◌≡◌, ◌+◌, ◌++◌, ◌∷◌, [], Ok, length, ap, sym, subst, ◌∙◌, arith}
use Rattle.std.specs.Prelude.{if◌then◌else◌}
use Rattle.std.proofs.lemmas.Result.{err_from_is_err_and}
use Rattle.std.proofs.lemmas.List.{length_push}
use Rattle.host_code.specs.declared.instruction.Instr.{Instr}
use Rattle.host_code.specs.CodeParts.{shape_of}
use Rattle.host_code.specs.Sound.{is_entrance, temporaries_at, temporaries_after}
use Rattle.byte_format.proofs.Items.{items_more}
use Rattle.split_file.specs.Reader.{SplitReader, ReadFails}
use Rattle.split_file.specs.Reading.{next_instruction_at}
use Rattle.split_file.proofs.Items.{items_fail}
use Rattle.split_file.proofs.NextItems.{next_instruction}
use Rattle.split_file.proofs.Temporaries.{temporaries_more, temporaries_few}
use Rattle.split_file.proofs.instructions.instructions_of.Goals as goal

pub returns-in_err-instruction : goal.returns-in_err-instruction
returns-in_err-instruction c =
    let code = shape_of c.args.code.now in
    let p = err_from_is_err_and c.from_residual.result c.from_residual.ensures.1 in
    let same = next_instruction c.args.version code c.args.me c.args.places c.loop-number.instructions.items
    c.loop-number.temporaries
    c.loop-number.number c.loop-number.invariant.count c.loop-number.invariant.temporaries in
    let fails = subst (λ (item : SplitReader Instr). ReadFails c.in_err-instruction.field-0.0
    (item c.loop-number.rest.now))
    (sym same) c.in_err-instruction.ensures in
    rw (p.1, p.2) (items_fail (next_instruction_at c.args.version code c.args.me c.args.places)
    c.loop-number.instructions.items
    c.args.places c.loop-number.number _ c.loop-number.rest.now _ c.loop-number-test.true fails
    c.loop-number.invariant.read)

pub loop-number-preserved : goal.loop-number-preserved
loop-number-preserved c =
    let code = shape_of c.args.code.now in
    let before = c.loop-number.instructions.items in
    let next = c.in_ok-instruction.instruction in
    let inv = c.loop-number.invariant in
    let same = next_instruction c.args.version code c.args.me c.args.places before c.loop-number.temporaries
    c.loop-number.number
    inv.count inv.temporaries in
    let read = subst (λ (item : SplitReader Instr). item c.loop-number.rest.now
    ≡ Ok (next, c.in_ok-instruction.after.now))
    (sym same) c.in_ok-instruction.ensures in
    let is_there = c.contains-is_entrance.ensures ∙ c.requires (c.loop-number.number + 1) in
    let more : temporaries_at code.entries c.args.me (before ++ next ∷ []) (c.loop-number.number + 1)
    ≡ (if is_entrance code.entries c.args.me (c.loop-number.number + 1) then 0
    else temporaries_after next.op (temporaries_at code.entries c.args.me before c.loop-number.number)) =
    subst (λ n. temporaries_at code.entries c.args.me (before ++ next ∷ []) (n + 1)
    ≡ (if is_entrance code.entries c.args.me (n + 1) then 0
    else temporaries_after next.op (temporaries_at code.entries c.args.me before n)))
    inv.count (temporaries_more code.entries c.args.me before next) in
    let behind = c.temporaries_behind-temporaries.ensures
    ∙ ap (λ b. if b then 0 else temporaries_after next.op c.loop-number.temporaries) is_there in
    record {
      read = rw c.in_ok-push.ensures.items (items_more
          (next_instruction_at c.args.version code c.args.me c.args.places) before
          c.args.places c.loop-number.number _ c.loop-number.rest.now _ _ c.loop-number-test.true read inv.read);
      count = ap length c.in_ok-push.ensures.items ∙ length_push before next ∙ ap (λ n. n + 1) inv.count;
      temporaries = behind
          ∙ ap (λ t. if is_entrance code.entries c.args.me (c.loop-number.number + 1) then 0
          else temporaries_after next.op t) inv.temporaries
          ∙ sym more
          ∙ ap (λ all. temporaries_at code.entries c.args.me all (c.loop-number.number + 1))
          (sym c.in_ok-push.ensures.items);
      few =
          let few = temporaries_few next.op c.loop-number.temporaries
          (is_entrance code.entries c.args.me (c.loop-number.number + 1)) in
          omega (arith, behind, few, inv.few);
    }
