use Rattle.std.proofs.Common.{◌≡◌, ℕ, List, take, length, arith, ◌∙◌, Ok, ap}
use Rattle.std.specs.Int.{w64}
use Rattle.std.proofs.lemmas.Result.{err_from_is_err_and}
use Rattle.std.proofs.lemmas.List.{take_more_set, take_all, length-set}
use Rattle.js_base.specs.declared.limits.TheConstants.{PRINCIPALS}
use Rattle.byte_format.proofs.Items.{items_more, items_done}
use Rattle.split_file.specs.Reader.{number_at}
use Rattle.split_file.proofs.Items.{items_fail}
use Rattle.split_file.proofs.tables.rows_of.Goals as goal

pub returns-in_err-row : goal.returns-in_err-row
returns-in_err-row c =
    let p = err_from_is_err_and c.from_residual.result c.from_residual.ensures.1 in
    rw (p.1, p.2) (items_fail (λ _. number_at w64) (take c.loop-owner.owner c.loop-owner.rows) PRINCIPALS
    c.loop-owner.owner _ c.loop-owner.rest.now _ c.loop-owner-test.true c.in_err-row.ensures
    c.loop-owner.invariant.read)

pub loop-owner-preserved : goal.loop-owner-preserved
loop-owner-preserved c =
    let long : length c.loop-owner.rows ≡ 63 = c.loop-owner.invariant.long in
    record {
      long = length-set c.loop-owner.rows c.loop-owner.owner c.in_ok-row.row ∙ long;
      read = rw (take_more_set c.loop-owner.rows c.loop-owner.owner c.in_ok-row.row (omega arith))
          (items_more (λ _. number_at w64) (take c.loop-owner.owner c.loop-owner.rows) PRINCIPALS c.loop-owner.owner _
          c.loop-owner.rest.now _ _ c.loop-owner-test.true c.in_ok-row.ensures c.loop-owner.invariant.read);
    }

pub returns : goal.returns
returns c =
    let long : length c.loop-owner.rows ≡ 63 = c.loop-owner.invariant.long in
    let done = items_done (λ _. number_at w64) (take c.loop-owner.owner c.loop-owner.rows) PRINCIPALS
    c.loop-owner.owner c.loop-owner.rest.now _ c.loop-owner-test.false c.loop-owner.invariant.read in
    done ∙ ap (λ (rows : List ℕ). Ok (rows, c.loop-owner.rest.now))
    (take_all c.loop-owner.owner c.loop-owner.rows (omega arith))
