use Rattle.std.proofs.Common.{◌≡◌, ◌<◌, ◌+◌, ◌-◌, ◌/◌, length, ap, arith}
use Rattle.jif_tree.specs.declared.program.Stmt.{Stmt}
use Rattle.msg_cost.proofs.Ascending.{number_is, lower_half, upper_half}
use Rattle.msg_cost.proofs.around.place_from.Goals as goal

pub loop-low-init : goal.loop-low-init
loop-low-init c = record {
  order = omega arith;
  within = omega arith;
  below = λ other less. absurd (omega arith);
  from = λ other from within. absurd (omega arith);
}

pub loop-low-preserved-then-block-middle : goal.loop-low-preserved-then-block-middle
loop-low-preserved-then-block-middle c =
    let block = c.args.block.now in
    let middle = c.loop-low.low + (c.loop-low.high - c.loop-low.low) / 2 in
    let within = c.loop-low.invariant.within in
    let inside : middle < length block = omega arith in
    let read = ap (λ (one : Stmt). one.id.0) c.index-block-middle.is in
    let here = number_is block middle c.index-block-middle.result inside c.index-block-middle.is in
    record {
      order = omega arith;
      within = within;
      below = lower_half block c.args.number middle c.requires inside (omega arith);
      from = c.loop-low.invariant.from;
    }

pub loop-low-preserved : goal.loop-low-preserved
loop-low-preserved c =
    let block = c.args.block.now in
    let middle = c.loop-low.low + (c.loop-low.high - c.loop-low.low) / 2 in
    let within = c.loop-low.invariant.within in
    let inside : middle < length block = omega arith in
    let read = ap (λ (one : Stmt). one.id.0) c.index-block-middle.is in
    let here = number_is block middle c.index-block-middle.result inside c.index-block-middle.is in
    record {
      order = omega arith;
      within = omega arith;
      below = c.loop-low.invariant.below;
      from = upper_half block c.args.number middle c.requires (omega arith);
    }

pub returns : goal.returns
returns c =
    let order = c.loop-low.invariant.order in
    let within = c.loop-low.invariant.within in
    let same : c.loop-low.high ≡ c.loop-low.low = omega arith in
    record {
      within = omega arith;
      before = c.loop-low.invariant.below;
      from = λ other least inside. c.loop-low.invariant.from other (omega arith) inside;
    }
