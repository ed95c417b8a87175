use Rattle.std.proofs.Common.{◌≡◌, ◌-◌, arith, true, false}
use Rattle.js_base.specs.declared.status.Status.TheVariants as status
use Rattle.node_engine.proofs.Breaking.{leaves_later}
use Rattle.node_engine.proofs.Ready.{same_later}
use Rattle.node_engine.proofs.Served.{ends_broken, ends_closed, ends_spent, ends_told, same_break, same_closing}
use Rattle.node_engine.proofs.Served.{same_unit, serves_on}
use Rattle.node_engine.proofs.node.Node.serves.Goals as goal

pub returns-then-has_closed-clause-serves : goal.returns-then-has_closed-clause-serves
returns-then-has_closed-clause-serves g c =
    let code = c.args.self.now.code.now in
    let me = c.args.self.now.me in
    let same = c.loop.invariant.same in
    record {
      after = ends_closed code me c.args.units c.loop.counter _ _ _ c.closed.result c.loop.invariant.serves
          (rw (same.code, same.me) at c.if-has_closed.ensures)
          (same_closing code _ me _ c.closed.result _ _ same.code same.me c.closed.ensures.closes);
    }

pub returns-in-Ok-true-clause-serves : goal.returns-in-Ok-true-clause-serves
returns-in-Ok-true-clause-serves g c =
    let code = c.args.self.now.code.now in
    let me = c.args.self.now.me in
    let same = c.loop.invariant.same in
    let did = rw c.in-Ok-true.field-0-test at c.in-Ok-true.ensures.ok in
    record {
      after = ends_told code me c.args.units c.loop.counter _ _ _ c.loop-test.true c.loop.invariant.serves
          (rw (same.code, same.me) at c.if-has_closed.ensures)
          (same_unit code _ me _ _ _ true same.code same.me did.after);
    }

pub returns-in-Err-clause-serves : goal.returns-in-Err-clause-serves
returns-in-Err-clause-serves g c =
    let code = c.args.self.now.code.now in
    let me = c.args.self.now.me in
    let same = c.loop.invariant.same in
    record {
      after = ends_broken code me c.args.units c.loop.counter _ _ _ c.in-Err.error c.status.result c.loop-test.true
          c.loop.invariant.serves (rw (same.code, same.me) at c.if-has_closed.ensures) c.status.ensures
          (same_break code _ me _ _ _ c.in-Err.error same.code same.me c.in-Err.ensures.err.after);
    }

pub loop-preserved : goal.loop-preserved
loop-preserved g c =
    let code = c.args.self.now.code.now in
    let me = c.args.self.now.me in
    let same = c.loop.invariant.same in
    let did = rw c.in-Ok-false.field-0-test at c.in-Ok-false.ensures.ok in
    record {
      same = same_later _ _ _ same c.in-Ok-false.ensures.same;
      ready = c.in-Ok-false.ensures.ready;
      leaves = leaves_later status.Done _ _ _ c.loop.invariant.leaves did.leaves;
      serves = serves_on code me c.args.units c.loop.counter _ _ _ c.loop-test.true c.loop.invariant.serves
          (rw (same.code, same.me) at c.if-has_closed.ensures)
          (same_unit code _ me _ _ _ false same.code same.me did.after);
    }

pub returns-then-has_closed-2-clause-serves : goal.returns-then-has_closed-2-clause-serves
returns-then-has_closed-2-clause-serves g c =
    let code = c.args.self.now.code.now in
    let me = c.args.self.now.me in
    let same = c.loop.invariant.same in
    let closed = c.closed-then-has_closed-2 in
    record {
      after = ends_closed code me c.args.units c.loop.counter _ _ _ closed.result c.loop.invariant.serves
          (rw (same.code, same.me) at c.if-has_closed-2.ensures)
          (same_closing code _ me _ closed.result _ _ same.code same.me closed.ensures.closes);
    }

pub returns-clause-serves : goal.returns-clause-serves
returns-clause-serves g c =
    let code = c.args.self.now.code.now in
    let me = c.args.self.now.me in
    let same = c.loop.invariant.same in
    let over = c.loop-test.false in
    let none : c.args.units - c.loop.counter ≡ 0 = omega arith in
    record {
      after = ends_spent code me c.args.units c.loop.counter _ _ none c.loop.invariant.serves
          (rw (same.code, same.me) at c.if-has_closed-2.ensures);
    }
