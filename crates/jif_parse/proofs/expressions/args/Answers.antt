use Rattle.std.proofs.Common.{sym, ◌∙◌}
use Rattle.std.proofs.lemmas.Bool.{false≢true}
use Rattle.jif_parse.specs.Phrases.{FailsArgs}
use Rattle.jif_parse.proofs.Exits.{handed_on}
use Rattle.jif_parse.proofs.ArgLists.{no_args, args_none, args_more, args_end, args_fail, args_end_fails}
use Rattle.jif_parse.proofs.expressions.args.Goals as goal

pub returns-then-is_next-clause-read : goal.returns-then-is_next-clause-read
returns-then-is_next-clause-read c =
    rw c.new-args.ensures.items (args_none c.requires (c.is_next.ensures.0 c.if-is_next.true) c.pass.ensures)

pub loop-args-init : goal.loop-args-init
loop-args-init c =
    rw c.new-args.ensures.items (no_args c.args.cursor.now c.args.depth
    (λ is. false≢true (sym c.if-is_next.false ∙ c.is_next.ensures.1 is)))

pub returns-in_err-arg-clause-fails : goal.returns-in_err-arg-clause-fails
returns-in_err-arg-clause-fails c =
    handed_on (FailsArgs c.args.cursor.now c.args.depth) c.in_err-arg.field-0.0 c.from_residual.result
    c.from_residual.ensures (args_fail c.loop-args.invariant c.in_err-arg.ensures.fails)

pub returns-in_err-expect-clause-fails : goal.returns-in_err-expect-clause-fails
returns-in_err-expect-clause-fails c =
    handed_on (FailsArgs c.args.cursor.now c.args.depth) c.in_err-expect.field-0.0 c.from_residual-in_err-expect.result
    c.from_residual-in_err-expect.ensures
    (args_end_fails c.loop-args.invariant c.in_ok-arg.ensures.read
    (λ is. false≢true (sym c.if-not-is_next.true ∙ c.is_next-in-loop-args.ensures.1 is))
    c.in_err-expect.ensures.other)

pub returns-then-not-is_next-clause-read : goal.returns-then-not-is_next-clause-read
returns-then-not-is_next-clause-read c =
    args_end c.requires c.loop-args.invariant c.in_ok-arg.ensures.read c.in_ok-expect.ensures.passed
    c.push.new.self.items
    c.in_ok-push.ensures.items

pub loop-args-preserved : goal.loop-args-preserved
loop-args-preserved c =
    args_more c.requires c.loop-args.invariant c.in_ok-arg.ensures.read
    (c.is_next-in-loop-args.ensures.0 c.if-not-is_next.false) c.pass-in-loop-args.ensures c.push.new.self.items
    c.in_ok-push.ensures.items
