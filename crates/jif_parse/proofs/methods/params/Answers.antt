use Rattle.std.proofs.Common.{refl}
use Rattle.std.proofs.lemmas.Bool.{false≢true}
use Rattle.jif_parse.proofs.Exits.{handed_on}
use Rattle.jif_parse.specs.Methods.{FailsParams}
use Rattle.jif_parse.proofs.MethodParts.{params_none_read, no_params, params_fail, params_end_fail, params_end}
use Rattle.jif_parse.proofs.MethodParts.{params_more}
use Rattle.jif_parse.proofs.MethodParts.{params_fall}
use Rattle.jif_parse.proofs.methods.params.Goals as goal

pub returns-then-is_next-clause-read : goal.returns-then-is_next-clause-read
returns-then-is_next-clause-read c =
    params_none_read c.new-params.result.items c.new-params.ensures.items
    (record { is_next = c.if-is_next.ensures.0 refl; passes = c.pass.ensures })

pub loop-params-init : goal.loop-params-init
loop-params-init c =
    no_params c.args.cursor.now _ c.new-params.ensures.items (λ h. false≢true (c.if-is_next.ensures.1 h))

pub returns-in_err-param-clause-fails : goal.returns-in_err-param-clause-fails
returns-in_err-param-clause-fails c =
    handed_on (FailsParams c.args.cursor.now) c.in_err-param.field-0.0 c.from_residual.result c.from_residual.ensures
    (params_fail c.loop-params.invariant c.in_err-param.ensures.fails)

pub returns-in_err-expect-clause-fails : goal.returns-in_err-expect-clause-fails
returns-in_err-expect-clause-fails c =
    handed_on (FailsParams c.args.cursor.now) c.in_err-expect.field-0.0 c.from_residual-in_err-expect.result
    c.from_residual-in_err-expect.ensures
    (params_end_fail c.loop-params.invariant c.in_ok-param.ensures.read
    (λ h. false≢true (c.if-not-is_next.ensures.1 h)) c.in_err-expect.ensures.other)

pub returns-then-not-is_next-clause-read : goal.returns-then-not-is_next-clause-read
returns-then-not-is_next-clause-read c =
    params_end c.push.new.self.items c.in_ok-push.ensures.items c.loop-params.invariant c.in_ok-param.ensures.read
    c.in_ok-expect.ensures.passed

pub loop-params-smaller : goal.loop-params-smaller
loop-params-smaller c =
    params_fall c.in_ok-param.ensures.read (c.if-not-is_next.ensures.0 refl) c.pass-in-loop-params.ensures

pub loop-params-preserved : goal.loop-params-preserved
loop-params-preserved c =
    params_more c.push.new.self.items c.in_ok-push.ensures.items c.loop-params.invariant c.in_ok-param.ensures.read
    (c.if-not-is_next.ensures.0 refl) c.pass-in-loop-params.ensures
