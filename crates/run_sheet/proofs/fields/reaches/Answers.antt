use Rattle.std.proofs.Common.{ℕ, ◌∙◌, ap, slice_get, sym}
use Rattle.std.specs.Option.{option_copied}
use Rattle.run_sheet.proofs.TrustedAlike.{reached}
use Rattle.run_sheet.proofs.fields.reaches.Goals as goal

pub returns-in-Some-Some : goal.returns-in-Some-Some
returns-in-Some-Some c =
    reached c.args.code.now c.args.field.now c.args.host c.integ_flows.result c.in-Some-Some.host.now
    c.in-Some-Some.label.now c.label-in-Some-Some.result.now
    (sym c.host.ensures ∙ ap option_copied c.in-Some-Some.is-0)
    (ap (λ (n : ℕ). slice_get c.args.code.now.labels n) (sym c.label.ensures) ∙ sym c.label-2.ensures
    ∙ ap option_copied c.in-Some-Some.is-1)
    c.label-in-Some-Some.ensures c.integ_flows.ensures
