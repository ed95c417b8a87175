use Rattle.std.proofs.Common.{◌≡◌, ap, arith, ◌∙◌, ◌++◌}
use Rattle.std.specs.String.{string_bytes}
use Rattle.std.proofs.lemmas.Result.{on_ok_weaker}
use Rattle.js_base.specs.declared.ids.HostId.{HostId}
use Rattle.jiffields.proofs.FieldTexts.{shown}
use Rattle.jiffields.proofs.fields.push_field.Goals as goal

pub returns : goal.returns
returns c =
    let same = ap (λ (host : HostId). host.0) c.host.ensures in
    let here : c.args.field.now.host.0 ≡ c.args.me.0 = omega (arith, same) in
    on_ok_weaker c.push_row_line.result
    (λ pushed. pushed ∙ ap (λ text. string_bytes c.args.text.now ++ text)
    (shown c.args.me c.args.host.now.stores.rows c.args.number c.args.field.now c.name.result.now c.size.result
    c.deref.result.now here c.name.ensures c.size.ensures (c.deref.ensures.value ∙ c.in_ok-row.ensures)))
    c.push_row_line.ensures
