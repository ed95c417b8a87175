use Rattle.std.proofs.Common.{ap, map, ◌∙◌}
use Rattle.std.specs.Fmt.{signed_decimal}
use Rattle.std.specs.List.{join_with_byte}
use Rattle.std.proofs.lemmas.Result.{on_ok_weaker}
use Rattle.run_sheet.proofs.WrittenWords.{added, from_ok, join_with_byte_cons}
use Rattle.run_sheet.proofs.fields.push_elements.Goals as goal

pub returns : goal.returns
returns c =
    let wrote = from_ok c.write.result c.in_ok-map_err.ensures.variant c.write.ensures.bytes in
    let row =
    ap (λ row. join_with_byte 32 (map signed_decimal row)) c.in-Some.ensures.cases.0
    ∙ join_with_byte_cons c.in-Some.first.now c.in-Some.rest.now in
    on_ok_weaker c.push_others.result (λ pushed. added _ _ _ wrote pushed row) c.push_others.ensures
