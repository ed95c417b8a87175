use Rattle.std.proofs.Common.{◌∙◌, ap, map}
use Rattle.std.proofs.lemmas.Result.{IfOk-weaker}
use Rattle.std.specs.Prelude.{codes, string_bytes}
use Rattle.std.specs.List.{join_by}
use Rattle.explain_texts.proofs.reason_lines.readers_text.Goals as goal

pub returns : goal.returns
returns c =
    IfOk-weaker c.joined.result _ _
    (λ text is. is ∙ ap (join_by (λ text. text) (codes " and "))
    (ap (map string_bytes) c.deref.ensures.value ∙ c.in_ok-names.ensures)) c.joined.ensures
