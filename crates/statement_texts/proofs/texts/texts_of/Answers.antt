use Rattle.std.proofs.Common.{◌≡◌, ◌∙◌, arith, length, map, sym, vec_len}
use Rattle.std.proofs.lemmas.List.{length-map}
use Rattle.std.proofs.lemmas.Result.{IfOk-weaker}
use Rattle.jif_tree.specs.Trees.{field_tree}
use Rattle.statement_texts.proofs.Lines.{behind_fields}
use Rattle.statement_texts.proofs.texts.texts_of.Goals as goal

pub returns : goal.returns
returns c =
    let program = c.args.program.now in
    let counted : vec_len program.fields ≡ length program.fields.items = omega arith in
    let fields : c.len.result ≡ length (map field_tree program.fields.items) =
    c.len.ensures ∙ counted ∙ sym (length-map program.fields.items field_tree) in
    IfOk-weaker c.statements_in.result _ _
    (λ found is. is ∙ behind_fields _ _ _ _ _ _ _ c.behind.ensures c.as_slice.ensures.value c.in_ok-lines.ensures
    (c.as_str.ensures.value ∙ c.in_ok-printed.ensures) fields) c.statements_in.ensures
