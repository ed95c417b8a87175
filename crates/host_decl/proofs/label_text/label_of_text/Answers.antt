use Rattle.std.proofs.lemmas.Result.{IfOk-weaker}
use Rattle.std.specs.Prelude.{IfNone}
use Rattle.jif_lex.specs.Tokens.{ReadsAs, tokens}
use Rattle.label_lattice.specs.declared.label.Label.{Label}
use Rattle.label_lattice.specs.Written.{IsLabelOf}
use Rattle.host_decl.specs.LabelText.{IsLabelText}
use Rattle.host_decl.proofs.LabelTexts.{read_none, bad_byte_is_none, bad_number_is_none}
use Rattle.host_decl.proofs.label_text.label_of_text.Goals as goal

pub returns-in-Ok-clause-none : goal.returns-in-Ok-clause-none
returns-in-Ok-clause-none c =
    let reads : ReadsAs c.args.text.now (tokens c.deref.result.now) =
    rw (← c.as_bytes.ensures.value, c.deref.ensures.value) c.in-Ok.ensures.1 in
    IfOk-weaker c.read_label.result
    (λ read. IfNone read ((label : Label) → ¬ IsLabelOf c.args.principals.now c.deref.result.now label))
    (λ read. IfNone read ((label : Label) → ¬ IsLabelText c.args.principals.now c.args.text.now label))
    (read_none c.lex_laws.ensures c.args.principals.now c.args.text.now c.deref.result.now reads)
    c.read_label.ensures.none

pub returns-in-Err-BadByte-clause-none : goal.returns-in-Err-BadByte-clause-none
returns-in-Err-BadByte-clause-none c =
    let fails = rw c.in-Err-BadByte.field-0-is at c.in-Err-BadByte.ensures in
    bad_byte_is_none c.lex_laws.ensures c.args.principals.now c.args.text.now _ (rw c.as_bytes.ensures.value at fails.1)

pub returns-in-Err-BadNumber-clause-none : goal.returns-in-Err-BadNumber-clause-none
returns-in-Err-BadNumber-clause-none c =
    let fails = rw c.in-Err-BadNumber.field-0-is at c.in-Err-BadNumber.ensures in
    bad_number_is_none c.lex_laws.ensures c.args.principals.now c.args.text.now _
    (rw c.as_bytes.ensures.value at fails.1)
