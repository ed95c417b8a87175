use Rattle.std.proofs.Common.{◌∙◌}
use Rattle.std.proofs.lemmas.Result.{IfOk-weaker}
use Rattle.jif_resolve.proofs.MethodWalks.{whole_draft}
use Rattle.jif_resolve.proofs.draft_faults.first_fault.Goals as goal

pub returns : goal.returns
returns c =
    IfOk-weaker c.with_methods.result _ _
    (λ found same. same ∙ whole_draft c.args.principals.now c.args.draft.now c.args.globals.now
    c.with_repeated-repeated.result c.deref.result.now c.with_fields-labelled.result c.requires.names
    c.with_repeated-repeated.ensures c.deref.ensures.value c.with_fields-labelled.ensures) c.with_methods.ensures
