use Rattle.std.proofs.lemmas.Result.{IfOk-weaker}
use Rattle.toml.specs.View.{table_view}
use Rattle.host_reasons.proofs.OneTold.{found_in_document, some_matches}
use Rattle.host_reasons.proofs.told.bad_key_in.Goals as goal

pub returns-clause-found : goal.returns-clause-found
returns-clause-found c =
    IfOk-weaker c.first_bad_key.result _ _
    (λ found is. found_in_document c.args.bytes.now (table_view c.in-Some.file) found
    (some_matches _ _ c.in_ok-file.field-0 c.in-Some.file c.in-Some.is c.in_ok-file.ensures) is)
    c.first_bad_key.ensures.found
