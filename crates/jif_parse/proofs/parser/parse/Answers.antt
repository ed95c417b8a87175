use Rattle.std.proofs.Common.{refl}
use Rattle.std.proofs.lemmas.Result.{IfOk-weaker, IfErr-weaker}
use Rattle.jif_parse.proofs.FirstVerdict.{found, refused_by}
use Rattle.jif_parse.proofs.parser.parse.Goals as goal

pub returns-clause-found : goal.returns-clause-found
returns-clause-found c =
    let tokens = c.args.tokens.now in
    IfOk-weaker c.items.result _ _ (λ made read.
    found tokens (record { rest = refl; at = refl; counts = c.none.ensures })
    (c.verdict_laws.ensures.accepted tokens) (c.verdict_laws.ensures.spelled tokens) read) c.items.ensures.read

pub returns-clause-refused : goal.returns-clause-refused
returns-clause-refused c =
    let tokens = c.args.tokens.now in
    IfErr-weaker c.items.result _ _ (λ error fails.
    refused_by tokens (record { rest = refl; at = refl; counts = c.none.ensures })
    (c.verdict_laws.ensures.refused tokens) fails) c.items.ensures.fails
