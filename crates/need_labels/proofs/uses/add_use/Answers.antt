use Rattle.std.proofs.lemmas.Result.{IfOk-weaker}
use Rattle.need_labels.proofs.uses.add_use.Goals as goal

pub returns : goal.returns
returns c =
    IfOk-weaker c.finish.result _ _
    (λ backed adds. λ changed is. adds c.args.found.now c.args.id _ _ changed c.in_ok-current.ensures is)
    c.finish.ensures
