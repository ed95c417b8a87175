use Rattle.std.proofs.Common.{◌∙◌, sym}
use Rattle.msg_cost.specs.Views.{ids_of}
use Rattle.control_split.specs.Views.{planned_in}
use Rattle.control_split.proofs.AheadOf.{ahead_apart}
use Rattle.control_split.proofs.needs.ahead_from.Goals as goal

pub returns-else-begin_on : goal.returns-else-begin_on
returns-else-begin_on c =
    let host_is = c.host_of.ensures in
    let apart = sym c.begin_on.ensures ∙ c.if-begin_on.false in
    ahead_apart (planned_in c.args.split.now) c.args.statement.now.id (ids_of c.args.others.now) c.need_of-need.result
    c.args.behind c.need_of-need.ensures c.requires (rw host_is at apart)
