use Rattle.std.proofs.Common.{rules, ◌∙◌, sym}
use Rattle.msg_cost.specs.Views.{ids_of}
use Rattle.control_split.specs.Views.{planned_in}
use Rattle.control_split.proofs.AheadOf.{row_left}
use Rattle.control_split.proofs.needs.under_token.Goals as goal

pub returns-then-begin_on : goal.returns-then-begin_on
returns-then-begin_on c =
    row_left (planned_in c.args.split.now) c.args.spot (ids_of c.args.others.now) c.args.ahead c.requires
    (search rules) (sym c.begin_on.ensures ∙ c.if-begin_on.true)
