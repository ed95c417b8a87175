use Rattle.std.proofs.Common.{◌∙◌, sym, rules}
use Rattle.event_text.specs.Lines.{words}
use Rattle.event_text.proofs.RiderLists.{past_all}
use Rattle.event_text.proofs.acts.riders_of.Goals as goal

pub returns-else-is_blank_line-2 : goal.returns-else-is_blank_line-2
returns-else-is_blank_line-2 c =
    sym (past_all c.args.code.now c.loop.riders (words c.loop.rest.now) (search rules) (search rules))
    ∙ c.loop.invariant.whole
