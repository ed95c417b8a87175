use Rattle.std.proofs.Common.{sym, ◌∙◌}
use Rattle.label_reasons.specs.Search.{authority_at}
use Rattle.label_reasons.proofs.Searching.{offered_some, offered_none}
use Rattle.label_reasons.proofs.search.offered.Goals as goal

pub returns-then-is_refused : goal.returns-then-is_refused
returns-then-is_refused c ask shows =
    rw c.in-None.is (offered_some c.args.place.now.principals.now c.args.place.now.held
    (authority_at c.args.place.now) ask c.args.asked.now shows (sym c.is_refused.ensures ∙ c.if-is_refused.true))

pub returns-else-is_refused : goal.returns-else-is_refused
returns-else-is_refused c ask shows =
    rw c.in-None.is (offered_none c.args.place.now.principals.now c.args.place.now.held
    (authority_at c.args.place.now) ask c.args.asked.now shows (sym c.is_refused.ensures ∙ c.if-is_refused.false))
