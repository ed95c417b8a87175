use Rattle.front_end.proofs.Refusals.{flow_text, begin_text}
use Rattle.front_end.proofs.refusal_texts.why_not_labelled.Goals as goal

pub returns-in_ok-format-in-BadFlow-clause-text : goal.returns-in_ok-format-in-BadFlow-clause-text
returns-in_ok-format-in-BadFlow-clause-text c =
    flow_text c.args.principals.now _ _ _ _ _ _ _ c.in-BadFlow.is c.in_ok-from-in-BadFlow.ensures
    c.in_ok-to-in-BadFlow.ensures
    c.in_ok-format-in-BadFlow.ensures.ok

pub returns-in_ok-format-in-BadBegin-clause-text : goal.returns-in_ok-format-in-BadBegin-clause-text
returns-in_ok-format-in-BadBegin-clause-text c =
    begin_text c.args.principals.now _ _ _ _ _ _ _ c.in-BadBegin.is c.in_ok-pc-in-BadBegin.ensures
    c.in_ok-begin-in-BadBegin.ensures
    c.in_ok-format-in-BadBegin.ensures.ok
