use Rattle.std.proofs.Common.{◌∙◌, sym}
use Rattle.std.proofs.lemmas.Bool.{false≢true}
use Rattle.label_check.proofs.Asked.{no_begin}
use Rattle.label_check.proofs.constraints.ask_begin.Goals.{else-conf_flows-via-then-conf_flows+else-integ_flows}
use Rattle.label_check.proofs.constraints.ask_begin.Goals.{else-conf_flows-via-else-conf_flows}
use Rattle.label_check.proofs.constraints.ask_begin.Goals as goal

pub returns-else-conf_flows-clause-err : goal.returns-else-conf_flows-clause-err
returns-else-conf_flows-clause-err c = λ principals.
    no_begin principals c.args.statement c.args.pc.now c.args.begin.now (λ flows. elim c.else-conf_flows.branch [
      | else-conf_flows-via-then-conf_flows+else-integ_flows w ↦
          false≢true (sym w.if-integ_flows.false ∙ w.integ_flows.ensures.1 flows.1)
      | else-conf_flows-via-else-conf_flows w ↦ false≢true (sym w.if-conf_flows.false ∙ c.conf_flows.ensures.1 flows.0)
    ])
