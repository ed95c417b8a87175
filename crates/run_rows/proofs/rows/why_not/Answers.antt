-- What a misbehaving host asks is what the message asks that it makes.
use Rattle.std.proofs.Common.{◌∙◌, sym, subst}
use Rattle.run_rows.specs.declared.row.What.{What}
use Rattle.run_rows.specs.Rows.{IsReason}
use Rattle.run_rows.proofs.AskedIn.{same_asked}
use Rattle.run_rows.proofs.rows.why_not.Goals as goal

pub returns-in-Act : goal.returns-in-Act
returns-in-Act c =
    subst (λ (found : What). IsReason c.args.code.now found c.args.passes c.why_ignored-in-Act.result) (sym c.in-Act.is)
    (λ host taken tokens here makes checked. c.why_ignored-in-Act.ensures host taken here
    (same_asked tokens c.in-Act.made taken makes ∙ sym c.asked_in.ensures) checked)
