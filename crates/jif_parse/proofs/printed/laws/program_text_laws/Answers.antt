use Rattle.std.proofs.Common.{refl}
use Rattle.label_lattice.specs.Lattice.{empty_label}
use Rattle.jif_parse.specs.PrintedExprs.{operand}
use Rattle.jif_parse.proofs.PrintedStatementLimits.{operand_same, operand_wrapped}
use Rattle.jif_parse.proofs.PrintedReadsBack.{reads_back}
use Rattle.jif_parse.proofs.printed.laws.program_text_laws.Goals as goal

pub returns-clause-reads_back : goal.returns-clause-reads_back
returns-clause-reads_back c =
    reads_back (record {
      one_reading = c.lex_laws.ensures;
      spelled = c.spelled_laws.ensures.reads;
      labels = c.text_laws.ensures.reads_back;
    }) c.verdict_laws.ensures.spelled
    (record { kept = c.limit_laws.ensures.kept; returns = c.limit_laws.ensures.returns })

pub returns-clause-bare : goal.returns-clause-bare
returns-clause-bare c = operand_same

pub returns-clause-wrapped : goal.returns-clause-wrapped
returns-clause-wrapped c = operand_wrapped

pub returns-clause-worked_program : goal.returns-clause-worked_program
unfolding empty_label
returns-clause-worked_program c = refl

pub returns-clause-worked_differences : goal.returns-clause-worked_differences
unfolding operand
returns-clause-worked_differences c = refl

pub returns-clause-worked_products : goal.returns-clause-worked_products
unfolding operand
returns-clause-worked_products c = refl

pub returns-clause-worked_signs : goal.returns-clause-worked_signs
unfolding operand
returns-clause-worked_signs c = refl
