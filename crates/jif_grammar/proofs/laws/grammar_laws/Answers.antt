use Rattle.jif_grammar.proofs.OneProgram.{one_reading, one_draft}
use Rattle.jif_grammar.proofs.OneRefusal.{one_refusal, never_both}
use Rattle.jif_grammar.proofs.SameMarks.{same_marks, one_tally}
use Rattle.jif_grammar.proofs.laws.grammar_laws.Goals as goal

pub returns : goal.returns
returns c = record {
  one_reading = one_reading;
  one_draft = one_draft;
  one_refusal = one_refusal;
  never_both = never_both;
  same_marks = same_marks;
  one_tally = one_tally;
}
