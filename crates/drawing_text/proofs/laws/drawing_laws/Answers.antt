use Rattle.drawing_text.proofs.Escapes.{reads_back, unmarked}
use Rattle.drawing_text.proofs.Rows.{apart, as_many, begins, ends}
use Rattle.drawing_text.proofs.laws.drawing_laws.Goals as goal

pub returns-clause-no_marks : goal.returns-clause-no_marks
returns-clause-no_marks c = unmarked

pub returns-clause-reads_back : goal.returns-clause-reads_back
returns-clause-reads_back c = reads_back

pub returns-clause-apart : goal.returns-clause-apart
returns-clause-apart c = apart

pub returns-clause-within : goal.returns-clause-within
returns-clause-within c = λ from i spans one start here there.
    (begins from i spans one start here there, ends from i spans one start here there)

pub returns-clause-as_many : goal.returns-clause-as_many
returns-clause-as_many c = as_many
