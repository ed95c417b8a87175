use Rattle.std.proofs.Common.{refl}
use Rattle.std.specs.Char.{encode_utf8}
use Rattle.std.specs.Fmt.{digits}
use Rattle.std.specs.Str.{chars}
use Rattle.run_sheet.proofs.laws.sheet_examples.Goals as goal

pub returns-clause-no_entry : goal.returns-clause-no_entry
unfolding digits
returns-clause-no_entry c = λ of_b label need. refl

pub returns-clause-not_entered : goal.returns-clause-not_entered
unfolding digits
returns-clause-not_entered c = λ of_b label need. refl

pub returns-clause-not_known : goal.returns-clause-not_known
unfolding digits
returns-clause-not_known c = λ of_b label need. refl

pub returns-clause-stack : goal.returns-clause-stack
unfolding digits
returns-clause-stack c = λ of_b label need. refl

pub returns-clause-in_short : goal.returns-clause-in_short
unfolding chars digits encode_utf8
returns-clause-in_short c = refl

pub returns-clause-whole : goal.returns-clause-whole
unfolding digits
returns-clause-whole c = refl
