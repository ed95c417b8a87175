use Rattle.std.proofs.Common.{rules}
use Rattle.std.proofs.lemmas.List.{append_assoc}
use Rattle.event_text.proofs.event_texts.event_line.Goals as goal

pub returns-in_ok-format-in-Take : goal.returns-in_ok-format-in-Take
returns-in_ok-format-in-Take c = rw c.in-Take.is (simp append_assoc (search rules))

pub returns-in_ok-format-in-Act : goal.returns-in_ok-format-in-Act
returns-in_ok-format-in-Act c = rw c.in-Act.is (simp append_assoc (search rules))
