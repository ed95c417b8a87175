-- What is seen of an answer.
use Rattle.std.specs.Prelude.{string_bytes}
use Rattle.jiftokens.specs.declared.answers.Answer.{Answer}
use Rattle.jiftokens.specs.declared.answers.Answer.TheVariants.{Print, Refuse}
use Rattle.jiftokens.specs.Answers.{Shape, lists, refuses}

abbrev pub answer_shape : Answer → Shape
answer_shape (Print text) = lists (string_bytes text)
answer_shape (Refuse status line) = refuses status (string_bytes line)
