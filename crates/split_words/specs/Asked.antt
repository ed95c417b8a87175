-- The command that was asked for, as contracts see it.
use Rattle.split_words.specs.declared.words.Command.{Command}
use Rattle.split_words.specs.declared.words.Command.TheVariants as asked
use Rattle.split_words.specs.Commands.{CommandShape, Check, Run, Replay, Drive, Compare, Split, Make}

abbrev pub command_shape : Command → CommandShape
command_shape (asked.Check program hosts) = Check program.now hosts.now
command_shape (asked.Run program hosts start steps) = Run program.now hosts.now start.now steps
command_shape (asked.Replay program hosts events) = Replay program.now hosts.now events.now
command_shape (asked.Drive program hosts start events) = Drive program.now hosts.now start.now events
command_shape (asked.Compare program hosts one other) = Compare program.now hosts.now one.now other.now
command_shape (asked.Split program hosts out) = Split program.now hosts.now out.now
command_shape (asked.Make statements) = Make statements
