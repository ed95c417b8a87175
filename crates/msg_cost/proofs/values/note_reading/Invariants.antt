use Rattle.std.proofs.Common.{◌≡◌, length}
use Rattle.msg_cost.specs.Kept.{AreReadingWords}
use Rattle.msg_cost.specs.Views.{seated_shape}
use Rattle.msg_cost.proofs.values.note_reading.Given as goal

-- the words of the variables so far are found
abbrev pub invariant-loop-number : goal.invariant-loop-number
invariant-loop-number l = record {
  long : length l.words ≡ length l.fn.words;
  found : AreReadingWords (seated_shape l.planned) l.number l.words;
}
