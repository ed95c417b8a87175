use Rattle.std.proofs.Common.{◌≡◌, length}
use Rattle.std.specs.Prelude.{◌↔◌}
use Rattle.event_text.specs.Lines.{words}
use Rattle.record_merge.proofs.step_lines.is_same_words.Given as goal

-- the lines have the same words where what is left of them has
abbrev pub invariant-loop-word : goal.invariant-loop-word
invariant-loop-word l = (words l.left ≡ words l.against) ↔ (words l.one ≡ words l.other)

abbrev pub decreases-loop-word : goal.decreases-loop-word
decreases-loop-word l = length l.left
