use Rattle.std.proofs.Common.{◌≡◌, ℕ, ◌<◌, length, get_or}
use Rattle.entry_check.specs.Checks.{IsWordOfAsk, ask_of}
use Rattle.entry_check.proofs.checks.words_of.Given as goal

-- the words so far are those of the numbers so far
abbrev pub invariant-loop-number : goal.invariant-loop-number
invariant-loop-number l = record {
  count : length l.words.items ≡ l.number;
  words : (n : ℕ) → n < l.number → IsWordOfAsk l.code l.me (ask_of l.kind n) (get_or l.words.items n 0);
}
