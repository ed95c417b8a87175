use Rattle.std.proofs.Common.{◌≡◌, ◌++◌, drop, map}
use Rattle.std.specs.Prelude.{string_bytes}
use Rattle.jifmerge.specs.Due.{names_with_most}
use Rattle.jifmerge.proofs.LoadedWords.{pairs_of}
use Rattle.jifmerge.proofs.due.asked_files.Given as goal

-- what was asked for, and the files of the words that are left, make the whole
abbrev pub invariant-loop-place : goal.invariant-loop-place
invariant-loop-place l =
    pairs_of l.asked.items ++ names_with_most l.place (map string_bytes (drop l.place l.words))
    ≡ names_with_most 0 (map string_bytes l.words)
