use Rattle.std.proofs.Common.{◌≡◌, ◌++◌, drop}
use Rattle.std.specs.Str.{encode_utf8_all}
use Rattle.std.specs.String.{string_bytes}
use Rattle.run_sheet.proofs.statements.push_letters.Given as goal

-- what was added, and the letters that are left, make the whole
abbrev pub invariant-loop-letter : goal.invariant-loop-letter
invariant-loop-letter l =
    string_bytes l.text ++ encode_utf8_all (drop l.letter-index l.letters)
    ≡ string_bytes l.initial.text ++ encode_utf8_all l.letters
