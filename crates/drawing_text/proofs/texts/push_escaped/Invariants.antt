use Rattle.std.proofs.Common.{◌≡◌, ◌++◌, drop}
use Rattle.std.specs.Str.{encode_utf8_all}
use Rattle.std.specs.String.{string_bytes}
use Rattle.drawing_text.specs.Letters.{escaped}
use Rattle.drawing_text.proofs.texts.push_escaped.Given as goal

-- what was added, and the letters that are left, make the whole
abbrev pub invariant-loop-letter : goal.invariant-loop-letter
invariant-loop-letter l =
    string_bytes l.text ++ encode_utf8_all (escaped (drop l.letter-index l.letters))
    ≡ string_bytes l.initial.text ++ encode_utf8_all (escaped l.letters)
