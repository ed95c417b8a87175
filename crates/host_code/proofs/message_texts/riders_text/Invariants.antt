use Rattle.std.proofs.Common.{◌≡◌, ◌++◌, drop}
use Rattle.std.specs.String.{string_bytes}
use Rattle.host_code.specs.MessageText as text
use Rattle.host_code.proofs.message_texts.riders_text.Given as goal

-- what is printed, and what is left, make the whole
abbrev pub invariant-loop-var : goal.invariant-loop-var
invariant-loop-var l =
    string_bytes l.printed ++ text.riders_text l.code (drop l.var-index l.riders) ≡ text.riders_text l.code l.riders
