use Rattle.std.proofs.Common.{◌≡◌, ◌++◌, drop}
use Rattle.std.specs.String.{string_bytes}
use Rattle.plan_picture.specs.Loops.{brackets_text}
use Rattle.plan_picture.proofs.loops.push_brackets.Given as goal

abbrev pub invariant-loop-one : goal.invariant-loop-one
invariant-loop-one l =
    string_bytes l.text ++ brackets_text l.places (drop l.one-index l.loops)
    ≡ string_bytes l.initial.text ++ brackets_text l.places l.loops
