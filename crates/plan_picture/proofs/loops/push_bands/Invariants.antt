use Rattle.std.proofs.Common.{◌≡◌, ◌++◌, drop}
use Rattle.std.specs.String.{string_bytes}
use Rattle.plan_picture.specs.Loops.{bands_text}
use Rattle.plan_picture.proofs.loops.push_bands.Given as goal

abbrev pub invariant-loop-one : goal.invariant-loop-one
invariant-loop-one l =
    string_bytes l.text ++ bands_text l.places l.right (drop l.one-index l.loops)
    ≡ string_bytes l.initial.text ++ bands_text l.places l.right l.loops
