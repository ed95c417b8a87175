use Rattle.std.proofs.Common.{map, take}
use Rattle.std.specs.List.{IsDistinct}
use Rattle.std.specs.Str.{bytes_eq}
use Rattle.js_base.proofs.named.first_repeated.Given as goal

abbrev pub invariant-loop-place : goal.invariant-loop-place
invariant-loop-place g l = IsDistinct bytes_eq (take l.place (map g.T.Named.called l.items))
