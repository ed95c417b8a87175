use Rattle.std.proofs.Common.{◌≡◌, ◌++◌, drop, map}
use Rattle.plan_picture.specs.Lines.{line_of}
use Rattle.plan_picture.proofs.lines.lines_of.Given as goal

abbrev pub invariant-loop-way : goal.invariant-loop-way
invariant-loop-way l =
    l.found.items ++ map (line_of l.numbers) (drop l.way-index l.sheet.ways.now.ways.items)
    ≡ map (line_of l.numbers) l.sheet.ways.now.ways.items
