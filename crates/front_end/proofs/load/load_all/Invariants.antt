use Rattle.front_end.specs.Loads.{files_change}
use Rattle.front_end.proofs.Loading.{HaveLoaded}
use Rattle.front_end.proofs.load.load_all.Given as goal

abbrev pub invariant-loop-one : goal.invariant-loop-one
invariant-loop-one g l =
    HaveLoaded l.one-index l.asked l.all.items
    (files_change g.F.Files l.initial.files l.files)
