use Rattle.std.proofs.Common.{take}
use Rattle.label_lattice.specs.Label.{IsLabel}
use Rattle.split_file.specs.Spelling.{label_bytes}
use Rattle.split_file.specs.Put.{ArePut}
use Rattle.split_file.proofs.writing.put_labels.Given as goal

abbrev pub invariant-loop-label : goal.invariant-loop-label
invariant-loop-label l =
    ArePut label_bytes IsLabel l.initial.out.items (take l.label-index l.labels) l.out.items
