use Rattle.std.proofs.Common.{arith}
use Rattle.label_lattice.specs.Label.{IsLabel}
use Rattle.split_file.specs.Spelling.{label_bytes}
use Rattle.split_file.proofs.Appends.{put_more}
use Rattle.split_file.proofs.writing.put_labels.Goals as goal

pub loop-label-preserved : goal.loop-label-preserved
loop-label-preserved c =
    put_more label_bytes IsLabel c.args.labels.now c.loop-label.label-index _ _ _ _ (omega arith) c.loop-label.invariant
    c.in_ok-put_label.ensures.bytes c.in_ok-put_label.ensures.real
