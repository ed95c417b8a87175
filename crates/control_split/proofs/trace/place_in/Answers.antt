use Rattle.std.proofs.Common.{◌∙◌, sym, ap}
use Rattle.label_lattice.specs.Lattice.{empty_label}
use Rattle.split_rules.specs.SplitCode.{label_place}
use Rattle.control_split.proofs.Alike.{labels_put, place_put, placed}
use Rattle.control_split.proofs.trace.place_in.Goals as goal

pub returns-clause-place : goal.returns-clause-place
returns-clause-place c =
    let labels = c.args.labels.now.keys in
    let label = c.args.label.now in
    let all = c.in_ok-place.ensures.keys ∙ labels_put label labels in
    let at = c.in_ok-place.ensures.index ∙ place_put label labels in
    at ∙ (placed label empty_label labels).0 ∙ ap (label_place 0 label) (sym all)

pub returns-clause-last : goal.returns-clause-last
returns-clause-last c inside =
    let labels = c.args.labels.now.keys in
    let label = c.args.label.now in
    let all = c.in_ok-place.ensures.keys ∙ labels_put label labels in
    let at = c.in_ok-place.ensures.index ∙ place_put label labels in
    rw (all, at) (placed label empty_label labels).1
