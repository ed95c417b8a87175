use Rattle.std.proofs.Common.{subst, sym}
use Rattle.host_code.specs.Sound.{IsSoundCode}
use Rattle.need_labels.specs.Labelled.{labelled_of}
use Rattle.control_split.proofs.emitting.emit.Goals as goal

pub new-requires : goal.new-requires
new-requires c =
    subst IsSoundCode (sym c.in_ok-parts.ensures)
    (c.split_laws.ensures.sound (record {
      labelled = labelled_of c.args.checked.now;
      needs = c.args.needs.now;
      hosts = c.args.hosts.now;
      plan = c.args.plan.now;
    }) c.requires.splittable)
