use Rattle.std.proofs.Common.{rules, ap, refl, ◌∙◌}
use Rattle.label_lattice.specs.declared.label.Label.{Label}
use Rattle.label_lattice.specs.Lattice.{join_of}
use Rattle.need_labels.proofs.ReadRows.{tell_adds, tell_past}
use Rattle.need_labels.proofs.reads.tell.Goals as goal

pub returns-in-Some : goal.returns-in-Some
returns-in-Some c principals labelled id turn =
    tell_adds principals labelled id turn c.args.reads.now _ _ c.in-Some.told.now c.join.result (search rules) refl
    (c.join.ensures.value ∙ ap (λ (old : Label). join_of old c.args.label) c.in-Some.ensures.item.1)

pub returns-in_default : goal.returns-in_default
returns-in_default c principals labelled id turn =
    tell_past principals labelled id turn c.args.reads.now _ c.in_default.ensures.item.3
