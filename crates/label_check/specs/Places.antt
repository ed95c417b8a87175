-- Where a statement stands, and what was found before it.
use Rattle.std.specs.Prelude.{List}
use Rattle.jif_tree.specs.Trees.{BlockTree, MethodTree, program_tree, method_tree}
use Rattle.jif_tree.specs.LabelRules.{MethodSetting, setting_of, Obligation, obligations_of, labels_after, block_labels}
use Rattle.jif_tree.specs.LabelRules.{labels_after_methods, methods_labels}
use Rattle.principals.specs.ActsFor.{Declared}
use Rattle.jif_tree.specs.Trees.{ProgramTree}
use Rattle.label_lattice.specs.declared.label.Label.{Label}
use Rattle.label_check.specs.declared.place.Place.{Place}
use Rattle.label_check.specs.declared.place.Found.{Found}
use Rattle.label_check.specs.Parts.{PassesStatements}

-- what every place of its method has in common
abbrev pub setting_at : Place → MethodSetting
setting_at place = setting_of place.principals.now (program_tree place.program.now) (method_tree place.method.now)

-- what a block asks for
abbrev pub asks_of : Place → Label → Found → BlockTree → List Obligation
asks_of place pc found block = obligations_of (block_labels (setting_at place) pc found.labels.items block)

-- from a block to one that is left of it, with what was found before the one and before the other
abbrev pub PassesTo : Place → Label → Found → BlockTree → Found → BlockTree → Type 0
PassesTo place pc old block new left =
    PassesStatements place.principals.now
    old.pcs.items (labels_after (setting_at place) pc old.labels.items block)
    (block_labels (setting_at place) pc old.labels.items block)
    new.pcs.items (labels_after (setting_at place) pc new.labels.items left)
    (block_labels (setting_at place) pc new.labels.items left)

-- the same of methods
abbrev pub asks_of_methods : Declared → ProgramTree → Found → List MethodTree → List Obligation
asks_of_methods principals program found methods =
    obligations_of (methods_labels principals program found.labels.items methods)

abbrev pub PassesMethods : Declared → ProgramTree → Found → List MethodTree → Found → List MethodTree →
    Type 0
PassesMethods principals program old methods new left =
    PassesStatements principals
    old.pcs.items (labels_after_methods principals program old.labels.items methods)
    (methods_labels principals program old.labels.items methods)
    new.pcs.items (labels_after_methods principals program new.labels.items left)
    (methods_labels principals program new.labels.items left)
