-- A branch that releases nothing in its guard, with a release in one block and an endorsement in the other, and a
-- release behind it.
use Rattle.std.specs.Prelude.{ℕ, []}
use Rattle.js_base.specs.declared.ids.FieldId.{FieldId}
use Rattle.label_lattice.specs.declared.label.Label.{Label}
use Rattle.jif_tree.specs.Trees.{ExprTree, scalar, inverted, declassified, endorsed}
use Rattle.jif_tree.specs.Trees.{Heading, BlockTree, done, set_field, branch, give_back}

abbrev sample_field : FieldId
sample_field = record { 0 = 0 }

abbrev some_label : Label
some_label = record { rows = []; trust = 0 }

abbrev at : ℕ → Heading
at number = record { id = record { 0 = number }; line = 1 }

-- `inverted` has the release inside
abbrev given : ExprTree
given = inverted (declassified (scalar sample_field) some_label)

abbrev trusted : ExprTree
trusted = endorsed (scalar sample_field) some_label

abbrev pub sample_block : BlockTree
sample_block =
    branch (at 3) (scalar sample_field) (set_field (at 4) sample_field given done)
    (set_field (at 5) sample_field trusted done) (give_back (at 6) given done)
