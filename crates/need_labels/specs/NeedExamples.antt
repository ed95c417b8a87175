-- A program of Alice, to see what its statements need.
use Rattle.std.specs.Prelude.{ℕ, pos, true, false, List, [], ◌∷◌, Some, None, codes}
use Rattle.js_base.specs.declared.binary_operator.BinOp.TheVariants.{Add, Equal}
use Rattle.js_base.specs.declared.ids.FieldId.{FieldId}
use Rattle.js_base.specs.declared.ids.VarId.{VarId}
use Rattle.js_base.specs.declared.ids.PrincipalId.{PrincipalId}
use Rattle.principals.specs.ActsFor.{Declared}
use Rattle.label_lattice.specs.declared.label.Label.{Label}
use Rattle.label_lattice.specs.Lattice.{empty_label}
use Rattle.jif_tree.specs.Trees.{Heading, number, local, scalar, element, binary, declassified, done, set_field, branch}
use Rattle.jif_tree.specs.Trees.{FieldTree}
use Rattle.need_labels.specs.Labelled.{Labelled}

abbrev pub only_alice : Declared
only_alice = record { names = codes "Alice" ∷ []; pairs = [] }

abbrev pub alice : PrincipalId
alice = record { 0 = 0 }

-- a label that differs from the others
abbrev pub label : ℕ → Label
label trust = record { rows = []; trust = trust }

abbrev pub begins : Label
begins = label 1

abbrev pub of_x : Label
of_x = label 2

abbrev pub of_q : Label
of_q = label 3

abbrev pub outside : Label
outside = label 4

abbrev pub inside : Label
inside = label 5

abbrev pub x : VarId
x = record { 0 = 0 }

abbrev pub a : FieldId
a = record { 0 = 0 }

abbrev pub b : FieldId
b = record { 0 = 1 }

abbrev pub q : FieldId
q = record { 0 = 2 }

abbrev field : List ℕ → Label → FieldTree
field name label = record { name = name; label = label; size = 1; array = false; first = pos 0 }

abbrev at : ℕ → Heading
at place = record { id = record { 0 = place }; line = 1 }

-- `if (declassify(a, {}) == 1) { q = b[x] + x; }` by the authority of Alice
abbrev pub guarded_sum : Labelled
guarded_sum = record {
  program = record {
    fields = field (codes "a") (label 6) ∷ record (field (codes "b") (label 7)) { array = true }
        ∷ field (codes "q") of_q ∷ [];
    vars = record { method = record { 0 = 0 }; name = codes "x"; label = Some of_x } ∷ [];
    methods = record {
      name = codes "main";
      begin = begins;
      params = [];
      result = None;
      authority = alice ∷ [];
      head = record { 0 = 0 };
      line = 1;
      body = branch (at 1) (binary Equal (declassified (scalar a) empty_label) (number (pos 1)))
          (set_field (at 2) q (binary Add (element b (local x)) (local x)) done) done done;
    } ∷ [];
    main = record { 0 = 0 };
  };
  var_labels = of_x ∷ [];
  pc = begins ∷ outside ∷ inside ∷ [];
}
