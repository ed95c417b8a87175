-- A small program and some expressions, to see how they are printed.
use Rattle.std.specs.Prelude.{ℕ, List, [], ◌∷◌, codes, None}
use Rattle.js_base.specs.declared.binary_operator.BinOp.TheVariants.{Add, Subtract, Multiply, Less}
use Rattle.principals.specs.ActsFor.{Declared}
use Rattle.label_lattice.specs.Lattice.{empty_label}
use Rattle.jif_tree.specs.Trees.{ExprTree, local, inverted, negated, binary, VarTree, ProgramTree, done}
use Rattle.jif_parse.specs.PrintedNames.{Naming}

abbrev pub nobody : Declared
nobody = record { names = []; pairs = [] }

abbrev pub small_program : ProgramTree
small_program = record {
  fields = [];
  vars = [];
  methods = record {
    name = codes "main";
    begin = empty_label;
    params = [];
    result = None;
    authority = [];
    head = record { 0 = 0 };
    line = 1;
    body = done;
  } ∷ [];
  main = record { 0 = 0 };
}

abbrev letter : List ℕ → VarTree
letter name = record { method = record { 0 = 0 }; name = name; label = None }

-- five variables
abbrev pub of_letters : Naming
of_letters = record {
  principals = nobody;
  program = record small_program {
    vars = letter (codes "a") ∷ letter (codes "b") ∷ letter (codes "c") ∷ letter (codes "d") ∷ letter (codes "e") ∷ [];
  };
}

abbrev a : ExprTree
a = local (record { 0 = 0 })

abbrev b : ExprTree
b = local (record { 0 = 1 })

abbrev c : ExprTree
c = local (record { 0 = 2 })

abbrev d : ExprTree
d = local (record { 0 = 3 })

abbrev e : ExprTree
e = local (record { 0 = 4 })

-- a difference of two differences
abbrev pub differences : ExprTree
differences = binary Subtract (binary Subtract a b) (binary Subtract c d)

-- a sum of two products, of which one has a sum as a factor
abbrev pub products : ExprTree
products = binary Add (binary Multiply (binary Add a b) c) (binary Multiply d e)

-- signs before a variable, and before a comparison
abbrev pub signs : ExprTree
signs = binary Subtract (negated (negated a)) (negated (inverted (binary Less b c)))
