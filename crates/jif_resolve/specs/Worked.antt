-- Small drafts, each with the text that it is the draft of. All stand on line 1.
use Rattle.std.specs.Prelude.{ℕ, ◌+◌, pos, false, List, [], ◌∷◌, map, Some, None, codes}
use Rattle.principals.specs.ActsFor.{Declared}
use Rattle.jif_grammar.specs.DraftShapes.{NameShape, LabelShape, ExprShape, number_shape, variable_shape, Start}
use Rattle.jif_grammar.specs.DraftShapes.{BlockShape, end_shape, declaration_shape, assignment_shape, branch_shape}
use Rattle.jif_grammar.specs.DraftShapes.{loop_shape, call_shape, return_shape, MethodShape, DraftShape}
use Rattle.jif_resolve.specs.Variables.{variables_from}

abbrev nobody : LabelShape
nobody = record { policies = []; trust = None }

abbrev name_at : ℕ → List ℕ → NameShape
name_at at text = record { text = text; at = at }

abbrev start_at : ℕ → Start
start_at at = record { at = at; line = 1 }

abbrev a_number : ExprShape
a_number = number_shape (pos 1)

abbrev declares : ℕ → List ℕ → ExprShape → BlockShape → BlockShape
declares at name value rest = declaration_shape (start_at at) None (name_at (at + 1) name) value rest

-- a `void` method without parameters, whose name is the token after this one
abbrev void_method : ℕ → List ℕ → BlockShape → MethodShape
void_method at name body = record {
  result = None;
  name = name_at (at + 1) name;
  begin = nobody;
  params = [];
  authority = [];
  line = 1;
  body = body;
}

abbrev of_methods : List MethodShape → DraftShape
of_methods methods = record { fields = []; methods = methods }

abbrev pub only_alice : Declared
only_alice = record { names = codes "Alice" ∷ []; pairs = [] }

-- void main{}() { if (1) { int x = 1; } int y = x; }
abbrev pub used_after_its_block : DraftShape
used_after_its_block = of_methods (void_method 0 (codes "main")
    (branch_shape (start_at 7) a_number (declares 12 (codes "x") a_number end_shape) end_shape
    (declares 18 (codes "y") (variable_shape (name_at 21 (codes "x"))) end_shape)) ∷ [])

-- void main{}() { if (1) { int x = 1; } else { int x = 1; } }
abbrev pub declared_in_both_blocks : DraftShape
declared_in_both_blocks = of_methods (void_method 0 (codes "main")
    (branch_shape (start_at 7) a_number (declares 12 (codes "x") a_number end_shape)
    (declares 20 (codes "x") a_number end_shape) end_shape) ∷ [])

-- void main{}() { int y = x; int x = x; }
abbrev pub used_before_it_is_known : DraftShape
used_before_it_is_known = of_methods (void_method 0 (codes "main")
    (declares 7 (codes "y") (variable_shape (name_at 10 (codes "x")))
    (declares 12 (codes "x") (variable_shape (name_at 15 (codes "x"))) end_shape)) ∷ [])

-- int{} m{}(int{} p) { int x = 1; while (1) { int y = 1; } m(1, 1); return x; }
abbrev pub called_badly : DraftShape
called_badly = of_methods (record {
  result = Some nobody;
  name = name_at 3 (codes "m");
  begin = nobody;
  params = record { label = nobody; name = name_at 10 (codes "p") } ∷ [];
  authority = [];
  line = 1;
  body = declares 13 (codes "x") a_number
      (loop_shape (start_at 18) a_number (declares 23 (codes "y") a_number end_shape)
      (call_shape (start_at 29) (name_at 29 (codes "m")) (a_number ∷ a_number ∷ []) None
      (return_shape (start_at 36) (variable_shape (name_at 37 (codes "x"))) end_shape)));
} ∷ [])

-- int{} Alice; void main{}() { m(); } void m{}() { m(); Alice = 1; }
abbrev pub calls_itself : DraftShape
calls_itself = record {
  fields = record { label = nobody; name = name_at 3 (codes "Alice"); size = 1; array = false; first = pos 0 } ∷ [];
  methods = void_method 5 (codes "main") (call_shape (start_at 12) (name_at 12 (codes "m")) [] None end_shape)
      ∷ void_method 17 (codes "m") (call_shape (start_at 24) (name_at 24 (codes "m")) [] None
      (assignment_shape (start_at 28) (name_at 28 (codes "Alice")) a_number end_shape)) ∷ [];
}

abbrev pub variable_names : DraftShape → List (List ℕ)
variable_names draft = map (λ variable. variable.name) (variables_from 0 draft.methods)
