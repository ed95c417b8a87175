-- The tree of the program that is made, and that its labels keep the rules. `lines` has the line of each token.
use Rattle.std.proofs.Common.{ℕ, pos, ◌+◌, ◌%◌, ◌==◌, Bool, true, false, List, [], ◌∷◌, All}
use Rattle.std.proofs.Common.{codes, sym, subst, ap, ◌∙◌, None, if◌then◌else◌}
use Rattle.std.proofs.lemmas.List.{append-nil}
use Rattle.std.proofs.lemmas.List.Elements.{All-nil, All-cons}
use Rattle.js_base.specs.declared.binary_operator.BinOp.TheVariants as operator
use Rattle.js_base.specs.declared.ids.FieldId.{FieldId}
use Rattle.label_lattice.specs.declared.label.Label.{Label}
use Rattle.label_lattice.specs.Label.{Flows}
use Rattle.label_lattice.specs.Lattice.{join_of}
use Rattle.label_lattice.specs.Over.{IsLabelOver}
use Rattle.label_lattice.specs.PrintedExamples.{alice_and_bob}
use Rattle.jif_tree.specs.Trees.{ExprTree, number, scalar, binary, BlockTree, done, set_field, FieldTree, MethodTree}
use Rattle.jif_tree.specs.Trees.{ProgramTree}
use Rattle.jif_tree.specs.LabelRules.{VariableLabels, setting_of, block_labels, Meets}
use Rattle.jif_tree.specs.LabelRules.{obligations_of, IsWellLabelled, field_label}
use Rattle.made_laws.proofs.MadeLabels.{LabelLaws, MadeLabels, both, joined_both}

-- ---- the tree

abbrev pub field_at : Bool → FieldId
field_at even = if even then record { 0 = 0 } else record { 0 = 1 }

-- the field that a statement of this number sets
abbrev pub field_of : ℕ → FieldId
field_of n = field_at (n % 2 == 0)

abbrev pub value_tree : ℕ → ExprTree
value_tree n = binary operator.Add (scalar (field_of n)) (number (pos n))

-- the statements of these numbers, of which the first has this number in the program, and stands at this token
abbrev pub block_tree : (lines : ℕ → ℕ) → (id at : ℕ) → List ℕ → BlockTree
block_tree lines id at [] = done
block_tree lines id at (n ∷ numbers) =
    set_field (record { id = record { 0 = id }; line = lines at }) (field_of n) (value_tree n)
    (block_tree lines (id + 1) (at + 3 + 3) numbers)

abbrev pub method_tree : (lines : ℕ → ℕ) → List ℕ → MethodTree
method_tree lines numbers = record {
  name = codes "main";
  begin = both;
  params = [];
  result = None;
  authority = [];
  head = record { 0 = 0 };
  line = lines 22;
  body = block_tree lines 1 34 numbers;
}

abbrev pub alice_field : MadeLabels → FieldTree
alice_field labels = record { name = codes "a"; label = labels.alice; size = 1; array = false; first = pos 0 }

abbrev pub bob_field : MadeLabels → FieldTree
bob_field labels = record { name = codes "b"; label = labels.bob; size = 1; array = false; first = pos 0 }

abbrev pub made_tree : MadeLabels → (lines : ℕ → ℕ) → List ℕ → ProgramTree
made_tree labels lines numbers = record {
  fields = alice_field labels ∷ bob_field labels ∷ [];
  vars = [];
  methods = method_tree lines numbers ∷ [];
  main = record { 0 = 0 };
}

-- ---- its labels

-- what flows to the field of a statement is of its own label
own_flow : LabelLaws → (label : Label) → IsLabelOver alice_and_bob label →
    Flows (join_of (join_of label both) both) label
own_flow laws label over =
    let joined = joined_both laws label over in
    let whole = ap (λ (one : Label). join_of one both) joined ∙ joined in
    subst (λ (one : Label). Flows one label) (sym whole) (laws.reflexive label)

field_flow : LabelLaws → (labels : MadeLabels) (lines : ℕ → ℕ) (numbers : List ℕ) (even : Bool) →
    let label = field_label (made_tree labels lines numbers) (field_at even) in
    Flows (join_of (join_of label both) both) label
field_flow laws labels lines numbers true = own_flow laws labels.alice labels.alice_said.over
field_flow laws labels lines numbers false = own_flow laws labels.bob labels.bob_said.over

block_meets : LabelLaws → (labels : MadeLabels) (lines : ℕ → ℕ) (whole : List ℕ) (variables : VariableLabels)
    (id at : ℕ) (numbers : List ℕ) →
    All (Meets alice_and_bob) (obligations_of (block_labels
    (setting_of alice_and_bob (made_tree labels lines whole) (method_tree lines whole)) both variables
    (block_tree lines id at numbers)))
block_meets laws labels lines whole variables id at [] = All-nil (Meets alice_and_bob)
block_meets laws labels lines whole variables id at (n ∷ numbers) =
    All-cons (Meets alice_and_bob) _ _ (field_flow laws labels lines whole (n % 2 == 0))
    (block_meets laws labels lines whole variables (id + 1) (at + 3 + 3) numbers)

pub well_labelled : LabelLaws → (labels : MadeLabels) (lines : ℕ → ℕ) (numbers : List ℕ) →
    IsWellLabelled alice_and_bob (made_tree labels lines numbers)
well_labelled laws labels lines numbers =
    let setting = setting_of alice_and_bob (made_tree labels lines numbers) (method_tree lines numbers) in
    let block = block_labels setting both [] (block_tree lines 1 34 numbers) in
    subst (λ statements. All (Meets alice_and_bob) (obligations_of statements)) (sym (append-nil block))
    (block_meets laws labels lines numbers [] 1 34 numbers)
