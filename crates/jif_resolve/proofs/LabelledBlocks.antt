-- Where a resolved block sets a parameter, a result or what keeps a result, that variable has a label, and so has each
-- variable that its values read: parameters and results are declared with one, and what is known at a place was declared
-- before it.
use Rattle.std.proofs.Common.{◌≡◌, ◌∙◌, ℕ, zero, suc, ◌<◌, List, [], ◌∷◌, length, Option, Some, None}
use Rattle.std.proofs.Common.{slice_get, sym, subst, arith, Bool}
use Rattle.std.specs.Prelude.{get_or}
use Rattle.std.specs.List.{AllByRecursion}
use Rattle.std.proofs.lemmas.List.{length-map}
use Rattle.std.proofs.lemmas.Option.{slice_get_within, slice_get-get_or}
use Rattle.js_base.specs.declared.ids.MethodId.{MethodId}
use Rattle.js_base.specs.declared.ids.VarId.{VarId}
use Rattle.label_lattice.specs.declared.label.Label.{Label}
use Rattle.label_lattice.specs.Lattice.{join_of}
use Rattle.jif_tree.specs.LabelRules.{MethodSetting, VariableLabels, labels_after_assignment, labels_after, expr_label}
use Rattle.jif_tree.specs.LabelRules.{guarded, method_at, params_of, declared_labels}
use Rattle.jif_tree.specs.Labelling.{IsLabelled, IsLabelledIfAny, AreLabelled}
use Rattle.jif_tree.specs.Trees.{ExprTree, Heading, BlockTree, set_local, set_field, VarTree, MethodTree, ProgramTree}
use Rattle.jif_tree.specs.WellNumbered.{HasVariable, IsBlockIn}
use Rattle.jif_tree.proofs.LabelsKept.{Stay, stay_same, stay_then, assignment_stays, block_stays, assigned_labelled}
use Rattle.jif_tree.proofs.LabelsKept.{labelled_later, labelled_later_if_any}
use Rattle.jif_grammar.specs.DraftShapes.{BlockShape, end_shape, declaration_shape, assignment_shape}
use Rattle.jif_grammar.specs.DraftShapes.{element_assignment_shape, branch_shape, loop_shape, call_shape, return_shape}
use Rattle.jif_resolve.specs.Places.{Setting, Place, next_variable}
use Rattle.jif_resolve.specs.Places.{after_statement, after_call, after_declaration, after_block}
use Rattle.jif_resolve.specs.Places.{meaning_at}
use Rattle.jif_resolve.specs.Resolved.{assignment_tree, heading_of, IsBlockFor}
use Rattle.jif_resolve.proofs.DeclaredLabels.{IsHeadLabelled}
use Rattle.jif_resolve.specs.declared.meaning.Meaning.{Meaning}
use Rattle.jif_resolve.specs.declared.meaning.Meaning.TheVariants as sense
use Rattle.jif_tree.specs.ValueLabels.{IsExprLabelled, AreValuesLabelled}
use Rattle.jif_resolve.proofs.KnownLabels.{IsNoLocal, AreKnownLabelled, known_later, into_labelled}
use Rattle.jif_resolve.proofs.LabelledValues.{expr_labelled, exprs_labelled}

-- ---- what a block needs to know

-- what holds at each place of a method
pub record IsLabelledSetting (s : Setting) (setting : MethodSetting) : Type 0 where
  pub globals : AllByRecursion IsNoLocal s.globals
  pub heads : AllByRecursion (IsHeadLabelled setting.program) setting.program.methods
  pub result : IsLabelledIfAny (declared_labels setting.program) setting.result

pub params_later : (labels later : VariableLabels) → Stay labels later → (params : List VarId) →
    AllByRecursion (IsLabelled labels) params → AllByRecursion (IsLabelled later) params
params_later labels later stay [] all = tt
params_later labels later stay (param ∷ params) all =
    (labelled_later labels later stay param all.0, params_later labels later stay params all.1)

called_labelled : (program : ProgramTree) (methods : List MethodTree) (k : ℕ) →
    AllByRecursion (IsHeadLabelled program) methods →
    AllByRecursion (IsLabelled (declared_labels program)) (params_of (slice_get methods k))
called_labelled program [] k all = tt
called_labelled program (method ∷ methods) zero all = all.0.0
called_labelled program (method ∷ methods) (suc k) all = called_labelled program methods k all.1

-- a variable of the program has a place among the labels, whether it has a label or not
place_of_label : (program : ProgramTree) (own : MethodId) (labels : VariableLabels) →
    Stay (declared_labels program) labels → (x : VarId) → HasVariable program own x →
    (found : Option Label) × (slice_get labels x.0 ≡ Some found)
place_of_label program own labels stay x (tree, there, of) =
    let within : x.0 < length program.vars = slice_get_within program.vars x.0 tree there in
    let own_label : VarTree → Option Label = λ variable. variable.label in
    let many : length labels ≡ length program.vars = stay.many ∙ length-map program.vars own_label in
    let less : x.0 < length labels = omega arith in
    (get_or labels x.0 None, slice_get-get_or labels x.0 None less)

rest_in : (program : ProgramTree) (own : MethodId) (gives : Bool) (heading : Heading) (means : Option Meaning)
    (value : ExprTree) (rest tree : BlockTree) → assignment_tree heading means value rest ≡ Some tree →
    IsBlockIn program own gives tree → IsBlockIn program own gives rest
rest_in program own gives heading None value rest tree made is = absurd cc
rest_in program own gives heading (Some (sense.Variable x)) value rest tree made is =
    let same : set_local heading x value rest ≡ tree = cc in
    let here : IsBlockIn program own gives (set_local heading x value rest) =
    subst (IsBlockIn program own gives) (sym same) is in
    here.2
rest_in program own gives heading (Some (sense.Plain field)) value rest tree made is =
    let same : set_field heading field value rest ≡ tree = cc in
    let here : IsBlockIn program own gives (set_field heading field value rest) =
    subst (IsBlockIn program own gives) (sym same) is in
    here.2
rest_in program own gives heading (Some (sense.Array field)) value rest tree made is = absurd cc
rest_in program own gives heading (Some (sense.Method method params g)) value rest tree made is = absurd cc

-- the labels of the variables that a block sets, and of those that its values read
pub record BlockLabels (setting : MethodSetting) (pc : Label) (labels : VariableLabels) (tree : BlockTree) : Type 0 where
  pub set : AreLabelled setting pc labels tree
  pub read : AreValuesLabelled setting pc labels tree

-- the assignment of a value to a name, before others
assigned_labels : (setting : MethodSetting) (pc : Label) (labels : VariableLabels) (heading : Heading)
    (means : Option Meaning) (value : ExprTree) (rest tree : BlockTree) →
    assignment_tree heading means value rest ≡ Some tree → IsExprLabelled labels value →
    ((later : VariableLabels) → Stay labels later → BlockLabels setting pc later rest) →
    BlockLabels setting pc labels tree
assigned_labels setting pc labels heading None value rest tree made own behind = absurd cc
assigned_labels setting pc labels heading (Some (sense.Variable x)) value rest tree made own behind =
    let same : set_local heading x value rest ≡ tree = cc in
    let label = join_of (expr_label setting pc labels value) pc in
    let next = behind (labels_after_assignment labels x label) (assignment_stays labels x label) in
    subst (BlockLabels setting pc labels) same (record { set = next.set; read = (own, next.read) })
assigned_labels setting pc labels heading (Some (sense.Plain field)) value rest tree made own behind =
    let same : set_field heading field value rest ≡ tree = cc in
    let next = behind labels (stay_same labels) in
    subst (BlockLabels setting pc labels) same (record { set = next.set; read = (own, next.read) })
assigned_labels setting pc labels heading (Some (sense.Array field)) value rest tree made own behind = absurd cc
assigned_labels setting pc labels heading (Some (sense.Method method params gives)) value rest tree made own behind =
    absurd cc

-- ---- blocks

pub block_labelled : (s : Setting) (setting : MethodSetting) (own : MethodId) (gives : Bool) →
    IsLabelledSetting s setting → (p : Place) (pc : Label) (labels : VariableLabels) →
    Stay (declared_labels setting.program) labels → AreKnownLabelled labels p.known → (b : BlockShape)
    (tree : BlockTree) → IsBlockFor s p b tree → IsBlockIn setting.program own gives tree →
    BlockLabels setting pc labels tree
block_labelled s setting own gives given p pc labels stay known end_shape tree is inside =
    subst (BlockLabels setting pc labels) (sym is) (record { set = tt; read = tt })
block_labelled s setting own gives given p pc labels stay known (declaration_shape start written name value rest) tree
    (x, r, same, one, behind) is_in =
    let variable = next_variable p in
    let label = join_of (expr_label setting pc labels x) pc in
    let later = labels_after_assignment labels variable label in
    let here = subst (IsBlockIn setting.program own gives) same is_in in
    let place = place_of_label setting.program own labels stay variable here.0 in
    let stays = assignment_stays labels variable label in
    let next = block_labelled s setting own gives given (after_declaration p name) pc later
    (stay_then (declared_labels setting.program) labels later stay stays)
    (assigned_labelled labels variable label place.0 place.1, known_later labels later stays p.known known) rest r
    behind here.2 in
    subst (BlockLabels setting pc labels) (sym same) (record {
      set = next.set;
      read = (expr_labelled s p labels given.globals known value x one, next.read);
    })
block_labelled s setting own gives given p pc labels stay known (assignment_shape start name value rest) tree
    (x, r, same, one, behind) is_in =
    let means = meaning_at s p name.text in
    let heading = heading_of p start in
    assigned_labels setting pc labels heading means x r tree same
    (expr_labelled s p labels given.globals known value x one)
    (λ later stays. block_labelled s setting own gives given (after_statement p) pc later
    (stay_then (declared_labels setting.program) labels later stay stays)
    (known_later labels later stays p.known known) rest r behind
    (rest_in setting.program own gives heading means x r tree same is_in))
block_labelled s setting own gives given p pc labels stay known
    (element_assignment_shape start name index value rest) tree (f, i, x, r, same, array, at, one, behind) is_in =
    let here = subst (IsBlockIn setting.program own gives) same is_in in
    let next = block_labelled s setting own gives given (after_statement p) pc labels stay known rest r behind here.3 in
    subst (BlockLabels setting pc labels) (sym same) (record {
      set = next.set;
      read = (
        expr_labelled s p labels given.globals known index i at,
        expr_labelled s p labels given.globals known value x one,
        next.read,
      );
    })
block_labelled s setting own gives given p pc labels stay known (branch_shape start guard first second rest) tree
    (x, t, u, r, same, one, front, middle, behind) is_in =
    let here = subst (IsBlockIn setting.program own gives) same is_in in
    let declared = declared_labels setting.program in
    let pc_inside = guarded setting pc labels x in
    let between = labels_after setting pc_inside labels t in
    let after = labels_after setting pc_inside between u in
    let first_stays = block_stays setting pc_inside labels t in
    let second_stays = block_stays setting pc_inside between u in
    let both_stay = stay_then labels between after first_stays second_stays in
    let inside = after_statement p in
    let second_place = after_block inside first in
    let yes = block_labelled s setting own gives given inside pc_inside labels stay known first t front here.1 in
    let no = block_labelled s setting own gives given second_place pc_inside between
    (stay_then declared labels between stay first_stays) (known_later labels between first_stays p.known known) second u
    middle here.2 in
    let next = block_labelled s setting own gives given (after_block second_place second) pc after
    (stay_then declared labels after stay both_stay) (known_later labels after both_stay p.known known) rest r behind
    here.3 in
    subst (BlockLabels setting pc labels) (sym same) (record {
      set = (yes.set, no.set, next.set);
      read = (expr_labelled s p labels given.globals known guard x one, yes.read, no.read, next.read);
    })
block_labelled s setting own gives given p pc labels stay known (loop_shape start guard body rest) tree
    (x, t, r, same, one, front, behind) is_in =
    let here = subst (IsBlockIn setting.program own gives) same is_in in
    let pc_inside = guarded setting pc labels x in
    let after = labels_after setting pc_inside labels t in
    let stays = block_stays setting pc_inside labels t in
    let inside = after_statement p in
    let turn = block_labelled s setting own gives given inside pc_inside labels stay known body t front here.1 in
    let next = block_labelled s setting own gives given (after_block inside body) pc after
    (stay_then (declared_labels setting.program) labels after stay stays)
    (known_later labels after stays p.known known) rest r behind here.2 in
    subst (BlockLabels setting pc labels) (sym same) (record {
      set = (turn.set, next.set);
      read = (expr_labelled s p labels given.globals known guard x one, turn.read, next.read);
    })
block_labelled s setting own gives given p pc labels stay known (call_shape start name args into rest) tree
    (f, xs, k, r, same, called, kept, all, behind) is_in =
    let here = subst (IsBlockIn setting.program own gives) same is_in in
    let next = block_labelled s setting own gives given (after_call p) pc labels stay known rest r behind here.3 in
    subst (BlockLabels setting pc labels) (sym same) (record {
      set = (
        params_later (declared_labels setting.program) labels stay (params_of (method_at setting.program f))
            (called_labelled setting.program setting.program.methods f.0 given.heads),
        into_labelled labels s p into k given.globals known kept,
        next.set,
      );
      read = (exprs_labelled s p labels given.globals known args xs all, next.read);
    })
block_labelled s setting own gives given p pc labels stay known (return_shape start value rest) tree
    (x, r, same, one, behind) is_in =
    let here = subst (IsBlockIn setting.program own gives) same is_in in
    let next = block_labelled s setting own gives given (after_statement p) pc labels stay known rest r behind here.2 in
    subst (BlockLabels setting pc labels) (sym same) (record {
      set = (labelled_later_if_any (declared_labels setting.program) labels stay setting.result given.result, next.set);
      read = (expr_labelled s p labels given.globals known value x one, next.read);
    })
