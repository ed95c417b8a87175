-- A walk along a block: what each statement is answered, and what is left.
use Rattle.std.proofs.Common.{◌≡◌, ℕ, ◌+◌, List, [], ◌∷◌, ◌++◌, sym, ap, ap₂, ◌∙◌, subst, append_assoc, append-nil}
use Rattle.std.specs.Prelude.{Option}
use Rattle.js_base.specs.declared.ids.VarId.{VarId}
use Rattle.principals.specs.ActsFor.{Declared}
use Rattle.jif_tree.specs.Trees.{Heading, ExprTree, BlockTree, done, branch, loop, MethodTree, ProgramTree}
use Rattle.jif_tree.specs.Trees.{program_tree}
use Rattle.jif_tree.specs.Trees.{method_tree}
use Rattle.jif_tree.specs.LabelRules.{VariableLabels, labels_after, setting_of, declared_labels}
use Rattle.label_reasons.specs.declared.reason.Trait.{Trait}
use Rattle.label_reasons.specs.declared.reason.Cause.{Cause}
use Rattle.label_reasons.specs.declared.search_place.Place.{Place}
use Rattle.label_reasons.specs.declared.search_place.Stand.{Stand}
use Rattle.label_reasons.specs.declared.search_place.Known.{Known}
use Rattle.label_reasons.specs.Causes.{begin_cause, declared_causes, causes_after}
use Rattle.label_reasons.specs.Search.{listed_cause, setting_at, stand_inside, AreCausesKnown}
use Rattle.place_reasons.specs.declared.question.Question.{Question}
use Rattle.place_reasons.specs.Questions.{block_answers, methods_answers, program_answers}
use Rattle.place_reasons.specs.Reasons.{exprs_of}
use Rattle.place_reasons.specs.Search.{answer_is, answers_are, AnswersInBlock, AnswersMethod}

pub answers_on : (place : Place) (question : Question) (stand : Stand) (old mid new : Known)
    (before between behind : List (Option Cause)) (block next left : BlockTree) →
    AnswersInBlock place question stand old before block mid between next →
    AnswersInBlock place question stand mid between next new behind left →
    AnswersInBlock place question stand old before block new behind left
answers_on place question stand old mid new before between behind block next left one other = record {
  labels = one.labels ∙ other.labels;
  causes = one.causes ∙ other.causes;
  long = other.long;
  answers = one.answers ∙ other.answers;
}

-- ---- lists of answers

one_joined : {X : Type 0} (before f1 : List X) (x : X) (a : List X) → f1 ≡ before ++ x ∷ [] →
    before ++ x ∷ a ≡ f1 ++ a
one_joined before f1 x a is = sym (ap (λ f. f ++ a) is ∙ append_assoc before (x ∷ []) a)

two_joined : {X : Type 0} (before f1 f2 : List X) (x : X) (a b : List X) → f1 ≡ before ++ x ∷ [] →
    f1 ++ a ≡ f2 ++ [] → before ++ x ∷ (a ++ b) ≡ f2 ++ b
two_joined before f1 f2 x a b is one =
    one_joined before f1 x (a ++ b) is ∙ sym (append_assoc f1 a b) ∙ ap (λ f. f ++ b) (one ∙ append-nil f2)

three_joined : {X : Type 0} (before f1 f2 f3 : List X) (x : X) (a b c : List X) → f1 ≡ before ++ x ∷ [] →
    f1 ++ a ≡ f2 ++ [] → f2 ++ b ≡ f3 ++ [] → before ++ x ∷ ((a ++ b) ++ c) ≡ f3 ++ c
three_joined before f1 f2 f3 x a b c is one two =
    ap (λ all. before ++ x ∷ all) (append_assoc a b c) ∙ two_joined before f1 f2 x a (b ++ c) is one
    ∙ sym (append_assoc f2 b c) ∙ ap (λ f. f ++ c) (two ∙ append-nil f3)

-- ---- branches and loops

pub branch_answers : (place : Place) (question : Question) (stand : Stand) (old mid new : Known)
    (before f1 f2 f3 : List (Option Cause)) (heading : Heading) (guard : ExprTree)
    (first second rest tree : BlockTree) →
    tree ≡ branch heading guard first second rest →
    f1 ≡ before ++ answer_is place question heading.id stand old (exprs_of tree) ∷ [] →
    AnswersInBlock place question (stand_inside place heading.id stand old guard) old f1 first mid f2 done →
    AnswersInBlock place question (stand_inside place heading.id stand old guard) mid f2 second new f3 done →
    AnswersInBlock place question stand old before tree new f3 rest
branch_answers place question stand old mid new before f1 f2 f3 heading guard first second rest tree is pushed one two =
    let setting = setting_at place in
    let held = place.held in
    let inside : Stand = stand_inside place heading.id stand old guard in
    let P : BlockTree → Type 0 = λ t. f1 ≡ before ++ answer_is place question heading.id stand old (exprs_of t) ∷ [] in
    let Q : BlockTree → Type 0 = λ t. AnswersInBlock place question stand old before t new f3 rest in
    let x : Option Cause = answer_is place question heading.id stand old (guard ∷ []) in
    let a : List (Option Cause) = answers_are place question inside old first in
    let b : List (Option Cause) = answers_are place question inside mid second in
    let behind : VariableLabels → (VarId → Option Cause) → List (Option Cause) =
    λ labels causes. block_answers question held setting stand.pc stand.of_pc labels causes rest in
    let within : VariableLabels → (VarId → Option Cause) → List (Option Cause) =
    λ labels causes. block_answers question held setting inside.pc inside.of_pc labels causes second in
    subst Q (sym is) (record {
      labels =
          ap (λ labels. labels_after setting stand.pc (labels_after setting inside.pc labels second) rest) one.labels
          ∙ ap (λ labels. labels_after setting stand.pc labels rest) two.labels;
      causes =
          ap₂ (λ labels causes. causes_after held setting stand.pc stand.of_pc
          (labels_after setting inside.pc labels second)
          (causes_after held setting inside.pc inside.of_pc labels causes second) rest) one.labels one.causes
          ∙ ap₂ (λ labels causes. causes_after held setting stand.pc stand.of_pc labels causes rest) two.labels
          two.causes;
      long = two.long;
      answers =
          ap₂ (λ labels causes. before ++ x ∷ ((a ++ within labels causes)
          ++ behind (labels_after setting inside.pc labels second)
          (causes_after held setting inside.pc inside.of_pc labels causes second))) one.labels one.causes
          ∙ ap₂ (λ labels causes. before ++ x ∷ ((a ++ b) ++ behind labels causes)) two.labels two.causes
          ∙ three_joined before f1 f2 f3 x a b (answers_are place question stand new rest) (subst P is pushed)
          one.answers two.answers;
    })

pub loop_answers : (place : Place) (question : Question) (stand : Stand) (old new : Known)
    (before f1 f2 : List (Option Cause)) (heading : Heading) (guard : ExprTree) (body rest tree : BlockTree) →
    tree ≡ loop heading guard body rest →
    f1 ≡ before ++ answer_is place question heading.id (stand_inside place heading.id stand old guard) old
    (exprs_of tree) ∷ [] →
    AnswersInBlock place question (stand_inside place heading.id stand old guard) old f1 body new f2 done →
    AnswersInBlock place question stand old before tree new f2 rest
loop_answers place question stand old new before f1 f2 heading guard body rest tree is pushed one =
    let setting = setting_at place in
    let held = place.held in
    let inside : Stand = stand_inside place heading.id stand old guard in
    let P : BlockTree → Type 0 = λ t. f1 ≡ before ++ answer_is place question heading.id inside old (exprs_of t) ∷ [] in
    let Q : BlockTree → Type 0 = λ t. AnswersInBlock place question stand old before t new f2 rest in
    let x : Option Cause = answer_is place question heading.id inside old (guard ∷ []) in
    let a : List (Option Cause) = answers_are place question inside old body in
    let behind : VariableLabels → (VarId → Option Cause) → List (Option Cause) =
    λ labels causes. block_answers question held setting stand.pc stand.of_pc labels causes rest in
    subst Q (sym is) (record {
      labels = ap (λ labels. labels_after setting stand.pc labels rest) one.labels;
      causes = ap₂ (λ labels causes. causes_after held setting stand.pc stand.of_pc labels causes rest) one.labels
          one.causes;
      long = one.long;
      answers =
          ap₂ (λ labels causes. before ++ x ∷ (a ++ behind labels causes)) one.labels one.causes
          ∙ two_joined before f1 f2 x a (answers_are place question stand new rest) (subst P is pushed) one.answers;
    })

-- ---- methods

pub method_answers : (place : Place) (question : Question) (of_pc : Option Cause) (number : ℕ) (old new : Known)
    (before f1 behind : List (Option Cause)) (body : BlockTree) →
    of_pc ≡ begin_cause place.held (record { 0 = number }) (method_tree place.method.now).begin →
    body ≡ (method_tree place.method.now).body → f1 ≡ before ++ of_pc ∷ [] →
    AnswersInBlock place question (record { pc = place.method.now.begin; of_pc = of_pc }) old f1 body new behind done →
    AnswersMethod question place.principals.now (program_tree place.program.now) place.held number
    (method_tree place.method.now) old before new behind
method_answers place question of_pc number old new before f1 behind body is same pushed all =
    let begin = place.method.now.begin in
    let cause : Option Cause = begin_cause place.held (record { 0 = number }) begin in
    let tree : BlockTree = (method_tree place.method.now).body in
    let P : Option Cause → Type 0 = λ one.
    AnswersInBlock place question (record { pc = begin; of_pc = one }) old f1 body new behind done in
    let Q : BlockTree → Type 0 = λ one.
    AnswersInBlock place question (record { pc = begin; of_pc = cause }) old f1 one new behind done in
    let R : Option Cause → Type 0 = λ one. f1 ≡ before ++ one ∷ [] in
    let whole : Q tree = subst Q same (subst P is all) in
    record {
      labels = whole.labels;
      causes = whole.causes;
      long = whole.long;
      answers = one_joined before f1 cause
          (answers_are place question (record { pc = begin; of_pc = cause }) old tree) (subst R is pushed)
          ∙ whole.answers ∙ append-nil behind;
    }

-- what was answered, with the answers for the methods that are left, is what is answered of the program
pub record Reaches (question : Question) (principals : Declared) (program : ProgramTree) (held : Trait) (number : ℕ)
    (known : Known) (answers : List (Option Cause)) (methods : List MethodTree) : Type 0 where
  pub long : AreCausesKnown known
  pub left : answers ++ methods_answers question held principals program number known.labels.items
      (listed_cause known.causes.items) methods ≡ program_answers question held principals program

pub starts : (question : Question) (principals : Declared) (program : ProgramTree) (held : Trait) (known : Known) →
    known.labels.items ≡ declared_labels program →
    ((x : VarId) → listed_cause known.causes.items x ≡ declared_causes held (declared_labels program) x) →
    AreCausesKnown known → Reaches question principals program held 0 known [] program.methods
starts question principals program held known labels causes is =
    let same : listed_cause known.causes.items ≡ declared_causes held (declared_labels program) = λ t x. causes x t in
    record {
      long = is;
      left = ap₂ (λ list behind. methods_answers question held principals program 0 list behind program.methods) labels
          same;
    }

pub goes_on : (question : Question) (principals : Declared) (program : ProgramTree) (held : Trait) (number : ℕ)
    (old new : Known) (before behind : List (Option Cause)) (method : MethodTree) (rest : List MethodTree) →
    Reaches question principals program held number old before (method ∷ rest) →
    AnswersMethod question principals program held number method old before new behind →
    Reaches question principals program held (number + 1) new behind rest
goes_on question principals program held number old new before behind method rest reached one =
    let begin : Option Cause = begin_cause held (record { 0 = number }) method.begin in
    let own : List (Option Cause) = begin ∷ block_answers question held (setting_of principals program method)
    method.begin begin old.labels.items (listed_cause old.causes.items) method.body in
    let left : VariableLabels → (VarId → Option Cause) → List (Option Cause) =
    λ labels causes. methods_answers question held principals program (number + 1) labels causes rest in
    let later : List (Option Cause) = left new.labels.items (listed_cause new.causes.items) in
    record {
      long = one.long;
      left = ap (λ all. all ++ later) (sym one.answers) ∙ append_assoc before own later
          ∙ sym (ap₂ (λ labels causes. before ++ (own ++ left labels causes)) one.labels one.causes)
          ∙ reached.left;
    }
