-- What a turn carries is the same in two worlds that show the same, where it releases the same in both.
use Rattle.std.proofs.Common.{◌≡◌, ◌∙◌, ℕ, zero, suc, ◌+◌, Bool, true, false, List, [], ◌∷◌, ◌++◌, length, arith}
use Rattle.std.proofs.Common.{Option, Some, None, inl, inr, refl, ap, sym, subst, append_assoc, append-nil}
use Rattle.std.specs.Prelude.{ℤ, pos, not, slice_get, map}
use Rattle.std.specs.List.{AllByRecursion}
use Rattle.std.proofs.lemmas.Bool.{cases_Bool, false≢true}
use Rattle.std.proofs.lemmas.List.{map-append, length-append}
use Rattle.std.proofs.lemmas.Option.{slice_get_cases}
use Rattle.js_base.specs.declared.ids.HostId.{HostId}
use Rattle.js_base.specs.declared.ids.FieldId.{FieldId}
use Rattle.js_base.specs.declared.ids.FrameId.{FrameId}
use Rattle.js_base.specs.declared.ids.VarId.{VarId}
use Rattle.label_lattice.specs.declared.label.Label.{Label}
use Rattle.jif_tree.specs.LabelRules.{field_label}
use Rattle.jif_tree.specs.Store.{row_of, element_at}
use Rattle.jif_tree.specs.Trees.{ExprTree, number, local, scalar, element, inverted, negated, binary, declassified}
use Rattle.jif_tree.specs.Trees.{endorsed}
use Rattle.host_code.specs.declared.code_expr.Node.{Node}
use Rattle.host_code.specs.declared.code_expr.Node.TheVariants as node
use Rattle.host_code.specs.declared.instruction.Op.{Op}
use Rattle.host_code.specs.declared.instruction.Op.TheVariants as op
use Rattle.host_code.specs.Code.{variable_at, field_at}
use Rattle.host_code.specs.Sound.{NodeFits, ExpressionFits, IsVariable, IsField, OperationFits}
use Rattle.host_code.specs.Thread.{ThreadShape}
use Rattle.host_core.specs.Host.{HostState, value_in_thread, next_request}
use Rattle.host_core.specs.Values.{temporary_at, value_of_nodes}
use Rattle.msg_cost.proofs.Bounds.{all_left, all_right}
use Rattle.need_labels.specs.Needs.{label_of}
use Rattle.split_rules.specs.Expressions.{reads_in, nodes_of, released_by}
use Rattle.split_rules.specs.Positions.{FieldRead, field_reads}
use Rattle.split_rules.proofs.BackedLabels.{all_first, all_second}
use Rattle.split_rules.proofs.SeenLabels.{flows_both, flows_first, flows_second}
use Rattle.split_rules.proofs.WalkedMoves.{at_last}
use Rattle.split_shades.specs.Basis.{value_label, read_label}
use Rattle.split_shades.specs.ShadedCode.{IsShadedOp}
use Rattle.split_shades.specs.Shading.{reads_tell, KeepsInShade, DividesInShade}
use Rattle.split_shades.proofs.BasisLabels.{flows_self, bottom_flows}
use Rattle.split_shades.proofs.ShadedValues.{told_many}
use Rattle.seen_world.specs.Eyes.{Eyes, AreEyes, sees_at, is_open, is_deep}
use Rattle.seen_world.proofs.TurnsKept.{meets_next}
use Rattle.agreement.specs.Turns.{carried_value, carried_in}
use Rattle.agreement.specs.Values.{IsValueSeen, HoldAlike}
use Rattle.agreement.specs.Views.{masked, masked_all, last_seen, sees_field, sees_variable, sees_read}
use Rattle.agreement.proofs.Places.{variable_unseen, field_unseen}
use Rattle.agreement.proofs.SeenOperations.{read_seen}
use Rattle.agreement.proofs.ValueLaws.{value_same}

-- ---- what two threads hold

-- operands have the same values over what two threads hold
abbrev HaveSameValues : (VarId → ℤ) → (VarId → ℤ) → List ℤ → List ℤ → List (List Node) → Type 0
HaveSameValues variables others temps held operands =
    AllByRecursion (λ nodes. value_of_nodes variables temps nodes ≡ value_of_nodes others held nodes) operands

-- two threads release the same by these operands
abbrev pub ReleaseAlike : HostState → HostState → ThreadShape → ThreadShape → List (List Node) → Type 0
ReleaseAlike one other thread twin operands =
    HaveSameValues (one.variables thread.frame) (other.variables twin.frame) thread.temporaries twin.temporaries
    operands

-- temporaries that may be seen are the same where the same may be seen of all
temp_same : (eyes : Eyes) (labels : List Label) (temps held : List ℤ) (n : ℕ) (label : Label) →
    masked_all eyes labels temps ≡ masked_all eyes labels held → slice_get labels n ≡ Some label →
    eyes.sees label ≡ true → temporary_at temps n ≡ temporary_at held n
temp_same eyes [] temps held n label same there seen = absurd (cc)
temp_same eyes (first ∷ labels) [] [] n label same there seen = refl
temp_same eyes (first ∷ labels) [] (y ∷ held) n label same there seen = absurd (cc)
temp_same eyes (first ∷ labels) (x ∷ temps) [] n label same there seen = absurd (cc)
temp_same eyes (first ∷ labels) (x ∷ temps) (y ∷ held) zero label same there seen =
    let one : first ≡ label = cc in
    let sees : eyes.sees first ≡ true = ap eyes.sees one ∙ seen in
    let heads : masked (eyes.sees first) x ≡ masked (eyes.sees first) y = cc in
    sym (ap (λ (b : Bool). masked b x) sees) ∙ heads ∙ ap (λ (b : Bool). masked b y) sees
temp_same eyes (first ∷ labels) (x ∷ temps) (y ∷ held) (suc n) label same there seen =
    let tails : masked_all eyes labels temps ≡ masked_all eyes labels held = cc in
    temp_same eyes labels temps held n label tails there seen

-- a variable of the code whose label may be seen
pub variable_seen : (eyes : Eyes) → AreEyes eyes → (x : VarId) → IsVariable eyes.code x →
    eyes.sees (label_of eyes.scene.basis.labelled x) ≡ true → sees_variable eyes x ≡ true
variable_seen eyes are x within seen = elim (slice_get_cases eyes.code.variables x.0).1 [
  | inl there ↦
      let is : variable_at eyes.code x ≡ Some there.0 = there.2 in
      let same : sees_variable eyes x ≡ sees_at eyes there.0.label = rw is refl in
      let label : sees_at eyes there.0.label ≡ eyes.sees (label_of eyes.scene.basis.labelled x) =
      rw (are.known.variables x there.0 is) refl in
      same ∙ label ∙ seen
  | inr past ↦ absurd (omega (arith, past.0))
]

-- and a field
pub field_seen : (eyes : Eyes) → AreEyes eyes → (field : FieldId) → IsField eyes.code field →
    eyes.sees (field_label eyes.scene.basis.labelled.program field) ≡ true → sees_field eyes field ≡ true
field_seen eyes are field within seen = elim (slice_get_cases eyes.code.fields field.0).1 [
  | inl there ↦
      let is : field_at eyes.code field ≡ Some there.0 = there.2 in
      let same : sees_field eyes field ≡ sees_at eyes there.0.label = rw is refl in
      let label : sees_at eyes there.0.label ≡ eyes.sees (field_label eyes.scene.basis.labelled.program field) =
      rw (are.known.fields field there.0 is).0 refl in
      same ∙ label ∙ seen
  | inr past ↦ absurd (omega (arith, past.0))
]

-- two threads that show the same: the temporaries, and the variables of their frame
record Alike (eyes : Eyes) (labels : List Label) (variables others : VarId → ℤ) (temps held : List ℤ) : Type 0 where
  temps_same : masked_all eyes labels temps ≡ masked_all eyes labels held
  variables_same : (x : VarId) → sees_variable eyes x ≡ true → variables x ≡ others x

-- what is read lies among all temporaries
hold_alike : (eyes : Eyes) → AreEyes eyes → (pc : Label) (count : ℕ) (variables others : VarId → ℤ)
    (temps held : List ℤ) (labels : List Label) → Alike eyes labels variables others temps held →
    (value : ExprTree) (front back : List Label) (first : ℕ) →
    labels ≡ front ++ (reads_tell eyes.scene pc value ++ back) → length front ≡ first →
    ExpressionFits eyes.code count (nodes_of first value) →
    HaveSameValues variables others temps held (released_by first value) →
    HoldAlike eyes pc variables others temps held first value
hold_alike eyes are pc count variables others temps held labels alike (number value) front back first lies many fits
    same = tt
hold_alike eyes are pc count variables others temps held labels alike (local x) front back first lies many fits same =
    λ seen. alike.variables_same x (variable_seen eyes are x (fits 0 (node.Var x) (omega arith)) seen)
hold_alike eyes are pc count variables others temps held labels alike (scalar field) front back first lies many fits
    same = λ seen.
    let label : Label = field_label eyes.scene.basis.labelled.program field in
    let asked : Label = value_label eyes.scene.basis pc (number (pos 0)) in
    let read : Label = read_label eyes.scene.basis pc (record { field = field; index = number (pos 0) }) in
    let there : slice_get labels first ≡ Some read =
    subst (λ n. slice_get labels n ≡ Some read) many
    (ap (λ all. slice_get all (length front)) lies ∙ at_last front read back) in
    temp_same eyes labels temps held first read alike.temps_same there
    (are.below read label (flows_both label asked label (flows_self label)
    (bottom_flows eyes.scene.basis.principals label)) seen)
hold_alike eyes are pc count variables others temps held labels alike (element field index) front back first lies many
    fits same = λ seen.
    let f = read_label eyes.scene.basis pc in
    let own : FieldRead = record { field = field; index = index } in
    let inner : List Label = map f (field_reads index) in
    let split : labels ≡ (front ++ inner) ++ (f own ∷ back) =
    lies ∙ ap (λ all. front ++ (all ++ back)) (map-append f (field_reads index) (own ∷ []))
    ∙ ap (λ all. front ++ all) (append_assoc inner (f own ∷ []) back) ∙ sym (append_assoc front inner (f own ∷ back))
    in
    let place : length (front ++ inner) ≡ first + reads_in index =
    length-append front inner ∙ ap (λ n. n + length inner) many
    ∙ ap (λ n. first + n) (told_many eyes.scene pc index) in
    let there : slice_get labels (first + reads_in index) ≡ Some (f own) =
    subst (λ n. slice_get labels n ≡ Some (f own)) place
    (ap (λ all. slice_get all (length (front ++ inner))) split ∙ at_last (front ++ inner) (f own) back) in
    temp_same eyes labels temps held (first + reads_in index) (f own) alike.temps_same there seen
hold_alike eyes are pc count variables others temps held labels alike (inverted operand) front back first lies many
    fits same =
    hold_alike eyes are pc count variables others temps held labels alike operand front back first lies many
    (all_left (NodeFits eyes.code count) (nodes_of first operand) (node.Not ∷ []) fits) same
hold_alike eyes are pc count variables others temps held labels alike (negated operand) front back first lies many
    fits same =
    hold_alike eyes are pc count variables others temps held labels alike operand front back first lies many
    (all_left (NodeFits eyes.code count) (nodes_of first operand) (node.Negate ∷ []) fits) same
hold_alike eyes are pc count variables others temps held labels alike (binary operator left right) front back first
    lies many fits same =
    let f = read_label eyes.scene.basis pc in
    let one : List Label = reads_tell eyes.scene pc left in
    let two : List Label = reads_tell eyes.scene pc right in
    let split : labels ≡ front ++ (one ++ (two ++ back)) =
    lies ∙ ap (λ all. front ++ (all ++ back)) (map-append f (field_reads left) (field_reads right))
    ∙ ap (λ all. front ++ all) (append_assoc one two back) in
    let place : length (front ++ one) ≡ first + reads_in left =
    length-append front one ∙ ap (λ n. n + length one) many
    ∙ ap (λ n. first + n) (told_many eyes.scene pc left) in
    let P : List Node → Type 0 = λ nodes. value_of_nodes variables temps nodes ≡ value_of_nodes others held nodes in
    let ours = released_by first left in
    let theirs = released_by (first + reads_in left) right in
    let both = all_left (NodeFits eyes.code count) (nodes_of first left ++ nodes_of (first + reads_in left) right)
    (node.Binary operator ∷ []) fits in (
      hold_alike eyes are pc count variables others temps held labels alike left front (two ++ back) first split many
          (all_left (NodeFits eyes.code count) (nodes_of first left) (nodes_of (first + reads_in left) right) both)
          (all_first P ours theirs same),
      hold_alike eyes are pc count variables others temps held labels alike right (front ++ one) back
          (first + reads_in left) (split ∙ sym (append_assoc front one (two ++ back))) place
          (all_right (NodeFits eyes.code count) (nodes_of first left) (nodes_of (first + reads_in left) right) both)
          (all_second P ours theirs same),
    )
hold_alike eyes are pc count variables others temps held labels alike (declassified operand label) front back first
    lies many fits same =
    (all_second (λ nodes. value_of_nodes variables temps nodes ≡ value_of_nodes others held nodes)
    (released_by first operand) (nodes_of first operand ∷ []) same).0
hold_alike eyes are pc count variables others temps held labels alike (endorsed operand label) front back first lies
    many fits same =
    hold_alike eyes are pc count variables others temps held labels alike operand front back first lies many fits same

-- ---- what is carried

-- Two threads of a host show the same at one place.
pub record Twins (eyes : Eyes) (me : HostId) (one other : HostState) (thread twin : ThreadShape) : Type 0 where
  pub me_one : one.me ≡ me
  pub me_other : other.me ≡ me
  pub place : twin.at ≡ thread.at
  pub frame : twin.frame ≡ thread.frame
  pub new_frame : twin.new_frame ≡ thread.new_frame
  pub held : twin.held ≡ thread.held
  pub temps : masked_all eyes (eyes.shades.at me thread.at).temps thread.temporaries
      ≡ masked_all eyes (eyes.shades.at me thread.at).temps twin.temporaries
  pub rows : (field : FieldId) → sees_field eyes field ≡ true → row_of one.rows field.0 ≡ row_of other.rows field.0
  pub variables : (frame : FrameId) (x : VarId) → sees_variable eyes x ≡ true →
      one.variables frame x ≡ other.variables frame x

twins_alike : (eyes : Eyes) (me : HostId) (one other : HostState) (thread twin : ThreadShape) →
    Twins eyes me one other thread twin →
    Alike eyes (eyes.shades.at me thread.at).temps (one.variables thread.frame) (other.variables twin.frame)
    thread.temporaries twin.temporaries
twins_alike eyes me one other thread twin same = record {
  temps_same = same.temps;
  variables_same = λ x seen. same.variables thread.frame x seen
      ∙ ap (λ (f : FrameId). other.variables f x) (sym same.frame);
}

-- a value over some of the temporaries
part_same : (eyes : Eyes) (me : HostId) (one other : HostState) (thread twin : ThreadShape) (count : ℕ)
    (value : ExprTree) (nodes : List Node) (front back : List Label) (first : ℕ) → AreEyes eyes →
    Twins eyes me one other thread twin → nodes ≡ nodes_of first value →
    (eyes.shades.at me thread.at).temps
    ≡ front ++ (reads_tell eyes.scene (eyes.shades.at me thread.at).pc value ++ back) →
    length front ≡ first → ExpressionFits eyes.code count nodes →
    ReleaseAlike one other thread twin (released_by first value) →
    IsValueSeen eyes (eyes.shades.at me thread.at).pc value →
    value_in_thread one thread nodes ≡ value_in_thread other twin nodes
part_same eyes me one other thread twin count value nodes front back first are same is lies many fits releases seen =
    let here = eyes.shades.at me thread.at in
    let fit : ExpressionFits eyes.code count (nodes_of first value) = subst (ExpressionFits eyes.code count) is fits in
    ap (value_in_thread one thread) is
    ∙ value_same eyes here.pc (one.variables thread.frame) (other.variables twin.frame) thread.temporaries
    twin.temporaries first value are
    (hold_alike eyes are here.pc count (one.variables thread.frame) (other.variables twin.frame) thread.temporaries
    twin.temporaries here.temps (twins_alike eyes me one other thread twin same) value front back first lies many fit
    releases) seen
    ∙ sym (ap (value_in_thread other twin) is)

-- a value over all temporaries
kept_same : (eyes : Eyes) (me : HostId) (one other : HostState) (thread twin : ThreadShape) (count : ℕ)
    (nodes : List Node) (label : Label) → AreEyes eyes → Twins eyes me one other thread twin →
    ExpressionFits eyes.code count nodes →
    ReleaseAlike one other thread twin (eyes.shades.at me thread.at).released →
    KeepsInShade eyes.scene (eyes.shades.at me thread.at) nodes label → eyes.sees label ≡ true →
    value_in_thread one thread nodes ≡ value_in_thread other twin nodes
kept_same eyes me one other thread twin count nodes label are same fits releases keeps seen =
    let here = eyes.shades.at me thread.at in
    let tell : List Label = reads_tell eyes.scene here.pc keeps.value in
    part_same eyes me one other thread twin count keeps.value nodes [] [] 0 are same keeps.is_value.nodes_are
    (keeps.is_value.temps ∙ sym (append-nil tell)) refl fits
    (subst (ReleaseAlike one other thread twin) keeps.is_value.releases releases)
    (are.below (value_label eyes.scene.basis here.pc keeps.value) label keeps.flows.value_flows seen)

pub masks_same : (seen : Bool) (one other : ℤ) → (seen ≡ true → one ≡ other) → masked seen one ≡ masked seen other
masks_same true one other same = same refl
masks_same false one other same = refl

variable_label_seen : (eyes : Eyes) → AreEyes eyes → (x : VarId) → sees_variable eyes x ≡ true →
    eyes.sees (label_of eyes.scene.basis.labelled x) ≡ true
variable_label_seen eyes are x seen =
    let label : Label = label_of eyes.scene.basis.labelled x in
    elim (cases_Bool (eyes.sees label)) [
      | inl sees ↦ sees
      | inr hidden ↦
          absurd (false≢true (sym (variable_unseen eyes are x label (flows_self label) hidden) ∙ seen))
    ]

field_label_seen : (eyes : Eyes) → AreEyes eyes → (field : FieldId) → sees_field eyes field ≡ true →
    eyes.sees (field_label eyes.scene.basis.labelled.program field) ≡ true
field_label_seen eyes are field seen =
    let label : Label = field_label eyes.scene.basis.labelled.program field in
    elim (cases_Bool (eyes.sees label)) [
      | inl sees ↦ sees
      | inr hidden ↦
          absurd (false≢true (sym (field_unseen eyes are field label (flows_self label) hidden) ∙ seen))
    ]

-- ---- each instruction

let_same : (eyes : Eyes) (me : HostId) (one other : HostState) (thread twin : ThreadShape) (count : ℕ)
    (x : VarId) (value : List Node) → AreEyes eyes → Twins eyes me one other thread twin →
    ExpressionFits eyes.code count value → ReleaseAlike one other thread twin (eyes.shades.at me thread.at).released →
    KeepsInShade eyes.scene (eyes.shades.at me thread.at) value (label_of eyes.scene.basis.labelled x) →
    carried_value (masked (sees_variable eyes x) (value_in_thread one thread value))
    ≡ carried_value (masked (sees_variable eyes x) (value_in_thread other twin value))
let_same eyes me one other thread twin count x value are same fits releases keeps =
    ap carried_value (masks_same (sees_variable eyes x) (value_in_thread one thread value)
    (value_in_thread other twin value) (λ seen.
    kept_same eyes me one other thread twin count value (label_of eyes.scene.basis.labelled x) are same fits releases
    keeps (variable_label_seen eyes are x seen)))

put_same : (eyes : Eyes) (me : HostId) (one other : HostState) (thread twin : ThreadShape) (count : ℕ)
    (field : FieldId) (index value : List Node) → AreEyes eyes → Twins eyes me one other thread twin →
    IsShadedOp eyes.scene eyes.shades me thread.at (op.Put field index value) →
    ExpressionFits eyes.code count index → ExpressionFits eyes.code count value →
    ReleaseAlike one other thread twin (eyes.shades.at me thread.at).released →
    carried_in eyes one thread (op.Put field index value) ≡ carried_in eyes other twin (op.Put field index value)
put_same eyes me one other thread twin count field index value are same law fits_at fits releases =
    let here = eyes.shades.at me thread.at in
    let stores = law.1.2 in
    let label : Label = field_label eyes.scene.basis.labelled.program field in
    let at_tell : List Label = reads_tell eyes.scene here.pc stores.index in
    let tell : List Label = reads_tell eyes.scene here.pc stores.value in
    let P : List Node → Type 0 = λ nodes. value_in_thread one thread nodes ≡ value_in_thread other twin nodes in
    let at_released = released_by 0 stores.index in
    let released = released_by (reads_in stores.index) stores.value in
    let both : AllByRecursion P (at_released ++ released) = subst (AllByRecursion P) stores.releases releases in
    let first : masked (sees_field eyes field) (value_in_thread one thread index)
    ≡ masked (sees_field eyes field) (value_in_thread other twin index) =
    masks_same (sees_field eyes field) (value_in_thread one thread index) (value_in_thread other twin index) (λ seen.
    part_same eyes me one other thread twin count stores.index index [] tell 0 are same stores.index_is stores.temps
    refl fits_at (all_first P at_released released both)
    (are.below (value_label eyes.scene.basis here.pc stores.index) label stores.index_flows.value_flows
    (field_label_seen eyes are field seen))) in
    let second : masked (sees_field eyes field) (value_in_thread one thread value)
    ≡ masked (sees_field eyes field) (value_in_thread other twin value) =
    masks_same (sees_field eyes field) (value_in_thread one thread value) (value_in_thread other twin value) (λ seen.
    part_same eyes me one other thread twin count stores.value value at_tell [] (reads_in stores.index) are same
    stores.nodes_are (stores.temps ∙ ap (λ all. at_tell ++ all) (sym (append-nil tell)))
    (told_many eyes.scene here.pc stores.index) fits (all_second P at_released released both)
    (are.below (value_label eyes.scene.basis here.pc stores.value) label stores.flows.value_flows
    (field_label_seen eyes are field seen))) in
    ap (λ i. record { index = i; value = masked (sees_field eyes field) (value_in_thread one thread value) }) first
    ∙ ap (λ v. record { index = masked (sees_field eyes field) (value_in_thread other twin index); value = v }) second

-- a block that is not hidden may be seen
seen_not : (b : Bool) → not (not b) ≡ true → b ≡ true
seen_not true is = refl
seen_not false is = absurd (false≢true is)

branch_same : (eyes : Eyes) (me : HostId) (one other : HostState) (thread twin : ThreadShape) (count : ℕ)
    (guard : List Node) (target : ℕ) → AreEyes eyes → Twins eyes me one other thread twin →
    is_open eyes me thread.at ≡ true →
    IsShadedOp eyes.scene eyes.shades me thread.at (op.Branch guard target) →
    ExpressionFits eyes.code count guard → ReleaseAlike one other thread twin (eyes.shades.at me thread.at).released →
    carried_in eyes one thread (op.Branch guard target) ≡ carried_in eyes other twin (op.Branch guard target)
branch_same eyes me one other thread twin count guard target are same seen law fits releases =
    let here = eyes.shades.at me thread.at in
    let value = value_in_thread one thread guard in
    let others = value_in_thread other twin guard in
    let sees : Bool = not (is_deep eyes me (thread.at + 1)) in
    let first : not (is_deep eyes one.me (thread.at + 1)) ≡ sees =
    ap (λ (h : HostId). not (is_deep eyes h (thread.at + 1))) same.me_one in
    let second : not (is_deep eyes other.me (twin.at + 1)) ≡ sees =
    ap (λ (h : HostId). not (is_deep eyes h (twin.at + 1))) same.me_other
    ∙ ap (λ n. not (is_deep eyes me (n + 1))) same.place in
    ap (λ (b : Bool). carried_value (masked b value)) first
    ∙ ap carried_value (masks_same sees value others (λ block. by here.guard law.3
    (seen_not (eyes.sees (eyes.shades.at me (thread.at + 1)).block) block)))
    ∙ sym (ap (λ (b : Bool). carried_value (masked b others)) second)
  where
    by : (loop : Option ℕ) →
        DividesInShade eyes.scene (eyes.shades.at me thread.at) guard loop law.0 law.1 →
        eyes.sees (eyes.shades.at me (thread.at + 1)).block ≡ true →
        value_in_thread one thread guard ≡ value_in_thread other twin guard
    by None parts block =
        kept_same eyes me one other thread twin count guard law.0.block are same fits releases parts.0
        (ap eyes.sees (sym (meets_next eyes me thread.at law.0 law.4).block) ∙ block)
    by (Some loop) parts block =
        kept_same eyes me one other thread twin count guard (eyes.shades.at me thread.at).pc are same fits releases
        parts.0 seen

-- whether what is read may be seen is the same of both
pub read_sees : (eyes : Eyes) (me : HostId) (one other : HostState) (thread twin : ThreadShape) →
    Twins eyes me one other thread twin →
    sees_read eyes one.me (next_request one thread.at) ≡ sees_read eyes other.me (next_request other twin.at)
read_sees eyes me one other thread twin same =
    ap (λ (h : HostId). last_seen eyes (eyes.shades.at h (thread.at + 1)).temps) (same.me_one ∙ sym same.me_other)
    ∙ ap (λ n. last_seen eyes (eyes.shades.at other.me (n + 1)).temps) (sym same.place)

-- what is read, under the label that tells which element
abbrev read_at : Eyes → HostId → ℕ → FieldId → ExprTree → Label
read_at eyes me place field index =
    read_label eyes.scene.basis (eyes.shades.at me place).pc (record { field = field; index = index })

label_of_read : (eyes : Eyes) (me : HostId) (one other : HostState) (thread twin : ThreadShape) (field : FieldId)
    (index : List Node) → Twins eyes me one other thread twin →
    (law : IsShadedOp eyes.scene eyes.shades me thread.at (op.Read field index)) →
    sees_read eyes other.me (next_request other twin.at) ≡ true →
    eyes.sees (read_at eyes me thread.at field law.1.index) ≡ true
label_of_read eyes me one other thread twin field index same law seen =
    sym (read_seen eyes me thread.at field index law)
    ∙ ap (λ (h : HostId). last_seen eyes (eyes.shades.at h (thread.at + 1)).temps) (sym same.me_one)
    ∙ read_sees eyes me one other thread twin same ∙ seen

-- which element is asked for
pub index_same : (eyes : Eyes) (me : HostId) (one other : HostState) (thread twin : ThreadShape) (count : ℕ)
    (field : FieldId) (index : List Node) → AreEyes eyes → Twins eyes me one other thread twin →
    IsShadedOp eyes.scene eyes.shades me thread.at (op.Read field index) → ExpressionFits eyes.code count index →
    ReleaseAlike one other thread twin (eyes.shades.at me thread.at).released →
    sees_read eyes other.me (next_request other twin.at) ≡ true →
    value_in_thread one thread index ≡ value_in_thread other twin index
index_same eyes me one other thread twin count field index are same law fits releases seen =
    let here = eyes.shades.at me thread.at in
    let reads = law.1 in
    let own : Label = field_label eyes.scene.basis.labelled.program field in
    let asked : Label = value_label eyes.scene.basis here.pc reads.index in
    let tell : List Label = reads_tell eyes.scene here.pc reads.index in
    part_same eyes me one other thread twin count reads.index index reads.before [] (length reads.before) are same
    reads.nodes_are (reads.temps ∙ ap (λ all. reads.before ++ all) (sym (append-nil tell))) refl fits
    (subst (ReleaseAlike one other thread twin) reads.releases releases)
    (are.below asked (read_at eyes me thread.at field reads.index) (flows_second own asked)
    (label_of_read eyes me one other thread twin field index same law seen))

read_same : (eyes : Eyes) (me : HostId) (one other : HostState) (thread twin : ThreadShape) (count : ℕ)
    (field : FieldId) (index : List Node) → AreEyes eyes → Twins eyes me one other thread twin →
    IsShadedOp eyes.scene eyes.shades me thread.at (op.Read field index) → IsField eyes.code field →
    ExpressionFits eyes.code count index → ReleaseAlike one other thread twin (eyes.shades.at me thread.at).released →
    carried_in eyes one thread (op.Read field index) ≡ carried_in eyes other twin (op.Read field index)
read_same eyes me one other thread twin count field index are same law within fits releases =
    let here = eyes.shades.at me thread.at in
    let own : Label = field_label eyes.scene.basis.labelled.program field in
    let asked : Label = value_label eyes.scene.basis here.pc law.1.index in
    let value = element_at (row_of one.rows field.0) (value_in_thread one thread index) in
    let mirror = element_at (row_of other.rows field.0) (value_in_thread other twin index) in
    ap (λ (b : Bool). carried_value (masked b value)) (read_sees eyes me one other thread twin same)
    ∙ ap carried_value (masks_same (sees_read eyes other.me (next_request other twin.at)) value mirror (λ seen.
    ap (λ row. element_at row (value_in_thread one thread index))
    (same.rows field (field_seen eyes are field within
    (are.below own (read_at eyes me thread.at field law.1.index) (flows_first own asked)
    (label_of_read eyes me one other thread twin field index same law seen))))
    ∙ ap (element_at (row_of other.rows field.0))
    (index_same eyes me one other thread twin count field index are same law fits releases seen)))

pub operation_same : (eyes : Eyes) (me : HostId) (one other : HostState) (thread twin : ThreadShape) (count : ℕ)
    (it : Op) → AreEyes eyes → Twins eyes me one other thread twin → is_open eyes me thread.at ≡ true →
    IsShadedOp eyes.scene eyes.shades me thread.at it →
    OperationFits eyes.code me count it → ReleaseAlike one other thread twin (eyes.shades.at me thread.at).released →
    carried_in eyes one thread it ≡ carried_in eyes other twin it
operation_same eyes me one other thread twin count (op.Let x value) are same seen law fits releases =
    let_same eyes me one other thread twin count x value are same fits.1 releases law.1.2
operation_same eyes me one other thread twin count (op.Arg x value) are same seen law fits releases =
    let_same eyes me one other thread twin count x value are same fits.1 releases law.1.2
operation_same eyes me one other thread twin count (op.Put field index value) are same seen law fits releases =
    put_same eyes me one other thread twin count field index value are same law fits.1 fits.2 releases
operation_same eyes me one other thread twin count (op.Branch guard target) are same seen law fits releases =
    branch_same eyes me one other thread twin count guard target are same seen law fits.0 releases
operation_same eyes me one other thread twin count (op.Read field index) are same seen law fits releases =
    read_same eyes me one other thread twin count field index are same law fits.0 fits.1 releases
operation_same eyes me one other thread twin count (op.Send x to) are same seen law fits releases = refl
operation_same eyes me one other thread twin count (op.Frame site) are same seen law fits releases = refl
operation_same eyes me one other thread twin count (op.Pass x to) are same seen law fits releases = refl
operation_same eyes me one other thread twin count (op.Push entry) are same seen law fits releases = refl
operation_same eyes me one other thread twin count (op.Ask entry on) are same seen law fits releases = refl
operation_same eyes me one other thread twin count (op.Go entry on) are same seen law fits releases = refl
operation_same eyes me one other thread twin count (op.Call entry on) are same seen law fits releases = refl
operation_same eyes me one other thread twin count (op.GoWith entry on riders) are same seen law fits releases = refl
operation_same eyes me one other thread twin count (op.CallWith entry on riders) are same seen law fits releases = refl
operation_same eyes me one other thread twin count (op.Ret x value) are same seen law fits releases =
    let_same eyes me one other thread twin count x value are same fits.1 releases law.1.2
operation_same eyes me one other thread twin count op.Back are same seen law fits releases = refl
