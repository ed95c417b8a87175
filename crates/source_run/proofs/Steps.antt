-- Each step of the machine is a step of the plain run.
use Rattle.std.proofs.Common.{◌≡◌, ℕ, zero, suc, ◌+◌, ◌<◌, ◌≤◌, ◌==◌, ◌⊎◌, Bool, true}
use Rattle.std.proofs.Common.{false, ℤ, pos, List, [], ◌∷◌, ◌++◌}
use Rattle.std.proofs.Common.{length, take, map, Option, Some, None, refl, sym, ap, ◌∙◌, subst, arith, inl, inr}
use Rattle.std.proofs.Common.{append-nil, append_assoc}
use Rattle.std.specs.Prelude.{slice_get, unwrap_or, if◌then◌else◌}
use Rattle.std.specs.Option.{option_map}
use Rattle.std.specs.Bool.{nat_lt}
use Rattle.std.proofs.lemmas.Bool.{cases_eq, cases_order}
use Rattle.std.proofs.lemmas.Bool.Decides.{nat_tests}
use Rattle.std.proofs.lemmas.Option.{slice_get_within}
use Rattle.js_base.specs.declared.ids.VarId.{VarId}
use Rattle.jif_tree.specs.declared.program.Program.{Program}
use Rattle.jif_tree.specs.declared.program.Stmt.{Stmt}
use Rattle.jif_tree.specs.declared.program.StmtKind.{StmtKind}
use Rattle.jif_tree.specs.declared.program.StmtKind as kind
use Rattle.jif_tree.specs.declared.program.Expr.{Expr}
use Rattle.jif_tree.specs.declared.program.Expr as expr
use Rattle.jif_tree.specs.Operators.{is_true, binary_value, negation, inversion}
use Rattle.jif_tree.specs.Store.{element_at, row_of, store_after_write}
use Rattle.jif_tree.specs.SourceRun.{Call, Item, run, keep, Configuration, variable, calls_after, value_of, operands}
use Rattle.jif_tree.specs.SourceRun.{statements_of, method_at, body_of, params_of, result_of, passed, kept, after_call}
use Rattle.jif_tree.specs.SourceRun.{after_result, calls_after_return, executed, after_item, step, main_body}
use Rattle.jif_tree.specs.SourceRun.{configuration_at_start}
use Rattle.source_run.specs.declared.frames.Target.{Target}
use Rattle.source_run.specs.Cells.{value_in}
use Rattle.source_run.specs.Values.{value_with}
use Rattle.source_run.specs.declared.cells.Cell.{Cell}
use Rattle.source_run.specs.Windows.{with_cells}
use Rattle.source_run.specs.Frames.{FrameShape, cells_of, cells_at, returns_at, with_variable}
use Rattle.source_run.specs.Machine.{Work, run_all, keep_in, MachineShape, with_block, with_keep, kept_frames}
use Rattle.source_run.specs.Machine.{target_of, frames_after_return, value_at_frame, after_statement}
use Rattle.source_run.specs.Machine.{after_task, machine_step, machine_at_start}
use Rattle.source_run.specs.Machine as machine
use Rattle.source_run.proofs.CellValues.{value_in-with_cell}
use Rattle.source_run.proofs.Places.{is_there}
use Rattle.source_run.proofs.Agreement.{items_of, IsStacked, GoesTo, IsFrameOf, AreFramesOf, stacked_below}
use Rattle.source_run.proofs.Agreement.{items_of-with_block, stacked_block, items_of-same, set_agrees, dead_agrees}
use Rattle.source_run.proofs.Agreement.{first_agree, numbered, numbered-below, numbered-at, added_agrees}

-- a machine and a configuration of the plain run agree: so many frames have the numbers of their calls
pub record Agrees (program : Program) (m : MachineShape) (c : Configuration) : Type 0 where
  pub number : ℕ → ℕ
  pub count : ℕ
  pub store : c.store ≡ m.store
  pub pending : c.pending ≡ items_of number m.tasks
  pub stacked : IsStacked count m.tasks
  pub frames : AreFramesOf program c.calls number count m.frames

-- ---- values

same_value : (values : ℕ → ℤ) (c : Configuration) (call : ℕ) → ((x : ℕ) → values x ≡ variable c.calls call x)
    → (e : Expr)
    → value_with values c.store e ≡ value_of c call e
same_value values c call same (expr.Number n) = refl
same_value values c call same (expr.Local x) = same x.0
same_value values c call same (expr.Scalar field) = refl
same_value values c call same (expr.Element' field p index) =
    ap (λ (i : ℤ). element_at (row_of c.store field.0) i) (same_value values c call same index)
same_value values c call same (expr.Not' p operand) = ap inversion (same_value values c call same operand)
same_value values c call same (expr.Negate' p operand) = ap negation (same_value values c call same operand)
same_value values c call same (expr.Binary' operator p left q right) =
    ap (λ (v : ℤ). binary_value operator v (value_with values c.store right)) (same_value values c call same left)
    ∙ ap (λ (v : ℤ). binary_value operator (value_of c call left) v) (same_value values c call same right)
same_value values c call same (expr.Declassify' p inner label) = same_value values c call same inner
same_value values c call same (expr.Endorse' p inner label) = same_value values c call same inner

-- the variables of a frame are those of its call
frame_values : {program : Program} {calls : List Call} {number : ℕ → ℕ} {count : ℕ} {frames : List FrameShape}
    → (are : AreFramesOf program calls number count frames) (frame : ℕ) → frame < count → (x : ℕ)
    → value_in (cells_at frames frame) x ≡ variable calls (number frame) x
frame_values {program} {calls} {number} {count} {frames} are frame within x =
    let found = is_there frames frame (subst (λ (n : ℕ). frame < n) (sym are.all) within) in
    let is = are.each frame found.0 found.1 in
    ap (λ (o : Option FrameShape). value_in (cells_of o) x) found.1 ∙ is.1.values x
    ∙ sym (ap (λ (o : Option Call). unwrap_or (option_map (λ made. made.values x) o) (pos 0)) is.1.there)

-- ---- a statement

-- A machine and a configuration that are to do a statement of a frame: `behind` is to be done after it, and `again`
-- begins with it.
pub record AtStatement (program : Program) (m : MachineShape) (c : Configuration) (number : ℕ → ℕ) (count frame : ℕ)
    (behind again : List Work) (left : List Item) (item : Item) : Type 0 where
  pub store : c.store ≡ m.store
  pub frames : AreFramesOf program c.calls number count m.frames
  pub within : frame < count
  pub behind_is : items_of number behind ≡ left
  pub behind_stacked : IsStacked (frame + 1) behind
  pub again_is : items_of number again ≡ item ∷ left
  pub again_stacked : IsStacked (frame + 1) again

value_agrees : {program : Program} {m : MachineShape} {c : Configuration} {number : ℕ → ℕ} {count frame : ℕ}
    {behind again : List Work} {left : List Item} {item : Item}
    → AtStatement program m c number count frame behind again left item → (e : Expr)
    → value_at_frame m frame e ≡ value_of c (number frame) e
value_agrees {program} {m} {c} {number} {count} {frame} {behind} {again} {left} {item} at e =
    ap (λ (s : List (List ℤ)). value_with (value_in (cells_at m.frames frame)) s e) (sym at.store)
    ∙ same_value (value_in (cells_at m.frames frame)) c (number frame) (frame_values at.frames frame at.within) e

-- what is due behind a statement
left_agrees : {program : Program} {m : MachineShape} {c : Configuration} {number : ℕ → ℕ} {count frame : ℕ}
    {behind again : List Work} {left : List Item} {item : Item}
    → AtStatement program m c number count frame behind again left item → IsStacked count behind
left_agrees {program} {m} {c} {number} {count} {frame} {behind} {again} {left} {item} at =
    let within = at.within in
    stacked_below (frame + 1) count behind (omega arith) at.behind_stacked

-- statements before what is due
block_agrees : (number : ℕ → ℕ) (frame : ℕ) (statements : List Stmt) (tasks : List Work) (items : List Item)
    → items_of number tasks ≡ items
    → map (run (number frame)) statements ++ items ≡ items_of number (with_block frame statements tasks)
block_agrees number frame statements tasks items is =
    ap (λ (rest : List Item). map (run (number frame)) statements ++ rest) (sym is)
    ∙ sym (items_of-with_block number frame statements tasks)

chosen : (truth : Bool) (f : Stmt → Item) (first second : List Stmt)
    → (if truth then map f first else map f second) ≡ map f (if truth then first else second)
chosen true f first second = refl
chosen false f first second = refl

looped : (truth : Bool) (number : ℕ → ℕ) (frame : ℕ) (body : List Stmt) (behind again : List Work) (left : List Item)
    (item : Item) → items_of number behind ≡ left → items_of number again ≡ item ∷ left
    → (if truth then map (run (number frame)) body ++ item ∷ left else left)
    ≡ items_of number (if truth then with_block frame body again else behind)
looped true number frame body behind again left item behind_is again_is =
    block_agrees number frame body again (item ∷ left) again_is
looped false number frame body behind again left item behind_is again_is = sym behind_is

loop_stacked : (truth : Bool) (count frame : ℕ) (body : List Stmt) (behind again : List Work) → frame < count
    → IsStacked count behind → IsStacked (frame + 1) again
    → IsStacked count (if truth then with_block frame body again else behind)
loop_stacked true count frame body behind again within behind_is again_is =
    stacked_block count frame body again within again_is
loop_stacked false count frame body behind again within behind_is again_is = behind_is

-- ---- a `return`

returned_agrees : {program : Program} (c : Configuration) {number : ℕ → ℕ} {count : ℕ} {frames : List FrameShape}
    → AreFramesOf program c.calls number count frames → (place : ℕ) → place < count → (made : Call)
    → made.caller < length c.calls → (value : ℤ) (result : Option VarId) (target : Option Target)
    → GoesTo number count place made.caller result target
    → AreFramesOf program (after_result c made result value) number count (frames_after_return frames target value)
returned_agrees {program} c {number} {count} {frames} are place within made known value None target goes =
    subst (λ (t : Option Target). AreFramesOf program c.calls number count (frames_after_return frames t value))
    (sym goes) are
returned_agrees {program} c {number} {count} {frames} are place within made known value (Some result) None goes =
    dead_agrees are made.caller result.0 value known goes
returned_agrees {program} c {number} {count} {frames} are place within made known value (Some result) (Some target)
    goes =
    let low : target.frame ≤ place = goes.1 in
    let set = set_agrees are target.frame target.var value (omega arith) in
    subst (λ (n : ℕ). AreFramesOf program (calls_after c.calls n result.0 value) number count
    (with_variable frames target.frame target.var value)) goes.2
    (subst (λ (x : ℕ). AreFramesOf program (calls_after c.calls (number target.frame) x value) number count
    (with_variable frames target.frame target.var value)) goes.0 set)

return_agrees : {program : Program} (c : Configuration) {number : ℕ → ℕ} {count : ℕ} {frames : List FrameShape}
    → AreFramesOf program c.calls number count frames → (frame : ℕ) → frame < count → (value : ℤ)
    → AreFramesOf program (calls_after_return program c (number frame) value) number count
    (frames_after_return frames (returns_at frames frame) value)
return_agrees {program} c {number} {count} {frames} are frame within value =
    let found = is_there frames frame (subst (λ (n : ℕ). frame < n) (sym are.all) within) in
    let is = are.each frame found.0 found.1 in
    let known = slice_get_within c.calls (number frame) is.0 is.1.there in
    let early = is.1.earlier in
    rw (found.1, is.1.there) (returned_agrees c are frame within is.0 (omega arith) value
    (result_of (method_at program is.0.method)) found.0.returns is.1.returns)

-- ---- a call

-- no variable of a method was set at first
abbrev pub IsBlank : (ℕ → List Cell) → Type 0
IsBlank blank = (method x : ℕ) → value_in (blank method) x ≡ pos 0

passed_values : (cells : List Cell) → ((x : ℕ) → value_in cells x ≡ pos 0) → (params : List VarId) (values : List ℤ)
    (x : ℕ) → value_in (with_cells cells params values) x ≡ passed params values x
passed_values cells unset [] values x = unset x
passed_values cells unset (param ∷ params) [] x = unset x
passed_values cells unset (param ∷ params) (value ∷ values) x =
    value_in-with_cell (with_cells cells params values) param value x
    ∙ ap (λ (rest : ℤ). if x == param.0 then value else rest) (passed_values cells unset params values x)

same_all : {X Y : Type 0} (f g : X → Y) → ((x : X) → f x ≡ g x) → (xs : List X) → map f xs ≡ map g xs
same_all f g same [] = refl
same_all f g same (x ∷ xs) =
    ap (λ y. y ∷ map f xs) (same x) ∙ ap (λ ys. g x ∷ ys) (same_all f g same xs)

-- the assignment behind a call
keep_agrees : (number : ℕ → ℕ) (frame : ℕ) (into result : Option VarId) (tasks : List Work) (items : List Item)
    → items_of number tasks ≡ items
    → kept (number frame) into result ++ items ≡ items_of number (with_keep frame into result tasks)
keep_agrees number frame None result tasks items is = sym is
keep_agrees number frame (Some into) None tasks items is = sym is
keep_agrees number frame (Some into) (Some result) tasks items is =
    ap (λ (rest : List Item). keep (number frame) into result ∷ rest) (sym is)

keep_stacked : (frame : ℕ) (into result : Option VarId) (tasks : List Work) → IsStacked (frame + 1) tasks
    → IsStacked (frame + 1) (with_keep frame into result tasks)
keep_stacked frame None result tasks is = is
keep_stacked frame (Some into) None tasks is = is
keep_stacked frame (Some into) (Some result) tasks is = (omega arith, is)

-- The frames that are needed are the first so many, and tasks are stacked on so many.
record AreKept (count : ℕ) (tasks : List Work) (frames kept : List FrameShape) : Type 0 where
  pub fewer : ℕ
  pub within : fewer ≤ count
  pub first : kept ≡ take fewer frames
  pub stacked : IsStacked fewer tasks

take_none : {X : Type 0} (xs : List X) → [] ≡ take 0 xs
take_none [] = refl
take_none (x ∷ xs) = refl

are_kept : (count : ℕ) (tasks : List Work) (frames : List FrameShape) → IsStacked count tasks
    → AreKept count tasks frames (kept_frames tasks frames)
are_kept count [] frames is = record { fewer = 0; within = omega arith; first = take_none frames; stacked = tt }
are_kept count (run_all frame [] ∷ tasks) frames is = absurd is
are_kept count (run_all frame (statement ∷ statements) ∷ tasks) frames is =
    let low : frame < count = is.0 in
    record { fewer = frame + 1; within = omega arith; first = refl; stacked = (omega arith, is.1) }
are_kept count (keep_in frame into result ∷ tasks) frames is =
    let low : frame < count = is.0 in
    record { fewer = frame + 1; within = omega arith; first = refl; stacked = (omega arith, is.1) }

-- where the result of the added call goes
target_goes : {program : Program} {calls : List Call} {number : ℕ → ℕ} {count : ℕ} {frames : List FrameShape}
    → AreFramesOf program calls number count frames → (frame fewer n : ℕ) → frame < count → fewer ≤ count
    → number frame < n → (result : Option VarId)
    → GoesTo (numbered number fewer n) (fewer + 1) fewer (number frame) result (target_of frame fewer result)
target_goes {program} {calls} {number} {count} {frames} are frame fewer n within le early None = refl
target_goes {program} {calls} {number} {count} {frames} are frame fewer n within le early (Some result) =
    let goal : Bool → Type 0 = λ b. GoesTo (numbered number fewer n) (fewer + 1) fewer (number frame) (Some result)
    (if b then Some (record { frame = frame; var = result }) else None) in
    elim (cases_lt frame fewer) as (λ _. goal (nat_lt frame fewer)) [
      | inl is ↦ let low : frame < fewer = is.0 in
          subst goal (sym is.1) (refl, omega arith, numbered-below number fewer n frame low)
      | inr is ↦ subst goal (sym is.1) (λ k below. elim (cases_eq k fewer) [
        | inl last ↦ (λ same.
            let at : n ≡ number frame = sym (numbered-at number fewer n)
            ∙ subst (λ (i : ℕ). numbered number fewer n i ≡ number frame) last same in
            absurd (omega arith))
        | inr differ ↦
            let before : k < fewer = omega arith in
            let apart : k < frame = omega arith in
            let rises = are.rising k frame apart within in
            let at = numbered-below number fewer n k before in
            (λ same. absurd (omega arith))
      ])
    ]
  where
    cases_lt : (a b : ℕ) → ((a < b) × (nat_lt a b ≡ true)) ⊎ ((b ≤ a) × (nat_lt a b ≡ false))
    cases_lt a b = elim (cases_order a b) [
      | inl same ↦ inr (omega arith, grind (arith, nat_tests))
      | inr apart ↦ elim apart [
        | inl less ↦ inl (omega arith, grind (arith, nat_tests))
        | inr more ↦ inr (omega arith, grind (arith, nat_tests))
      ]
    ]

-- what is due after a call: the body of the method, the assignment behind it, and what is left
call_due : (number : ℕ → ℕ) (frame fewer n place : ℕ) (body : List Stmt) (into result : Option VarId)
    (behind : List Work) (left : List Item) → IsStacked fewer (with_keep frame into result behind) → place ≡ fewer
    → items_of number behind ≡ left
    → (map (run n) body ++ kept (number frame) into result) ++ left
    ≡ items_of (numbered number fewer n) (with_block place body (with_keep frame into result behind))
call_due number frame fewer n place body into result behind left is_stacked same is =
    let tasks = with_keep frame into result behind in
    let more = numbered number fewer n in
    let at_place : more place ≡ n =
    subst (λ (i : ℕ). more i ≡ n) (sym same) (numbered-at number fewer n) in
    let due : items_of more tasks ≡ kept (number frame) into result ++ left =
    items_of-same number more fewer tasks is_stacked (λ k below. numbered-below number fewer n k below)
    ∙ sym (keep_agrees number frame into result behind left is) in
    append_assoc (map (run n) body) (kept (number frame) into result) left
    ∙ (ap (λ (i : ℕ). map (run i) body ++ (kept (number frame) into result ++ left)) (sym at_place)
    ∙ block_agrees more place body tasks (kept (number frame) into result ++ left) due)

-- the frames after a call, of which so many were kept
call_frames : {program : Program} {calls : List Call} {number : ℕ → ℕ} {count : ℕ} {frames : List FrameShape}
    → AreFramesOf program calls number count frames → (blank : ℕ → List Cell) → IsBlank blank
    → (frame fewer place method : ℕ) (values : List ℤ) (first : List FrameShape) → frame < count → fewer ≤ count
    → AreFramesOf program calls number fewer first
    → place ≡ fewer → let made : Call = record {
      caller = number frame;
      method = method;
      values = passed (params_of (method_at program method)) values;
    } in
    let added : FrameShape = record {
      cells = with_cells (blank method) (params_of (method_at program method)) values;
      returns = target_of frame place (result_of (method_at program method));
    } in
    AreFramesOf program (calls ++ made ∷ []) (numbered number fewer (length calls)) (fewer + 1) (first ++ added ∷ [])
call_frames {program} {calls} {number} {count} {frames} are blank unset frame fewer place method values first within le
    first_are same =
    let called = method_at program method in
    let n = length calls in
    let found = is_there frames frame (subst (λ (i : ℕ). frame < i) (sym are.all) within) in
    let is = are.each frame found.0 found.1 in
    let early = slice_get_within calls (number frame) is.0 is.1.there in
    added_agrees first_are _ _ early (passed_values (blank method) (unset method) (params_of called) values)
    (subst (λ (k : ℕ). GoesTo (numbered number fewer n) (fewer + 1) fewer (number frame) (result_of called)
    (target_of frame k (result_of called))) (sym same)
    (target_goes are frame fewer n within le early (result_of called)))

-- a call of a method with arguments of these values
call_agrees : {program : Program} {m : MachineShape} {c : Configuration} {number : ℕ → ℕ} {count frame : ℕ}
    {behind again : List Work} {left : List Item} {item : Item}
    → AtStatement program m c number count frame behind again left item
    → (blank : ℕ → List Cell) → IsBlank blank → (method : ℕ) (values : List ℤ) (into : Option VarId)
    → AreKept count (with_keep frame into (result_of (method_at program method)) behind) m.frames
    (kept_frames (with_keep frame into (result_of (method_at program method)) behind) m.frames)
    → Agrees program (machine.after_call program blank m frame method values into behind)
    (after_call program c (number frame) method values into left)
call_agrees {program} {m} {c} {number} {count} {frame} {behind} {again} {left} {item} at blank unset method values into
    are =
    let result = result_of (method_at program method) in
    let tasks = with_keep frame into result behind in
    let first = subst (λ (fs : List FrameShape). AreFramesOf program c.calls number are.fewer fs) (sym are.first)
    (first_agree at.frames are.fewer are.within) in
    record {
      number = numbered number are.fewer (length c.calls);
      count = are.fewer + 1;
      store = at.store;
      pending = call_due number frame are.fewer (length c.calls) (length (kept_frames tasks m.frames))
          (body_of (method_at program method)) into result behind left are.stacked first.all at.behind_is;
      stacked = subst (λ (k : ℕ). IsStacked (are.fewer + 1) (with_block k (body_of (method_at program method)) tasks))
          (sym first.all)
          (stacked_block (are.fewer + 1) are.fewer (body_of (method_at program method)) tasks (omega arith)
          (stacked_below are.fewer (are.fewer + 1) tasks (omega arith) are.stacked));
      frames = call_frames at.frames blank unset frame are.fewer (length (kept_frames tasks m.frames)) method values
          (kept_frames tasks m.frames) at.within are.within first first.all;
    }

keep_is_kept : {program : Program} {m : MachineShape} {c : Configuration} {number : ℕ → ℕ} {count frame : ℕ}
    {behind again : List Work} {left : List Item} {item : Item}
    → AtStatement program m c number count frame behind again left item → (into result : Option VarId)
    → AreKept count (with_keep frame into result behind) m.frames
    (kept_frames (with_keep frame into result behind) m.frames)
keep_is_kept {program} {m} {c} {number} {count} {frame} {behind} {again} {left} {item} at into result =
    let within = at.within in
    are_kept count (with_keep frame into result behind) m.frames
    (stacked_below (frame + 1) count (with_keep frame into result behind) (omega arith)
    (keep_stacked frame into result behind at.behind_stacked))

-- ---- each kind of statement

executes : (program : Program) (blank : ℕ → List Cell) → IsBlank blank
    → (m : MachineShape) (c : Configuration) (number : ℕ → ℕ) (count frame : ℕ)
    (behind again : List Work) (left : List Item) (item : Item) (what : StmtKind)
    → AtStatement program m c number count frame behind again left item
    → Agrees program (after_statement program blank m frame what behind again)
    (executed program c (number frame) item what (map (value_of c (number frame)) (operands what)) left)
executes program blank unset m c number count frame behind again left item (kind.Let x value) at = record {
  number = number;
  count = count;
  store = at.store;
  pending = sym at.behind_is;
  stacked = left_agrees at;
  frames = subst (λ (v : ℤ). AreFramesOf program (calls_after c.calls (number frame) x.0 v) number count
      (with_variable m.frames frame x (value_at_frame m frame value))) (value_agrees at value)
      (set_agrees at.frames frame x (value_at_frame m frame value) at.within);
}
executes program blank unset m c number count frame behind again left item (kind.SetField field value) at = record {
  number = number;
  count = count;
  store = ap (λ (s : List (List ℤ)). store_after_write s field.0 (pos 0) (value_of c (number frame) value)) at.store
      ∙ ap (λ (v : ℤ). store_after_write m.store field.0 (pos 0) v) (sym (value_agrees at value));
  pending = sym at.behind_is;
  stacked = left_agrees at;
  frames = at.frames;
}
executes program blank unset m c number count frame behind again left item (kind.SetElement field index value) at
    = record {
      number = number;
      count = count;
      store = ap (λ (s : List (List ℤ)). store_after_write s field.0 (value_of c (number frame) index)
          (value_of c (number frame) value)) at.store
          ∙ (ap (λ (i : ℤ). store_after_write m.store field.0 i (value_of c (number frame) value))
          (sym (value_agrees at index))
          ∙ ap (λ (v : ℤ). store_after_write m.store field.0 (value_at_frame m frame index) v)
          (sym (value_agrees at value)));
      pending = sym at.behind_is;
      stacked = left_agrees at;
      frames = at.frames;
    }
executes program blank unset m c number count frame behind again left item (kind.If' guard i first j second) at =
    let block : ℤ → List Stmt = λ v. if is_true v then statements_of first else statements_of second in
    record {
      number = number;
      count = count;
      store = at.store;
      pending = ap (λ (items : List Item). items ++ left) (chosen (is_true (value_of c (number frame) guard))
          (run (number frame)) (statements_of first) (statements_of second))
          ∙ (block_agrees number frame (block (value_of c (number frame) guard)) behind left at.behind_is
          ∙ ap (λ (v : ℤ). items_of number (with_block frame (block v) behind)) (sym (value_agrees at guard)));
      stacked = stacked_block count frame (block (value_at_frame m frame guard)) behind at.within at.behind_stacked;
      frames = at.frames;
    }
executes program blank unset m c number count frame behind again left item (kind.While' guard i body) at = record {
  number = number;
  count = count;
  store = at.store;
  pending = looped (is_true (value_of c (number frame) guard)) number frame (statements_of body) behind again left item
      at.behind_is at.again_is
      ∙ ap (λ (v : ℤ). items_of number (if is_true v then with_block frame (statements_of body) again else behind))
      (sym (value_agrees at guard));
  stacked = loop_stacked (is_true (value_at_frame m frame guard)) count frame (statements_of body) behind again
      at.within
      (left_agrees at) at.again_stacked;
  frames = at.frames;
}
executes program blank unset m c number count frame behind again left item (kind.Call site method args into) at =
    subst (λ (values : List ℤ). Agrees program
    (machine.after_call program blank m frame method.0 (map (value_at_frame m frame) args.items) into behind)
    (after_call program c (number frame) method.0 values into left))
    (same_all (value_at_frame m frame) (value_of c (number frame)) (value_agrees at) args.items)
    (call_agrees at blank unset method.0 (map (value_at_frame m frame) args.items) into
    (keep_is_kept at into (result_of (method_at program method.0))))
executes program blank unset m c number count frame behind again left item (kind.Return value) at = record {
  number = number;
  count = count;
  store = at.store;
  pending = sym at.behind_is;
  stacked = left_agrees at;
  frames = subst (λ (v : ℤ). AreFramesOf program (calls_after_return program c (number frame) v) number count
      (frames_after_return m.frames (returns_at m.frames frame) (value_at_frame m frame value))) (value_agrees at value)
      (return_agrees c at.frames frame at.within (value_at_frame m frame value));
}

-- ---- each step

task_agrees : (program : Program) (blank : ℕ → List Cell) → IsBlank blank
    → (m : MachineShape) (c : Configuration) (agrees : Agrees program m c)
    (tasks : List Work) → m.tasks ≡ tasks → IsStacked agrees.count tasks
    → Agrees program (after_task program blank m tasks) (after_item program c (items_of agrees.number tasks))
task_agrees program blank unset m c agrees [] are is = agrees
task_agrees program blank unset m c agrees (run_all frame [] ∷ tasks) are is = absurd is
task_agrees program blank unset m c agrees (run_all frame (statement ∷ rest) ∷ tasks) are is =
    executes program blank unset m c agrees.number agrees.count frame (with_block frame rest tasks)
    (run_all frame (statement ∷ rest) ∷ tasks) (map (run (agrees.number frame)) rest ++ items_of agrees.number tasks)
    (run (agrees.number frame) statement) statement.kind (record {
      store = agrees.store;
      frames = agrees.frames;
      within = is.0;
      behind_is = items_of-with_block agrees.number frame rest tasks;
      behind_stacked = stacked_block (frame + 1) frame rest tasks (omega arith) is.1;
      again_is = refl;
      again_stacked = (omega arith, is.1);
    })
task_agrees program blank unset m c agrees (keep_in frame into result ∷ tasks) are is =
    let within : frame < agrees.count = is.0 in
    let value = value_in (cells_at m.frames frame) result.0 in
    record {
      number = agrees.number;
      count = agrees.count;
      store = agrees.store;
      pending = refl;
      stacked = stacked_below (frame + 1) agrees.count tasks (omega arith) is.1;
      frames = subst (λ (v : ℤ). AreFramesOf program (calls_after c.calls (agrees.number frame) into.0 v) agrees.number
          agrees.count (with_variable m.frames frame into value)) (frame_values agrees.frames frame within result.0)
          (set_agrees agrees.frames frame into value within);
    }

pub step_agrees : (program : Program) (blank : ℕ → List Cell) → IsBlank blank
    → (m : MachineShape) (c : Configuration) → Agrees program m c
    → Agrees program (machine_step program blank m) (step program c)
step_agrees program blank unset m c agrees =
    subst (λ (items : List Item). Agrees program (machine_step program blank m) (after_item program c items))
    (sym agrees.pending) (task_agrees program blank unset m c agrees m.tasks refl agrees.stacked)

-- ---- the start

only_frame : (program : Program) (blank : ℕ → List Cell) → IsBlank blank → (place : ℕ) (frame : FrameShape)
    → let first : FrameShape = record {
      cells = blank program.main.0;
      returns = target_of 0 1 (result_of (method_at program program.main.0));
    } in
    let called : Call = record { caller = 0; method = program.main.0; values = λ x. pos 0 } in
    slice_get (first ∷ []) place ≡ Some frame
    → (made : Call) × IsFrameOf program (called ∷ []) (λ k. 0) 1 place frame made
only_frame program blank unset zero frame there =
    let first : FrameShape = record {
      cells = blank program.main.0;
      returns = target_of 0 1 (result_of (method_at program program.main.0));
    } in
    let called : Call = record { caller = 0; method = program.main.0; values = λ x. pos 0 } in
    let same : first ≡ frame = cc in
    subst (λ (f : FrameShape). (made : Call) × IsFrameOf program (called ∷ []) (λ k. 0) 1 0 f made) same (
      called,
      record {
        there = refl;
        earlier = omega arith;
        values = unset program.main.0;
        returns = goes (result_of (method_at program program.main.0));
      },
    )
  where
    goes : (result : Option VarId) → GoesTo (λ k. 0) 1 0 0 result (target_of 0 1 result)
    goes None = refl
    goes (Some result) = (refl, omega arith, refl)
only_frame program blank unset (suc place) frame there = absurd (let e : None ≡ Some frame = there in cc)

pub start_agrees : (program : Program) (blank : ℕ → List Cell) → IsBlank blank → (store : List (List ℤ))
    → Agrees program (machine_at_start program blank store) (configuration_at_start program store)
start_agrees program blank unset store = record {
  number = λ k. 0;
  count = 1;
  store = refl;
  pending = sym (items_of-with_block (λ k. 0) 0 (main_body program) [] ∙ append-nil (map (run 0) (main_body program)));
  stacked = stacked_block 1 0 (main_body program) [] (omega arith) tt;
  frames = record {
    all = refl;
    rising = λ j k before below. absurd (omega arith);
    each = only_frame program blank unset;
  };
}

-- ---- the end

none_left : (number : ℕ → ℕ) (count : ℕ) (tasks : List Work) → IsStacked count tasks → items_of number tasks ≡ []
    → tasks ≡ []
none_left number count [] is none = refl
none_left number count (run_all frame [] ∷ tasks) is none = absurd is
none_left number count (run_all frame (statement ∷ statements) ∷ tasks) is none = cc
none_left number count (keep_in frame into result ∷ tasks) is none = cc

-- the machine has tasks until the end
pub end_agrees : {program : Program} {m : MachineShape} {c : Configuration} → Agrees program m c → c.pending ≡ []
    → m.tasks ≡ []
end_agrees {program} {m} {c} agrees ends =
    none_left agrees.number agrees.count m.tasks agrees.stacked (sym agrees.pending ∙ ends)
