-- When a machine and the configuration of a plain run agree, and what keeps it.
use Rattle.std.proofs.Common.{◌≡◌, ℕ, ◌+◌, ◌<◌, ◌≤◌, ◌≢◌, ◌==◌, ℤ, List, []}
use Rattle.std.proofs.Common.{◌∷◌, ◌++◌}
use Rattle.std.proofs.Common.{length, take, map, Option, Some, None, refl, sym, ap, ◌∙◌, subst, arith, inl, inr}
use Rattle.std.specs.Prelude.{slice_get, slice_set, if◌then◌else◌}
use Rattle.std.specs.Bool.{⊤}
use Rattle.std.proofs.lemmas.Bool.{cases_order, cases_eq}
use Rattle.std.proofs.lemmas.Bool.Decides.{nat_tests}
use Rattle.std.proofs.lemmas.List.{length-set, length-append, length-take-le}
use Rattle.std.proofs.lemmas.Option.{slice_get_within}
use Rattle.js_base.specs.declared.ids.VarId.{VarId}
use Rattle.jif_tree.specs.declared.program.Program.{Program}
use Rattle.jif_tree.specs.declared.program.Stmt.{Stmt}
use Rattle.jif_tree.specs.SourceRun.{Call, Item, run, keep, with_value, calls_after}
use Rattle.jif_tree.specs.SourceRun.{result_of, method_at}
use Rattle.source_run.specs.declared.frames.Target.{Target}
use Rattle.source_run.specs.Cells.{value_in, with_cell}
use Rattle.source_run.specs.Frames.{FrameShape, with_variable}
use Rattle.source_run.specs.Machine.{Work, run_all, keep_in, with_block}
use Rattle.source_run.proofs.CellValues.{value_in-with_cell}
use Rattle.source_run.proofs.Places.{get-set_same, get-set_other, get-before, get-added}
use Rattle.source_run.proofs.Places.{get-take, is_there}

-- The items that tasks stand for. `number` has the number of the call of each frame.
abbrev pub items_of : (ℕ → ℕ) → List Work → List Item
items_of number [] = []
items_of number (run_all frame statements ∷ tasks) = map (run (number frame)) statements ++ items_of number tasks
items_of number (keep_in frame into result ∷ tasks) = keep (number frame) into result ∷ items_of number tasks

-- Each task has something to do, and its frame is one of the first so many, and none of those under it in the stack is
-- above that.
abbrev pub IsStacked : ℕ → List Work → Type 0
IsStacked count [] = ⊤
IsStacked count (run_all frame [] ∷ tasks) = ⊥
IsStacked count (run_all frame (statement ∷ statements) ∷ tasks) = (frame < count) × IsStacked (frame + 1) tasks
IsStacked count (keep_in frame into result ∷ tasks) = (frame < count) × IsStacked (frame + 1) tasks

-- Where a method's result goes, whose call has a caller of this number: to the caller's frame, or nowhere where none of
-- so many frames is the caller's.
abbrev pub GoesTo : (ℕ → ℕ) → ℕ → ℕ → ℕ → Option VarId → Option Target → Type 0
GoesTo number count place caller None target = target ≡ None
GoesTo number count place caller (Some result) None = (k : ℕ) → k < count → number k ≢ caller
GoesTo number count place caller (Some result) (Some target) =
    (target.var.0 ≡ result.0) × (target.frame ≤ place) × (number target.frame ≡ caller)

-- a frame at a place has the variables of its call
pub record IsFrameOf (program : Program) (calls : List Call) (number : ℕ → ℕ) (count place : ℕ) (frame : FrameShape)
    (made : Call) : Type 0 where
  pub there : slice_get calls (number place) ≡ Some made
  pub earlier : made.caller ≤ number place
  pub values : (x : ℕ) → value_in frame.cells x ≡ made.values x
  pub returns : GoesTo number count place made.caller (result_of (method_at program made.method)) frame.returns

-- so many frames have the variables of their calls, which were made one after the other
pub record AreFramesOf (program : Program) (calls : List Call) (number : ℕ → ℕ) (count : ℕ) (frames : List FrameShape)
    : Type 0 where
  pub all : length frames ≡ count
  pub rising : (j k : ℕ) → j < k → k < count → number j < number k
  pub each : (place : ℕ) (frame : FrameShape) → slice_get frames place ≡ Some frame
      → (made : Call) × IsFrameOf program calls number count place frame made

-- two frames are of two calls
pub other_call : {program : Program} {calls : List Call} {number : ℕ → ℕ} {count : ℕ} {frames : List FrameShape}
    → AreFramesOf program calls number count frames → (j k : ℕ) → j < count → k < count → j ≢ k → number j ≢ number k
other_call {program} {calls} {number} {count} {frames} are j k below other differ =
    elim (cases_order j k) [
      | inl same ↦ absurd (differ same)
      | inr apart ↦ elim apart [
        | inl before ↦ let rises = are.rising j k before other in (λ same. absurd (omega arith))
        | inr behind ↦ let rises = are.rising k j behind below in (λ same. absurd (omega arith))
      ]
    ]

-- ---- tasks

pub stacked_below : (count more : ℕ) (tasks : List Work) → count ≤ more → IsStacked count tasks → IsStacked more tasks
stacked_below count more [] le is = tt
stacked_below count more (run_all frame [] ∷ tasks) le is = is
stacked_below count more (run_all frame (statement ∷ statements) ∷ tasks) le is =
    (let within : frame < count = is.0 in omega arith, is.1)
stacked_below count more (keep_in frame into result ∷ tasks) le is =
    (let within : frame < count = is.0 in omega arith, is.1)

pub items_of-with_block : (number : ℕ → ℕ) (frame : ℕ) (statements : List Stmt) (tasks : List Work)
    → items_of number (with_block frame statements tasks)
    ≡ map (run (number frame)) statements ++ items_of number tasks
items_of-with_block number frame [] tasks = refl
items_of-with_block number frame (statement ∷ statements) tasks = refl

pub stacked_block : (count frame : ℕ) (statements : List Stmt) (tasks : List Work) → frame < count
    → IsStacked (frame + 1) tasks → IsStacked count (with_block frame statements tasks)
stacked_block count frame [] tasks within is = stacked_below (frame + 1) count tasks (omega arith) is
stacked_block count frame (statement ∷ statements) tasks within is = (within, is)

-- the items are those by any numbers that are the same for the frames that are there
pub items_of-same : (number other : ℕ → ℕ) (count : ℕ) (tasks : List Work) → IsStacked count tasks
    → ((k : ℕ) → k < count → other k ≡ number k) → items_of other tasks ≡ items_of number tasks
items_of-same number other count [] is same = refl
items_of-same number other count (run_all frame [] ∷ tasks) is same = absurd is
items_of-same number other count (run_all frame (statement ∷ statements) ∷ tasks) is same =
    let within : frame < count = is.0 in
    ap (λ (n : ℕ). map (run n) (statement ∷ statements) ++ items_of other tasks) (same frame within)
    ∙ ap (λ (items : List Item). map (run (number frame)) (statement ∷ statements) ++ items)
    (items_of-same number other (frame + 1) tasks is.1 (λ k below. same k (omega arith)))
items_of-same number other count (keep_in frame into result ∷ tasks) is same =
    let within : frame < count = is.0 in
    ap (λ (n : ℕ). keep n into result ∷ items_of other tasks) (same frame within)
    ∙ ap (λ (items : List Item). keep (number frame) into result ∷ items)
    (items_of-same number other (frame + 1) tasks is.1 (λ k below. same k (omega arith)))

-- ---- a variable that is set

some_same : {X : Type 0} (x y : X) → Some x ≡ Some y → x ≡ y
some_same x y same = cc

-- the call after one of its variables was set
abbrev pub set_in_call : Call → ℕ → ℤ → Call
set_in_call made x value = record made { values = with_value made.values x value }

pub calls_after-at : (calls : List Call) (n : ℕ) (x : ℕ) (value : ℤ) (made : Call) → slice_get calls n ≡ Some made
    → calls_after calls n x value ≡ slice_set calls n (set_in_call made x value)
calls_after-at calls n x value made there = rw there refl

-- a call that is another one stays
pub calls_after-other : (calls : List Call) (n : ℕ) (x : ℕ) (value : ℤ) (made : Call) (k : ℕ)
    → slice_get calls n ≡ Some made → k ≢ n → slice_get (calls_after calls n x value) k ≡ slice_get calls k
calls_after-other calls n x value made k there differ =
    ap (λ (cs : List Call). slice_get cs k) (calls_after-at calls n x value made there)
    ∙ get-set_other calls n k (set_in_call made x value) differ

same_values : (values others : ℕ → ℤ) (x : ℕ) (value : ℤ) (y : ℕ) → values y ≡ others y
    → with_value values x value y ≡ with_value others x value y
same_values values others x value y same = ap (λ (old : ℤ). if y == x then value else old) same

pub with_variable-at : (frames : List FrameShape) (place : ℕ) (x : VarId) (value : ℤ) (frame : FrameShape)
    → slice_get frames place ≡ Some frame → with_variable frames place x value
    ≡ slice_set frames place (record frame { cells = with_cell frame.cells x value })
with_variable-at frames place x value frame there = rw there refl

-- a frame whose call stays keeps the variables of its call
pub same_frame : {program : Program} {calls others : List Call} {number : ℕ → ℕ} {count place : ℕ} {frame : FrameShape}
    {made : Call} → IsFrameOf program calls number count place frame made
    → slice_get others (number place) ≡ slice_get calls (number place)
    → IsFrameOf program others number count place frame made
same_frame is same =
    record { there = same ∙ is.there; earlier = is.earlier; values = is.values; returns = is.returns }

-- setting a variable of a frame is setting it in its call
pub set_agrees : {program : Program} {calls : List Call} {number : ℕ → ℕ} {count : ℕ} {frames : List FrameShape}
    → (are : AreFramesOf program calls number count frames) (place : ℕ) (x : VarId) (value : ℤ) → place < count
    → AreFramesOf program (calls_after calls (number place) x.0 value) number count (with_variable frames place x value)
set_agrees {program} {calls} {number} {count} {frames} are place x value within =
    let inside : place < length frames = subst (λ (n : ℕ). place < n) (sym are.all) within in
    let found = is_there frames place inside in
    let of_call = are.each place found.0 found.1 in
    let made = of_call.0 in
    let changed : FrameShape = record found.0 { cells = with_cell found.0.cells x value } in
    let new_call = set_in_call made x.0 value in
    let known = slice_get_within calls (number place) made of_call.1.there in
    rw (
      with_variable-at frames place x value found.0 found.1,
      calls_after-at calls (number place) x.0 value made of_call.1.there,
    ) (record {
      all = length-set frames place changed ∙ are.all;
      rising = are.rising;
      each = λ other frame there. elim (cases_eq other place) [
        | inl same ↦
            let is_changed : changed ≡ frame = some_same changed frame (sym (get-set_same frames place changed inside)
            ∙ subst (λ (n : ℕ). slice_get (slice_set frames place changed) n ≡ Some frame) same there) in
            subst (λ (n : ℕ). (made : Call)
            × IsFrameOf program (slice_set calls (number place) new_call) number count n frame made) (sym same)
            (subst (λ (f : FrameShape). (made : Call)
            × IsFrameOf program (slice_set calls (number place) new_call) number count place f made) is_changed (
              new_call,
              record {
                there = get-set_same calls (number place) new_call known;
                earlier = of_call.1.earlier;
                values = λ y. value_in-with_cell found.0.cells x value y
                    ∙ same_values (value_in found.0.cells) made.values x.0 value y (of_call.1.values y);
                returns = of_call.1.returns;
              },
            ))
        | inr differ ↦
            let old : slice_get frames other ≡ Some frame =
            sym (get-set_other frames place other changed differ) ∙ there in
            let below : other < count =
            subst (λ (n : ℕ). other < n) are.all (slice_get_within frames other frame old) in
            let of_other = are.each other frame old in (
              of_other.0,
              same_frame of_other.1 (get-set_other calls (number place) (number other) new_call
                  (other_call are other place below within differ)),
            )
      ];
    })

-- setting a variable of a call that has no frame changes no frame
pub dead_agrees : {program : Program} {calls : List Call} {number : ℕ → ℕ} {count : ℕ} {frames : List FrameShape}
    → (are : AreFramesOf program calls number count frames) (n : ℕ) (x : ℕ) (value : ℤ) → n < length calls
    → ((k : ℕ) → k < count → number k ≢ n)
    → AreFramesOf program (calls_after calls n x value) number count frames
dead_agrees {program} {calls} {number} {count} {frames} are n x value known dead =
    let found = is_there calls n known in
    record {
      all = are.all;
      rising = are.rising;
      each = λ place frame there.
          let below : place < count =
          subst (λ (n : ℕ). place < n) are.all (slice_get_within frames place frame there) in
          let is = are.each place frame there in
          (is.0, same_frame is.1 (calls_after-other calls n x value found.0 (number place) found.1 (dead place below)));
    }

-- ---- frames that are given back and added

-- where a result goes stays where frames after the first ones are given back
goes_to_fewer : (number : ℕ → ℕ) (count fewer place caller : ℕ) (result : Option VarId) (target : Option Target)
    → fewer ≤ count → GoesTo number count place caller result target → GoesTo number fewer place caller result target
goes_to_fewer number count fewer place caller None target le goes = goes
goes_to_fewer number count fewer place caller (Some result) None le goes = λ k below. goes k (omega arith)
goes_to_fewer number count fewer place caller (Some result) (Some target) le goes = goes

pub first_agree : {program : Program} {calls : List Call} {number : ℕ → ℕ} {count : ℕ} {frames : List FrameShape}
    → AreFramesOf program calls number count frames → (fewer : ℕ) → fewer ≤ count
    → AreFramesOf program calls number fewer (take fewer frames)
first_agree {program} {calls} {number} {count} {frames} are fewer le = record {
  all = length-take-le fewer frames (subst (λ (n : ℕ). fewer ≤ n) (sym are.all) le);
  rising = λ j k before below. are.rising j k before (omega arith);
  each = λ place frame there.
      let long = length-take-le fewer frames (subst (λ (n : ℕ). fewer ≤ n) (sym are.all) le) in
      let below : place < fewer =
      subst (λ (n : ℕ). place < n) long (slice_get_within (take fewer frames) place frame there) in
      let is = are.each place frame (sym (get-take fewer frames place below) ∙ there) in (
        is.0,
        record {
          there = is.1.there;
          earlier = is.1.earlier;
          values = is.1.values;
          returns = goes_to_fewer number count fewer place is.0.caller (result_of (method_at program is.0.method))
              frame.returns le is.1.returns;
        },
      );
}

-- numbers with one more
abbrev pub numbered : (ℕ → ℕ) → ℕ → ℕ → ℕ → ℕ
numbered number count n k = if k == count then n else number k

pub numbered-below : (number : ℕ → ℕ) (count n k : ℕ) → k < count → numbered number count n k ≡ number k
numbered-below number count n k below = grind (arith, nat_tests)

pub numbered-at : (number : ℕ → ℕ) (count n : ℕ) → numbered number count n count ≡ n
numbered-at number count n = grind (arith, nat_tests)

-- where a result goes stays where a frame of a later call is added
goes_to_more : (number : ℕ → ℕ) (count n place caller : ℕ) (result : Option VarId) (target : Option Target)
    → place < count → caller < n → GoesTo number count place caller result target
    → GoesTo (numbered number count n) (count + 1) place caller result target
goes_to_more number count n place caller None target within early goes = goes
goes_to_more number count n place caller (Some result) None within early goes =
    λ k below. elim (cases_eq k count) [
      | inl same ↦ (λ is.
          let at : n ≡ caller = sym (numbered-at number count n)
          ∙ subst (λ (i : ℕ). numbered number count n i ≡ caller) same is in
          absurd (omega arith))
      | inr differ ↦
          let before : k < count = omega arith in
          (λ is. goes k before (sym (numbered-below number count n k before) ∙ is))
    ]
goes_to_more number count n place caller (Some result) (Some target) within early goes =
    let at : target.frame ≤ place = goes.1 in
    let before : target.frame < count = omega arith in
    (goes.0, goes.1, numbered-below number count n target.frame before ∙ goes.2)

-- one more call with its frame
pub added_agrees : {program : Program} {calls : List Call} {number : ℕ → ℕ} {count : ℕ} {frames : List FrameShape}
    → (are : AreFramesOf program calls number count frames) (made : Call) (frame : FrameShape)
    → made.caller < length calls → ((x : ℕ) → value_in frame.cells x ≡ made.values x)
    → GoesTo (numbered number count (length calls)) (count + 1) count made.caller
    (result_of (method_at program made.method)) frame.returns
    → AreFramesOf program (calls ++ made ∷ []) (numbered number count (length calls)) (count + 1) (frames ++ frame ∷ [])
added_agrees {program} {calls} {number} {count} {frames} are made frame early values returns =
    let more = numbered number count (length calls) in
    let known : (place : ℕ) → place < count → number place < length calls =
    λ place below.
    let found = is_there frames place (subst (λ (n : ℕ). place < n) (sym are.all) below) in
    let is = are.each place found.0 found.1 in
    slice_get_within calls (number place) is.0 is.1.there in
    record {
      all = length-append frames (frame ∷ []) ∙ ap (λ (n : ℕ). n + 1) are.all;
      rising = λ j k before below. elim (cases_eq k count) [
        | inl last ↦
            let first : j < count = omega arith in
            let is = known j first in
            let low = numbered-below number count (length calls) j first in
            let high : more k ≡ length calls =
            subst (λ (i : ℕ). more i ≡ length calls) (sym last) (numbered-at number count (length calls)) in
            omega arith
        | inr differ ↦
            let second : k < count = omega arith in
            let first : j < count = omega arith in
            let is = are.rising j k before second in
            let low = numbered-below number count (length calls) j first in
            let high = numbered-below number count (length calls) k second in
            omega arith
      ];
      each = λ place other there. elim (cases_eq place count) [
        | inl last ↦
            let same : frame ≡ other = some_same frame other (sym (get-added frames frame)
            ∙ subst (λ (n : ℕ). slice_get (frames ++ frame ∷ []) n ≡ Some other) (last ∙ sym are.all) there) in
            let number_is : more place ≡ length calls =
            subst (λ (i : ℕ). more i ≡ length calls) (sym last) (numbered-at number count (length calls)) in (
              made,
              record {
                there = ap (λ (n : ℕ). slice_get (calls ++ made ∷ []) n) number_is ∙ get-added calls made;
                earlier = omega arith;
                values = λ x. subst (λ (f : FrameShape). value_in f.cells x ≡ made.values x) same (values x);
                returns = subst (λ (f : FrameShape). GoesTo more (count + 1) place made.caller
                    (result_of (method_at program made.method)) f.returns) same
                    (subst (λ (n : ℕ). GoesTo more (count + 1) n made.caller
                    (result_of (method_at program made.method)) frame.returns) (sym last) returns);
              },
            )
        | inr differ ↦
            let long : length (frames ++ frame ∷ []) ≡ count + 1 =
            length-append frames (frame ∷ []) ∙ ap (λ (n : ℕ). n + 1) are.all in
            let inside : place < length (frames ++ frame ∷ []) =
            slice_get_within (frames ++ frame ∷ []) place other there in
            let below : place < count = omega arith in
            let short : place < length frames = subst (λ (n : ℕ). place < n) (sym are.all) below in
            let is = are.each place other (sym (get-before frames frame place short) ∙ there) in
            let same = numbered-below number count (length calls) place below in
            let is_known = known place below in
            let old = is.1.earlier in (
              is.0,
              record {
                there = ap (λ (n : ℕ). slice_get (calls ++ made ∷ []) n) same
                    ∙ (get-before calls made (number place) is_known ∙ is.1.there);
                earlier = omega arith;
                values = is.1.values;
                returns = goes_to_more number count (length calls) place is.0.caller
                    (result_of (method_at program is.0.method)) other.returns below (omega arith) is.1.returns;
              },
            )
      ];
    }
