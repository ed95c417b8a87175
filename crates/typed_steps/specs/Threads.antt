-- What is still to be done, and where the thread stands that does it.
use Rattle.std.specs.Prelude.{◌≡◌, ℕ, ◌⊎◌, true, List, [], ◌∷◌, ◌++◌, length, map, Option, Some}
use Rattle.std.specs.Prelude.{◌<◌}
use Rattle.std.specs.Prelude.{ℤ, suc, ⊤}
use Rattle.std.specs.List.{AllByRecursion, AllZip}
use Rattle.js_base.specs.declared.ids.HostId.{HostId}
use Rattle.js_base.specs.declared.ids.FrameId.{FrameId}
use Rattle.js_base.specs.declared.ids.MethodId.{MethodId}
use Rattle.js_base.specs.declared.ids.SiteId.{SiteId}
use Rattle.js_base.specs.declared.ids.VarId.{VarId}
use Rattle.jif_tree.specs.declared.program.Stmt.{Stmt}
use Rattle.jif_tree.specs.declared.program.StmtKind.{StmtKind}
use Rattle.jif_tree.specs.declared.program.StmtKind as kind
use Rattle.jif_tree.specs.LabelRules.{method_at, params_of, result_of}
use Rattle.jif_tree.specs.SourceRun as source
use Rattle.jif_tree.specs.SourceRun.{Configuration}
use Rattle.jif_tree.specs.Trees as trees
use Rattle.jif_tree.specs.Trees.{BlockTree, ExprTree, Heading, done, statement_tree, head_of}
use Rattle.ics_stack.specs.Stack.{top_token}
use Rattle.host_code.specs.Code.{variable_at}
use Rattle.host_code.specs.Thread.{ThreadShape}
use Rattle.host_core.specs.Turn.{MayReturn}
use Rattle.split_rules.specs.Positions as positions
use Rattle.split_rules.specs.Positions.{IsStatementOfMethod}
use Rattle.split_rules.specs.Positions.{DueWork, Argument, Calling, no_call, arguing}
use Rattle.split_rules.specs.Positions.{entering, arguments_of, is_on}
use Rattle.typed_steps.specs.Readers.{IsFit}
use Rattle.typed_steps.specs.Values.{MayTree, MayHold}
use Rattle.typed_steps.specs.Views.{Split, place_of, CallNaming, entries_of, View}
use Rattle.typed_steps.specs.Chains.{Duty, under, chain_due, FitsOver}

-- ---- what is still to be done

-- a statement with nothing behind it
abbrev pub alone : Stmt → BlockTree
alone statement = statement_tree statement.kind (head_of statement) done

pub data Owed : Type 0 where
  -- a statement of a call
  to_run : ℕ → Stmt → Owed
  -- a call was made by a statement, and its result is to be kept
  to_keep : ℕ → Stmt → VarId → VarId → Owed

abbrev pub item_of : Owed → source.Item
item_of (to_run call statement) = source.run call statement
item_of (to_keep call statement into result) = source.keep call into result

abbrev pub duty_of : Owed → Duty
duty_of (to_run call statement) = record { call = call; due = positions.run (alone statement) }
duty_of (to_keep call statement into result) = record { call = call; due = positions.keep (alone statement) }

-- a statement that calls a method with a result, which it keeps, and which its host may see
pub record IsKeeping (split : Split) (statement : Stmt) (into result : VarId) : Type 0 where
  pub site : SiteId
  pub method : MethodId
  pub arguments : List ExprTree
  pub is : alone statement
      ≡ trees.call (head_of statement) site method arguments (Some into) done
  pub result_is : result_of (method_at split.planned.program method) ≡ Some result
  pub sees : (host : HostId) → is_on split.planned host (alone statement) ≡ true →
      MayReturn split.code (variable_at split.code result) host

abbrev pub IsKnownWork : Split → Owed → Type 0
IsKnownWork split (to_run call statement) = IsFit split.code split.planned (alone statement)
IsKnownWork split (to_keep call statement into result) = IsKeeping split statement into result

abbrev pub IsReturn : StmtKind → Type 0
IsReturn (kind.Return value) = ⊤
IsReturn other = ⊥

abbrev pub Returns : Owed → Type 0
Returns (to_run call statement) = IsReturn statement.kind
Returns other = ⊥

-- a statement of a method with this result
abbrev pub IsOfMethodWith : Split → Owed → VarId → Type 0
IsOfMethodWith split (to_run call statement) result =
    (method : MethodId) × IsStatementOfMethod split.planned.program method (alone statement)
    × (result_of (method_at split.planned.program method) ≡ Some result)
IsOfMethodWith split other result = ⊥

-- a result is kept only right behind where the method that has it gives it back
abbrev pub MayFollow : Split → Owed → List Owed → Type 0
MayFollow split before (to_keep call statement into result ∷ others) = Returns before
    × IsOfMethodWith split before result
MayFollow split before others = ⊤

abbrev pub AreReturned : Split → List Owed → Type 0
AreReturned split [] = ⊤
AreReturned split (first ∷ others) = MayFollow split first others × AreReturned split others

-- where a result is to be kept next it is on the host of the call
abbrev pub ResultStandsOn : Split → HostId → List Owed → Type 0
ResultStandsOn split keeper (to_keep call statement into result ∷ others) =
    is_on split.planned keeper (alone statement) ≡ true
ResultStandsOn split keeper others = ⊤

-- these are due, and are what is still to be done
pub record IsLeft (split : Split) (c : Configuration) (keeper : HostId) (all : List Duty) : Type 0 where
  pub left : List Owed
  pub pending : c.pending ≡ map item_of left
  pub due : all ≡ map duty_of left
  pub known : AllByRecursion (IsKnownWork split) left
  pub returned : AreReturned split left
  pub stands : ResultStandsOn split keeper left

-- no result is to be kept next
abbrev pub NoneKept : Configuration → Type 0
NoneKept c = (call : ℕ) (into result : VarId) (behind : List source.Item) →
    c.pending ≡ source.keep call into result ∷ behind → ⊥

-- ---- the thread

-- There is a new frame for a call, which a statement makes that is due first. Some parameters were set in it, and the
-- others are still to be set.
pub record IsArguing (split : Split) (c : Configuration) (naming : CallNaming) (values : ℕ → ℕ → ℤ) (sender : ℕ)
    (host : HostId) (frame new_frame : FrameId) (call : ℕ) (due : List DueWork) (statement : BlockTree)
    (set left : List Argument) : Type 0 where
  pub count : naming.count ≡ suc (length c.calls)
  pub frame_is : frame ≡ naming.frame call
  pub new_frame_is : new_frame ≡ naming.frame (length c.calls)
  pub sender_is : sender ≡ length c.calls
  pub caller : naming.caller (length c.calls) ≡ call
  pub others : List DueWork
  pub due_first : due ≡ positions.run statement ∷ others
  pub on_host : is_on split.planned host statement ≡ true
  pub heading : Heading
  pub site : SiteId
  pub method : MethodId
  pub arguments : List ExprTree
  pub into : Option VarId
  pub is : statement ≡ trees.call heading site method arguments into done
  pub method_is : naming.method (length c.calls) ≡ method.0
  pub parts : arguments_of (params_of (method_at split.planned.program method)) arguments ≡ set ++ left
  -- what the arguments of the parameters that are set have given
  pub given : List ℤ
  pub gives : AllZip (λ (one : Argument). MayTree split.exposure c.store (source.variable c.calls call) one.value) set
      given
  pub passed : (x : ℕ) → values (length c.calls) x ≡ source.passed (map (λ one. one.param) set) given x

-- in which frame a thread acts for a call
abbrev pub IsCalling : Split → Configuration → CallNaming → (ℕ → ℕ → ℤ) → ℕ → HostId → FrameId → FrameId → ℕ →
    List DueWork →
    Calling → Type 0
IsCalling split c naming values sender host frame new_frame call due no_call =
    (naming.count ≡ length c.calls) × (frame ≡ naming.frame call) × (sender ≡ call)
IsCalling split c naming values sender host frame new_frame call due (arguing statement set left) =
    IsArguing split c naming values sender host frame new_frame call due statement set left
IsCalling split c naming values sender host frame new_frame call due (entering statement) =
    (naming.count ≡ length c.calls) × (new_frame ≡ naming.frame call) × (sender ≡ call)

-- A thread, which holds the token of the first entry of the chain, goes on for a call at an instruction of a host. What
-- is due there, and behind the chain, is what is still to be done. Its temporaries hold what was read, and these
-- variables are still to be sent.
pub record IsAt (split : Split) (c : Configuration) (view : View) (host : HostId) (thread : ThreadShape) : Type 0 where
  pub call : ℕ
  pub made : call < length c.calls
  pub held : thread.held ≡ top_token (entries_of view.chain)
  pub left : IsLeft split c view.keeper
      (under call (place_of split host thread.at).due ++ chain_due split view.chain)
  pub fits : FitsOver split view.naming (place_of split host thread.at).level call view.chain
  pub calling : IsCalling split c view.naming view.values view.sender host thread.frame thread.new_frame call
      (place_of split host thread.at).due (place_of split host thread.at).calling
  pub forwards : (place_of split host thread.at).forwards ≡ view.out
  pub settled : (view.out ≡ []) ⊎ NoneKept c
  pub temporaries : AllZip (MayHold split.exposure c.store (source.variable c.calls call))
      (place_of split host thread.at).reads thread.temporaries
