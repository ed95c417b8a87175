-- Split programs, and what is seen of a world: the entries that are to be taken off, what is to be sent, and the calls.
--
-- A call has a frame before it is made. A frame is known from the instruction that makes it, and not from a request.
-- From then on its call has a number too. So while its arguments are being set there is one more frame than calls that
-- were made.
--
-- The invariant speaks of a view. A view has the chain of entries, each with the call that goes on behind it; what is
-- still to be sent, and of which call; the frame, the caller and the method of each call by its number; the variables
-- of calls; and the host where the result was left that is to be kept next.
use Rattle.std.specs.Prelude.{◌≡◌, ℕ, true, List, [], ◌∷◌, length, map, Some, None}
use Rattle.std.specs.Prelude.{◌<◌}
use Rattle.std.specs.Prelude.{ℤ, suc, slice_get, ◌==◌, if◌then◌else◌, ⊤}
use Rattle.std.specs.List.{AllByRecursion}
use Rattle.js_base.specs.declared.ids.HostId.{HostId}
use Rattle.js_base.specs.declared.ids.FrameId.{FrameId}
use Rattle.js_base.specs.declared.ids.VarId.{VarId}
use Rattle.jif_tree.specs.declared.program.Program.{Program}
use Rattle.jif_tree.specs.Altered.{Exposure}
use Rattle.jif_tree.specs.Results.{AreGivenBack}
use Rattle.jif_tree.specs.SourceRun.{with_value}
use Rattle.jif_tree.specs.Trees.{MethodTree, program_tree}
use Rattle.ics_stack.specs.declared.stack.StackEntry.{StackEntry}
use Rattle.host_code.specs.Code.{CodeShape}
use Rattle.host_code.specs.Sound.{IsSoundCode}
use Rattle.msg_cost.specs.Moves.{PlannedShape}
use Rattle.msg_cost.specs.Terms.{reads_on}
use Rattle.split_rules.specs.Asking.{AreGranted}
use Rattle.split_rules.specs.Pace.{Allowance}
use Rattle.split_rules.specs.Positions.{Position, Forward}
use Rattle.split_rules.specs.TypedCode.{Table, IsTypedCode}
use Rattle.typed_steps.specs.Readers.{IsFit}

-- ---- split programs

-- variables whose numbers rise
abbrev pub AreRising : List VarId → Type 0
AreRising [] = ⊤
AreRising (x ∷ others) = AllByRecursion (λ y. x.0 < y.0) others × AreRising others

-- a program with its code, what is known at each instruction of that, how many instructions may still come there, and
-- what hosts that misbehave may affect
pub record Split : Type 0 where
  pub program : Program
  pub exposure : Exposure
  pub planned : PlannedShape
  pub code : CodeShape
  pub table : Table
  pub typed : IsTypedCode planned code table
  pub sound : IsSoundCode code
  pub granted : AreGranted code
  pub is : program_tree program ≡ planned.program
  pub main_tree : MethodTree
  pub has_main : slice_get planned.program.methods planned.program.main.0 ≡ Some main_tree
  pub main_gives : main_tree.result ≡ None
  pub main_entry : code.main.0 ≡ suc planned.program.main.0
  pub bodies : (place : ℕ) (method : MethodTree) → slice_get planned.program.methods place ≡ Some method →
      IsFit code planned method.body
  pub given_back : AreGivenBack planned.program
  pub rising : (place : ℕ) (method : MethodTree) → slice_get planned.program.methods place ≡ Some method →
      AreRising method.params
  pub unread : (place : ℕ) (method : MethodTree) (x : VarId) (host : ℕ) →
      slice_get planned.program.methods place ≡ Some method → method.result ≡ Some x →
      reads_on planned x host ≡ true → ⊥
  pub many : length code.hosts ≡ length planned.hosts.hosts
  pub pace : Allowance

-- the position of an instruction of a host
abbrev pub place_of : Split → HostId → ℕ → Position
place_of split host at = split.table.at host.0 at

-- ---- calls

-- What is known of calls by their numbers, of those that were made and of one for which there is only a frame: the
-- frame of each, who made it, and its method.
pub record CallNaming : Type 0 where
  pub count : ℕ
  pub frame : ℕ → FrameId
  pub caller : ℕ → ℕ
  pub method : ℕ → ℕ

-- an entry that is still to be taken off, and the call that goes on behind it
pub record Link : Type 0 where
  pub entry : StackEntry
  pub call : ℕ

abbrev pub entries_of : List Link → List StackEntry
entries_of chain = map (λ link. link.entry) chain

-- What is seen of a world, beside its hosts and what is in flight.
pub record View : Type 0 where
  -- the entries that are still to be taken off, the next one first
  pub chain : List Link
  -- what is still to be sent, and of which call
  pub out : List Forward
  pub sender : ℕ
  pub naming : CallNaming
  -- the variables of calls
  pub values : ℕ → ℕ → ℤ
  -- where the result was left that is to be kept next
  pub keeper : HostId

-- the variables after one of a call was set
abbrev pub values_set : (ℕ → ℕ → ℤ) → ℕ → ℕ → ℤ → ℕ → ℕ → ℤ
values_set values call x value k y = if k == call then with_value (values k) x value y else values k y

abbrev pub with_chain : View → List Link → View
with_chain view chain = record view { chain = chain }

abbrev pub with_out : View → List Forward → View
with_out view out = record view { out = out }
