-- What each instruction asks of the shade of its place, and what is ahead behind it. The laws speak of one instruction
-- and of the entries that it names.
use Rattle.std.specs.Prelude.{◌≡◌, ◌⊎◌, ℕ, suc, Bool, true, false, List, [], ◌∷◌, ◌++◌, map, length, Option, Some, None}
use Rattle.std.specs.Prelude.{IfSome, slice_get}
use Rattle.std.specs.List.{AllByRecursion}
use Rattle.js_base.specs.declared.ids.HostId.{HostId}
use Rattle.js_base.specs.declared.ids.FieldId.{FieldId}
use Rattle.js_base.specs.declared.ids.VarId.{VarId}
use Rattle.js_base.specs.declared.ids.MethodId.{MethodId}
use Rattle.label_lattice.specs.declared.label.Label.{Label}
use Rattle.label_lattice.specs.Label.{ConfFlows}
use Rattle.jif_tree.specs.Trees.{ExprTree, MethodTree, ProgramTree}
use Rattle.jif_tree.specs.LabelRules.{field_label, begin_label, method_at}
use Rattle.host_code.specs.declared.code_expr.Node.{Node}
use Rattle.host_code.specs.declared.instruction.Op.{Op}
use Rattle.host_code.specs.declared.instruction.Op.TheVariants as op
use Rattle.need_labels.specs.Needs.{label_of}
use Rattle.need_labels.specs.Plan.{field_host}
use Rattle.msg_cost.specs.Moves.{PlannedShape}
use Rattle.split_rules.specs.Emissions.{Emission, Emitted, instruction, entry, stands, lands}
use Rattle.split_rules.specs.Expressions.{reads_in, nodes_of, released_by}
use Rattle.split_rules.specs.Positions.{Level, body, under, field_reads}
use Rattle.split_shades.specs.Basis.{Basis, value_label, read_label}
use Rattle.split_shades.specs.Flows.{IsSeenOn, ValueFlows}
use Rattle.split_shades.specs.Shades.{Shade, EntryShade, Ahead, calm_ahead, MeetsShade, ahead_of}
use Rattle.split_shades.specs.Shades.{level_entry}
use Rattle.split_shades.specs.Steps.{AreSteps}

-- ---- what is given

-- a program with its labels and its plan, the program labels of its calls by their sites, and whether it may release
pub record Scene : Type 0 where
  pub basis : Basis
  pub planned : PlannedShape
  pub sites : List Label
  pub may_release : Bool

-- what the temporaries tell that hold what a value reads
abbrev pub reads_tell : Scene → Label → ExprTree → List Label
reads_tell scene pc value = map (read_label scene.basis pc) (field_reads value)

-- ---- levels

-- The token of a level is of an entry with this label.
abbrev pub IsLevelOf : List EntryShade → Level → Label → Type 0
IsLevelOf entries level label =
    (it : EntryShade) × (slice_get entries (level_entry level) ≡ Some it) × (it.label ≡ label)

-- a program label flows to that of the entry whose token is held
abbrev pub IsBelow : List EntryShade → Level → Label → Type 0
IsBelow entries level block = (label : Label) × IsLevelOf entries level label × ConfFlows block label

-- ---- values

-- the nodes of a value over all temporaries, which hold what it reads
pub record IsValueInShade (scene : Scene) (here : Shade) (value : ExprTree) (nodes : List Node) : Type 0 where
  pub temps : here.temps ≡ reads_tell scene here.pc value
  pub nodes_are : nodes ≡ nodes_of 0 value
  pub releases : here.released ≡ released_by 0 value

-- a value is kept under a label
pub record KeepsInShade (scene : Scene) (here : Shade) (nodes : List Node) (label : Label) : Type 0 where
  pub value : ExprTree
  pub is_value : IsValueInShade scene here value nodes
  pub flows : ValueFlows scene.basis scene.planned here.pc value label

-- an element is read by an index over the last temporaries
pub record ReadsInShade (scene : Scene) (here : Shade) (field : FieldId) (nodes : List Node) (next : Ahead) : Type 0
  where
    pub index : ExprTree
    pub before : List Label
    pub temps : here.temps ≡ before ++ reads_tell scene here.pc index
    pub nodes_are : nodes ≡ nodes_of (length before) index
    pub releases : here.released ≡ released_by (length before) index
    pub told : IsSeenOn scene.planned (field_host scene.planned.plan field) here.pc
    pub index_told : IsSeenOn scene.planned (field_host scene.planned.plan field)
        (value_label scene.basis here.pc index)
    pub goes : next ≡ record {
      level = here.level;
      block = here.block;
      temps = here.temps ++ read_label scene.basis here.pc (record { field = field; index = index }) ∷ [];
      calls = here.calls;
      begun = Some (record { pc = here.pc; guard = here.guard });
    }

-- the index is over the first temporaries, and the value over those behind them
pub record StoresInShade (scene : Scene) (here : Shade) (field : FieldId) (at nodes : List Node) : Type 0 where
  pub index : ExprTree
  pub value : ExprTree
  pub temps : here.temps ≡ reads_tell scene here.pc index ++ reads_tell scene here.pc value
  pub index_is : at ≡ nodes_of 0 index
  pub nodes_are : nodes ≡ nodes_of (reads_in index) value
  pub releases : here.released ≡ released_by 0 index ++ released_by (reads_in index) value
  pub index_flows : ValueFlows scene.basis scene.planned here.pc index (field_label scene.basis.labelled.program field)
  pub flows : ValueFlows scene.basis scene.planned here.pc value (field_label scene.basis.labelled.program field)
  pub told : IsSeenOn scene.planned (field_host scene.planned.plan field) here.pc

-- Nothing was read, and nothing is released.
abbrev pub IsPlain : Shade → Type 0
IsPlain here = (here.temps ≡ []) × (here.released ≡ [])

-- Under a program label a host may be told the value of a variable: the program label flows to the variable, which the
-- host may see.
abbrev pub MayTell : Scene → Label → VarId → HostId → Type 0
MayTell scene pc x to =
    ConfFlows pc (label_of scene.basis.labelled x) × IsSeenOn scene.planned to (label_of scene.basis.labelled x)

-- a variable is sent to a host
abbrev pub SendsInShade : Scene → Shade → VarId → HostId → Type 0
SendsInShade scene here x to = IsPlain here × (here.guard ≡ None) × MayTell scene here.pc x to

-- ---- pushes

-- An entry is pushed by instructions of one program label. It stands in the block of the instruction that pushes it,
-- and under the same token.
pub record NamesInShade (entries : List EntryShade) (here : Shade) (number : ℕ) : Type 0 where
  pub it : EntryShade
  pub is : slice_get entries number ≡ Some it
  pub level : it.level ≡ here.level
  pub block : it.block ≡ here.block
  pub pushed : it.pushed ≡ Some here.pc

-- Behind the push of an entry its token is held. Behind a guard a loop pushes the entry that stands there, and its body
-- has the program label of the guard.
abbrev pub PushesAt : Option ℕ → List EntryShade → Shade → ℕ → Ahead → Type 0
PushesAt None entries here number next =
    NamesInShade entries here number × (next ≡ calm_ahead (under number) here.block)
PushesAt (Some guard) entries here number next =
    (names : NamesInShade entries here number)
    × (names.it.begun ≡ Some (record { pc = here.pc; guard = Some guard }))
    × (next ≡ calm_ahead (under number) here.pc)

-- The entry behind a call is pushed by a host that may see the begin label of the method, with whose token it then goes
-- on until the method is entered.
pub record PushesCallInShade (scene : Scene) (entries : List EntryShade) (me : HostId) (here : Shade) (number : ℕ)
    (next : Ahead) : Type 0 where
  pub names : NamesInShade entries here number
  pub method : MethodId
  pub begin : Label
  pub is_begin : IsLevelOf entries (body method) begin
  pub sees : IsSeenOn scene.planned me begin
  pub no_guard : here.guard ≡ None
  pub goes : next ≡ record { level = body method; block = here.block; temps = []; calls = true; begun = None }

abbrev pub PushesInShade : Scene → List EntryShade → HostId → Bool → Shade → ℕ → Ahead → Type 0
PushesInShade scene entries me false here number next = PushesAt here.guard entries here number next
PushesInShade scene entries me true here number next = PushesCallInShade scene entries me here number next

-- ---- instructions

-- what is ahead behind a statement of the block, or behind a part of a call
abbrev pub behind : Shade → Bool → Ahead
behind here calls =
    record { level = here.level; block = here.block; temps = []; calls = calls; begun = None }

-- An instruction of a host behind which the host goes on.
abbrev pub FollowsInShade : Scene → List EntryShade → HostId → Shade → Op → Ahead → Type 0
FollowsInShade scene entries me here (op.Read field index) next = ReadsInShade scene here field index next
FollowsInShade scene entries me here (op.Let x value) next =
    (here.calls ≡ false) × (here.guard ≡ None) × KeepsInShade scene here value (label_of scene.basis.labelled x)
    × (next ≡ behind here false)
FollowsInShade scene entries me here (op.Put field index value) next =
    (here.calls ≡ false) × (here.guard ≡ None) × StoresInShade scene here field index value × (next ≡ behind here false)
FollowsInShade scene entries me here (op.Send x to) next =
    (here.calls ≡ false) × SendsInShade scene here x to × (next ≡ behind here false)
FollowsInShade scene entries me here (op.Frame site) next =
    (here.calls ≡ false) × (here.guard ≡ None) × IsPlain here × (slice_get scene.sites site.0 ≡ Some here.pc)
    × (next ≡ behind here true)
FollowsInShade scene entries me here (op.Arg x value) next =
    (here.calls ≡ true) × (here.guard ≡ None) × KeepsInShade scene here value (label_of scene.basis.labelled x)
    × (next ≡ behind here true)
FollowsInShade scene entries me here (op.Pass x to) next =
    (here.calls ≡ true) × SendsInShade scene here x to × (next ≡ behind here true)
FollowsInShade scene entries me here (op.Push there) next =
    IsPlain here × PushesInShade scene entries me here.calls here there.0 next
FollowsInShade scene entries me here (op.Ask there on) next =
    IsPlain here × (here.calls ≡ false) × (here.guard ≡ None) × PushesAt None entries here there.0 next
    × IsSeenOn scene.planned on here.pc
FollowsInShade scene entries me here (op.Ret x value) next =
    (here.calls ≡ false) × (here.guard ≡ None) × KeepsInShade scene here value (label_of scene.basis.labelled x)
    × (next ≡ behind here false)
FollowsInShade scene entries me here other next = ⊥

-- A branch goes on at the next place where its guard holds, and otherwise at its target. Both blocks of a branch have
-- the program label to which its guard flows. The guard of a loop flows to its own program label.
abbrev pub DividesInShade : Scene → Shade → List Node → Option ℕ → Ahead → Ahead → Type 0
DividesInShade scene here nodes None next target =
    KeepsInShade scene here nodes next.block × (next ≡ calm_ahead here.level next.block) × (target ≡ next)
DividesInShade scene here nodes (Some guard) next target =
    KeepsInShade scene here nodes here.pc × (next ≡ record {
      level = here.level;
      block = here.block;
      temps = [];
      calls = false;
      begun = Some (record { pc = here.pc; guard = Some guard });
    }) × (target ≡ calm_ahead here.level here.block)

-- An entry is gone to that stands in the same block, under the same token.
pub record HandsOn (entries : List EntryShade) (here : Shade) (number : ℕ) : Type 0 where
  pub it : EntryShade
  pub is : slice_get entries number ≡ Some it
  pub level : it.level ≡ here.level
  pub block : it.block ≡ here.block

-- A method is entered with whose token it goes on since the push of what is behind the call.
pub record EntersInShade (entries : List EntryShade) (here : Shade) (number : ℕ) : Type 0 where
  pub method : MethodId
  pub is_level : here.level ≡ body method
  pub is_number : number ≡ level_entry (body method)
  pub it : EntryShade
  pub is : slice_get entries number ≡ Some it
  pub level : it.level ≡ body method
  pub block : it.block ≡ it.label
  pub below : ConfFlows here.block it.block

-- The thread goes on at an entry of the block on a host that may see the program label.
abbrev pub GoesToInShade : Scene → List EntryShade → Shade → ℕ → HostId → Type 0
GoesToInShade scene entries here number on =
    IsPlain here × (here.calls ≡ false) × (here.guard ≡ None) × HandsOn entries here number
    × IsSeenOn scene.planned on here.pc

-- A method is called on such a host.
abbrev pub CallsOn : Scene → List EntryShade → Shade → ℕ → HostId → Type 0
CallsOn scene entries here number on =
    IsPlain here × (here.calls ≡ true) × (here.guard ≡ None) × EntersInShade entries here number
    × IsSeenOn scene.planned on here.pc

-- The values of these variables ride to a host.
abbrev pub Rides : Scene → Shade → List VarId → HostId → Type 0
Rides scene here riders on = AllByRecursion (λ x. MayTell scene here.pc x on) riders

-- An instruction behind which the thread ends.
abbrev pub EndsInShade : Scene → List EntryShade → Shade → Op → Type 0
EndsInShade scene entries here (op.Go there on) = GoesToInShade scene entries here there.0 on
EndsInShade scene entries here (op.Call there on) = CallsOn scene entries here there.0 on
EndsInShade scene entries here (op.GoWith there on riders) =
    GoesToInShade scene entries here there.0 on × Rides scene here riders on
EndsInShade scene entries here (op.CallWith there on riders) =
    CallsOn scene entries here there.0 on × Rides scene here riders on
EndsInShade scene entries here op.Back = IsPlain here × (here.calls ≡ false) × (here.guard ≡ None)
EndsInShade scene entries here other = ⊥

-- ---- each place

-- outside of guards an instruction has the program label of its block, and in one that of the loop
abbrev pub IsUnderBlock : Option ℕ → Label → Label → Type 0
IsUnderBlock None block pc = pc ≡ block
IsUnderBlock (Some guard) block pc = ConfFlows block pc

pub record IsShade (scene : Scene) (entries : List EntryShade) (here : Shade) : Type 0 where
  pub under_block : IsUnderBlock here.guard here.block here.pc
  pub below : IsBelow entries here.level here.block
  pub silent : scene.may_release ≡ false → here.released ≡ []

-- Whose token is held where an entry stands, the block there and who pushes it, all flow to its label, which its host
-- may see where it is pushed.
pub record IsEntryShade (scene : Scene) (entries : List EntryShade) (host : HostId) (it : EntryShade) : Type 0 where
  pub level : (label : Label) × IsLevelOf entries it.level label × ConfFlows it.block label × ConfFlows label it.label
  pub pushed : IfSome it.pushed (λ pc. ConfFlows pc it.label)
  pub seen : IsSeenOn scene.planned host it.label

-- ---- emissions

-- Where a walk goes on.
pub data ShadePlace : Type 0 where
  nowhere : ShadePlace
  here : HostId → Ahead → ShadePlace

-- what is known at a place of a walk: the entries so far, by their numbers, and what is ahead where branches lead
pub record ShadeKnown : Type 0 where
  pub place : ShadePlace
  pub entries : List EntryShade
  pub branches : List Ahead

abbrev pub known_at : ShadePlace → List EntryShade → List Ahead → ShadeKnown
known_at place entries branches = record { place = place; entries = entries; branches = branches }

abbrev pub with_place : ShadeKnown → ShadePlace → ShadeKnown
with_place known place = known_at place known.entries known.branches

abbrev pub ShadedOp : Scene → ShadeKnown → HostId → Shade → Op → ShadeKnown → Type 0
ShadedOp scene known me shade (op.Branch guard number) after =
    (next : Ahead) × (target : Ahead) × (number ≡ length known.branches) × (shade.calls ≡ false)
    × IfSome shade.guard (λ own. own ≡ number)
    × DividesInShade scene shade guard shade.guard next target
    × (after ≡ known_at (here me next) known.entries (known.branches ++ target ∷ []))
ShadedOp scene known me shade (op.Go there on) after =
    EndsInShade scene known.entries shade (op.Go there on) × (after ≡ with_place known nowhere)
ShadedOp scene known me shade (op.Call there on) after =
    EndsInShade scene known.entries shade (op.Call there on) × (after ≡ with_place known nowhere)
ShadedOp scene known me shade (op.GoWith there on riders) after =
    EndsInShade scene known.entries shade (op.GoWith there on riders) × (after ≡ with_place known nowhere)
ShadedOp scene known me shade (op.CallWith there on riders) after =
    EndsInShade scene known.entries shade (op.CallWith there on riders) × (after ≡ with_place known nowhere)
ShadedOp scene known me shade op.Back after =
    EndsInShade scene known.entries shade op.Back × (after ≡ with_place known nowhere)
ShadedOp scene known me shade other after =
    (next : Ahead) × FollowsInShade scene known.entries me shade other next × (after ≡ with_place known (here me next))

-- the shade of the place of an instruction
pub record IsShaded (scene : Scene) (known : ShadeKnown) (one : Emitted) (after : ShadeKnown) : Type 0 where
  pub shade : Shade
  pub ahead : Ahead
  pub is_here : known.place ≡ here one.host ahead
  pub meets : MeetsShade ahead shade
  pub label_is : shade.pc ≡ one.label
  pub released_is : shade.released ≡ one.released
  pub is_shade : IsShade scene known.entries shade
  -- the guard of a loop is evaluated only where that was known ahead
  pub guarded : IfSome shade.guard (λ own. ahead.begun ≡ Some (record { pc = shade.pc; guard = Some own }))
  pub law : ShadedOp scene known one.host shade one.op after

-- Where an entry stands a statement may begin, or the guard of its loop, whose branch has then the next number.
abbrev pub no_begun : Ahead → Ahead
no_begun ahead = record {
  level = ahead.level;
  block = ahead.block;
  temps = ahead.temps;
  calls = ahead.calls;
  begun = None;
}

abbrev pub Shaded : Scene → ShadeKnown → Emission → ShadeKnown → Type 0
Shaded scene known (instruction one) after = IsShaded scene known one after
Shaded scene known (entry named) after =
    (own : EntryShade) × (own.label ≡ named.label) × IsEntryShade scene known.entries named.host own
    × (after ≡ known_at known.place (known.entries ++ own ∷ []) known.branches)
Shaded scene known (stands host number) after =
    (own : EntryShade) × (slice_get known.entries number ≡ Some own)
    × (((known.place ≡ nowhere) × (own.begun ≡ None))
    ⊎ ((known.place ≡ here host (no_begun (ahead_of own)))
    × IfSome own.begun (λ begun. begun.guard ≡ Some (length known.branches))))
    × (after ≡ with_place known (here host (ahead_of own)))
Shaded scene known (lands host number) after =
    (target : Ahead) × (slice_get known.branches number ≡ Some target)
    × ((known.place ≡ nowhere) × (target.begun ≡ None)) × (after ≡ with_place known (here host target))

-- emissions from one place of a walk to another
abbrev pub AreShaded : Scene → ShadeKnown → List Emission → ShadeKnown → Type 0
AreShaded scene first emissions last = AreSteps (Shaded scene) first emissions last

-- ---- programs

-- the entry of a method, where its body begins with the token with which it was entered
abbrev pub method_shade : ℕ → MethodTree → EntryShade
method_shade number method = record {
  level = body (record { 0 = number });
  block = method.begin;
  label = method.begin;
  pushed = None;
  begun = None;
}

-- those of methods of which the first has this number
abbrev pub method_shades : ℕ → List MethodTree → List EntryShade
method_shades number [] = []
method_shades number (method ∷ methods) = method_shade number method ∷ method_shades (suc number) methods

-- the entry that ends the program has the begin label of `main`
abbrev pub halt_shade : ProgramTree → EntryShade
halt_shade program =
    let begin = begin_label (method_at program program.main) in
    record { level = body program.main; block = begin; label = begin; pushed = None; begun = None }

-- what is known of all entries before the bodies of the methods
abbrev pub shades_start : ProgramTree → ShadeKnown
shades_start program = record {
  place = nowhere;
  entries = halt_shade program ∷ method_shades 0 program.methods;
  branches = [];
}
