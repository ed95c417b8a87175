-- What is due behind the entries of a chain, and when they are one.
use Rattle.std.specs.Prelude.{◌≡◌, ℕ, true, List, [], ◌∷◌, ◌++◌, map, Option, Some, None}
use Rattle.std.specs.Prelude.{◌<◌}
use Rattle.std.specs.Prelude.{slice_get, ⊤}
use Rattle.js_base.specs.declared.ids.MethodId.{MethodId}
use Rattle.js_base.specs.declared.ids.SiteId.{SiteId}
use Rattle.js_base.specs.declared.ids.VarId.{VarId}
use Rattle.jif_tree.specs.LabelRules.{method_at, result_of}
use Rattle.jif_tree.specs.Trees as trees
use Rattle.jif_tree.specs.Trees.{ExprTree, Heading, done}
use Rattle.host_code.specs.Code.{halt}
use Rattle.host_code.specs.Sound.{IsEntryOn}
use Rattle.split_rules.specs.Positions as positions
use Rattle.split_rules.specs.Positions.{DueWork, Level, Entrance}
use Rattle.split_rules.specs.Positions.{is_on}
use Rattle.typed_steps.specs.Views.{Split, CallNaming, Link}

-- ---- what is due

-- something that is due, of which call
pub record Duty : Type 0 where
  pub call : ℕ
  pub due : DueWork

abbrev pub under : ℕ → List DueWork → List Duty
under call due = map (λ item. record { call = call; due = item }) due

abbrev pub due_at : Option Entrance → List DueWork
due_at None = []
due_at (Some entrance) = entrance.position.due

abbrev pub level_at : Option Entrance → Level
level_at None = positions.under 0
level_at (Some entrance) = entrance.position.level

-- what is due behind the entries of a chain
abbrev pub chain_due : Split → List Link → List Duty
chain_due split [] = []
chain_due split (link ∷ chain) =
    under link.call (due_at (slice_get split.table.entries link.entry.entry.0)) ++ chain_due split chain

-- ---- the chain of entries

-- The first entry of the chain is that behind a call, which keeps what the method gives back on the host of the entry.
pub record IsResultAwaited (split : Split) (naming : CallNaming) (method : MethodId) (call : ℕ) (chain : List Link) :
    Type 0 where
  pub top : Link
  pub below : List Link
  pub is : chain ≡ top ∷ below
  pub heading : Heading
  pub site : SiteId
  pub arguments : List ExprTree
  pub into : Option VarId
  pub others : List DueWork
  pub due : due_at (slice_get split.table.entries top.entry.entry.0)
      ≡ positions.keep (trees.call heading site method arguments into done) ∷ others
  pub caller : naming.caller call ≡ top.call
  pub method_is : naming.method call ≡ method.0
  pub on_host : is_on split.planned top.entry.token.host (trees.call heading site method arguments into done) ≡ true

-- who holds the token with which a method with a result was entered gives the result back to the first entry
abbrev pub FitsOver : Split → CallNaming → Level → ℕ → List Link → Type 0
FitsOver split naming (positions.body method) call chain = (x : VarId) →
    result_of (method_at split.planned.program method) ≡ Some x → IsResultAwaited split naming method call chain
FitsOver split naming other call chain = ⊤

-- an entry in the frame of its call
pub record IsLinked (naming : CallNaming) (link : Link) : Type 0 where
  pub frame : link.entry.frame ≡ naming.frame link.call
  pub token : link.entry.token.frame ≡ link.entry.frame
  pub known : link.call < naming.count

-- The last of them ends the program, on the root. Each of the others stands on the host of its token, and has the
-- token of the next kept with it.
abbrev pub IsChain : Split → CallNaming → List Link → Type 0
IsChain split naming [] = ⊥
IsChain split naming (link ∷ []) = (link.entry.entry ≡ halt) × (link.entry.token.host ≡ split.code.root)
IsChain split naming (link ∷ next ∷ chain) =
    IsEntryOn split.code link.entry.token.host link.entry.entry × IsLinked naming link
    × (link.entry.kept ≡ next.entry.token)
    × FitsOver split naming (level_at (slice_get split.table.entries link.entry.entry.0)) link.call (next ∷ chain)
    × IsChain split naming (next ∷ chain)
