-- What becomes of a draft: a program, or one refusal.
use Rattle.std.specs.Prelude.{◌≡◌, ◌<◌, ◌⊎◌, List, [], All, Contains, None}
use Rattle.principals.specs.ActsFor.{Declared}
use Rattle.jif_tree.specs.Trees.{ProgramTree}
use Rattle.jif_grammar.specs.DraftShapes.{DraftShape}
use Rattle.jif_resolve.specs.declared.fault.Fault.{Fault}
use Rattle.jif_resolve.specs.First.{rank}
use Rattle.jif_resolve.specs.Faults.{faults_of}
use Rattle.jif_resolve.specs.Meanings.{main_of}
use Rattle.jif_resolve.specs.Resolved.{IsTreeOf}

-- the one at the earlier token comes first, and at one token the one of the lower rank
abbrev pub ComesBefore : Fault → Fault → Type 0
ComesBefore first second = (first.at < second.at) ⊎ ((first.at ≡ second.at) × (rank first.kind < rank second.kind))

-- one of the faults, before which none of the others comes
pub record IsFirst (faults : List Fault) (fault : Fault) : Type 0 where
  pub among : Contains faults fault
  pub none_before : All (λ other. ¬ ComesBefore other fault) faults

pub data Refusal : Type 0 where
  for_fault : Fault → Refusal
  no_main : Refusal

-- that there is no `main` counts only where there is no fault
abbrev pub IsRefused : Declared → DraftShape → Refusal → Type 0
IsRefused principals draft (for_fault fault) = IsFirst (faults_of principals draft) fault
IsRefused principals draft no_main = (faults_of principals draft ≡ []) × (main_of draft ≡ None)

-- a draft without faults, and its program
pub record IsProgramOf (principals : Declared) (draft : DraftShape) (tree : ProgramTree) : Type 0 where
  pub no_faults : faults_of principals draft ≡ []
  pub is_tree : IsTreeOf principals draft tree
