-- What the runs of two programs have in common.
use Rattle.std.specs.Prelude.{◌≡◌, ◌↔◌, ℕ, ℤ, List}
use Rattle.jif_tree.specs.declared.program.Program.{Program}
use Rattle.jif_tree.specs.SourceRun.{prefix, IsAtEnd, HasLength}

-- from every store, and after every number of steps
pub record RunAlike (program other : Program) : Type 0 where
  pub stores : (store : List (List ℤ)) (n : ℕ) → (prefix program store n).store ≡ (prefix other store n).store
  pub calls : (store : List (List ℤ)) (n : ℕ) → (prefix program store n).calls ≡ (prefix other store n).calls
  pub ends : (store : List (List ℤ)) (n : ℕ) → IsAtEnd (prefix program store n) ↔ IsAtEnd (prefix other store n)
  pub lengths : (store : List (List ℤ)) (n : ℕ) → HasLength program store n ↔ HasLength other store n
