use Rattle.std.proofs.Common.{rules, ◌≡◌, ◌<◌, ◌+◌, ◌⊎◌, ◌-◌, ◌^◌, ℕ, subst, sym, inl, inr, arith}
use Rattle.js_base.specs.Counts.{Rose}
use Rattle.child_programs.proofs.Counting.{rose_one}
use Rattle.child_programs.proofs.real_spawner.RealSpawner.failed.Goals as goal

pub returns-clause-cause : goal.returns-clause-cause
returns-clause-cause g c = λ _.
    let rose : Rose c.self.inside.faults c.saturating_add-self-inside.result = rose_one _ _ c.saturating_add-self-inside.ensures in
    subst (λ s. Rose s.faults c.saturating_add-self-inside.result) c.self.view_is rose
