use Rattle.std.proofs.Common.{rules, ◌≡◌, ◌<◌, ℕ, length, All, List, sym, subst}
use Rattle.std.specs.Prelude.{◌==◌, not}
use Rattle.std.proofs.lemmas.List.Elements.{All-filter}
use Rattle.child_programs.proofs.mem_spawner.MemSpawner.forget.Goals as goal

pub invariant_of-self : goal.invariant_of-self
invariant_of-self c =
    subst (λ (list : List ℕ). All (λ number. number < c.self.inside.next) list) (sym c.remove_number.ensures)
    (All-filter (λ number. not (number == c.args.child)) (λ number. number < c.self.inside.next) c.self.inside.live.items
    c.self.invariant)
