use Rattle.std.proofs.Common.{rules, ◌≡◌, ◌<◌, ℕ, length, All, List, sym, subst}
use Rattle.std.proofs.lemmas.List.Elements.{All-push}
use Rattle.child_programs.proofs.real_spawner.RealSpawner.keep.Goals as goal

pub invariant_of-self-in_err-push-2 : goal.invariant_of-self-in_err-push-2
invariant_of-self-in_err-push-2 g c =
    subst (λ (list : List ℕ). All (λ number. number < c.self.inside.next) list) (sym c.in_err-push-2.ensures.items) c.self.invariant

pub invariant_of-self-2 : goal.invariant_of-self-2
invariant_of-self-2 g c =
    let within : c.args.number < c.self.inside.next = subst (λ s. c.args.number < s.next) (sym c.self.view_is) c.requires in
    subst (λ (list : List ℕ). All (λ number. number < c.self.inside.next) list) (sym c.in_ok-push-2.ensures.items)
    (All-push (λ number. number < c.self.inside.next) c.self.inside.live.items c.args.number c.self.invariant within)
