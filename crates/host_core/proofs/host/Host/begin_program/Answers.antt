-- The entry that ends the program is there.
use Rattle.std.proofs.Common.{◌<◌, ℕ, length, ap, ◌∙◌, sym, subst}
use Rattle.ics_stack.specs.Stack.{StackShape}
use Rattle.host_core.specs.Host.{HostModel}
use Rattle.host_core.proofs.CodeFacts.{halt_there}
use Rattle.host_core.proofs.host.Host.begin_program.Goals as goal

pub push_entry-token-requires-clause-entry : goal.push_entry-token-requires-clause-entry
push_entry-token-requires-clause-entry c =
    let same = ap (λ (s : StackShape). length s.serials) c.in_ok-reserve.ensures.same in
    let before = ap (λ (m : HostModel). length m.stack.serials) c.self.view_is in
    subst (λ (n : ℕ). 0 < n) (sym (same ∙ before ∙ c.requires.serials))
    (halt_there c.args.code.now c.main-main.ensures.sound)
