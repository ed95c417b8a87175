use Rattle.std.proofs.Common.{◌≡◌, ◌<◌, sym, subst, length, List, ℕ, Bool, arith}
use Rattle.net_world.specs.Flying.{Queue, IsQueueCounted, flights_with, hidden_in}
use Rattle.net_world.proofs.Counted.{taken_from}
use Rattle.net_world.proofs.flying.Queue.remove.Goals as goal

pub overflow_sub-self : goal.overflow_sub-self
overflow_sub-self c =
    let labels : List ℕ = c.self.inside.labels.items in
    let readable : List Bool = c.args.readable.now in
    let counted : c.self.inside.hidden ≡ hidden_in readable (flights_with c.self.inside.messages.items labels) =
    subst (λ (q : Queue). IsQueueCounted readable q) (sym c.self.view_is) c.requires.counted in
    let there : c.args.place < length (flights_with c.self.inside.messages.items labels) =
    subst (λ (q : Queue). c.args.place < length q.flights) (sym c.self.view_is) c.requires.there in
    let all =
    taken_from readable c.self.inside.messages.items c.remove.new.self.items labels c.remove-label.new.self.items
    c.args.place c.remove-label.result c.self.inside.hidden c.one_if_hidden.result counted c.self.invariant there
    c.remove-label.ensures.value c.remove.ensures.items c.remove-label.ensures.items c.one_if_hidden.ensures.one in
    omega arith

pub returns-clause-counted : goal.returns-clause-counted
returns-clause-counted c =
    let labels : List ℕ = c.self.inside.labels.items in
    let readable : List Bool = c.args.readable.now in
    let counted : c.self.inside.hidden ≡ hidden_in readable (flights_with c.self.inside.messages.items labels) =
    subst (λ (q : Queue). IsQueueCounted readable q) (sym c.self.view_is) c.requires.counted in
    let there : c.args.place < length (flights_with c.self.inside.messages.items labels) =
    subst (λ (q : Queue). c.args.place < length q.flights) (sym c.self.view_is) c.requires.there in
    let all =
    taken_from readable c.self.inside.messages.items c.remove.new.self.items labels c.remove-label.new.self.items
    c.args.place c.remove-label.result c.self.inside.hidden c.one_if_hidden.result counted c.self.invariant there
    c.remove-label.ensures.value c.remove.ensures.items c.remove-label.ensures.items c.one_if_hidden.ensures.one in
    omega arith
