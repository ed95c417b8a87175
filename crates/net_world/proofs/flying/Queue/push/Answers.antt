use Rattle.std.proofs.Common.{rules, ◌≡◌, ◌≤◌, ◌++◌, ◌∷◌, [], ◌∙◌, sym, ap, subst, length, List, ℕ, Bool, true, arith}
use Rattle.std.specs.Prelude.{if◌then◌else◌}
use Rattle.std.specs.Result.{is_ok}
use Rattle.host_code.specs.declared.message.Message.{Message}
use Rattle.net_world.specs.Flying.{Flight, Queue, IsQueueCounted, flights_with, hidden_in}
use Rattle.net_world.proofs.Counted.{hidden_few, hidden_push}
use Rattle.net_world.proofs.Flights.{flights_push, length_flights}
use Rattle.net_world.proofs.flying.Queue.push.Goals as goal

pub overflow_add-self : goal.overflow_add-self
overflow_add-self c =
    let readable : List Bool = c.args.readable.now in
    let messages : List Message = c.self.inside.messages.items in
    let flights : List Flight = flights_with messages c.self.inside.labels.items in
    let counted : c.self.inside.hidden ≡ hidden_in readable flights =
    subst (λ (q : Queue). IsQueueCounted readable q) (sym c.self.view_is) c.requires.counted in
    let few : hidden_in readable flights ≤ length flights = hidden_few readable flights in
    let long : length flights ≡ length messages =
    length_flights messages c.self.inside.labels.items c.self.invariant in
    let one = c.one_if_hidden.ensures.few in
    let most = c.push-pushed.ensures.upper_bound in
    search rules

pub returns-clause-counted : goal.returns-clause-counted
returns-clause-counted c =
    let readable : List Bool = c.args.readable.now in
    let messages : List Message = c.self.inside.messages.items in
    let labels : List ℕ = c.self.inside.labels.items in
    let message : Message = c.args.message.now in
    let label : ℕ = c.args.label in
    let counted : c.self.inside.hidden ≡ hidden_in readable (flights_with messages labels) =
    subst (λ (q : Queue). IsQueueCounted readable q) (sym c.self.view_is) c.requires.counted in
    let ok : is_ok c.push-pushed.result ≡ true = sym c.is_ok.ensures.value ∙ c.if-prove.false in
    let ok_too : is_ok c.push-labelled.result ≡ true = sym c.is_ok-2.ensures.value ∙ c.if-prove-2.false in
    let pushed : c.push-pushed.new.self.items ≡ messages ++ message ∷ [] =
    c.push-pushed.ensures.items
    ∙ ap (λ (b : Bool). if b then messages ++ message ∷ [] else messages) ok in
    let labelled : c.push-labelled.new.self.items ≡ labels ++ label ∷ [] =
    c.push-labelled.ensures.items ∙ ap (λ (b : Bool). if b then labels ++ label ∷ [] else labels) ok_too in
    let now : flights_with c.push-pushed.new.self.items c.push-labelled.new.self.items
    ≡ flights_with messages labels ++ record { message = message; label = label } ∷ [] =
    ap (λ (m : List Message). flights_with m c.push-labelled.new.self.items) pushed
    ∙ ap (λ (l : List ℕ). flights_with (messages ++ message ∷ []) l) labelled
    ∙ flights_push messages labels message label c.self.invariant in
    let all = ap (hidden_in readable) now in
    let more = hidden_push readable (flights_with messages labels) (record { message = message; label = label }) in
    let one = c.one_if_hidden.ensures.one in
    omega arith
