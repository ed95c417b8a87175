-- The number of what is taken goes from those of its pair.
use Rattle.std.proofs.Common.{◌∙◌, ◌<◌, ℕ, List, length, ap, sym, Vec, Global, slice_set, rules}
use Rattle.std.specs.Prelude.{remove}
use Rattle.run_rows.specs.Senders.{senders_left}
use Rattle.run_rows.proofs.SlotLists.{list_at, slot_put}
use Rattle.run_rows.proofs.senders.Senders.leave.Goals as goal

abbrev numbers_in : Vec ℕ Global → List ℕ
numbers_in numbers = numbers.items

pub returns-then-pair-len : goal.returns-then-pair-len
returns-then-pair-len c =
    let items = c.self.inside.numbers.items in
    let now = c.args.self.now in
    let less = λ (numbers : List ℕ). remove numbers c.in-Take.place in
    let within : c.place_of-pair.result < length items = search rules in
    slot_put numbers_in items c.place_of-pair.result c.index_mut.result.now c.take_out.new.numbers now less
    (sym c.self.view_is) within c.index_mut.ensures.value c.take_out.ensures
    ∙ ap (λ (place : ℕ). slice_set now place (less (list_at now place))) c.place_of-pair.ensures
    ∙ sym (ap (senders_left now) c.in-Take.is)
