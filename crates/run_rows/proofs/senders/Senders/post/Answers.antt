-- One more number stands behind those of its pair.
use Rattle.std.proofs.Common.{◌∙◌, ◌<◌, ℕ, List, [], ◌∷◌, ◌++◌, length, ap, sym, Vec, Global, slice_set, rules}
use Rattle.run_rows.proofs.SlotLists.{list_at, slot_put}
use Rattle.run_rows.proofs.senders.Senders.post.Goals as goal

abbrev numbers_in : Vec ℕ Global → List ℕ
numbers_in numbers = numbers.items

pub returns-in_ok-add : goal.returns-in_ok-add
returns-in_ok-add c =
    let items = c.self.inside.numbers.items in
    let now = c.args.self.now in
    let more = λ (numbers : List ℕ). numbers ++ c.args.number ∷ [] in
    let within : c.place_of-pair.result < length items = search rules in
    slot_put numbers_in items c.place_of-pair.result c.index_mut.result.now c.add.new.numbers now more
    (sym c.self.view_is) within c.index_mut.ensures.value c.in_ok-add.ensures
    ∙ ap (λ (place : ℕ). slice_set now place (more (list_at now place))) c.place_of-pair.ensures
