use Rattle.std.proofs.Common.{◌<◌, length, rules}
use Rattle.place_reasons.specs.Search.{told_for}
use Rattle.place_reasons.proofs.Firsts.{three_found}
use Rattle.place_reasons.proofs.told.+reads.Goals as goal

pub returns-in_ok-or_index_told-in-Element : goal.returns-in_ok-or_index_told-in-Element
returns-in_ok-or_index_told-in-Element t c = λ wanted within.
    let first : wanted.0 < length c.told_in.new.found = search rules in
    let second : wanted.0 < length c.or_run_told-in-Element.new.found = search rules in
    rw c.in-Element.is (three_found (told_for c.args.found.now wanted) (told_for c.told_in.new.found wanted)
    (told_for c.or_run_told-in-Element.new.found wanted) (told_for c.or_index_told.new.found wanted) _ _ _
    ((rw c.deref.ensures at c.in_ok-told_in-in-Element.ensures) wanted within)
    (c.in_ok-or_run_told-in-Element.ensures wanted first)
    ((rw c.deref-in-Element.ensures at c.in_ok-or_index_told-in-Element.ensures) wanted second))
