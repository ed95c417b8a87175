use Rattle.std.proofs.Common.{◌≤◌, length, sym, ◌∙◌, arith}
use Rattle.std.proofs.lemmas.Bool.{le-ltb}
use Rattle.label_reasons.proofs.ListableTraits.{outsider_acts}
use Rattle.label_reasons.proofs.listed_traits.acts_for.Goals as goal

pub returns-else-first-count : goal.returns-else-first-count
returns-else-first-count c =
    let count = c.count.ensures.count in
    let outside : length c.args.principals.now.names ≤ c.args.first = omega (arith, c.if-first-count.false, count) in
    le-ltb c.args.first c.count.result c.if-first-count.false
    ∙ sym (outsider_acts c.args.principals.now c.count.ensures.declared
    (λ first second. c.listing_laws.ensures.acts c.args.principals.now first second)
    (λ p. c.acts_for_laws.ensures.of_outsider c.args.principals.now p c.count.ensures.declared) c.args.first
    c.args.second c.requires.reader c.requires.declared outside)
