use Rattle.jif_tree.specs.Trees.{program_tree}
use Rattle.label_reasons.specs.declared.reason.Trait.TheVariants.{Distrusts}
use Rattle.label_reasons.specs.Reasons.{fails_in, constraint_of}
use Rattle.label_reasons.proofs.FoundReasons.{listed_traits, is_told}
use Rattle.label_reasons.proofs.refusal.label_refusal.Goals as goal

pub reasons_of-requires-clause-held : goal.reasons_of-requires-clause-held
reasons_of-requires-clause-held c =
    rw (c.deref-5.ensures.value, c.in_ok-traits.ensures) (listed_traits c.args.principals.now
    c.count-count.ensures.declared (fails_in c.args.principals.now
    (constraint_of c.authority_of-authority.result.now c.in-Some.located.found.demand)))

pub returns : goal.returns
returns c =
    is_told c.args.principals.now (program_tree c.args.program.now) (Distrusts 0) c.in-Some.located
    c.in_ok-traits.traits.items c.in_ok-reasons.reasons.items (rw c.in-Some.is at c.in_ok-located.ensures)
    (rw c.authority_of-authority.ensures at c.in_ok-traits.ensures)
    (rw c.deref-5.ensures.value at c.in_ok-reasons.ensures)
