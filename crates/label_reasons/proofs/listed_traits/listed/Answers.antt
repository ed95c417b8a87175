use Rattle.std.proofs.Common.{List, All, sym, subst}
use Rattle.std.proofs.lemmas.List.Elements.{All-filter}
use Rattle.label_reasons.specs.declared.reason.Trait.{Trait}
use Rattle.label_reasons.specs.Listed.{IsListable}
use Rattle.label_reasons.specs.Reasons.{fails_in, constraint_of}
use Rattle.label_reasons.proofs.ListableTraits.{pairs_listable, distrusts_listable}
use Rattle.label_reasons.proofs.listed_traits.listed.Goals as goal

pub push_failing-requires-clause-listable : goal.push_failing-requires-clause-listable
push_failing-requires-clause-listable c =
    let P : List Trait → Type 0 = λ traits. All (IsListable c.args.principals.now) traits in
    subst P (sym c.requires.pairs) (pairs_listable c.args.principals.now)

pub others-requires : goal.others-requires
others-requires c =
    let P : List Trait → Type 0 = λ traits. All (IsListable c.args.principals.now) traits in
    rw (c.deref.ensures.value, c.in_ok-push_failing.ensures, c.new-failing.ensures.items)
    (All-filter (fails_in c.args.principals.now (constraint_of c.args.authority.now c.args.demand.now))
    (IsListable c.args.principals.now) c.args.pairs.now
    (subst P (sym c.requires.pairs) (pairs_listable c.args.principals.now)))

pub push_failing-requires-2-clause-listable : goal.push_failing-requires-2-clause-listable
push_failing-requires-2-clause-listable c =
    let P : List Trait → Type 0 = λ traits. All (IsListable c.args.principals.now) traits in
    subst P (sym c.requires.distrusts) (distrusts_listable c.args.principals.now)
