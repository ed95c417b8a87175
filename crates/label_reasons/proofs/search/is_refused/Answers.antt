use Rattle.std.proofs.Common.{List, All, sym, subst}
use Rattle.label_reasons.specs.declared.reason.Trait.{Trait}
use Rattle.label_reasons.specs.Listed.{IsListable}
use Rattle.label_reasons.proofs.ListableTraits.{pairs_listable, distrusts_listable}
use Rattle.label_reasons.proofs.search.is_refused.Goals as goal

pub some_fails-requires-clause-listable : goal.some_fails-requires-clause-listable
some_fails-requires-clause-listable c =
    let P : List Trait → Type 0 = λ traits. All (IsListable c.args.place.now.principals.now) traits in
    subst P (sym c.requires.pairs) (pairs_listable c.args.place.now.principals.now)

pub some_fails-requires-else-some_fails-clause-listable : goal.some_fails-requires-else-some_fails-clause-listable
some_fails-requires-else-some_fails-clause-listable c =
    let P : List Trait → Type 0 = λ traits. All (IsListable c.args.place.now.principals.now) traits in
    subst P (sym c.requires.distrusts) (distrusts_listable c.args.place.now.principals.now)
