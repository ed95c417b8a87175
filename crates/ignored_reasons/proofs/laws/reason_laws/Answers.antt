use Rattle.std.proofs.Common.{subst}
use Rattle.std.specs.Prelude.{Option}
use Rattle.ignored_reasons.specs.declared.why.Why.{Why}
use Rattle.ignored_reasons.specs.Reasons.{PartHolds, IsWhy, parts_of}
use Rattle.ignored_reasons.proofs.CheckParts.{all_pass}
use Rattle.ignored_reasons.proofs.DecidedParts.{part}
use Rattle.ignored_reasons.proofs.FirstFalse.{all_hold, none_where_all, found_behind, one_first, some_first}
use Rattle.ignored_reasons.proofs.SeenIgnored.{seen}
use Rattle.ignored_reasons.proofs.laws.reason_laws.Goals as goal

pub returns-clause-why_due : goal.returns-clause-why_due
returns-clause-why_due c = λ code host from taken found first.
    let checked = all_pass code host from taken in (
      λ none. checked.0 (all_hold (PartHolds code host from taken) (parts_of taken)
          (subst (λ (one : Option Why). IsWhy code host from taken one) none first)),
      λ passes. none_where_all (PartHolds code host from taken) (parts_of taken) found first (checked.1 passes),
    )

pub returns-clause-why_true : goal.returns-clause-why_true
returns-clause-why_true c = λ code host from taken why first.
    found_behind (PartHolds code host from taken) (parts_of taken) why first

pub returns-clause-some_why : goal.returns-clause-some_why
returns-clause-some_why c = λ code host from taken.
    some_first (PartHolds code host from taken) (part code host from taken) (parts_of taken)

pub returns-clause-one_why : goal.returns-clause-one_why
returns-clause-one_why c = λ code host from taken one other first second.
    one_first (PartHolds code host from taken) (parts_of taken) one other first second

pub returns-clause-seen : goal.returns-clause-seen
returns-clause-seen c = seen
