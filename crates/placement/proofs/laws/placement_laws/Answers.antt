use Rattle.std.proofs.Common.{◌≡◌, length, subst}
use Rattle.msg_cost.specs.Cost.{plan_cost}
use Rattle.place_rules.specs.Allowed.{AllowedShape}
use Rattle.place_rules.specs.PlaceRules.{MayHoldField, MayHoldStatement, told_fields, needed_statements}
use Rattle.placement.specs.Choice.{IsChosen}
use Rattle.placement.proofs.Cheapest.{one_chosen, chosen_least}
use Rattle.placement.proofs.Held.{chosen_held, holds_row, known_row}
use Rattle.placement.proofs.SomePlan.{some_plan}
use Rattle.placement.proofs.laws.placement_laws.Goals as goal

pub returns-clause-one_plan : goal.returns-clause-one_plan
returns-clause-one_plan c labelled needs hosts allowed other first second one two =
    let words : allowed ≡ other =
    c.place_rule_laws.ensures.one_allowed labelled needs hosts allowed other one.words two.words in
    let Chosen : AllowedShape → Type 0 = λ row.
    IsChosen (plan_cost labelled needs hosts) row (length hosts.hosts) first in (
      words,
      one_chosen (plan_cost labelled needs hosts) other (length hosts.hosts) first second
          (subst Chosen words one.choice) two.choice,
    )

pub returns-clause-allowed : goal.returns-clause-allowed
returns-clause-allowed c labelled needs hosts allowed plan placed =
    let held = chosen_held (plan_cost labelled needs hosts) allowed (length hosts.hosts) plan placed.choice in
    record {
      fields = holds_row MayHoldField hosts.hosts (told_fields labelled needs) allowed.fields plan.fields
          placed.words.fields held.fields;
      statements = holds_row MayHoldStatement hosts.hosts (needed_statements needs) allowed.statements plan.statements
          placed.words.statements held.statements;
    }

pub returns-clause-hosts : goal.returns-clause-hosts
returns-clause-hosts c labelled needs hosts allowed plan placed =
    let held = chosen_held (plan_cost labelled needs hosts) allowed (length hosts.hosts) plan placed.choice in
    let some = c.place_rule_laws.ensures.some_host labelled needs hosts allowed placed.words in
    record {
      fields = known_row (length hosts.hosts) allowed.fields plan.fields some.0 held.fields;
      statements = known_row (length hosts.hosts) allowed.statements plan.statements some.1 held.statements;
    }

pub returns-clause-least : goal.returns-clause-least
returns-clause-least c labelled needs hosts allowed plan other placed tried =
    let some = c.place_rule_laws.ensures.some_host labelled needs hosts allowed placed.words in
    chosen_least (plan_cost labelled needs hosts) allowed (length hosts.hosts) plan other some.0 some.1 placed.choice
    tried

pub returns-clause-some_plan : goal.returns-clause-some_plan
returns-clause-some_plan c labelled needs hosts allowed some words =
    some_plan labelled needs hosts allowed some words
    (c.place_rule_laws.ensures.some_host labelled needs hosts allowed words)
