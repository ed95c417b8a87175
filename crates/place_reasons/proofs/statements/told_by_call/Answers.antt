use Rattle.std.proofs.Common.{sym, ap, ◌∙◌}
use Rattle.std.specs.Prelude.{Option}
use Rattle.std.specs.Option.{option_map}
use Rattle.jif_tree.specs.LabelRules.{method_at, result_of}
use Rattle.label_reasons.specs.declared.reason.Trait.{Trait}
use Rattle.place_reasons.specs.declared.reason.PlaceReason.{PlaceReason}
use Rattle.place_reasons.specs.declared.reason.PlaceReason.TheVariants as row
use Rattle.place_reasons.specs.Firsts.{or_first}
use Rattle.place_reasons.specs.Reasons.{pair_at, kept_row}
use Rattle.place_reasons.specs.Search.{site_is}
use Rattle.place_reasons.proofs.statements.told_by_call.Goals as goal

pub returns-in-Some : goal.returns-in-Some
returns-in-Some c =
    let site = site_is c.args.site.now in
    let kept = kept_row site c.args.method c.args.into (result_of (method_at site.labelled.program c.args.method)) in
    let told : Option Trait → Option PlaceReason = λ found.
    or_first (option_map (λ pair. row.CallBegins pair c.args.method) found) kept in
    ap told (sym c.in-Some.is ∙ c.in_ok-pair.ensures ∙ ap (pair_at site) c.begin_label-begin.ensures)

pub returns-in_ok-reason-in-None : goal.returns-in_ok-reason-in-None
returns-in_ok-reason-in-None c =
    let site = site_is c.args.site.now in
    let kept = kept_row site c.args.method c.args.into (result_of (method_at site.labelled.program c.args.method)) in
    let told : Option Trait → Option PlaceReason = λ found.
    or_first (option_map (λ pair. row.CallBegins pair c.args.method) found) kept in
    (rw c.result_of.ensures.tree at c.in_ok-reason-in-None.ensures)
    ∙ ap told (sym c.in-None.is ∙ c.in_ok-pair.ensures ∙ ap (pair_at site) c.begin_label-begin.ensures)
