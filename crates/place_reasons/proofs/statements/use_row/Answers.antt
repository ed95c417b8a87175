use Rattle.std.proofs.Common.{sym, ap, ◌∙◌}
use Rattle.std.specs.Prelude.{Option, Some}
use Rattle.std.specs.Option.{option_map}
use Rattle.js_base.specs.declared.ids.StmtId.{StmtId}
use Rattle.jif_tree.specs.Trees.{done, tree_before}
use Rattle.label_reasons.specs.declared.reason.Cause.{Cause}
use Rattle.label_reasons.specs.declared.reason.Trait.{Trait}
use Rattle.place_reasons.specs.declared.question.Question.TheVariants.{OfUse}
use Rattle.place_reasons.specs.declared.reason.PlaceReason.{PlaceReason}
use Rattle.place_reasons.specs.declared.reason.PlaceReason.TheVariants as row
use Rattle.place_reasons.specs.Questions.{answer_at}
use Rattle.place_reasons.specs.Reasons.{used_by, exprs_of}
use Rattle.place_reasons.specs.Search.{site_is}
use Rattle.place_reasons.proofs.Within.{use_within}
use Rattle.place_reasons.proofs.Numbered.{id_is}
use Rattle.place_reasons.proofs.statements.use_row.Goals as goal

pub answer_at-requires-clause-held : goal.answer_at-requires-clause-held
answer_at-requires-clause-held c =
    use_within (site_is c.args.site.now) c.count-count.ensures.declared c.args.statement.now.id
    (exprs_of (tree_before c.args.statement.now done)) c.in-Some.pair (sym (c.in_ok-used_by.ensures done) ∙ c.in-Some.is)

pub returns-in_ok-cause-in-Some-clause-reason : goal.returns-in_ok-cause-in-Some-clause-reason
returns-in_ok-cause-in-Some-clause-reason c =
    let site = site_is c.args.site.now in
    let exprs = exprs_of (tree_before c.args.statement.now done) in
    let row_of : StmtId → Trait → PlaceReason = λ here pair. row.Uses pair
    (answer_at OfUse site.principals site.labelled.program here pair) in
    ap (λ (cause : Option Cause). Some (row.Uses c.in-Some.pair cause)) c.in_ok-cause-in-Some.ensures.answer
    ∙ ap (option_map (row_of c.args.statement.now.id)) (sym c.in-Some.is ∙ c.in_ok-used_by.ensures done)
    ∙ ap (λ here. option_map (row_of here) (used_by site here exprs)) (sym (id_is c.args.statement.now done))

pub returns-in-None-clause-reason : goal.returns-in-None-clause-reason
returns-in-None-clause-reason c =
    let site = site_is c.args.site.now in
    let exprs = exprs_of (tree_before c.args.statement.now done) in
    let row_of : StmtId → Trait → PlaceReason = λ here pair. row.Uses pair
    (answer_at OfUse site.principals site.labelled.program here pair) in
    ap (option_map (row_of c.args.statement.now.id)) (sym c.in-None.is ∙ c.in_ok-used_by.ensures done)
    ∙ ap (λ here. option_map (row_of here) (used_by site here exprs)) (sym (id_is c.args.statement.now done))
