use Rattle.std.proofs.Common.{sym, ap, ◌∙◌}
use Rattle.std.specs.Prelude.{Option, Some}
use Rattle.std.specs.Option.{option_map}
use Rattle.js_base.specs.declared.ids.StmtId.{StmtId}
use Rattle.jif_tree.specs.Trees.{done}
use Rattle.label_reasons.specs.declared.reason.Cause.{Cause}
use Rattle.label_reasons.specs.declared.reason.Trait.{Trait}
use Rattle.place_reasons.specs.declared.question.Question.TheVariants.{OfRun}
use Rattle.place_reasons.specs.declared.reason.PlaceReason.{PlaceReason}
use Rattle.place_reasons.specs.declared.reason.PlaceReason.TheVariants as row
use Rattle.place_reasons.specs.Questions.{answer_at}
use Rattle.place_reasons.specs.Reasons.{pc_at, pair_at}
use Rattle.place_reasons.specs.Search.{site_is}
use Rattle.place_reasons.proofs.FirstPairs.{is_pair}
use Rattle.place_reasons.proofs.Numbered.{id_is}
use Rattle.place_reasons.proofs.statements.run_row.Goals as goal

pub answer_at-requires-clause-held : goal.answer_at-requires-clause-held
answer_at-requires-clause-held c =
    is_pair c.args.site.now.principals.now c.count-count.ensures.declared c.pc_at-pc.result
    c.args.site.now.host.now c.in-Some.pair (sym c.in_ok-found.ensures ∙ c.in-Some.is)

pub returns-in_ok-cause-in-Some-clause-reason : goal.returns-in_ok-cause-in-Some-clause-reason
returns-in_ok-cause-in-Some-clause-reason c =
    let site = site_is c.args.site.now in
    let row_of : StmtId → Trait → PlaceReason = λ here pair. row.Runs pair
    (answer_at OfRun site.principals site.labelled.program here pair) in
    ap (λ (cause : Option Cause). Some (row.Runs c.in-Some.pair cause)) c.in_ok-cause-in-Some.ensures.answer
    ∙ ap (option_map (row_of c.args.statement.now.id)) (sym c.in-Some.is ∙ c.in_ok-found.ensures
    ∙ ap (pair_at site) c.pc_at-pc.ensures)
    ∙ ap (λ here. option_map (row_of here) (pair_at site (pc_at site here))) (sym (id_is c.args.statement.now done))

pub returns-in-None-clause-reason : goal.returns-in-None-clause-reason
returns-in-None-clause-reason c =
    let site = site_is c.args.site.now in
    let row_of : StmtId → Trait → PlaceReason = λ here pair. row.Runs pair
    (answer_at OfRun site.principals site.labelled.program here pair) in
    ap (option_map (row_of c.args.statement.now.id)) (sym c.in-None.is ∙ c.in_ok-found.ensures
    ∙ ap (pair_at site) c.pc_at-pc.ensures)
    ∙ ap (λ here. option_map (row_of here) (pair_at site (pc_at site here))) (sym (id_is c.args.statement.now done))
