use Rattle.std.proofs.Common.{◌≡◌, ℕ, List, ◌++◌, sym, ap, ◌∙◌, subst}
use Rattle.std.proofs.lemmas.Result.{IfOk-weaker}
use Rattle.js_base.specs.declared.status.Status.TheVariants.{Done, Differ}
use Rattle.run_comparison.specs.Compare.{Compared, agree, differ, differ_text}
use Rattle.front_end.specs.PlacedShapes.{PlacedModel, placed_shape}
use Rattle.run_comparison.specs.ReleaseLines.{release_lines}
use Rattle.releasing_statements.specs.Releases.{first_release}
use Rattle.front_end.specs.SourceShapes.{SourceModel}
use Rattle.front_end.specs.Verdicts.{VerdictShape, Print}
use Rattle.run_comparison.proofs.comparing.compared.Goals as goal

pub returns-in_default : goal.returns-in_default
returns-in_default c =
    let Due : VerdictShape → Type 0 = Compared (placed_shape c.args.placed.now) c.args.one.now c.args.other.now
    c.args.released.now c.args.released_too.now in
    let Behind : List ℕ → VerdictShape =
    λ line. Print Done (line ++ release_lines c.args.released.now c.args.released_too.now) in
    IfOk-weaker c.with_release_lines.result _ _
    (λ verdict is. subst Due (sym (is ∙ ap Behind c.in_ok-text.ensures)) (agree c.in_default.ensures))
    c.with_release_lines.ensures

pub returns : goal.returns
returns c =
    let source : SourceModel = record { hosts = c.source.inside.hosts; checked = c.source.inside.checked } in
    let with_source : SourceModel → PlacedModel = λ source. record {
      source = source;
      needs = c.placed.inside.needs;
      allowed = c.placed.inside.allowed;
      plan = c.placed.inside.plan;
    } in
    let same : with_source source ≡ c.args.placed.now = ap with_source c.source.view_is ∙ c.placed.view_is in
    let first : c.in_ok-statement.statement ≡ first_release (placed_shape c.args.placed.now).source.tree =
    c.in_ok-statement.ensures ∙ ap (λ (placed : PlacedModel). first_release (placed_shape placed).source.tree) same in
    let Due : VerdictShape → Type 0 = Compared (placed_shape c.args.placed.now) c.args.one.now c.args.other.now
    c.args.released.now c.args.released_too.now in
    let Behind : List ℕ → VerdictShape =
    λ line. Print Differ (line ++ release_lines c.args.released.now c.args.released_too.now) in
    IfOk-weaker c.with_release_lines-2.result _ _
    (λ verdict is. subst Due
    (sym (is ∙ ap Behind (c.in_ok-text-2.ensures ∙ ap (differ_text c.in-Some.place) first)))
    (differ c.in-Some.place c.in-Some.ensures))
    c.with_release_lines-2.ensures
