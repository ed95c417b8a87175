-- What the rows of heads and statements claim is so.
use Rattle.std.proofs.Common.{◌≡◌, ℕ, List, [], flat_map, refl, sym, ◌∙◌, subst}
use Rattle.std.specs.Prelude.{Any, IsSome, Option, Some, None}
use Rattle.std.specs.Option.{option_map}
use Rattle.std.proofs.lemmas.Option.{none-some}
use Rattle.js_base.specs.declared.ids.MethodId.{MethodId}
use Rattle.js_base.specs.declared.ids.VarId.{VarId}
use Rattle.principals.specs.ActsFor.{Declared, IsDeclared}
use Rattle.label_lattice.specs.declared.label.Label.{Label}
use Rattle.label_lattice.specs.Label.{Trusts}
use Rattle.jif_tree.specs.Trees.{BlockTree, done, set_local, set_field, set_element, branch, loop, call, give_back}
use Rattle.jif_tree.specs.Trees.{MethodTree}
use Rattle.jif_tree.specs.LabelRules.{part_labels, method_at, begin_label, result_of}
use Rattle.label_reasons.specs.declared.reason.Trait.{Trait}
use Rattle.label_reasons.specs.Traits.{TraitIsLacking}
use Rattle.label_reasons.proofs.TraitTests.{AreTrusted}
use Rattle.label_reasons.proofs.ActsTests.{ActsLaws}
use Rattle.need_labels.specs.Labelled.{Labelled, all_labels}
use Rattle.need_labels.specs.Needs.{label_of}
use Rattle.need_labels.proofs.Somewhere.{any_here}
use Rattle.place_reasons.specs.declared.question.Question.TheVariants.{OfRun, OfUse}
use Rattle.place_reasons.specs.declared.backed.Backed.{Backed}
use Rattle.place_reasons.specs.declared.backed.Backed.TheVariants as backed
use Rattle.place_reasons.specs.declared.reason.Needed.TheVariants as needed
use Rattle.place_reasons.specs.declared.reason.PlaceReason.{PlaceReason}
use Rattle.place_reasons.specs.declared.reason.PlaceReason.TheVariants as row
use Rattle.place_reasons.specs.Firsts.{or_first}
use Rattle.place_reasons.specs.Questions.{answer_at}
use Rattle.place_reasons.specs.Reasons.{Site, site_of, id_of, exprs_of, first_pair, first_untrusting, pc_at, pair_at}
use Rattle.place_reasons.specs.Reasons.{used_by, kept_row, call_row, run_row, use_row, need_row}
use Rattle.place_reasons.specs.Reasons.{backed_reason, statement_reason, head_reason}
use Rattle.place_reasons.specs.Refuted.{statements_in, variables_of, RefutesHead, RefutesStatement}
use Rattle.place_reasons.proofs.PairLaws.{or_so, pair_true, trust_true}
use Rattle.place_reasons.proofs.UsedLabels.{exprs_used}
use Rattle.place_reasons.proofs.FirstFound.{any_weaker, first_in}
use Rattle.place_reasons.proofs.BackedStatements.{IsOwn, block_true}
use Rattle.place_reasons.proofs.StatementLaws.{need_so, map_found}

-- ---- pairs

-- the first pair of a label fails towards the host
pub fails_first : (principals : Declared) → IsDeclared principals → (host label : Label) (pair : Trait) →
    first_pair principals label host ≡ Some pair → TraitIsLacking pair label host
fails_first principals declared host label pair is = (pair_true principals label host pair declared is).1

-- ---- heads

pub head_refuted : AreTrusted → (principals : Declared) (host : Label) (method : MethodTree) (reason : PlaceReason) →
    IsDeclared principals → head_reason principals host method ≡ Some reason → RefutesHead host method reason
head_refuted tells principals host method reason declared is =
    let P : PlaceReason → Type 0 = RefutesHead host method in
    or_so P (option_map (λ pair. row.Begins pair) (first_pair principals method.begin host))
    (option_map (λ principal. row.Needs principal needed.Head method.head)
    (first_untrusting principals host method.begin)) reason
    (λ z here.
    let pair = map_found (λ pair. row.Begins pair) (first_pair principals method.begin host) z here in
    subst P pair.2 (fails_first principals declared host method.begin pair.0 pair.1))
    (λ z there.
    let one = map_found (λ principal. row.Needs principal needed.Head method.head)
    (first_untrusting principals host method.begin) z there in
    let says = trust_true tells principals host method.begin one.0 one.1 in
    subst P one.2 (refl, refl, says.1, says.2)) is

-- ---- calls

-- what is told of a result that is kept
pub record IsKeptRow (site : Site) (method : MethodId) (into kept : Option VarId) (reason : PlaceReason) : Type 0 where
  pub pair : Trait
  pub same : row.CallGives pair method ≡ reason
  pub keeps : IsSome into
  pub fails : Any (λ result. TraitIsLacking pair (label_of site.labelled result) site.host) (variables_of kept)

kept_so : (site : Site) → IsDeclared site.principals → (method : MethodId) (into kept : Option VarId)
    (reason : PlaceReason) → kept_row site method into kept ≡ Some reason → IsKeptRow site method into kept reason
kept_so site declared method None None reason is = absurd (none-some reason is)
kept_so site declared method None (Some result) reason is = absurd (none-some reason is)
kept_so site declared method (Some into) None reason is = absurd (none-some reason is)
kept_so site declared method (Some into) (Some result) reason is =
    let made = map_found (λ pair. row.CallGives pair method) (pair_at site (label_of site.labelled result)) reason is in
    record {
      pair = made.0;
      same = made.2;
      keeps = refl;
      fails = any_here (λ one. TraitIsLacking made.0 (label_of site.labelled one) site.host) result []
          (fails_first site.principals declared site.host (label_of site.labelled result) made.0 made.1);
    }

call_refuted : (principals : Declared) (labelled : Labelled) (host : Label) (method : MethodTree) (block : BlockTree)
    (reason : PlaceReason) → IsDeclared principals →
    call_row (site_of principals labelled host method) block ≡ Some reason →
    RefutesStatement principals labelled host method block reason
call_refuted principals labelled host method done reason declared is = absurd (none-some reason is)
call_refuted principals labelled host method (set_local heading x value rest) reason declared is =
    absurd (none-some reason is)
call_refuted principals labelled host method (set_field heading field value rest) reason declared is =
    absurd (none-some reason is)
call_refuted principals labelled host method (set_element heading field index value rest) reason declared is =
    absurd (none-some reason is)
call_refuted principals labelled host method (branch heading guard first second rest) reason declared is =
    absurd (none-some reason is)
call_refuted principals labelled host method (loop heading guard body rest) reason declared is =
    absurd (none-some reason is)
call_refuted principals labelled host method (call heading place called arguments into rest) reason declared is =
    let site : Site = site_of principals labelled host method in
    let block : BlockTree = call heading place called arguments into rest in
    let P : PlaceReason → Type 0 = RefutesStatement principals labelled host method block in
    let begin : Label = begin_label (method_at labelled.program called) in
    let result : Option VarId = result_of (method_at labelled.program called) in
    or_so P (option_map (λ pair. row.CallBegins pair called) (pair_at site begin))
    (kept_row site called into result) reason
    (λ z here.
    let made = map_found (λ pair. row.CallBegins pair called) (pair_at site begin) z here in
    subst P made.2 (refl, fails_first principals declared host begin made.0 made.1))
    (λ z there.
    let made = kept_so site declared called into result z there in
    subst P made.same (refl, made.keeps, made.fails)) is
call_refuted principals labelled host method (give_back heading value rest) reason declared is =
    absurd (none-some reason is)

-- ---- needs

need_refuted : (principals : Declared) (labelled : Labelled) (host : Label) (method : MethodTree) (block : BlockTree)
    (principal : ℕ) (found : Backed) → (¬ Trusts host principal) →
    Any (λ one. IsOwn (site_of principals labelled host method) method principal one found) (statements_in block) →
    RefutesStatement principals labelled host method block (backed_reason principal found)
need_refuted principals labelled host method block principal (backed.Change what here) distrusts
    (k, one, lt, read, own) = (own.2, distrusts, (k, one, lt, read, (own.0, own.1)))
need_refuted principals labelled host method block principal (backed.Release member here) distrusts
    (k, one, lt, read, own) = (own.2, distrusts, own.1, (k, one, lt, read, (own.0, own.3)))

-- ---- statements

pub statement_refuted : AreTrusted → (principals : Declared) → ActsLaws principals →
    (labelled : Labelled) (host : Label)
    (method : MethodTree) (block : BlockTree) (reason : PlaceReason) → IsDeclared principals →
    statement_reason principals labelled host method block ≡ Some reason →
    RefutesStatement principals labelled host method block reason
statement_refuted tells principals acts labelled host method block reason declared is =
    let site : Site = site_of principals labelled host method in
    let P : PlaceReason → Type 0 = RefutesStatement principals labelled host method block in
    let labels : List Label = flat_map (part_labels site.setting (pc_at site (id_of block)) (all_labels labelled))
    (exprs_of block) in
    or_so P (run_row site block)
    (or_first (use_row site block) (or_first (call_row site block) (need_row site block))) reason
    (λ z one.
    let made = map_found (λ pair. row.Runs pair (answer_at OfRun principals labelled.program (id_of block) pair))
    (pair_at site (pc_at site (id_of block))) z one in
    subst P made.2 (fails_first principals declared host (pc_at site (id_of block)) made.0 made.1))
    (λ y later. or_so P (use_row site block) (or_first (call_row site block) (need_row site block)) y
    (λ z one.
    let made = map_found (λ pair. row.Uses pair (answer_at OfUse principals labelled.program (id_of block) pair))
    (used_by site (id_of block) (exprs_of block)) z one in
    subst P made.2
    (any_weaker (λ label. first_pair principals label host ≡ Some made.0) (λ label. TraitIsLacking made.0 label host)
    labels
    (λ label first. fails_first principals declared host label made.0 first)
    (first_in (λ label. first_pair principals label host) labels made.0
    (sym (exprs_used site (id_of block) (exprs_of block)) ∙ made.1))))
    (λ x behind. or_so P (call_row site block) (need_row site block) x
    (λ z one. call_refuted principals labelled host method block z declared one)
    (λ z one.
    let made = need_so tells site block z one in
    subst P made.same (need_refuted principals labelled host method block made.principal made.found made.distrusts
    (block_true tells site acts method made.principal block made.found made.is))) behind) later) is
