-- The principals that reasons name are declared.
use Rattle.std.proofs.Common.{◌≡◌, ℕ, ◌<◌, Bool, not, List, [], length, All, filter, sym, ap, ◌∙◌, subst}
use Rattle.std.specs.Prelude.{Any, Option, Some, None}
use Rattle.std.specs.Option.{option_map}
use Rattle.std.proofs.lemmas.List.Elements.{All-append, All-filter}
use Rattle.std.proofs.lemmas.Option.{none-some}
use Rattle.js_base.specs.declared.ids.FieldId.{FieldId}
use Rattle.js_base.specs.declared.ids.MethodId.{MethodId}
use Rattle.js_base.specs.declared.ids.PrincipalId.{PrincipalId}
use Rattle.js_base.specs.declared.ids.VarId.{VarId}
use Rattle.principals.specs.ActsFor.{Declared, AreDeclared}
use Rattle.label_lattice.specs.declared.label.Label.{Label}
use Rattle.jif_tree.specs.Trees.{BlockTree, done, set_local, set_field, set_element, branch, loop, call, give_back}
use Rattle.jif_tree.specs.Trees.{MethodTree}
use Rattle.jif_tree.specs.LabelRules.{may_release, field_label, method_at, begin_label, result_of}
use Rattle.label_reasons.specs.declared.reason.Trait.{Trait}
use Rattle.label_reasons.specs.Listed.{IsListable, all_pairs, all_distrusts, is_of_another, unless_none}
use Rattle.label_reasons.specs.Listed.{goes_without_saying, listed_pairs, listed}
use Rattle.label_reasons.specs.Reasons.{fails_in}
use Rattle.label_reasons.proofs.TraitTests.{AreTrusted}
use Rattle.label_reasons.proofs.ActsTests.{ActsLaws}
use Rattle.label_reasons.proofs.Listing.{unless_none_passes}
use Rattle.label_reasons.proofs.ListableTraits.{pairs_listable, distrusts_listable}
use Rattle.need_labels.specs.Labelled.{Labelled}
use Rattle.need_labels.specs.Needs.{label_of}
use Rattle.place_reasons.specs.declared.backed.Backed.{Backed}
use Rattle.place_reasons.specs.declared.backed.Backed.TheVariants as backed
use Rattle.place_reasons.specs.declared.question.Question.TheVariants.{OfRun, OfUse}
use Rattle.place_reasons.specs.declared.reason.Needed.TheVariants as needed
use Rattle.place_reasons.specs.declared.reason.PlaceReason.{PlaceReason}
use Rattle.place_reasons.specs.declared.reason.PlaceReason.TheVariants as row
use Rattle.place_reasons.specs.declared.told.Told.{Told}
use Rattle.place_reasons.specs.declared.told.Told.TheVariants.{Read, Index}
use Rattle.place_reasons.specs.Firsts.{or_first, first_some}
use Rattle.place_reasons.specs.Programs.{labels_told}
use Rattle.place_reasons.specs.Questions.{answer_at}
use Rattle.place_reasons.specs.Reasons.{Site, site_of, id_of, exprs_of, first_pair, first_untrusting, pc_at, pair_at}
use Rattle.place_reasons.specs.Reasons.{used_by, kept_row, call_row, run_row, use_row, need_row, backed_reason}
use Rattle.place_reasons.specs.Reasons.{statement_reason, head_reason, method_told, told_reason, own_row, told_row}
use Rattle.place_reasons.specs.Reasons.{trust_row, field_reason}
use Rattle.place_reasons.specs.Refuted.{statements_in, NamesDeclared}
use Rattle.place_reasons.specs.Search.{told_pair}
use Rattle.place_reasons.proofs.FirstPairs.{first_of}
use Rattle.place_reasons.proofs.PairLaws.{or_so, trust_true}
use Rattle.place_reasons.proofs.FieldLaws.{same_told}
use Rattle.place_reasons.proofs.UsedLabels.{exprs_used}
use Rattle.place_reasons.proofs.FirstFound.{first_in}
use Rattle.place_reasons.proofs.BackedStatements.{IsOwn, block_true}
use Rattle.place_reasons.proofs.StatementLaws.{need_so, map_found}

-- ---- pairs

listed_listable : (principals : Declared) (test : Trait → Bool) → All (IsListable principals) (listed principals test)
listed_listable principals test =
    let P : Trait → Type 0 = IsListable principals in
    let kept : List Trait = filter test (all_pairs principals) in
    let others : List Trait = filter (is_of_another principals) kept in
    let pass : All P kept = All-filter test P (all_pairs principals) (pairs_listable principals) in
    All-append P (listed_pairs principals kept) (filter test (all_distrusts principals))
    (All-filter (λ pair. not (goes_without_saying (unless_none others kept) pair)) P (unless_none others kept)
    (unless_none_passes P others kept (All-filter (is_of_another principals) P kept pass) pass))
    (All-filter test P (all_distrusts principals) (distrusts_listable principals))

pair_named : (principals : Declared) (from to : Label) (pair : Trait) → first_pair principals from to ≡ Some pair →
    IsListable principals pair
pair_named principals from to pair is =
    let test : Trait → Bool = fails_in principals (may_release [] from to) in
    first_of (IsListable principals) (listed principals test) pair (listed_listable principals test) is

-- of the first of some labels that has one
first_named : (principals : Declared) (host : Label) (labels : List Label) (pair : Trait) →
    first_some (λ label. first_pair principals label host) labels ≡ Some pair → IsListable principals pair
first_named principals host labels pair is =
    let (k, label, lt, read, made) = first_in (λ label. first_pair principals label host) labels pair is in
    pair_named principals label host pair made

-- ---- fields

told_named : (principals : Declared) (labelled : Labelled) (field : FieldId) (told : Told) →
    IsListable principals (told_pair told) →
    NamesDeclared principals (told_reason principals labelled.program field told)
told_named principals labelled field (Read pair statement) is = is
told_named principals labelled field (Index pair statement) is = is

pub field_names : AreTrusted → (principals : Declared) (labelled : Labelled) (host : Label) (field : FieldId)
    (reason : PlaceReason) → field_reason principals labelled host field ≡ Some reason →
    NamesDeclared principals reason
field_names tells principals labelled host field reason is =
    let P : PlaceReason → Type 0 = NamesDeclared principals in
    let label : Label = field_label labelled.program field in
    or_so P (own_row principals labelled host field)
    (or_first (told_row principals labelled host field) (trust_row principals labelled host field)) reason
    (λ z one.
    let made = map_found (λ pair. row.Own pair) (first_pair principals label host) z one in
    subst P made.2 (pair_named principals label host made.0 made.1))
    (λ y later. or_so P (told_row principals labelled host field) (trust_row principals labelled host field) y
    (λ z one.
    let made = map_found (told_reason principals labelled.program field)
    (first_some (method_told principals labelled host field) labelled.program.methods) z one in
    subst P made.2 (told_named principals labelled field made.0
    (first_named principals host (labels_told principals labelled field) (told_pair made.0)
    (sym (same_told principals labelled host field) ∙ ap (option_map told_pair) made.1))))
    (λ z one.
    let made = map_found (λ principal. row.Untrusted principal) (first_untrusting principals host label) z one in
    subst P made.2 (trust_true tells principals host label made.0 made.1).0) later) is

-- ---- heads

pub head_names : AreTrusted → (principals : Declared) (host : Label) (method : MethodTree) (reason : PlaceReason) →
    head_reason principals host method ≡ Some reason → NamesDeclared principals reason
head_names tells principals host method reason is =
    let P : PlaceReason → Type 0 = NamesDeclared principals in
    or_so P (option_map (λ pair. row.Begins pair) (first_pair principals method.begin host))
    (option_map (λ principal. row.Needs principal needed.Head method.head)
    (first_untrusting principals host method.begin)) reason
    (λ z here.
    let pair = map_found (λ pair. row.Begins pair) (first_pair principals method.begin host) z here in
    subst P pair.2 (pair_named principals method.begin host pair.0 pair.1))
    (λ z there.
    let one = map_found (λ principal. row.Needs principal needed.Head method.head)
    (first_untrusting principals host method.begin) z there in
    subst P one.2 (trust_true tells principals host method.begin one.0 one.1).0) is

-- ---- statements

kept_named : (site : Site) (method : MethodId) (into kept : Option VarId) (reason : PlaceReason) →
    kept_row site method into kept ≡ Some reason → NamesDeclared site.principals reason
kept_named site method None None reason is = absurd (none-some reason is)
kept_named site method None (Some result) reason is = absurd (none-some reason is)
kept_named site method (Some into) None reason is = absurd (none-some reason is)
kept_named site method (Some into) (Some result) reason is =
    let label : Label = label_of site.labelled result in
    let made = map_found (λ pair. row.CallGives pair method) (pair_at site label) reason is in
    subst (NamesDeclared site.principals) made.2 (pair_named site.principals label site.host made.0 made.1)

call_named : (site : Site) (block : BlockTree) (reason : PlaceReason) → call_row site block ≡ Some reason →
    NamesDeclared site.principals reason
call_named site done reason is = absurd (none-some reason is)
call_named site (set_local heading x value rest) reason is = absurd (none-some reason is)
call_named site (set_field heading field value rest) reason is = absurd (none-some reason is)
call_named site (set_element heading field index value rest) reason is = absurd (none-some reason is)
call_named site (branch heading guard first second rest) reason is = absurd (none-some reason is)
call_named site (loop heading guard body rest) reason is = absurd (none-some reason is)
call_named site (call heading place method arguments into rest) reason is =
    let called : Option MethodTree = method_at site.labelled.program method in
    or_so (NamesDeclared site.principals)
    (option_map (λ pair. row.CallBegins pair method) (pair_at site (begin_label called)))
    (kept_row site method into (result_of called)) reason
    (λ z one.
    let made = map_found (λ pair. row.CallBegins pair method) (pair_at site (begin_label called)) z one in
    subst (NamesDeclared site.principals) made.2
    (pair_named site.principals (begin_label called) site.host made.0 made.1))
    (λ z other. kept_named site method into (result_of called) z other) is
call_named site (give_back heading value rest) reason is = absurd (none-some reason is)

need_named : (principals : Declared) (labelled : Labelled) (host : Label) (method : MethodTree) (block : BlockTree)
    (principal : ℕ) (found : Backed) → AreDeclared principals method.authority →
    principal < length principals.names →
    Any (λ one. IsOwn (site_of principals labelled host method) method principal one found) (statements_in block) →
    NamesDeclared principals (backed_reason principal found)
need_named principals labelled host method block principal (backed.Change what here) authority within some = within
need_named principals labelled host method block principal (backed.Release member here) authority within
    (k, one, lt, read, own) =
    let P : PrincipalId → Type 0 = λ one. one.0 < length principals.names in
    let (n, below, there) = own.1 in
    (subst P there (authority n member below), within)

pub statement_names : AreTrusted → (principals : Declared) → ActsLaws principals → (labelled : Labelled) (host : Label)
    (method : MethodTree) (block : BlockTree) (reason : PlaceReason) → AreDeclared principals method.authority →
    statement_reason principals labelled host method block ≡ Some reason → NamesDeclared principals reason
statement_names tells principals acts labelled host method block reason authority is =
    let site : Site = site_of principals labelled host method in
    let P : PlaceReason → Type 0 = NamesDeclared principals in
    or_so P (run_row site block)
    (or_first (use_row site block) (or_first (call_row site block) (need_row site block))) reason
    (λ z one.
    let made = map_found (λ pair. row.Runs pair (answer_at OfRun principals labelled.program (id_of block) pair))
    (pair_at site (pc_at site (id_of block))) z one in
    subst P made.2 (pair_named principals (pc_at site (id_of block)) host made.0 made.1))
    (λ y later. or_so P (use_row site block) (or_first (call_row site block) (need_row site block)) y
    (λ z one.
    let made = map_found (λ pair. row.Uses pair (answer_at OfUse principals labelled.program (id_of block) pair))
    (used_by site (id_of block) (exprs_of block)) z one in
    subst P made.2 (first_named principals host _ made.0
    (sym (exprs_used site (id_of block) (exprs_of block)) ∙ made.1)))
    (λ x behind. or_so P (call_row site block) (need_row site block) x (λ z one. call_named site block z one)
    (λ z one.
    let made = need_so tells site block z one in
    subst P made.same (need_named principals labelled host method block made.principal made.found authority
    made.within (block_true tells site acts method made.principal block made.found made.is))) behind) later) is
