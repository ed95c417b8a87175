-- The hosts of the call sites of a block, statement by statement.
use Rattle.std.proofs.Common.{◌≡◌, ◌∙◌, List, ◌++◌, ap, sym, refl, append_assoc, Result, Ok, Err, OnOk}
use Rattle.std.proofs.lemmas.List.{append-nil}
use Rattle.js_base.specs.declared.ids.HostId.{HostId}
use Rattle.jif_tree.specs.declared.program.StmtKind.{StmtKind}
use Rattle.jif_tree.specs.declared.program.StmtKind as kind
use Rattle.jif_tree.specs.Trees.{Heading, BlockTree, done, branch, loop, statement_tree}
use Rattle.need_labels.specs.Plan.{PlanShape}
use Rattle.split_rules.specs.SplitCode.{site_hosts}

-- those of a statement come before those behind it
pub sites_apart : (plan : PlanShape) (what : StmtKind) (heading : Heading) (rest : BlockTree) →
    site_hosts plan (statement_tree what heading rest)
    ≡ site_hosts plan (statement_tree what heading done) ++ site_hosts plan rest
sites_apart plan (kind.Let x value) heading rest = refl
sites_apart plan (kind.SetField field value) heading rest = refl
sites_apart plan (kind.SetElement field index value) heading rest = refl
sites_apart plan (kind.If' guard m first n second) heading rest =
    let one = site_hosts plan (statement_tree (kind.If' guard m first n second) heading done) in
    sym (ap (λ (sites : List HostId). sites ++ site_hosts plan rest) (append-nil _))
sites_apart plan (kind.While' guard m body) heading rest =
    sym (ap (λ (sites : List HostId). sites ++ site_hosts plan rest) (append-nil _))
sites_apart plan (kind.Call site method args into) heading rest = refl
sites_apart plan (kind.Return value) heading rest = refl

pub sites_in_branch : (plan : PlanShape) (heading : Heading) {guard : _} (before between after : List HostId)
    (first second tree : BlockTree) → tree ≡ branch heading guard first second done →
    between ≡ before ++ site_hosts plan first → {A E : Type 0} (result : Result A E) →
    OnOk result (after ≡ between ++ site_hosts plan second) →
    OnOk result (after ≡ before ++ site_hosts plan tree)
sites_in_branch plan heading before between after first second tree tree_is one (Ok value) two =
    two
    ∙ ap (λ (sites : List HostId). sites ++ site_hosts plan second) one
    ∙ append_assoc before (site_hosts plan first) (site_hosts plan second)
    ∙ ap (λ (sites : List HostId). before ++ sites)
    (sym (append-nil (site_hosts plan first ++ site_hosts plan second)))
    ∙ ap (λ (all : BlockTree). before ++ site_hosts plan all) (sym tree_is)
sites_in_branch plan heading before between after first second tree tree_is one (Err fault) two = two

pub sites_in_loop : (plan : PlanShape) (heading : Heading) {guard : _} (before after : List HostId)
    (body tree : BlockTree) → tree ≡ loop heading guard body done → {A E : Type 0} (result : Result A E) →
    OnOk result (after ≡ before ++ site_hosts plan body) → OnOk result (after ≡ before ++ site_hosts plan tree)
sites_in_loop plan heading before after body tree tree_is (Ok value) one =
    one
    ∙ ap (λ (sites : List HostId). before ++ sites) (sym (append-nil (site_hosts plan body)))
    ∙ ap (λ (all : BlockTree). before ++ site_hosts plan all) (sym tree_is)
sites_in_loop plan heading before after body tree tree_is (Err fault) one = one
