-- What a walked statement is among those of its program.
use Rattle.std.proofs.Common.{ℕ, suc, ◌≡◌, ◌∙◌, sym, ap, subst, List, [], ◌∷◌, ◌++◌, map, length}
use Rattle.std.specs.List.{fold, flat_map, list_any}
use Rattle.std.proofs.lemmas.List.{append-nil}
use Rattle.std.proofs.lemmas.List.Sums.{fold-append}
use Rattle.js_base.specs.declared.ids.StmtId.{StmtId}
use Rattle.label_lattice.specs.declared.label.Label.{Label}
use Rattle.label_lattice.specs.Lattice.{join_of}
use Rattle.jif_tree.specs.Trees.{ExprTree}
use Rattle.jif_tree.specs.LabelRules.{part_labels}
use Rattle.need_labels.specs.declared.place.Place.{Place}
use Rattle.need_labels.specs.declared.place.Found.{Found}
use Rattle.need_labels.specs.declared.place.Current.{Current}
use Rattle.need_labels.specs.declared.place.Reads.{Reads}
use Rattle.need_labels.specs.Labelled.{pc_of, all_labels}
use Rattle.need_labels.specs.Needs.{Backing, for_label, for_releases, releases, statement_use, tellings_in}
use Rattle.need_labels.specs.Needs.{variables_in}
use Rattle.need_labels.specs.Needs.{IsNeed}
use Rattle.need_labels.specs.Finding.{IsBackedBy, AddsReads, AddsExprs, started, IsWalked, AddsUses, setting_at}
use Rattle.need_labels.specs.Finding.{labelled_at}
use Rattle.need_labels.proofs.FoundRows.{one_added}

-- expressions that were walked from the start
pub walked_from : (place : Place) (old new : Found) (id : StmtId) (exprs : List ExprTree) (walked : Current)
    (reads : Reads) → new.used ≡ old.used → new.need ≡ old.need → reads ≡ new.reads →
    AddsExprs place (started (labelled_at place) (length old.used.items) id) old.reads exprs walked reads →
    IsWalked place old id exprs [] walked new
walked_from place old new id exprs walked reads used need is adds =
    let parts : List Label =
    flat_map (part_labels (setting_at place) (pc_of (labelled_at place) id) (all_labels (labelled_at place))) exprs in
    record {
      same_used = used;
      same_need = need;
      current = adds.current
          ∙ ap (λ (labels : List Label). record (started (labelled_at place) (length old.used.items) id) {
            used = fold join_of (pc_of (labelled_at place) id) labels;
            releases = list_any releases exprs;
          }) {x = parts} (sym (append-nil parts));
      reads = subst (λ (rows : Reads).
          AddsReads place.principals.now (labelled_at place) id (suc (length old.used.items)) old.reads
          (flat_map (tellings_in (setting_at place) (labelled_at place) (pc_of (labelled_at place) id)) exprs)
          (flat_map variables_in exprs) rows) is adds.reads;
    }

-- it also tells some labels
pub also_told : {place : Place} {old new : Found} {id : StmtId} (exprs : List ExprTree) (told : List Label)
    (walked : Current) → IsWalked place old id exprs [] walked new →
    IsWalked place old id exprs told (record walked { used = fold join_of walked.used told }) new
also_told {place} {old} {new} {id} exprs told walked is =
    let parts : List Label =
    flat_map (part_labels (setting_at place) (pc_of (labelled_at place) id) (all_labels (labelled_at place))) exprs in
    record {
      same_used = is.same_used;
      same_need = is.same_need;
      current = ap (λ (current : Current). record current { used = fold join_of current.used told }) is.current
          ∙ ap (λ (used : Label). record (started (labelled_at place) (length old.used.items) id) {
            used = used;
            releases = list_any releases exprs;
          })
          (ap (λ (labels : List Label). fold join_of (fold join_of (pc_of (labelled_at place) id) labels) told)
          (append-nil parts)
          ∙ sym (fold-append join_of (pc_of (labelled_at place) id) parts told));
      reads = is.reads;
    }

-- the statement is added
pub finished : (place : Place) (start old new : Found) (id : StmtId) (exprs : List ExprTree)
    (told changed : List Label) (walked : Current) (word : ℕ) (backed : Label) →
    new.used.items ≡ old.used.items ++ walked.used ∷ [] → new.need.items ≡ old.need.items ++ word ∷ [] →
    new.reads ≡ old.reads →
    (walked.releases ≡ list_any releases exprs →
    IsBackedBy place.principals.now (map for_label changed ++ for_releases (setting_at place) exprs) backed) →
    ((parts : List Backing) → IsBackedBy place.principals.now parts backed → IsNeed place.principals.now parts word) →
    IsWalked place start id exprs told walked old →
    AddsUses place.principals.now (labelled_at place) start
    (statement_use (labelled_at place) (setting_at place) id exprs told changed [] ∷ []) new backed
finished place start old new id exprs told changed walked word backed used need reads is_backed is_need is =
    let parts : List Backing = map for_label changed ++ for_releases (setting_at place) exprs in
    let all : IsBackedBy place.principals.now (parts ++ []) backed =
    subst (λ (some : List Backing). IsBackedBy place.principals.now some backed) (sym (append-nil parts))
    (is_backed (ap (λ (current : Current). current.releases) is.current)) in
    one_added place.principals.now (labelled_at place) start new
    (statement_use (labelled_at place) (setting_at place) id exprs told changed []) word backed
    (used ∙ ap (λ (row : _). row.items ++ walked.used ∷ []) is.same_used
    ∙ ap (λ (one : Label). start.used.items ++ one ∷ []) (ap (λ (current : Current). current.used) is.current))
    (need ∙ ap (λ (row : _). row.items ++ word ∷ []) is.same_need) (is_need (parts ++ []) all)
    (subst (λ (rows : Reads).
    AddsReads place.principals.now (labelled_at place) id (suc (length start.used.items)) start.reads
    (flat_map (tellings_in (setting_at place) (labelled_at place) (pc_of (labelled_at place) id)) exprs)
    (flat_map variables_in exprs) rows) (sym reads) is.reads)
    all
