-- Expressions of a statement, one after the other.
use Rattle.std.proofs.Common.{ℕ, ◌≡◌, ◌∙◌, sym, ap, refl, subst, Bool, true, false, ◌||◌, List, [], ◌∷◌, ◌++◌}
use Rattle.std.proofs.Common.{append_assoc}
use Rattle.std.proofs.Common.{map, take, length, get_or, ◌<◌, ◌+◌}
use Rattle.std.specs.List.{fold, flat_map, list_any}
use Rattle.std.proofs.lemmas.List.{append-nil, map-append, take_more}
use Rattle.std.proofs.lemmas.List.Concat.{flat_map-append}
use Rattle.std.proofs.lemmas.List.Folds.{list_any-append}
use Rattle.std.proofs.lemmas.List.Sums.{fold-append}
use Rattle.js_base.specs.declared.binary_operator.BinOp.{BinOp}
use Rattle.js_base.specs.declared.ids.FieldId.{FieldId}
use Rattle.js_base.specs.declared.ids.VarId.{VarId}
use Rattle.js_base.specs.declared.ids.StmtId.{StmtId}
use Rattle.principals.specs.ActsFor.{Declared}
use Rattle.label_lattice.specs.declared.label.Label.{Label}
use Rattle.label_lattice.specs.Lattice.{join_of}
use Rattle.jif_tree.specs.Trees.{ExprTree, element, binary, expr_tree}
use Rattle.jif_tree.specs.declared.program.Expr.{Expr}
use Rattle.jif_tree.specs.LabelRules.{part_labels, expr_label}
use Rattle.need_labels.specs.declared.place.Place.{Place}
use Rattle.need_labels.specs.declared.place.Reads.{Reads}
use Rattle.need_labels.specs.declared.place.Current.{Current}
use Rattle.need_labels.specs.Labelled.{Labelled, all_labels}
use Rattle.need_labels.specs.Needs.{Telling, tellings_in, variables_in, releases}
use Rattle.need_labels.specs.Finding.{AreReads, AddsReads, AddsExprs, setting_at, labelled_at}

-- ---- reads

pub reads_as : {principals : Declared} {labelled : Labelled} {id : StmtId} {turn : ℕ} {old new : Reads}
    {tellings others : List Telling} {reads more : List VarId} → tellings ≡ others → reads ≡ more →
    AddsReads principals labelled id turn old tellings reads new →
    AddsReads principals labelled id turn old others more new
reads_as {principals} {labelled} {id} {turn} {old} {new} {tellings} {others} {reads} {more} same also adds =
    subst (λ (all : List Telling). AddsReads principals labelled id turn old all more new) same
    (subst (λ (all : List VarId). AddsReads principals labelled id turn old tellings all new) also adds)

pub no_reads : (principals : Declared) (labelled : Labelled) (id : StmtId) (turn : ℕ) (old : Reads) →
    AddsReads principals labelled id turn old [] [] old
no_reads principals labelled id turn old = record {
  adds = λ before told others are.
      subst (λ (all : List Telling). AreReads principals labelled before id turn all (others ++ []) old)
      (sym (append-nil told))
      (subst (λ (all : List VarId). AreReads principals labelled before id turn told all old) (sym (append-nil others))
      are);
}

pub both_reads : {principals : Declared} {labelled : Labelled} {id : StmtId} {turn : ℕ} {old between new : Reads}
    (first second : List Telling) (reads more : List VarId) →
    AddsReads principals labelled id turn old first reads between →
    AddsReads principals labelled id turn between second more new →
    AddsReads principals labelled id turn old (first ++ second) (reads ++ more) new
both_reads {principals} {labelled} {id} {turn} {old} {between} {new} first second reads more adds also = record {
  adds = λ before told others are.
      subst (λ (all : List Telling). AreReads principals labelled before id turn all (others ++ (reads ++ more)) new)
      (append_assoc told first second)
      (subst (λ (all : List VarId). AreReads principals labelled before id turn ((told ++ first) ++ second) all new)
      (append_assoc others reads more)
      (also.adds before (told ++ first) (others ++ reads) (adds.adds before told others are)));
}

-- ---- expressions

-- what the expressions of a statement add to its labels
abbrev parts_of : Place → Label → List ExprTree → List Label
parts_of place pc exprs = flat_map (part_labels (setting_at place) pc (all_labels (labelled_at place))) exprs

abbrev told_by : Place → Label → List ExprTree → List Telling
told_by place pc exprs = flat_map (tellings_in (setting_at place) (labelled_at place) pc) exprs

abbrev walked : Place → Current → List ExprTree → Current
walked place old exprs = record old {
  used = fold join_of old.used (parts_of place old.pc exprs);
  releases = old.releases || list_any releases exprs;
}

or_assoc : (a b c : Bool) → ((a || b) || c) ≡ (a || (b || c))
or_assoc true b c = refl
or_assoc false b c = refl

or_nothing : (a : Bool) → (a || false) ≡ a
or_nothing true = refl
or_nothing false = refl

pub no_exprs : (place : Place) (old : Current) (reads : Reads) → AddsExprs place old reads [] old reads
no_exprs place old reads = record {
  current = ap (λ (releases : Bool). record old { releases = releases }) (sym (or_nothing old.releases));
  reads = no_reads place.principals.now (labelled_at place) old.id old.turn reads;
}

walked_both : (place : Place) (old : Current) (first second : List ExprTree) →
    walked place (walked place old first) second ≡ walked place old (first ++ second)
walked_both place old first second =
    ap (λ (used : Label). record (walked place (walked place old first) second) { used = used })
    (sym (fold-append join_of old.used (parts_of place old.pc first) (parts_of place old.pc second))
    ∙ ap (fold join_of old.used) (sym (flat_map-append (part_labels (setting_at place) old.pc
    (all_labels (labelled_at place)))
    first second)))
    ∙ ap (λ (releases : Bool). record (walked place old (first ++ second)) { releases = releases })
    (or_assoc old.releases (list_any releases first) (list_any releases second)
    ∙ ap (λ (more : Bool). old.releases || more) (sym (list_any-append releases first second)))

pub both_exprs : {place : Place} {old between new : Current} {reads reads_between reads_new : Reads}
    (first second : List ExprTree) → AddsExprs place old reads first between reads_between →
    AddsExprs place between reads_between second new reads_new →
    AddsExprs place old reads (first ++ second) new reads_new
both_exprs {place} {old} {between} {new} {reads} {reads_between} {reads_new} first second adds also =
    let after : AddsExprs place (walked place old first) reads_between second new reads_new =
    subst (λ (current : Current). AddsExprs place current reads_between second new reads_new) adds.current also in
    record {
      current = after.current ∙ walked_both place old first second;
      reads = reads_as
          (sym (flat_map-append (tellings_in (setting_at place) (labelled_at place) old.pc) first second))
          (sym (flat_map-append variables_in first second))
          (both_reads (told_by place old.pc first) (told_by place old.pc second) (flat_map variables_in first)
          (flat_map variables_in second) adds.reads after.reads);
    }

-- the label of the whole is told last
with_label : (place : Place) (old : Current) (parts whole : List Label) (label : Label) →
    parts ++ label ∷ [] ≡ whole →
    join_of (fold join_of old.used parts) label ≡ fold join_of old.used whole
with_label place old parts whole label is =
    sym (fold-append join_of old.used parts (label ∷ [])) ∙ ap (fold join_of old.used) is

two_lists : {X : Type 0} (first second : List X) → first ++ (second ++ []) ≡ (first ++ second) ++ []
two_lists first second = simp append-nil

two_parts : {X : Type 0} (first second : List X) (whole : X) →
    (first ++ (second ++ [])) ++ whole ∷ [] ≡ ((first ++ second) ++ whole ∷ []) ++ []
two_parts first second whole = simp (append-nil, append_assoc)

one_part : {X : Type 0} (parts : List X) (whole : X) → (parts ++ []) ++ whole ∷ [] ≡ (parts ++ whole ∷ []) ++ []
one_part parts whole = simp append-nil

two_told : {X : Type 0} (parts : List X) (first second : X) →
    ((parts ++ []) ++ first ∷ []) ++ second ∷ [] ≡ (parts ++ first ∷ second ∷ []) ++ []
two_told parts first second = simp (append-nil, append_assoc)

pub binary_adds : (place : Place) (old : Current) (reads : Reads) (operator : BinOp) (left right : ExprTree)
    (both : Current) (new : Reads) (label : Label) →
    AddsExprs place old reads (left ∷ right ∷ []) both new →
    label ≡ expr_label (setting_at place) old.pc (all_labels (labelled_at place)) (binary operator left right) →
    AddsExprs place old reads (binary operator left right ∷ []) (record both { used = join_of both.used label }) new
binary_adds place old reads operator left right both new label adds is =
    let parts : ExprTree → List Label = part_labels (setting_at place) old.pc (all_labels (labelled_at place)) in
    record {
      current =
          ap (λ (current : Current). record current { used = join_of current.used label }) adds.current
          ∙ ap (λ (used : Label). record (walked place old (left ∷ right ∷ [])) { used = used })
          (with_label place old (parts_of place old.pc (left ∷ right ∷ []))
          (parts_of place old.pc (binary operator left right ∷ [])) label
          (ap (λ (one : Label). (parts left ++ (parts right ++ [])) ++ one ∷ []) is
          ∙ two_parts (parts left) (parts right)
          (expr_label (setting_at place) old.pc (all_labels (labelled_at place)) (binary operator left right))))
          ∙ ap (λ (some : Bool). record (walked place old (binary operator left right ∷ [])) {
            releases =
                old.releases || some;
          })
          (sym (or_assoc (releases left) (releases right) false));
      reads = reads_as (two_lists (tellings_in (setting_at place) (labelled_at place) old.pc left)
          (tellings_in (setting_at place) (labelled_at place) old.pc right))
          (two_lists (variables_in left) (variables_in right)) adds.reads;
    }

pub element_adds : (place : Place) (old : Current) (reads : Reads) (field : FieldId) (index : ExprTree)
    (inner : Current) (first second new : Reads) (pc label whole : Label) →
    AddsExprs place old reads (index ∷ []) inner first → pc ≡ old.pc →
    label ≡ expr_label (setting_at place) old.pc (all_labels (labelled_at place)) index →
    AddsReads place.principals.now (labelled_at place) old.id old.turn first
    (record { field = field; label = pc } ∷ []) [] second →
    AddsReads place.principals.now (labelled_at place) old.id old.turn second
    (record { field = field; label = label } ∷ []) [] new →
    whole ≡ expr_label (setting_at place) old.pc (all_labels (labelled_at place)) (element field index) →
    AddsExprs place old reads (element field index ∷ []) (record inner { used = join_of inner.used whole }) new
element_adds place old reads field index inner first second new pc label whole adds pc_is label_is tells also is =
    let setting = setting_at place in
    let labels = all_labels (labelled_at place) in
    let parts : ExprTree → List Label = part_labels setting old.pc labels in
    let told : List Telling = tellings_in setting (labelled_at place) old.pc index in
    let by_pc : Label → Telling = λ one. record { field = field; label = one } in
    record {
      current =
          ap (λ (current : Current). record current { used = join_of current.used whole }) adds.current
          ∙ ap (λ (used : Label). record (walked place old (index ∷ [])) { used = used })
          (with_label place old (parts_of place old.pc (index ∷ []))
          (parts_of place old.pc (element field index ∷ [])) whole
          (ap (λ (one : Label). (parts index ++ []) ++ one ∷ []) is
          ∙ one_part (parts index) (expr_label setting old.pc labels (element field index))));
      reads = reads_as
          (two_told told (by_pc pc) (by_pc label)
          ∙ ap (λ (one : Label). (told ++ by_pc one ∷ by_pc label ∷ []) ++ []) pc_is
          ∙ ap (λ (one : Label). (told ++ by_pc old.pc ∷ by_pc one ∷ []) ++ []) label_is)
          (append-nil (flat_map variables_in (index ∷ []) ++ []) ∙ append-nil (flat_map variables_in (index ∷ [])))
          (both_reads (told_by place old.pc (index ∷ []) ++ by_pc pc ∷ []) (by_pc label ∷ [])
          (flat_map variables_in (index ∷ []) ++ []) []
          (both_reads (told_by place old.pc (index ∷ [])) (by_pc pc ∷ []) (flat_map variables_in (index ∷ [])) []
          adds.reads tells) also);
    }

-- one more of several
pub next_expr : {place : Place} {old between new : Current} {reads reads_between reads_new : Reads} (exprs : List Expr)
    (at : ℕ) (expr : Expr) → at < length exprs → expr ≡ get_or exprs at expr →
    AddsExprs place old reads (map expr_tree (take at exprs)) between reads_between →
    AddsExprs place between reads_between (expr_tree expr ∷ []) new reads_new →
    AddsExprs place old reads (map expr_tree (take (at + 1) exprs)) new reads_new
next_expr {place} {old} {between} {new} {reads} {reads_between} {reads_new} exprs at expr within is adds also =
    subst (λ (trees : List ExprTree). AddsExprs place old reads trees new reads_new) (sym (
    ap (map expr_tree) (take_more exprs at expr within)
    ∙ map-append expr_tree (take at exprs) (get_or exprs at expr ∷ [])
    ∙ ap (λ (one : Expr). map expr_tree (take at exprs) ++ expr_tree one ∷ []) (sym is)
    ))
    (both_exprs (map expr_tree (take at exprs)) (expr_tree expr ∷ []) adds also)
