-- A statement that may be left out is idle: whoever has to trust its host trusts all that it changes.
use Rattle.std.proofs.Common.{◌≡◌, ◌∙◌, ap, refl, sym, subst, inl, inr, ℕ, ◌<◌, List, [], ◌∷◌, ◌++◌, map, Any, Option}
use Rattle.std.proofs.Common.{Some, None, IsSomeAnd, IfSome, slice_get}
use Rattle.std.specs.Prelude.{unwrap_or}
use Rattle.std.specs.Option.{option_map}
use Rattle.std.proofs.lemmas.Option.{slice_get-map}
use Rattle.std.proofs.lemmas.List.{length-map}
use Rattle.std.proofs.lemmas.List.Concat.{flat_map-append}
use Rattle.js_base.specs.declared.ids.VarId.{VarId}
use Rattle.principals.specs.ActsFor.{Declared}
use Rattle.label_lattice.specs.declared.label.Label.{Label}
use Rattle.label_lattice.specs.declared.label.TheConstants.{READERS}
use Rattle.label_lattice.specs.Label.{IntegFlows, IsTrustedBy, Trusts}
use Rattle.label_lattice.specs.Lattice.{empty_label}
use Rattle.jif_tree.specs.declared.program.Program.{Program}
use Rattle.jif_tree.specs.declared.program.StmtKind.{StmtKind}
use Rattle.jif_tree.specs.declared.program.StmtKind as kind
use Rattle.jif_tree.specs.Altered.{Exposure, IsAffected, VariableIsAffected}
use Rattle.jif_tree.specs.Trees.{Heading, BlockTree, ExprTree, expr_tree, row_tree, statement_tree, program_tree}
use Rattle.jif_tree.specs.LabelRules.{MethodSetting, setting_of, field_label, method_at, begin_label, params_of}
use Rattle.jif_tree.specs.WellNumbered.{HasVariable, HasOptionalVariable}
use Rattle.need_labels.specs.Labelled.{Labelled, all_labels}
use Rattle.need_labels.specs.Needs.{Backing, for_label, Backs, StatementUse, for_releases, block_uses, all_backing}
use Rattle.need_labels.specs.Needs.{label_of, labels_of, IsNeed}
use Rattle.need_labels.proofs.Somewhere.{any_here, any_later, any_first, any_none, any_left, any_right}
use Rattle.source_law.specs.Steady.{IsIdle, AreIdle}
use Rattle.source_law.proofs.Lists.{any_also}
use Rattle.source_law.proofs.ExposedPrograms.{ExposedProgram, OwnMethod, IsBlockOf, labelled_in, field_affected}
use Rattle.source_law.proofs.IdleBlocks.{begin_affected, variable_found}

-- ---- who affects what

-- some host that misbehaves is trusted by all for whom something is backed
abbrev pub AffectsAll : Declared → List Label → List Backing → Type 0
AffectsAll principals bad backing =
    Any (λ host. (p : ℕ) → p < READERS → Any (Backs principals p) backing → Trusts host p) bad

pub from_need : (principals : Declared) (bad : List Label) (backing : List Backing) (need : ℕ) →
    IsNeed principals backing need → Any (λ host. IsTrustedBy host need) bad → AffectsAll principals bad backing
from_need principals bad backing need is far =
    any_also (λ host. IsTrustedBy host need) _
    (λ host trusted p within some. trusted p within ((is.members p within).1 some)) bad far

part_affected : (principals : Declared) (bad : List Label) (backing part : List Backing) →
    ((p : ℕ) → Any (Backs principals p) part → Any (Backs principals p) backing) → AffectsAll principals bad backing →
    AffectsAll principals bad part
part_affected principals bad backing part inside far =
    any_also _ _ (λ host all p within some. all p within (inside p some)) bad far

label_in : (principals : Declared) (bad : List Label) (backing : List Backing) (label : Label) →
    ((p : ℕ) → Trusts label p → Any (Backs principals p) backing) → AffectsAll principals bad backing →
    IsAffected bad label
label_in principals bad backing label inside far =
    any_also _ (λ host. IntegFlows host label) (λ host all p within trusts. all p within (inside p trusts)) bad far

-- ---- blocks

module _ (principals : Declared) (program : Program) (scene : ExposedProgram program) (own : OwnMethod program) where
  abbrev exposure : Exposure
  exposure = scene.exposure

  abbrev labelled : Labelled
  labelled = labelled_in program scene

  abbrev setting : MethodSetting
  setting = setting_of principals (program_tree program) own.tree

  abbrev Far : List Backing → Type 0
  Far backing = AffectsAll principals exposure.bad backing

  shown : (x : VarId) → HasVariable (program_tree program) own.id x →
      IsAffected exposure.bad (label_of labelled x) → VariableIsAffected exposure x
  shown x has far =
      let found = variable_found (program_tree program) own.id x (all_labels labelled)
      (length-map exposure.variables Some ∙ scene.many) has in
      at found.0 found.1 (slice_get exposure.variables x.0) refl
    where
      at : (found : Option Label) → slice_get (all_labels labelled) x.0 ≡ Some found → (it : Option Label) →
          slice_get exposure.variables x.0 ≡ it → VariableIsAffected exposure x
      at found is None none =
          let never : None ≡ Some found =
          sym (slice_get-map Some exposure.variables x.0 ∙ ap (option_map Some) none) ∙ is in
          absurd (cc)
      at found is (Some label) there =
          let same : label_of labelled x ≡ label =
          ap (λ it. unwrap_or (unwrap_or it None) empty_label)
          (slice_get-map Some exposure.variables x.0 ∙ ap (option_map Some) there) in
          let P : Option Label → Type 0 = λ it. IsSomeAnd it (IsAffected exposure.bad) in
          let Q : Label → Type 0 = λ it. IsAffected exposure.bad it in
          subst P (sym there) (subst Q same far)

  -- ---- what backs a statement

  own_backed : (changed : List Label) (exprs : List ExprTree) (nested : List Backing) (p : ℕ) →
      Any (λ label. Trusts label p) changed → Any (Backs principals p)
      (map for_label changed ++ for_releases setting exprs ++ nested)
  own_backed changed exprs nested p some =
      any_left (Backs principals p) (map for_label changed ++ for_releases setting exprs) nested
      (any_left (Backs principals p) (map for_label changed) (for_releases setting exprs) (labels changed some))
    where
      labels : (list : List Label) → Any (λ label. Trusts label p) list → Any (Backs principals p) (map for_label list)
      labels [] none = absurd (any_none (λ label. Trusts label p) none)
      labels (label ∷ list) one = elim (any_first (λ it. Trusts it p) label list one) [
        | inl trusts ↦ any_here (Backs principals p) (for_label label) (map for_label list) trusts
        | inr later ↦ any_later (Backs principals p) (for_label label) (map for_label list) (labels list later)
      ]

  changes : (changed : List Label) (exprs : List ExprTree) (nested : List Backing) (label : Label) →
      ((p : ℕ) → Trusts label p → Any (λ it. Trusts it p) changed) →
      Far (map for_label changed ++ for_releases setting exprs ++ nested) → IsAffected exposure.bad label
  changes changed exprs nested label among far =
      label_in principals exposure.bad _ label (λ p trusts. own_backed changed exprs nested p (among p trusts)) far

  nested_far : (changed : List Label) (exprs : List ExprTree) (nested : List Backing) →
      Far (map for_label changed ++ for_releases setting exprs ++ nested) → Far nested
  nested_far changed exprs nested far =
      part_affected principals exposure.bad _ nested
      (λ p some. any_right (Backs principals p) (map for_label changed ++ for_releases setting exprs) nested some) far

  -- what backs the statement alone
  abbrev pub own_backing : StmtKind → List Backing
  own_backing (kind.Let x value) =
      map for_label (label_of labelled x ∷ []) ++ for_releases setting (expr_tree value ∷ []) ++ []
  own_backing (kind.SetField field value) =
      map for_label (field_label (program_tree program) field ∷ []) ++ for_releases setting (expr_tree value ∷ []) ++ []
  own_backing (kind.SetElement field index value) =
      map for_label (field_label (program_tree program) field ∷ [])
      ++ for_releases setting (expr_tree index ∷ expr_tree value ∷ []) ++ []
  own_backing (kind.If' guard m first n second) =
      map for_label [] ++ for_releases setting (expr_tree guard ∷ [])
      ++ all_backing (block_uses labelled setting (row_tree first) ++ block_uses labelled setting (row_tree second))
  own_backing (kind.While' guard m body) =
      map for_label [] ++ for_releases setting (expr_tree guard ∷ [])
      ++ all_backing (block_uses labelled setting (row_tree body))
  own_backing (kind.Call site called args into) =
      let found = method_at (program_tree program) called in
      map for_label (begin_label found ∷ map (label_of labelled) (params_of found) ++ labels_of labelled into)
      ++ for_releases setting (map expr_tree args.items) ++ []
  own_backing (kind.Return value) =
      map for_label (labels_of labelled own.tree.result) ++ for_releases setting (expr_tree value ∷ []) ++ []

  rest_in : (what : StmtKind) (heading : Heading) (rest : BlockTree) →
      IsBlockOf program own (statement_tree what heading rest) →
      IsBlockOf program own rest
  rest_in (kind.Let x value) heading rest there = there.2
  rest_in (kind.SetField field value) heading rest there = there.2
  rest_in (kind.SetElement field index value) heading rest there = there.3
  rest_in (kind.If' guard m first n second) heading rest there = there.3
  rest_in (kind.While' guard m body) heading rest there = there.2
  rest_in (kind.Call site called args into) heading rest there = there.3
  rest_in (kind.Return value) heading rest there = there.2

  both_parts : (one : List Backing) (inside uses : List StatementUse) → Far (one ++ all_backing (inside ++ uses)) →
      Far one × Far (all_backing uses)
  both_parts one inside uses far = (
    part_affected principals exposure.bad _ one (λ p some. any_left (Backs principals p) one _ some) far,
    part_affected principals exposure.bad _ (all_backing uses) (λ p some.
        let P : List Backing → Type 0 = λ list. Any (Backs principals p) list in
        any_right (Backs principals p) one _
        (subst P (sym (flat_map-append (λ it. it.backing) inside uses))
        (any_right (Backs principals p) (all_backing inside) (all_backing uses) some))) far,
  )

  parts : (what : StmtKind) (heading : Heading) (rest : BlockTree) →
      Far (all_backing (block_uses labelled setting (statement_tree what heading rest))) →
      Far (own_backing what) × Far (all_backing (block_uses labelled setting rest))
  parts (kind.Let x value) heading rest far =
      both_parts (own_backing (kind.Let x value)) [] (block_uses labelled setting rest) far
  parts (kind.SetField field value) heading rest far =
      both_parts (own_backing (kind.SetField field value)) [] (block_uses labelled setting rest) far
  parts (kind.SetElement field index value) heading rest far =
      both_parts (own_backing (kind.SetElement field index value)) [] (block_uses labelled setting rest) far
  parts (kind.If' guard m first n second) heading rest far =
      both_parts (own_backing (kind.If' guard m first n second))
      (block_uses labelled setting (row_tree first) ++ block_uses labelled setting (row_tree second)) (block_uses
      labelled setting rest) far
  parts (kind.While' guard m body) heading rest far =
      both_parts (own_backing (kind.While' guard m body)) (block_uses labelled setting (row_tree body)) (block_uses
      labelled setting rest) far
  parts (kind.Call site called args into) heading rest far =
      both_parts (own_backing (kind.Call site called args into)) [] (block_uses labelled setting rest) far
  parts (kind.Return value) heading rest far =
      both_parts (own_backing (kind.Return value)) [] (block_uses labelled setting rest) far

  if_any : (x : Option VarId) → HasOptionalVariable (program_tree program) own.id x →
      ((label : Label) → Any (λ it. it ≡ label) (labels_of labelled x) → IsAffected exposure.bad label) →
      IfSome x (VariableIsAffected exposure)
  if_any None has each = tt
  if_any (Some x) has each =
      shown x has (each (label_of labelled x) (any_here (λ it. it ≡ label_of labelled x) (label_of labelled x) [] refl))

  among : (label : Label) (list : List Label) → Any (λ it. it ≡ label) list → (p : ℕ) → Trusts label p →
      Any (λ it. Trusts it p) list
  among label list some p trusts =
      any_also (λ it. it ≡ label) (λ it. Trusts it p)
      (λ it same. let P : Label → Type 0 = λ l. Trusts l p in subst P (sym same) trusts) list some

  mutual
    pub what_left : (what : StmtKind) (heading : Heading) (rest : BlockTree) →
        IsBlockOf program own (statement_tree what heading rest) → Far (own_backing what) →
        IsIdle program exposure own.tree.result what
    what_left (kind.Let x value) heading rest there far =
        shown x there.0 (changes (label_of labelled x ∷ []) (expr_tree value ∷ []) [] (label_of labelled x)
        (λ p trusts. any_here (λ it. Trusts it p) (label_of labelled x) [] trusts) far)
    what_left (kind.SetField field value) heading rest there far =
        field_affected program scene _ field there.0
        (changes (field_label (program_tree program) field ∷ []) (expr_tree value ∷ []) [] (field_label (program_tree
        program) field)
        (λ p trusts. any_here (λ it. Trusts it p) (field_label (program_tree program) field) [] trusts) far)
    what_left (kind.SetElement field index value) heading rest there far =
        field_affected program scene _ field there.0
        (changes (field_label (program_tree program) field ∷ []) (expr_tree index ∷ expr_tree value ∷ []) []
        (field_label (program_tree program) field)
        (λ p trusts. any_here (λ it. Trusts it p) (field_label (program_tree program) field) [] trusts) far)
    what_left (kind.If' guard m first n second) heading rest there far =
        let one = block_uses labelled setting (row_tree first) in
        let two = block_uses labelled setting (row_tree second) in
        let inside = nested_far [] (expr_tree guard ∷ []) (all_backing (one ++ two)) far in
        let P : List Backing → Type 0 = λ list. Far list in
        let both = subst P (flat_map-append (λ (it : StatementUse). it.backing) one two) inside in (
          row_left first there.1 (part_affected principals exposure.bad _ (all_backing one)
              (λ p some. any_left (Backs principals p) (all_backing one) (all_backing two) some) both),
          row_left second there.2 (part_affected principals exposure.bad _ (all_backing two)
              (λ p some. any_right (Backs principals p) (all_backing one) (all_backing two) some) both),
        )
    what_left (kind.While' guard m body) heading rest there far =
        row_left body there.1
        (nested_far [] (expr_tree guard ∷ []) (all_backing (block_uses labelled setting (row_tree body))) far)
    what_left (kind.Call site called args into) heading rest there far =
        let found = method_at (program_tree program) called in
        let params = map (label_of labelled) (params_of found) in
        let changed = begin_label found ∷ params ++ labels_of labelled into in
        let exprs = map expr_tree args.items in (
          begin_affected program exposure called _ _ there.0
              (changes changed exprs [] (begin_label found) (λ p trusts.
              any_here (λ it. Trusts it p) (begin_label found) (params ++ labels_of labelled into) trusts) far),
          if_any into there.2 (λ label some.
              changes changed exprs [] label (λ p trusts.
              any_later (λ it. Trusts it p) (begin_label found) (params ++ labels_of labelled into)
              (any_right (λ it. Trusts it p) params (labels_of labelled into)
              (among label (labels_of labelled into) some p trusts))) far),
        )
    what_left (kind.Return value) heading rest there far =
        if_any own.tree.result own.result (λ label some.
        changes (labels_of labelled own.tree.result) (expr_tree value ∷ []) [] label (λ p trusts. among label (labels_of
        labelled own.tree.result) some p trusts) far)

    pub row_left : {n : _} → (row : kind.Row_of-Stmt n) → IsBlockOf program own (row_tree row) →
        Far (all_backing (block_uses labelled setting (row_tree row))) → AreIdle program exposure own.tree.result row
    row_left kind.end_of-Stmt there far = tt
    row_left (kind.more_of-Stmt id line what rest) there far =
        let heading : Heading = record { id = id; line = line } in
        let split = parts what heading (row_tree rest) far in (
          what_left what heading (row_tree rest) there split.0,
          row_left rest (rest_in what heading (row_tree rest) there) split.1,
        )
