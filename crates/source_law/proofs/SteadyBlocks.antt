-- The statements of a checked program that endorses nothing are steady.
use Rattle.std.proofs.Common.{◌≡◌, ◌∙◌, subst, inl, inr, ⊎_elim, ℕ, List, ◌++◌, length, map, Option, Some, None, IfSome}
use Rattle.std.specs.Prelude.{slice_index}
use Rattle.std.specs.List.{AllByRecursion, flat_map}
use Rattle.js_base.specs.declared.ids.StmtId.{StmtId}
use Rattle.js_base.specs.declared.ids.VarId.{VarId}
use Rattle.principals.specs.ActsFor.{Declared}
use Rattle.label_lattice.specs.declared.label.Label.{Label}
use Rattle.label_lattice.specs.Lattice.{join_of}
use Rattle.jif_tree.specs.declared.program.Program.{Program}
use Rattle.jif_tree.specs.declared.program.StmtKind.{StmtKind}
use Rattle.jif_tree.specs.declared.program.StmtKind as kind
use Rattle.jif_tree.specs.Altered.{Exposure, IsAffected, StatementIsAffected}
use Rattle.jif_tree.specs.Trees.{BlockTree, expr_tree, row_tree, statement_tree, program_tree}
use Rattle.jif_tree.specs.LabelRules.{MethodSetting, VariableLabels, setting_of, field_label, expr_label, guarded}
use Rattle.jif_tree.specs.LabelRules.{Holds, expr_constraints, argument_flows, labels_after, labels_after_assignment}
use Rattle.jif_tree.specs.LabelRules.{block_labels, method_at, params_of, result_of, return_flows, declared_labels}
use Rattle.jif_tree.specs.Labelling.{IsLabelledIfAny, AreLabelled}
use Rattle.jif_tree.specs.ValueLabels.{AreValuesLabelled}
use Rattle.jif_tree.proofs.LabelsKept.{Stay, stay_then, assignment_stays, block_stays, assigned_labelled}
use Rattle.need_labels.specs.Needs.{StatementUse, block_uses, IsNeed}
use Rattle.source_law.specs.Steady.{IsIdle, AreSteady, SetsWell, ArePassedWell, IsKeptWell}
use Rattle.source_law.specs.Unendorsed.{IsUnendorsedBlock}
use Rattle.source_law.proofs.AffectedLabels.{affected_up, integ_first, integ_second}
use Rattle.source_law.proofs.ExposedPrograms.{ExposedProgram, OwnMethod, IsNeeded, IsBlockOf, labelled_in}
use Rattle.source_law.proofs.ExposedPrograms.{field_affected}
use Rattle.source_law.proofs.Lists.{all_first, all_second}
use Rattle.source_law.proofs.IdleBlocks.{IsMet, variable_found, row_idle}
use Rattle.source_law.proofs.LeftBlocks.{from_need, what_left, own_backing}
use Rattle.source_law.proofs.SteadyValues.{params_same, result_same, clean_or_affected, flow_reaches, sets_well}
use Rattle.source_law.proofs.SteadyValues.{passed_well, kept_well, result_labelled}

module _ (principals : Declared) (program : Program) (scene : ExposedProgram program) (own : OwnMethod program) where
  abbrev exposure : Exposure
  exposure = scene.exposure

  abbrev setting : MethodSetting
  setting = setting_of principals (program_tree program) own.tree

  left : (id : StmtId) (line : ℕ) (what : StmtKind) (rest : BlockTree) →
      IsBlockOf program own (statement_tree what (record { id = id; line = line }) rest) →
      IsNeed principals (own_backing principals program scene own what) (slice_index exposure.needs id.0) →
      StatementIsAffected exposure id → IsIdle program exposure own.tree.result what
  left id line what rest there need far =
      what_left principals program scene own what (record { id = id; line = line }) rest there
      (from_need principals exposure.bad _ (slice_index exposure.needs id.0) need far)

  abbrev Uses : BlockTree → List StatementUse
  Uses block = block_uses (labelled_in program scene) setting block

  abbrev Needed : StatementUse → Type 0
  Needed = IsNeeded principals program scene

  pub row_steady : (pc : Label) (labels : VariableLabels) → length labels ≡ length (program_tree program).vars →
      Stay (declared_labels (program_tree program)) labels → {n : _} → (row : kind.Row_of-Stmt n) →
      Stay (labels_after setting pc labels (row_tree row)) scene.final →
      IsBlockOf program own (row_tree row) → AreLabelled setting pc labels (row_tree row) →
      AreValuesLabelled setting pc labels (row_tree row) → IsUnendorsedBlock (row_tree row) →
      AllByRecursion (IsMet principals) (block_labels setting pc labels (row_tree row)) →
      AllByRecursion Needed (Uses (row_tree row)) → AreSteady program exposure own.tree.result row
  row_steady pc labels many since kind.end_of-Stmt stay there has values pure met uses = tt
  row_steady pc labels many since (kind.more_of-Stmt id line (kind.Let x value) rest) stay there has values pure met
      uses =
      let from = expr_label setting pc labels (expr_tree value) in
      let after = labels_after_assignment labels x (join_of from pc) in
      let assigned = assignment_stays labels x (join_of from pc) in
      let later = stay_then after (labels_after setting pc after (row_tree rest)) scene.final
      (block_stays setting pc after (row_tree rest)) stay in
      let found = variable_found (program_tree program) own.id x labels many there.0 in
      let x_has = assigned_labelled labels x (join_of from pc) found.0 found.1 in
      let flows = (all_second (Holds principals) (expr_constraints setting pc labels (expr_tree value)) _ met.0).0 in (
        left id line (kind.Let x value) (row_tree rest) there uses.0,
        sets_well principals program scene own pc labels after (stay_then labels after scene.final assigned later) later
            x x_has value pure.0 there.1 values.0 flows,
        row_steady pc after (assigned.many ∙ many)
            (stay_then (declared_labels (program_tree program)) labels after since assigned) rest stay there.2 has
            values.1 pure.1 met.1 uses.1,
      )
  row_steady pc labels many since (kind.more_of-Stmt id line (kind.SetField field value) rest) stay there has values
      pure met uses =
      let from = expr_label setting pc labels (expr_tree value) in
      let to = field_label (program_tree program) field in
      let stays = stay_then labels (labels_after setting pc labels (row_tree rest)) scene.final
      (block_stays setting pc labels (row_tree rest)) stay in
      let flows = (all_second (Holds principals) (expr_constraints setting pc labels (expr_tree value)) _ met.0).0 in (
        left id line (kind.SetField field value) (row_tree rest) there uses.0,
        ⊎_elim (λ clean. inr clean)
            (λ far. inl (field_affected program scene _ field there.0
            (flow_reaches principals program scene own pc from to flows far)))
            (clean_or_affected principals program scene own pc labels stays value pure.0 there.1 values.0),
        row_steady pc labels many since rest stay there.2 has values.1 pure.1 met.1 uses.1,
      )
  row_steady pc labels many since (kind.more_of-Stmt id line (kind.SetElement field index value) rest) stay there has
      values pure met uses =
      let one = expr_constraints setting pc labels (expr_tree index) in
      let two = expr_constraints setting pc labels (expr_tree value) in
      let first = expr_label setting pc labels (expr_tree index) in
      let second = expr_label setting pc labels (expr_tree value) in
      let to = field_label (program_tree program) field in
      let stays = stay_then labels (labels_after setting pc labels (row_tree rest)) scene.final
      (block_stays setting pc labels (row_tree rest)) stay in
      let flows = (all_second (Holds principals) (one ++ two) _ met.0).0 in
      let reached = λ (far : IsAffected exposure.bad (join_of first second)).
      field_affected program scene _ field there.0
      (flow_reaches principals program scene own pc (join_of first second) to flows far) in (
        left id line (kind.SetElement field index value) (row_tree rest) there uses.0,
        ⊎_elim (λ clean. ⊎_elim (λ also. inr (clean, also))
            (λ far. inl (reached (affected_up exposure.bad second (join_of first second) (integ_second first second)
            far)))
            (clean_or_affected principals program scene own pc labels stays value pure.1 there.2 values.1))
            (λ far. inl (reached (affected_up exposure.bad first (join_of first second) (integ_first first second)
            far)))
            (clean_or_affected principals program scene own pc labels stays index pure.0 there.1 values.0),
        row_steady pc labels many since rest stay there.3 has values.2 pure.2 met.1 uses.1,
      )
  row_steady pc labels many since (kind.more_of-Stmt id line (kind.If' guard m first k second) rest) stay there has
      values pure met uses =
      let declared = declared_labels (program_tree program) in
      let own_label = expr_label setting pc labels (expr_tree guard) in
      let inside = guarded setting pc labels (expr_tree guard) in
      let between = labels_after setting inside labels (row_tree first) in
      let behind = labels_after setting inside between (row_tree second) in
      let first_stays = block_stays setting inside labels (row_tree first) in
      let second_stays = block_stays setting inside between (row_tree second) in
      let rest_stays = stay_then behind (labels_after setting pc behind (row_tree rest)) scene.final
      (block_stays setting pc behind (row_tree rest)) stay in
      let from_second = stay_then between behind scene.final second_stays rest_stays in
      let from_first = stay_then labels between scene.final first_stays from_second in
      let since_second = stay_then declared labels between since first_stays in
      let labels_one = block_labels setting inside labels (row_tree first) in
      let labels_two = block_labels setting inside between (row_tree second) in
      let uses_one = Uses (row_tree first) in
      let uses_two = Uses (row_tree second) in
      let both = all_first (IsMet principals) (labels_one ++ labels_two) _ met.1 in
      let one_met = all_first (IsMet principals) labels_one labels_two both in
      let two_met = all_second (IsMet principals) labels_one labels_two both in
      let both_uses = all_first Needed (uses_one ++ uses_two) _ uses.1 in (
        left id line (kind.If' guard m first k second) (row_tree rest) there uses.0,
        (
          ⊎_elim (λ clean. inl clean) (λ far.
              let up = affected_up exposure.bad own_label inside (integ_second pc own_label) far in
              inr (
                row_idle principals program scene own inside labels many first from_second there.1 has.0 one_met up,
                row_idle principals program scene own inside between (first_stays.many ∙ many) second rest_stays
                    there.2 has.1 two_met up,
              )) (clean_or_affected principals program scene own pc labels from_first guard pure.0 there.0 values.0),
          row_steady inside labels many since first from_second there.1 has.0 values.1 pure.1 one_met
              (all_first Needed uses_one uses_two both_uses),
          row_steady inside between (first_stays.many ∙ many) since_second second rest_stays there.2 has.1 values.2
              pure.2 two_met (all_second Needed uses_one uses_two both_uses),
        ),
        row_steady pc behind (second_stays.many ∙ first_stays.many ∙ many)
            (stay_then declared between behind since_second second_stays) rest stay there.3 has.2 values.3 pure.3
            (all_second (IsMet principals) (labels_one ++ labels_two) _ met.1)
            (all_second Needed (uses_one ++ uses_two) _ uses.1),
      )
  row_steady pc labels many since (kind.more_of-Stmt id line (kind.While' guard m body) rest) stay there has values pure
      met uses =
      let declared = declared_labels (program_tree program) in
      let own_label = expr_label setting pc labels (expr_tree guard) in
      let inside = guarded setting pc labels (expr_tree guard) in
      let behind = labels_after setting inside labels (row_tree body) in
      let body_stays = block_stays setting inside labels (row_tree body) in
      let rest_stays = stay_then behind (labels_after setting pc behind (row_tree rest)) scene.final
      (block_stays setting pc behind (row_tree rest)) stay in
      let from_body = stay_then labels behind scene.final body_stays rest_stays in
      let labels_one = block_labels setting inside labels (row_tree body) in
      let uses_one = Uses (row_tree body) in
      let one_met = all_first (IsMet principals) labels_one _ met.1 in (
        left id line (kind.While' guard m body) (row_tree rest) there uses.0,
        (
          ⊎_elim (λ clean. inl clean) (λ far. inr
              (row_idle principals program scene own inside labels many body rest_stays there.1 has.0 one_met
              (affected_up exposure.bad own_label inside (integ_second pc own_label) far)))
              (clean_or_affected principals program scene own pc labels from_body guard pure.0 there.0 values.0),
          row_steady inside labels many since body rest_stays there.1 has.0 values.1 pure.1 one_met
              (all_first Needed uses_one _ uses.1),
        ),
        row_steady pc behind (body_stays.many ∙ many) (stay_then declared labels behind since body_stays) rest stay
            there.2 has.1 values.2 pure.2 (all_second (IsMet principals) labels_one _ met.1)
            (all_second Needed uses_one _ uses.1),
      )
  row_steady pc labels many since (kind.more_of-Stmt id line (kind.Call site called args into) rest) stay there has
      values pure met uses =
      let exprs = map expr_tree args.items in
      let found = method_at (program_tree program) called in
      let stays = stay_then labels (labels_after setting pc labels (row_tree rest)) scene.final
      (block_stays setting pc labels (row_tree rest)) stay in
      let asked = all_second (Holds principals) (flat_map (expr_constraints setting pc labels) exprs) _ met.0 in
      let flows = all_first (Holds principals) (argument_flows setting pc labels exprs (params_of found)) _ asked.1 in
      let kept = all_second (Holds principals) (argument_flows setting pc labels exprs (params_of found)) _ asked.1 in
      let P : List VarId → Type 0 = λ params. ArePassedWell exposure params args.items in
      let Q : Option VarId → Type 0 = λ result. IsKeptWell exposure into result in (
        left id line (kind.Call site called args into) (row_tree rest) there uses.0,
        (
          subst P (params_same program called)
              (passed_well principals program scene own pc labels stays (params_of found) args.items has.0 pure.0
              there.1 values.0 flows),
          subst Q (result_same program called)
              (kept_well principals program scene own pc labels stays into (result_of found) has.1
              (result_labelled principals program scene own labels since called) kept),
        ),
        row_steady pc labels many since rest stay there.3 has.2 values.1 pure.1 met.1 uses.1,
      )
  row_steady pc labels many since (kind.more_of-Stmt id line (kind.Return value) rest) stay there has values pure met
      uses =
      let stays = stay_then labels (labels_after setting pc labels (row_tree rest)) scene.final
      (block_stays setting pc labels (row_tree rest)) stay in
      let holds = all_second (Holds principals) (expr_constraints setting pc labels (expr_tree value)) _ met.0 in (
        left id line (kind.Return value) (row_tree rest) there uses.0,
        by own.tree.result stays has.0 holds,
        row_steady pc labels many since rest stay there.2 has.1 values.1 pure.1 met.1 uses.1,
      )
    where
      by : (result : Option VarId) → Stay labels scene.final → IsLabelledIfAny labels result →
          AllByRecursion (Holds principals)
          (return_flows pc labels result (expr_label setting pc labels (expr_tree value))) →
          IfSome result (λ x. SetsWell exposure x value)
      by None stays labelled_too holds = tt
      by (Some x) stays labelled_too holds =
          sets_well principals program scene own pc labels labels stays stays x labelled_too value pure.0 there.1
          values.0 holds.0
