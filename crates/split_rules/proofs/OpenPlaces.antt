-- A place that is open to a host leads to places that are open to it, by the law of the instruction there and by what
-- statements bring about, and the host may change what the instruction changes.
use Rattle.std.proofs.Common.{◌≡◌, ℕ, inl, inr, List, [], ◌∷◌, map, sym, subst, refl}
use Rattle.std.specs.Prelude.{Some, slice_index}
use Rattle.std.specs.List.{AllByRecursion}
use Rattle.js_base.specs.declared.ids.HostId.{HostId}
use Rattle.js_base.specs.declared.ids.FieldId.{FieldId}
use Rattle.js_base.specs.declared.ids.VarId.{VarId}
use Rattle.js_base.specs.declared.ids.MethodId.{MethodId}
use Rattle.js_base.specs.declared.ids.SiteId.{SiteId}
use Rattle.label_lattice.specs.declared.label.Label.{Label}
use Rattle.label_lattice.specs.Label.{IsTrustedBy}
use Rattle.jif_tree.specs.Trees.{ExprTree, BlockTree, set_local, set_field, set_element, branch, loop, call, give_back}
use Rattle.jif_tree.specs.LabelRules.{method_at, params_of, result_of}
use Rattle.host_code.specs.declared.code_expr.Node.{Node}
use Rattle.host_code.specs.declared.instruction.Op.TheVariants as op
use Rattle.msg_cost.specs.Moves.{PlannedShape}
use Rattle.split_rules.specs.Placed.{PlacedProgram, planned_from}
use Rattle.split_rules.specs.Opening.{MayRun, MayRunAll, StoresTo, GivesIn, call_made, AreParamsOfCall}
use Rattle.split_rules.specs.Opening.{PassesParams, AreSentFrom, IsOpenTo}
use Rattle.split_rules.specs.Positions.{number_of, DueWork, Level, run, keep, statement_due, all_due, Argument}
use Rattle.split_rules.specs.Positions.{arguments_of, Calling, no_call, arguing, entering, Position, Entrance, calm}
use Rattle.split_rules.specs.Positions.{Forward, with_forwards, IsOut}
use Rattle.split_rules.specs.Typing.{EntryIs, need_due, IsParam, GivesVariable, Sets, Stores, GivesBackDue, Follows}
use Rattle.split_rules.specs.Typing.{Branches}
use Rattle.split_rules.specs.Typing.{Cuts, Pushes, Frames, Argues, Sends, Enters, EntersWith}
use Rattle.split_rules.specs.Walk.{other_readers}
use Rattle.split_rules.proofs.BackedLabels.{all_first, all_second, all_both}
use Rattle.split_rules.proofs.OpenStatements.{AffectsField, AffectsVariable, Brings, BringsCall, IsKnown}
use Rattle.split_rules.proofs.OpenStatements.{statement_brings, given_affected, stored_affected}
use Rattle.split_rules.proofs.Riding.{all_without, enters_riding}
use Rattle.split_rules.proofs.TrustedNeeds.{none_needed, both_needed}

-- an entry that is named is in the table, and the host is trusted for its need
pub record IsHeldEntry (label : Label) (entries : List Entrance) (number : ℕ) : Type 0 where
  pub position : Position
  pub need : ℕ
  pub is : EntryIs entries number position need
  pub trusted : IsTrustedBy label need

module _ (placed : PlacedProgram) (label : Label)
    (known : IsKnown placed.labelled (planned_from placed) placed.hosts.principals) (entries : List Entrance)
    (me : HostId) where
  abbrev planned : PlannedShape
  planned = planned_from placed

  brought : (statement : BlockTree) → (may : MayRun planned label statement) →
      Brings placed.labelled planned label (result_of (method_at placed.labelled.program may.1.0)) statement
  brought statement may = statement_brings placed label known may.1.0 statement may.1.1 may.0

  given_in : (method : MethodId) (statement : BlockTree) (x : VarId) → GivesVariable planned statement x →
      GivesIn planned method statement x
  given_in method (give_back heading value rest) x never = absurd never
  given_in method _ x is = is

  pub affected : (statement : BlockTree) (x : VarId) → MayRun planned label statement →
      GivesVariable planned statement x →
      AffectsVariable placed.labelled label x
  affected statement x may is =
      given_affected placed.labelled planned label may.1.0 statement x (brought statement may)
      (given_in may.1.0 statement x is)

  -- ---- positions

  pub calm_open : (level : Level) (due : List DueWork) → MayRunAll planned label due →
      IsOpenTo planned label (calm level due)
  calm_open level due may = record { due = may; sent = tt; calls = tt; params = tt }

  sent_to : (source : BlockTree) (x : VarId) → MayRun planned label source → GivesVariable planned source x →
      (to : List HostId) →
      AreSentFrom planned label (map (λ host. record { variable = x; host = host; source = source }) to)
  sent_to source x may gives [] = tt
  sent_to source x may gives (host ∷ to) = ((may, gives), sent_to source x may gives to)

  -- what an assignment sets it gives
  set_gives : (here : Position) (first : DueWork) (x : VarId) (nodes : List Node) → Sets planned here first x nodes →
      GivesVariable planned (statement_due first) x
  set_gives here (run (set_local heading variable value rest)) x nodes sets = sets.0
  set_gives here (keep (call heading site method arguments into rest)) x nodes sets = inl sets.2
  set_gives here _ x nodes sets = absurd sets

  pub let_open : (here next : Position) (x : VarId) (nodes : List Node) → IsOpenTo planned label here →
      Follows planned entries me here (op.Let x nodes) next →
      AffectsVariable placed.labelled label x × IsOpenTo planned label next
  let_open here next x nodes open_here law =
      let due = subst (MayRunAll planned label) law.2.due open_here.due in
      let gives = set_gives here law.0 x nodes law.4 in (
        affected (statement_due law.0) x due.0 gives,
        subst (IsOpenTo planned label) (sym law.5) (record {
          due = due.1;
          sent = sent_to (statement_due law.0) x due.0 gives (other_readers planned me x);
          calls = tt;
          params = tt;
        }),
      )

  -- what an assignment to a field stores to
  put_stores : (here : Position) (first : DueWork) (field : FieldId) (index nodes : List Node) →
      Stores here first field index nodes → StoresTo (statement_due first) field
  put_stores here (run (set_field heading to value rest)) field index nodes stores = stores.0
  put_stores here (run (set_element heading to at value rest)) field index nodes stores = stores.0
  put_stores here _ field index nodes stores = absurd stores

  pub put_open : (here next : Position) (field : FieldId) (index nodes : List Node) → IsOpenTo planned label here →
      Follows planned entries me here (op.Put field index nodes) next →
      AffectsField placed.labelled label field × IsOpenTo planned label next
  put_open here next field index nodes open_here law =
      let due = subst (MayRunAll planned label) law.2.due open_here.due in (
        stored_affected placed.labelled planned label _ (statement_due law.0) field
            (brought (statement_due law.0) due.0)
            (put_stores here law.0 field index nodes law.4),
        subst (IsOpenTo planned label) (sym law.5) (calm_open here.level law.1 due.1),
      )

  pub read_open : (here next : Position) (field : FieldId) (index : List Node) → IsOpenTo planned label here →
      Follows planned entries me here (op.Read field index) next → IsOpenTo planned label next
  read_open here next field index open_here law = subst (IsOpenTo planned label) (sym law.goes) (record {
    due = open_here.due;
    sent = open_here.sent;
    calls = open_here.calls;
    params = open_here.params;
  })

  -- what has still to be sent the host affects
  out_affected : (x : VarId) (to : HostId) (forwards : List Forward) → AreSentFrom planned label forwards →
      IsOut forwards x to → AffectsVariable placed.labelled label x
  out_affected x to [] sent never = absurd never
  out_affected x to (forward ∷ others) sent (inl is) =
      subst (AffectsVariable placed.labelled label) is.0
      (affected forward.source forward.variable sent.0.0 sent.0.1)
  out_affected x to (forward ∷ others) sent (inr later) = out_affected x to others sent.1 later

  pub send_open : (here next : Position) (x : VarId) (to : HostId) → IsOpenTo planned label here →
      Sends here x to next → AffectsVariable placed.labelled label x × IsOpenTo planned label next
  send_open here next x to open_here law = (
    out_affected x to here.forwards open_here.sent law.1,
    subst (IsOpenTo planned label) (sym law.2) (record {
      due = open_here.due;
      sent = all_without (λ (forward : Forward). MayRun planned label forward.source
          × GivesVariable planned forward.source forward.variable) x to here.forwards open_here.sent;
      calls = open_here.calls;
      params = open_here.params;
    }),
  )

  -- ---- calls

  all_params : (params others : List VarId) (values : List ExprTree) →
      ((x : VarId) → IsParam x params → IsParam x others) →
      AllByRecursion (λ (one : Argument). IsParam one.param others) (arguments_of params values)
  all_params [] others [] within = tt
  all_params [] others (value ∷ values) within = tt
  all_params (param ∷ params) others [] within = tt
  all_params (param ∷ params) others (value ∷ values) within = (
    within param (inl refl),
    all_params params others values (λ x is. within x (inr is)),
  )

  pub frame_open : (here next : Position) (site : SiteId) (first : DueWork) (others : List DueWork) →
      here.due ≡ first ∷ others → IsOpenTo planned label here → Frames planned here first site next →
      IsOpenTo planned label next
  frame_open here next site (run (call heading own method arguments into rest)) others due_is open_here law =
      let due = subst (MayRunAll planned label) due_is open_here.due in
      let params = params_of (method_at placed.labelled.program method) in
      subst (IsOpenTo planned label) (sym law.1) (record {
        due = open_here.due;
        sent = tt;
        calls = (due.0, tt);
        params = all_params params params arguments (λ x is. is);
      })
  frame_open here next site _ others due_is open_here law = absurd law

  param_gives : (statement : BlockTree) (x : VarId) (value : ExprTree) (left : List Argument) →
      AreParamsOfCall planned statement (record { param = x; value = value } ∷ left) → GivesVariable planned statement x
  param_gives (call heading site method arguments into rest) x value left params = inr params.0
  param_gives _ x value left params = absurd params

  params_left : (statement : BlockTree) (one : Argument) (left : List Argument) →
      AreParamsOfCall planned statement (one ∷ left) → AreParamsOfCall planned statement left
  params_left (call heading site method arguments into rest) one left params = params.1
  params_left _ one left params = absurd params

  pub arg_open : (here next : Position) (x : VarId) (nodes : List Node) (calling : Calling) →
      here.calling ≡ calling → IsOpenTo planned label here → Argues planned me here calling x nodes next →
      AffectsVariable placed.labelled label x × IsOpenTo planned label next
  arg_open here next x nodes (arguing statement set left) is open_here law =
      let calls = subst (λ it. AllByRecursion (MayRun planned label) (call_made it)) is open_here.calls in
      let params = subst (AreParamsOfCall planned statement) law.is_next
      (subst (PassesParams planned) is open_here.params) in
      let gives = param_gives statement x law.value law.others params in (
        affected statement x calls.0 gives,
        subst (IsOpenTo planned label) (sym law.goes) (record {
          due = open_here.due;
          sent = all_both (λ (forward : Forward). MayRun planned label forward.source
              × GivesVariable planned forward.source forward.variable) here.forwards _ open_here.sent
              (sent_to statement x calls.0 gives (other_readers planned me x));
          calls = calls;
          params = params_left statement _ law.others params;
        }),
      )
  arg_open here next x nodes no_call is open_here law = absurd law
  arg_open here next x nodes (entering statement) is open_here law = absurd law

  -- ---- entries that are pushed

  pub cut_open : (here next : Position) (number : ℕ) → IsOpenTo planned label here →
      Cuts planned entries here number next → IsOpenTo planned label next
  cut_open here next number open_here law =
      let due = subst (MayRunAll planned label) law.due open_here.due in
      let P : DueWork → Type 0 = λ item. MayRun planned label (statement_due item) in
      subst (IsOpenTo planned label) (sym law.goes) (record {
        due = all_first P next.due law.behind due;
        sent = open_here.sent;
        calls = tt;
        params = tt;
      })

  pub call_open : (here next : Position) (statement : BlockTree) (set left : List Argument) (number : ℕ) →
      IsOpenTo planned label here → Pushes planned entries here (arguing statement set left) number next →
      IsOpenTo planned label next
  call_open here next (call heading site method arguments into rest) set left number open_here law =
      let due = subst (MayRunAll planned label) law.due open_here.due in
      let own : BringsCall placed.labelled planned label (method_at placed.labelled.program method) into =
      brought (call heading site method arguments into rest) due.0 in
      subst (IsOpenTo planned label) (sym law.goes) (record {
        due = own.body;
        sent = open_here.sent;
        calls = (due.0, tt);
        params = tt;
      })
  call_open here next _ set left number open_here law = absurd law

  -- ---- entries that are named

  needed_all : (due : List DueWork) → MayRunAll planned label due → IsTrustedBy label (need_due planned due)
  needed_all [] may = none_needed label
  needed_all (item ∷ due) may =
      both_needed label (slice_index placed.needs.need (number_of (statement_due item)).0) (need_due planned due)
      may.0.0
      (needed_all due may.1)

  pub cut_held : (here next : Position) (number : ℕ) → IsOpenTo planned label here →
      Cuts planned entries here number next → IsHeldEntry label entries number
  cut_held here next number open_here law =
      let due = subst (MayRunAll planned label) law.due open_here.due in
      let P : DueWork → Type 0 = λ item. MayRun planned label (statement_due item) in
      record {
        position = _;
        need = _;
        is = law.pushed;
        trusted = needed_all law.behind (all_second P next.due law.behind due);
      }

  pub go_held : (here there : Position) (number : ℕ) → IsOpenTo planned label here →
      EntryIs entries number there (need_due planned here.due) → IsHeldEntry label entries number
  go_held here there number open_here is =
      record { position = there; need = _; is = is; trusted = needed_all here.due open_here.due }

  pub call_held : (here next : Position) (statement : BlockTree) (set left : List Argument) (number : ℕ) →
      IsOpenTo planned label here → Pushes planned entries here (arguing statement set left) number next →
      IsHeldEntry label entries number
  call_held here next (call heading site method arguments into rest) set left number open_here law =
      record { position = _; need = _; is = law.pushed; trusted = needed_all here.due open_here.due }
  call_held here next _ set left number open_here law = absurd law

  pub method_held : (here : Position) (calling : Calling) (number : ℕ) → here.calling ≡ calling →
      IsOpenTo planned label here → Enters planned entries here calling number → IsHeldEntry label entries number
  method_held here (entering (call heading site method arguments into rest)) number is open_here law =
      let calls = subst (λ it. AllByRecursion (MayRun planned label) (call_made it)) is open_here.calls in
      let own : BringsCall placed.labelled planned label (method_at placed.labelled.program method) into =
      brought (call heading site method arguments into rest) calls.0 in
      record { position = _; need = _; is = law.4; trusted = own.head }
  method_held here _ number is open_here law = absurd law

  -- the same where parameters ride, by the position with nothing left to be sent
  pub riding_held : (here : Position) (number : ℕ) (riders : List VarId) (on : HostId) →
      IsOpenTo planned label here → EntersWith planned entries here here.calling number riders on →
      IsHeldEntry label entries number
  riding_held here number riders on open_here law =
      method_held (with_forwards here []) here.calling number refl
      (record { due = open_here.due; sent = tt; calls = open_here.calls; params = open_here.params })
      (enters_riding planned entries here here.calling number riders on law).0

  -- ---- branches and what is given back

  pub branch_open : (here next target : Position) (nodes : List Node) (first : DueWork) (others : List DueWork) →
      here.due ≡ first ∷ others → IsOpenTo planned label here → Branches here first others nodes next target →
      IsOpenTo planned label next × IsOpenTo planned label target
  branch_open here next target nodes (run (branch heading guard one other rest)) others due_is open_here law =
      let due = subst (MayRunAll planned label) due_is open_here.due in
      let own : MayRunAll planned label (all_due one) × MayRunAll planned label (all_due other) =
      brought (branch heading guard one other rest) due.0 in (
        subst (IsOpenTo planned label) (sym law.2) (calm_open here.level (all_due one) own.0),
        subst (IsOpenTo planned label) (sym law.3) (calm_open here.level (all_due other) own.1),
      )
  branch_open here next target nodes (run (loop heading guard inner rest)) others due_is open_here law =
      let due = subst (MayRunAll planned label) due_is open_here.due in
      let own : MayRunAll planned label (all_due inner) = brought (loop heading guard inner rest) due.0 in
      let P : DueWork → Type 0 = λ item. MayRun planned label (statement_due item) in (
        subst (IsOpenTo planned label) (sym law.1) (calm_open here.level _
            (all_both P (all_due inner) (run (loop heading guard inner rest) ∷ others) own due)),
        subst (IsOpenTo planned label) (sym law.2) (calm_open here.level others due.1),
      )
  branch_open here next target nodes _ others due_is open_here law = absurd law

  result_given : (here : Position) (first : DueWork) (nodes : List Node) (method : MethodId) (x : VarId) →
      GivesBackDue here first nodes → result_of (method_at placed.labelled.program method) ≡ Some x →
      GivesIn planned method (statement_due first) x
  result_given here (run (give_back heading value rest)) nodes method x gives is = is
  result_given here _ nodes method x gives is = absurd gives

  pub ret_open : (here next : Position) (x : VarId) (nodes : List Node) → IsOpenTo planned label here →
      Follows planned entries me here (op.Ret x nodes) next →
      AffectsVariable placed.labelled label x × IsOpenTo planned label next
  ret_open here next x nodes open_here law =
      let due = subst (MayRunAll planned label) law.2.due open_here.due in (
        given_affected placed.labelled planned label law.1 (statement_due law.0) x
            (statement_brings placed label known law.1 (statement_due law.0) law.8 due.0.0)
            (result_given here law.0 nodes law.1 x law.4 law.6),
        subst (IsOpenTo planned label) (sym law.7) (calm_open here.level [] tt),
      )
