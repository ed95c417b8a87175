-- What is due for which a misbehaving host is trusted is left out of a run, item by item.
use Rattle.std.proofs.Common.{◌≡◌, inl, inr, ℕ, true, Some, List, [], ◌∷◌, ◌++◌, map, refl, sym, subst}
use Rattle.std.specs.Prelude.{slice_index, Any}
use Rattle.std.specs.Bool.{Decides}
use Rattle.std.specs.List.{AllByRecursion}
use Rattle.std.proofs.lemmas.Bool.{eq-eqb}
use Rattle.js_base.specs.declared.ids.HostId.{HostId}
use Rattle.js_base.specs.declared.ids.MethodId.{MethodId}
use Rattle.js_base.specs.declared.ids.StmtId.{StmtId}
use Rattle.js_base.specs.declared.ids.VarId.{VarId}
use Rattle.label_lattice.specs.declared.label.Label.{Label}
use Rattle.label_lattice.specs.Label.{IsTrustedBy}
use Rattle.jif_tree.specs.declared.program.StmtKind.{StmtKind}
use Rattle.jif_tree.specs.declared.program.StmtKind as kind
use Rattle.jif_tree.specs.Altered.{Altered, StatementIsAffected, VariableIsAffected, MayBeLeft, leaves_out}
use Rattle.jif_tree.specs.LabelRules.{method_at, result_of}
use Rattle.jif_tree.specs.SourceRun as source
use Rattle.jif_tree.specs.SourceRun.{Configuration}
use Rattle.jif_tree.specs.Trees.{BlockTree, Heading, done, statement_tree, head_of}
use Rattle.need_labels.specs.Plan.{statement_host}
use Rattle.msg_cost.specs.Moves.{PlannedShape, is_trusted_for}
use Rattle.entry_check.specs.Checks.{label_of_host}
use Rattle.split_rules.specs.Opening.{MayRun, MayRunAll, MayChange, GivesIn}
use Rattle.split_rules.specs.Positions.{DueWork, IsStatementOfMethod, IsOf, number_of, statement_due}
use Rattle.split_rules.specs.Typing.{AreDueOn}
use Rattle.net_world.specs.World.{WorldShape}
use Rattle.typed_steps.specs.Chains.{Duty, under}
use Rattle.typed_steps.specs.Threads as threads
use Rattle.typed_steps.specs.Threads.{alone, Owed, to_run, to_keep, item_of, duty_of, IsReturn, MayFollow, AreReturned}
use Rattle.typed_steps.specs.Threads.{ResultStandsOn, IsLeft}
use Rattle.typed_steps.specs.Variables.{HasResult, HostsHold}
use Rattle.typed_steps.specs.Views.{Split, View}
use Rattle.typed_steps.proofs.Basics.{all_map}
use Rattle.typed_steps.proofs.HeldSteps.{holds_now}
use Rattle.integrity.specs.Standing.{threat_in}
use Rattle.integrity.proofs.OpenSteps.{IsKnown, any_each, variable_affected}

-- ---- what is known

-- At an open place the code does nothing but what is open, those who have to trust the host of a statement are those of
-- the program, and whether a host is trusted for a statement is told by its label.
pub record IsTrusting (split : Split) : Type 0 where
  pub known : IsKnown (threat_in split)
  pub needs : split.exposure.needs ≡ split.planned.needs.need
  pub trust : (host : HostId) (label : Label) (statement : StmtId) → label_of_host split.code host ≡ Some label →
      Decides (is_trusted_for split.planned host statement)
      (IsTrustedBy label (slice_index split.planned.needs.need statement.0))

own_number : (what : StmtKind) (heading : Heading) → number_of (statement_tree what heading done) ≡ heading.id
own_number (kind.Let x value) heading = refl
own_number (kind.SetField field value) heading = refl
own_number (kind.SetElement field index value) heading = refl
own_number (kind.If' guard m first n second) heading = refl
own_number (kind.While' guard m body) heading = refl
own_number (kind.Call site method args into) heading = refl
own_number (kind.Return value) heading = refl

-- a return gives its value to the result of its method
returns_to : (planned : PlannedShape) (method : MethodId) (what : StmtKind) (heading : Heading) (x : VarId) →
    IsReturn what → result_of (method_at planned.program method) ≡ Some x →
    GivesIn planned method (statement_tree what heading done) x
returns_to planned method (kind.Return value) heading x returns is = is
returns_to planned method _ heading x returns is = absurd returns

-- ---- where a result is kept next

-- the host of the call whose result is to be kept next, if there is one
abbrev next_keeper : PlannedShape → HostId → List Owed → HostId
next_keeper planned keeper (to_keep call statement into result ∷ others) =
    statement_host planned.plan (number_of (alone statement))
next_keeper planned keeper others = keeper

keeper_stands : (split : Split) (keeper : HostId) (left : List Owed) →
    ResultStandsOn split (next_keeper split.planned keeper left) left
keeper_stands split keeper [] = tt
keeper_stands split keeper (to_run call statement ∷ others) = tt
keeper_stands split keeper (to_keep call statement into result ∷ others) =
    let host = statement_host split.planned.plan (number_of (alone statement)) in
    eq-eqb host.0 host.0 refl

-- ---- what is left out

-- An altered run leads to where nothing is left to do but this, and all hosts have of its end what they had.
pub record LeavesOut (split : Split) (c : Configuration) (view : View) (world : WorldShape) (rest : List Duty) : Type 0
  where
    pub now : Configuration
    pub more : List Configuration
    pub altered : Altered split.program split.exposure c more now
    pub store : now.store ≡ c.store
    pub calls : now.calls ≡ c.calls
    pub keeper : HostId
    pub left : IsLeft split now keeper rest
    pub result : HasResult split now (record view { keeper = keeper }) world

pub holds_left : (split : Split) (c : Configuration) (view : View) (world : WorldShape) (rest : List Duty) →
    HostsHold split c view world → (out : LeavesOut split c view world rest) →
    HostsHold split out.now (record view { keeper = out.keeper }) world
holds_left split c view world rest holds out =
    let bare : Configuration = record out.now { pending = [] } in
    let has =
    holds_now split c bare view world holds out.store out.calls
    (λ call into result behind is. absurd (let both : [] ≡ source.keep call into result ∷ behind = is in cc)) in
    record {
      fields = has.fields;
      known = has.known;
      apart = has.apart;
      named = λ call made.
          let one = has.named call made in
          record { made = one.made; is = one.is; caller = one.caller; method = one.method };
      fresh = has.fresh;
      valued = has.valued;
      agree = has.agree;
      result = out.result;
    }

-- a host is trusted for all that is due on it
pub all_run : (split : Split) → IsTrusting split → (host : HostId) (label : Label) →
    label_of_host split.code host ≡ Some label → (due : List DueWork) → AreDueOn split.planned host due →
    MayRunAll split.planned label due
all_run split is host label of_host =
    all_map (λ item. (is_trusted_for split.planned host (number_of (statement_due item)) ≡ true)
    × IsOf split.planned.program (statement_due item)) (λ item. MayRun split.planned label (statement_due item))
    (λ item on. ((is.trust host label (number_of (statement_due item)) of_host).0 on.0, on.1))

-- a misbehaving host is known by its label
module _ (split : Split) (is : IsTrusting split) (label : Label)
    (bad : Any (λ other. other ≡ label) split.exposure.bad) where
  -- a statement that it is trusted for may be affected
  affects_statement : (statement : BlockTree) → MayRun split.planned label statement →
      StatementIsAffected split.exposure (number_of statement)
  affects_statement statement may =
      let id = number_of statement in
      any_each (λ other. other ≡ label) (λ other. IsTrustedBy other (slice_index split.exposure.needs id.0))
      split.exposure.bad
      (λ other same.
      subst (λ one. IsTrustedBy one (slice_index split.exposure.needs id.0)) (sym same)
      (subst (λ needs. IsTrustedBy label (slice_index needs id.0)) (sym is.needs) may.0)) bad

  -- and so may what that gives a value
  affects_given : (method : MethodId) (statement : BlockTree) (x : VarId) →
      IsStatementOfMethod split.planned.program method statement → MayRun split.planned label statement →
      GivesIn split.planned method statement x → VariableIsAffected split.exposure x
  affects_given method statement x is_in may gives =
      let changes = (is.known.opens.statements label method statement is_in may.0).gives x gives in
      variable_affected (threat_in split) is.known x
      (any_each (λ other. other ≡ label) (λ other. MayChange split.code other x) split.exposure.bad
      (λ other same. subst (λ one. MayChange split.code one x) (sym same) changes) bad)

  may_leave : (owed : Owed) → threads.IsKnownWork split owed →
      MayRun split.planned label (statement_due (duty_of owed).due) → MayBeLeft split.exposure (item_of owed)
  may_leave (to_run call statement) known may =
      subst (StatementIsAffected split.exposure) (own_number statement.kind (head_of statement))
      (affects_statement (alone statement) may)
  may_leave (to_keep call statement into result) known may =
      affects_given may.1.0 (alone statement) into may.1.1 may
      (subst (λ tree. GivesIn split.planned may.1.0 tree into) (sym known.is) (inl refl))

  -- where an item was left out, the result that is to be kept next may be affected
  affects_kept : (owed : Owed) (behind : List Owed) → MayFollow split owed behind →
      MayRun split.planned label (statement_due (duty_of owed).due) → (call : ℕ) (into result : VarId)
      (others : List source.Item) → map item_of behind ≡ source.keep call into result ∷ others →
      VariableIsAffected split.exposure result
  affects_kept owed [] follows may call into result others is =
      absurd (let both : [] ≡ source.keep call into result ∷ others = is in cc)
  affects_kept owed (to_run number statement ∷ behind) follows may call into result others is =
      absurd (let both : source.run number statement ∷ map item_of behind ≡ source.keep call into result ∷ others = is
      in cc)
  affects_kept (to_run number statement) (to_keep caller from kept given ∷ behind) follows may call into result others
      is =
      let both : source.keep caller kept given ∷ map item_of behind ≡ source.keep call into result ∷ others = is in
      let same : given ≡ result = cc in
      subst (VariableIsAffected split.exposure) same
      (affects_given follows.1.0 (alone statement) given follows.1.1 may
      (returns_to split.planned follows.1.0 statement.kind (head_of statement) given follows.0 follows.1.2))
  affects_kept (to_keep number statement kept gives) (to_keep caller from also given ∷ behind) follows may call into
      result others is = absurd follows.0

  leave_all : (view : View) (world : WorldShape) (c : Configuration) (keeper : HostId) (call : ℕ) (above : List DueWork)
      (rest : List Duty) (left : List Owed) → c.pending ≡ map item_of left →
      under call above ++ rest ≡ map duty_of left → AllByRecursion (threads.IsKnownWork split) left →
      AreReturned split left → ResultStandsOn split keeper left →
      HasResult split c (record view { keeper = keeper }) world →
      MayRunAll split.planned label above → LeavesOut split c view world rest
  leave_all view world c keeper call [] rest left pending due known returned stands result may = record {
    now = c;
    more = [];
    altered = refl;
    store = refl;
    calls = refl;
    keeper = keeper;
    left = record {
      left = left;
      pending = pending;
      due = due;
      known = known;
      returned = returned;
      stands = stands;
    };
    result = result;
  }
  leave_all view world c keeper call (item ∷ above) rest [] pending due known returned stands result may = absurd (cc)
  leave_all view world c keeper call (item ∷ above) rest (owed ∷ behind) pending due known returned stands result may =
      let own : Duty = record { call = call; due = item } in
      let one : own ≡ duty_of owed = cc in
      let others : under call above ++ rest ≡ map duty_of behind = cc in
      let runs : MayRun split.planned label (statement_due (duty_of owed).due) =
      subst (λ (d : Duty). MayRun split.planned label (statement_due d.due)) one may.0 in
      let next : Configuration = record c { pending = map item_of behind } in
      let later =
      leave_all view world next (next_keeper split.planned keeper behind) call above rest behind refl others known.1
      returned.1 (keeper_stands split keeper behind) (λ caller into kept items state is at.
      inr (affects_kept owed behind returned.0 runs caller into kept items is)) may.1 in
      record {
        now = later.now;
        more = next ∷ later.more;
        altered = (
          leaves_out (item_of owed) (map item_of behind) pending (may_leave owed known.0 runs) refl,
          later.altered,
        );
        store = later.store;
        calls = later.calls;
        keeper = later.keeper;
        left = later.left;
        result = later.result;
      }

  -- what is due before the rest is left out
  pub left_out : (view : View) (world : WorldShape) (c : Configuration) (call : ℕ) (above : List DueWork)
      (rest : List Duty) → IsLeft split c view.keeper (under call above ++ rest) → HasResult split c view world →
      MayRunAll split.planned label above → LeavesOut split c view world rest
  left_out view world c call above rest left result may =
      leave_all view world c view.keeper call above rest left.left left.pending left.due left.known left.returned
      left.stands result may
