-- In all that a walk gives, entries stand on their own hosts, and branches lead to instructions of theirs.
use Rattle.std.proofs.Common.{◌≡◌, ◌≢◌, ◌∙◌, ℕ, suc, ◌<◌, inl, inr, List, [], ◌∷◌, ◌++◌, map, length, drop}
use Rattle.std.proofs.Common.{Some, slice_get, refl, ap, sym, subst, arith, eq-eqb, ne_eqb}
use Rattle.std.proofs.lemmas.Bool.Decides.{eqb_tells}
use Rattle.std.specs.Prelude.{Option, ⊤}
use Rattle.std.specs.List.{AllByRecursion}
use Rattle.js_base.specs.declared.ids.HostId.{HostId}
use Rattle.host_decl.specs.Hosts.{HostsShape}
use Rattle.jif_tree.specs.Trees.{MethodTree}
use Rattle.jif_tree.specs.LabelRules.{method_at}
use Rattle.host_code.specs.declared.instruction.Op.{Op}
use Rattle.host_code.specs.declared.instruction.Op.TheVariants as op
use Rattle.need_labels.specs.Labelled.{Labelled}
use Rattle.msg_cost.specs.Moves.{PlannedShape, home_of}
use Rattle.split_rules.specs.Placed.{PlacedProgram, planned_from}
use Rattle.split_rules.specs.Emissions.{Emission, instruction, entry, stands, lands, Emitted, Counts, counts_after}
use Rattle.split_rules.specs.SplitCode.{emitted_on}
use Rattle.split_rules.specs.Walk.{method_entry, methods_emissions, program_emissions}
use Rattle.split_rules.specs.Flow.{Scope, Flow, stopped, at, awaited, Pending, State, counts_of, branched, after}
use Rattle.split_rules.specs.Flow.{flow_behind, flow_after, InstructionFitsFlow, IsOwedFirst, EmissionFits, FlowGoes}
use Rattle.split_rules.specs.WalkStart.{scope_of, front_emissions, walk_start, method_entries}
use Rattle.split_rules.specs.Splittable.{IsSplittable}
use Rattle.split_rules.specs.Settled.{host_standing, host_landing, IsOnSomeHost, IsOn, BranchIsOn, AreSettled}
use Rattle.split_rules.proofs.Places.{found}
use Rattle.split_rules.proofs.Pendings.{Numbered, of_entries, of_branches, before, mark, before_mark, passes_mark}
use Rattle.split_rules.proofs.Pendings.{count_kept, halves}
use Rattle.split_rules.proofs.Standing.{Placed}
use Rattle.split_rules.proofs.NumberedLists.{all_at}
use Rattle.split_rules.proofs.CodeItems.{statement_known}
use Rattle.split_rules.proofs.Fronts.{start_of, IsWalk, front_is, walk_there, all_stand}
use Rattle.split_rules.proofs.SoundParts.{given, given_emitted}
use Rattle.split_rules.proofs.SoundInstructions.{branch_number, branch_placed}
use Rattle.split_rules.proofs.WalkedStates.{counts_more, counts_behind}
use Rattle.split_rules.proofs.WalkedPrograms.{front_counted, program_goes}

-- ---- on which host it is placed first

abbrev host_first : Numbered → ℕ → List Emission → Option HostId
host_first of_entries number emissions = host_standing number emissions
host_first of_branches number emissions = host_landing number emissions

first_mark : (kind : Numbered) (host : HostId) (number : ℕ) (others : List Emission) →
    host_first kind number (mark kind host number ∷ others) ≡ Some host
first_mark of_entries host number others = rw (eq-eqb number number refl) refl
first_mark of_branches host number others = rw (eq-eqb number number refl) refl

past_mark : (kind : Numbered) (host : HostId) (other number : ℕ) (others : List Emission) → other ≢ number →
    host_first kind number (mark kind host other ∷ others) ≡ host_first kind number others
past_mark of_entries host other number others differ = rw (ne_eqb other number differ) refl
past_mark of_branches host other number others differ = rw (ne_eqb other number differ) refl

behind_mark : (kind : Numbered) (host on : HostId) (number other : ℕ) (others behind : List Emission) →
    host_first kind number (before kind number others ++ mark kind host number ∷ behind) ≡ Some host →
    host_first kind number (before kind number (mark kind on other ∷ others) ++ mark kind host number ∷ behind)
    ≡ Some host
behind_mark kind host on number other others behind so =
    let placed = mark kind host number ∷ behind in
    elim (eqb_tells other number) [
      | inl same ↦ ap (λ list. host_first kind number (list ++ placed))
          (ap (λ at. before kind number (mark kind on at ∷ others)) same.1 ∙ before_mark kind on number others)
          ∙ first_mark kind host number behind
      | inr differ ↦
          ap (λ list. host_first kind number (list ++ placed)) (passes_mark kind on other number differ.1 others)
          ∙ past_mark kind on other number (before kind number others ++ placed) differ.1 ∙ so
    ]

first_behind : (kind : Numbered) (host : HostId) (number : ℕ) (emissions behind : List Emission) →
    host_first kind number (before kind number emissions ++ mark kind host number ∷ behind) ≡ Some host
first_behind of_entries host number [] behind = first_mark of_entries host number behind
first_behind of_entries host number (instruction one ∷ others) behind =
    first_behind of_entries host number others behind
first_behind of_entries host number (entry named ∷ others) behind = first_behind of_entries host number others behind
first_behind of_entries host number (stands on other ∷ others) behind =
    behind_mark of_entries host on number other others behind (first_behind of_entries host number others behind)
first_behind of_entries host number (lands on other ∷ others) behind =
    first_behind of_entries host number others behind
first_behind of_branches host number [] behind = first_mark of_branches host number behind
first_behind of_branches host number (instruction one ∷ others) behind =
    first_behind of_branches host number others behind
first_behind of_branches host number (entry named ∷ others) behind =
    first_behind of_branches host number others behind
first_behind of_branches host number (stands on other ∷ others) behind =
    first_behind of_branches host number others behind
first_behind of_branches host number (lands on other ∷ others) behind =
    behind_mark of_branches host on number other others behind (first_behind of_branches host number others behind)

-- what is placed on a host is on no other
placed_on : (kind : Numbered) (host : HostId) (number : ℕ) (emissions : List Emission) →
    Placed kind host number emissions → IsOn host (host_first kind number emissions)
placed_on kind host number emissions so =
    let is : host_first kind number emissions ≡ Some host =
    ap (host_first kind number) so.is ∙ first_behind kind host number emissions so.behind in
    subst (IsOn host) (sym is) refl

-- ---- on the hosts that there are

abbrev FlowIsWithin : ℕ → Flow → Type 0
FlowIsWithin hosts stopped = ⊤
FlowIsWithin hosts (at host count) = host.0 < hosts
FlowIsWithin hosts (awaited host) = host.0 < hosts

abbrev AreWithin : ℕ → List Pending → Type 0
AreWithin hosts pendings = AllByRecursion (λ (pending : Pending). pending.host.0 < hosts) pendings

-- what goes on and what is pending is on one of so many hosts
record IsKnown (hosts : ℕ) (state : State) : Type 0 where
  pub flow : FlowIsWithin hosts state.flow
  pub owed : AreWithin hosts state.owed
  pub opened : AreWithin hosts state.opened

one_within : (hosts : ℕ) (scope : Scope) (state : State) (one : Emitted) (flow : Flow) →
    InstructionFitsFlow scope state one flow → FlowIsWithin hosts flow → one.host.0 < hosts
one_within hosts scope state one stopped fits within = absurd fits
one_within hosts scope state one (at host count) fits within =
    subst (λ (here : HostId). here.0 < hosts) fits.0 within
one_within hosts scope state one (awaited host) fits within = absurd fits

behind_within : (hosts : ℕ) (me : HostId) (count : ℕ) (what : Op) → me.0 < hosts →
    FlowIsWithin hosts (flow_behind me count what)
behind_within hosts me count op.Back within = tt
behind_within hosts me count (op.Go there on) within = tt
behind_within hosts me count (op.GoWith there on riders) within = tt
behind_within hosts me count other within = within

flow_within : (hosts : ℕ) (one : Emitted) (flow : Flow) → one.host.0 < hosts → FlowIsWithin hosts flow →
    FlowIsWithin hosts (flow_after flow one)
flow_within hosts one stopped own within = tt
flow_within hosts one (at host count) own within = behind_within hosts one.host count one.op own
flow_within hosts one (awaited host) own within = within

branched_known : (hosts : ℕ) (state : State) (me : HostId) (what : Op) → me.0 < hosts → IsKnown hosts state →
    IsKnown hosts (branched state me what)
branched_known hosts state me (op.Branch guard number) within known =
    record { flow = known.flow; owed = known.owed; opened = (within, known.opened) }
branched_known hosts state me other within known = known

first_within : (hosts : ℕ) (host : HostId) (number : ℕ) (pendings : List Pending) → IsOwedFirst host number pendings →
    AreWithin hosts pendings → host.0 < hosts
first_within hosts host number [] first within = absurd first
first_within hosts host number (pending ∷ others) first within =
    subst (λ (one : Pending). one.host.0 < hosts) first within.0

others_within : (hosts : ℕ) (pendings : List Pending) → AreWithin hosts pendings → AreWithin hosts (drop 1 pendings)
others_within hosts [] within = tt
others_within hosts (pending ∷ others) within = within.1

known_after : (scope : Scope) (state : State) (emission : Emission) → EmissionFits scope state emission →
    IsKnown scope.hosts state → IsOnSomeHost scope.hosts emission × IsKnown scope.hosts (after state emission)
known_after scope state (instruction one) fits known =
    let own = one_within scope.hosts scope state one state.flow fits known.flow in
    let so = branched_known scope.hosts state one.host one.op own known in (
      own,
      record {
        flow = flow_within scope.hosts one state.flow own known.flow;
        owed = so.owed;
        opened = so.opened;
      },
    )
known_after scope state (entry named) fits known =
    (fits, record { flow = known.flow; owed = (fits, known.owed); opened = known.opened })
known_after scope state (stands host number) fits known =
    let own = first_within scope.hosts host number state.owed fits.0 known.owed in
    (own, record { flow = own; owed = others_within scope.hosts state.owed known.owed; opened = known.opened })
known_after scope state (lands host number) fits known =
    let own = first_within scope.hosts host number state.opened fits.0 known.opened in
    (own, record { flow = own; owed = known.owed; opened = others_within scope.hosts state.opened known.opened })

all_within : (scope : Scope) (state : State) (emissions : List Emission) (last : State) →
    FlowGoes scope state emissions last → IsKnown scope.hosts state →
    AllByRecursion (IsOnSomeHost scope.hosts) emissions
all_within scope state [] last goes known = tt
all_within scope state (emission ∷ others) last goes known =
    let so = known_after scope state emission goes.0 known in
    (so.0, all_within scope (after state emission) others last goes.1 so.1)

-- ---- and at the front

methods_known : (hosts : ℕ) (planned : PlannedShape) (number : ℕ) (methods : List MethodTree) →
    ((method : MethodTree) → (home_of planned method).0 < hosts) →
    AreWithin hosts (method_entries planned number methods)
methods_known hosts planned number [] homes = tt
methods_known hosts planned number (method ∷ methods) homes =
    (homes method, methods_known hosts planned (suc number) methods homes)

methods_within : (hosts : ℕ) (planned : PlannedShape) (methods : List MethodTree) (emissions : List Emission) →
    ((method : MethodTree) → (home_of planned method).0 < hosts) → AllByRecursion (IsOnSomeHost hosts) emissions →
    AllByRecursion (IsOnSomeHost hosts) (map (method_entry planned) methods ++ emissions)
methods_within hosts planned [] emissions homes within = within
methods_within hosts planned (method ∷ methods) emissions homes within =
    (homes method, methods_within hosts planned methods emissions homes within)

given_within : (labelled : Labelled) (hosts : HostsShape) (planned : PlannedShape) (main : MethodTree)
    (emissions : List Emission) (last : State) → IsWalk labelled hosts planned main emissions last →
    AllByRecursion (IsOnSomeHost (length hosts.hosts)) (given labelled planned main emissions)
given_within labelled hosts planned main emissions last walk =
    let many = length hosts.hosts in
    let methods = labelled.program.methods in
    let homes : (method : MethodTree) → (home_of planned method).0 < many =
    λ method. statement_known many planned.plan walk.among walk.some method.head in (
      homes main,
      (
        homes main,
        methods_within many planned methods emissions homes
            (all_within (scope_of labelled hosts planned.plan) (start_of planned main methods) emissions last walk.goes
            (record { flow = tt; owed = methods_known many planned 0 methods homes; opened = tt })),
      ),
    )

-- ---- branches

branch_below : (scope : Scope) (first : State) (emissions front : List Emission) (one : Emitted)
    (behind : List Emission) (last : State) → FlowGoes scope first emissions last →
    emissions ≡ front ++ instruction one ∷ behind → (guard : _) (number : ℕ) → one.op ≡ op.Branch guard number →
    number < last.branches
branch_below scope first emissions front one behind last goes is guard number what_is =
    let split = halves scope first front (instruction one ∷ behind) last
    (subst (λ (list : List Emission). FlowGoes scope first list last) is goes) in
    let middle = split.middle in
    let number_is = branch_number scope middle one middle.flow guard number what_is split.from.0 in
    let one_more : (after middle (instruction one)).branches ≡ suc middle.branches =
    ap (λ what. (branched middle one.host what).branches) what_is in
    let kept = count_kept of_branches scope (after middle (instruction one)) behind last split.from.1 in
    omega arith

branch_on : (labelled : Labelled) (hosts : HostsShape) (planned : PlannedShape) (main : MethodTree)
    (emissions : List Emission) (last : State) → IsWalk labelled hosts planned main emissions last →
    (front : List Emission) (one : Emitted) (behind : List Emission) →
    emissions ≡ front ++ instruction one ∷ behind → (me : HostId) → one.host ≡ me → (what : Op) → one.op ≡ what →
    BranchIsOn last.branches (given labelled planned main emissions) me what
branch_on labelled hosts planned main emissions last walk front one behind is me own (op.Branch guard number) what_is =
    let start = start_of planned main labelled.program.methods in
    let below = branch_below (scope_of labelled hosts planned.plan) start emissions front one behind last walk.goes is
    guard number what_is in
    let placed = branch_placed labelled hosts planned main emissions last walk front one behind is me own guard number
    what_is in
    (below, placed_on of_branches me number (given labelled planned main emissions) placed)
branch_on labelled hosts planned main emissions last walk front one behind is me own other what_is = tt

-- ---- the whole

given_settled : (labelled : Labelled) (hosts : HostsShape) (planned : PlannedShape) (main : MethodTree)
    (emissions : List Emission) (last : State) → IsWalk labelled hosts planned main emissions last →
    AreSettled (length hosts.hosts) last.branches (given labelled planned main emissions)
given_settled labelled hosts planned main emissions last walk =
    let all = given labelled planned main emissions in
    record {
      within = given_within labelled hosts planned main emissions last walk;
      entries = λ number named there. placed_on of_entries named.host number all
          (all_stand labelled hosts planned main emissions last walk number named there).placed;
      branches = λ host. all_at
          (λ (one : Emitted). (one.host ≡ host) × BranchIsOn last.branches all host one.op) (emitted_on host all)
          (λ place one there.
          let so = found host emissions place one
          (ap (λ list. slice_get list place) (sym (given_emitted host labelled planned main emissions)) ∙ there) in (
            so.own,
            branch_on labelled hosts planned main emissions last walk so.before one so.behind so.is host so.own
                one.op refl,
          ));
    }

-- all that a walk over a program gives
pub program_settled : (placed : PlacedProgram) → IsSplittable placed →
    let emissions = program_emissions placed in
    AreSettled (length placed.hosts.hosts) (counts_after (record { entries = 0; branches = 0 }) emissions).branches
    emissions
program_settled placed splittable =
    let planned = planned_from placed in
    let none : Counts = record { entries = 0; branches = 0 } in
    let front = front_emissions placed.labelled planned in
    let bodies = methods_emissions placed.hosts.principals placed.labelled planned (counts_after none front) 0
    placed.labelled.program.methods in
    let goes = program_goes placed splittable in
    let last = goes.0 in
    let main = splittable.numbered.main.0 in
    let main_is : method_at placed.labelled.program placed.labelled.program.main ≡ Some main =
    splittable.numbered.main.1 in
    let counted : counts_after none (front ++ bodies) ≡ counts_of last =
    counts_more none front bodies
    ∙ ap (λ counts. counts_after counts bodies) (front_counted placed.labelled planned main main_is)
    ∙ sym (counts_behind (scope_of placed.labelled placed.hosts placed.plan) (walk_start placed.labelled planned)
    bodies last goes.1) in
    let settled = given_settled placed.labelled placed.hosts planned main bodies last
    (walk_there placed bodies last splittable goes.1 goes.2) in
    let P : ℕ → Type 0 = λ count. AreSettled (length placed.hosts.hosts) count (front ++ bodies) in
    let Q : List Emission → Type 0 = λ list. AreSettled (length placed.hosts.hosts) last.branches (list ++ bodies) in
    subst P (ap (λ counts. counts.branches) (sym counted))
    (subst Q (sym (front_is placed.labelled planned main main_is)) settled)
