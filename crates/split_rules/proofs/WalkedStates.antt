-- Walks in parts: one after another they go from the first state to the last, and the state behind a part counts what
-- the part has.
use Rattle.std.proofs.Common.{◌≡◌, ◌∙◌, ℕ, suc, List, [], ◌∷◌, ◌++◌, length, refl, ap, sym, subst, arith, append_assoc}
use Rattle.std.proofs.Common.{length-append, append-nil}
use Rattle.js_base.specs.declared.ids.HostId.{HostId}
use Rattle.host_code.specs.declared.instruction.Op.{Op}
use Rattle.host_code.specs.declared.instruction.Op.TheVariants as op
use Rattle.split_rules.specs.Emissions.{Emission, instruction, entry, stands, lands, Counts}
use Rattle.split_rules.specs.Emissions.{one_more_branch, counts_with, counts_after}
use Rattle.split_rules.specs.Flow.{Scope, Flow, Pending, State, counts_of, branched, after, EmissionFits, FlowGoes}

abbrev pub state_of : Flow → List HostId → ℕ → List Pending → List Pending → State
state_of flow named branches owed opened = record {
  flow = flow;
  named = named;
  branches = branches;
  owed = owed;
  opened = opened;
}

pub goes_on : (scope : Scope) (first : State) (xs ys : List Emission) (middle last : State) →
    FlowGoes scope first xs middle → FlowGoes scope middle ys last → FlowGoes scope first (xs ++ ys) last
goes_on scope first [] ys middle last one two =
    let P : State → Type 0 = λ state. FlowGoes scope state ys last in
    subst P (sym one) two
goes_on scope first (x ∷ xs) ys middle last one two =
    (one.0, goes_on scope (after first x) xs ys middle last one.1 two)

-- ---- counts

pub counts_more : (counts : Counts) (xs ys : List Emission) →
    counts_after counts (xs ++ ys) ≡ counts_after (counts_after counts xs) ys
counts_more counts [] ys = refl
counts_more counts (x ∷ xs) ys = counts_more (counts_with counts x) xs ys

counts_branched : (state : State) (me : HostId) (what : Op) →
    counts_of (branched state me what) ≡ one_more_branch what (counts_of state)
counts_branched state me (op.Branch guard number) = refl
counts_branched state me other = refl

counts_one : (state : State) (x : Emission) → counts_of (after state x) ≡ counts_with (counts_of state) x
counts_one state (instruction one) = counts_branched state one.host one.op
counts_one state (entry named) =
    ap (λ (many : ℕ). counted many) (one_longer state.named named.host)
  where
    counted : ℕ → Counts
    counted many = record { entries = many; branches = state.branches }

    one_longer : (hosts : List HostId) (host : HostId) → length (hosts ++ host ∷ []) ≡ suc (length hosts)
    one_longer hosts host = rw length-append (omega arith)
counts_one state (stands host number) = refl
counts_one state (lands host number) = refl

pub counts_behind : (scope : Scope) (first : State) (xs : List Emission) (last : State) → FlowGoes scope first xs last →
    counts_of last ≡ counts_after (counts_of first) xs
counts_behind scope first [] last goes = ap counts_of (sym goes)
counts_behind scope first (x ∷ xs) last goes =
    counts_behind scope (after first x) xs last goes.1 ∙ ap (λ counts. counts_after counts xs) (counts_one first x)

-- ---- parts

-- Emissions go from a state to one with this flow, where these entries are owed and these branches open. What was named
-- stays named.
pub record Reaches (scope : Scope) (first : State) (emissions : List Emission) (flow : Flow)
    (owed opened : List Pending) : Type 0 where
  pub more : List HostId
  pub branches : ℕ
  pub goes : FlowGoes scope first emissions (state_of flow (first.named ++ more) branches owed opened)

-- where nothing is named and no branch begins
pub reaches_flow : (scope : Scope) (flow behind : Flow) (named : List HostId) (branches : ℕ)
    (owed opened : List Pending) (emissions : List Emission) →
    FlowGoes scope (state_of flow named branches owed opened) emissions (state_of behind named branches owed opened) →
    Reaches scope (state_of flow named branches owed opened) emissions behind owed opened
reaches_flow scope flow behind named branches owed opened emissions goes =
    let P : List HostId → Type 0 = λ hosts. FlowGoes scope (state_of flow named branches owed opened) emissions
    (state_of behind hosts branches owed opened) in
    record { more = []; branches = branches; goes = subst P (sym (append-nil named)) goes }

-- one part and what follows it, which may use what the first part made of the counts
pub reaches_on : (scope : Scope) (first : State) (xs ys : List Emission) (flow behind : Flow)
    (owed opened owed_behind opened_behind : List Pending) → Reaches scope first xs flow owed opened →
    ((more : List HostId) (branches : ℕ) →
    counts_of (state_of flow (first.named ++ more) branches owed opened) ≡ counts_after (counts_of first) xs →
    Reaches scope (state_of flow (first.named ++ more) branches owed opened) ys behind owed_behind opened_behind) →
    Reaches scope first (xs ++ ys) behind owed_behind opened_behind
reaches_on scope first xs ys flow behind owed opened owed_behind opened_behind one follows =
    let middle = state_of flow (first.named ++ one.more) one.branches owed opened in
    let two = follows one.more one.branches (counts_behind scope first xs middle one.goes) in
    let P : List HostId → Type 0 = λ hosts. FlowGoes scope middle ys
    (state_of behind hosts two.branches owed_behind opened_behind) in
    record {
      more = one.more ++ two.more;
      branches = two.branches;
      goes = goes_on scope first xs ys middle _ one.goes
          (subst P (append_assoc first.named one.more two.more) two.goes);
    }

-- one emission that names nothing, and what follows it
pub reaches_step : (scope : Scope) (first : State) (x : Emission) (xs : List Emission) (flow : Flow)
    (owed opened : List Pending) → EmissionFits scope first x → (after first x).named ≡ first.named →
    Reaches scope (after first x) xs flow owed opened → Reaches scope first (x ∷ xs) flow owed opened
reaches_step scope first x xs flow owed opened fits same follows =
    let P : List HostId → Type 0 = λ hosts. FlowGoes scope (after first x) xs
    (state_of flow (hosts ++ follows.more) follows.branches owed opened) in
    record { more = follows.more; branches = follows.branches; goes = (fits, subst P same follows.goes) }

-- emissions that name nothing, and what follows them
pub goes_then : (scope : Scope) (first : State) (xs ys : List Emission) (flow behind : Flow) (branches : ℕ)
    (owed opened owed_behind opened_behind : List Pending) →
    FlowGoes scope first xs (state_of flow first.named branches owed opened) →
    Reaches scope (state_of flow first.named branches owed opened) ys behind owed_behind opened_behind →
    Reaches scope first (xs ++ ys) behind owed_behind opened_behind
goes_then scope first xs ys flow behind branches owed opened owed_behind opened_behind one two = record {
  more = two.more;
  branches = two.branches;
  goes = goes_on scope first xs ys (state_of flow first.named branches owed opened) _ one two.goes;
}
