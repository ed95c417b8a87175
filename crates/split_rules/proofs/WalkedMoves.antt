-- A walk goes on where the token moves: from a lane to the next spot, with the entry behind what is lent.
use Rattle.std.proofs.Common.{◌≡◌, ◌≢◌, ℕ, ◌+◌, ◌<◌, Bool, true, false, cond, inl, inr, ◌⊎◌}
use Rattle.std.proofs.Common.{List, [], ◌∷◌, ◌++◌, length, refl, ap, sym, subst, arith, eq-eqb, ne_eqb, append_assoc}
use Rattle.std.proofs.Common.{length-append}
use Rattle.std.proofs.lemmas.Bool.Decides.{eqb_tells}
use Rattle.std.specs.Prelude.{Option, Some, None, slice_get, unwrap_or, ⊤}
use Rattle.js_base.specs.declared.ids.HostId.{HostId}
use Rattle.js_base.specs.declared.ids.EntryId.{EntryId}
use Rattle.js_base.specs.declared.ids.VarId.{VarId}
use Rattle.js_base.specs.declared.ids.StmtId.{StmtId}
use Rattle.jif_tree.specs.Trees.{ProgramTree}
use Rattle.host_code.specs.Code.{halt}
use Rattle.need_labels.specs.Plan.{statement_host}
use Rattle.msg_cost.specs.declared.spot.Spot.{Spot}
use Rattle.msg_cost.specs.Moves.{PlannedShape, is_same, is_trusted_for_all, host_behind, return_host, on, end_of}
use Rattle.msg_cost.specs.Moves.{entered, next_spot}
use Rattle.split_rules.specs.Emissions.{Counts, stands}
use Rattle.split_rules.specs.Flow.{Scope, at, Pending, State, IsNamedEntryOn, FlowGoes}
use Rattle.split_rules.specs.Walk.{Walked, Around, Lane, entry_id, leave_emissions, enter_emissions, move_emissions}
use Rattle.split_rules.specs.Walk.{lane_at, emitted, go_with}
use Rattle.split_rules.proofs.Places.{same_host}
use Rattle.split_rules.proofs.WalkedStates.{state_of, Reaches, reaches_flow, goes_then}
use Rattle.split_rules.proofs.WalkedExpressions.{IsScopeOf}
use Rattle.split_rules.proofs.WalkedRiders.{CanRide, go_goes}

-- ---- hosts

other_host : (first second : HostId) → first.0 ≢ second.0 → first ≢ second
other_host first second apart same = apart (ap (λ (one : HostId). one.0) same)

abbrev pub IsBackOn : Scope → Option HostId → Type 0
IsBackOn scope None = ⊤
IsBackOn scope (Some back) = back.0 < scope.hosts

-- the hosts of a lane are there, and what rides from it
pub record IsLaneOn (scope : Scope) (lane : Lane) : Type 0 where
  pub host : lane.spot.host.0 < scope.hosts
  pub back : IsBackOn scope lane.spot.back
  pub riding : CanRide scope lane.riding

end_there : (scope : Scope) (back : Option HostId) (host : HostId) → IsBackOn scope back → host.0 < scope.hosts →
    (unwrap_or back host).0 < scope.hosts
end_there scope None host behind there = there
end_there scope (Some back) host behind there = behind

-- what a lane has to give back
abbrev owes : Option HostId → ℕ → List Pending
owes None number = []
owes (Some back) number = record { host = back; number = number } ∷ []

abbrev pub owed_by : Lane → List Pending
owed_by lane = owes lane.spot.back lane.return_entry

-- ---- entries

pub at_last : {X : Type 0} (xs : List X) (x : X) (ys : List X) → slice_get (xs ++ x ∷ ys) (length xs) ≡ Some x
at_last [] x ys = refl
at_last (other ∷ xs) x ys = at_last xs x ys

pub no_halt : (number : ℕ) → 0 < number → entry_id number ≢ halt
no_halt number some same = let none : number ≡ 0 = ap (λ (one : EntryId). one.0) same in omega arith

pub entry_there : (named : List HostId) (host : HostId) (more : List HostId) (number : ℕ) → number ≡ length named →
    0 < number → IsNamedEntryOn (named ++ host ∷ more) host (entry_id number)
entry_there named host more number is some =
    let P : ℕ → Type 0 = λ place. slice_get (named ++ host ∷ more) place ≡ Some host in
    (no_halt number some, subst P (sym is) (at_last named host more))

-- ---- leaving

leave_from : (scope : Scope) (around : Around) (host : HostId) (back : Option HostId) (number : ℕ)
    (riders : List VarId) (named : List HostId) (branches : ℕ) (owed opened : List Pending) →
    let lane : Lane = record { spot = record { host = host; back = back }; return_entry = number; riding = riders } in
    FlowGoes scope (state_of (at host 0) named branches (owes back number ++ owed) opened) (leave_emissions around lane)
    (state_of (at (end_of lane.spot) 0) named branches owed opened)
leave_from scope around host None number riders named branches owed opened = refl
leave_from scope around host (Some back) number riders named branches owed opened = ((refl, tt), ((refl, tt), refl))

pub leave_goes : (scope : Scope) (around : Around) (lane : Lane) (named : List HostId) (branches : ℕ)
    (owed opened : List Pending) →
    FlowGoes scope (state_of (at lane.spot.host 0) named branches (owed_by lane ++ owed) opened)
    (leave_emissions around lane) (state_of (at (end_of lane.spot) 0) named branches owed opened)
leave_goes scope around lane named branches owed opened =
    leave_from scope around lane.spot.host lane.spot.back lane.return_entry lane.riding named branches owed opened

-- ---- entering

abbrev pub counts_at : List HostId → ℕ → Counts
counts_at named branches = record { entries = length named; branches = branches }

abbrev Enters : Scope → Walked → Around → List StmtId → List HostId → ℕ → List Pending → List Pending → HostId →
    List VarId → Spot → Type 0
Enters scope walked around statements named branches owed opened from riders next =
    Reaches scope (state_of (at from 0) named branches owed opened)
    (enter_emissions walked around (counts_at named branches) from riders next statements)
    (at next.host 0) (owes next.back (length named) ++ owed) opened

stayed : (scope : Scope) (walked : Walked) (around : Around) (statements : List StmtId) (named : List HostId)
    (branches : ℕ) (owed opened : List Pending) (from host : HostId) (riders : List VarId) → from.0 ≡ host.0 →
    Enters scope walked around statements named branches owed opened from riders (on host)
stayed scope walked around statements named branches owed opened from host riders same =
    rw (eq-eqb from.0 host.0 same) (reaches_flow scope (at from 0) (at host 0) named branches owed opened []
    (ap (λ one. state_of (at one 0) named branches owed opened) (same_host from host same)))

handed : (scope : Scope) (walked : Walked) (around : Around) (statements : List StmtId) (named : List HostId)
    (branches : ℕ) (owed opened : List Pending) (from host : HostId) (riders : List VarId) → CanRide scope riders →
    0 < length named → from.0 ≢ host.0 → host.0 < scope.hosts →
    Enters scope walked around statements named branches owed opened from riders (on host)
handed scope walked around statements named branches owed opened from host riders can some apart within =
    let back = other_host host from (λ same. apart (sym same)) in
    rw (ne_eqb from.0 host.0 apart) (record {
      more = host ∷ [];
      branches = branches;
      goes = (
        within,
        go_goes scope from host around.pc around.owner (entry_id (length named)) riders (named ++ host ∷ []) branches
            (record { host = host; number = length named } ∷ owed) opened can
            (entry_there named host [] (length named) refl some) (within, back) (stands host (length named) ∷ [])
            (state_of (at host 0) (named ++ host ∷ []) branches owed opened) ((refl, tt), refl),
      );
    })

abbrev pub lent_spot : HostId → HostId → Spot
lent_spot host back = record { host = host; back = Some back }

lent : (scope : Scope) (walked : Walked) (around : Around) (statements : List StmtId) (named : List HostId)
    (branches : ℕ) (owed opened : List Pending) (from host back : HostId) (riders : List VarId) →
    CanRide scope riders → 0 < length named → from.0 ≢ host.0 → host.0 < scope.hosts → back.0 < scope.hosts →
    Enters scope walked around statements named branches owed opened from riders (lent_spot host back)
lent scope walked around statements named branches owed opened from host back riders can some apart within
    back_within =
    elim (eqb_tells from.0 back.0) [
      | inl same ↦
          let P : HostId → Type 0 = λ one. IsNamedEntryOn both one (entry_id (length named)) in
          rw (ne_eqb from.0 host.0 apart, same.0) (record {
            more = back ∷ host ∷ [];
            branches = branches;
            goes = (
              back_within,
              (
                within,
                (
                  (refl, subst P (sym (same_host from back same.1)) first),
                  goes,
                ),
              ),
            );
          })
      | inr other ↦
          rw (ne_eqb from.0 host.0 apart, other.0) (record {
            more = back ∷ host ∷ [];
            branches = branches;
            goes = (
              back_within,
              (
                within,
                (
                  (refl, (first, (back_within, other_host back from (λ same. other.1 (sym same))))),
                  goes,
                ),
              ),
            );
          })
    ]
  where
    both : List HostId
    both = (named ++ back ∷ []) ++ host ∷ []

    long : length named + 1 ≡ length (named ++ back ∷ [])
    long = rw length-append (omega arith)

    first : IsNamedEntryOn both back (entry_id (length named))
    first =
        let P : List HostId → Type 0 = λ hosts. IsNamedEntryOn hosts back (entry_id (length named)) in
        subst P (sym (append_assoc named (back ∷ []) (host ∷ [])))
        (entry_there named back (host ∷ []) (length named) refl some)

    second : IsNamedEntryOn both host (entry_id (length named + 1))
    second = entry_there (named ++ back ∷ []) host [] (length named + 1) long (omega arith)

    pending : ℕ → Pending
    pending number = record { host = host; number = number }

    number_is : pending (length (named ++ back ∷ [])) ≡ pending (length named + 1)
    number_is = ap pending (sym long)

    behind : List HostId → State
    behind hosts =
        state_of (at host 0) hosts branches (record { host = back; number = length named } ∷ owed) opened

    ends : behind both ≡ behind (named ++ back ∷ host ∷ [])
    ends = ap behind (append_assoc named (back ∷ []) (host ∷ []))

    goes : FlowGoes scope (state_of (at from 0) both branches
        (pending (length (named ++ back ∷ [])) ∷ record { host = back; number = length named } ∷ owed) opened)
        (emitted from around.pc around.owner (go_with riders (entry_id (length named + 1)) host)
        ∷ stands host (length named + 1) ∷ [])
        (behind (named ++ back ∷ host ∷ []))
    goes = go_goes scope from host around.pc around.owner (entry_id (length named + 1)) riders both branches
        (pending (length (named ++ back ∷ [])) ∷ record { host = back; number = length named } ∷ owed) opened can second
        (within, other_host host from (λ same. apart (sym same))) (stands host (length named + 1) ∷ [])
        (behind (named ++ back ∷ host ∷ [])) ((number_is, tt), ends)

-- ---- where a segment begins

pub entered_here : (planned : PlannedShape) (from host : HostId) (statements : List StmtId) → from.0 ≡ host.0 →
    entered planned from host statements ≡ on host
entered_here planned from host statements same = rw (eq-eqb from.0 host.0 same) refl

pub entered_there : (planned : PlannedShape) (from host : HostId) (statements : List StmtId) → from.0 ≢ host.0 →
    (entered planned from host statements ≡ on host)
    ⊎ (entered planned from host statements ≡ lent_spot host (return_host planned from host statements))
entered_there planned from host statements apart = by (is_trusted_for_all planned host statements) refl
  where
    by : (b : Bool) → is_trusted_for_all planned host statements ≡ b →
        (entered planned from host statements ≡ on host)
        ⊎ (entered planned from host statements ≡ lent_spot host (return_host planned from host statements))
    by true is = inl (rw (ne_eqb from.0 host.0 apart, is) refl)
    by false is = inr (rw (ne_eqb from.0 host.0 apart, is) refl)

pub one_of_two : {X : Type 0} (P : X → Type 0) (b : Bool) (x y : X) → P x → P y → P (cond b x y)
one_of_two P true x y one two = one
one_of_two P false x y one two = two

behind_there : (scope : Scope) (program : ProgramTree) (planned : PlannedShape) → IsScopeOf scope program planned →
    (host : HostId) (statements : List StmtId) → IsBackOn scope (host_behind planned host statements)
behind_there scope program planned scoped host [] = tt
behind_there scope program planned scoped host (statement ∷ others) =
    one_of_two (IsBackOn scope) (is_same (statement_host planned.plan statement) host)
    (host_behind planned host others) (Some (statement_host planned.plan statement))
    (behind_there scope program planned scoped host others) (scoped.statements statement)

return_there : (scope : Scope) (program : ProgramTree) (planned : PlannedShape) → IsScopeOf scope program planned →
    (from host : HostId) (statements : List StmtId) → from.0 < scope.hosts →
    (return_host planned from host statements).0 < scope.hosts
return_there scope program planned scoped from host statements within =
    by (host_behind planned host statements) refl (behind_there scope program planned scoped host statements)
  where
    P : HostId → Type 0
    P one = one.0 < scope.hosts

    by : (behind : Option HostId) → host_behind planned host statements ≡ behind → IsBackOn scope behind →
        (return_host planned from host statements).0 < scope.hosts
    by None is there = rw is within
    by (Some next) is there = rw is (one_of_two P _ next from there within)

-- ---- moving

-- A lane moves to a spot on a host, and what it is then.
pub record MovesTo (scope : Scope) (walked : Walked) (around : Around) (lane : Lane) (statements : List StmtId)
    (named : List HostId) (branches : ℕ) (owed opened : List Pending) (host : HostId) (next : Spot) : Type 0 where
  pub reaches : Reaches scope (state_of (at lane.spot.host 0) named branches (owed_by lane ++ owed) opened)
      (move_emissions walked around (counts_at named branches) lane next statements)
      (at next.host 0) (owed_by (lane_at (counts_at named branches) lane next) ++ owed) opened
  pub there : IsLaneOn scope (lane_at (counts_at named branches) lane next)
  pub lane_host : (lane_at (counts_at named branches) lane next).spot.host ≡ next.host
  pub next_host : next.host ≡ host

-- it stays
unmoved : (scope : Scope) (walked : Walked) (around : Around) (lane : Lane) (statements : List StmtId)
    (named : List HostId) (branches : ℕ) (owed opened : List Pending) (host : HostId) → IsLaneOn scope lane →
    lane.spot.host.0 ≡ host.0 → MovesTo scope walked around lane statements named branches owed opened host lane.spot
unmoved scope walked around lane statements named branches owed opened host there same =
    let here = lane.spot.host in
    record {
      reaches = rw (eq-eqb here.0 here.0 refl) (reaches_flow scope (at here 0) (at here 0) named branches
          (owed_by lane ++ owed) opened [] refl);
      there = rw (eq-eqb here.0 here.0 refl) there;
      lane_host = rw (eq-eqb here.0 here.0 refl) refl;
      next_host = same_host here host same;
    }

-- it is left, and the next spot entered
moved : (scope : Scope) (walked : Walked) (around : Around) (lane : Lane) (statements : List StmtId)
    (named : List HostId) (branches : ℕ) (owed opened : List Pending) (next : Spot) →
    lane.spot.host.0 ≢ next.host.0 → next.host.0 < scope.hosts → IsBackOn scope next.back →
    Enters scope walked around statements named branches owed opened (end_of lane.spot) lane.riding next →
    MovesTo scope walked around lane statements named branches owed opened next.host next
moved scope walked around lane statements named branches owed opened next apart within back enters = record {
  reaches = rw (ne_eqb lane.spot.host.0 next.host.0 apart)
      (goes_then scope (state_of (at lane.spot.host 0) named branches (owed_by lane ++ owed) opened)
      (leave_emissions around lane)
      (enter_emissions walked around (counts_at named branches) (end_of lane.spot) lane.riding next statements)
      (at (end_of lane.spot) 0) (at next.host 0) branches owed opened (owes next.back (length named) ++ owed) opened
      (leave_goes scope around lane named branches owed opened) enters);
  there = rw (ne_eqb lane.spot.host.0 next.host.0 apart) (record { host = within; back = back; riding = tt });
  lane_host = rw (ne_eqb lane.spot.host.0 next.host.0 apart) refl;
  next_host = refl;
}

pub next_here : (planned : PlannedShape) (spot : Spot) (statement : StmtId) (others : List StmtId) →
    spot.host.0 ≡ (statement_host planned.plan statement).0 → next_spot planned spot statement others ≡ spot
next_here planned spot statement others same =
    rw (eq-eqb spot.host.0 (statement_host planned.plan statement).0 same) refl

pub next_there : (planned : PlannedShape) (spot : Spot) (statement : StmtId) (others : List StmtId) →
    spot.host.0 ≢ (statement_host planned.plan statement).0 →
    next_spot planned spot statement others
    ≡ entered planned (end_of spot) (statement_host planned.plan statement) (statement ∷ others)
next_there planned spot statement others apart =
    rw (ne_eqb spot.host.0 (statement_host planned.plan statement).0 apart) refl

-- from a lane to where a statement stands
pub move_goes : (scope : Scope) (program : ProgramTree) (walked : Walked) → IsScopeOf scope program walked.planned →
    (around : Around) (lane : Lane) → IsLaneOn scope lane → (statement : StmtId) (others : List StmtId)
    (named : List HostId) (branches : ℕ) (owed opened : List Pending) → 0 < length named →
    MovesTo scope walked around lane (statement ∷ others) named branches owed opened
    (statement_host walked.planned.plan statement) (next_spot walked.planned lane.spot statement others)
move_goes scope program walked scoped around lane there statement others named branches owed opened some =
    elim (eqb_tells lane.spot.host.0 host.0) [
      | inl same ↦ subst P (sym (next_here planned lane.spot statement others same.1))
          (unmoved scope walked around lane statements named branches owed opened host there same.1)
      | inr apart ↦ subst P (sym (next_there planned lane.spot statement others apart.1)) (leaves apart.1)
    ]
  where
    planned : PlannedShape
    planned = walked.planned

    host : HostId
    host = statement_host walked.planned.plan statement

    from : HostId
    from = end_of lane.spot

    statements : List StmtId
    statements = statement ∷ others

    P : Spot → Type 0
    P next = MovesTo scope walked around lane statements named branches owed opened host next

    within : host.0 < scope.hosts
    within = scoped.statements statement

    from_within : from.0 < scope.hosts
    from_within = end_there scope lane.spot.back lane.spot.host there.back there.host

    leaves : lane.spot.host.0 ≢ host.0 → P (entered walked.planned from host statements)
    leaves apart =
        elim (eqb_tells from.0 host.0) [
          | inl same ↦ subst P (sym (entered_here planned from host statements same.1))
              (moved scope walked around lane statements named branches owed opened (on host) apart within tt
              (stayed scope walked around statements named branches owed opened from host lane.riding same.1))
          | inr other ↦ elim (entered_there planned from host statements other.1) [
            | inl is ↦ subst P (sym is)
                (moved scope walked around lane statements named branches owed opened (on host) apart within tt
                (handed scope walked around statements named branches owed opened from host lane.riding there.riding
                some other.1 within))
            | inr is ↦ subst P (sym is)
                (moved scope walked around lane statements named branches owed opened
                (lent_spot host (return_host planned from host statements)) apart within
                (return_there scope program planned scoped from host statements from_within)
                (lent scope walked around statements named branches owed opened from host
                (return_host planned from host statements) lane.riding there.riding some other.1 within
                (return_there scope program planned scoped from host statements from_within)))
          ]
        ]
