-- Blocks of a walk: where the token is on the host of its lane, all emissions of a block fit, and behind them nothing
-- goes on and no more is owed than before the lane.
use Rattle.std.proofs.Common.{◌≡◌, ◌∙◌, ℕ, suc, ◌+◌, ◌<◌, Bool}
use Rattle.std.proofs.Common.{List, [], ◌∷◌, ◌++◌, length, refl, ap, sym, subst, append-nil}
use Rattle.std.specs.Prelude.{Option, Some, None, ⊤}
use Rattle.js_base.specs.declared.ids.HostId.{HostId}
use Rattle.js_base.specs.declared.ids.VarId.{VarId}
use Rattle.js_base.specs.declared.ids.MethodId.{MethodId}
use Rattle.js_base.specs.declared.ids.StmtId.{StmtId}
use Rattle.label_lattice.specs.declared.label.Label.{Label}
use Rattle.jif_tree.specs.Trees.{ExprTree, Heading, BlockTree, done, set_local, set_field, set_element, branch, loop}
use Rattle.jif_tree.specs.Trees.{call}
use Rattle.jif_tree.specs.Trees.{give_back, ProgramTree}
use Rattle.jif_tree.specs.LabelRules.{guarded}
use Rattle.jif_tree.specs.WellNumbered.{HasOptionalVariable, IsExprIn, IsBlockIn, is_some}
use Rattle.host_code.specs.declared.instruction.Op.TheVariants as op
use Rattle.host_code.specs.Code.{host_of_site}
use Rattle.need_labels.specs.Labelled.{all_labels}
use Rattle.need_labels.specs.Plan.{PlanShape, statement_host}
use Rattle.msg_cost.specs.declared.spot.Spot.{Spot}
use Rattle.msg_cost.specs.Moves.{end_of, next_spot, carried_to, own_statements}
use Rattle.split_rules.specs.Emissions.{Emission, entry, stands, lands, Counts, counts_after}
use Rattle.split_rules.specs.Expressions.{reads_in, nodes_of, released_by}
use Rattle.split_rules.specs.Flow.{Scope, stopped, at, Pending, State}
use Rattle.split_rules.specs.Walk.{Walked, Around, Lane, lane_on, lane_behind, entry_id, need_of, under_token, emitted}
use Rattle.split_rules.specs.Walk.{expr_emissions, leave_emissions, move_emissions, end_emissions, releasing}
use Rattle.split_rules.specs.Walk.{call_emissions, block_emissions}
use Rattle.split_rules.proofs.WalkedStates.{state_of, goes_on, counts_more, Reaches, reaches_flow, reaches_on}
use Rattle.split_rules.proofs.WalkedStates.{goes_then}
use Rattle.split_rules.proofs.WalkedExpressions.{variable_there, own_nodes_fit, expr_goes}
use Rattle.split_rules.proofs.WalkedRiders.{IsGivenOne, rides_fit}
use Rattle.split_rules.proofs.WalkedMoves.{IsLaneOn, owed_by, entry_there, leave_goes, counts_at, MovesTo, move_goes}
use Rattle.split_rules.proofs.WalkedCalls.{IsWalkable, AreNamed, named_more, set_local_goes, set_field_goes}
use Rattle.split_rules.proofs.WalkedCalls.{set_element_goes, give_back_goes, call_goes}

-- each call site of a block has the host of its statement
abbrev pub AreSitesOf : List HostId → PlanShape → BlockTree → Type 0
AreSitesOf sites plan done = ⊤
AreSitesOf sites plan (set_local heading variable value rest) = AreSitesOf sites plan rest
AreSitesOf sites plan (set_field heading field value rest) = AreSitesOf sites plan rest
AreSitesOf sites plan (set_element heading field index value rest) = AreSitesOf sites plan rest
AreSitesOf sites plan (branch heading guard first second rest) =
    AreSitesOf sites plan first × AreSitesOf sites plan second × AreSitesOf sites plan rest
AreSitesOf sites plan (loop heading guard body rest) = AreSitesOf sites plan body × AreSitesOf sites plan rest
AreSitesOf sites plan (call heading site method args into rest) =
    (host_of_site sites site.0 ≡ Some (statement_host plan heading.id)) × AreSitesOf sites plan rest
AreSitesOf sites plan (give_back heading value rest) = AreSitesOf sites plan rest

-- a method is walked in which each number stands for something, and whose result is there
pub record IsInMethod (scope : Scope) (walked : Walked) (method : MethodId) (gives : Bool) : Type 0 where
  pub walkable : IsWalkable scope walked.labelled.program walked.planned
  pub result : HasOptionalVariable walked.labelled.program method walked.setting.result
  pub gives_it : is_some walked.setting.result ≡ gives

-- a block, or what is left of one, is walked from a lane on
abbrev Walks : Scope → Walked → Lane → List HostId → ℕ → List Pending → List Pending → List Emission → Type 0
Walks scope walked lane named branches owed opened emissions =
    Reaches scope (state_of (at lane.spot.host 0) named branches (owed_by lane ++ owed) opened) emissions stopped owed
    opened

-- ---- a statement and what follows it

-- what a statement does on its host
abbrev Owns : Scope → HostId → List HostId → ℕ → List Pending → List Pending → List Emission → Type 0
Owns scope host named branches owed opened emissions =
    Reaches scope (state_of (at host 0) named branches owed opened) emissions (at host 0) owed opened

statement_then : (scope : Scope) (walked : Walked) → IsWalkable scope walked.labelled.program walked.planned →
    (around : Around) (lane : Lane) → IsLaneOn scope lane → (statement : StmtId) (others : List StmtId)
    (named : List HostId) (branches : ℕ) (owed opened : List Pending) →
    AreNamed walked.labelled.program walked.planned named → (given : Option VarId) → IsGivenOne scope given →
    (own : List Emission) (rest : Counts → Lane → List Emission) (left : Counts) →
    let next = next_spot walked.planned lane.spot statement others in
    let counts = counts_at named branches in
    let moved = move_emissions walked around counts lane next (statement ∷ others) in
    left ≡ counts_after counts (moved ++ own) →
    (next.host ≡ statement_host walked.planned.plan statement →
    (named_there : List HostId) (branches_there : ℕ) (owed_there : List Pending) →
    AreNamed walked.labelled.program walked.planned named_there →
    counts_at named_there branches_there ≡ counts_after counts moved →
    Owns scope next.host named_there branches_there owed_there opened own) →
    ((lane_there : Lane) (named_there : List HostId) (branches_there : ℕ) → IsLaneOn scope lane_there →
    AreNamed walked.labelled.program walked.planned named_there →
    Walks scope walked lane_there named_there branches_there owed opened
    (rest (counts_at named_there branches_there) lane_there)) →
    Walks scope walked lane named branches owed opened
    (moved ++ own ++ rest left (lane_behind walked counts lane next given others))
statement_then scope walked walkable around lane there statement others named branches owed opened are given given_there
    own rest left left_is owns follows =
    reaches_on scope first (moved ++ own) (rest left lane_there) (at next.host 0) stopped owed_there opened owed opened
    (reaches_on scope first moved own (at next.host 0) (at next.host 0) owed_there opened owed_there opened
    moves.reaches
    (λ more branches_there is. owns moves.next_host (named ++ more) branches_there owed_there (are_more more) is))
    (λ more branches_there is.
    let P : HostId → Type 0 = λ host. Reaches scope
    (state_of (at host 0) (named ++ more) branches_there owed_there opened)
    (rest (counts_at (named ++ more) branches_there) lane_there) stopped owed opened in
    let Q : Counts → Type 0 = λ here. Reaches scope
    (state_of (at next.host 0) (named ++ more) branches_there owed_there opened) (rest here lane_there) stopped owed
    opened in
    subst Q (is ∙ sym left_is) (subst P moves.lane_host
    (follows lane_there (named ++ more) branches_there lane_fits (are_more more))))
  where
    program : ProgramTree
    program = walked.labelled.program

    next : Spot
    next = next_spot walked.planned lane.spot statement others

    counts : Counts
    counts = counts_at named branches

    first : State
    first = state_of (at lane.spot.host 0) named branches (owed_by lane ++ owed) opened

    moved : List Emission
    moved = move_emissions walked around (counts_at named branches) lane
        (next_spot walked.planned lane.spot statement others) (statement ∷ others)

    lane_there : Lane
    lane_there = lane_behind walked (counts_at named branches) lane
        (next_spot walked.planned lane.spot statement others) given others

    owed_there : List Pending
    owed_there = owed_by lane_there ++ owed

    moves : MovesTo scope walked around lane (statement ∷ others) named branches owed opened
        (statement_host walked.planned.plan statement) (next_spot walked.planned lane.spot statement others)
    moves = move_goes scope program walked walkable.scoped around lane there statement others named branches owed opened
        are.some

    lane_fits : IsLaneOn scope lane_there
    lane_fits = record {
      host = moves.there.host;
      back = moves.there.back;
      riding = rides_fit scope walked.planned (next_spot walked.planned lane.spot statement others) given others
          given_there;
    }

    are_more : (more : List HostId) → AreNamed walked.labelled.program walked.planned (named ++ more)
    are_more more = named_more walked.labelled.program walked.planned named are more

-- ---- branches and loops

-- a branch leads on to a host, or an entry stands there, where nothing goes on
one_lands : (scope : Scope) (host : HostId) (number : ℕ) (named : List HostId) (branches : ℕ)
    (owed opened : List Pending) →
    Reaches scope (state_of stopped named branches owed (record { host = host; number = number } ∷ opened))
    (lands host number ∷ []) (at host 0) owed opened
one_lands scope host number named branches owed opened =
    let P : List HostId → Type 0 = λ hosts. state_of (at host 0) named branches owed opened
    ≡ state_of (at host 0) hosts branches owed opened in
    record { more = []; branches = branches; goes = ((refl, refl), subst P (sym (append-nil named)) refl) }

one_stands : (scope : Scope) (host : HostId) (number : ℕ) (named : List HostId) (branches : ℕ)
    (owed opened : List Pending) →
    Reaches scope (state_of stopped named branches (record { host = host; number = number } ∷ owed) opened)
    (stands host number ∷ []) (at host 0) owed opened
one_stands scope host number named branches owed opened =
    let P : List HostId → Type 0 = λ hosts. state_of (at host 0) named branches owed opened
    ≡ state_of (at host 0) hosts branches owed opened in
    record { more = []; branches = branches; goes = ((refl, tt), subst P (sym (append-nil named)) refl) }

-- the blocks in a branch or a loop begin on its host
abbrev WalksOn : Scope → Walked → HostId → List Pending → List Pending → (Counts → List Emission) → Type 0
WalksOn scope walked host owed opened block =
    (named : List HostId) (branches : ℕ) → AreNamed walked.labelled.program walked.planned named →
    Reaches scope (state_of (at host 0) named branches owed opened) (block (counts_at named branches)) stopped owed
    opened

abbrev pub inside_of : Walked → Around → Heading → ExprTree → Around
inside_of walked around heading guard = record {
  owner = heading.id;
  pc = guarded walked.setting around.pc (all_labels walked.labelled) guard;
}

-- what a branch has before its first block, and all of it
abbrev pub branch_front : Walked → Around → Counts → Heading → ExprTree → Spot → List StmtId → List Emission
branch_front walked around here heading guard next others =
    entry (record {
      host = next.host;
      label = (inside_of walked around heading guard).pc;
      need = need_of walked.planned (under_token walked.planned next others);
    })
    ∷ emitted next.host around.pc heading.id (op.Push (entry_id here.entries))
    ∷ expr_emissions next.host around.pc heading.id 0 guard
    ++ releasing next.host around.pc heading.id (op.Branch (nodes_of 0 guard) here.branches) (released_by 0 guard) ∷ []

abbrev pub branch_own : List Emission → Counts → HostId → (Counts → List Emission) → (Counts → List Emission) →
    List Emission
branch_own front here host first second =
    let one = first (counts_after here front) in
    let between = lands host here.branches ∷ [] in
    let two = second (counts_after here (front ++ one ++ between)) in
    front ++ one ++ between ++ two ++ stands host here.entries ∷ []

branch_goes : (scope : Scope) (walked : Walked) → IsWalkable scope walked.labelled.program walked.planned →
    (method : MethodId) (around : Around) (heading : Heading) (guard : ExprTree) →
    IsExprIn walked.labelled.program method guard → (next : Spot) → next.host.0 < scope.hosts →
    (others : List StmtId) (first second : Counts → List Emission) (named : List HostId) (branches : ℕ)
    (owed opened : List Pending) → AreNamed walked.labelled.program walked.planned named →
    ((owed_there opened_there : List Pending) → WalksOn scope walked next.host owed_there opened_there first) →
    ((owed_there opened_there : List Pending) → WalksOn scope walked next.host owed_there opened_there second) →
    let here = counts_at named branches in
    Owns scope next.host named branches owed opened
    (branch_own (branch_front walked around here heading guard next others) here next.host first second)
branch_goes scope walked walkable method around heading guard there next within others first second named branches owed
    opened are first_goes second_goes =
    reaches_on scope start (front ++ one ++ between ++ two) (stands host (length named) ∷ []) stopped (at host 0)
    owed_there opened owed opened
    (reaches_on scope start (front ++ one ++ between) two (at host 0) stopped owed_there opened owed_there opened
    (reaches_on scope start (front ++ one) between stopped (at host 0) owed_there opened_there owed_there opened
    (reaches_on scope start front one (at host 0) stopped owed_there opened_there owed_there opened_there begins
    (λ more many is.
    let P : Counts → Type 0 = λ counts. Reaches scope
    (state_of (at host 0) (named ++ more) many owed_there opened_there)
    (first counts) stopped owed_there opened_there in
    subst P is (first_goes owed_there opened_there (named ++ more) many (are_more more))))
    (λ more many is. one_lands scope host branches (named ++ more) many owed_there opened))
    (λ more many is.
    let P : Counts → Type 0 = λ counts. Reaches scope
    (state_of (at host 0) (named ++ more) many owed_there opened) (second counts) stopped owed_there opened in
    subst P is (second_goes owed_there opened (named ++ more) many (are_more more))))
    (λ more many is. one_stands scope host (length named) (named ++ more) many owed opened)
  where
    host : HostId
    host = next.host

    here : Counts
    here = counts_at named branches

    start : State
    start = state_of (at next.host 0) named branches owed opened

    front : List Emission
    front = branch_front walked around (counts_at named branches) heading guard next others

    one : List Emission
    one = first (counts_after here front)

    between : List Emission
    between = lands next.host branches ∷ []

    two : List Emission
    two = second (counts_after here (front ++ one ++ between))

    owed_there : List Pending
    owed_there = record { host = next.host; number = length named } ∷ owed

    opened_there : List Pending
    opened_there = record { host = next.host; number = branches } ∷ opened

    are_more : (more : List HostId) → AreNamed walked.labelled.program walked.planned (named ++ more)
    are_more more = named_more walked.labelled.program walked.planned named are more

    begins : Reaches scope start front (at host 0) owed_there opened_there
    begins = record {
      more = next.host ∷ [];
      branches = suc branches;
      goes = (
        within,
        (
          (refl, entry_there named next.host [] (length named) refl are.some),
          goes_on scope (state_of (at next.host 0) (named ++ next.host ∷ []) branches owed_there opened)
              (expr_emissions next.host around.pc heading.id 0 guard)
              (releasing next.host around.pc heading.id (op.Branch (nodes_of 0 guard) branches)
              (released_by 0 guard) ∷ [])
              (state_of (at next.host (0 + reads_in guard)) (named ++ next.host ∷ []) branches owed_there opened) _
              (expr_goes scope walked.labelled.program walked.planned walkable.scoped method guard there next.host
              around.pc
              heading.id (named ++ next.host ∷ []) branches owed_there opened 0) (
                (
                  refl,
                  (
                    own_nodes_fit scope walked.labelled.program walked.planned walkable.scoped method guard there 0,
                    refl,
                  ),
                ),
                refl,
              ),
        ),
      );
    }

-- what a loop has before its body, and all of it
abbrev pub loop_front : Walked → Around → Counts → Heading → ExprTree → Spot → List StmtId → List Emission
loop_front walked around here heading guard next others =
    entry (record {
      host = next.host;
      label = (inside_of walked around heading guard).pc;
      need = need_of walked.planned (heading.id ∷ under_token walked.planned next others);
    })
    ∷ stands next.host here.entries
    ∷ expr_emissions next.host (inside_of walked around heading guard).pc heading.id 0 guard
    ++ releasing next.host (inside_of walked around heading guard).pc heading.id
    (op.Branch (nodes_of 0 guard) here.branches) (released_by 0 guard)
    ∷ emitted next.host (inside_of walked around heading guard).pc heading.id (op.Push (entry_id here.entries)) ∷ []

abbrev pub loop_own : List Emission → Counts → HostId → (Counts → List Emission) → List Emission
loop_own front here host body = front ++ body (counts_after here front) ++ lands host here.branches ∷ []

loop_goes : (scope : Scope) (walked : Walked) → IsWalkable scope walked.labelled.program walked.planned →
    (method : MethodId) (around : Around) (heading : Heading) (guard : ExprTree) →
    IsExprIn walked.labelled.program method guard → (next : Spot) → next.host.0 < scope.hosts →
    (others : List StmtId) (body : Counts → List Emission) (named : List HostId) (branches : ℕ)
    (owed opened : List Pending) → AreNamed walked.labelled.program walked.planned named →
    ((owed_there opened_there : List Pending) → WalksOn scope walked next.host owed_there opened_there body) →
    let here = counts_at named branches in
    Owns scope next.host named branches owed opened
    (loop_own (loop_front walked around here heading guard next others) here next.host body)
loop_goes scope walked walkable method around heading guard there next within others body named branches owed opened are
    body_goes =
    reaches_on scope start (front ++ inner) (lands host branches ∷ []) stopped (at host 0) owed opened_there owed opened
    (reaches_on scope start front inner (at host 0) stopped owed opened_there owed opened_there begins
    (λ more many is.
    let P : Counts → Type 0 = λ counts. Reaches scope
    (state_of (at host 0) (named ++ more) many owed opened_there) (body counts) stopped owed opened_there in
    subst P is (body_goes owed opened_there (named ++ more) many
    (named_more walked.labelled.program walked.planned named are more))))
    (λ more many is. one_lands scope host branches (named ++ more) many owed opened)
  where
    host : HostId
    host = next.host

    label : Label
    label = (inside_of walked around heading guard).pc

    start : State
    start = state_of (at next.host 0) named branches owed opened

    front : List Emission
    front = loop_front walked around (counts_at named branches) heading guard next others

    inner : List Emission
    inner = body (counts_after (counts_at named branches) front)

    opened_there : List Pending
    opened_there = record { host = next.host; number = branches } ∷ opened

    begins : Reaches scope start front (at host 0) owed opened_there
    begins = record {
      more = next.host ∷ [];
      branches = suc branches;
      goes = (
        within,
        (
          (refl, refl),
          goes_on scope (state_of (at next.host 0) (named ++ next.host ∷ []) branches owed opened)
              (expr_emissions next.host label heading.id 0 guard)
              (releasing next.host label heading.id (op.Branch (nodes_of 0 guard) branches) (released_by 0 guard)
              ∷ emitted next.host label heading.id (op.Push (entry_id (length named))) ∷ [])
              (state_of (at next.host (0 + reads_in guard)) (named ++ next.host ∷ []) branches owed opened) _
              (expr_goes scope walked.labelled.program walked.planned walkable.scoped method guard there next.host label
              heading.id (named ++ next.host ∷ []) branches owed opened 0) (
                (
                  refl,
                  (
                    own_nodes_fit scope walked.labelled.program walked.planned walkable.scoped method guard there 0,
                    refl,
                  ),
                ),
                ((refl, entry_there named next.host [] (length named) refl are.some), refl),
              ),
        ),
      );
    }

-- ---- blocks

block_ends : (scope : Scope) (walked : Walked) (around : Around) (lane : Lane) (named : List HostId) (branches : ℕ)
    (owed opened : List Pending) →
    Walks scope walked lane named branches owed opened (end_emissions around lane)
block_ends scope walked around lane named branches owed opened =
    goes_then scope (state_of (at lane.spot.host 0) named branches (owed_by lane ++ owed) opened)
    (leave_emissions around lane) (emitted (end_of lane.spot) around.pc around.owner op.Back ∷ [])
    (at (end_of lane.spot) 0) stopped branches owed opened owed opened
    (leave_goes scope around lane named branches owed opened)
    (reaches_flow scope (at (end_of lane.spot) 0) stopped named branches owed opened _ ((refl, tt), refl))

host_there : (scope : Scope) (walked : Walked) → IsWalkable scope walked.labelled.program walked.planned →
    (host : HostId) (statement : StmtId) → host ≡ statement_host walked.planned.plan statement →
    host.0 < scope.hosts
host_there scope walked walkable host statement is =
    let P : HostId → Type 0 = λ one. one.0 < scope.hosts in
    subst P (sym is) (walkable.scoped.statements statement)

-- a variable that keeps a result
into_there : (scope : Scope) (walked : Walked) → IsWalkable scope walked.labelled.program walked.planned →
    (method : MethodId) (into : Option VarId) → HasOptionalVariable walked.labelled.program method into →
    IsGivenOne scope into
into_there scope walked walkable method None there = tt
into_there scope walked walkable method (Some x) there =
    variable_there scope walked.labelled.program walked.planned walkable.scoped method x there

pub block_goes : (scope : Scope) (walked : Walked) (method : MethodId) (gives : Bool) →
    IsInMethod scope walked method gives → (block : BlockTree) →
    IsBlockIn walked.labelled.program method gives block → AreSitesOf scope.sites walked.planned.plan block →
    (around : Around) (lane : Lane) → IsLaneOn scope lane → (named : List HostId) (branches : ℕ)
    (owed opened : List Pending) → AreNamed walked.labelled.program walked.planned named →
    Walks scope walked lane named branches owed opened
    (block_emissions walked around (counts_at named branches) lane block)
block_goes scope walked method gives within done there sites around lane lane_there named branches owed opened are =
    block_ends scope walked around lane named branches owed opened
block_goes scope walked method gives within (set_local heading x value rest) there sites around lane lane_there named
    branches owed opened are =
    let program = walked.labelled.program in
    let planned = walked.planned in
    let next = next_spot planned lane.spot heading.id (own_statements rest) in
    statement_then scope walked within.walkable around lane lane_there heading.id (own_statements rest) named branches
    owed opened are (Some x)
    (variable_there scope program planned within.walkable.scoped method x there.0) _
    (λ counts lane_then. block_emissions walked around counts lane_then rest) _ refl
    (λ host_is named_there many owed_there are_there is.
    reaches_flow scope (at next.host 0) (at next.host 0) named_there many owed_there opened _
    (set_local_goes scope program planned within.walkable.scoped method x value there.0 there.1 next.host around.pc
    heading.id (carried_to planned next (own_statements rest)) named_there many owed_there opened))
    (λ lane_then named_there many lane_is are_there.
    block_goes scope walked method gives within rest there.2 sites around lane_then lane_is named_there many owed opened
    are_there)
block_goes scope walked method gives within (set_field heading field value rest) there sites around lane lane_there
    named
    branches owed opened are =
    let program = walked.labelled.program in
    let planned = walked.planned in
    let next = next_spot planned lane.spot heading.id (own_statements rest) in
    statement_then scope walked within.walkable around lane lane_there heading.id (own_statements rest) named branches
    owed opened are None tt _ (λ counts lane_then. block_emissions walked around counts lane_then rest) _ refl
    (λ host_is named_there many owed_there are_there is.
    reaches_flow scope (at next.host 0) (at next.host 0) named_there many owed_there opened _
    (set_field_goes scope program planned within.walkable.scoped method field value there.0 there.1 next.host around.pc
    heading.id named_there many owed_there opened))
    (λ lane_then named_there many lane_is are_there.
    block_goes scope walked method gives within rest there.2 sites around lane_then lane_is named_there many owed opened
    are_there)
block_goes scope walked method gives within (set_element heading field index value rest) there sites around lane
    lane_there named branches owed opened are =
    let program = walked.labelled.program in
    let planned = walked.planned in
    let next = next_spot planned lane.spot heading.id (own_statements rest) in
    statement_then scope walked within.walkable around lane lane_there heading.id (own_statements rest) named branches
    owed opened are None tt _ (λ counts lane_then. block_emissions walked around counts lane_then rest) _ refl
    (λ host_is named_there many owed_there are_there is.
    reaches_flow scope (at next.host 0) (at next.host 0) named_there many owed_there opened _
    (set_element_goes scope program planned within.walkable.scoped method field index value there.0 there.1 there.2
    next.host around.pc heading.id named_there many owed_there opened))
    (λ lane_then named_there many lane_is are_there.
    block_goes scope walked method gives within rest there.3 sites around lane_then lane_is named_there many owed opened
    are_there)
block_goes scope walked method gives within (branch heading guard first second rest) there sites around lane lane_there
    named branches owed opened are =
    let program = walked.labelled.program in
    let planned = walked.planned in
    let others = own_statements rest in
    let next = next_spot planned lane.spot heading.id others in
    let moved = move_emissions walked around (counts_at named branches) lane next (heading.id ∷ others) in
    let inside = inside_of walked around heading guard in
    let one : Counts → List Emission = λ counts. block_emissions walked inside counts (lane_on next.host) first in
    let two : Counts → List Emission = λ counts. block_emissions walked inside counts (lane_on next.host) second in
    let own : Counts → List Emission = λ here. branch_own (branch_front walked around here heading guard next others)
    here next.host one two in
    let here = counts_after (counts_at named branches) moved in
    statement_then scope walked within.walkable around lane lane_there heading.id others named branches owed opened are
    None tt
    (own here) (λ counts lane_then. block_emissions walked around counts lane_then rest) (counts_after here (own here))
    (sym (counts_more (counts_at named branches) moved (own here)))
    (λ host_is named_there many owed_there are_there is.
    let P : Counts → Type 0 = λ counts. Owns scope next.host named_there many owed_there opened (own counts) in
    let host_within = host_there scope walked within.walkable next.host heading.id host_is in
    let lane_is : IsLaneOn scope (lane_on next.host) = record { host = host_within; back = tt; riding = tt } in
    subst P is (branch_goes scope walked within.walkable method around heading guard there.0 next host_within others one
    two named_there many owed_there opened are_there
    (λ owed_in opened_in named_in many_in are_in. block_goes scope walked method gives within first there.1 sites.0
    inside (lane_on next.host) lane_is named_in many_in owed_in opened_in are_in)
    (λ owed_in opened_in named_in many_in are_in. block_goes scope walked method gives within second there.2 sites.1
    inside (lane_on next.host) lane_is named_in many_in owed_in opened_in are_in)))
    (λ lane_then named_there many lane_is are_there.
    block_goes scope walked method gives within rest there.3 sites.2 around lane_then lane_is named_there many owed
    opened
    are_there)
block_goes scope walked method gives within (loop heading guard body rest) there sites around lane lane_there named
    branches owed opened are =
    let program = walked.labelled.program in
    let planned = walked.planned in
    let others = own_statements rest in
    let next = next_spot planned lane.spot heading.id others in
    let moved = move_emissions walked around (counts_at named branches) lane next (heading.id ∷ others) in
    let inside = inside_of walked around heading guard in
    let inner : Counts → List Emission = λ counts. block_emissions walked inside counts (lane_on next.host) body in
    let own : Counts → List Emission = λ here. loop_own (loop_front walked around here heading guard next others)
    here next.host inner in
    let here = counts_after (counts_at named branches) moved in
    statement_then scope walked within.walkable around lane lane_there heading.id others named branches owed opened are
    None tt
    (own here) (λ counts lane_then. block_emissions walked around counts lane_then rest) (counts_after here (own here))
    (sym (counts_more (counts_at named branches) moved (own here)))
    (λ host_is named_there many owed_there are_there is.
    let P : Counts → Type 0 = λ counts. Owns scope next.host named_there many owed_there opened (own counts) in
    let host_within = host_there scope walked within.walkable next.host heading.id host_is in
    let lane_is : IsLaneOn scope (lane_on next.host) = record { host = host_within; back = tt; riding = tt } in
    subst P is (loop_goes scope walked within.walkable method around heading guard there.0 next host_within others inner
    named_there many owed_there opened are_there
    (λ owed_in opened_in named_in many_in are_in. block_goes scope walked method gives within body there.1 sites.0
    inside (lane_on next.host) lane_is named_in many_in owed_in opened_in are_in)))
    (λ lane_then named_there many lane_is are_there.
    block_goes scope walked method gives within rest there.2 sites.1 around lane_then lane_is named_there many owed
    opened
    are_there)
block_goes scope walked method gives within (call heading site called arguments into rest) there sites around lane
    lane_there named branches owed opened are =
    let program = walked.labelled.program in
    let planned = walked.planned in
    let others = own_statements rest in
    let next = next_spot planned lane.spot heading.id others in
    let left = under_token planned next others in
    let moved = move_emissions walked around (counts_at named branches) lane next (heading.id ∷ others) in
    let own : Counts → List Emission = λ here. call_emissions walked here next.host around.pc heading.id site called
    arguments into (carried_to planned next others) left in
    statement_then scope walked within.walkable around lane lane_there heading.id others named branches owed opened are
    into
    (into_there scope walked within.walkable method into there.2)
    (own (counts_after (counts_at named branches) moved))
    (λ counts lane_then. block_emissions walked around counts lane_then rest) _ refl
    (λ host_is named_there many owed_there are_there is.
    let P : Counts → Type 0 = λ counts. Owns scope next.host named_there many owed_there opened (own counts) in
    let host_within = host_there scope walked within.walkable next.host heading.id host_is in
    subst P is (call_goes scope walked within.walkable method site called arguments into
    (carried_to planned next others) left there.0 there.1 there.2
    next.host around.pc heading.id host_within (sites.0 ∙ ap Some (sym host_is)) named_there many owed_there opened
    are_there))
    (λ lane_then named_there many lane_is are_there.
    block_goes scope walked method gives within rest there.3 sites.1 around lane_then lane_is named_there many owed
    opened
    are_there)
block_goes scope walked method gives within (give_back heading value rest) there sites around lane lane_there named
    branches owed opened are =
    let program = walked.labelled.program in
    let planned = walked.planned in
    let next = next_spot planned lane.spot heading.id (own_statements rest) in
    statement_then scope walked within.walkable around lane lane_there heading.id (own_statements rest) named branches
    owed opened are None tt _ (λ counts lane_then. block_emissions walked around counts lane_then rest) _ refl
    (λ host_is named_there many owed_there are_there is.
    reaches_flow scope (at next.host 0) (at next.host 0) named_there many owed_there opened _
    (give_back_goes scope walked within.walkable.scoped method value there.1 within.result
    (within.gives_it ∙ there.0) next.host around.pc heading.id named_there many owed_there opened))
    (λ lane_then named_there many lane_is are_there.
    block_goes scope walked method gives within rest there.2 sites around lane_then lane_is named_there many owed opened
    are_there)
