-- Blocks: from a lane on, where the statements that are left are due, all emissions of a block are typed.
use Rattle.std.proofs.Common.{◌≡◌, ◌∙◌, Bool, true, false, List, [], ◌∷◌, ◌++◌, map, length, refl, ap, sym, subst}
use Rattle.std.proofs.Common.{◌<◌, inl, true≢false, append_assoc, eqb-true}
use Rattle.std.specs.Prelude.{Option, Some, None, ⊤, if◌then◌else◌}
use Rattle.js_base.specs.declared.ids.HostId.{HostId}
use Rattle.js_base.specs.declared.ids.VarId.{VarId}
use Rattle.js_base.specs.declared.ids.StmtId.{StmtId}
use Rattle.js_base.specs.declared.ids.MethodId.{MethodId}
use Rattle.js_base.specs.declared.ids.SiteId.{SiteId}
use Rattle.jif_tree.specs.Trees.{ExprTree, Heading, BlockTree, done, set_local, set_field, set_element, branch, loop}
use Rattle.jif_tree.specs.Trees.{call, give_back, ProgramTree, MethodTree}
use Rattle.jif_tree.specs.LabelRules.{method_at, result_of}
use Rattle.jif_tree.specs.WellNumbered.{IsBlockIn, is_some}
use Rattle.jif_tree.specs.Returns.{ReturnsLast}
use Rattle.host_code.specs.declared.instruction.Op.TheVariants as op
use Rattle.need_labels.specs.Plan.{statement_host}
use Rattle.msg_cost.proofs.Spots.{next_host}
use Rattle.msg_cost.specs.declared.spot.Spot.{Spot}
use Rattle.msg_cost.specs.Moves.{PlannedShape, is_same, is_trusted_for, on}
use Rattle.msg_cost.specs.Moves.{next_spot, straight_to, carried_to, own_statements}
use Rattle.split_rules.specs.Emissions.{Emission, Counts, counts_after}
use Rattle.split_rules.specs.Walk.{Walked, Around, Lane, lane_on, lane_at, lane_behind, under_token, emitted}
use Rattle.split_rules.specs.Walk.{expr_emissions, rides_behind}
use Rattle.split_rules.specs.Walk.{move_emissions, end_emissions, result_emissions, call_emissions, block_emissions}
use Rattle.std.specs.List.{AllByRecursion}
use Rattle.split_rules.specs.Positions.{IsStatementOfMethod, IsOf, all_statements, Forward, with_forwards}
use Rattle.split_rules.specs.Positions.{statements_of, number_of, is_on, run, Level, body, under, Position, calm}
use Rattle.split_rules.proofs.BackedLabels.{all_first, all_second}
use Rattle.split_rules.specs.Positions.{all_due, due_numbers, row_of, Entrance}
use Rattle.split_rules.specs.Typable.{IsTrustedInside, AreTrusted}
use Rattle.split_rules.specs.Typing.{body_of, nowhere, here, WalkKnown, AreTyped, AreDueOn, AreSourced, GivesVariable}
use Rattle.split_rules.specs.TypedCode.{AreMethodEntries}
use Rattle.split_rules.proofs.Places.{same_host}
use Rattle.split_rules.proofs.TypedRows.{run_numbers, row_numbers, AreRunWhereTrusted}
use Rattle.split_rules.proofs.TypedMoves.{ahead_at, lane_level}
use Rattle.split_rules.proofs.TypedMoves.{lane_place, IsGivenBack, IsLaneKnown, lane_still, MovesTyped, move_typed}
use Rattle.split_rules.proofs.TypedMoves.{IsLaneTrusted, IsLaneOut}
use Rattle.split_rules.proofs.TypedForwards.{IsCarried, IsCarriedWithin, none_out, out_rides, out_sourced}
use Rattle.split_rules.proofs.WalkedMoves.{one_of_two}
use Rattle.split_rules.proofs.WalkedStates.{counts_more}
use Rattle.split_rules.proofs.WalkedBlocks.{inside_of, branch_front, branch_own, loop_front, loop_own}
use Rattle.split_rules.proofs.TypedStates.{known_at, counts_in, counts_behind, Leads, leads_still, leads_on, moved_then}
use Rattle.split_rules.proofs.TypedValues.{Site}
use Rattle.split_rules.proofs.TypedStatements.{set_local_typed, set_field_typed, set_element_typed, give_back_typed}
use Rattle.split_rules.proofs.TypedCalls.{methods_still, out_given, call_typed}
use Rattle.split_rules.proofs.TypedBranches.{branch_typed, loop_typed}

-- ---- statements of a block

pub own_numbers : (block : BlockTree) → own_statements block ≡ map number_of (statements_of block)
own_numbers done = refl
own_numbers (set_local heading x value rest) = ap (λ others. heading.id ∷ others) (own_numbers rest)
own_numbers (set_field heading field value rest) = ap (λ others. heading.id ∷ others) (own_numbers rest)
own_numbers (set_element heading field index value rest) = ap (λ others. heading.id ∷ others) (own_numbers rest)
own_numbers (branch heading guard first second rest) = ap (λ others. heading.id ∷ others) (own_numbers rest)
own_numbers (loop heading guard inner rest) = ap (λ others. heading.id ∷ others) (own_numbers rest)
own_numbers (call heading site method arguments into rest) =
    ap (λ others. heading.id ∷ others) (own_numbers rest)
own_numbers (give_back heading value rest) = ap (λ others. heading.id ∷ others) (own_numbers rest)

pub own_trusted : (planned : PlannedShape) (block : BlockTree) → AreTrusted planned block →
    AreRunWhereTrusted planned (statements_of block)
own_trusted planned done trusted = tt
own_trusted planned (set_local heading x value rest) trusted = (trusted.0, own_trusted planned rest trusted.1)
own_trusted planned (set_field heading field value rest) trusted = (trusted.0, own_trusted planned rest trusted.1)
own_trusted planned (set_element heading field index value rest) trusted =
    (trusted.0, own_trusted planned rest trusted.1)
own_trusted planned (branch heading guard first second rest) trusted =
    (trusted.0, own_trusted planned rest trusted.5)
own_trusted planned (loop heading guard inner rest) trusted = (trusted.0, own_trusted planned rest trusted.3)
own_trusted planned (call heading site method arguments into rest) trusted =
    (trusted.0, own_trusted planned rest trusted.2)
own_trusted planned (give_back heading value rest) trusted = (trusted.0, own_trusted planned rest trusted.1)

-- ---- a statement and what follows it

-- what a statement does on its host, where it is due first
-- and what is left to be sent behind it
abbrev Owns : Walked → Level → HostId → BlockTree → List BlockTree → Lane → List Entrance → List Position →
    List Emission → List Forward → Type 0
Owns walked level host tree trees lane entries branches own out =
    Leads walked.planned (known_at (here host (calm (lane_level level lane)
    (run tree ∷ map run (ahead_at walked.planned lane.spot trees)))) entries branches) own
    (here host
    (with_forwards (calm (lane_level level lane) (map run (ahead_at walked.planned lane.spot trees))) out))

-- a lane moves to the spot of a statement, by the numbers of those behind it
record MovesOn (walked : Walked) (around : Around) (level : Level) (lane : Lane) (out : List Forward)
    (tree : BlockTree) (trees : List BlockTree) (entries : List Entrance) (branches : List Position)
    (others : List StmtId) (next : Spot) : Type 0 where
  more : List Entrance
  typed : AreTyped walked.planned
      (known_at (lane_place walked.planned level lane out (tree ∷ trees)) entries branches)
      (move_emissions walked around (counts_in entries branches) lane next (number_of tree ∷ others))
      (known_at (here next.host (calm (lane_level level (lane_at (counts_in entries branches) lane next))
      (run tree ∷ map run (ahead_at walked.planned (lane_at (counts_in entries branches) lane next).spot trees))))
      (entries ++ more) branches)
  known : IsLaneKnown walked.planned (entries ++ more) level (lane_at (counts_in entries branches) lane next) trees
  trusted : AreDueOn walked.planned next.host
      (run tree ∷ map run (ahead_at walked.planned (lane_at (counts_in entries branches) lane next).spot trees))
  spot_is : (lane_at (counts_in entries branches) lane next).spot ≡ next
  on_host : is_on walked.planned next.host tree ≡ true

moves_on : (walked : Walked) (around : Around) (level : Level) (lane : Lane) (out : List Forward) (tree : BlockTree)
    (trees : List BlockTree) (entries : List Entrance) (branches : List Position) (next : Spot) →
    MovesTyped walked around level lane out tree trees entries branches next →
    MovesOn walked around level lane out tree trees entries branches (map number_of trees) next
moves_on walked around level lane out tree trees entries branches next moves = record {
  more = moves.more;
  typed = moves.typed;
  known = moves.known;
  trusted = moves.trusted;
  spot_is = moves.spot_is;
  on_host = moves.on_host;
}

-- each statement stands on a host of the file
abbrev pub AreHostsThere : PlannedShape → Type 0
AreHostsThere planned =
    (statement : StmtId) → (statement_host planned.plan statement).0 < length planned.hosts.hosts

-- the host to which something is carried from a spot is one of the file
straight_within : (planned : PlannedShape) (host next_host : HostId) (back next_back : Option HostId) →
    next_host.0 < length planned.hosts.hosts →
    IsCarriedWithin planned (straight_to (record { host = host; back = back })
    (record { host = next_host; back = next_back }))
straight_within planned host next_host None None within =
    one_of_two (IsCarriedWithin planned) (is_same host next_host) None (Some next_host) tt within
straight_within planned host next_host None (Some back) within =
    one_of_two (IsCarriedWithin planned) (is_same host next_host) None
    (if is_same back host then Some next_host else None) tt
    (one_of_two (IsCarriedWithin planned) (is_same back host) (Some next_host) None within tt)
straight_within planned host next_host (Some back) next_back within =
    one_of_two (IsCarriedWithin planned) (is_same host next_host) None None tt tt

carried_within : (planned : PlannedShape) →
    AreHostsThere planned → (spot : Spot)
    (statements : List StmtId) → IsCarriedWithin planned (carried_to planned spot statements)
carried_within planned there spot [] = tt
carried_within planned there spot (statement ∷ others) =
    let next = next_spot planned spot statement others in
    let P : HostId → Type 0 = λ host. host.0 < length planned.hosts.hosts in
    straight_within planned spot.host next.host spot.back next.back
    (subst P (sym (next_host planned spot statement others)) (there statement))

-- a statement gives this variable its value, if one is given
abbrev GivesOne : PlannedShape → BlockTree → Option VarId → Type 0
GivesOne planned tree None = ⊤
GivesOne planned tree (Some x) = GivesVariable planned tree x

-- what is left to be sent behind a statement rides to where the token goes straight from there
given_out : (planned : PlannedShape) →
    AreHostsThere planned → (next : Spot)
    (tree : BlockTree) (given : Option VarId) → GivesOne planned tree given → is_on planned next.host tree ≡ true →
    is_trusted_for planned next.host (number_of tree) ≡ true → IsOf planned.program tree → (others : List StmtId) →
    let carried = carried_to planned next others in
    let out = out_given planned next.host tree given carried in
    AreSourced planned next.host out × IsCarried (rides_behind planned next given others) out carried
given_out planned there next tree None gives own trusted is_of others = (tt, none_out (carried_to planned next others))
given_out planned there next tree (Some x) gives own trusted is_of others = (
  out_sourced planned next.host tree x (carried_to planned next others)
      (record { on_host = own; trusted = trusted; is_of = is_of; gives = gives }),
  out_rides planned next.host tree x (carried_to planned next others) (carried_within planned there next others),
)

statement_then : (walked : Walked) (around : Around) (level : Level) (lane : Lane) (out : List Forward)
    (tree : BlockTree) (trees : List BlockTree) (entries : List Entrance) (branches : List Position) →
    AreMethodEntries walked.planned entries → AreHostsThere walked.planned →
    AreRunWhereTrusted walked.planned (tree ∷ trees) →
    IsLaneKnown walked.planned entries level lane (tree ∷ trees) → IsLaneTrusted walked.planned lane (tree ∷ trees) →
    IsLaneOut walked.planned lane out (tree ∷ trees) →
    (others : List StmtId) → others ≡ map number_of trees → (given : Option VarId) →
    GivesOne walked.planned tree given → (own : List Emission) (rest : Counts → Lane → List Emission)
    (left : Counts) →
    let next = next_spot walked.planned lane.spot (number_of tree) others in
    let counts = counts_in entries branches in
    let moved = move_emissions walked around counts lane next (number_of tree ∷ others) in
    left ≡ counts_after counts (moved ++ own) →
    (is_on walked.planned next.host tree ≡ true → (lane_there : Lane) (entries_there : List Entrance) →
    AreMethodEntries walked.planned entries_there → IsLaneKnown walked.planned entries_there level lane_there trees →
    AreDueOn walked.planned next.host (run tree ∷ map run (ahead_at walked.planned lane_there.spot trees)) →
    lane_there.spot ≡ next → counts_in entries_there branches ≡ counts_after counts moved →
    Owns walked level next.host tree trees lane_there entries_there branches own
    (out_given walked.planned next.host tree given (carried_to walked.planned next others))) →
    ((lane_there : Lane) (out_there : List Forward) (entries_there : List Entrance) (branches_there : List Position) →
    AreMethodEntries walked.planned entries_there → IsLaneKnown walked.planned entries_there level lane_there trees →
    IsLaneTrusted walked.planned lane_there trees → IsLaneOut walked.planned lane_there out_there trees →
    Leads walked.planned
    (known_at (lane_place walked.planned level lane_there out_there trees) entries_there branches_there)
    (rest (counts_in entries_there branches_there) lane_there) nowhere) →
    Leads walked.planned (known_at (lane_place walked.planned level lane out (tree ∷ trees)) entries branches)
    (moved ++ own ++ rest left (lane_behind walked counts lane next given others)) nowhere
statement_then walked around level lane out tree trees entries branches methods there trusted known holds is_out others
    others_are given gives own rest left left_is owns follows =
    subst R (sym (append_assoc moved own (rest left lane_there)))
    (moved_then planned entries branches moves.more (lane_place planned level lane out (tree ∷ trees))
    (here next.host due) nowhere moved (own ++ rest left lane_there) moves.typed
    (leads_on planned middle own (rest left lane_there) (here next.host behind) nowhere
    (owns moves.on_host lane_there (entries ++ moves.more) methods_there moves.known moves.trusted moves.spot_is many)
    (λ more ahead is.
    let P : HostId → Type 0 = λ host. Leads planned
    (known_at (here host behind) ((entries ++ moves.more) ++ more) (branches ++ ahead))
    (rest (counts_in ((entries ++ moves.more) ++ more) (branches ++ ahead)) lane_there) nowhere in
    let Q : Counts → Type 0 = λ it. Leads planned
    (known_at (here next.host behind) ((entries ++ moves.more) ++ more) (branches ++ ahead)) (rest it lane_there)
    nowhere in
    let last : counts_after (counts_in (entries ++ moves.more) branches) own ≡ left =
    ap (λ it. counts_after it own) many ∙ sym (counts_more counts moved own) ∙ sym left_is in
    subst Q (is ∙ last) (subst P (ap {A = Spot} (λ spot. spot.host) moves.spot_is)
    (follows lane_there out_there ((entries ++ moves.more) ++ more) (branches ++ ahead)
    (methods_still planned (entries ++ moves.more) more methods_there)
    (lane_still planned (entries ++ moves.more) more level lane_there trees moves.known) lane_trusted lane_out)))))
  where
    planned : PlannedShape
    planned = walked.planned

    next : Spot
    next = next_spot walked.planned lane.spot (number_of tree) others

    counts : Counts
    counts = counts_in entries branches

    moved : List Emission
    moved = move_emissions walked around (counts_in entries branches) lane
        (next_spot walked.planned lane.spot (number_of tree) others) (number_of tree ∷ others)

    lane_there : Lane
    lane_there = lane_behind walked (counts_in entries branches) lane
        (next_spot walked.planned lane.spot (number_of tree) others) given others

    out_there : List Forward
    out_there = out_given walked.planned next.host tree given (carried_to walked.planned next others)

    moves : MovesOn walked around level lane out tree trees entries branches others
        (next_spot walked.planned lane.spot (number_of tree) others)
    moves =
        let P : List StmtId → Type 0 = λ it. MovesOn walked around level lane out tree trees entries branches it
        (next_spot walked.planned lane.spot (number_of tree) it) in
        subst P (sym others_are)
        (moves_on walked around level lane out tree trees entries branches _
        (move_typed walked around level lane out tree trees entries branches trusted known holds is_out))

    lane_trusted : IsLaneTrusted walked.planned lane_there trees
    lane_trusted =
        let P : HostId → Type 0 = λ host. AreDueOn walked.planned host
        (map run (ahead_at walked.planned lane_there.spot trees)) in
        subst P (ap {A = Spot} (λ spot. spot.host) (sym moves.spot_is)) moves.trusted.1

    lane_out : IsLaneOut walked.planned lane_there out_there trees
    lane_out =
        let both = given_out planned there next tree given gives moves.on_host moves.trusted.0.0
        moves.trusted.0.1 others in
        let P : Spot → Type 0 = λ spot. AreSourced planned spot.host out_there in
        let Q : Spot → Type 0 = λ spot. IsCarried lane_there.riding out_there (carried_to planned spot others) in
        let S : List StmtId → Type 0 = λ it. IsCarried lane_there.riding out_there
        (carried_to planned lane_there.spot it) in
        record {
          sourced = subst P (sym moves.spot_is) both.0;
          carried = subst S others_are (subst Q (sym moves.spot_is) both.1);
        }

    behind : Position
    behind = with_forwards
        (calm (lane_level level lane_there) (map run (ahead_at walked.planned lane_there.spot trees))) out_there

    due : Position
    due = calm (lane_level level lane_there) (run tree ∷ map run (ahead_at walked.planned lane_there.spot trees))

    middle : WalkKnown
    middle = known_at (here next.host due) (entries ++ moves.more) branches

    methods_there : AreMethodEntries walked.planned (entries ++ moves.more)
    methods_there = methods_still walked.planned entries moves.more methods

    many : counts_in (entries ++ moves.more) branches ≡ counts_after counts moved
    many = counts_behind walked.planned
        (known_at (lane_place walked.planned level lane out (tree ∷ trees)) entries branches) moved middle moves.typed

    R : List Emission → Type 0
    R emissions = Leads walked.planned
        (known_at (lane_place walked.planned level lane out (tree ∷ trees)) entries branches) emissions nowhere

-- ---- the end of a block

-- where nothing is left of a block, its lane is not lent
lane_ends : (planned : PlannedShape) (entries : List Entrance) (level : Level) (lane : Lane) →
    IsLaneKnown planned entries level lane [] → lane.spot.back ≡ None
lane_ends planned entries level lane known = by lane.spot.back refl
  where
    by : (back : Option HostId) → lane.spot.back ≡ back → back ≡ None
    by None is = refl
    by (Some back) is =
        let P : Option HostId → Type 0 = λ it. IsGivenBack planned entries level lane.spot.host lane.return_entry []
        it in
        absurd ((subst P is known).1 refl)

block_ends : (walked : Walked) (around : Around) (level : Level) (lane : Lane) (out : List Forward)
    (entries : List Entrance) (branches : List Position) →
    IsLaneKnown walked.planned entries level lane [] → IsLaneOut walked.planned lane out [] →
    Leads walked.planned (known_at (lane_place walked.planned level lane out []) entries branches)
    (end_emissions around lane) nowhere
block_ends walked around level lane out entries branches known is_out =
    let P : List Forward → Type 0 = λ it. Leads walked.planned
    (known_at (lane_place walked.planned level lane it []) entries branches) (end_emissions around lane) nowhere in
    subst P (sym is_out.carried.1) (rw (lane_ends walked.planned entries level lane known) (leads_still walked.planned
    (here lane.spot.host (calm level [])) nowhere entries branches
    (emitted lane.spot.host around.pc around.owner op.Back ∷ []) (
      known_at nowhere entries branches,
      (calm level [], refl, (tt, tt), (refl, refl)),
      refl,
    )))

-- ---- blocks

-- what is known of the method that is walked
pub record IsWalkedIn (walked : Walked) (method : MethodId) (gives : Bool) : Type 0 where
  pub same : walked.labelled.program ≡ walked.planned.program
  pub result : result_of (method_at walked.planned.program method) ≡ walked.setting.result
  pub gives_it : is_some walked.setting.result ≡ gives
  pub hosts : AreHostsThere walked.planned

abbrev site_at : Around → Spot → StmtId → Site
site_at around next id = record { me = next.host; label = around.pc; id = id }

-- a result is given back last, from a lane that is not lent
gives_back : (walked : Walked) (method : MethodId) (gives : Bool) → IsWalkedIn walked method gives →
    (around : Around) (heading : Heading) (value : ExprTree) (next : Spot) →
    IsStatementOfMethod walked.planned.program method (give_back heading value done) →
    is_on walked.planned next.host (give_back heading value done) ≡ true → (level : Level) → level ≡ body method →
    (lane : Lane) (trees : List BlockTree) → trees ≡ [] → (entries : List Entrance) (branches : List Position) →
    IsLaneKnown walked.planned entries level lane trees → gives ≡ true →
    AreDueOn walked.planned next.host (run (give_back heading value done) ∷ []) →
    Owns walked level next.host (give_back heading value done) trees lane entries branches
    (expr_emissions next.host around.pc heading.id 0 value
    ++ result_emissions walked next.host around.pc heading.id value) []
gives_back walked method gives within around heading value next in_it own level level_is lane trees none entries
    branches known gives_it trusted = by walked.setting.result refl (within.gives_it ∙ gives_it)
  where
    planned : PlannedShape
    planned = walked.planned

    not_lent : lane.spot.back ≡ None
    not_lent =
        let P : List BlockTree → Type 0 = λ it. IsLaneKnown walked.planned entries level lane it in
        lane_ends walked.planned entries level lane (subst P none known)

    by : (result : Option VarId) → walked.setting.result ≡ result → is_some result ≡ true →
        Owns walked level next.host (give_back heading value done) trees lane entries branches
        (expr_emissions next.host around.pc heading.id 0 value
        ++ result_emissions walked next.host around.pc heading.id value) []
    by None is some = absurd (true≢false (sym some))
    by (Some result) is some =
        rw (is, not_lent, none, level_is) (leads_still walked.planned _ _ entries branches _
        (give_back_typed walked.planned (site_at around next heading.id) method heading value result
        (within.result ∙ is) in_it own trusted entries branches))

ends_so : (may : Bool) (block : BlockTree) → block ≡ done → ReturnsLast may block
ends_so may block is =
    let P : BlockTree → Type 0 = λ it. ReturnsLast may it in
    subst P (sym is) tt

-- the statements that run under the token of a spot are those that are due there
ahead_numbers : (planned : PlannedShape) (host : HostId) (back : Option HostId) (trees : List BlockTree) →
    under_token planned (record { host = host; back = back }) (map number_of trees)
    ≡ due_numbers (map run (ahead_at planned (record { host = host; back = back }) trees))
ahead_numbers planned host None trees = sym (run_numbers trees)
ahead_numbers planned host (Some back) trees =
    sym (run_numbers (row_of planned host trees) ∙ row_numbers planned host trees)

left_numbers : (planned : PlannedShape) (lane : Lane) (next : Spot) (trees : List BlockTree) (others : List StmtId) →
    lane.spot ≡ next → others ≡ map number_of trees →
    under_token planned next others ≡ due_numbers (map run (ahead_at planned lane.spot trees))
left_numbers planned lane next trees others spot_is others_are =
    ap (λ (spot : Spot). under_token planned spot others) (sym spot_is)
    ∙ ap (under_token planned lane.spot) others_are
    ∙ ahead_numbers planned lane.spot.host lane.spot.back trees

-- where a statement stands on a host, the host is trusted for what the statement starts
inside_due : (planned : PlannedShape) (host : HostId) (tree : BlockTree) (block : BlockTree) →
    is_on planned host tree ≡ true → IsTrustedInside planned (number_of tree) block →
    AreDueOn planned host (all_due block)
inside_due planned host tree block own inside =
    let there = statement_host planned.plan (number_of tree) in
    let P : HostId → Type 0 = λ one. AreDueOn planned one (all_due block) in
    subst P (same_host there host (eqb-true there.0 host.0 own)) inside

-- nothing is out where a block inside another begins
pub nothing_out : (planned : PlannedShape) (host : HostId) (trees : List BlockTree) →
    IsLaneOut planned (lane_on host) [] trees
nothing_out planned host trees =
    record { sourced = tt; carried = none_out (carried_to planned (on host) (map number_of trees)) }

-- a call gives its value to the variable that keeps its result
into_gives : (planned : PlannedShape) (heading : Heading) (site : SiteId) (called : MethodId)
    (arguments : List ExprTree) (into : Option VarId) →
    GivesOne planned (call heading site called arguments into done) into
into_gives planned heading site called arguments None = tt
into_gives planned heading site called arguments (Some x) = inl refl

pub block_typed : (walked : Walked) (method : MethodId) (gives : Bool) → IsWalkedIn walked method gives →
    (may : Bool) (block : BlockTree) → IsBlockIn walked.planned.program method gives block → ReturnsLast may block →
    AreTrusted walked.planned block →
    AllByRecursion (IsStatementOfMethod walked.planned.program method) (all_statements block) →
    (around : Around) (level : Level) → (may ≡ true → level ≡ body method) →
    (lane : Lane) (out : List Forward) (entries : List Entrance) (branches : List Position) →
    AreMethodEntries walked.planned entries → IsLaneKnown walked.planned entries level lane (statements_of block) →
    IsLaneTrusted walked.planned lane (statements_of block) →
    IsLaneOut walked.planned lane out (statements_of block) →
    Leads walked.planned (known_at (lane_place walked.planned level lane out (statements_of block)) entries branches)
    (block_emissions walked around (counts_in entries branches) lane block) nowhere
block_typed walked method gives within may done there returns trusted in_it around level at lane out entries branches
    methods known holds is_out = block_ends walked around level lane out entries branches known is_out
block_typed walked method gives within may (set_local heading x value rest) there returns trusted in_it around level
    at lane out entries branches methods known holds is_out =
    let planned = walked.planned in
    let next = next_spot planned lane.spot heading.id (own_statements rest) in
    let trees = statements_of rest in
    statement_then walked around level lane out (set_local heading x value done) trees entries branches methods
    within.hosts
    (own_trusted planned (set_local heading x value rest) trusted) known holds is_out (own_statements rest)
    (own_numbers rest) (Some x) refl _
    (λ counts lane_then. block_emissions walked around counts lane_then rest) _ refl
    (λ own lane_there entries_there methods_there known_there due_there spot_is many.
    leads_still planned _ _ entries_there branches _ (set_local_typed planned (site_at around next heading.id)
    (lane_level level lane_there) heading x value (carried_to planned next (own_statements rest))
    (map run (ahead_at planned lane_there.spot trees)) own due_there
    entries_there
    branches))
    (λ lane_there out_there entries_there branches_there methods_there known_there holds_there out_is.
    block_typed walked method gives within may rest there.2 returns trusted.1 in_it.1 around level at lane_there
    out_there entries_there branches_there methods_there known_there holds_there out_is)
block_typed walked method gives within may (set_field heading field value rest) there returns trusted in_it around
    level at lane out entries branches methods known holds is_out =
    let planned = walked.planned in
    let next = next_spot planned lane.spot heading.id (own_statements rest) in
    let trees = statements_of rest in
    statement_then walked around level lane out (set_field heading field value done) trees entries branches methods
    within.hosts
    (own_trusted planned (set_field heading field value rest) trusted) known holds is_out (own_statements rest)
    (own_numbers rest) None tt _
    (λ counts lane_then. block_emissions walked around counts lane_then rest) _ refl
    (λ own lane_there entries_there methods_there known_there due_there spot_is many.
    leads_still planned _ _ entries_there branches _ (set_field_typed planned (site_at around next heading.id)
    (lane_level level lane_there) heading field value (map run (ahead_at planned lane_there.spot trees)) own due_there
    entries_there branches))
    (λ lane_there out_there entries_there branches_there methods_there known_there holds_there out_is.
    block_typed walked method gives within may rest there.2 returns trusted.1 in_it.1 around level at lane_there
    out_there entries_there branches_there methods_there known_there holds_there out_is)
block_typed walked method gives within may (set_element heading field index value rest) there returns trusted in_it
    around level at lane out entries branches methods known holds is_out =
    let planned = walked.planned in
    let next = next_spot planned lane.spot heading.id (own_statements rest) in
    let trees = statements_of rest in
    statement_then walked around level lane out (set_element heading field index value done) trees entries branches
    methods within.hosts
    (own_trusted planned (set_element heading field index value rest) trusted) known holds is_out (own_statements rest)
    (own_numbers rest) None tt _ (λ counts lane_then. block_emissions walked around counts lane_then rest) _ refl
    (λ own lane_there entries_there methods_there known_there due_there spot_is many.
    leads_still planned _ _ entries_there branches _ (set_element_typed planned (site_at around next heading.id)
    (lane_level level lane_there) heading field index value (map run (ahead_at planned lane_there.spot trees)) own
    due_there
    entries_there branches))
    (λ lane_there out_there entries_there branches_there methods_there known_there holds_there out_is.
    block_typed walked method gives within may rest there.3 returns trusted.1 in_it.1 around level at lane_there
    out_there entries_there branches_there methods_there known_there holds_there out_is)
block_typed walked method gives within may (branch heading guard first second rest) there returns trusted in_it around
    level at lane out entries branches methods known holds is_out =
    let planned = walked.planned in
    let others = own_statements rest in
    let next = next_spot planned lane.spot heading.id others in
    let trees = statements_of rest in
    let counts = counts_in entries branches in
    let moved = move_emissions walked around counts lane next (heading.id ∷ others) in
    let inside = inside_of walked around heading guard in
    let left = under_token planned next others in
    let one : Counts → List Emission = λ it. block_emissions walked inside it (lane_on next.host) first in
    let two : Counts → List Emission = λ it. block_emissions walked inside it (lane_on next.host) second in
    let own : Counts → List Emission = λ it. branch_own (branch_front walked around it heading guard next others) it
    next.host one two in
    let behind = counts_after counts moved in
    statement_then walked around level lane out (branch heading guard first second done) trees entries branches methods
    within.hosts
    (own_trusted planned (branch heading guard first second rest) trusted) known holds is_out others (own_numbers rest)
    None tt
    (own behind)
    (λ it lane_then. block_emissions walked around it lane_then rest) (counts_after behind (own behind))
    (sym (counts_more counts moved (own behind)))
    (λ is_own lane_there entries_there methods_there known_there due_there spot_is many.
    let after = map run (ahead_at planned lane_there.spot trees) in
    let inner = under (length entries_there) in
    let P : Counts → Type 0 = λ it. Leads planned (known_at (here next.host (calm (lane_level level lane_there)
    (run (branch heading guard first second done) ∷ after))) entries_there branches) (own it)
    (here next.host (calm (lane_level level lane_there) after)) in
    subst P many (branch_typed walked around (lane_level level lane_there) heading guard first second next is_own after
    due_there others (left_numbers planned lane_there next trees others spot_is (own_numbers rest)) one two
    entries_there
    branches methods_there
    (λ entries_in branches_in methods_in. block_typed walked method gives within false first there.1 returns.0 trusted.3
    (all_first (IsStatementOfMethod walked.planned.program method) (all_statements first)
    (all_statements second ++ all_statements
    rest) in_it.1)
    inside inner (λ no. absurd (true≢false (sym no))) (lane_on next.host) [] entries_in branches_in methods_in tt
    (inside_due planned next.host (branch heading guard first second done) first is_own trusted.1)
    (nothing_out planned next.host (statements_of first)))
    (λ entries_in branches_in methods_in. block_typed walked method gives within false second there.2 returns.1
    trusted.4
    (all_first (IsStatementOfMethod walked.planned.program method) (all_statements second) (all_statements rest)
    (all_second (IsStatementOfMethod walked.planned.program method) (all_statements first)
    (all_statements second ++ all_statements
    rest) in_it.1))
    inside inner (λ no. absurd (true≢false (sym no))) (lane_on next.host) [] entries_in branches_in methods_in tt
    (inside_due planned next.host (branch heading guard first second done) second is_own trusted.2)
    (nothing_out planned next.host (statements_of second)))))
    (λ lane_there out_there entries_there branches_there methods_there known_there holds_there out_is.
    block_typed walked method gives within may rest there.3 returns.2 trusted.5
    (all_second (IsStatementOfMethod walked.planned.program method) (all_statements second) (all_statements rest)
    (all_second (IsStatementOfMethod walked.planned.program method) (all_statements first)
    (all_statements second ++ all_statements
    rest) in_it.1)) around level at lane_there out_there entries_there branches_there methods_there known_there
    holds_there out_is)
block_typed walked method gives within may (loop heading guard inner rest) there returns trusted in_it around level at
    lane out entries branches methods known holds is_out =
    let planned = walked.planned in
    let others = own_statements rest in
    let next = next_spot planned lane.spot heading.id others in
    let trees = statements_of rest in
    let counts = counts_in entries branches in
    let moved = move_emissions walked around counts lane next (heading.id ∷ others) in
    let inside = inside_of walked around heading guard in
    let one : Counts → List Emission = λ it. block_emissions walked inside it (lane_on next.host) inner in
    let own : Counts → List Emission = λ it. loop_own (loop_front walked around it heading guard next others) it
    next.host one in
    let behind = counts_after counts moved in
    statement_then walked around level lane out (loop heading guard inner done) trees entries branches methods
    within.hosts
    (own_trusted planned (loop heading guard inner rest) trusted) known holds is_out others (own_numbers rest) None tt
    (own behind)
    (λ it lane_then. block_emissions walked around it lane_then rest) (counts_after behind (own behind))
    (sym (counts_more counts moved (own behind)))
    (λ is_own lane_there entries_there methods_there known_there due_there spot_is many.
    let after = map run (ahead_at planned lane_there.spot trees) in
    let P : Counts → Type 0 = λ it. Leads planned (known_at (here next.host (calm (lane_level level lane_there)
    (run (loop heading guard inner done) ∷ after))) entries_there branches) (own it)
    (here next.host (calm (lane_level level lane_there) after)) in
    subst P many (loop_typed walked around (lane_level level lane_there) heading guard inner next is_own after due_there
    (inside_due planned next.host (loop heading guard inner done) inner is_own trusted.1) others
    (left_numbers planned lane_there next trees others spot_is (own_numbers rest)) one entries_there branches
    methods_there
    (λ entries_in branches_in methods_in. block_typed walked method gives within false inner there.1 returns.0 trusted.2
    (all_first (IsStatementOfMethod walked.planned.program method) (all_statements inner) (all_statements rest) in_it.1)
    inside (under (length entries_there)) (λ no. absurd (true≢false (sym no))) (lane_on next.host) [] entries_in
    branches_in methods_in tt
    (inside_due planned next.host (loop heading guard inner done) inner is_own trusted.1)
    (nothing_out planned next.host (statements_of inner)))))
    (λ lane_there out_there entries_there branches_there methods_there known_there holds_there out_is.
    block_typed walked method gives within may rest there.2 returns.1 trusted.3
    (all_second (IsStatementOfMethod walked.planned.program method) (all_statements inner) (all_statements rest)
    in_it.1) around
    level at lane_there out_there entries_there branches_there methods_there known_there holds_there out_is)
block_typed walked method gives within may (call heading site called arguments into rest) there returns trusted in_it
    around level at lane out entries branches methods known holds is_out =
    let planned = walked.planned in
    let others = own_statements rest in
    let next = next_spot planned lane.spot heading.id others in
    let trees = statements_of rest in
    let counts = counts_in entries branches in
    let moved = move_emissions walked around counts lane next (heading.id ∷ others) in
    let left = under_token planned next others in
    let own : Counts → List Emission = λ it. call_emissions walked it next.host around.pc heading.id site called
    arguments into (carried_to planned next others) left in
    statement_then walked around level lane out (call heading site called arguments into done) trees entries branches
    methods within.hosts
    (own_trusted planned (call heading site called arguments into rest) trusted) known holds is_out others
    (own_numbers rest) into
    (into_gives planned heading site called arguments into)
    (own (counts_after counts moved)) (λ it lane_then. block_emissions walked around it lane_then rest) _ refl
    (λ is_own lane_there entries_there methods_there known_there due_there spot_is many.
    let after = map run (ahead_at planned lane_there.spot trees) in
    let method_there = there.0 in
    let Q : ProgramTree → Type 0 = λ program. method_at program called ≡ Some method_there.0 in
    let R : Option MethodTree → Type 0 = λ it. AreDueOn planned next.host (all_due (body_of it)) in
    let P : Counts → Type 0 = λ it. Leads planned (known_at (here next.host (calm (lane_level level lane_there)
    (run (call heading site called arguments into done) ∷ after))) entries_there branches) (own it)
    (here next.host (with_forwards (calm (lane_level level lane_there) after)
    (out_given planned next.host (call heading site called arguments into done) into
    (carried_to planned next others)))) in
    subst P many (call_typed walked (site_at around next heading.id) (lane_level level lane_there) heading site called
    arguments into method_there.0 (subst Q (sym within.same) method_there.1) method_there.1
    method_there.3 (within.hosts method_there.0.head) (carried_to planned next others) after is_own due_there
    (subst R method_there.1 (inside_due planned next.host (call heading site called arguments into done)
    (body_of (method_at planned.program called)) is_own trusted.1)) refl left
    (left_numbers planned lane_there next trees others spot_is (own_numbers rest)) entries_there branches
    methods_there))
    (λ lane_there out_there entries_there branches_there methods_there known_there holds_there out_is.
    block_typed walked method gives within may rest there.3 returns trusted.2 in_it.1 around level at lane_there
    out_there entries_there branches_there methods_there known_there holds_there out_is)
block_typed walked method gives within may (give_back heading value rest) there returns trusted in_it around level at
    lane out entries branches methods known holds is_out =
    let planned = walked.planned in
    let next = next_spot planned lane.spot heading.id (own_statements rest) in
    let trees = statements_of rest in
    statement_then walked around level lane out (give_back heading value done) trees entries branches methods
    within.hosts
    (own_trusted planned (give_back heading value rest) trusted) known holds is_out (own_statements rest)
    (own_numbers rest) None tt _
    (λ counts lane_then. block_emissions walked around counts lane_then rest) _ refl
    (λ own lane_there entries_there methods_there known_there due_there spot_is many.
    gives_back walked method gives within around heading value next in_it.0 own level (at returns.0) lane_there trees
    (ap statements_of returns.1) entries_there branches known_there there.0
    (due_there.0, tt))
    (λ lane_there out_there entries_there branches_there methods_there known_there holds_there out_is.
    block_typed walked method gives within may rest there.2 (ends_so may rest returns.1) trusted.1 in_it.1 around
    level at lane_there out_there entries_there branches_there methods_there known_there holds_there out_is)
