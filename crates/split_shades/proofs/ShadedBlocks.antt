-- Blocks: from a lane on, all emissions of a block are shaded.
use Rattle.std.proofs.Common.{◌≡◌, ◌∙◌, ℕ, false, inl, inr, List, [], ◌∷◌, ◌++◌, length, refl, ap, sym, subst}
use Rattle.std.proofs.Common.{append_assoc}
use Rattle.std.proofs.Common.{eq-eqb, ne_eqb}
use Rattle.std.proofs.lemmas.Bool.Decides.{eqb_tells}
use Rattle.std.specs.Prelude.{Option, Some, None, slice_get, ⊤}
use Rattle.std.specs.List.{AllByRecursion}
use Rattle.js_base.specs.declared.ids.HostId.{HostId}
use Rattle.js_base.specs.declared.ids.VarId.{VarId}
use Rattle.js_base.specs.declared.ids.StmtId.{StmtId}
use Rattle.label_lattice.specs.declared.label.Label.{Label}
use Rattle.jif_tree.specs.Trees.{ExprTree, BlockTree, done, set_local, set_field, set_element, branch, loop, call}
use Rattle.jif_tree.specs.Trees.{give_back, MethodTree}
use Rattle.jif_tree.specs.LabelRules.{MethodSetting, guarded, method_at, params_of, result_of}
use Rattle.host_code.specs.declared.instruction.Op.TheVariants as op
use Rattle.need_labels.specs.Labelled.{Labelled, all_labels}
use Rattle.need_labels.specs.Needs.{label_of}
use Rattle.need_labels.specs.Plan.{statement_host}
use Rattle.msg_cost.specs.declared.spot.Spot.{Spot}
use Rattle.msg_cost.specs.Moves.{on, next_spot, carried_to, own_statements}
use Rattle.split_rules.specs.Emissions.{Emission, Counts, counts_after}
use Rattle.split_rules.specs.Expressions.{reads_in, nodes_of, first_element, released_by}
use Rattle.split_rules.specs.Positions.{Level, under}
use Rattle.split_rules.specs.Walk.{Around, Lane, lane_on, with_riding, lane_at, lane_behind, under_token}
use Rattle.split_rules.specs.Walk.{expr_emissions, send_emissions, move_emissions, result_emissions, call_emissions}
use Rattle.split_rules.specs.Walk.{block_emissions, releasing}
use Rattle.split_rules.proofs.Places.{same_host}
use Rattle.split_rules.proofs.ToldMoves.{SpotSees, AllSee, MovesWell, next_well, lane_sees}
use Rattle.split_rules.proofs.ToldStatements.{ArgumentsWell, BlockTellsWell}
use Rattle.split_rules.proofs.ToldWalks.{told_see, statements_see}
use Rattle.split_rules.proofs.TypedMoves.{lane_level}
use Rattle.split_rules.proofs.WalkedBlocks.{inside_of, branch_front, branch_own, loop_front, loop_own}
use Rattle.split_rules.proofs.WalkedStates.{counts_more}
use Rattle.split_shades.specs.Flows.{ArgumentsFlow, AnswerFlows, BlockFlows, AllFlow, AreIndexesSeen}
use Rattle.split_shades.specs.Shades.{EntryShade, Ahead, calm_ahead}
use Rattle.split_shades.specs.Shading.{Scene, IsLevelOf, ShadeKnown, nowhere, here, known_at, AreShaded}
use Rattle.split_shades.specs.Sites.{IsKeptBack, IsSilentBlock}
use Rattle.split_shades.proofs.BasisLabels.{flows_self}
use Rattle.split_shades.proofs.ShadedBranches.{branch_shaded, loop_shaded}
use Rattle.split_shades.proofs.ShadedCalls.{AreMethodsNamed, methods_still, AreRead, call_shaded}
use Rattle.split_shades.proofs.ShadedMoves.{lane_place, IsLaneKnown, lane_still, level_still, lane_level_is, Moves}
use Rattle.split_shades.proofs.ShadedMoves.{move_shaded, end_shaded}
use Rattle.split_shades.proofs.ShadedRiders.{RidesWell, GivenWell, result_given, rides_well}
use Rattle.split_shades.proofs.ShadedStates.{counts_in, counts_behind, Leads, leads_still, leads_on, moved_then}
use Rattle.split_shades.proofs.ShadedStatements.{walked_of, block_known, set_local_shaded, set_field_shaded}
use Rattle.split_shades.proofs.ShadedStatements.{set_element_shaded, give_back_shaded}
use Rattle.split_shades.proofs.ShadedValues.{IsRead}

-- ---- calls by their sites

-- the calls of a block have these program labels, by their sites
abbrev pub AreSitesLabelled : List Label → Labelled → MethodSetting → Label → BlockTree → Type 0
AreSitesLabelled sites labelled setting pc done = ⊤
AreSitesLabelled sites labelled setting pc (set_local heading x value rest) =
    AreSitesLabelled sites labelled setting pc rest
AreSitesLabelled sites labelled setting pc (set_field heading field value rest) =
    AreSitesLabelled sites labelled setting pc rest
AreSitesLabelled sites labelled setting pc (set_element heading field index value rest) =
    AreSitesLabelled sites labelled setting pc rest
AreSitesLabelled sites labelled setting pc (branch heading guard first second rest) =
    let inside = guarded setting pc (all_labels labelled) guard in
    AreSitesLabelled sites labelled setting inside first × AreSitesLabelled sites labelled setting inside second
    × AreSitesLabelled sites labelled setting pc rest
AreSitesLabelled sites labelled setting pc (loop heading guard inner rest) =
    let inside = guarded setting pc (all_labels labelled) guard in
    AreSitesLabelled sites labelled setting inside inner × AreSitesLabelled sites labelled setting pc rest
AreSitesLabelled sites labelled setting pc (call heading site method arguments into rest) =
    (slice_get sites site.0 ≡ Some pc) × AreSitesLabelled sites labelled setting pc rest
AreSitesLabelled sites labelled setting pc (give_back heading value rest) =
    AreSitesLabelled sites labelled setting pc rest

-- ---- a statement and what follows it

-- the lane is then on the host of the spot
lane_host : (counts : Counts) (lane : Lane) (next : Spot) → (lane_at counts lane next).spot.host ≡ next.host
lane_host counts lane next = elim (eqb_tells lane.spot.host.0 next.host.0) [
  | inl same ↦ rw (eq-eqb lane.spot.host.0 next.host.0 same.1) (same_host lane.spot.host next.host same.1)
  | inr apart ↦ rw (ne_eqb lane.spot.host.0 next.host.0 apart.1) refl
]

-- what rides changes nothing of the level of a lane
level_riding : (level : Level) (lane : Lane) (riding : List VarId) →
    lane_level level (with_riding lane riding) ≡ lane_level level lane
level_riding level lane riding = by lane.spot.host lane.spot.back lane.return_entry lane.riding
  where
    by : (host : HostId) (back : Option HostId) (number : ℕ) (before : List VarId) →
        let it : Lane = record {
          spot = record { host = host; back = back };
          return_entry = number;
          riding = before;
        } in
        lane_level level (with_riding it riding) ≡ lane_level level it
    by host None number before = refl
    by host (Some back) number before = refl

statement_then : (scene : Scene) (tree : MethodTree) → AllFlow scene.basis scene.planned → (around : Around)
    (level : Level) (lane : Lane) (statement : StmtId) (others : List StmtId) (entries : List EntryShade)
    (branches : List Ahead) →
    AreMethodsNamed scene entries → IsLevelOf entries level around.pc → IsLaneKnown entries level around.pc lane →
    SpotSees scene.planned around.pc lane.spot → RidesWell scene around.pc lane.riding (statement ∷ others) →
    AllSee scene.planned around.pc (statement ∷ others) → (given : Option VarId) → GivenWell scene around.pc given →
    (own : List Emission) (rest : Counts → Lane → List Emission) (left : Counts) →
    let next = next_spot scene.planned lane.spot statement others in
    let counts = counts_in entries branches in
    let moved = move_emissions (walked_of scene tree) around counts lane next (statement ∷ others) in
    left ≡ counts_after counts (moved ++ own) →
    (next.host ≡ statement_host scene.planned.plan statement → (level_there : Level)
    (entries_there : List EntryShade) → AreMethodsNamed scene entries_there →
    IsLevelOf entries_there level_there around.pc →
    counts_in entries_there branches ≡ counts_after counts moved →
    Leads scene (block_known next.host around.pc level_there entries_there branches) own
    (here next.host (calm_ahead level_there around.pc))) →
    ((lane_there : Lane) (entries_there : List EntryShade) (branches_there : List Ahead) →
    AreMethodsNamed scene entries_there → IsLevelOf entries_there level around.pc →
    IsLaneKnown entries_there level around.pc lane_there → SpotSees scene.planned around.pc lane_there.spot →
    RidesWell scene around.pc lane_there.riding others →
    Leads scene (known_at (lane_place level around.pc lane_there) entries_there branches_there)
    (rest (counts_in entries_there branches_there) lane_there) nowhere) →
    Leads scene (known_at (lane_place level around.pc lane) entries branches)
    (moved ++ own ++ rest left (lane_behind (walked_of scene tree) counts lane next given others)) nowhere
statement_then scene tree all around level lane statement others entries branches methods is known sees rides see given
    flows own rest left left_is owns follows =
    subst R (sym (append_assoc moved own (rest left lane_there)))
    (moved_then scene entries branches moves.more (lane_place level pc lane) (lane_place level pc lane_there) nowhere
    moved (own ++ rest left lane_there) shaded
    (leads_on scene middle own (rest left lane_there) (lane_place level pc lane_there) nowhere
    (subst Q (sym host_is) (owns well.host_is (lane_level level lane_there) there methods_there
    (lane_level_is there level pc lane_there level_there moves.known) many))
    (λ more ahead counted.
    let S : Counts → Type 0 = λ it. Leads scene
    (known_at (lane_place level pc lane_there) (there ++ more) (branches ++ ahead)) (rest it lane_there) nowhere in
    let last : counts_after (counts_in there branches) own ≡ left =
    ap (λ it. counts_after it own) many ∙ sym (counts_more counts moved own) ∙ sym left_is in
    subst S (counted ∙ last)
    (follows lane_there (there ++ more) (branches ++ ahead) (methods_still scene there more methods_there)
    (level_still there more level pc level_there) (lane_still there more level pc lane_there moves.known)
    (lane_sees scene.planned pc counts lane next sees well.sees) (rides_well scene all pc next given flows others)))))
  where
    pc : Label
    pc = around.pc

    next : Spot
    next = next_spot scene.planned lane.spot statement others

    counts : Counts
    counts = counts_in entries branches

    lane_there : Lane
    lane_there = lane_behind (walked_of scene tree) (counts_in entries branches) lane
        (next_spot scene.planned lane.spot statement others) given others

    moved : List Emission
    moved = move_emissions (walked_of scene tree) around (counts_in entries branches) lane
        (next_spot scene.planned lane.spot statement others) (statement ∷ others)

    moves : Moves scene (walked_of scene tree) around level lane (next_spot scene.planned lane.spot statement others)
        (statement ∷ others) entries branches
    moves = move_shaded scene (walked_of scene tree) around level lane statement others entries branches is known sees
        see rides

    well : MovesWell scene.planned around.pc statement (next_spot scene.planned lane.spot statement others)
    well = next_well scene.planned around.pc lane.spot statement others sees see

    there : List EntryShade
    there = entries ++ moves.more

    middle : ShadeKnown
    middle = known_at (lane_place level pc lane_there) there branches

    methods_there : AreMethodsNamed scene there
    methods_there = methods_still scene entries moves.more methods

    level_there : IsLevelOf there level pc
    level_there = level_still entries moves.more level pc is

    host_is : lane_there.spot.host ≡ next.host
    host_is = lane_host counts lane next

    Q : HostId → Type 0
    Q host = Leads scene (block_known host pc (lane_level level lane_there) there branches) own
        (here host (calm_ahead (lane_level level lane_there) pc))

    shaded : AreShaded scene (known_at (lane_place level pc lane) entries branches) moved middle
    shaded =
        let P : Level → Type 0 = λ it. AreShaded scene (known_at (lane_place level pc lane) entries branches) moved
        (known_at (here lane_there.spot.host (calm_ahead it pc)) there branches) in
        subst P (sym (level_riding level (lane_at counts lane next) lane_there.riding)) moves.shaded

    many : counts_in there branches ≡ counts_after counts moved
    many = counts_behind scene (known_at (lane_place level pc lane) entries branches) moved middle shaded

    R : List Emission → Type 0
    R emissions = Leads scene (known_at (lane_place level around.pc lane) entries branches) emissions nowhere

-- ---- what a call reads

arguments_read : (scene : Scene) (me : HostId) (pc : Label) (params : List VarId) (arguments : List ExprTree) →
    ArgumentsWell scene.basis.labelled scene.planned me pc params arguments →
    ArgumentsFlow scene.basis scene.planned pc params arguments →
    (scene.may_release ≡ false → AllByRecursion IsKeptBack arguments) → AreRead scene me pc params arguments
arguments_read scene me pc params [] well flows silent = tt
arguments_read scene me pc [] (argument ∷ others) well flows silent = tt
arguments_read scene me pc (param ∷ params) (argument ∷ others) well flows silent = (
  record { reads = well.0; indexes = flows.0.indexes; silent = λ none. (silent none).0 },
  arguments_read scene me pc params others well.2 flows.1 (λ none. (silent none).1),
)

-- ---- blocks

pub block_shaded : (scene : Scene) (tree : MethodTree) → AllFlow scene.basis scene.planned → (around : Around)
    (block : BlockTree) → let setting = (walked_of scene tree).setting in
    BlockTellsWell scene.basis.labelled scene.planned setting around.pc block →
    BlockFlows scene.basis scene.planned setting around.pc block →
    AreSitesLabelled scene.sites scene.basis.labelled setting around.pc block →
    (scene.may_release ≡ false → IsSilentBlock block) → (level : Level) (lane : Lane) (entries : List EntryShade)
    (branches : List Ahead) → AreMethodsNamed scene entries → IsLevelOf entries level around.pc →
    IsLaneKnown entries level around.pc lane → SpotSees scene.planned around.pc lane.spot →
    RidesWell scene around.pc lane.riding (own_statements block) →
    Leads scene (known_at (lane_place level around.pc lane) entries branches)
    (block_emissions (walked_of scene tree) around (counts_in entries branches) lane block) nowhere
block_shaded scene tree all around done well flows sites silent level lane entries branches methods is known sees
    rides =
    leads_still scene (lane_place level around.pc lane) nowhere entries branches _
    (end_shaded scene around level lane entries branches is known)
block_shaded scene tree all around (set_local heading x value rest) well flows sites silent level lane entries branches
    methods is known sees rides =
    let pc = around.pc in
    let others = own_statements rest in
    let next = next_spot scene.planned lane.spot heading.id others in
    let label = label_of scene.basis.labelled x in
    let carried = carried_to scene.planned next others in
    let own : HostId → List Emission = λ host. expr_emissions host pc heading.id 0 value
    ++ releasing host pc heading.id (op.Let x (nodes_of 0 value)) (released_by 0 value)
    ∷ send_emissions scene.planned host pc heading.id x carried in
    statement_then scene tree all around level lane heading.id others entries branches methods is known sees rides
    (statements_see scene.basis.labelled scene.planned (walked_of scene tree).setting pc (set_local heading x value
    rest) well)
    (Some x) flows.0.program (own next.host)
    (λ it lane_there. block_emissions (walked_of scene tree) around it lane_there rest) _
    refl (λ host_is level_there there methods_there level_is counted.
    let host = statement_host scene.planned.plan heading.id in
    let P : HostId → Type 0 = λ it. Leads scene (block_known it pc level_there there branches) (own it)
    (here it (calm_ahead level_there pc)) in
    subst P (sym host_is) (leads_still scene (here host (calm_ahead level_there pc))
    (here host (calm_ahead level_there pc)) there branches (own host)
    (set_local_shaded scene host pc heading.id level_there there branches (pc, level_is, flows_self pc) x value carried
    (record { reads = well.1; indexes = flows.0.indexes; silent = λ none. (silent none).0 }) flows.0
    (told_see scene.planned label host x carried (all.readers x)))))
    (λ lane_there there branches_there methods_there level_is known_there sees_there rides_there.
    block_shaded scene tree all around rest well.3 flows.1 sites (λ none. (silent none).1) level lane_there there
    branches_there methods_there level_is known_there sees_there rides_there)
block_shaded scene tree all around (set_field heading field value rest) well flows sites silent level lane entries
    branches methods is known sees rides =
    let pc = around.pc in
    let others = own_statements rest in
    let next = next_spot scene.planned lane.spot heading.id others in
    let own : HostId → List Emission = λ host. expr_emissions host pc heading.id 0 value
    ++ releasing host pc heading.id (op.Put field first_element (nodes_of 0 value)) (released_by 0 value) ∷ [] in
    statement_then scene tree all around level lane heading.id others entries branches methods is known sees rides
    (statements_see scene.basis.labelled scene.planned (walked_of scene tree).setting pc
    (set_field heading field value rest) well)
    None tt (own next.host)
    (λ it lane_there. block_emissions (walked_of scene tree) around it lane_there rest) _ refl
    (λ host_is level_there there methods_there level_is counted.
    let host = statement_host scene.planned.plan heading.id in
    let P : HostId → Type 0 = λ it. Leads scene (block_known it pc level_there there branches) (own it)
    (here it (calm_ahead level_there pc)) in
    subst P (sym host_is) (leads_still scene (here host (calm_ahead level_there pc))
    (here host (calm_ahead level_there pc)) there branches (own host)
    (set_field_shaded scene host pc heading.id level_there there branches (pc, level_is, flows_self pc) field value
    (record { reads = well.1; indexes = flows.0.indexes; silent = λ none. (silent none).0 }) flows.0 well.2)))
    (λ lane_there there branches_there methods_there level_is known_there sees_there rides_there.
    block_shaded scene tree all around rest well.3 flows.1 sites (λ none. (silent none).1) level lane_there there
    branches_there methods_there level_is known_there sees_there rides_there)
block_shaded scene tree all around (set_element heading field index value rest) well flows sites silent level lane
    entries branches methods is known sees rides =
    let pc = around.pc in
    let others = own_statements rest in
    let next = next_spot scene.planned lane.spot heading.id others in
    let own : HostId → List Emission = λ host. expr_emissions host pc heading.id 0 index
    ++ expr_emissions host pc heading.id (reads_in index) value
    ++ releasing host pc heading.id (op.Put field (nodes_of 0 index) (nodes_of (reads_in index) value))
    (released_by 0 index ++ released_by (reads_in index) value) ∷ [] in
    statement_then scene tree all around level lane heading.id others entries branches methods is known sees rides
    (statements_see scene.basis.labelled scene.planned (walked_of scene tree).setting pc
    (set_element heading field index value rest) well)
    None tt (own next.host)
    (λ it lane_there. block_emissions (walked_of scene tree) around it lane_there rest) _ refl
    (λ host_is level_there there methods_there level_is counted.
    let host = statement_host scene.planned.plan heading.id in
    let P : HostId → Type 0 = λ it. Leads scene (block_known it pc level_there there branches) (own it)
    (here it (calm_ahead level_there pc)) in
    subst P (sym host_is) (leads_still scene (here host (calm_ahead level_there pc))
    (here host (calm_ahead level_there pc)) there branches (own host)
    (set_element_shaded scene host pc heading.id level_there there branches (pc, level_is, flows_self pc) field index
    value (record { reads = well.1; indexes = flows.0.indexes; silent = λ none. (silent none).0 })
    (record { reads = well.2; indexes = flows.1.indexes; silent = λ none. (silent none).1 }) flows.0 flows.1 well.3)))
    (λ lane_there there branches_there methods_there level_is known_there sees_there rides_there.
    block_shaded scene tree all around rest well.4 flows.2 sites (λ none. (silent none).2) level lane_there there
    branches_there methods_there level_is known_there sees_there rides_there)
block_shaded scene tree all around (branch heading guard first second rest) well flows sites silent level lane entries
    branches methods is known sees rides =
    let walked = walked_of scene tree in
    let pc = around.pc in
    let others = own_statements rest in
    let next = next_spot scene.planned lane.spot heading.id others in
    let inside = inside_of walked around heading guard in
    let counts = counts_in entries branches in
    let moved = move_emissions walked around counts lane next (heading.id ∷ others) in
    let here_counts = counts_after counts moved in
    let one : HostId → Counts → List Emission = λ host it. block_emissions walked inside it (lane_on host) first in
    let two : HostId → Counts → List Emission = λ host it. block_emissions walked inside it (lane_on host) second in
    let own : Counts → List Emission = λ it. branch_own (branch_front walked around it heading guard next others) it
    next.host (one next.host) (two next.host) in
    statement_then scene tree all around level lane heading.id others entries branches methods is known sees rides
    (statements_see scene.basis.labelled scene.planned walked.setting pc (branch heading guard first second rest) well)
    None tt (own here_counts) (λ it lane_there. block_emissions walked around it lane_there rest) _
    (sym (counts_more counts moved (own here_counts)))
    (λ host_is level_there there methods_there level_is counted.
    let P : Counts → Type 0 = λ it. Leads scene (block_known next.host pc level_there there branches) (own it)
    (here next.host (calm_ahead level_there pc)) in
    let Q : HostId → Type 0 = λ host. IsRead scene host pc guard in
    let R : HostId → Type 0 = λ host. SpotSees scene.planned inside.pc (on host) in
    let sees_inside = subst R (sym host_is) (well.2, tt) in
    subst P counted (branch_shaded scene tree around level_there heading guard next others (one next.host)
    (two next.host) there branches methods_there level_is
    (subst Q (sym host_is)
    (record { reads = well.1; indexes = flows.0.indexes; silent = λ none. (silent none).0 })) flows.0 sees_inside.0
    (λ inner inner_branches inner_methods inner_level.
    block_shaded scene tree all inside first well.3 flows.1 sites.0 (λ none. (silent none).1) (under (length there))
    (lane_on next.host) inner inner_branches inner_methods inner_level tt sees_inside tt)
    (λ inner inner_branches inner_methods inner_level.
    block_shaded scene tree all inside second well.4 flows.2 sites.1 (λ none. (silent none).2) (under (length there))
    (lane_on next.host) inner inner_branches inner_methods inner_level tt sees_inside tt)))
    (λ lane_there there branches_there methods_there level_is known_there sees_there rides_there.
    block_shaded scene tree all around rest well.5 flows.3 sites.2 (λ none. (silent none).3) level lane_there there
    branches_there methods_there level_is known_there sees_there rides_there)
block_shaded scene tree all around (loop heading guard inner_block rest) well flows sites silent level lane entries
    branches methods is known sees rides =
    let walked = walked_of scene tree in
    let pc = around.pc in
    let others = own_statements rest in
    let next = next_spot scene.planned lane.spot heading.id others in
    let inside = inside_of walked around heading guard in
    let counts = counts_in entries branches in
    let moved = move_emissions walked around counts lane next (heading.id ∷ others) in
    let here_counts = counts_after counts moved in
    let one : Counts → List Emission = λ it. block_emissions walked inside it (lane_on next.host) inner_block in
    let own : Counts → List Emission = λ it. loop_own (loop_front walked around it heading guard next others) it
    next.host one in
    statement_then scene tree all around level lane heading.id others entries branches methods is known sees rides
    (statements_see scene.basis.labelled scene.planned walked.setting pc (loop heading guard inner_block rest) well)
    None tt (own here_counts) (λ it lane_there. block_emissions walked around it lane_there rest) _
    (sym (counts_more counts moved (own here_counts)))
    (λ host_is level_there there methods_there level_is counted.
    let P : Counts → Type 0 = λ it. Leads scene (block_known next.host pc level_there there branches) (own it)
    (here next.host (calm_ahead level_there pc)) in
    let Q : HostId → Type 0 = λ host. IsRead scene host inside.pc guard in
    let R : HostId → Type 0 = λ host. SpotSees scene.planned inside.pc (on host) in
    let sees_inside = subst R (sym host_is) (well.2, tt) in
    subst P counted (loop_shaded scene tree around level_there heading guard next others one there branches
    methods_there level_is
    (subst Q (sym host_is)
    (record { reads = well.1; indexes = flows.1.indexes; silent = λ none. (silent none).0 })) flows.0 flows.1
    sees_inside.0
    (λ inner inner_branches inner_methods inner_level.
    block_shaded scene tree all inside inner_block well.3 flows.2 sites.0 (λ none. (silent none).1)
    (under (length there)) (lane_on next.host) inner inner_branches inner_methods inner_level tt sees_inside tt)))
    (λ lane_there there branches_there methods_there level_is known_there sees_there rides_there.
    block_shaded scene tree all around rest well.4 flows.3 sites.1 (λ none. (silent none).2) level lane_there there
    branches_there methods_there level_is known_there sees_there rides_there)
block_shaded scene tree all around (call heading site method arguments into rest) well flows sites silent level lane
    entries branches methods is known sees rides =
    let walked = walked_of scene tree in
    let pc = around.pc in
    let others = own_statements rest in
    let next = next_spot scene.planned lane.spot heading.id others in
    let counts = counts_in entries branches in
    let moved = move_emissions walked around counts lane next (heading.id ∷ others) in
    let left = under_token scene.planned next others in
    let called = method_at scene.basis.labelled.program method in
    let carried = carried_to scene.planned next others in
    let own : Counts → HostId → List Emission = λ it host. call_emissions walked it host pc heading.id site method
    arguments into carried left in
    statement_then scene tree all around level lane heading.id others entries branches methods is known sees rides
    (statements_see scene.basis.labelled scene.planned walked.setting pc (call heading site method arguments into rest)
    well)
    into (result_given scene pc (result_of called) into flows.2) (own (counts_after counts moved) next.host)
    (λ it lane_there. block_emissions walked around it lane_there rest) _ refl
    (λ host_is level_there there methods_there level_is counted.
    let host = statement_host scene.planned.plan heading.id in
    let P : HostId → Type 0 = λ it. Leads scene (block_known it pc level_there there branches)
    (own (counts_after counts moved) it) (here it (calm_ahead level_there pc)) in
    let Q : Counts → Type 0 = λ it. Leads scene (block_known host pc level_there there branches) (own it host)
    (here host (calm_ahead level_there pc)) in
    subst P (sym host_is) (subst Q counted (call_shaded scene tree all host pc heading.id level_there site method
    arguments into carried left there branches methods_there level_is well.0 sites.0
    (arguments_read scene host pc (params_of called) arguments well.1 flows.1 (λ none. (silent none).0)) well.2 flows.0
    flows.1 flows.2)))
    (λ lane_there there branches_there methods_there level_is known_there sees_there rides_there.
    block_shaded scene tree all around rest well.4 flows.3 sites.1 (λ none. (silent none).1) level lane_there there
    branches_there methods_there level_is known_there sees_there rides_there)
block_shaded scene tree all around (give_back heading value rest) well flows sites silent level lane entries branches
    methods is known sees rides =
    let walked = walked_of scene tree in
    let pc = around.pc in
    let others = own_statements rest in
    let next = next_spot scene.planned lane.spot heading.id others in
    let own : HostId → List Emission = λ host. expr_emissions host pc heading.id 0 value
    ++ result_emissions walked host pc heading.id value in
    statement_then scene tree all around level lane heading.id others entries branches methods is known sees rides
    (statements_see scene.basis.labelled scene.planned walked.setting pc (give_back heading value rest) well)
    None tt (own next.host) (λ it lane_there. block_emissions walked around it lane_there rest) _ refl
    (λ host_is level_there there methods_there level_is counted.
    let host = statement_host scene.planned.plan heading.id in
    let P : HostId → Type 0 = λ it. Leads scene (block_known it pc level_there there branches) (own it)
    (here it (calm_ahead level_there pc)) in
    subst P (sym host_is) (leads_still scene (here host (calm_ahead level_there pc))
    (here host (calm_ahead level_there pc)) there branches (own host)
    (give_back_shaded scene tree host pc heading.id level_there there branches (pc, level_is, flows_self pc) value
    (record { reads = well.1; indexes = answer_indexes tree.result flows.0; silent = λ none. (silent none).0 })
    flows.0))) (λ lane_there there branches_there methods_there level_is known_there sees_there rides_there.
    block_shaded scene tree all around rest well.3 flows.1 sites (λ none. (silent none).1) level lane_there there
    branches_there methods_there level_is known_there sees_there rides_there)
  where
    answer_indexes : (result : Option VarId) → AnswerFlows scene.basis scene.planned around.pc result value →
        AreIndexesSeen scene.basis scene.planned around.pc value
    answer_indexes None none = absurd none
    answer_indexes (Some result) kept = kept.indexes
