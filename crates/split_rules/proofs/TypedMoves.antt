-- What is due where the token moves: a lent segment has its row of statements due, and the entry that gives back what
-- was lent all that is behind them.
use Rattle.std.proofs.Common.{◌≡◌, ◌≢◌, ◌∙◌, ℕ, ◌+◌, Bool, true, false, inl, inr, List, [], ◌∷◌, ◌++◌, map, length}
use Rattle.std.proofs.Common.{refl, ap, sym, subst, arith, append_assoc, length-append, eq-eqb, ne_eqb}
use Rattle.std.proofs.Common.{append-nil, true≢false}
use Rattle.std.proofs.lemmas.Bool.Decides.{eqb_tells}
use Rattle.std.proofs.lemmas.List.{map-append}
use Rattle.std.specs.Prelude.{Option, Some, None, ⊤, if◌then◌else◌}
use Rattle.js_base.specs.declared.ids.HostId.{HostId}
use Rattle.js_base.specs.declared.ids.StmtId.{StmtId}
use Rattle.js_base.specs.declared.ids.VarId.{VarId}
use Rattle.jif_tree.specs.Trees.{BlockTree}
use Rattle.host_code.specs.declared.instruction.Op.TheVariants as op
use Rattle.need_labels.specs.Plan.{statement_host}
use Rattle.msg_cost.specs.declared.spot.Spot.{Spot}
use Rattle.msg_cost.specs.Moves.{PlannedShape, is_trusted_for_all, return_host, on, end_of, entered}
use Rattle.msg_cost.specs.Moves.{next_spot, is_same, straight_to, carried_to}
use Rattle.split_rules.specs.Walk.{Walked, Around, Lane, push_or_ask, leave_emissions, enter_emissions, move_emissions}
use Rattle.split_rules.specs.Walk.{lane_at, row_on, need_of, behind_row, entry_id, go_with}
use Rattle.split_rules.specs.Positions.{number_of, is_on, row_of, past_row, DueWork, run, Level, under, Position, calm}
use Rattle.split_rules.specs.Positions.{Forward, with_forwards, Entrance}
use Rattle.split_rules.specs.Typing.{EntryIs, Cuts, WalkPlace, nowhere, here, TypedOp, AreTyped, need_due, Covers}
use Rattle.split_rules.specs.Typing.{AreDueOn}
use Rattle.split_rules.specs.Typing.{AreSourced, RidesAll}
use Rattle.split_rules.proofs.Places.{same_host}
use Rattle.split_rules.proofs.WalkedMoves.{at_last, lent_spot, entered_here, next_here, next_there}
use Rattle.split_rules.proofs.WalkedCalls.{still_there}
use Rattle.split_rules.proofs.TypedStates.{known_at, counts_in, typed_on}
use Rattle.split_rules.proofs.TypedForwards.{IsCarried, none_out, none_riding}
use Rattle.split_rules.proofs.TypedRows.{row_here, row_elsewhere, past_here, past_elsewhere, row_and_past}
use Rattle.split_rules.proofs.TypedRows.{AreRunWhereTrusted, all_in_row, trusted_due, row_due, due_in_row, due_past}
use Rattle.split_rules.proofs.TypedRows.{return_due, run_numbers, row_numbers, past_numbers, covers_due}

-- ---- lanes

-- of the statements behind, those that are due where a spot is
abbrev pub ahead_at : PlannedShape → Spot → List BlockTree → List BlockTree
ahead_at planned spot trees = chosen spot.back
  where
    chosen : Option HostId → List BlockTree
    chosen None = trees
    chosen (Some back) = row_of planned spot.host trees

abbrev pub lane_level : Level → Lane → Level
lane_level level lane = chosen lane.spot.back
  where
    chosen : Option HostId → Level
    chosen None = level
    chosen (Some back) = under lane.return_entry

-- where these forwards are still out
abbrev pub lane_place : PlannedShape → Level → Lane → List Forward → List BlockTree → WalkPlace
lane_place planned level lane out trees =
    here lane.spot.host
    (with_forwards (calm (lane_level level lane) (map run (ahead_at planned lane.spot trees))) out)

-- What is out at a lane was given its value there, and rides to where the token goes straight from there.
pub record IsLaneOut (planned : PlannedShape) (lane : Lane) (out : List Forward) (trees : List BlockTree) : Type 0 where
  pub sourced : AreSourced planned lane.spot.host out
  pub carried : IsCarried lane.riding out (carried_to planned lane.spot (map number_of trees))

-- The entry that gives back what was lent has all due that is behind the row, which is something, and its host is
-- trusted for that.
abbrev pub IsGivenBack : PlannedShape → List Entrance → Level → HostId → ℕ → List BlockTree → Option HostId → Type 0
IsGivenBack planned entries level host number trees None = ⊤
IsGivenBack planned entries level host number trees (Some back) =
    let past = map run (past_row planned host trees) in
    EntryIs entries number (calm level past) (need_due planned past) × (past_row planned host trees ≢ [])
    × AreDueOn planned back past

abbrev pub IsLaneKnown : PlannedShape → List Entrance → Level → Lane → List BlockTree → Type 0
IsLaneKnown planned entries level lane trees =
    IsGivenBack planned entries level lane.spot.host lane.return_entry trees lane.spot.back

-- the host of a lane is trusted for what is due there
abbrev pub IsLaneTrusted : PlannedShape → Lane → List BlockTree → Type 0
IsLaneTrusted planned lane trees = AreDueOn planned lane.spot.host (map run (ahead_at planned lane.spot trees))

pub lane_still : (planned : PlannedShape) (entries more : List Entrance) (level : Level) (lane : Lane)
    (trees : List BlockTree) → IsLaneKnown planned entries level lane trees →
    IsLaneKnown planned (entries ++ more) level lane trees
lane_still planned entries more level lane trees known = by lane.spot.back known
  where
    by : (back : Option HostId) →
        IsGivenBack planned entries level lane.spot.host lane.return_entry trees back →
        IsGivenBack planned (entries ++ more) level lane.spot.host lane.return_entry trees back
    by None there = tt
    by (Some back) there = (still_there entries more lane.return_entry _ there.0, there.1, there.2)

-- nothing rides where the token stays, nor from a lane that is lent
none_stays : (riders : List VarId) (out : List Forward) (spot : Spot) → IsCarried riders out (straight_to spot spot) →
    (riders ≡ []) × (out ≡ [])
none_stays riders out spot carried =
    let P : Option HostId → Type 0 = λ it. IsCarried riders out it in
    let none : straight_to spot spot ≡ None = rw (eq-eqb spot.host.0 spot.host.0 refl) refl in
    subst P none carried

lent_none : (riders : List VarId) (out : List Forward) (host back : HostId) (next : Spot) → host.0 ≢ next.host.0 →
    IsCarried riders out (straight_to (lent_spot host back) next) → (riders ≡ []) × (out ≡ [])
lent_none riders out host back next apart carried =
    let P : Option HostId → Type 0 = λ it. IsCarried riders out it in
    let none : straight_to (lent_spot host back) next ≡ None = rw (ne_eqb host.0 next.host.0 apart) refl in
    subst P none carried

-- ---- leaving

-- where a lane is left, all of its statements that are left are due, and these forwards are still out
abbrev left_at : Level → HostId → List Forward → List BlockTree → WalkPlace
left_at level host out trees = here host (with_forwards (calm level (map run trees)) out)

-- what is out where a lane is left rides straight to the next spot
record IsLeft (planned : PlannedShape) (from : HostId) (next : Spot) (riders : List VarId) (out : List Forward) :
    Type 0 where
  sourced : AreSourced planned from out
  carried : IsCarried riders out (straight_to (on from) next)

leave_from : (planned : PlannedShape) (around : Around) (level : Level) (host : HostId) (back : Option HostId)
    (number : ℕ) (riders : List VarId) (out : List Forward) (tree : BlockTree) (trees : List BlockTree) (next : Spot) →
    host.0 ≢ next.host.0 → is_on planned host tree ≡ false → (entries : List Entrance) (branches : List Position) →
    let lane : Lane = record { spot = record { host = host; back = back }; return_entry = number; riding = riders } in
    IsLaneKnown planned entries level lane (tree ∷ trees) → IsCarried riders out (straight_to lane.spot next) →
    AreTyped planned (known_at (lane_place planned level lane out (tree ∷ trees)) entries branches)
    (leave_emissions around lane) (known_at (left_at level (end_of lane.spot) out (tree ∷ trees)) entries branches)
leave_from planned around level host None number riders out tree trees next other apart entries branches known carried =
    refl
leave_from planned around level host (Some back) number riders out tree trees next other apart entries branches known
    carried =
    let given = calm level (map run (tree ∷ trees)) in
    let gone = known_at nowhere entries branches in
    let P : List BlockTree → Type 0 = λ row. AreTyped planned
    (known_at (here host (calm (under number) (map run row))) entries branches)
    (leave_emissions around (record {
      spot = record { host = host; back = Some back };
      return_entry = number;
      riding = riders;
    }))
    (known_at (here back given) entries branches) in
    let Q : List BlockTree → Type 0 = λ behind. EntryIs entries number (calm level (map run behind))
    (need_due planned (map run behind)) in
    let R : List Forward → Type 0 = λ it. AreTyped planned
    (known_at (here host (with_forwards (calm (under number) (map run (row_of planned host (tree ∷ trees)))) it))
    entries
    branches)
    (leave_emissions around (record {
      spot = record { host = host; back = Some back };
      return_entry = number;
      riding = riders;
    }))
    (known_at (here back (with_forwards given it)) entries branches) in
    let is_given = subst Q (past_elsewhere planned host tree trees apart) known.0 in
    subst R (sym (lent_none riders out host back next other carried).1)
    (subst P (sym (row_elsewhere planned host tree trees apart)) (
      gone,
      (calm (under number) [], refl, (tt, tt), (refl, refl)),
      (
        known_at (here back given) entries branches,
        (given, need_due planned (map run (tree ∷ trees)), is_given, inl refl, refl),
        refl,
      ),
    ))

leave_typed : (planned : PlannedShape) (around : Around) (level : Level) (lane : Lane) (out : List Forward)
    (tree : BlockTree) (trees : List BlockTree) (next : Spot) → lane.spot.host.0 ≢ next.host.0 →
    is_on planned lane.spot.host tree ≡ false → (entries : List Entrance) (branches : List Position) →
    IsLaneKnown planned entries level lane (tree ∷ trees) → IsCarried lane.riding out (straight_to lane.spot next) →
    AreTyped planned (known_at (lane_place planned level lane out (tree ∷ trees)) entries branches)
    (leave_emissions around lane) (known_at (left_at level (end_of lane.spot) out (tree ∷ trees)) entries branches)
leave_typed planned around level lane out tree trees next other apart entries branches known carried =
    leave_from planned around level lane.spot.host lane.spot.back lane.return_entry lane.riding out tree trees next
    other
    apart entries branches known carried

-- what rides from a lane is still out where it is left
left_out : (planned : PlannedShape) (host : HostId) (back : Option HostId) (number : ℕ) (riders : List VarId)
    (out : List Forward) (next : Spot) → host.0 ≢ next.host.0 → AreSourced planned host out →
    let spot : Spot = record { host = host; back = back } in
    IsCarried riders out (straight_to spot next) → IsLeft planned (end_of spot) next riders out
left_out planned host None number riders out next apart sourced carried =
    record { sourced = sourced; carried = carried }
left_out planned host (Some back) number riders out next apart sourced carried =
    let none = lent_none riders out host back next apart carried in
    let P : List VarId → Type 0 = λ it. IsLeft planned back next it out in
    let Q : List Forward → Type 0 = λ it. IsLeft planned back next [] it in
    subst P (sym none.0) (subst Q (sym none.1) (record {
      sourced = tt;
      carried = none_out (straight_to (on back) next);
    }))

-- whoever has the token where a lane is left is trusted for all that is left
end_due : (planned : PlannedShape) (level : Level) (host : HostId) (back : Option HostId) (number : ℕ)
    (riders : List VarId) (tree : BlockTree) (trees : List BlockTree) → is_on planned host tree ≡ false →
    (entries : List Entrance) →
    let lane : Lane = record { spot = record { host = host; back = back }; return_entry = number; riding = riders } in
    IsLaneKnown planned entries level lane (tree ∷ trees) → IsLaneTrusted planned lane (tree ∷ trees) →
    AreDueOn planned (end_of lane.spot) (map run (tree ∷ trees))
end_due planned level host None number riders tree trees apart entries known trusted = trusted
end_due planned level host (Some back) number riders tree trees apart entries known trusted =
    let P : List BlockTree → Type 0 = λ past. AreDueOn planned back (map run past) in
    subst P (past_elsewhere planned host tree trees apart) known.2

-- ---- entering

-- the lane where a host is entered
abbrev entered_lane : Spot → List Entrance → Lane
entered_lane next entries = record { spot = next; return_entry = length entries; riding = [] }

-- A host is entered from where all statements that are left are due, and what is then known of the lane there.
record Entered (walked : Walked) (around : Around) (level : Level) (from : HostId) (riders : List VarId)
    (out : List Forward) (next : Spot) (tree : BlockTree) (trees : List BlockTree) (entries : List Entrance)
    (branches : List Position) : Type 0 where
  more : List Entrance
  typed : AreTyped walked.planned (known_at (left_at level from out (tree ∷ trees)) entries branches)
      (enter_emissions walked around (counts_in entries branches) from riders next (map number_of (tree ∷ trees)))
      (known_at (here next.host (calm (lane_level level (entered_lane next entries))
      (run tree ∷ map run (ahead_at walked.planned next trees)))) (entries ++ more) branches)
  known : IsLaneKnown walked.planned (entries ++ more) level (entered_lane next entries) trees
  trusted : AreDueOn walked.planned next.host (run tree ∷ map run (ahead_at walked.planned next trees))

-- nothing rides where the host stays
stayed_none : (riders : List VarId) (out : List Forward) (from host : HostId) → from.0 ≡ host.0 →
    IsCarried riders out (straight_to (on from) (on host)) → (riders ≡ []) × (out ≡ [])
stayed_none riders out from host same carried =
    let P : Bool → Type 0 = λ b. IsCarried riders out (if b then None else Some host) in
    subst P (eq-eqb from.0 host.0 same) carried

-- and all that is out rides where another host is handed the token
handed_all : (riders : List VarId) (out : List Forward) (from host : HostId) → from.0 ≢ host.0 →
    IsCarried riders out (straight_to (on from) (on host)) → RidesAll riders host out
handed_all riders out from host apart carried =
    let P : Bool → Type 0 = λ b. IsCarried riders out (if b then None else Some host) in
    subst P (ne_eqb from.0 host.0 apart) carried

stayed : (walked : Walked) (around : Around) (level : Level) (from host : HostId) (riders : List VarId)
    (out : List Forward) (tree : BlockTree) (trees : List BlockTree) →
    AreDueOn walked.planned from (map run (tree ∷ trees)) → IsLeft walked.planned from (on host) riders out →
    (entries : List Entrance) (branches : List Position) → from.0 ≡ host.0 →
    Entered walked around level from riders out (on host) tree trees entries branches
stayed walked around level from host riders out tree trees due left entries branches same =
    let P : HostId → Type 0 = λ one. AreDueOn walked.planned one (map run (tree ∷ trees)) in
    let none = stayed_none riders out from host same left.carried in
    record {
      more = [];
      typed = rw (eq-eqb from.0 host.0 same)
          (ap (λ one. known_at (left_at level from one (tree ∷ trees)) entries branches) none.1
          ∙ ap (λ one. known_at (left_at level one [] (tree ∷ trees)) entries branches) (same_host from host same)
          ∙ ap (λ one. known_at (left_at level host [] (tree ∷ trees)) one branches) (sym (append-nil entries)));
      known = tt;
      trusted = subst P (same_host from host same) due;
    }

-- the need of statements is that of what is due for them
statements_need : (planned : PlannedShape) (trees : List BlockTree) →
    need_of planned (map number_of trees) ≡ need_due planned (map run trees)
statements_need planned trees = ap (need_of planned) (sym (run_numbers trees))

-- the thread is handed over to an entry where all is due, and all that is out rides
go_typed : (planned : PlannedShape) (me on : HostId) (level : Level) (due : List DueWork) (number : ℕ)
    (riders : List VarId) (out : List Forward) (entries : List Entrance) (branches : List Position) →
    RidesAll riders on out → EntryIs entries number (calm level due) (need_due planned due) →
    TypedOp planned (known_at (here me (with_forwards (calm level due) out)) entries branches) me
    (with_forwards (calm level due) out) (go_with riders (entry_id number) on) (known_at nowhere entries branches)
go_typed planned me on level due number [] out entries branches rides is =
    let P : List Forward → Type 0 = λ it. TypedOp planned
    (known_at (here me (with_forwards (calm level due) it)) entries branches) me (with_forwards (calm level due) it)
    (op.Go (entry_id number) on) (known_at nowhere entries branches) in
    subst P (sym (none_riding on out rides)) ((refl, is), refl)
go_typed planned me on level due number (x ∷ riders) out entries branches rides is = (((refl, refl), rides, is), refl)

handed : (walked : Walked) (around : Around) (level : Level) (from host : HostId) (riders : List VarId)
    (out : List Forward) (tree : BlockTree) (trees : List BlockTree) →
    AreDueOn walked.planned from (map run (tree ∷ trees)) → IsLeft walked.planned from (on host) riders out →
    AreDueOn walked.planned host (map run (tree ∷ trees)) → (entries : List Entrance) (branches : List Position) →
    from.0 ≢ host.0 → Entered walked around level from riders out (on host) tree trees entries branches
handed walked around level from host riders out tree trees due left due_there entries branches apart =
    let planned = walked.planned in
    let all = calm level (map run (tree ∷ trees)) in
    let start = with_forwards all out in
    let named = need_of planned (map number_of (tree ∷ trees)) in
    let entrance : Entrance = record { position = all; need = named } in
    let more = entries ++ entrance ∷ [] in
    let there = at_last entries entrance [] in
    let same = statements_need planned (tree ∷ trees) in
    let P : ℕ → Type 0 = λ need. Covers planned need (map run (tree ∷ trees)) in
    let Q : ℕ → Type 0 = λ need. EntryIs more (length entries) all need in
    record {
      more = entrance ∷ [];
      typed = rw (ne_eqb from.0 host.0 apart) (
        known_at (here from start) more branches,
        (all, refl, due_there, subst P (sym same) (covers_due planned (map run (tree ∷ trees))), refl),
        (
          known_at nowhere more branches,
          (
            start,
            refl,
            (due, left.sourced),
            go_typed planned from host level (map run (tree ∷ trees)) (length entries) riders out more branches
                (handed_all riders out from host apart left.carried) (subst Q same there),
          ),
          (
            known_at (here host all) more branches,
            (all, named, there, inl refl, refl),
            refl,
          ),
        ),
      );
      known = tt;
      trusted = due_there;
    }

push_typed : (planned : PlannedShape) (me back : HostId) (level : Level) (due : List DueWork) (out : List Forward)
    (number : ℕ) (next : Position) (entries : List Entrance) (branches : List Position) →
    Cuts planned entries (with_forwards (calm level due) out) number next → AreDueOn planned back due →
    (me.0 ≢ back.0 → out ≡ []) →
    TypedOp planned (known_at (here me (with_forwards (calm level due) out)) entries branches) me
    (with_forwards (calm level due) out) (push_or_ask me back number) (known_at (here me next) entries branches)
push_typed planned me back level due out number next entries branches cuts trusted none =
    elim (eqb_tells me.0 back.0) [
      | inl same ↦ rw same.0 (next, cuts, refl)
      | inr other ↦ rw other.0 (next, (cuts, trusted, none other.1), refl)
    ]

-- where a host is lent the token, nothing is out that would ride past a question for the entry, and else all rides
lent_all : (riders : List VarId) (out : List Forward) (from host back : HostId) → from.0 ≢ host.0 →
    IsCarried riders out (straight_to (on from) (lent_spot host back)) →
    RidesAll riders host out × (from.0 ≢ back.0 → out ≡ [])
lent_all riders out from host back apart carried =
    elim (eqb_tells back.0 from.0) [
      | inl same ↦
          let Q : Bool → Type 0 = λ b. IsCarried riders out (if b then Some host else None) in
          (subst Q same.0 straight, λ other. absurd (other (sym same.1)))
      | inr other ↦
          let Q : Bool → Type 0 = λ b. IsCarried riders out (if b then Some host else None) in
          let none = subst Q other.0 straight in
          let R : List VarId → Type 0 = λ it. RidesAll it host out in
          let S : List Forward → Type 0 = λ it. RidesAll [] host it in
          (subst R (sym none.0) (subst S (sym none.1) (refl, tt)), λ is. none.1)
    ]
  where
    straight : IsCarried riders out (if is_same back from then Some host else None)
    straight =
        let P : Bool → Type 0 = λ b. IsCarried riders out
        (if b then None else if is_same back from then Some host else None) in
        subst P (ne_eqb from.0 host.0 apart) carried

lent : (walked : Walked) (around : Around) (level : Level) (from host back : HostId) (riders : List VarId)
    (out : List Forward) (tree : BlockTree) (trees : List BlockTree) →
    AreDueOn walked.planned from (map run (tree ∷ trees)) →
    IsLeft walked.planned from (lent_spot host back) riders out →
    AreDueOn walked.planned back (map run (tree ∷ trees)) → AreRunWhereTrusted walked.planned (tree ∷ trees) →
    (entries : List Entrance) (branches : List Position) → from.0 ≢ host.0 →
    is_on walked.planned host tree ≡ true → past_row walked.planned host (tree ∷ trees) ≢ [] →
    Entered walked around level from riders out (lent_spot host back) tree trees entries branches
lent walked around level from host back riders out tree trees due left due_back run_there entries branches apart own
    some = record {
      more = given ∷ segment ∷ [];
      typed = rw (ne_eqb from.0 host.0 apart) (
        known_at (left_at level from out all) one branches,
        (given.position, refl, past_due, subst C past_need (covers_due planned (map run past)), refl),
        (
          known_at (left_at level from out all) both branches,
          (segment.position, refl, row_on_host, subst D row_need (covers_due planned (map run row)), refl),
          (
            known_at (here from (with_forwards segment.position out)) both branches,
            (
              with_forwards (calm level (map run all)) out,
              refl,
              (due, left.sourced),
              push_typed planned from back level (map run all) out number (with_forwards segment.position out) both
                  branches
                  cuts due_back rides.1,
            ),
            (
              known_at nowhere both branches,
              (
                with_forwards segment.position out,
                refl,
                (due_in_row planned from host all due, left.sourced),
                go_typed planned from host (under number) (map run row) (number + 1) riders out both branches rides.0
                    second,
              ),
              (
                known_at (here host segment.position) both branches,
                (segment.position, segment.need, second_there, inl refl, refl),
                ap (λ it. known_at (here host segment.position) it branches)
                    (append_assoc entries (given ∷ []) (segment ∷ []))
                    ∙ ap (λ row. known_at (here host (calm (under number) (map run row))) (entries ++ given ∷ segment ∷
                    [])
                    branches) (row_here planned host tree trees own),
              ),
            ),
          ),
        ),
      );
      known = (
        subst P behind (subst E (sym past_need) (at_last entries given (segment ∷ []))),
        λ none. some (behind ∙ none),
        subst F behind past_due,
      );
      trusted =
          let Q : List BlockTree → Type 0 = λ row. AreDueOn planned host (map run row) in
          subst Q (row_here planned host tree trees own) row_on_host;
    }
  where
    planned : PlannedShape
    planned = walked.planned

    all : List BlockTree
    all = tree ∷ trees

    past : List BlockTree
    past = past_row walked.planned host (tree ∷ trees)

    row : List BlockTree
    row = row_of walked.planned host (tree ∷ trees)

    number : ℕ
    number = length entries

    given : Entrance
    given = record {
      position = calm level (map run past);
      need = need_of planned (behind_row planned host (map number_of all));
    }

    segment : Entrance
    segment = record {
      position = calm (under number) (map run row);
      need = need_of planned (row_on planned host (map number_of all));
    }

    one : List Entrance
    one = entries ++ given ∷ []

    both : List Entrance
    both = one ++ segment ∷ []

    past_need : need_due planned (map run past) ≡ need_of planned (behind_row planned host (map number_of all))
    past_need = sym (statements_need planned past) ∙ ap (need_of planned) (past_numbers planned host all)

    row_need : need_due planned (map run row) ≡ need_of planned (row_on planned host (map number_of all))
    row_need = sym (statements_need planned row) ∙ ap (need_of planned) (row_numbers planned host all)

    C : ℕ → Type 0
    C need = Covers planned need (map run past)

    D : ℕ → Type 0
    D need = Covers planned need (map run row)

    E : ℕ → Type 0
    E need = EntryIs (entries ++ given ∷ segment ∷ []) number (calm level (map run past)) need

    F : List BlockTree → Type 0
    F list = AreDueOn planned back (map run list)

    past_due : AreDueOn planned back (map run past)
    past_due = due_past planned back host all due_back

    row_on_host : AreDueOn planned host (map run row)
    row_on_host = row_due planned from host all due run_there

    long : length one ≡ number + 1
    long = rw length-append (omega arith)

    second_there : EntryIs both (number + 1) segment.position segment.need
    second_there =
        let P : ℕ → Type 0 = λ place. EntryIs both place segment.position segment.need in
        subst P long (at_last one segment [])

    second : EntryIs both (number + 1) segment.position (need_due planned (map run row))
    second =
        let P : ℕ → Type 0 = λ need. EntryIs both (number + 1) segment.position need in
        subst P (sym row_need) second_there

    rides : RidesAll riders host out × (from.0 ≢ back.0 → out ≡ [])
    rides = lent_all riders out from host back apart left.carried

    cuts : Cuts planned both (with_forwards (calm level (map run all)) out) number (with_forwards segment.position out)
    cuts =
        let P : ℕ → Type 0 = λ need. EntryIs both number given.position need in
        record {
          idle = (refl, refl);
          behind = map run past;
          pushed = subst P (sym past_need) (still_there one (segment ∷ []) number given (at_last entries given []));
          due = ap (map run) (row_and_past planned host all)
              ∙ map-append run (row_of planned host all) (past_row planned host all);
          goes = refl;
        }

    behind : past_row walked.planned host (tree ∷ trees) ≡ past_row walked.planned host trees
    behind = past_here planned host tree trees own

    P : List BlockTree → Type 0
    P list = EntryIs (entries ++ given ∷ segment ∷ []) number (calm level (map run list))
        (need_due planned (map run list))

-- ---- moving

-- A lane moves to the spot of the next statement, which is then due first, and what is known of the lane there.
pub record MovesTyped (walked : Walked) (around : Around) (level : Level) (lane : Lane) (out : List Forward)
    (tree : BlockTree) (trees : List BlockTree) (entries : List Entrance) (branches : List Position) (next : Spot) :
    Type 0 where
  pub more : List Entrance
  pub typed : AreTyped walked.planned
      (known_at (lane_place walked.planned level lane out (tree ∷ trees)) entries branches)
      (move_emissions walked around (counts_in entries branches) lane next (map number_of (tree ∷ trees)))
      (known_at (here next.host (calm (lane_level level (lane_at (counts_in entries branches) lane next))
      (run tree ∷ map run (ahead_at walked.planned (lane_at (counts_in entries branches) lane next).spot trees))))
      (entries ++ more) branches)
  pub known : IsLaneKnown walked.planned (entries ++ more) level
      (lane_at (counts_in entries branches) lane next) trees
  pub trusted : AreDueOn walked.planned next.host
      (run tree ∷ map run (ahead_at walked.planned (lane_at (counts_in entries branches) lane next).spot trees))
  pub spot_is : (lane_at (counts_in entries branches) lane next).spot ≡ next
  pub on_host : is_on walked.planned next.host tree ≡ true

-- it stays
row_from : (planned : PlannedShape) (host : HostId) (back : Option HostId) (tree : BlockTree)
    (trees : List BlockTree) → is_on planned host tree ≡ true →
    map run (ahead_at planned (record { host = host; back = back }) (tree ∷ trees))
    ≡ run tree ∷ map run (ahead_at planned (record { host = host; back = back }) trees)
row_from planned host None tree trees own = refl
row_from planned host (Some back) tree trees own = ap (map run) (row_here planned host tree trees own)

known_from : (planned : PlannedShape) (entries : List Entrance) (level : Level) (host : HostId) (number : ℕ)
    (riders : List VarId) (back : Option HostId) (tree : BlockTree) (trees : List BlockTree) → is_on planned host tree ≡
    true →
    let lane : Lane = record { spot = record { host = host; back = back }; return_entry = number; riding = riders } in
    IsLaneKnown planned entries level lane (tree ∷ trees) → IsLaneKnown planned (entries ++ []) level lane trees
known_from planned entries level host number riders None tree trees own known = tt
known_from planned entries level host number riders (Some back) tree trees own known =
    let past = past_here planned host tree trees own in
    let P : List BlockTree → Type 0 = λ behind. EntryIs entries number (calm level (map run behind))
    (need_due planned (map run behind)) in
    let Q : List BlockTree → Type 0 = λ behind. AreDueOn planned back (map run behind) in
    (still_there entries [] number _ (subst P past known.0), λ none. known.1 (past ∙ none), subst Q past known.2)

unmoved : (walked : Walked) (around : Around) (level : Level) (lane : Lane) (out : List Forward) (tree : BlockTree)
    (trees : List BlockTree) (entries : List Entrance) (branches : List Position) →
    is_on walked.planned lane.spot.host tree ≡ true → IsLaneKnown walked.planned entries level lane (tree ∷ trees) →
    IsLaneTrusted walked.planned lane (tree ∷ trees) → IsCarried lane.riding out (straight_to lane.spot lane.spot) →
    MovesTyped walked around level lane out tree trees entries branches lane.spot
unmoved walked around level lane out tree trees entries branches own known trusted carried =
    let host = lane.spot.host in
    let planned = walked.planned in
    let same = eq-eqb host.0 host.0 refl in
    let row = row_from planned host lane.spot.back tree trees own in
    let lane_is : lane_at (counts_in entries branches) lane lane.spot ≡ lane = rw same refl in
    let P : Lane → Type 0 = λ it. AreDueOn planned host (run tree ∷ map run (ahead_at planned it.spot trees)) in
    record {
      more = [];
      typed = rw same
          (ap (λ it. known_at (lane_place planned level lane it (tree ∷ trees)) entries branches)
          (none_stays lane.riding out lane.spot carried).1
          ∙ ap (λ due. known_at (here host (calm (lane_level level lane) due)) entries branches) row
          ∙ ap (λ one. known_at (here host (calm (lane_level level lane)
          (run tree ∷ map run (ahead_at planned lane.spot trees)))) one branches) (sym (append-nil entries)));
      known = rw same
          (known_from planned entries level host lane.return_entry lane.riding lane.spot.back tree trees own known);
      trusted = subst P (sym lane_is) (subst (AreDueOn planned host) row trusted);
      spot_is = rw same refl;
      on_host = own;
    }

-- it is left, and the next spot entered
moved : (walked : Walked) (around : Around) (level : Level) (lane : Lane) (out : List Forward) (tree : BlockTree)
    (trees : List BlockTree) (entries : List Entrance) (branches : List Position) (next : Spot) →
    lane.spot.host.0 ≢ next.host.0 → is_on walked.planned lane.spot.host tree ≡ false →
    is_on walked.planned next.host tree ≡ true → IsLaneKnown walked.planned entries level lane (tree ∷ trees) →
    IsCarried lane.riding out (straight_to lane.spot next) →
    Entered walked around level (end_of lane.spot) lane.riding out next tree trees entries branches →
    MovesTyped walked around level lane out tree trees entries branches next
moved walked around level lane out tree trees entries branches next apart elsewhere own known carried enters =
    let other = ne_eqb lane.spot.host.0 next.host.0 apart in
    let lane_is : lane_at (counts_in entries branches) lane next ≡ entered_lane next entries = rw other refl in
    let P : Lane → Type 0 = λ it. AreDueOn walked.planned next.host
    (run tree ∷ map run (ahead_at walked.planned it.spot trees)) in
    record {
      more = enters.more;
      typed = rw other (typed_on walked.planned
          (known_at (lane_place walked.planned level lane out (tree ∷ trees)) entries branches)
          (leave_emissions around lane)
          (enter_emissions walked around (counts_in entries branches) (end_of lane.spot) lane.riding next
          (map number_of (tree ∷ trees)))
          (known_at (left_at level (end_of lane.spot) out (tree ∷ trees)) entries branches) _
          (leave_typed walked.planned around level lane out tree trees next apart elsewhere entries branches known
          carried) enters.typed);
      known = rw other enters.known;
      trusted = subst P (sym lane_is) enters.trusted;
      spot_is = rw other refl;
      on_host = own;
    }

-- from a lane to where a statement stands
pub move_typed : (walked : Walked) (around : Around) (level : Level) (lane : Lane) (out : List Forward)
    (tree : BlockTree) (trees : List BlockTree) (entries : List Entrance) (branches : List Position) →
    AreRunWhereTrusted walked.planned (tree ∷ trees) →
    IsLaneKnown walked.planned entries level lane (tree ∷ trees) → IsLaneTrusted walked.planned lane (tree ∷ trees) →
    IsLaneOut walked.planned lane out (tree ∷ trees) →
    MovesTyped walked around level lane out tree trees entries branches
    (next_spot walked.planned lane.spot (number_of tree) (map number_of trees))
move_typed walked around level lane out tree trees entries branches trusted known holds is_out =
    elim (eqb_tells lane.spot.host.0 host.0) [
      | inl same ↦ by_same same.1
      | inr apart ↦ by_other apart.1 (ne_eqb host.0 lane.spot.host.0 (λ same. apart.1 (sym same)))
    ]
  where
    planned : PlannedShape
    planned = walked.planned

    host : HostId
    host = statement_host walked.planned.plan (number_of tree)

    from : HostId
    from = end_of lane.spot

    statements : List StmtId
    statements = map number_of (tree ∷ trees)

    P : Spot → Type 0
    P next = MovesTyped walked around level lane out tree trees entries branches next

    -- what is out rides to the next spot
    C : Spot → Type 0
    C next = IsCarried lane.riding out (straight_to lane.spot next)

    own : is_on walked.planned (statement_host walked.planned.plan (number_of tree)) tree ≡ true
    own = eq-eqb host.0 host.0 refl

    by_same : lane.spot.host.0 ≡ host.0 →
        P (next_spot walked.planned lane.spot (number_of tree) (map number_of trees))
    by_same same =
        let is = next_here planned lane.spot (number_of tree) (map number_of trees) same in
        subst P (sym is)
        (unmoved walked around level lane out tree trees entries branches
        (eq-eqb host.0 lane.spot.host.0 (sym same)) known holds (subst C is is_out.carried))

    by_other : lane.spot.host.0 ≢ host.0 → is_on walked.planned lane.spot.host tree ≡ false →
        P (next_spot walked.planned lane.spot (number_of tree) (map number_of trees))
    by_other apart elsewhere =
        let is = next_there planned lane.spot (number_of tree) (map number_of trees) apart in
        subst P (sym is) (leaves (subst C is is_out.carried))
      where
        due : AreDueOn planned from (map run (tree ∷ trees))
        due = end_due planned level lane.spot.host lane.spot.back lane.return_entry lane.riding tree trees elsewhere
            entries known holds

        enters : (next : Spot) → next.host ≡ host → C next →
            (IsLeft planned from next lane.riding out →
            Entered walked around level from lane.riding out next tree trees entries branches) → P next
        enters next is carried entered =
            let Q : HostId → Type 0 = λ one. lane.spot.host.0 ≢ one.0 in
            let R : HostId → Type 0 = λ one. is_on planned one tree ≡ true in
            let other = subst Q (sym is) apart in
            moved walked around level lane out tree trees entries branches next other elsewhere
            (subst R (sym is) own) known carried
            (entered (left_out planned lane.spot.host lane.spot.back lane.return_entry lane.riding out next other
            is_out.sourced carried))

        by : (b : Bool) → is_trusted_for_all planned host statements ≡ b → from.0 ≢ host.0 →
            C (entered planned from host statements) → P (entered planned from host statements)
        by true is other carried =
            let there : entered planned from host statements ≡ on host = rw (ne_eqb from.0 host.0 other, is) refl in
            subst P (sym there) (enters (on host) refl (subst C there carried)
            (λ left. handed walked around level from host lane.riding out tree trees due left
            (trusted_due planned from host (tree ∷ trees) due is) entries branches other))
        by false is other carried =
            let back = return_host planned from host statements in
            let there : entered planned from host statements ≡ lent_spot host back =
            rw (ne_eqb from.0 host.0 other, is) refl in
            subst P (sym there) (enters (lent_spot host back) refl (subst C there carried)
            (λ left. lent walked around level from host back lane.riding out tree trees due left
            (return_due planned from host (tree ∷ trees) due) trusted entries branches other own
            (λ none. true≢false (sym (all_in_row planned host (tree ∷ trees) trusted none) ∙ is))))

        leaves : C (entered walked.planned from host statements) → P (entered walked.planned from host statements)
        leaves carried =
            elim (eqb_tells from.0 host.0) [
              | inl same ↦
                  let there = entered_here planned from host statements same.1 in
                  subst P (sym there) (enters (on host) refl (subst C there carried)
                  (λ left. stayed walked around level from host lane.riding out tree trees due left entries branches
                  same.1))
              | inr other ↦ by (is_trusted_for_all planned host statements) refl other.1 carried
            ]
