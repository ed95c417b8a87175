-- Where the right to go on moves within a block, all that is given has the program label of the block.
use Rattle.std.proofs.Common.{◌≡◌, ◌≢◌, ◌∙◌, ℕ, ◌+◌, ◌⊎◌, inl, inr, false, List, [], ◌∷◌, ◌++◌, length, refl, ap}
use Rattle.std.proofs.Common.{sym, subst, arith, eq-eqb, ne_eqb, append_assoc, append-nil, length-append}
use Rattle.std.proofs.lemmas.Bool.Decides.{eqb_tells}
use Rattle.std.specs.Prelude.{Option, Some, None, slice_get, ⊤}
use Rattle.std.specs.List.{AllByRecursion}
use Rattle.js_base.specs.declared.ids.HostId.{HostId}
use Rattle.js_base.specs.declared.ids.VarId.{VarId}
use Rattle.js_base.specs.declared.ids.StmtId.{StmtId}
use Rattle.label_lattice.specs.declared.label.Label.{Label}
use Rattle.label_lattice.specs.Label.{ConfFlows}
use Rattle.host_code.specs.declared.instruction.Op.TheVariants as op
use Rattle.msg_cost.specs.declared.spot.Spot.{Spot}
use Rattle.need_labels.specs.Plan.{statement_host}
use Rattle.msg_cost.specs.Moves.{PlannedShape, on, end_of, entered, next_spot, return_host}
use Rattle.split_rules.specs.Positions.{Level, under}
use Rattle.split_rules.specs.Walk.{Walked, Around, Lane, entry_id, emitted, leave_emissions, enter_emissions}
use Rattle.split_rules.specs.Walk.{move_emissions, lane_at, end_emissions, push_or_ask, go_with}
use Rattle.split_rules.proofs.Places.{same_host}
use Rattle.split_rules.proofs.TypedMoves.{lane_level}
use Rattle.split_rules.proofs.ToldMoves.{SpotSees, AllSee, next_well}
use Rattle.split_rules.proofs.WalkedCalls.{still_there}
use Rattle.split_rules.proofs.WalkedMoves.{at_last, entered_here, entered_there, next_here, next_there, lent_spot}
use Rattle.split_shades.specs.Flows.{IsSeenOn}
use Rattle.split_shades.specs.Shades.{Shade, EntryShade, Ahead, calm_ahead, MeetsShade, level_entry}
use Rattle.split_shades.specs.Shading.{Scene, MayTell, IsLevelOf, IsShade, IsEntryShade, PushesAt, NamesInShade}
use Rattle.split_shades.specs.Shading.{ShadePlace, nowhere, here, ShadeKnown, known_at, ShadedOp, IsShaded, AreShaded}
use Rattle.split_shades.proofs.BasisLabels.{flows_self}
use Rattle.split_shades.proofs.ShadedRiders.{RidesWell, go_with_shaded}
use Rattle.split_shades.proofs.ShadedStates.{counts_in, shaded_on}

-- ---- lanes

-- the entry by which a token is given back, or gone to, within a block
abbrev pub block_entry : Level → Label → Option Label → EntryShade
block_entry level pc pushed =
    record { level = level; block = pc; label = pc; pushed = pushed; begun = None }

abbrev pub lane_place : Level → Label → Lane → ShadePlace
lane_place level pc lane = here lane.spot.host (calm_ahead (lane_level level lane) pc)

-- the entry that gives back what was lent
abbrev pub IsGivenBack : List EntryShade → Level → Label → ℕ → Option HostId → Type 0
IsGivenBack entries level pc number None = ⊤
IsGivenBack entries level pc number (Some back) = slice_get entries number ≡ Some (block_entry level pc (Some pc))

abbrev pub IsLaneKnown : List EntryShade → Level → Label → Lane → Type 0
IsLaneKnown entries level pc lane = IsGivenBack entries level pc lane.return_entry lane.spot.back

pub lane_still : (entries more : List EntryShade) (level : Level) (pc : Label) (lane : Lane) →
    IsLaneKnown entries level pc lane → IsLaneKnown (entries ++ more) level pc lane
lane_still entries more level pc lane known = by lane.spot.back known
  where
    by : (back : Option HostId) → IsGivenBack entries level pc lane.return_entry back →
        IsGivenBack (entries ++ more) level pc lane.return_entry back
    by None there = tt
    by (Some back) there = still_there entries more lane.return_entry _ there

pub level_still : (entries more : List EntryShade) (level : Level) (label : Label) → IsLevelOf entries level label →
    IsLevelOf (entries ++ more) level label
level_still entries more level label (it, is, label_is) =
    (it, still_there entries more (level_entry level) it is, label_is)

-- where a token is lent, it is that of an entry with the program label of the block too
pub lane_level_is : (entries : List EntryShade) (level : Level) (pc : Label) (lane : Lane) →
    IsLevelOf entries level pc → IsLaneKnown entries level pc lane → IsLevelOf entries (lane_level level lane) pc
lane_level_is entries level pc lane is known = by lane.spot.host lane.spot.back lane.return_entry known
  where
    by : (host : HostId) (back : Option HostId) (number : ℕ) → IsGivenBack entries level pc number back →
        IsLevelOf entries
        (lane_level level (record {
          spot = record { host = host; back = back };
          return_entry = number;
          riding = lane.riding;
        })) pc
    by host None number there = is
    by host (Some back) number there = (block_entry level pc (Some pc), there, refl)

-- ---- instructions of moves

-- the shade of an instruction that evaluates nothing
abbrev pub plain_shade : Level → Label → Shade
plain_shade level pc = record {
  level = level;
  pc = pc;
  block = pc;
  guard = None;
  temps = [];
  calls = false;
  released = [];
}

pub plain_meets : (level : Level) (pc : Label) → MeetsShade (calm_ahead level pc) (plain_shade level pc)
plain_meets level pc = record { level = refl; block = refl; temps = refl; calls = refl; begun = tt }

pub plain_is_shade : (scene : Scene) (entries : List EntryShade) (level : Level) (pc : Label) →
    IsLevelOf entries level pc → IsShade scene entries (plain_shade level pc)
plain_is_shade scene entries level pc is = record {
  under_block = refl;
  below = (pc, is, flows_self pc);
  silent = λ none. refl;
}

-- an instruction of a block where a statement may begin
pub plain_shaded : (scene : Scene) (host : HostId) (pc : Label) (statement : StmtId) (what : _) (level : Level)
    (entries : List EntryShade) (branches : List Ahead) (after : ShadeKnown) → IsLevelOf entries level pc →
    let known = known_at (here host (calm_ahead level pc)) entries branches in
    ShadedOp scene known host (plain_shade level pc) what after →
    IsShaded scene known (record { host = host; label = pc; statement = statement; op = what; released = [] }) after
plain_shaded scene host pc statement what level entries branches after is law = record {
  shade = plain_shade level pc;
  ahead = calm_ahead level pc;
  is_here = refl;
  meets = plain_meets level pc;
  label_is = refl;
  released_is = refl;
  is_shade = plain_is_shade scene entries level pc is;
  guarded = tt;
  law = law;
}

-- an entry of a block is named
pub block_entry_is : (scene : Scene) (entries : List EntryShade) (host : HostId) (level : Level) (pc : Label)
    (pushed : Option Label) → (pushed ≡ None) ⊎ (pushed ≡ Some pc) → IsLevelOf entries level pc →
    IsSeenOn scene.planned host pc → IsEntryShade scene entries host (block_entry level pc pushed)
block_entry_is scene entries host level pc None either is seen = record {
  level = (pc, is, flows_self pc, flows_self pc);
  pushed = tt;
  seen = seen;
}
block_entry_is scene entries host level pc (Some one) either is seen = record {
  level = (pc, is, flows_self pc, flows_self pc);
  pushed = by either;
  seen = seen;
}
  where
    by : (Some one ≡ None) ⊎ (Some one ≡ Some pc) → ConfFlows one pc
    by (inl none) = absurd (cc)
    by (inr same) =
        let P : Label → Type 0 = λ label. ConfFlows label pc in
        let is_pc : pc ≡ one = cc in
        subst P is_pc (flows_self pc)

-- ---- leaving

leave_from : (scene : Scene) (around : Around) (level : Level) (host : HostId) (back : Option HostId) (number : ℕ)
    (riding : List VarId) (entries : List EntryShade) (branches : List Ahead) → IsLevelOf entries level around.pc →
    let lane : Lane = record {
      spot = record { host = host; back = back };
      return_entry = number;
      riding = riding;
    } in
    IsLaneKnown entries level around.pc lane →
    AreShaded scene (known_at (lane_place level around.pc lane) entries branches) (leave_emissions around lane)
    (known_at (here (end_of lane.spot) (calm_ahead level around.pc)) entries branches)
leave_from scene around level host None number riding entries branches is known = refl
leave_from scene around level host (Some back) number riding entries branches is known =
    let pc = around.pc in
    let given = block_entry level pc (Some pc) in (
      known_at nowhere entries branches,
      plain_shaded scene host pc around.owner op.Back (under number) entries branches (known_at nowhere entries
          branches) (given, known, refl) (((refl, refl), refl, refl), refl),
      (
        known_at (here back (calm_ahead level pc)) entries branches,
        (given, known, inl (refl, refl), refl),
        refl,
      ),
    )

pub leave_shaded : (scene : Scene) (around : Around) (level : Level) (lane : Lane) (entries : List EntryShade)
    (branches : List Ahead) → IsLevelOf entries level around.pc → IsLaneKnown entries level around.pc lane →
    AreShaded scene (known_at (lane_place level around.pc lane) entries branches) (leave_emissions around lane)
    (known_at (here (end_of lane.spot) (calm_ahead level around.pc)) entries branches)
leave_shaded scene around level lane entries branches is known =
    leave_from scene around level lane.spot.host lane.spot.back lane.return_entry lane.riding entries branches is known

-- ---- entering

-- the lane on a spot that was just entered
abbrev entered_lane : List EntryShade → Spot → Lane
entered_lane entries next = record { spot = next; return_entry = length entries; riding = [] }

-- a spot is entered from a host where the token of the block is held, and some values ride
pub record Entered (scene : Scene) (walked : Walked) (around : Around) (level : Level) (from : HostId)
    (riders : List VarId) (next : Spot) (statements : List StmtId) (entries : List EntryShade) (branches : List Ahead) :
    Type 0 where
  pub more : List EntryShade
  pub shaded : AreShaded scene (known_at (here from (calm_ahead level around.pc)) entries branches)
      (enter_emissions walked around (counts_in entries branches) from riders next statements)
      (known_at (lane_place level around.pc (entered_lane entries next)) (entries ++ more) branches)
  pub known : IsLaneKnown (entries ++ more) level around.pc (entered_lane entries next)

-- it is the same host
stayed : (scene : Scene) (walked : Walked) (around : Around) (level : Level) (from host : HostId) (riders : List VarId)
    (statements : List StmtId) (entries : List EntryShade) (branches : List Ahead) → from.0 ≡ host.0 →
    Entered scene walked around level from riders (on host) statements entries branches
stayed scene walked around level from host riders statements entries branches same = record {
  more = [];
  shaded = rw (eq-eqb from.0 host.0 same)
      (ap (λ one. known_at (here one (calm_ahead level around.pc)) entries branches) (same_host from host same)
      ∙ ap (λ one. known_at (here host (calm_ahead level around.pc)) one branches) (sym (append-nil entries)));
  known = tt;
}

-- the right to go on is handed on
handed : (scene : Scene) (walked : Walked) (around : Around) (level : Level) (from host : HostId) (riders : List VarId)
    (statements : List StmtId) (entries : List EntryShade) (branches : List Ahead) →
    IsLevelOf entries level around.pc → IsSeenOn scene.planned host around.pc → from.0 ≢ host.0 →
    AllByRecursion (λ x. MayTell scene around.pc x host) riders →
    Entered scene walked around level from riders (on host) statements entries branches
handed scene walked around level from host riders statements entries branches is seen apart rides =
    let pc = around.pc in
    let own = block_entry level pc None in
    let more = entries ++ own ∷ [] in
    let there = at_last entries own [] in
    record {
      more = own ∷ [];
      shaded = rw (ne_eqb from.0 host.0 apart) (
        known_at (here from (calm_ahead level pc)) more branches,
        (own, refl, block_entry_is scene entries host level pc None (inl refl) is seen, refl),
        (
          known_at nowhere more branches,
          plain_shaded scene from pc around.owner (go_with riders (entry_id (length entries)) host) level more branches
              (known_at nowhere more branches) (level_still entries (own ∷ []) level pc is)
              (go_with_shaded scene (known_at (here from (calm_ahead level pc)) more branches) from
              (plain_shade level pc) riders (entry_id (length entries)) host (
                (refl, refl),
                refl,
                refl,
                record { it = own; is = there; level = refl; block = refl },
                seen,
              ) rides),
          (
            known_at (here host (calm_ahead level pc)) more branches,
            (own, there, inl (refl, refl), refl),
            refl,
          ),
        ),
      );
      known = tt;
    }

-- the entry that takes a token back is pushed, by its own host or another
push_shaded : (scene : Scene) (me back : HostId) (level : Level) (pc : Label) (statement : StmtId) (number : ℕ)
    (entries : List EntryShade) (branches : List Ahead) → IsLevelOf entries level pc →
    slice_get entries number ≡ Some (block_entry level pc (Some pc)) → IsSeenOn scene.planned back pc →
    IsShaded scene (known_at (here me (calm_ahead level pc)) entries branches)
    (record {
      host = me;
      label = pc;
      statement = statement;
      op = push_or_ask me back number;
      released = [];
    })
    (known_at (here me (calm_ahead (under number) pc)) entries branches)
push_shaded scene me back level pc statement number entries branches is there seen =
    let next = calm_ahead (under number) pc in
    let names : NamesInShade entries (plain_shade level pc) number =
    record { it = block_entry level pc (Some pc); is = there; level = refl; block = refl; pushed = refl } in
    let pushes : PushesAt None entries (plain_shade level pc) number next = (names, refl) in
    let after = known_at (here me next) entries branches in
    elim (eqb_tells me.0 back.0) [
      | inl same ↦ rw same.0 (plain_shaded scene me pc statement (op.Push (entry_id number)) level entries branches
          after is (next, ((refl, refl), pushes), refl))
      | inr other ↦ rw other.0 (plain_shaded scene me pc statement (op.Ask (entry_id number) back) level entries
          branches after is (next, ((refl, refl), refl, refl, pushes, seen), refl))
    ]

-- the right to go on is lent
lent : (scene : Scene) (walked : Walked) (around : Around) (level : Level) (from host back : HostId)
    (riders : List VarId) (statements : List StmtId) (entries : List EntryShade) (branches : List Ahead) →
    IsLevelOf entries level around.pc → IsSeenOn scene.planned host around.pc →
    IsSeenOn scene.planned back around.pc → from.0 ≢ host.0 →
    AllByRecursion (λ x. MayTell scene around.pc x host) riders →
    Entered scene walked around level from riders (record { host = host; back = Some back }) statements entries branches
lent scene walked around level from host back riders statements entries branches is seen back_sees apart rides = record {
  more = given ∷ segment ∷ [];
  shaded = rw (ne_eqb from.0 host.0 apart) (
    known_at (here from (calm_ahead level pc)) one branches,
    (given, refl, block_entry_is scene entries back level pc (Some pc) (inr refl) is back_sees, refl),
    (
      known_at (here from (calm_ahead level pc)) both branches,
      (segment, refl, block_entry_is scene one host (under number) pc None (inl refl) segment_level seen, refl),
      (
        known_at (here from (calm_ahead (under number) pc)) both branches,
        push_shaded scene from back level pc around.owner number both branches is_there given_there back_sees,
        (
          known_at nowhere both branches,
          plain_shaded scene from pc around.owner (go_with riders (entry_id (number + 1)) host) (under number) both
              branches (known_at nowhere both branches) (given, given_there, refl)
              (go_with_shaded scene (known_at (here from (calm_ahead (under number) pc)) both branches) from
              (plain_shade (under number) pc) riders (entry_id (number + 1)) host (
                (refl, refl),
                refl,
                refl,
                record { it = segment; is = segment_there; level = refl; block = refl },
                seen,
              ) rides),
          (
            known_at (here host (calm_ahead (under number) pc)) both branches,
            (segment, segment_there, inl (refl, refl), refl),
            ap (λ it. known_at (here host (calm_ahead (under number) pc)) it branches)
                (append_assoc entries (given ∷ []) (segment ∷ [])),
          ),
        ),
      ),
    ),
  );
  known = at_last entries given (segment ∷ []);
}
  where
    pc : Label
    pc = around.pc

    number : ℕ
    number = length entries

    given : EntryShade
    given = block_entry level around.pc (Some around.pc)

    segment : EntryShade
    segment = block_entry (under (length entries)) around.pc None

    one : List EntryShade
    one = entries ++ given ∷ []

    both : List EntryShade
    both = one ++ segment ∷ []

    segment_level : IsLevelOf one (under number) pc
    segment_level = (given, at_last entries given [], refl)

    given_there : slice_get both number ≡ Some given
    given_there = still_there one (segment ∷ []) number given (at_last entries given [])

    is_there : IsLevelOf both level pc
    is_there = level_still one (segment ∷ []) level pc (level_still entries (given ∷ []) level pc is)

    long : length one ≡ number + 1
    long = rw length-append (omega arith)

    segment_there : slice_get both (number + 1) ≡ Some segment
    segment_there =
        let P : ℕ → Type 0 = λ place. slice_get both place ≡ Some segment in
        subst P long (at_last one segment [])

-- ---- moving

-- a lane moves to the spot of the next statement
pub record Moves (scene : Scene) (walked : Walked) (around : Around) (level : Level) (lane : Lane) (next : Spot)
    (statements : List StmtId) (entries : List EntryShade) (branches : List Ahead) : Type 0 where
  pub more : List EntryShade
  pub shaded : AreShaded scene (known_at (lane_place level around.pc lane) entries branches)
      (move_emissions walked around (counts_in entries branches) lane next statements)
      (known_at (lane_place level around.pc (lane_at (counts_in entries branches) lane next)) (entries ++ more)
      branches)
  pub known : IsLaneKnown (entries ++ more) level around.pc (lane_at (counts_in entries branches) lane next)

-- it stays
unmoved : (scene : Scene) (walked : Walked) (around : Around) (level : Level) (lane : Lane) (statements : List StmtId)
    (entries : List EntryShade) (branches : List Ahead) → IsLaneKnown entries level around.pc lane →
    Moves scene walked around level lane lane.spot statements entries branches
unmoved scene walked around level lane statements entries branches known =
    let same = eq-eqb lane.spot.host.0 lane.spot.host.0 refl in
    record {
      more = [];
      shaded = rw same
          (ap (λ one. known_at (lane_place level around.pc lane) one branches) (sym (append-nil entries)));
      known = rw same (lane_still entries [] level around.pc lane known);
    }

-- it is left, and the next spot entered
moved : (scene : Scene) (walked : Walked) (around : Around) (level : Level) (lane : Lane) (next : Spot)
    (statements : List StmtId) (entries : List EntryShade) (branches : List Ahead) →
    lane.spot.host.0 ≢ next.host.0 → IsLevelOf entries level around.pc → IsLaneKnown entries level around.pc lane →
    Entered scene walked around level (end_of lane.spot) lane.riding next statements entries branches →
    Moves scene walked around level lane next statements entries branches
moved scene walked around level lane next statements entries branches apart is known enters =
    let other = ne_eqb lane.spot.host.0 next.host.0 apart in
    record {
      more = enters.more;
      shaded = rw other (shaded_on scene (known_at (lane_place level around.pc lane) entries branches)
          (leave_emissions around lane)
          (enter_emissions walked around (counts_in entries branches) (end_of lane.spot) lane.riding next statements)
          (known_at (here (end_of lane.spot) (calm_ahead level around.pc)) entries branches) _
          (leave_shaded scene around level lane entries branches is known) enters.shaded);
      known = rw other enters.known;
    }

-- from a lane to where a statement stands
pub move_shaded : (scene : Scene) (walked : Walked) (around : Around) (level : Level) (lane : Lane) (statement : StmtId)
    (others : List StmtId) (entries : List EntryShade) (branches : List Ahead) → IsLevelOf entries level around.pc →
    IsLaneKnown entries level around.pc lane → SpotSees scene.planned around.pc lane.spot →
    AllSee scene.planned around.pc (statement ∷ others) →
    RidesWell scene around.pc lane.riding (statement ∷ others) →
    Moves scene walked around level lane (next_spot scene.planned lane.spot statement others) (statement ∷ others)
    entries branches
move_shaded scene walked around level lane statement others entries branches is known sees see rides =
    elim (eqb_tells lane.spot.host.0 host.0) [
      | inl same ↦ subst P (sym (next_here planned lane.spot statement others same.1))
          (unmoved scene walked around level lane statements entries branches known)
      | inr apart ↦ subst P (sym (next_there planned lane.spot statement others apart.1)) (leaves apart.1)
    ]
  where
    planned : PlannedShape
    planned = scene.planned

    host : HostId
    host = statement_host scene.planned.plan statement

    from : HostId
    from = end_of lane.spot

    statements : List StmtId
    statements = statement ∷ others

    P : Spot → Type 0
    P next = Moves scene walked around level lane next (statement ∷ others) entries branches

    leaves : lane.spot.host.0 ≢ host.0 → P (entered planned from host statements)
    leaves apart = elim (eqb_tells from.0 host.0) [
      | inl same ↦ subst P (sym (entered_here planned from host statements same.1))
          (moved scene walked around level lane (on host) statements entries branches apart is known
          (stayed scene walked around level from host lane.riding statements entries branches same.1))
      | inr other ↦ elim (entered_there planned from host statements other.1) [
        | inl at ↦ subst P (sym at) (moved scene walked around level lane (on host) statements entries branches apart is
            known (handed scene walked around level from host lane.riding statements entries branches is see.0 other.1
            rides))
        | inr at ↦
            let back = return_host planned from host statements in
            let well = (next_well planned around.pc lane.spot statement others sees see).sees in
            let Q : Spot → Type 0 = λ spot. SpotSees planned around.pc spot in
            let both = subst Q (next_there planned lane.spot statement others apart ∙ at) well in
            subst P (sym at) (moved scene walked around level lane (lent_spot host back) statements entries branches
            apart is known (lent scene walked around level from host back lane.riding statements entries branches is
            see.0 both.1 other.1 rides))
      ]
    ]

-- the end of a block
pub end_shaded : (scene : Scene) (around : Around) (level : Level) (lane : Lane) (entries : List EntryShade)
    (branches : List Ahead) → IsLevelOf entries level around.pc → IsLaneKnown entries level around.pc lane →
    AreShaded scene (known_at (lane_place level around.pc lane) entries branches) (end_emissions around lane)
    (known_at nowhere entries branches)
end_shaded scene around level lane entries branches is known =
    let last = end_of lane.spot in
    shaded_on scene (known_at (lane_place level around.pc lane) entries branches) (leave_emissions around lane)
    (emitted last around.pc around.owner op.Back ∷ [])
    (known_at (here last (calm_ahead level around.pc)) entries branches) (known_at nowhere entries branches)
    (leave_shaded scene around level lane entries branches is known) (
      known_at nowhere entries branches,
      plain_shaded scene last around.pc around.owner op.Back level entries branches (known_at nowhere entries branches)
          is (((refl, refl), refl, refl), refl),
      refl,
    )
