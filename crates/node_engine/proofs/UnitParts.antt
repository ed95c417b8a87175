-- The parts of units: what they leave, and that there are some.
use Rattle.std.proofs.Common.{◌≡◌, inl, inr, ℕ, Bool, true, false, List, [], ◌∷◌, ◌++◌, Option, Some, None, refl, sym}
use Rattle.std.proofs.Common.{ap, ap₂, ◌∙◌, subst, if◌then◌else◌, Result, Ok, Err, ◌<◌, arith}
use Rattle.std.specs.Prelude.{IsSome, is_none}
use Rattle.std.proofs.lemmas.Bool.{cases_eq, cases_lt, false≢true}
use Rattle.js_base.specs.declared.ids.HostId.{HostId}
use Rattle.js_base.specs.declared.status.Status.TheVariants as status
use Rattle.js_base.proofs.Decisions.{Decided, both, never}
use Rattle.host_code.specs.declared.message.Message.{Message}
use Rattle.host_code.specs.declared.message.Message.TheVariants as message
use Rattle.host_code.specs.Code.{CodeShape}
use Rattle.host_code.specs.Messages.{AreOfCode, MessageFits}
use Rattle.host_code.specs.Riders.{Rider}
use Rattle.host_code.specs.Sound.{IsOther}
use Rattle.host_code.specs.Thread.{ThreadShape}
use Rattle.host_core.specs.Host.{HostState, Outcome}
use Rattle.host_core.specs.Taking.{IsTaking}
use Rattle.host_core.specs.Turn.{IsTurn}
use Rattle.wire_msg.specs.declared.error.WireError.{WireError}
use Rattle.wire_msg.specs.declared.error.WireError.TheVariants.{BadField}
use Rattle.wire_msg.specs.declared.frame.Frame.{Frame}
use Rattle.wire_msg.specs.declared.frame.Frame.TheVariants as frame
use Rattle.wire_msg.specs.Reading.{reading_of}
use Rattle.wire_msg.specs.Spelling.{frame_bytes}
use Rattle.node_seals.specs.declared.arrivals.Arrival.{Arrival}
use Rattle.node_seals.specs.declared.arrivals.Arrival.TheVariants as arrival
use Rattle.node_engine.specs.declared.node_error.NodeError.{NodeError}
use Rattle.node_seals.specs.declared.arrivals.DropReason.TheVariants as dropped
use Rattle.node_seals.specs.Arrivals.{IsForNode, Arrives, ArrivesAs, ArrivesFrom, ArrivesOpened, arrival_of}
use Rattle.node_engine.specs.JournalLines.{turn_line, take_line, send_line, done_line, drop_line}
use Rattle.node_engine.specs.NodeWorlds.{Inside, NodeWorld, NodePart, Taking, Hearing, Line, Sealing, do_part, do_all}
use Rattle.node_engine.specs.NodeWorlds.{inside_of}
use Rattle.node_seals.specs.Seals.{Opened, SealsShape, as_they_are, refused, unsealed, opened_of, string_for}
use Rattle.node_engine.specs.declared.node.Node.{Node}
use Rattle.node_engine.specs.Statuses.{status_of}
use Rattle.node_engine.specs.Told.{Seen, IsAllTold, TakesFrame, PartsAreDone, DoesUnit, Stops, StopsUnit}
use Rattle.node_engine.specs.Units.{AreUnitParts, AreUnitPartsOf, AreTurnParts, AreTakingParts, AreArrivalParts}
use Rattle.node_engine.specs.Units.{IsUnit}
use Rattle.node_engine.specs.Units.{frame_parts, hearing_parts, inside_opened, opening_parts, out_parts}
use Rattle.node_engine.specs.Units.{sending_parts, step_parts}
use Rattle.node_engine.proofs.Breaking.{breaks_first, do_all_behind, leaves_later, stops_before, stops_behind}
use Rattle.node_engine.proofs.Sealing.{opening_keeps}

-- ---- whether the root said that the program is done

out_keeps : (to : HostId) (out : Option (List ℕ)) (line : List ℕ) (world : NodeWorld) →
    (do_all (out_parts to out ++ Line line ∷ []) world).ended ≡ world.ended
out_keeps to None line world = refl
out_keeps to (Some bytes) line world = refl

frame_keeps : (seals : SealsShape) (to : HostId) (frame line : List ℕ) (world : NodeWorld) →
    (do_all (frame_parts seals to frame ++ Line line ∷ []) world).ended ≡ world.ended
frame_keeps None to frame line world = refl
frame_keeps (Some links) to frame line world =
    out_keeps to (string_for (Some links) to frame) line (do_part (Sealing to) world)

sending_keeps : (code : CodeShape) (me : HostId) (seals : SealsShape) (sent : Option (HostId × Message))
    (world : NodeWorld) → (do_all (sending_parts code me seals sent) world).ended ≡ world.ended
sending_keeps code me seals None world = refl
sending_keeps code me seals (Some sent) world =
    frame_keeps seals sent.0 (frame_bytes me (frame.Message sent.1)) (send_line code sent.0 sent.1) world

pub step_keeps : (code : CodeShape) (me : HostId) (seals : SealsShape) (line : List ℕ) (outcome : Outcome)
    (parts : List NodePart) (world : NodeWorld) → parts ≡ step_parts code me seals line outcome →
    (do_all parts world).ended ≡ world.ended
step_keeps code me seals line outcome parts world is =
    rw is (sending_keeps code me seals outcome.sent
    (record world { host = outcome.state; journal = world.journal ++ line }))

-- the word of a host that may be the root's
abbrev hearing : Bool → List ℕ → List NodePart
hearing is_root line = (if is_root then Hearing ∷ [] else []) ++ Line line ∷ []

-- a world is told alike once the root's word is heard
heard_alike : (world : NodeWorld) (there : Seen) → IsAllTold world there → IsAllTold (do_part Hearing world) there
heard_alike world there told = record {
  host_is = told.host_is;
  seals_is = told.seals_is;
  left_is = told.left_is;
  sent_is = told.sent_is;
  journal_is = told.journal_is;
}

pub heard_does : (is_root : Bool) (line : List ℕ) (old new : Seen) → PartsAreDone (Line line ∷ []) old new →
    PartsAreDone (hearing is_root line) old new
heard_does true line old new does = record {
  after = λ world told. does.after (do_part Hearing world) (heard_alike world old told);
  leaves = does.leaves;
}
heard_does false line old new does = does

pub heard_stops : (error : NodeError) (is_root : Bool) (line : List ℕ) (old new : Seen) →
    Stops error (Line line ∷ []) old new → Stops error (hearing is_root line) old new
heard_stops error true line old new stops = record {
  after = λ world told.
      let end = stops.after (do_part Hearing world) (heard_alike world old told) in (end.0, end.1, inr end.2);
  leaves = stops.leaves;
}
heard_stops error false line old new stops = stops

pub heard_ended : (is_root : Bool) (line : List ℕ) (world : NodeWorld) → world.ended ≡ false →
    (do_all (hearing is_root line) world).ended ≡ is_root
heard_ended true line world not_yet = refl
heard_ended false line world not_yet = not_yet

-- ---- the next unit

pub no_thread : (running : Option ThreadShape) → true ≡ is_none running → running ≡ None
no_thread None rests = refl
no_thread (Some thread) rests = absurd (false≢true (sym rests))

pub a_thread : (running : Option ThreadShape) → false ≡ is_none running → IsSome running
a_thread None runs = absurd (false≢true runs)
a_thread (Some thread) runs = refl

same_inside : (there : Inside) (world : NodeWorld) → there.host ≡ world.host → there.seals ≡ world.seals →
    there ≡ inside_of world
same_inside there world host seals =
    ap₂ (λ (h : HostState) (s : SealsShape). record { host = h; seals = s }) host seals

unit_of_taking : (code : CodeShape) (me : HostId) (world : NodeWorld) (there : Inside) (parts : List NodePart) →
    there.host ≡ world.host → there.seals ≡ world.seals → there.host.running ≡ None →
    AreTakingParts code me there world.left parts → AreUnitParts code me world parts
unit_of_taking code me world there parts same seals rests are =
    let none : world.host.running ≡ None = ap (λ (h : HostState). h.running) (sym same) ∙ rests in
    let inside : there ≡ inside_of world = same_inside there world same seals in
    subst (λ running. AreUnitPartsOf code me world running parts) (sym none)
    (subst (λ it. AreTakingParts code me it world.left parts) inside are)

turn_of : (code : CodeShape) (me : HostId) (world : NodeWorld) (running : Option ThreadShape) (parts : List NodePart) →
    world.host.running ≡ running → IsSome running → AreTurnParts code me (inside_of world) parts →
    AreUnitParts code me world parts
turn_of code me world None parts is some are = absurd (false≢true some)
turn_of code me world (Some thread) parts is some are =
    subst (λ running. AreUnitPartsOf code me world running parts) (sym is) are

unit_of_turn : (code : CodeShape) (me : HostId) (world : NodeWorld) (there : Inside) (parts : List NodePart) →
    there.host ≡ world.host → there.seals ≡ world.seals → IsSome there.host.running →
    AreTurnParts code me there parts → AreUnitParts code me world parts
unit_of_turn code me world there parts same seals runs are =
    let inside : there ≡ inside_of world = same_inside there world same seals in
    turn_of code me world there.host.running parts (ap (λ (h : HostState). h.running) (sym same)) runs
    (subst (λ it. AreTurnParts code me it parts) inside are)

runs_is_unit : (world : NodeWorld) (host : HostState) → host ≡ world.host → IsSome host.running → IsUnit world
runs_is_unit world host same runs none =
    let nothing : host.running ≡ None = ap (λ (h : HostState). h.running) same ∙ none in
    absurd (false≢true (subst IsSome nothing runs))

-- a thread runs, and its instruction is done
pub turn_does : {L R : Type 0} (node : Node L R) (parts : List NodePart) (outcome : Outcome) (old new : Seen) →
    IsSome old.inside.host.running → IsTurn node.code.now old.inside.host outcome →
    parts ≡ step_parts node.code.now node.me old.inside.seals turn_line outcome → PartsAreDone parts old new →
    DoesUnit false node old new
turn_does node parts outcome old new runs turn is does = record {
  after = λ world told not_yet. (
    parts,
    unit_of_turn node.code.now node.me world old.inside parts told.host_is told.seals_is runs (outcome, turn, is),
    runs_is_unit world old.inside.host told.host_is runs,
    does.after world told,
    step_keeps node.code.now node.me old.inside.seals turn_line outcome parts world is ∙ not_yet,
  );
  leaves = does.leaves;
}

-- or breaks
pub turn_stops : {L R : Type 0} (error : NodeError) (node : Node L R) (parts : List NodePart) (outcome : Outcome)
    (old new : Seen) → IsSome old.inside.host.running → IsTurn node.code.now old.inside.host outcome →
    parts ≡ step_parts node.code.now node.me old.inside.seals turn_line outcome → Stops error parts old new →
    StopsUnit error node old new
turn_stops error node parts outcome old new runs turn is stops = record {
  after = λ world told. (
    parts,
    unit_of_turn node.code.now node.me world old.inside parts told.host_is told.seals_is runs (outcome, turn, is),
    stops.after world told,
  );
  leaves = stops.leaves;
}

-- ---- a frame that is taken

-- the parts of a unit that takes these bytes and does so behind the opening
abbrev taken_parts : SealsShape → List ℕ → List NodePart → List NodePart
taken_parts seals bytes parts = Taking ∷ (opening_parts (opened_of seals bytes) ++ parts)

-- they are the parts of the unit
are_taken : (code : CodeShape) (me : HostId) (bytes : List ℕ) (it : Arrival) (there : Inside) (parts : List NodePart)
    (world : NodeWorld) (rest : List (List ℕ)) → there.host ≡ world.host → there.seals ≡ world.seals →
    there.host.running ≡ None → world.left ≡ bytes ∷ rest → Arrives code me there.seals bytes it →
    AreArrivalParts code me (inside_opened (opened_of there.seals bytes) there) it parts →
    AreUnitParts code me world (taken_parts there.seals bytes parts)
are_taken code me bytes it there parts world rest host seals rests left arrives are =
    unit_of_taking code me world there (taken_parts there.seals bytes parts) host seals rests
    (subst (λ left. AreTakingParts code me there left (taken_parts there.seals bytes parts)) (sym left)
    (it, parts, arrives, are, refl))

-- what comes of them is told of the node as it was before the taking, which left what is inside
pub record IsOpened {L R : Type 0} (node : Node L R) (bytes : List ℕ) (it : Arrival) (old mid opened : Seen)
    (parts : List NodePart) : Type 0 where
  pub rests : old.inside.host.running ≡ None
  pub takes : TakesFrame bytes old mid
  pub same : mid.inside ≡ old.inside
  pub opens : PartsAreDone (opening_parts (opened_of mid.inside.seals bytes)) mid opened
  pub arrives : Arrives node.code.now node.me mid.inside.seals bytes it
  pub inside : opened.inside ≡ inside_opened (opened_of mid.inside.seals bytes) mid.inside
  pub are : AreArrivalParts node.code.now node.me opened.inside it parts

same_opened : (bytes : List ℕ) (old mid : Seen) → mid.inside ≡ old.inside →
    opened_of mid.inside.seals bytes ≡ opened_of old.inside.seals bytes
same_opened bytes old mid same = ap (λ (i : Inside). opened_of i.seals bytes) same

opened_parts : {L R : Type 0} (node : Node L R) (bytes : List ℕ) (it : Arrival) (old mid opened : Seen)
    (parts : List NodePart) → IsOpened node bytes it old mid opened parts → (world : NodeWorld) → IsAllTold world old →
    AreUnitParts node.code.now node.me world (taken_parts old.inside.seals bytes parts)
opened_parts node bytes it old mid opened parts is world told =
    let left = (is.takes.after world told).1 in
    let inside : opened.inside ≡ inside_opened (opened_of old.inside.seals bytes) old.inside =
    is.inside ∙ ap (λ (i : Inside). inside_opened (opened_of i.seals bytes) i) is.same in
    are_taken node.code.now node.me bytes it old.inside parts world left.0 told.host_is told.seals_is is.rests left.1
    (subst (λ (i : Inside). Arrives node.code.now node.me i.seals bytes it) is.same is.arrives)
    (subst (λ (i : Inside). AreArrivalParts node.code.now node.me i it parts) inside is.are)

pub taking_does : {L R : Type 0} (node : Node L R) (bytes : List ℕ) (it : Arrival) (old mid opened new : Seen)
    (parts : List NodePart) (ended : Bool) → IsOpened node bytes it old mid opened parts →
    PartsAreDone parts opened new →
    ((world : NodeWorld) → world.ended ≡ false → (do_all parts world).ended ≡ ended) → DoesUnit ended node old new
taking_does node bytes it old mid opened new parts ended is does hears =
    let first = opening_parts (opened_of old.inside.seals bytes) in
    let opens = subst (λ (o : Opened). PartsAreDone (opening_parts o) mid opened) (same_opened bytes old mid is.same)
    is.opens
    in
    record {
      after = λ world told not_yet.
          let taken = is.takes.after world told in
          let behind = do_all_behind first parts (do_part Taking world) in (
            taken_parts old.inside.seals bytes parts,
            opened_parts node bytes it old mid opened parts is world told,
            (λ none empty. let left = taken.1.1 in let never : ⊥ = cc in never),
            subst (λ (after : NodeWorld). IsAllTold after new) (sym behind)
                (does.after (do_all first (do_part Taking world)) (opens.after (do_part Taking world) taken.0)),
            ap (λ (after : NodeWorld). after.ended) behind
                ∙ hears (do_all first (do_part Taking world))
                (opening_keeps (opened_of old.inside.seals bytes) (do_part Taking world) ∙ not_yet),
          );
      leaves = leaves_later status.Done old.outside mid.outside new.outside is.takes.leaves
          (leaves_later status.Done mid.outside opened.outside new.outside opens.leaves does.leaves);
    }

-- what is done behind the opening breaks
pub taking_stops_later : {L R : Type 0} (error : NodeError) (node : Node L R) (bytes : List ℕ) (it : Arrival)
    (old mid opened new : Seen) (parts : List NodePart) → IsOpened node bytes it old mid opened parts →
    Stops error parts opened new → StopsUnit error node old new
taking_stops_later error node bytes it old mid opened new parts is stops =
    let first = opening_parts (opened_of old.inside.seals bytes) in
    let opens = subst (λ (o : Opened). PartsAreDone (opening_parts o) mid opened) (same_opened bytes old mid is.same)
    is.opens
    in
    let all = stops_behind error first parts mid opened new opens stops in
    record {
      after = λ world told.
          let end = all.after (do_part Taking world) (is.takes.after world told).0 in (
            taken_parts old.inside.seals bytes parts,
            opened_parts node bytes it old mid opened parts is world told,
            (end.0, end.1, inr end.2),
          );
      leaves = leaves_later (status_of error) old.outside mid.outside new.outside is.takes.leaves all.leaves;
    }

-- the opening breaks
pub opening_stops : {L R : Type 0} (error : NodeError) (node : Node L R) (bytes : List ℕ) (it : Arrival)
    (old mid new : Seen) (parts : List NodePart) → old.inside.host.running ≡ None → TakesFrame bytes old mid →
    mid.inside ≡ old.inside → Stops error (opening_parts (opened_of mid.inside.seals bytes)) mid new →
    Arrives node.code.now node.me old.inside.seals bytes it →
    AreArrivalParts node.code.now node.me (inside_opened (opened_of old.inside.seals bytes) old.inside) it parts →
    StopsUnit error node old new
opening_stops error node bytes it old mid new parts rests takes same stops arrives are =
    let first = opening_parts (opened_of old.inside.seals bytes) in
    let breaks = subst (λ (o : Opened). Stops error (opening_parts o) mid new) (same_opened bytes old mid same) stops
    in
    let all = stops_before error first parts mid new breaks in
    record {
      after = λ world told.
          let taken = takes.after world told in
          let end = all.after (do_part Taking world) taken.0 in (
            taken_parts old.inside.seals bytes parts,
            are_taken node.code.now node.me bytes it old.inside parts world taken.1.0 told.host_is told.seals_is rests
                taken.1.1 arrives are,
            (end.0, end.1, inr end.2),
          );
      leaves = leaves_later (status_of error) old.outside mid.outside new.outside takes.leaves all.leaves;
    }

-- the taking itself breaks
pub taking_stops_first : {L R : Type 0} (error : NodeError) (node : Node L R) (old new : Seen) →
    old.inside.host.running ≡ None → Stops error (Taking ∷ []) old new →
    ((left : List (List ℕ)) →
    (others : List NodePart) × AreTakingParts node.code.now node.me old.inside left (Taking ∷ others)) →
    StopsUnit error node old new
taking_stops_first error node old new rests stops some = record {
  after = λ world told.
      let others = some world.left in (
        Taking ∷ others.0,
        unit_of_taking node.code.now node.me world old.inside (Taking ∷ others.0) told.host_is told.seals_is rests
            others.1,
        (breaks_first error Taking others.0 old new stops).after world told,
      );
  leaves = stops.leaves;
}

-- ---- there are parts

below : (n m : ℕ) → Decided (n < m)
below n m = elim (cases_lt n m) [ inl is ↦ inl is | inr not ↦ inr (λ is. omega arith) ]

is_host_id : (one other : HostId) → Decided (one ≡ other)
is_host_id one other = elim (cases_eq one.0 other.0) [
  | inl same ↦ inl (ap (λ (n : ℕ). record { 0 = n }) same)
  | inr not ↦ inr (λ same. not (ap (λ (host : HostId). host.0) same))
]

is_other : (code : CodeShape) (me from : HostId) → Decided (IsOther code me from)
is_other code me from = both _ _ (below _ _) (never _ (is_host_id from me))

ride : (code : CodeShape) (riders : List Rider) → Decided (AreOfCode code riders)
ride code [] = inl tt
ride code (rider ∷ riders) = both _ _ (below _ _) (ride code riders)

fits : (code : CodeShape) (sent : Message) → Decided (MessageFits code sent)
fits code (message.Get request field index) = below _ _
fits code (message.Set request field index value) = below _ _
fits code (message.Forward request frame variable value) = below _ _
fits code (message.Sync request frame entry token) = below _ _
fits code (message.Rgoto frame entry token) = below _ _
fits code (message.RgotoWith frame entry token riders) = both _ _ (below _ _) (ride code riders)
fits code (message.Lgoto token) = below _ _
fits code (message.Value request value) = inl tt
fits code (message.Ack request) = inl tt
fits code (message.Token request token) = below _ _

is_for_node : (code : CodeShape) (me from : HostId) (sent : Frame) → Decided (IsForNode code me from sent)
is_for_node code me from (frame.Message sent) = both _ _ (is_other code me from) (fits code sent)
is_for_node code me from frame.Done = is_other code me from

arrives_as : (code : CodeShape) (me : HostId) (read : Result (HostId × Frame) WireError) →
    (it : Arrival) × ArrivesAs code me read it
arrives_as code me (Err why) = (arrival.Dropped (dropped.Frame why), refl)
arrives_as code me (Ok read) = elim (is_for_node code me read.0 read.1) [
  | inl is ↦ (arrival_of read.0 read.1, inl (is, refl))
  | inr not ↦ (arrival.Dropped (dropped.Frame BadField), inr (not, refl))
]

arrives_from : (code : CodeShape) (me from : HostId) (read : Result (HostId × Frame) WireError) →
    (it : Arrival) × ArrivesFrom code me from read it
arrives_from code me from (Err why) = arrives_as code me (Err why)
arrives_from code me from (Ok read) = elim (is_host_id read.0 from) [
  | inl same ↦ let it = arrives_as code me (Ok read) in (it.0, inl (same, it.1))
  | inr other ↦ (arrival.Dropped dropped.Seal, inr (other, refl))
]

arrives_opened : (code : CodeShape) (me : HostId) (bytes : List ℕ) (opened : Opened) →
    (it : Arrival) × ArrivesOpened code me bytes opened it
arrives_opened code me bytes as_they_are = arrives_as code me (reading_of bytes)
arrives_opened code me bytes refused = (arrival.Dropped dropped.Seal, refl)
arrives_opened code me bytes (unsealed from frame) = arrives_from code me from (reading_of frame)

pub some_arrival : (code : CodeShape) (me : HostId) (seals : SealsShape) (bytes : List ℕ) →
    (it : Arrival) × Arrives code me seals bytes it
some_arrival code me seals bytes = arrives_opened code me bytes (opened_of seals bytes)

-- from any state taking any message leaves something, and so does a turn
abbrev TakingLeaves : Type 0
TakingLeaves = (code : CodeShape) (state : HostState) (from : HostId) (message : Message) →
    (outcome : Outcome) × IsTaking code state from message outcome

abbrev TurnLeaves : Type 0
TurnLeaves = (code : CodeShape) (state : HostState) → (outcome : Outcome) × IsTurn code state outcome

pub arrival_parts : TakingLeaves → (code : CodeShape) (me : HostId) (inside : Inside) (it : Arrival) →
    (parts : List NodePart) × AreArrivalParts code me inside it parts
arrival_parts leaves code me inside (arrival.Dropped why) = (Line (drop_line why) ∷ [], refl)
arrival_parts leaves code me inside (arrival.Done from) =
    (hearing_parts code from ++ Line (done_line code from) ∷ [], refl)
arrival_parts leaves code me inside (arrival.Taken from message) =
    let some = leaves code inside.host from message in
    (step_parts code me inside.seals (take_line code from message) some.0, (some.0, some.1, refl))

pub some_taking : TakingLeaves → (code : CodeShape) (me : HostId) (inside : Inside) (left : List (List ℕ)) →
    (others : List NodePart) × AreTakingParts code me inside left (Taking ∷ others)
some_taking leaves code me inside [] = ([], refl)
some_taking leaves code me inside (bytes ∷ left) =
    let opened = opened_of inside.seals bytes in
    let arrives = some_arrival code me inside.seals bytes in
    let parts = arrival_parts leaves code me (inside_opened opened inside) arrives.0 in
    (opening_parts opened ++ parts.0, (arrives.0, parts.0, arrives.1, parts.1, refl))

parts_of : TakingLeaves → TurnLeaves → (code : CodeShape) (me : HostId) (world : NodeWorld)
    (running : Option ThreadShape) → world.host.running ≡ running →
    (parts : List NodePart) × AreUnitParts code me world parts
parts_of takes turns code me world None is =
    let some = some_taking takes code me (inside_of world) world.left in (
      Taking ∷ some.0,
      subst (λ running. AreUnitPartsOf code me world running (Taking ∷ some.0)) (sym is) some.1,
    )
parts_of takes turns code me world (Some thread) is =
    let some = turns code world.host in (
      step_parts code me world.seals turn_line some.0,
      subst (λ running. AreUnitPartsOf code me world running (step_parts code me world.seals turn_line some.0))
          (sym is) (some.0, some.1, refl),
    )

pub some_parts : TakingLeaves → TurnLeaves → (code : CodeShape) (me : HostId) (world : NodeWorld) →
    (parts : List NodePart) × AreUnitParts code me world parts
some_parts takes turns code me world = parts_of takes turns code me world world.host.running refl
