-- A unit has one list of parts.
use Rattle.std.proofs.Common.{◌≡◌, inl, inr, ℕ, List, [], ◌∷◌, ◌++◌, Option, Some, None, sym, ap}
use Rattle.std.proofs.Common.{◌∙◌, subst}
use Rattle.std.proofs.Common.{Result, Ok, Err}
use Rattle.js_base.specs.declared.ids.HostId.{HostId}
use Rattle.host_code.specs.Code.{CodeShape}
use Rattle.host_code.specs.Thread.{ThreadShape}
use Rattle.host_core.proofs.OneOutcome.{one_taking, one_turn_of}
use Rattle.wire_msg.specs.declared.error.WireError.{WireError}
use Rattle.wire_msg.specs.declared.frame.Frame.{Frame}
use Rattle.wire_msg.specs.Reading.{reading_of}
use Rattle.node_seals.specs.declared.arrivals.Arrival.{Arrival}
use Rattle.node_seals.specs.declared.arrivals.Arrival.TheVariants as arrival
use Rattle.node_seals.specs.Arrivals.{ArrivesAs, ArrivesFrom, ArrivesOpened}
use Rattle.node_engine.specs.JournalLines.{take_line, turn_line}
use Rattle.node_engine.specs.NodeWorlds.{Inside, NodeWorld, NodePart, Taking, inside_of}
use Rattle.node_seals.specs.Seals.{Opened, as_they_are, refused, unsealed, opened_of}
use Rattle.node_engine.specs.Units.{AreArrivalParts, AreTakingParts, AreTurnParts, AreUnitParts, AreUnitPartsOf}
use Rattle.node_engine.specs.Units.{inside_opened, opening_parts, step_parts}

-- ---- arrivals

arrives_once : (code : CodeShape) (me : HostId) (read : Result (HostId × Frame) WireError) (first second : Arrival) →
    ArrivesAs code me read first → ArrivesAs code me read second → first ≡ second
arrives_once code me (Err why) first second one two = one ∙ sym two
arrives_once code me (Ok read) first second (inl one) (inl two) = one.1 ∙ sym two.1
arrives_once code me (Ok read) first second (inl one) (inr two) = absurd (two.0 one.0)
arrives_once code me (Ok read) first second (inr one) (inl two) = absurd (one.0 two.0)
arrives_once code me (Ok read) first second (inr one) (inr two) = one.1 ∙ sym two.1

arrives_from_once : (code : CodeShape) (me from : HostId) (read : Result (HostId × Frame) WireError)
    (first second : Arrival) → ArrivesFrom code me from read first → ArrivesFrom code me from read second →
    first ≡ second
arrives_from_once code me from (Err why) first second one two = arrives_once code me (Err why) first second one two
arrives_from_once code me from (Ok read) first second (inl one) (inl two) =
    arrives_once code me (Ok read) first second one.1 two.1
arrives_from_once code me from (Ok read) first second (inl one) (inr two) = absurd (two.0 one.0)
arrives_from_once code me from (Ok read) first second (inr one) (inl two) = absurd (one.0 two.0)
arrives_from_once code me from (Ok read) first second (inr one) (inr two) = one.1 ∙ sym two.1

pub one_arrival : (code : CodeShape) (me : HostId) (bytes : List ℕ) (opened : Opened) (first second : Arrival) →
    ArrivesOpened code me bytes opened first → ArrivesOpened code me bytes opened second → first ≡ second
one_arrival code me bytes as_they_are first second one two =
    arrives_once code me (reading_of bytes) first second one two
one_arrival code me bytes refused first second one two = one ∙ sym two
one_arrival code me bytes (unsealed from frame) first second one two =
    arrives_from_once code me from (reading_of frame) first second one two

-- ---- parts

one_of_arrival : (code : CodeShape) (me : HostId) (inside : Inside) (it : Arrival) (first second : List NodePart) →
    AreArrivalParts code me inside it first → AreArrivalParts code me inside it second → first ≡ second
one_of_arrival code me inside (arrival.Dropped why) first second one two = one ∙ sym two
one_of_arrival code me inside (arrival.Done from) first second one two = one ∙ sym two
one_of_arrival code me inside (arrival.Taken from message) first second one two =
    one.2
    ∙ ap (step_parts code me inside.seals (take_line code from message))
    (one_taking code inside.host from message one.0 two.0 one.1 two.1)
    ∙ sym two.2

one_of_taking : (code : CodeShape) (me : HostId) (inside : Inside) (left : List (List ℕ))
    (first second : List NodePart) →
    AreTakingParts code me inside left first → AreTakingParts code me inside left second → first ≡ second
one_of_taking code me inside [] first second one two = one ∙ sym two
one_of_taking code me inside (bytes ∷ left) first second one two =
    let opened = opened_of inside.seals bytes in
    let behind = inside_opened opened inside in
    let same : one.0 ≡ two.0 = one_arrival code me bytes opened one.0 two.0 one.2 two.2 in
    let others = one_of_arrival code me behind two.0 one.1 two.1
    (subst (λ it. AreArrivalParts code me behind it one.1) same one.3) two.3 in
    one.4 ∙ ap (λ (parts : List NodePart). Taking ∷ (opening_parts opened ++ parts)) others ∙ sym two.4

one_of_turn : (code : CodeShape) (me : HostId) (inside : Inside) (first second : List NodePart) →
    AreTurnParts code me inside first → AreTurnParts code me inside second → first ≡ second
one_of_turn code me inside first second one two =
    one.2
    ∙ ap (step_parts code me inside.seals turn_line)
    (one_turn_of code inside.host inside.host.running one.0 two.0 one.1 two.1)
    ∙ sym two.2

one_of_unit : (code : CodeShape) (me : HostId) (world : NodeWorld) (running : Option ThreadShape)
    (first second : List NodePart) → AreUnitPartsOf code me world running first →
    AreUnitPartsOf code me world running second → first ≡ second
one_of_unit code me world None first second one two =
    one_of_taking code me (inside_of world) world.left first second one two
one_of_unit code me world (Some thread) first second one two = one_of_turn code me (inside_of world) first second one
    two

pub one_parts : (code : CodeShape) (me : HostId) (world : NodeWorld) (first second : List NodePart) →
    AreUnitParts code me world first → AreUnitParts code me world second → first ≡ second
one_parts code me world first second one two = one_of_unit code me world world.host.running first second one two
