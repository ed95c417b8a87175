-- Where the token moves, only hosts of statements of the block are asked and told, or its first host.
use Rattle.std.proofs.Common.{◌≡◌, ℕ, ◌+◌, ◌<◌, inl, inr, List, [], ◌∷◌, ◌++◌, length}
use Rattle.std.proofs.Common.{refl, sym, subst, arith, append_assoc, length-append}
use Rattle.std.proofs.lemmas.Bool.Decides.{eqb_tells}
use Rattle.std.specs.Prelude.{Option, Some, None, slice_get, ⊤}
use Rattle.std.specs.List.{AllByRecursion}
use Rattle.js_base.specs.declared.ids.HostId.{HostId}
use Rattle.js_base.specs.declared.ids.VarId.{VarId}
use Rattle.js_base.specs.declared.ids.StmtId.{StmtId}
use Rattle.label_lattice.specs.declared.label.Label.{Label}
use Rattle.host_code.specs.declared.instruction.Op.{Op}
use Rattle.host_code.specs.declared.instruction.Op.TheVariants as op
use Rattle.need_labels.specs.Labelled.{Labelled}
use Rattle.need_labels.specs.Plan.{statement_host}
use Rattle.msg_cost.specs.declared.spot.Spot.{Spot}
use Rattle.msg_cost.specs.Moves.{PlannedShape, is_same, host_behind, return_host, on, end_of}
use Rattle.msg_cost.specs.Moves.{entered, next_spot}
use Rattle.split_rules.specs.Emissions.{Emission, NamedEntry, Counts}
use Rattle.split_rules.specs.Walk.{Walked, Around, Lane, entry_id, leave_emissions, enter_emissions, move_emissions}
use Rattle.split_rules.specs.Walk.{lane_at, end_emissions, need_of, row_on, behind_row}
use Rattle.split_rules.proofs.Places.{same_host}
use Rattle.split_rules.proofs.WalkedMoves.{at_last, entered_here, entered_there, next_here, next_there, one_of_two}
use Rattle.split_rules.proofs.ToldEmissions.{Sees, HandsWell, TellsWell, goes_well, AreTold, IsCounted, IsBegun}

-- ---- hosts that may see a label

abbrev pub BackSees : PlannedShape → Label → Option HostId → Type 0
BackSees planned pc None = ⊤
BackSees planned pc (Some back) = Sees planned back pc

-- the hosts of a spot
abbrev pub SpotSees : PlannedShape → Label → Spot → Type 0
SpotSees planned pc spot = Sees planned spot.host pc × BackSees planned pc spot.back

-- the hosts of statements
abbrev pub AllSee : PlannedShape → Label → List StmtId → Type 0
AllSee planned pc statements =
    AllByRecursion (λ statement. Sees planned (statement_host planned.plan statement) pc) statements

end_sees : (planned : PlannedShape) (pc : Label) (host : HostId) (back : Option HostId) → Sees planned host pc →
    BackSees planned pc back → Sees planned (end_of (record { host = host; back = back })) pc
end_sees planned pc host None sees behind = sees
end_sees planned pc host (Some back) sees behind = behind

pub spot_ends : (planned : PlannedShape) (pc : Label) (spot : Spot) → SpotSees planned pc spot →
    Sees planned (end_of spot) pc
spot_ends planned pc spot sees = end_sees planned pc spot.host spot.back sees.0 sees.1

behind_sees : (planned : PlannedShape) (pc : Label) (host : HostId) (statements : List StmtId) →
    AllSee planned pc statements → BackSees planned pc (host_behind planned host statements)
behind_sees planned pc host [] see = tt
behind_sees planned pc host (statement ∷ others) see =
    one_of_two (BackSees planned pc) (is_same (statement_host planned.plan statement) host)
    (host_behind planned host others) (Some (statement_host planned.plan statement))
    (behind_sees planned pc host others see.1) see.0

return_sees : (planned : PlannedShape) (pc : Label) (from host : HostId) (statements : List StmtId) →
    Sees planned from pc → AllSee planned pc statements → Sees planned (return_host planned from host statements) pc
return_sees planned pc from host statements sees see =
    by (host_behind planned host statements) refl (behind_sees planned pc host statements see)
  where
    P : HostId → Type 0
    P one = Sees planned one pc

    by : (behind : Option HostId) → host_behind planned host statements ≡ behind → BackSees planned pc behind →
        Sees planned (return_host planned from host statements) pc
    by None is there = rw is sees
    by (Some next) is there = rw is (one_of_two P _ next from there sees)

-- the next spot is on the host of the statement, and its hosts may see the label
pub record MovesWell (planned : PlannedShape) (pc : Label) (statement : StmtId) (next : Spot) : Type 0 where
  pub sees : SpotSees planned pc next
  pub host_is : next.host ≡ statement_host planned.plan statement

enters_well : (planned : PlannedShape) (pc : Label) (from : HostId) (statement : StmtId) (others : List StmtId) →
    Sees planned from pc → AllSee planned pc (statement ∷ others) →
    MovesWell planned pc statement
    (entered planned from (statement_host planned.plan statement) (statement ∷ others))
enters_well planned pc from statement others sees see = elim (eqb_tells from.0 host.0) [
  | inl same ↦ subst P (sym (entered_here planned from host statements same.1)) handed
  | inr apart ↦ elim (entered_there planned from host statements apart.1) [
    | inl is ↦ subst P (sym is) handed
    | inr is ↦ subst P (sym is) (record {
      sees = (see.0, return_sees planned pc from host statements sees see);
      host_is = refl;
    })
  ]
]
  where
    host : HostId
    host = statement_host planned.plan statement

    statements : List StmtId
    statements = statement ∷ others

    P : Spot → Type 0
    P next = MovesWell planned pc statement next

    handed : MovesWell planned pc statement (on (statement_host planned.plan statement))
    handed = record { sees = (see.0, tt); host_is = refl }

pub next_well : (planned : PlannedShape) (pc : Label) (spot : Spot) (statement : StmtId) (others : List StmtId) →
    SpotSees planned pc spot → AllSee planned pc (statement ∷ others) →
    MovesWell planned pc statement (next_spot planned spot statement others)
next_well planned pc spot statement others sees see =
    elim (eqb_tells spot.host.0 (statement_host planned.plan statement).0) [
      | inl same ↦ subst P (sym (next_here planned spot statement others same.1))
          (record { sees = sees; host_is = same_host spot.host (statement_host planned.plan statement) same.1 })
      | inr apart ↦ subst P (sym (next_there planned spot statement others apart.1))
          (enters_well planned pc (end_of spot) statement others (spot_ends planned pc spot sees) see)
    ]
  where
    P : Spot → Type 0
    P next = MovesWell planned pc statement next

pub lane_sees : (planned : PlannedShape) (pc : Label) (counts : Counts) (lane : Lane) (next : Spot) →
    SpotSees planned pc lane.spot → SpotSees planned pc next → SpotSees planned pc (lane_at counts lane next).spot
lane_sees planned pc counts lane next sees next_sees =
    let P : Lane → Type 0 = λ it. SpotSees planned pc it.spot in
    one_of_two P (is_same lane.spot.host next.host) lane
    (record { spot = next; return_entry = counts.entries; riding = [] }) sees next_sees

-- ---- moves

-- the entry that is named last
hands_last : (planned : PlannedShape) (named more : List NamedEntry) (host : HostId) (one : NamedEntry) (number : ℕ) →
    number ≡ length named → 0 < length named → Sees planned host one.label → Sees planned one.host one.label →
    HandsWell planned (named ++ one ∷ more) host one.label (entry_id number) one.host
hands_last planned named more host one number is some sender receiver =
    let P : ℕ → Type 0 = λ place. slice_get (named ++ one ∷ more) place ≡ Some one in
    record {
      no_halt = omega (arith, is, some);
      one = one;
      is = subst P (sym is) (at_last named one more);
      on_host = refl;
      label_is = refl;
      sender = sender;
      receiver = receiver;
    }

pub leaves_then : (labelled : Labelled) (around : Around) (planned : PlannedShape) (named : List NamedEntry)
    (lane : Lane)
    (more : List Emission) → AreTold labelled planned named more →
    AreTold labelled planned named (leave_emissions around lane ++ more)
leaves_then labelled around planned named lane more told = by lane.spot.host lane.spot.back lane.return_entry
  where
    by : (host : HostId) (back : Option HostId) (number : ℕ) →
        let it : Lane = record {
          spot = record { host = host; back = back };
          return_entry = number;
          riding = lane.riding;
        } in
        AreTold labelled planned named (leave_emissions around it ++ more)
    by host None number = told
    by host (Some back) number = (tt, told)

entering_told : (walked : Walked) (around : Around) (counts : Counts) (from host : HostId) (back : Option HostId)
    (riders : List VarId) (statements : List StmtId) (named : List NamedEntry) → IsCounted counts named → 0
    < length named →
    Sees walked.planned from around.pc → Sees walked.planned host around.pc → BackSees walked.planned around.pc back →
    AreTold walked.labelled walked.planned named
    (enter_emissions walked around counts from riders (record { host = host; back = back }) statements)
entering_told walked around counts from host None riders statements named counted some from_sees sees behind =
    let planned = walked.planned in
    let one : NamedEntry = record { host = host; label = around.pc; need = need_of planned statements } in
    one_of_two (AreTold walked.labelled planned named) (is_same from host) [] _ tt (
      goes_well walked.labelled planned (named ++ one ∷ []) from around.pc (entry_id counts.entries) host riders
          (hands_last planned named [] from one counts.entries counted some from_sees sees),
      tt,
    )
entering_told walked around counts from host (Some back) riders statements named counted some from_sees sees behind =
    let planned = walked.planned in
    let first : NamedEntry = record {
      host = back;
      label = around.pc;
      need = need_of planned (behind_row planned host statements);
    } in
    let second : NamedEntry = record {
      host = host;
      label = around.pc;
      need = need_of planned (row_on planned host statements);
    } in
    let both = (named ++ first ∷ []) ++ second ∷ [] in
    let longer : counts.entries + 1 ≡ length (named ++ first ∷ []) = rw length-append (omega (arith, counted)) in
    let P : List NamedEntry → Type 0 = λ list. HandsWell planned list from around.pc (entry_id counts.entries) back in
    let asks : HandsWell planned both from around.pc (entry_id counts.entries) back =
    subst P (sym (append_assoc named (first ∷ []) (second ∷ [])))
    (hands_last planned named (second ∷ []) from first counts.entries counted some from_sees behind) in
    let Q : Op → Type 0 = λ what. TellsWell walked.labelled planned both from around.pc what in
    one_of_two (AreTold walked.labelled planned named) (is_same from host) [] _ tt (
      one_of_two Q (is_same from back) (op.Push (entry_id counts.entries)) (op.Ask (entry_id counts.entries) back) tt
          asks,
      (
        goes_well walked.labelled planned both from around.pc (entry_id (counts.entries + 1)) host riders
            (hands_last planned (named ++ first ∷ []) [] from second (counts.entries + 1) longer
            (omega (arith, longer)) from_sees sees),
        tt,
      ),
    )

pub move_told : (walked : Walked) (around : Around) (counts : Counts) (lane : Lane) (next : Spot)
    (statements : List StmtId) (named : List NamedEntry) → IsCounted counts named →
    IsBegun walked.labelled walked.planned named → SpotSees walked.planned around.pc lane.spot →
    SpotSees walked.planned around.pc next →
    AreTold walked.labelled walked.planned named (move_emissions walked around counts lane next statements)
move_told walked around counts lane next statements named counted begun sees next_sees =
    one_of_two (AreTold walked.labelled walked.planned named) (is_same lane.spot.host next.host) [] _ tt
    (leaves_then walked.labelled around walked.planned named lane
    (enter_emissions walked around counts (end_of lane.spot) lane.riding next statements)
    (entering_told walked around counts (end_of lane.spot) next.host next.back lane.riding statements named counted
    begun.some
    (spot_ends walked.planned around.pc lane.spot sees) next_sees.0 next_sees.1))

pub end_told : (labelled : Labelled) (planned : PlannedShape) (around : Around) (lane : Lane)
    (named : List NamedEntry) →
    AreTold labelled planned named (end_emissions around lane)
end_told labelled planned around lane named = leaves_then labelled around planned named lane _ (tt, tt)
