-- Typed code of a program gives a host no more than it is trusted for: instruction by instruction, and entry by entry.
use Rattle.std.proofs.Common.{◌≡◌, ◌≢◌, ℕ, suc, List, [], ◌∷◌, ap, sym, subst, refl, inl, inr, arith}
use Rattle.std.specs.Prelude.{Option, Some, None, slice_get, unwrap_or, map, IsSomeAnd}
use Rattle.std.specs.List.{AllByRecursion}
use Rattle.std.proofs.lemmas.Option.{slice_get_within, slice_get_cases}
use Rattle.js_base.specs.declared.ids.HostId.{HostId}
use Rattle.js_base.specs.declared.ids.EntryId.{EntryId}
use Rattle.js_base.proofs.BitLemmas.{is_bit}
use Rattle.label_lattice.specs.declared.label.Label.{Label}
use Rattle.label_lattice.specs.Label.{IsTrustedBy}
use Rattle.jif_tree.specs.LabelRules.{method_at, result_of}
use Rattle.host_code.specs.declared.code.Entry.{Entry}
use Rattle.host_code.specs.declared.instruction.Instr.{Instr}
use Rattle.host_code.specs.declared.instruction.Op.{Op}
use Rattle.host_code.specs.declared.instruction.Op.TheVariants as op
use Rattle.host_code.specs.Code.{CodeShape, halt, part_of, entry_at, instruction_at}
use Rattle.entry_check.specs.Checks.{label_of_host}
use Rattle.host_code.specs.Sound.{IsSoundCode, OperationFits, temporaries_at}
use Rattle.msg_cost.specs.Moves.{PlannedShape}
use Rattle.split_rules.specs.Placed.{PlacedProgram, planned_from}
use Rattle.split_rules.specs.Allowed.{IsAllowed}
use Rattle.split_rules.specs.Opening.{MayRunAll, AreSentFrom, IsOpenTo, MayChange, HasNeed, OpensOp, IsOpenCode}
use Rattle.split_rules.specs.Opening.{HasOwnLabels}
use Rattle.split_rules.specs.Positions.{number_of, statement_due, DueWork, Calling, no_call, arguing, entering}
use Rattle.split_rules.specs.Positions.{Entrance}
use Rattle.split_rules.specs.Positions.{Forward, calm}
use Rattle.split_rules.specs.SplitCode.{split_code}
use Rattle.split_rules.specs.Splittable.{IsSplittable}
use Rattle.split_rules.specs.TypedCode.{Table, IsTypedOp, IsTypedCode}
use Rattle.split_rules.specs.Typing.{EntryIs, AreDueOn, Covers, Cuts, Pushes}
use Rattle.split_rules.specs.Walk.{program_emissions}
use Rattle.split_rules.proofs.OpenPlaces.{IsHeldEntry, calm_open, let_open, put_open, read_open, send_open, frame_open}
use Rattle.split_rules.proofs.OpenPlaces.{arg_open, cut_open, call_open, branch_open, ret_open, cut_held, go_held}
use Rattle.split_rules.proofs.OpenPlaces.{call_held, method_held, riding_held, affected}
use Rattle.split_rules.proofs.OpenStatements.{IsKnown, program_known, statement_brings, given_affected}
use Rattle.split_rules.proofs.OpenStatements.{stored_affected, started_open}
use Rattle.split_rules.proofs.OwnLabels.{own_labels}
use Rattle.split_rules.proofs.Riding.{enters_riding}
use Rattle.split_rules.proofs.PacedPlaces.{numbered_from}
use Rattle.split_rules.proofs.SoundSplit.{split_is_sound}
use Rattle.split_rules.proofs.TypedSplit.{same_there}
use Rattle.split_rules.proofs.WalkedCalls.{nothing_there}

-- what an instruction of sound code names is there
pub operation_fits : (code : CodeShape) → IsSoundCode code → (me : HostId) (place : ℕ) (there : Instr) →
    instruction_at code me place ≡ Some there →
    OperationFits code me (temporaries_at code.entries me (part_of code me) place) there.op
operation_fits code sound me place there is =
    elim ((slice_get_cases code.parts me.0).1) [
      | inl found ↦
          let many = sound.a_part_each in
          let within = slice_get_within code.parts me.0 found.0 found.2 in
          ((sound.parts me (omega arith)).instructions place there is).operation
      | inr past ↦
          let P : Option (List Instr) → Type 0 = λ it. slice_get (unwrap_or it []) place ≡ Some there in
          absurd (nothing_there place there (subst P past.1 is))
    ]

-- ---- entries

-- a host that is trusted for a need is trusted for all that it covers
covered : (planned : PlannedShape) (label : Label) (need : ℕ) (host : HostId) (due : List DueWork) →
    IsTrustedBy label need → Covers planned need due → AreDueOn planned host due → MayRunAll planned label due
covered planned label need host [] trusted covers are = tt
covered planned label need host (item ∷ due) trusted covers are = (
  (λ p p_in set. trusted p p_in (omega (arith, is_bit need p, covers.0 p p_in, set)), are.0.1),
  covered planned label need host due trusted covers.1 are.1,
)

module _ (placed : PlacedProgram) (table : Table)
    (known : IsKnown placed.labelled (planned_from placed) placed.hosts.principals)
    (own : HasOwnLabels placed.labelled (planned_from placed) (split_code placed))
    (typed : IsTypedCode (planned_from placed) (split_code placed) table)
    (label : Label) where
  abbrev planned : PlannedShape
  planned = planned_from placed

  abbrev code : CodeShape
  code = split_code placed

  calm_there : (number : ℕ) (entry : Entry) → (is : slice_get code.entries (suc number) ≡ Some entry) →
      MayRunAll planned label (typed.entries number entry is).position.due →
      IsOpenTo planned label (table.at entry.host.0 entry.at)
  calm_there number entry is may =
      let there = typed.entries number entry is in
      subst (IsOpenTo planned label) (sym there.stands) (subst (IsOpenTo planned label) (sym there.is_calm)
      (calm_open placed label known table.entries entry.host there.position.level there.position.due
      may))

  -- a host that is trusted for the need of an entry
  entry_open : (number : ℕ) (entry : Entry) → slice_get code.entries (suc number) ≡ Some entry →
      IsTrustedBy label entry.need → IsOpenTo planned label (table.at entry.host.0 entry.at)
  entry_open number entry is trusted =
      let there = typed.entries number entry is in
      calm_there number entry is
      (covered planned label entry.need entry.host there.position.due trusted there.covers there.trusted)

  -- the host of an entry is one of those
  all_run : (host : HostId) → label_of_host code host ≡ Some label → (due : List DueWork) → AreDueOn planned host due →
      MayRunAll planned label due
  all_run host label_is [] are = tt
  all_run host label_is (item ∷ due) are = (
    ((own.of_trust host label (number_of (statement_due item)) label_is).0 are.0.0, are.0.1),
    all_run host label_is due are.1,
  )

  own_open : (number : ℕ) (entry : Entry) → slice_get code.entries (suc number) ≡ Some entry →
      label_of_host code entry.host ≡ Some label → IsOpenTo planned label (table.at entry.host.0 entry.at)
  own_open number entry is label_is =
      let there = typed.entries number entry is in
      calm_there number entry is (all_run entry.host label_is there.position.due there.trusted)

  -- the need that an entry has in the table, it has in the code
  entry_needed : (on : HostId) (there : EntryId) → there ≢ halt →
      IsSomeAnd (entry_at code there) (λ entry. entry.host ≡ on) → IsHeldEntry label table.entries there.0 →
      HasNeed code label there
  entry_needed on there not_halt found held =
      numbered_from there (λ number. IsSomeAnd (slice_get code.entries number) (λ entry. entry.host ≡ on) →
      EntryIs table.entries number held.position held.need →
      IsSomeAnd (slice_get code.entries number) (λ entry. IsTrustedBy label entry.need)) not_halt
      (λ number some is. by number (slice_get code.entries (suc number)) refl some is) found held.is
    where
      by : (number : ℕ) (it : Option Entry) → slice_get code.entries (suc number) ≡ it →
          IsSomeAnd it (λ entry. entry.host ≡ on) → EntryIs table.entries (suc number) held.position held.need →
          IsSomeAnd it (λ entry. IsTrustedBy label entry.need)
      by number None it_is never is = absurd never
      by number (Some entry) it_is host_is is =
          let in_code = typed.entries number entry it_is in
          let same = same_there table.entries (suc number) (record { position = held.position; need = held.need })
          (record { position = in_code.position; need = entry.need }) is in_code.is in
          subst (IsTrustedBy label) (ap (λ (it : Entrance). it.need) same) held.trusted

  -- ---- instructions

  cut_opens : (me on : HostId) (place : ℕ) (there : EntryId) → there ≢ halt →
      IsSomeAnd (entry_at code there) (λ entry. entry.host ≡ on) → IsOpenTo planned label (table.at me.0 place) →
      Cuts planned table.entries (table.at me.0 place) there.0 (table.at me.0 (suc place)) →
      HasNeed code label there × IsOpenTo planned label (table.at me.0 (suc place))
  cut_opens me on place there not_halt found open_here law =
      let at = table.at me.0 place in
      let next = table.at me.0 (suc place) in (
        entry_needed on there not_halt found
            (cut_held placed label known table.entries me at next there.0 open_here law),
        cut_open placed label known table.entries me at next there.0 open_here law,
      )

  push_opens : (me : HostId) (place : ℕ) (there : EntryId) (calling : Calling) → there ≢ halt →
      IsSomeAnd (entry_at code there) (λ entry. entry.host ≡ me) → IsOpenTo planned label (table.at me.0 place) →
      Pushes planned table.entries (table.at me.0 place) calling there.0 (table.at me.0 (suc place)) →
      HasNeed code label there × IsOpenTo planned label (table.at me.0 (suc place))
  push_opens me place there no_call not_halt found open_here law =
      cut_opens me me place there not_halt found open_here law
  push_opens me place there (arguing statement set left) not_halt found open_here law =
      let at = table.at me.0 place in
      let next = table.at me.0 (suc place) in (
        entry_needed me there not_halt found (call_held placed label known table.entries me at next
            statement set left there.0 open_here law),
        call_open placed label known table.entries me at next statement set left there.0 open_here
            law,
      )
  push_opens me place there (entering statement) not_halt found open_here law = absurd law

  -- what has still to be sent may be changed, and so what rides
  riders_changed : (me : HostId) (forwards : List Forward) → AreSentFrom planned label forwards →
      AllByRecursion (MayChange code label) (map (λ forward. forward.variable) forwards)
  riders_changed me [] sent = tt
  riders_changed me (forward ∷ others) sent = (
    (own.of_variables label forward.variable).1
        (affected placed label known table.entries me forward.source forward.variable sent.0.0 sent.0.1),
    riders_changed me others sent.1,
  )

  op_opens : (me : HostId) (place count : ℕ) (what : Op) → OperationFits code me count what →
      IsTypedOp planned table me place what → IsOpenTo planned label (table.at me.0 place) →
      OpensOp planned code table label me place what
  op_opens me place count (op.Read field index) fits law open_here =
      read_open placed label known table.entries me (table.at me.0 place)
      (table.at me.0 (suc place)) field index open_here law
  op_opens me place count (op.Let x value) fits law open_here =
      let so = let_open placed label known table.entries me (table.at me.0 place)
      (table.at me.0 (suc place)) x value open_here law in
      ((own.of_variables label x).1 so.0, so.1)
  op_opens me place count (op.Put field index value) fits law open_here =
      let so = put_open placed label known table.entries me (table.at me.0 place)
      (table.at me.0 (suc place)) field index value open_here law in
      ((own.of_fields label field).1 so.0, so.1)
  op_opens me place count (op.Send x to) fits law open_here =
      let so = send_open placed label known table.entries me (table.at me.0 place)
      (table.at me.0 (suc place)) x to open_here law.1 in
      ((own.of_variables label x).1 so.0, so.1)
  op_opens me place count (op.Frame site) fits law open_here =
      frame_open placed label known table.entries me (table.at me.0 place)
      (table.at me.0 (suc place)) site law.0 law.1 law.2.due open_here law.4
  op_opens me place count (op.Arg x value) fits law open_here =
      let at = table.at me.0 place in
      let so = arg_open placed label known table.entries me at (table.at me.0 (suc place)) x value
      at.calling refl open_here law in
      ((own.of_variables label x).1 so.0, so.1)
  op_opens me place count (op.Pass x to) fits law open_here =
      let so = send_open placed label known table.entries me (table.at me.0 place)
      (table.at me.0 (suc place)) x to open_here law.4 in
      ((own.of_variables label x).1 so.0, so.1)
  op_opens me place count (op.Push there) fits law open_here =
      push_opens me place there (table.at me.0 place).calling fits.0 fits.1 open_here law
  op_opens me place count (op.Ask there on) fits law open_here =
      cut_opens me on place there fits.0.0 fits.0.1 open_here law.0
  op_opens me place count (op.Go there on) fits law open_here =
      let at = table.at me.0 place in
      entry_needed on there fits.0.0 fits.0.1 (go_held placed label known table.entries me at at there.0 open_here
      law.1)
  op_opens me place count (op.Call there on) fits law open_here =
      let at = table.at me.0 place in
      entry_needed on there fits.0.0 fits.0.1 (method_held placed label known table.entries me at
      at.calling there.0 refl open_here law)
  op_opens me place count (op.Ret x value) fits law open_here =
      let so = ret_open placed label known table.entries me (table.at me.0 place)
      (table.at me.0 (suc place)) x value open_here law in
      ((own.of_variables label x).1 so.0, so.1)
  op_opens me place count op.Back fits law open_here = tt
  op_opens me place count (op.Branch guard target) fits law open_here =
      branch_open placed label known table.entries me (table.at me.0 place)
      (table.at me.0 (suc place)) (table.at me.0 target) guard law.0 law.1 law.2.due open_here law.4
  op_opens me place count (op.GoWith there on riders) fits law open_here =
      let at = table.at me.0 place in (
        entry_needed on there fits.0.0 fits.0.1 (go_held placed label known table.entries me at
            (calm at.level at.due) there.0 open_here law.2),
        subst (AllByRecursion (MayChange code label)) law.1.0 (riders_changed me at.forwards open_here.sent),
      )
  op_opens me place count (op.CallWith there on riders) fits law open_here =
      let at = table.at me.0 place in
      let rides = (enters_riding planned table.entries at at.calling there.0 riders on law).1 in (
        entry_needed on there fits.0.0 fits.0.1 (riding_held placed label known table.entries me at
            there.0 riders on open_here law),
        subst (AllByRecursion (MayChange code label)) rides.0 (riders_changed me at.forwards open_here.sent),
      )

-- ---- the laws

pub split_has_own_labels : (placed : PlacedProgram) → IsSplittable placed →
    HasOwnLabels placed.labelled (planned_from placed) (split_code placed)
split_has_own_labels placed splittable =
    let planned = planned_from placed in
    own_labels placed (program_emissions placed) splittable.var_labels

pub split_is_open : (placed : PlacedProgram) (table : Table) → IsSplittable placed → IsAllowed placed →
    IsTypedCode (planned_from placed) (split_code placed) table →
    IsOpenCode (planned_from placed) (split_code placed) table
split_is_open placed table splittable allowed typed = record {
  statements = λ label method statement is_in trusted.
      let planned = planned_from placed in
      let result = result_of (method_at placed.labelled.program method) in
      let brings = statement_brings placed label known method statement is_in trusted in
      record {
        gives = λ x is. (own.of_variables label x).1
            (given_affected placed.labelled planned label method statement x brings is);
        stores = λ field is. (own.of_fields label field).1
            (stored_affected placed.labelled planned label result statement field brings is);
        starts = started_open placed.labelled planned label result statement brings;
      };
  entries = entry_open placed table known own typed;
  own_entries = own_open placed table known own typed;
  instructions = λ label me place there is open_here.
      op_opens placed table known own typed label me place
      (temporaries_at code.entries me (part_of code me) place) there.op
      (operation_fits code (split_is_sound placed splittable) me place there is)
      (typed.instructions me place there is).1 open_here;
}
  where
    code : CodeShape
    code = split_code placed

    known : IsKnown placed.labelled (planned_from placed) placed.hosts.principals
    known = program_known placed splittable allowed

    own : HasOwnLabels placed.labelled (planned_from placed) (split_code placed)
    own = split_has_own_labels placed splittable
