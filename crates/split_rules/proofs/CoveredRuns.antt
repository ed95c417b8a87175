-- The need of an entry covers all that a thread comes to that enters there, until it gives its token back: what is open
-- to whoever the need asks for stays so, along the run and behind each entry on the chain.
use Rattle.std.proofs.Common.{◌≡◌, ◌≢◌, ℕ, zero, suc, List, [], ◌∷◌, sym, subst, inl, inr}
use Rattle.std.specs.Prelude.{Option, Some, slice_get, IsSomeAnd}
use Rattle.std.specs.List.{AllByRecursion}
use Rattle.std.specs.Int.{bit_at}
use Rattle.js_base.specs.declared.ids.EntryId.{EntryId}
use Rattle.js_base.proofs.BitLemmas.{is_bit, bits_in_order}
use Rattle.label_lattice.specs.declared.label.Label.{Label}
use Rattle.label_lattice.specs.Label.{IsTrustedBy}
use Rattle.host_code.specs.declared.code.Entry.{Entry}
use Rattle.host_code.specs.declared.instruction.Op.{Op}
use Rattle.host_code.specs.declared.instruction.Op.TheVariants as op
use Rattle.host_code.specs.Code.{CodeShape, halt, part_of}
use Rattle.host_code.specs.Sound.{IsSoundCode, OperationFits, temporaries_at}
use Rattle.msg_cost.specs.Moves.{PlannedShape}
use Rattle.split_rules.specs.Placed.{PlacedProgram, planned_from}
use Rattle.split_rules.specs.Allowed.{IsAllowed}
use Rattle.split_rules.specs.Opening.{MayRunAll, IsOpenTo, HasNeed, OpensOp, IsOpenCode, HasAllOf, NamesEntryWithin}
use Rattle.split_rules.specs.Opening.{CoversRuns}
use Rattle.split_rules.specs.Positions.{DueWork}
use Rattle.split_rules.specs.SplitCode.{split_code}
use Rattle.split_rules.specs.Splittable.{IsSplittable}
use Rattle.split_rules.specs.ThreadRun.{Thread, IsAtEntry, TokenGoesBack, RunsOp, RunsInstructions}
use Rattle.split_rules.specs.TypedCode.{Table, IsTypedCode}
use Rattle.split_rules.specs.Typing.{Covers}
use Rattle.split_rules.proofs.OpenCode.{operation_fits, split_is_open}
use Rattle.split_rules.proofs.PacedPlaces.{numbered_from}
use Rattle.split_rules.proofs.SoundSplit.{split_is_sound}

-- a label that those of a word trust, and nobody else
abbrev of_need : ℕ → Label
of_need need = record { rows = []; trust = need }

-- a thread at an open place, and a host that is trusted for the entries on its chain
record IsRunOpen (planned : PlannedShape) (code : CodeShape) (table : Table) (label : Label) (thread : Thread) :
    Type 0 where
  here : IsOpenTo planned label (table.at thread.host.0 thread.place)
  chain : AllByRecursion (HasNeed code label) thread.chain

module _ (planned : PlannedShape) (code : CodeShape) (table : Table) (sound : IsSoundCode code)
    (opens : IsOpenCode planned code table) (label : Label) where
  abbrev IsOpen : Thread → Type 0
  IsOpen thread = IsRunOpen planned code table label thread

  at_entry : (there : EntryId) (chain : List EntryId) (next : Thread) → there ≢ halt → HasNeed code label there →
      AllByRecursion (HasNeed code label) chain → IsAtEntry code there chain next → IsOpen next
  at_entry there chain next not_halt need others at =
      let P : Option Entry → Type 0 = λ found. IsSomeAnd found (λ entry. IsTrustedBy label entry.need) in
      let trusted : IsTrustedBy label at.0.need = subst P at.1 need in
      let here = numbered_from there (λ number. (entry : Entry) → slice_get code.entries number ≡ Some entry →
      IsTrustedBy label entry.need → IsOpenTo planned label (table.at entry.host.0 entry.at)) not_halt
      (λ number entry is may. opens.entries label number entry is may) at.0 at.1 trusted in
      subst IsOpen (sym at.2) (record { here = here; chain = others })

  goes_back : (chain : List EntryId) (next : Thread) → AllByRecursion (HasNeed code label) chain →
      TokenGoesBack code chain next → IsOpen next
  goes_back [] next others back = absurd back
  goes_back (there ∷ chain) next others back = at_entry there chain next back.0 others.0 others.1 back.1

  op_stays : (thread : Thread) (count : ℕ) (what : Op) (steps : ℕ) (next : Thread) →
      OperationFits code thread.host count what → OpensOp planned code table label thread.host thread.place what →
      AllByRecursion (HasNeed code label) thread.chain → RunsOp code thread what steps next → IsOpen next
  op_stays thread count (op.Let x value) steps next fits law chain runs =
      subst IsOpen (sym runs.1) (record { here = law.1; chain = chain })
  op_stays thread count (op.Put field index value) steps next fits law chain runs =
      subst IsOpen (sym runs.1) (record { here = law.1; chain = chain })
  op_stays thread count (op.Ret x value) steps next fits law chain runs =
      subst IsOpen (sym runs.1) (record { here = law.1; chain = chain })
  op_stays thread count (op.Branch guard target) steps next fits law chain runs = elim runs.1 [
    | inl goes_on ↦ subst IsOpen (sym goes_on) (record { here = law.0; chain = chain })
    | inr goes_there ↦ subst IsOpen (sym goes_there) (record { here = law.1; chain = chain })
  ]
  op_stays thread count (op.Push there) steps next fits law chain runs =
      subst IsOpen (sym runs.1) (record { here = law.1; chain = (law.0, chain) })
  op_stays thread count (op.Ask there on) steps next fits law chain runs =
      subst IsOpen (sym runs.1) (record { here = law.1; chain = (law.0, chain) })
  op_stays thread count (op.Go there on) steps next fits law chain runs =
      at_entry there thread.chain next fits.0.0 law chain runs.1
  op_stays thread count (op.Call there on) steps next fits law chain runs =
      at_entry there thread.chain next fits.0.0 law chain runs.1
  op_stays thread count (op.GoWith there on riders) steps next fits law chain runs =
      at_entry there thread.chain next fits.0.0 law.0 chain runs.1
  op_stays thread count (op.CallWith there on riders) steps next fits law chain runs =
      at_entry there thread.chain next fits.0.0 law.0 chain runs.1
  op_stays thread count op.Back steps next fits law chain runs = goes_back thread.chain next chain runs.1
  op_stays thread count (op.Send x to) steps next fits law chain runs =
      subst IsOpen (sym runs.1) (record { here = law.1; chain = chain })
  op_stays thread count (op.Arg x value) steps next fits law chain runs =
      subst IsOpen (sym runs.1) (record { here = law.1; chain = chain })
  op_stays thread count (op.Pass x to) steps next fits law chain runs =
      subst IsOpen (sym runs.1) (record { here = law.1; chain = chain })
  op_stays thread count (op.Read field index) steps next fits law chain runs =
      subst IsOpen (sym runs.1) (record { here = law; chain = chain })
  op_stays thread count (op.Frame site) steps next fits law chain runs =
      subst IsOpen (sym runs.1) (record { here = law; chain = chain })

  run_stays : (count steps : ℕ) (first last : Thread) → IsOpen first → RunsInstructions code count steps first last →
      IsOpen last
  run_stays zero steps first last begins runs = subst IsOpen runs.1 begins
  run_stays (suc count) steps first last begins runs =
      let one = runs.4 in
      let there = one.instruction in
      let law = opens.instructions label first.host first.place there one.is begins.here in
      let so = op_stays first (temporaries_at code.entries first.host (part_of code first.host) first.place) there.op
      runs.0 runs.2 (operation_fits code sound first.host first.place there one.is) law begins.chain one.runs in
      run_stays count runs.1 runs.2 last so runs.5

-- ---- needs

module _ (planned : PlannedShape) (code : CodeShape) (table : Table) (need : ℕ) where
  due_covered : (due : List DueWork) → MayRunAll planned (of_need need) due → Covers planned need due
  due_covered [] may = tt
  due_covered (item ∷ due) may = (
    λ p p_in. bits_in_order _ (bit_at need p) (is_bit _ p) (may.0.0 p p_in),
    due_covered due may.1,
  )

  within : (there : EntryId) → HasNeed code (of_need need) there → HasAllOf code need there
  within there has entry is p p_in =
      let P : Option Entry → Type 0 = λ found. IsSomeAnd found (λ it. IsTrustedBy (of_need need) it.need) in
      let trusted : IsTrustedBy (of_need need) entry.need = subst P is has in
      bits_in_order (bit_at entry.need p) (bit_at need p) (is_bit entry.need p) (trusted p p_in)

  names_within : (thread : Thread) (what : Op) →
      OpensOp planned code table (of_need need) thread.host thread.place what → NamesEntryWithin code need what
  names_within thread (op.Push there) law = within there law.0
  names_within thread (op.Ask there on) law = within there law.0
  names_within thread (op.Go there on) law = within there law
  names_within thread (op.Call there on) law = within there law
  names_within thread (op.GoWith there on riders) law = within there law.0
  names_within thread (op.CallWith there on riders) law = within there law.0
  names_within thread (op.Read field index) law = tt
  names_within thread (op.Let x value) law = tt
  names_within thread (op.Put field index value) law = tt
  names_within thread (op.Send x to) law = tt
  names_within thread (op.Frame site) law = tt
  names_within thread (op.Arg x value) law = tt
  names_within thread (op.Pass x to) law = tt
  names_within thread (op.Ret x value) law = tt
  names_within thread op.Back law = tt
  names_within thread (op.Branch guard target) law = tt

-- ---- the law

pub split_covers_runs : (placed : PlacedProgram) (table : Table) → IsSplittable placed → IsAllowed placed →
    IsTypedCode (planned_from placed) (split_code placed) table →
    CoversRuns (planned_from placed) (split_code placed) table
split_covers_runs placed table splittable allowed typed there start not_halt is count steps first
    last begins runs =
    let planned = planned_from placed in
    let code = split_code placed in
    let opens = split_is_open placed table splittable allowed typed in
    let need = start.need in
    let P : Option Entry → Type 0 = λ found. IsSomeAnd found (λ it. IsTrustedBy (of_need need) it.need) in
    let own : IsTrustedBy (of_need need) need = λ p p_in set. set in
    let has : HasNeed code (of_need need) there = subst P (sym is) own in
    let sound = split_is_sound placed splittable in
    let end = run_stays planned code table sound opens (of_need need) count steps first last
    (at_entry planned code table sound opens (of_need need) there [] first not_halt has tt begins) runs in
    record {
      due = due_covered planned code table need (table.at last.host.0 last.place).due end.here.due;
      names = λ instruction there_is. names_within planned code table need last instruction.op
          (opens.instructions (of_need need) last.host last.place instruction there_is end.here);
    }
