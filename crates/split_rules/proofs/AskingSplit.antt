-- Each request that an instruction of split code makes of another host is granted, and no instruction tells another
-- host what it may not see.
use Rattle.std.proofs.Common.{◌≡◌, ℕ, zero, suc, ◌<◌, true, inl, List, [], ◌∷◌, length, refl, ap}
use Rattle.std.proofs.Common.{sym, subst, arith, bit_or}
use Rattle.std.specs.Prelude.{Option, Some, None, slice_get, slice_index, map, IsSomeAnd}
use Rattle.js_base.specs.declared.ids.HostId.{HostId}
use Rattle.js_base.specs.declared.ids.FieldId.{FieldId}
use Rattle.js_base.specs.declared.ids.EntryId.{EntryId}
use Rattle.js_base.specs.declared.ids.VarId.{VarId}
use Rattle.label_lattice.specs.declared.label.Label.{Label}
use Rattle.label_lattice.specs.Label.{ConfFlows, IntegFlows, IsTrustedBy}
use Rattle.host_decl.specs.Hosts.{HostShape}
use Rattle.jif_tree.specs.Trees.{BlockTree, FieldTree}
use Rattle.host_code.specs.declared.instruction.Instr.{Instr}
use Rattle.host_code.specs.declared.instruction.Op.{Op}
use Rattle.host_code.specs.declared.instruction.Op.TheVariants as op
use Rattle.host_code.specs.Code.{CodeShape}
use Rattle.entry_check.specs.Checks.{MayRide, MaySee, label_at, label_of_host}
use Rattle.need_labels.specs.Plan.{field_host}
use Rattle.msg_cost.specs.Moves.{PlannedShape, is_trusted_for}
use Rattle.split_rules.specs.Placed.{PlacedProgram, planned_from}
use Rattle.split_rules.specs.Emissions.{Emission, instruction, NamedEntry}
use Rattle.split_rules.specs.Allowed.{IsTrustedHost, IsAllowed}
use Rattle.split_rules.specs.Held.{IsWellHeld}
use Rattle.split_rules.specs.Asking.{IsGranted, IsLabelSeenBy, AreGranted, TellsNoMore}
use Rattle.split_rules.specs.Asking as asking
use Rattle.split_rules.specs.Positions.{IsOf, number_of, DueWork, statement_due, Position, Entrance, Forward, calm}
use Rattle.split_rules.specs.SplitCode.{entries_in, landed, code_labels, label_place, code_of_emissions, split_code}
use Rattle.split_rules.specs.Splittable.{IsSplittable}
use Rattle.split_rules.specs.TypedCode.{Table, IsTypedOp, IsTypedCode}
use Rattle.split_rules.specs.Typing.{EntryIs, AreDueOn, AreSourced, IsTrustedAt, GivesVariable, need_due}
use Rattle.split_rules.specs.Walk.{program_emissions}
use Rattle.split_rules.proofs.BackedLabels.{all_second}
use Rattle.split_rules.proofs.AllowedTyping.{allowed_typable}
use Rattle.split_rules.proofs.CodeItems.{code_entry}
use Rattle.split_rules.proofs.SoundParts.{entry_there}
use Rattle.split_rules.proofs.TypedSplit.{same_there, split_is_typed}
use Rattle.split_rules.proofs.ToldEmissions.{Sees, Affects, AffectsVariable, TellsWell, AreTold}
use Rattle.split_rules.proofs.SeenLabels.{trusted_host}
use Rattle.split_rules.proofs.SeenPrograms.{program_tells_well}
use Rattle.split_rules.proofs.ToldCode.{program_told, made_of, sees_in_code, emission_labelled}
use Rattle.split_rules.proofs.ToldCode.{variable_granted, read_granted, put_granted, field_told, enters_granted}
use Rattle.split_rules.proofs.OpenPlaces.{affected}
use Rattle.split_rules.proofs.OpenStatements.{IsKnown, program_known}
use Rattle.split_rules.proofs.Riding.{enters_riding}
use Rattle.split_rules.proofs.TrustedNeeds.{none_needed, both_needed}

-- ---- needs of what is due

nothing_held : (planned : PlannedShape) (host : HostId) (label : Label) → Sees planned host label →
    IsTrustedHost planned.hosts 0 host
nothing_held planned host label sees = by (slice_get planned.hosts.hosts host.0) sees
  where
    by : (found : Option HostShape) → IsSomeAnd found (λ row. ConfFlows label row.label) →
        IsSomeAnd found (λ row. IsTrustedBy row.label 0)
    by None never = absurd never
    by (Some row) flows = none_needed row.label

both_held : (planned : PlannedShape) (host : HostId) (first second : ℕ) → IsTrustedHost planned.hosts first host →
    IsTrustedHost planned.hosts second host → IsTrustedHost planned.hosts (bit_or first second) host
both_held planned host first second one two = by (slice_get planned.hosts.hosts host.0) one two
  where
    by : (found : Option HostShape) → IsSomeAnd found (λ row. IsTrustedBy row.label first) →
        IsSomeAnd found (λ row. IsTrustedBy row.label second) →
        IsSomeAnd found (λ row. IsTrustedBy row.label (bit_or first second))
    by None never also = absurd never
    by (Some row) trusts also = both_needed row.label first second trusts also

-- a host that is trusted for all that is due is trusted for its need
need_held : (planned : PlannedShape) (host : HostId) (label : Label) → Sees planned host label → (due : List DueWork) →
    AreDueOn planned host due → IsTrustedHost planned.hosts (need_due planned due) host
need_held planned host label sees [] trusted = nothing_held planned host label sees
need_held planned host label sees (item ∷ due) trusted =
    let one = number_of (statement_due item) in
    both_held planned host (slice_index planned.needs.need one.0) (need_due planned due)
    (trusted_host planned host one trusted.0.0) (need_held planned host label sees due trusted.1)

-- ---- entries

-- an entry that is named has the need of what is due there, as the table says it
record IsDueAt (planned : PlannedShape) (table : Table) (host : HostId) (number : ℕ) : Type 0 where
  position : Position
  due : List DueWork
  is : EntryIs table.entries number position (need_due planned due)
  trusted : AreDueOn planned host due

named_need : (placed : PlacedProgram) (emissions : List Emission) (table : Table) →
    let planned = planned_from placed in
    IsTypedCode planned (code_of_emissions placed.labelled placed.hosts planned emissions) table →
    (host : HostId) (label : Label) →
    Sees planned host label → (number : ℕ) → 0 < number → (named : NamedEntry) →
    slice_get (entries_in emissions) number ≡ Some named → IsDueAt planned table host number →
    IsTrustedHost placed.hosts named.need host
named_need placed emissions table typed host label sees zero some named is due_at =
    absurd (omega (arith, some))
named_need placed emissions table typed host label sees (suc number) some named is due_at =
    let planned = planned_from placed in
    let needed = code_labels placed.labelled emissions in
    let in_code = typed.entries number (code_entry needed emissions (suc number) named)
    (entry_there needed emissions (suc number) named is) in
    let one : Entrance = record { position = in_code.position; need = named.need } in
    let other : Entrance = record { position = due_at.position; need = need_due planned due_at.due } in
    let same : other ≡ one = same_there table.entries (suc number) other one due_at.is in_code.is in
    let P : ℕ → Type 0 = λ need. IsTrustedHost placed.hosts need host in
    subst P (ap (λ (it : Entrance). it.need) same) (need_held planned host label sees due_at.due due_at.trusted)

go_due : (planned : PlannedShape) (table : Table) (me : HostId) (place : ℕ) (there : EntryId) (on : HostId) →
    AreDueOn planned me (table.at me.0 place).due → IsTypedOp planned table me place (op.Go there on) →
    IsDueAt planned table me there.0
go_due planned table me place there on trusted typed = record {
  position = table.at me.0 place;
  due = (table.at me.0 place).due;
  is = typed.1;
  trusted = trusted;
}

ask_due : (planned : PlannedShape) (table : Table) (me : HostId) (place : ℕ) (there : EntryId) (on : HostId) →
    AreDueOn planned me (table.at me.0 place).due → IsTypedOp planned table me place (op.Ask there on) →
    IsDueAt planned table me there.0
ask_due planned table me place there on trusted typed =
    let cuts = typed.0 in
    let P : List DueWork → Type 0 = λ due. AreDueOn planned me due in
    record {
      position = _;
      due = cuts.behind;
      is = cuts.pushed;
      trusted = all_second (λ (item : DueWork). (is_trusted_for planned me (number_of (statement_due item)) ≡ true)
          × IsOf planned.program (statement_due item))
          (table.at me.0 (suc place)).due cuts.behind (subst P cuts.due trusted);
    }

-- ---- instructions

record IsAsking (placed : PlacedProgram) (emissions : List Emission) (table : Table)
    : Type 0 where
  many : length placed.labelled.var_labels ≡ length placed.labelled.program.vars
  typed : IsTypedCode (planned_from placed)
      (code_of_emissions placed.labelled placed.hosts (planned_from placed) emissions) table
  known : IsKnown placed.labelled (planned_from placed) placed.hosts.principals

-- a host that is trusted for a statement affects what that gives its value
source_affected : (placed : PlacedProgram) (emissions : List Emission) (table : Table) →
    IsAsking placed emissions table → (me : HostId) (source : BlockTree) (x : VarId) →
    let planned = planned_from placed in
    IsTrustedHost planned.hosts (slice_index planned.needs.need (number_of source).0) me →
    IsOf planned.program source → GivesVariable planned source x → AffectsVariable placed.labelled planned me x
source_affected placed emissions table asks me source x trusted is_of gives =
    by (slice_get planned.hosts.hosts me.0) refl trusted
  where
    planned : PlannedShape
    planned = planned_from placed

    on_row : (row : HostShape) → slice_get planned.hosts.hosts me.0 ≡ Some row → (found : Option Label) →
        IsSomeAnd found (IntegFlows row.label) → IsSomeAnd found (Affects planned me)
    on_row row is None never = absurd never
    on_row row is (Some label) flows =
        let P : Option HostShape → Type 0 = λ it. IsSomeAnd it (λ one. IntegFlows one.label label) in
        subst P (sym is) flows

    by : (found : Option HostShape) → slice_get planned.hosts.hosts me.0 ≡ found →
        IsSomeAnd found (λ row. IsTrustedBy row.label (slice_index planned.needs.need (number_of source).0)) →
        AffectsVariable placed.labelled planned me x
    by None is never = absurd never
    by (Some row) is trusts = on_row row is (slice_get placed.labelled.var_labels x.0)
        (affected placed row.label asks.known table.entries me source x (trusts, is_of) gives)

-- what has still to be sent may ride to whatever host
riders_granted : (placed : PlacedProgram) (emissions : List Emission) (table : Table) →
    IsAsking placed emissions table → (me on : HostId) (forwards : List Forward) →
    let planned = planned_from placed in
    AreSourced planned me forwards →
    MayRide (code_of_emissions placed.labelled placed.hosts planned emissions) on me
    (map (λ forward. forward.variable) forwards)
riders_granted placed emissions table asks me on [] sourced = tt
riders_granted placed emissions table asks me on (forward ∷ others) sourced = (
  variable_granted placed emissions me on forward.variable asks.many
      (source_affected placed emissions table asks me forward.source forward.variable
      (trusted_host (planned_from placed) me (number_of forward.source) sourced.0.1) sourced.0.2 sourced.0.3),
  riders_granted placed emissions table asks me on others sourced.1,
)

op_granted : (placed : PlacedProgram) (emissions : List Emission) (table : Table) →
    IsAsking placed emissions table →
    (me : HostId) (place : ℕ) (pc : Label) (what : Op) →
    let planned = planned_from placed in
    TellsWell placed.labelled planned (entries_in emissions) me pc what → IsTrustedAt planned me (table.at me.0 place) →
    IsTypedOp planned table me place (landed me emissions what) →
    IsGranted (code_of_emissions placed.labelled placed.hosts planned emissions) me (landed me emissions what)
op_granted placed emissions table asks me place pc (op.Read field index) well due typed =
    read_granted placed emissions me pc field well
op_granted placed emissions table asks me place pc (op.Put field index value) well due typed =
    put_granted placed emissions me pc field well
op_granted placed emissions table asks me place pc (op.Send x to) well due typed =
    variable_granted placed emissions me to x asks.many well.0
op_granted placed emissions table asks me place pc (op.Pass x to) well due typed =
    variable_granted placed emissions me to x asks.many well.0
op_granted placed emissions table asks me place pc (op.Ask there on) well due typed =
    let planned = planned_from placed in
    let P : Label → Type 0 = λ label. Sees planned me label in
    enters_granted placed emissions me on there well.one well.no_halt well.is well.on_host
    (named_need placed emissions table asks.typed me pc well.sender there.0 well.no_halt well.one
    well.is (ask_due planned table me place there on due.0 typed)) (subst P (sym well.label_is) well.sender)
op_granted placed emissions table asks me place pc (op.Go there on) well due typed =
    let planned = planned_from placed in
    let P : Label → Type 0 = λ label. Sees planned me label in
    enters_granted placed emissions me on there well.one well.no_halt well.is well.on_host
    (named_need placed emissions table asks.typed me pc well.sender there.0 well.no_halt well.one
    well.is (go_due planned table me place there on due.0 typed)) (subst P (sym well.label_is) well.sender)
op_granted placed emissions table asks me place pc (op.Call there on) well due typed =
    λ apart. enters_granted placed emissions me on there well.one well.no_halt well.is well.on_host
    well.trusted well.sender
op_granted placed emissions table asks me place pc (op.Ret x value) well due typed =
    λ to. variable_granted placed emissions me to x asks.many well
op_granted placed emissions table asks me place pc (op.Let x value) well due typed = tt
op_granted placed emissions table asks me place pc (op.Frame site) well due typed = tt
op_granted placed emissions table asks me place pc (op.Arg x value) well due typed = tt
op_granted placed emissions table asks me place pc (op.Push there) well due typed = tt
op_granted placed emissions table asks me place pc op.Back well due typed = tt
op_granted placed emissions table asks me place pc (op.Branch guard target) well due typed = tt
op_granted placed emissions table asks me place pc (op.GoWith there on riders) well due typed =
    let planned = planned_from placed in
    let code = code_of_emissions placed.labelled placed.hosts planned emissions in
    let at = table.at me.0 place in
    let P : Label → Type 0 = λ label. Sees planned me label in
    let due_at : IsDueAt planned table me there.0 = record {
      position = calm at.level at.due;
      due = at.due;
      is = typed.2;
      trusted = due.0;
    } in (
      enters_granted placed emissions me on there well.one well.no_halt well.is well.on_host
          (named_need placed emissions table asks.typed me pc well.sender there.0 well.no_halt well.one well.is due_at)
          (subst P (sym well.label_is) well.sender),
      subst (MayRide code on me) typed.1.0 (riders_granted placed emissions table asks me on at.forwards due.1),
    )
op_granted placed emissions table asks me place pc (op.CallWith there on riders) well due typed =
    let planned = planned_from placed in
    let code = code_of_emissions placed.labelled placed.hosts planned emissions in
    let at = table.at me.0 place in
    let rides = (enters_riding planned table.entries at at.calling there.0 riders on typed).1 in (
      enters_granted placed emissions me on there well.one well.no_halt well.is well.on_host well.trusted well.sender,
      subst (MayRide code on me) rides.0 (riders_granted placed emissions table asks me on at.forwards due.1),
    )

-- the host of a field that is read or set is told
field_seen : (placed : PlacedProgram) (emissions : List Emission) (me : HostId) (label : ℕ) (field : FieldId)
    (Holds : FieldTree → Type 0) →
    let planned = planned_from placed in
    let code = code_of_emissions placed.labelled placed.hosts planned emissions in
    IsSomeAnd (slice_get placed.labelled.program.fields field.0) Holds →
    ((tree : FieldTree) → Holds tree → IsLabelSeenBy code label (field_host placed.plan field)) →
    asking.IfElsewhere code me field (IsLabelSeenBy code label)
field_seen placed emissions me label field Holds well seen =
    by (slice_get placed.labelled.program.fields field.0) refl well
  where
    code : CodeShape
    code = code_of_emissions placed.labelled placed.hosts (planned_from placed) emissions

    by : (found : Option FieldTree) → slice_get placed.labelled.program.fields field.0 ≡ found → IsSomeAnd found Holds →
        asking.IfElsewhere code me field (IsLabelSeenBy code label)
    by None is never = absurd never
    by (Some tree) is holds =
        field_told placed emissions me label field tree is (seen tree holds)

op_tells : (placed : PlacedProgram) (emissions : List Emission) (me : HostId) (label : ℕ) (pc : Label) →
    let planned = planned_from placed in
    let code = code_of_emissions placed.labelled placed.hosts planned emissions in
    label_at code label ≡ Some pc → (what : Op) → TellsWell placed.labelled planned (entries_in emissions) me pc what →
    asking.TellsWell code me label (landed me emissions what)
op_tells placed emissions me label pc is what well = by what well
  where
    planned : PlannedShape
    planned = planned_from placed

    code : CodeShape
    code = code_of_emissions placed.labelled placed.hosts (planned_from placed) emissions

    seen : (host : HostId) → Sees (planned_from placed) host pc → IsLabelSeenBy code label host
    seen host sees =
        let P : Option Label → Type 0 = λ found. MaySee found (label_of_host code host) in
        subst P (sym is) (sees_in_code placed emissions host pc sees)

    by : (it : Op) → TellsWell placed.labelled planned (entries_in emissions) me pc it →
        asking.TellsWell code me label (landed me emissions it)
    by (op.Read field index) own = field_seen placed emissions me label field
        (λ tree. Sees planned me tree.label × Sees planned (field_host placed.plan field) pc) own
        (λ tree both. seen (field_host placed.plan field) both.1)
    by (op.Put field index value) own = field_seen placed emissions me label field _ own
        (λ tree both. seen (field_host placed.plan field) both.1)
    by (op.Send x to) own = seen to own.1
    by (op.Pass x to) own = seen to own.1
    by (op.Ask there on) own = seen on own.receiver
    by (op.Go there on) own = seen on own.receiver
    by (op.Call there on) own = λ apart. seen on own.receiver
    by (op.Ret x value) own = tt
    by (op.Let x value) own = tt
    by (op.Frame site) own = tt
    by (op.Arg x value) own = tt
    by (op.Push there) own = tt
    by op.Back own = tt
    by (op.Branch guard target) own = tt
    by (op.GoWith there on riders) own = seen on own.receiver
    by (op.CallWith there on riders) own = seen on own.receiver

-- ---- the laws

told : (placed : PlacedProgram) → IsSplittable placed → IsAllowed placed → IsWellHeld placed →
    let planned = planned_from placed in
    AreTold placed.labelled planned [] (program_emissions placed)
told placed splittable allowed held =
    program_told placed splittable.numbered.main.0 splittable.numbered.main.1
    (program_tells_well placed splittable allowed held)

-- Each request between hosts is granted.
pub split_is_granted : (placed : PlacedProgram) → IsSplittable placed → IsAllowed placed → IsWellHeld placed →
    AreGranted (split_code placed)
split_is_granted placed splittable allowed held me place there is =
    let planned = planned_from placed in
    let emissions = program_emissions placed in
    let code = code_of_emissions placed.labelled placed.hosts planned emissions in
    let typed = split_is_typed placed splittable
    (allowed_typable placed allowed) in
    let made = made_of placed.labelled placed.hosts planned emissions (told placed splittable allowed held) me place
    there is in
    let own = typed.1.instructions me place there is in
    let what_is : landed me emissions made.one.op ≡ there.op = ap (λ (it : Instr). it.op) made.made in
    let P : Op → Type 0 = λ what. IsTypedOp planned typed.0 me place what in
    let Q : Op → Type 0 = λ what. IsGranted code me what in
    subst Q what_is (op_granted placed emissions typed.0
    (record {
      many = splittable.var_labels;
      typed = typed.1;
      known = program_known placed splittable allowed;
    }) me place made.one.label made.one.op made.tells own.0
    (subst P (sym what_is) own.1))

-- No instruction tells another host what it may not see.
pub split_tells_no_more : (placed : PlacedProgram) → IsSplittable placed → IsAllowed placed → IsWellHeld placed →
    TellsNoMore (split_code placed)
split_tells_no_more placed splittable allowed held me place there is =
    let planned = planned_from placed in
    let emissions = program_emissions placed in
    let code = code_of_emissions placed.labelled placed.hosts planned emissions in
    let needed = code_labels placed.labelled emissions in
    let made = made_of placed.labelled placed.hosts planned emissions (told placed splittable allowed held) me place
    there is in
    let label_is : label_at code (label_place 0 made.one.label needed) ≡ Some made.one.label =
    emission_labelled placed.labelled placed.hosts planned emissions made.before (instruction made.one) made.behind
    made.is
    made.one.label (inl refl) in
    let P : Instr → Type 0 = λ it. asking.TellsWell code me it.label it.op in
    subst P made.made (op_tells placed emissions me (label_place 0 made.one.label needed)
    made.one.label label_is made.one.op made.tells)
