-- What each emission of a walk asks of other hosts and tells them, over labels as they are: of an instruction by
-- itself, and of the entries that were named before it.
use Rattle.std.proofs.Common.{◌≡◌, ◌∙◌, ℕ, suc, ◌<◌, List, [], ◌∷◌, ◌++◌, length, refl, ap, sym, subst, arith}
use Rattle.std.proofs.Common.{append_assoc, append-nil, length-append}
use Rattle.std.specs.Prelude.{Some, slice_get, ⊤}
use Rattle.std.specs.Option.{IsSomeAnd}
use Rattle.js_base.specs.declared.ids.HostId.{HostId}
use Rattle.js_base.specs.declared.ids.FieldId.{FieldId}
use Rattle.js_base.specs.declared.ids.VarId.{VarId}
use Rattle.js_base.specs.declared.ids.EntryId.{EntryId}
use Rattle.label_lattice.specs.declared.label.Label.{Label}
use Rattle.label_lattice.specs.Label.{ConfFlows, IntegFlows}
use Rattle.jif_tree.specs.Trees.{MethodTree}
use Rattle.host_code.specs.declared.instruction.Op.{Op}
use Rattle.host_code.specs.declared.instruction.Op.TheVariants as op
use Rattle.need_labels.specs.Labelled.{Labelled}
use Rattle.need_labels.specs.Plan.{field_host}
use Rattle.msg_cost.specs.Moves.{PlannedShape, home_of}
use Rattle.split_rules.specs.Emissions.{Emission, instruction, entry, stands, lands, NamedEntry, Counts}
use Rattle.split_rules.specs.Emissions.{one_more_branch}
use Rattle.split_rules.specs.Emissions.{counts_with, counts_after}
use Rattle.split_rules.specs.SplitCode.{entries_in}
use Rattle.split_rules.specs.Allowed.{IsTrustedHost}
use Rattle.split_rules.specs.Walk.{need_of, go_with, call_with}
use Rattle.split_rules.proofs.Places.{entries_append}
use Rattle.split_rules.proofs.SoundInstructions.{get_left}
use Rattle.split_rules.proofs.WalkedStates.{counts_more}

-- ---- hosts

-- the host is there, and may see the label
abbrev pub Sees : PlannedShape → HostId → Label → Type 0
Sees planned host label = IsSomeAnd (slice_get planned.hosts.hosts host.0) (λ row. ConfFlows label row.label)

-- the host is there, and who trusts the label trusts it
abbrev pub Affects : PlannedShape → HostId → Label → Type 0
Affects planned host label = IsSomeAnd (slice_get planned.hosts.hosts host.0) (λ row. IntegFlows row.label label)

-- the variable is there, and who trusts its label trusts the host
abbrev pub AffectsVariable : Labelled → PlannedShape → HostId → VarId → Type 0
AffectsVariable labelled planned host x = IsSomeAnd (slice_get labelled.var_labels x.0) (Affects planned host)

-- ---- instructions

-- a host reads a field under a program label
abbrev pub ReadsWell : Labelled → PlannedShape → HostId → Label → FieldId → Type 0
ReadsWell labelled planned host pc field = IsSomeAnd (slice_get labelled.program.fields field.0)
    (λ tree. Sees planned host tree.label × Sees planned (field_host planned.plan field) pc)

-- and sets one
abbrev pub PutsWell : Labelled → PlannedShape → HostId → Label → FieldId → Type 0
PutsWell labelled planned host pc field = IsSomeAnd (slice_get labelled.program.fields field.0)
    (λ tree. Affects planned host tree.label × Sees planned (field_host planned.plan field) pc)

-- A host names an entry of another that stands under its own program label. Both may see that.
pub record HandsWell (planned : PlannedShape) (named : List NamedEntry) (host : HostId) (pc : Label) (there : EntryId)
    (on : HostId) : Type 0 where
  pub no_halt : 0 < there.0
  pub one : NamedEntry
  pub is : slice_get named there.0 ≡ Some one
  pub on_host : one.host ≡ on
  pub label_is : one.label ≡ pc
  pub sender : Sees planned host pc
  pub receiver : Sees planned on pc

-- A host enters a method, whose begin label it may see and whose need it has, on a host that may see its program label.
pub record CallsWell (planned : PlannedShape) (named : List NamedEntry) (host : HostId) (pc : Label) (there : EntryId)
    (on : HostId) : Type 0 where
  pub no_halt : 0 < there.0
  pub one : NamedEntry
  pub is : slice_get named there.0 ≡ Some one
  pub on_host : one.host ≡ on
  pub sender : Sees planned host one.label
  pub trusted : IsTrustedHost planned.hosts one.need host
  pub receiver : Sees planned on pc

abbrev pub TellsWell : Labelled → PlannedShape → List NamedEntry → HostId → Label → Op → Type 0
TellsWell labelled planned named host pc (op.Read field index) = ReadsWell labelled planned host pc field
TellsWell labelled planned named host pc (op.Put field index value) = PutsWell labelled planned host pc field
TellsWell labelled planned named host pc (op.Send x to) =
    AffectsVariable labelled planned host x × Sees planned to pc
TellsWell labelled planned named host pc (op.Pass x to) =
    AffectsVariable labelled planned host x × Sees planned to pc
TellsWell labelled planned named host pc (op.Ask there on) = HandsWell planned named host pc there on
TellsWell labelled planned named host pc (op.Go there on) = HandsWell planned named host pc there on
TellsWell labelled planned named host pc (op.Call there on) = CallsWell planned named host pc there on
TellsWell labelled planned named host pc (op.GoWith there on riders) = HandsWell planned named host pc there on
TellsWell labelled planned named host pc (op.CallWith there on riders) = CallsWell planned named host pc there on
TellsWell labelled planned named host pc (op.Ret x value) = AffectsVariable labelled planned host x
TellsWell labelled planned named host pc other = ⊤

-- whatever rides
pub goes_well : (labelled : Labelled) (planned : PlannedShape) (named : List NamedEntry) (host : HostId) (pc : Label)
    (there : EntryId) (on : HostId) (riders : List VarId) → HandsWell planned named host pc there on →
    TellsWell labelled planned named host pc (go_with riders there on)
goes_well labelled planned named host pc there on [] well = well
goes_well labelled planned named host pc there on (x ∷ riders) well = well

pub calls_well : (labelled : Labelled) (planned : PlannedShape) (named : List NamedEntry) (host : HostId) (pc : Label)
    (there : EntryId) (on : HostId) (riders : List VarId) → CallsWell planned named host pc there on →
    TellsWell labelled planned named host pc (call_with riders there on)
calls_well labelled planned named host pc there on [] well = well
calls_well labelled planned named host pc there on (x ∷ riders) well = well

-- ---- emissions, behind those that named these entries

abbrev pub AreTold : Labelled → PlannedShape → List NamedEntry → List Emission → Type 0
AreTold labelled planned named [] = ⊤
AreTold labelled planned named (instruction one ∷ others) =
    TellsWell labelled planned named one.host one.label one.op × AreTold labelled planned named others
AreTold labelled planned named (entry one ∷ others) = AreTold labelled planned (named ++ one ∷ []) others
AreTold labelled planned named (stands host number ∷ others) = AreTold labelled planned named others
AreTold labelled planned named (lands host number ∷ others) = AreTold labelled planned named others

pub told_on : (labelled : Labelled) (planned : PlannedShape) (named : List NamedEntry) (xs ys : List Emission) →
    AreTold labelled planned named xs → AreTold labelled planned (named ++ entries_in xs) ys →
    AreTold labelled planned named (xs ++ ys)
told_on labelled planned named [] ys first second =
    let P : List NamedEntry → Type 0 = λ list. AreTold labelled planned list ys in
    subst P (append-nil named) second
told_on labelled planned named (instruction one ∷ xs) ys first second =
    (first.0, told_on labelled planned named xs ys first.1 second)
told_on labelled planned named (entry one ∷ xs) ys first second =
    let P : List NamedEntry → Type 0 = λ list. AreTold labelled planned list ys in
    told_on labelled planned (named ++ one ∷ []) xs ys first
    (subst P (sym (append_assoc named (one ∷ []) (entries_in xs))) second)
told_on labelled planned named (stands host number ∷ xs) ys first second =
    told_on labelled planned named xs ys first second
told_on labelled planned named (lands host number ∷ xs) ys first second =
    told_on labelled planned named xs ys first second

-- emissions that name no entry
pub record IsQuiet (labelled : Labelled) (planned : PlannedShape) (named : List NamedEntry)
    (xs : List Emission) : Type 0 where
  pub told : AreTold labelled planned named xs
  pub none : entries_in xs ≡ []

pub quiet_then : (labelled : Labelled) (planned : PlannedShape) (named : List NamedEntry) (xs ys : List Emission) →
    IsQuiet labelled planned named xs → AreTold labelled planned named ys → AreTold labelled planned named (xs ++ ys)
quiet_then labelled planned named xs ys quiet told =
    let P : List NamedEntry → Type 0 = λ list. AreTold labelled planned (named ++ list) ys in
    let Q : List NamedEntry → Type 0 = λ list. AreTold labelled planned list ys in
    told_on labelled planned named xs ys quiet.told (subst P (sym quiet.none) (subst Q (sym (append-nil named)) told))

pub quiet_on : (labelled : Labelled) (planned : PlannedShape) (named : List NamedEntry) (xs ys : List Emission) →
    IsQuiet labelled planned named xs → IsQuiet labelled planned named ys →
    IsQuiet labelled planned named (xs ++ ys)
quiet_on labelled planned named xs ys one two = record {
  told = quiet_then labelled planned named xs ys one two.told;
  none = entries_append xs ys ∙ ap (λ list. list ++ entries_in ys) one.none ∙ two.none;
}

-- ---- counts

-- so many entries are named
abbrev pub IsCounted : Counts → List NamedEntry → Type 0
IsCounted counts named = counts.entries ≡ length named

pub no_entry : (what : Op) (counts : Counts) → (one_more_branch what counts).entries ≡ counts.entries
no_entry (op.Branch guard number) counts = refl
no_entry other counts = refl

pub counted_after : (counts : Counts) (named : List NamedEntry) (xs : List Emission) → IsCounted counts named →
    IsCounted (counts_after counts xs) (named ++ entries_in xs)
counted_after counts named [] counted = counted ∙ ap length (sym (append-nil named))
counted_after counts named (instruction one ∷ xs) counted =
    counted_after (one_more_branch one.op counts) named xs (no_entry one.op counts ∙ counted)
counted_after counts named (entry one ∷ xs) counted =
    let longer : suc counts.entries ≡ length (named ++ one ∷ []) = rw length-append (omega (arith, counted)) in
    counted_after (counts_with counts (entry one)) (named ++ one ∷ []) xs longer
    ∙ ap length (append_assoc named (one ∷ []) (entries_in xs))
counted_after counts named (stands host number ∷ xs) counted = counted_after counts named xs counted
counted_after counts named (lands host number ∷ xs) counted = counted_after counts named xs counted

pub counted_two : (counts : Counts) (named : List NamedEntry) (xs ys : List Emission) → IsCounted counts named →
    IsCounted (counts_after counts (xs ++ ys)) ((named ++ entries_in xs) ++ entries_in ys)
counted_two counts named xs ys counted =
    ap (λ it. it.entries) (counts_more counts xs ys)
    ∙ counted_after (counts_after counts xs) (named ++ entries_in xs) ys (counted_after counts named xs counted)

-- ---- the entries of methods

abbrev pub entry_of : PlannedShape → MethodTree → NamedEntry
entry_of planned method =
    record { host = home_of planned method; label = method.begin; need = need_of planned (method.head ∷ []) }

-- the entry that ends the program and those of the methods are named
pub record IsBegun (labelled : Labelled) (planned : PlannedShape) (named : List NamedEntry) : Type 0 where
  pub some : 0 < length named
  pub methods : (place : ℕ) (tree : MethodTree) → slice_get labelled.program.methods place ≡ Some tree →
      slice_get named (suc place) ≡ Some (entry_of planned tree)

pub begun_more : (labelled : Labelled) (planned : PlannedShape) (named more : List NamedEntry) →
    IsBegun labelled planned named → IsBegun labelled planned (named ++ more)
begun_more labelled planned named more begun = record {
  some = let some = begun.some in let long = length-append named more in omega arith;
  methods = λ place tree there. get_left named more (suc place) (entry_of planned tree)
      (begun.methods place tree there);
}
