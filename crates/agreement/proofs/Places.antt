-- Places that may not be seen, and what is owed there.
use Rattle.std.proofs.Common.{◌≡◌, ◌≢◌, ◌∙◌, ℕ, zero, suc, ◌<◌, Bool, true, false, List, [], ◌∷◌, length, arith, Option}
use Rattle.std.proofs.Common.{Some, None, inl, inr, refl, ap, sym, subst}
use Rattle.std.specs.Prelude.{◌==◌, ◌&&◌, if◌then◌else◌, not, ℤ, IfSome, slice_get}
use Rattle.std.proofs.lemmas.Bool.{cases_Bool, false≢true}
use Rattle.std.proofs.lemmas.Bool.Decides.{eqb_tells}
use Rattle.std.proofs.lemmas.Option.{slice_get_cases}
use Rattle.js_base.specs.declared.ids.HostId.{HostId}
use Rattle.js_base.specs.declared.ids.FieldId.{FieldId}
use Rattle.js_base.specs.declared.ids.FrameId.{FrameId}
use Rattle.js_base.specs.declared.ids.VarId.{VarId}
use Rattle.label_lattice.specs.declared.label.Label.{Label}
use Rattle.label_lattice.specs.Label.{ConfFlows}
use Rattle.capability.specs.declared.token.Token.{Token}
use Rattle.jif_tree.specs.LabelRules.{field_label}
use Rattle.jif_tree.specs.Store.{row_of, store_after_write}
use Rattle.host_code.specs.declared.code.Entry.{Entry}
use Rattle.host_code.specs.declared.instruction.Instr.{Instr}
use Rattle.host_code.specs.Code.{CodeFieldShape, CodeVariableShape, part_of, instruction_at, field_at, variable_at}
use Rattle.host_stores.specs.Stores.{is_same_variable, with_variable}
use Rattle.need_labels.specs.Needs.{label_of}
use Rattle.net_world.proofs.Rows.{row_kept}
use Rattle.split_shades.specs.Shades.{Shade, EntryShade, Begun, Ahead, MeetsShade, ahead_of}
use Rattle.split_shades.specs.Shading.{IsUnderBlock}
use Rattle.token_laws.proofs.Tests.{parts_same, number_same}
use Rattle.seen_world.specs.Eyes.{Eyes, AreEyes, sees_at, is_open, is_deep}
use Rattle.seen_world.proofs.SeenPlaces.{block_seen}
use Rattle.agreement.specs.Leads.{HiddenEntry, Owes}
use Rattle.agreement.specs.Views.{OwedInView, at, goes_on, gives, owed_at, exit_of, sees_field, sees_variable}
use Rattle.agreement.proofs.Exits.{exit_guard}
use Rattle.agreement.proofs.Lists.{not_left}
use Rattle.agreement.proofs.ViewLaws.{deep_owes}

-- ---- places of code

pub instruction_within : (eyes : Eyes) (host : HostId) (place : ℕ) → place < length (part_of eyes.code host) →
    (there : Instr) × (instruction_at eyes.code host place ≡ Some there)
instruction_within eyes host place within = elim (slice_get_cases (part_of eyes.code host) place).1 [
  | inl there ↦ (there.0, there.2)
  | inr past ↦ absurd (omega (arith, past.0))
]

-- outside of guards an instruction that may not be seen is in a block that may not be seen
pub deep_of : (eyes : Eyes) → AreEyes eyes → (host : HostId) (place : ℕ) (there : Instr) →
    instruction_at eyes.code host place ≡ Some there → (eyes.shades.at host place).guard ≡ None →
    is_open eyes host place ≡ false → is_deep eyes host place ≡ true
deep_of eyes are host place there is unguarded hidden =
    let here = eyes.shades.at host place in
    let P : Option ℕ → Type 0 = λ guard. IsUnderBlock guard here.block here.pc in
    let same : here.pc ≡ here.block =
    subst P unguarded (are.shaded.instructions host place there is).is_shade.under_block in
    ap not (ap eyes.sees (sym same) ∙ hidden)

pub deep_hidden : (eyes : Eyes) → AreEyes eyes → (host : HostId) (place : ℕ) →
    place < length (part_of eyes.code host) → is_deep eyes host place ≡ true → is_open eyes host place ≡ false
deep_hidden eyes are host place within deep = elim (cases_Bool (is_open eyes host place)) [
  | inl seen ↦
      let there = instruction_within eyes host place within in
      absurd (false≢true (sym (block_seen eyes host place there.0 are there.1 seen) ∙ deep))
  | inr hidden ↦ hidden
]

-- a block is as that of another place
pub deep_as : (eyes : Eyes) (block : Label) (host : HostId) (place : ℕ) → (eyes.shades.at host place).block ≡ block →
    eyes.sees block ≡ false → is_deep eyes host place ≡ true
deep_as eyes block host place same hidden = ap not (ap eyes.sees same ∙ hidden)

pub block_hidden : (eyes : Eyes) (host : HostId) (place : ℕ) → is_deep eyes host place ≡ true →
    eyes.sees (eyes.shades.at host place).block ≡ false
block_hidden eyes host place deep = not_left (eyes.sees (eyes.shades.at host place).block) deep

-- what a label that may not be seen flows to may not be seen
pub flow_hidden : (eyes : Eyes) → AreEyes eyes → (lower upper : Label) → ConfFlows lower upper →
    eyes.sees lower ≡ false → eyes.sees upper ≡ false
flow_hidden eyes are lower upper flows hidden = elim (cases_Bool (eyes.sees upper)) [
  | inl seen ↦ absurd (false≢true (sym hidden ∙ are.below lower upper flows seen))
  | inr unseen ↦ unseen
]

-- where a statement goes on that has begun, its program label and the loop of its guard are the same
pub begun_same : (ahead : Ahead) (shade : Shade) (pc : Label) (guard : Option ℕ) → MeetsShade ahead shade →
    ahead.begun ≡ Some (record { pc = pc; guard = guard }) → (shade.pc ≡ pc) × (shade.guard ≡ guard)
begun_same ahead shade pc guard meets begun =
    let P : Option Begun → Type 0 = λ found. IfSome found (λ it. it ≡ record { pc = shade.pc; guard = shade.guard }) in
    let is = subst P begun meets.begun in
    (ap (λ (it : Begun). it.pc) (sym is), ap (λ (it : Begun). it.guard) (sym is))

-- the place of an entry
pub stands_at : (eyes : Eyes) → AreEyes eyes → (number : ℕ) (entry : Entry) (it : EntryShade) → number ≢ 0 →
    slice_get eyes.code.entries number ≡ Some entry → slice_get eyes.shades.entries number ≡ Some it →
    MeetsShade (ahead_of it) (eyes.shades.at entry.host entry.at)
stands_at eyes are zero entry it apart there is = absurd (apart refl)
stands_at eyes are (suc number) entry it apart there is = are.shaded.stands number entry it there is

-- ---- what is owed

pub owes_moved : (eyes : Eyes) (links : List HiddenEntry) (owed : OwedInView) (host other : HostId) (place next : ℕ)
    (frame later : FrameId) (token : Token) → (is_deep eyes host place ≡ true → is_deep eyes other next ≡ true) →
    owed_at eyes (at host place frame token) ≡ owed_at eyes (at other next later token) →
    Owes eyes (at host place frame token) links owed → Owes eyes (at other next later token) links owed
owes_moved eyes [] owed host other place next frame later token deep same owes = sym same ∙ owes
owes_moved eyes (link ∷ links) owed host other place next frame later token deep same owes =
    (deep owes.0, owes.1, owes.2)

-- it goes on in blocks that may not be seen
pub deep_moved : (eyes : Eyes) (links : List HiddenEntry) (owed : OwedInView) (host other : HostId) (place next : ℕ)
    (frame later : FrameId) (token : Token) → is_deep eyes host place ≡ true → is_deep eyes other next ≡ true →
    Owes eyes (at host place frame token) links owed → Owes eyes (at other next later token) links owed
deep_moved eyes links owed host other place next frame later token deep deep_next owes =
    owes_moved eyes links owed host other place next frame later token (λ is. deep_next)
    (deep_owes eyes host other place next frame later token deep deep_next) owes

owed_same : (eyes : Eyes) (host : HostId) (place next : ℕ) (frame : FrameId) (token : Token) →
    is_deep eyes host next ≡ is_deep eyes host place → exit_of eyes host next ≡ exit_of eyes host place →
    owed_at eyes (at host place frame token) ≡ owed_at eyes (at host next frame token)
owed_same eyes host place next frame token deep exit =
    ap (λ (b : Bool). if b then gives token else goes_on host (exit_of eyes host place) frame token) (sym deep)
    ∙ ap (λ (n : ℕ). if is_deep eyes host next then gives token else goes_on host n frame token) (sym exit)

-- it goes on in the same block, and comes into the open at the same place
pub exit_moved : (eyes : Eyes) (links : List HiddenEntry) (owed : OwedInView) (host : HostId) (place next : ℕ)
    (frame : FrameId)
    (token : Token) → (eyes.shades.at host next).block ≡ (eyes.shades.at host place).block →
    exit_of eyes host next ≡ exit_of eyes host place → Owes eyes (at host place frame token) links owed →
    Owes eyes (at host next frame token) links owed
exit_moved eyes links owed host place next frame token block exit owes =
    let deep : is_deep eyes host next ≡ is_deep eyes host place = ap (λ (l : Label). not (eyes.sees l)) block in
    owes_moved eyes links owed host host place next frame frame token (λ is. deep ∙ is)
    (owed_same eyes host place next frame token deep exit) owes

-- it goes on in the same block, with the same program label, and in the guard of the same loop if in one
pub begun_moved : (eyes : Eyes) → AreEyes eyes →
    (links : List HiddenEntry) (owed : OwedInView) (host : HostId) (place next : ℕ)
    (frame : FrameId) (token : Token) (there other : Instr) → instruction_at eyes.code host place ≡ Some there →
    instruction_at eyes.code host next ≡ Some other → is_open eyes host place ≡ false →
    (eyes.shades.at host next).block ≡ (eyes.shades.at host place).block →
    (eyes.shades.at host next).pc ≡ (eyes.shades.at host place).pc →
    (eyes.shades.at host next).guard ≡ (eyes.shades.at host place).guard →
    Owes eyes (at host place frame token) links owed → Owes eyes (at host next frame token) links owed
begun_moved eyes are links owed host place next frame token there other is is_next hidden block pc guard owes =
    by (eyes.shades.at host place).guard refl
  where
    by : (loop : Option ℕ) → (eyes.shades.at host place).guard ≡ loop → Owes eyes (at host next frame token) links owed
    by None none =
        let deep : is_deep eyes host place ≡ true = deep_of eyes are host place there is none hidden in
        deep_moved eyes links owed host host place next frame frame token deep
        (deep_as eyes (eyes.shades.at host place).block host next block (block_hidden eyes host place deep)) owes
    by (Some loop) at_loop =
        exit_moved eyes links owed host place next frame token block
        (exit_guard eyes host next loop other are is_next (ap eyes.sees pc ∙ hidden) (guard ∙ at_loop)
        ∙ sym (exit_guard eyes host place loop there are is hidden at_loop)) owes

-- ---- what is set

-- a variable to which a label flows that may not be seen
pub variable_unseen : (eyes : Eyes) → AreEyes eyes → (x : VarId) (pc : Label) →
    ConfFlows pc (label_of eyes.scene.basis.labelled x) → eyes.sees pc ≡ false → sees_variable eyes x ≡ false
variable_unseen eyes are x pc flows hidden = by (variable_at eyes.code x) refl
  where
    by : (found : Option CodeVariableShape) → variable_at eyes.code x ≡ found → sees_variable eyes x ≡ false
    by None is = rw is refl
    by (Some there) is =
        let same : sees_variable eyes x ≡ sees_at eyes there.label = rw is refl in
        let label : sees_at eyes there.label ≡ eyes.sees (label_of eyes.scene.basis.labelled x) =
        rw (are.known.variables x there is) refl in
        same ∙ label ∙ flow_hidden eyes are pc (label_of eyes.scene.basis.labelled x) flows hidden

pub field_unseen : (eyes : Eyes) → AreEyes eyes → (field : FieldId) (pc : Label) →
    ConfFlows pc (field_label eyes.scene.basis.labelled.program field) → eyes.sees pc ≡ false →
    sees_field eyes field ≡ false
field_unseen eyes are field pc flows hidden = by (field_at eyes.code field) refl
  where
    by : (found : Option CodeFieldShape) → field_at eyes.code field ≡ found → sees_field eyes field ≡ false
    by None is = rw is refl
    by (Some there) is =
        let same : sees_field eyes field ≡ sees_at eyes there.label = rw is refl in
        let label : sees_at eyes there.label ≡ eyes.sees (field_label eyes.scene.basis.labelled.program field) =
        rw (are.known.fields field there is).0 refl in
        same ∙ label ∙ flow_hidden eyes are pc (field_label eyes.scene.basis.labelled.program field) flows hidden

pub variable_stays : (eyes : Eyes) (variables : FrameId → VarId → ℤ) (frame other : FrameId) (x y : VarId)
    (value : ℤ) → sees_variable eyes x ≡ false → sees_variable eyes y ≡ true →
    with_variable variables frame x value other y ≡ variables other y
variable_stays eyes variables frame other x y value hidden seen = by (is_same_variable frame x other y) refl
  where
    by : (b : Bool) → is_same_variable frame x other y ≡ b →
        (if b then value else variables other y) ≡ variables other y
    by true same =
        let make : ℕ → VarId = λ n. record { 0 = n } in
        let one : x ≡ y =
        ap make (number_same x.0 y.0
        (parts_same (frame.site.0 == other.site.0 && frame.count == other.count) (x.0 == y.0) same).1) in
        absurd (false≢true (sym hidden ∙ ap (sees_variable eyes) one ∙ seen))
    by false same = refl

pub row_stays : (eyes : Eyes) (rows : List (List ℤ)) (field other : FieldId) (index value : ℤ) →
    sees_field eyes field ≡ false → sees_field eyes other ≡ true →
    row_of (store_after_write rows field.0 index value) other.0 ≡ row_of rows other.0
row_stays eyes rows field other index value hidden seen = elim (eqb_tells other.0 field.0) [
  | inl same ↦
      let make : ℕ → FieldId = λ n. record { 0 = n } in
      let one : other ≡ field = ap make same.1 in
      absurd (false≢true (sym hidden ∙ ap (sees_field eyes) (sym one) ∙ seen))
  | inr apart ↦ row_kept rows field.0 index value other.0 apart.1
]
