-- What misbehaving hosts may see at the places of code.
use Rattle.std.proofs.Common.{◌≡◌, ◌∙◌, ℕ, true, false, Option, Some, None, refl, ap, sym, subst}
use Rattle.std.specs.Prelude.{not, slice_get, IfSome, IsSomeAnd}
use Rattle.js_base.specs.declared.ids.HostId.{HostId}
use Rattle.js_base.specs.declared.ids.FieldId.{FieldId}
use Rattle.label_lattice.specs.declared.label.Label.{Label}
use Rattle.label_lattice.specs.Label.{ConfFlows}
use Rattle.host_code.specs.declared.code.Entry.{Entry}
use Rattle.host_code.specs.declared.instruction.Instr.{Instr}
use Rattle.host_code.specs.declared.instruction.Op.{Op}
use Rattle.host_code.specs.declared.instruction.Op.TheVariants as op
use Rattle.host_code.specs.Code.{CodeFieldShape, instruction_at, field_at}
use Rattle.entry_check.specs.Checks.{MaySee, label_at, label_of_host}
use Rattle.need_labels.specs.Needs.{label_of}
use Rattle.need_labels.specs.Plan.{field_host}
use Rattle.split_rules.specs.Positions.{Level}
use Rattle.split_shades.specs.Flows.{IsSeenOn}
use Rattle.split_shades.specs.Shades.{EntryShade}
use Rattle.split_shades.specs.ShadedCode.{IsShadedOp}
use Rattle.split_shades.specs.Shading.{IsUnderBlock, IsLevelOf, IsEntryShade}
use Rattle.seen_world.specs.Eyes.{Eyes, AreEyes, sees_at, is_open, is_deep, is_hidden, sees_level, NamesHost}

pub some_is : {X : Type 0} {one other : X} → Some one ≡ Some other → one ≡ other
some_is is = cc

-- ---- labels

seen_on : (eyes : Eyes) → AreEyes eyes → (host : HostId) (label : Label) → IsSeenOn eyes.scene.planned host label →
    eyes.bad host ≡ true → eyes.sees label ≡ true
seen_on eyes are host label sees is = are.host host label is (are.known.hosts host label sees)

level_seen : (eyes : Eyes) (level : Level) (label : Label) → IsLevelOf eyes.shades.entries level label →
    sees_level eyes level ≡ eyes.sees label
level_seen eyes level label is =
    let found : sees_level eyes level ≡ eyes.sees is.0.label = rw is.1 refl in
    found ∙ ap eyes.sees is.2

-- ---- instructions

pub under_seen : (eyes : Eyes) → AreEyes eyes → (guard : Option ℕ) (block pc : Label) → IsUnderBlock guard block pc →
    eyes.sees pc ≡ true → eyes.sees block ≡ true
under_seen eyes are None block pc same seen = ap eyes.sees (sym same) ∙ seen
under_seen eyes are (Some guard) block pc flows seen = are.below block pc flows seen

pub block_seen : (eyes : Eyes) (host : HostId) (place : ℕ) (there : Instr) → AreEyes eyes →
    instruction_at eyes.code host place ≡ Some there → is_open eyes host place ≡ true → is_deep eyes host place ≡ false
block_seen eyes host place there are is seen =
    let here = eyes.shades.at host place in
    ap not (under_seen eyes are here.guard here.block here.pc
    (are.shaded.instructions host place there is).is_shade.under_block seen)

pub block_under : (eyes : Eyes) (host : HostId) (place : ℕ) (there : Instr) → AreEyes eyes →
    instruction_at eyes.code host place ≡ Some there → sees_level eyes (eyes.shades.at host place).level ≡ true →
    is_deep eyes host place ≡ false
block_under eyes host place there are is seen =
    let here = eyes.shades.at host place in
    let below = (are.shaded.instructions host place there is).is_shade.below in
    ap not (are.below here.block below.0 below.2 (sym (level_seen eyes here.level below.0 below.1) ∙ seen))

-- ---- entries and fields

pushed_seen : (eyes : Eyes) → AreEyes eyes → (number : ℕ) (it : EntryShade) →
    slice_get eyes.shades.entries number ≡ Some it → (pushed : Option Label) → it.pushed ≡ pushed →
    IfSome pushed (λ pc. ConfFlows pc it.label) → eyes.sees it.label ≡ true → is_hidden eyes number ≡ false
pushed_seen eyes are number it is None same flows seen = rw (is, same) refl
pushed_seen eyes are number it is (Some pc) same flows seen =
    let found : is_hidden eyes number ≡ not (eyes.sees pc) = rw (is, same) refl in
    found ∙ ap not (are.below pc it.label flows seen)

pub entry_seen : (eyes : Eyes) (number : ℕ) (entry : Entry) (it : EntryShade) → AreEyes eyes →
    slice_get eyes.code.entries number ≡ Some entry → slice_get eyes.shades.entries number ≡ Some it →
    eyes.sees it.label ≡ true →
    (eyes.sees it.block ≡ true) × (sees_level eyes it.level ≡ true) × (is_hidden eyes number ≡ false)
entry_seen eyes number entry it are there is seen =
    let shaded = are.shaded.entries number entry there in
    let same : shaded.it ≡ it = some_is (sym shaded.is ∙ is) in
    let own = subst (λ one. IsEntryShade eyes.scene eyes.shades.entries entry.host one) same shaded.is_shade in
    let level = own.level in
    let level_is : eyes.sees level.0 ≡ true = are.below level.0 it.label level.3 seen in (
      are.below it.block level.0 level.2 level_is,
      level_seen eyes it.level level.0 level.1 ∙ level_is,
      pushed_seen eyes are number it is it.pushed refl own.pushed seen,
    )

pub own_entry : (eyes : Eyes) (number : ℕ) (entry : Entry) (it : EntryShade) → AreEyes eyes →
    slice_get eyes.code.entries number ≡ Some entry → slice_get eyes.shades.entries number ≡ Some it →
    eyes.bad entry.host ≡ true → eyes.sees it.label ≡ true
own_entry eyes number entry it are there is bad =
    let shaded = are.shaded.entries number entry there in
    let same : shaded.it ≡ it = some_is (sym shaded.is ∙ is) in
    ap (λ (one : EntryShade). eyes.sees one.label) (sym same)
    ∙ seen_on eyes are entry.host shaded.it.label shaded.is_shade.seen bad

-- what a misbehaving host is told, it may see
pub label_told : (eyes : Eyes) → AreEyes eyes → (to : HostId) (number : ℕ) →
    MaySee (label_at eyes.code number) (label_of_host eyes.code to) → eyes.bad to ≡ true → sees_at eyes number ≡ true
label_told eyes are to number may bad = by (label_at eyes.code number) refl may
  where
    by : (found : Option Label) → label_at eyes.code number ≡ found → MaySee found (label_of_host eyes.code to) →
        sees_at eyes number ≡ true
    by None is may = absurd may
    by (Some label) is may = rw is (are.host to label bad may)

pub own_field : (eyes : Eyes) (field : FieldId) (there : CodeFieldShape) → AreEyes eyes →
    field_at eyes.code field ≡ Some there → eyes.bad there.host ≡ true → sees_at eyes there.label ≡ true
own_field eyes field there are is bad =
    label_told eyes are there.host there.label (are.known.fields field there is).2 bad

-- ---- who is named

field_on : (eyes : Eyes) → AreEyes eyes → (field : FieldId) (found : Option CodeFieldShape) →
    field_at eyes.code field ≡ found → (on : HostId) → IsSomeAnd found (λ there. there.host ≡ on) →
    field_host eyes.scene.planned.plan field ≡ on
field_on eyes are field None is on named = absurd named
field_on eyes are field (Some there) is on named = sym (are.known.fields field there is).1 ∙ named

-- who is told a label may see it
told_on : (eyes : Eyes) → AreEyes eyes → (to on : HostId) (label : Label) → to ≡ on →
    IsSeenOn eyes.scene.planned to label → eyes.bad on ≡ true → eyes.sees label ≡ true
told_on eyes are to on label same sees bad = seen_on eyes are to label sees (ap eyes.bad same ∙ bad)

named_of : (eyes : Eyes) → AreEyes eyes → (host : HostId) (place : ℕ) (it : Op) →
    IsShadedOp eyes.scene eyes.shades host place it → (on : HostId) → NamesHost eyes.code it on → eyes.bad on ≡ true →
    is_open eyes host place ≡ true
named_of eyes are host place (op.Read field index) law on named bad =
    told_on eyes are (field_host eyes.scene.planned.plan field) on (eyes.shades.at host place).pc
    (field_on eyes are field (field_at eyes.code field) refl on named) law.1.told bad
named_of eyes are host place (op.Put field index value) law on named bad =
    told_on eyes are (field_host eyes.scene.planned.plan field) on (eyes.shades.at host place).pc
    (field_on eyes are field (field_at eyes.code field) refl on named) law.1.2.told bad
named_of eyes are host place (op.Send x to) law on named bad =
    let label : Label = label_of eyes.scene.basis.labelled x in
    are.below (eyes.shades.at host place).pc label law.1.1.2.0 (told_on eyes are to on label named law.1.1.2.1 bad)
named_of eyes are host place (op.Pass x to) law on named bad =
    let label : Label = label_of eyes.scene.basis.labelled x in
    are.below (eyes.shades.at host place).pc label law.1.1.2.0 (told_on eyes are to on label named law.1.1.2.1 bad)
named_of eyes are host place (op.Ask there to) law on named bad =
    told_on eyes are to on (eyes.shades.at host place).pc named law.1.4 bad
named_of eyes are host place (op.Go there to) law on named bad =
    told_on eyes are to on (eyes.shades.at host place).pc named law.4 bad
named_of eyes are host place (op.Call there to) law on named bad =
    told_on eyes are to on (eyes.shades.at host place).pc named law.4 bad
named_of eyes are host place (op.GoWith there to riders) law on named bad =
    told_on eyes are to on (eyes.shades.at host place).pc named law.0.4 bad
named_of eyes are host place (op.CallWith there to riders) law on named bad =
    told_on eyes are to on (eyes.shades.at host place).pc named law.0.4 bad
named_of eyes are host place (op.Let x value) law on named bad = absurd named
named_of eyes are host place (op.Frame site) law on named bad = absurd named
named_of eyes are host place (op.Arg x value) law on named bad = absurd named
named_of eyes are host place (op.Push there) law on named bad = absurd named
named_of eyes are host place (op.Ret x value) law on named bad = absurd named
named_of eyes are host place op.Back law on named bad = absurd named
named_of eyes are host place (op.Branch guard target) law on named bad = absurd named

pub named_open : (eyes : Eyes) (host on : HostId) (place : ℕ) (there : Instr) → AreEyes eyes →
    instruction_at eyes.code host place ≡ Some there → NamesHost eyes.code there.op on → eyes.bad on ≡ true →
    is_open eyes host place ≡ true
named_open eyes host on place there are is named bad =
    named_of eyes are host place there.op (are.shaded.instructions host place there is).law on named bad
