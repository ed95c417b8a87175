-- What the instructions of split code show other hosts these may see.
use Rattle.std.proofs.Common.{◌≡◌, ◌≢◌, ℕ, List, [], ◌∷◌, length, sym, subst, inl, inr, arith}
use Rattle.std.specs.Prelude.{◌<◌, Option, Some, IsSomeAnd, slice_get, unwrap_or}
use Rattle.std.specs.List.{AllByRecursion}
use Rattle.std.proofs.lemmas.Option.{slice_get_cases}
use Rattle.js_base.specs.declared.ids.HostId.{HostId}
use Rattle.js_base.specs.declared.ids.FieldId.{FieldId}
use Rattle.js_base.specs.declared.ids.VarId.{VarId}
use Rattle.label_lattice.specs.declared.label.Label.{Label}
use Rattle.host_code.specs.declared.instruction.Instr.{Instr}
use Rattle.host_code.specs.declared.instruction.Op.{Op}
use Rattle.host_code.specs.declared.instruction.Op.TheVariants as op
use Rattle.host_code.specs.Code.{CodeShape, CodeFieldShape, CodeVariableShape, variable_at, part_of}
use Rattle.host_code.specs.Code.{instruction_at}
use Rattle.host_code.specs.Sound.{IsVariable, IsSoundCode, OperationFits, temporaries_at}
use Rattle.entry_check.specs.Checks.{MaySee, label_of_host}
use Rattle.need_labels.specs.Needs.{label_of}
use Rattle.split_rules.specs.Asking.{TellsWell, TellsNoMore}
use Rattle.split_shades.specs.Flows.{IsSeenOn}
use Rattle.split_shades.specs.Shades.{Shade}
use Rattle.split_shades.specs.Shading.{Scene, Rides}
use Rattle.split_shades.specs.ShadedCode.{Shades, IsShadedOp, IsShadedCode, AreKnownInCode}
use Rattle.part_verify.specs.SoundPart.{IsSeenBy, SeesVariable, ShowsWell, ShowsReading, ShowsSetting, AreShownWell}

module _ (scene : Scene) (code : CodeShape) (shades : Shades)
    (known : AreKnownInCode scene.basis scene.planned code) (me : HostId) where
  -- ---- variables

  variable_seen : (x : VarId) (to : HostId) (there : CodeVariableShape) → variable_at code x ≡ Some there →
      IsSeenOn scene.planned to (label_of scene.basis.labelled x) → IsSeenBy code there.label to
  variable_seen x to there is seen =
      let P : Option Label → Type 0 = λ found. MaySee found (label_of_host code to) in
      subst P (sym (known.variables x there is)) (known.hosts to (label_of scene.basis.labelled x) seen)

  sees_variable : (x : VarId) (to : HostId) → IsVariable code x →
      IsSeenOn scene.planned to (label_of scene.basis.labelled x) → SeesVariable code to x
  sees_variable x to fits seen =
      elim (slice_get_cases code.variables x.0).1 [
        | inl found ↦
            let P : Option CodeVariableShape → Type 0 = λ it. IsSomeAnd it (λ one. IsSeenBy code one.label to) in
            subst P (sym found.2) (variable_seen x to found.0 found.2 seen)
        | inr past ↦ absurd (omega (arith, fits, past.0))
      ]

  sees_riders : (shade : Shade) (to : HostId) (riders : List VarId) → AllByRecursion (IsVariable code) riders →
      Rides scene shade riders to → AllByRecursion (SeesVariable code to) riders
  sees_riders shade to [] fit rides = tt
  sees_riders shade to (rider ∷ riders) fit rides =
      (sees_variable rider to fit.0 rides.0.1, sees_riders shade to riders fit.1 rides.1)

  -- ---- fields

  -- the host of a field may see it
  shows_setting : (label : ℕ) (field : FieldId) → ShowsReading code me label field → ShowsSetting code me label field
  shows_setting label field tells =
      elim (slice_get_cases code.fields field.0).1 [
        | inl found ↦
            let P : Option CodeFieldShape → Type 0 =
            λ it. IsSomeAnd it (λ one. one.host ≢ me → IsSeenBy code label one.host) in
            let Q : Option CodeFieldShape → Type 0 = λ it. IsSomeAnd it (λ one. one.host ≢ me →
            (IsSeenBy code label one.host × IsSeenBy code one.label one.host)) in
            let here : found.0.host ≢ me → IsSeenBy code label found.0.host = subst P found.2 tells in
            subst Q (sym found.2) (λ apart. (here apart, (known.fields field found.0 found.2).2))
        | inr past ↦
            let P : Option CodeFieldShape → Type 0 =
            λ it. IsSomeAnd it (λ one. one.host ≢ me → IsSeenBy code label one.host) in
            absurd (subst P past.1 tells)
      ]

  -- ---- instructions

  op_shows : (label count place : ℕ) (does : Op) → OperationFits code me count does →
      TellsWell code me label does → IsShadedOp scene shades me place does → ShowsWell code me label does
  op_shows label count place (op.Read field index) fits tells law = tells
  op_shows label count place (op.Let variable value) fits tells law = tt
  op_shows label count place (op.Put field index value) fits tells law = shows_setting label field tells
  op_shows label count place (op.Send variable to) fits tells (next, (calls, sends, goes), meets) =
      (tells, sees_variable variable to fits.0 sends.2.1)
  op_shows label count place (op.Frame site) fits tells law = tt
  op_shows label count place (op.Arg variable value) fits tells law = tt
  op_shows label count place (op.Pass variable to) fits tells (next, (calls, sends, goes), meets) =
      (tells, sees_variable variable to fits.0 sends.2.1)
  op_shows label count place (op.Push there) fits tells law = tt
  op_shows label count place (op.Ask there on) fits tells law = tells
  op_shows label count place (op.Go there on) fits tells law = tells
  op_shows label count place (op.Call there on) fits tells law = tells
  op_shows label count place (op.Ret variable value) fits tells law = tt
  op_shows label count place op.Back fits tells law = tt
  op_shows label count place (op.Branch guard target) fits tells law = tt
  op_shows label count place (op.GoWith there on riders) fits tells law =
      (tells, sees_riders (shades.at me place) on riders fits.2.1 law.1)
  op_shows label count place (op.CallWith there on riders) fits tells law =
      (tells, sees_riders (shades.at me place) on riders fits.2.1 law.1)

-- what an instruction of sound code names is there
operation_fits : (code : CodeShape) → IsSoundCode code → (me : HostId) (place : ℕ) (there : Instr) →
    instruction_at code me place ≡ Some there →
    OperationFits code me (temporaries_at code.entries me (part_of code me) place) there.op
operation_fits code sound me place there is =
    elim (slice_get_cases code.parts me.0).1 [
      | inl found ↦
          let within : me.0 < length code.hosts = omega (arith, sound.a_part_each, found.1) in
          ((sound.parts me within).instructions place there is).operation
      | inr past ↦
          let P : Option (List Instr) → Type 0 = λ it. slice_get (unwrap_or it []) place ≡ Some there in
          let none : slice_get [] place ≡ Some there = subst P past.1 is in
          absurd (cc)
    ]

pub shown_well : (scene : Scene) (code : CodeShape) (shades : Shades) (me : HostId) → IsSoundCode code →
    TellsNoMore code → IsShadedCode scene code shades → AreKnownInCode scene.basis scene.planned code →
    AreShownWell code me
shown_well scene code shades me sound tells shaded known place one is =
    op_shows scene code shades known me one.label (temporaries_at code.entries me (part_of code me) place) place one.op
    (operation_fits code sound me place one is) (tells me place one is) (shaded.instructions me place one is).law
