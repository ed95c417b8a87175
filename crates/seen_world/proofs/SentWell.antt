-- The token in what a turn sends may be held where it comes to.
use Rattle.std.proofs.Common.{◌≡◌, ◌∙◌, Some, None, inl, inr, refl, ap, sym}
use Rattle.std.proofs.Common.{subst}
use Rattle.std.specs.Prelude.{IfSome}
use Rattle.js_base.specs.declared.ids.EntryId.{EntryId}
use Rattle.capability.specs.declared.token.Token.{Token}
use Rattle.host_code.specs.declared.instruction.Op.{Op}
use Rattle.host_code.specs.declared.instruction.Op.TheVariants as op
use Rattle.host_code.specs.Thread.{ThreadShape}
use Rattle.host_core.specs.Host.{HostState, Outcome, with_running}
use Rattle.host_core.specs.Turn.{IsTurn}
use Rattle.split_shades.specs.ShadedCode.{IsShadedOp}
use Rattle.split_shades.specs.Shades.{Shade}
use Rattle.split_shades.specs.Shading.{IsUnderBlock, NamesInShade, HandsOn, EntersInShade}
use Rattle.seen_world.specs.Eyes.{Eyes, AreEyes}
use Rattle.seen_world.specs.Points.{IsTokenOf, MayHoldToken, MayEnterWith, RunsWell, IsInstructionAt, FliesWell}
use Rattle.seen_world.proofs.Sendings.{EachSending, turn_sends}
use Rattle.seen_world.proofs.TurnsKept.{block_shown, named_host}

-- ---- tokens

kept_with : (eyes : Eyes) (here : Shade) (entry : EntryId) (token : Token) →
    (names : NamesInShade eyes.shades.entries here entry.0) → MayHoldToken eyes here token →
    MayEnterWith eyes entry token
kept_with eyes here entry token names holds = record {
  shade = names.it;
  is = names.is;
  level = subst (λ level. IsTokenOf eyes level token) (sym names.level) holds.0;
  shown = λ seen. holds.1 (ap eyes.sees (sym names.block) ∙ seen);
}

handed_on : (eyes : Eyes) (here : Shade) (entry : EntryId) (token : Token) →
    HandsOn eyes.shades.entries here entry.0 → MayHoldToken eyes here token → MayEnterWith eyes entry token
handed_on eyes here entry token hands holds = record {
  shade = hands.it;
  is = hands.is;
  level = subst (λ level. IsTokenOf eyes level token) (sym hands.level) holds.0;
  shown = λ seen. holds.1 (ap eyes.sees (sym hands.block) ∙ seen);
}

entered_with : (eyes : Eyes) → AreEyes eyes → (here : Shade) (entry : EntryId) (token : Token) →
    EntersInShade eyes.shades.entries here entry.0 → MayHoldToken eyes here token → MayEnterWith eyes entry token
entered_with eyes are here entry token enters holds = record {
  shade = enters.it;
  is = enters.is;
  level = subst (λ level. IsTokenOf eyes level token) (enters.is_level ∙ sym enters.level) holds.0;
  shown = λ seen. holds.1 (are.below here.block enters.it.block enters.below seen);
}

-- ---- messages

operation_carried : (eyes : Eyes) → AreEyes eyes → (host : HostState) (thread : ThreadShape) (it : Op) →
    IsUnderBlock (eyes.shades.at host.me thread.at).guard (eyes.shades.at host.me thread.at).block
    (eyes.shades.at host.me thread.at).pc → IsShadedOp eyes.scene eyes.shades host.me thread.at it →
    IsInstructionAt eyes host.me thread.at it →
    EachSending (FliesWell eyes host.me) (MayHoldToken eyes (eyes.shades.at host.me thread.at)) eyes.code host thread it
unfolding kept_with
operation_carried eyes are host thread (op.Read field index) below law at =
    λ there is apart. ((index, at, named_host eyes field there is), tt)
operation_carried eyes are host thread (op.Let x value) below law at = tt
operation_carried eyes are host thread (op.Put field index value) below law at =
    λ there is apart. ((index, value, at, named_host eyes field there is), tt)
operation_carried eyes are host thread (op.Send x on) below law at = (inl at, tt)
operation_carried eyes are host thread (op.Frame site) below law at = tt
operation_carried eyes are host thread (op.Arg x value) below law at = tt
operation_carried eyes are host thread (op.Pass x on) below law at = (inr (inl at), tt)
operation_carried eyes are host thread (op.Push entry) below law at = tt
operation_carried eyes are host thread (op.Ask entry on) below law at =
    let here = eyes.shades.at host.me thread.at in
    λ token holds. (
      at,
      (kept_with eyes here entry token law.1.3.0 holds, block_shown eyes are here entry.0 below law.1.3.0),
    )
operation_carried eyes are host thread (op.Go entry on) below law at =
    λ token holds. (tt, handed_on eyes (eyes.shades.at host.me thread.at) entry token law.3 holds)
operation_carried eyes are host thread (op.Call entry on) below law at =
    λ apart token holds. (tt, entered_with eyes are (eyes.shades.at host.me thread.at) entry token law.3 holds)
operation_carried eyes are host thread (op.GoWith entry on riders) below law at =
    λ token holds. (tt, handed_on eyes (eyes.shades.at host.me thread.at) entry token law.0.3 holds)
operation_carried eyes are host thread (op.CallWith entry on riders) below law at =
    λ token holds. (tt, entered_with eyes are (eyes.shades.at host.me thread.at) entry token law.0.3 holds)
operation_carried eyes are host thread (op.Ret x value) below law at = λ token holds. (inr (inr (value, at)), tt)
operation_carried eyes are host thread op.Back below law at = λ token holds. (tt, tt)
operation_carried eyes are host thread (op.Branch guard target) below law at = tt

pub turn_carries : (eyes : Eyes) (state : HostState) (thread : ThreadShape) (outcome : Outcome) → AreEyes eyes →
    state.running ≡ Some thread → RunsWell eyes state.me thread → IsTurn eyes.code state outcome →
    IfSome outcome.sent (λ sent. FliesWell eyes state.me sent.0 sent.1)
turn_carries eyes state thread outcome are is well turns =
    turn_sends (FliesWell eyes state.me) (MayHoldToken eyes (eyes.shades.at state.me thread.at)) eyes.code state thread
    outcome is turns well.holds
    (λ there found. let shaded = are.shaded.instructions state.me thread.at there found in
    operation_carried eyes are (with_running state None) thread there.op shaded.is_shade.under_block shaded.law
    (there, found, refl))
