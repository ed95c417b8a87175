-- Chains and their holders in small worlds, as they are computed.
use Rattle.std.proofs.Common.{◌≡◌, ◌≢◌, inl, inr, ℕ, List, [], ◌∷◌, Some}
use Rattle.std.proofs.Common.{refl, sym, ap, subst, arith}
use Rattle.js_base.specs.declared.ids.HostId.{HostId}
use Rattle.jif_tree.specs.Altered.{Exposure}
use Rattle.jif_tree.specs.SourceRun.{Configuration}
use Rattle.capability.specs.declared.token.Token.{Token}
use Rattle.ics_stack.specs.declared.stack.StackEntry.{StackEntry}
use Rattle.host_code.specs.Code.{halt}
use Rattle.host_code.specs.Thread.{ThreadShape}
use Rattle.host_core.specs.Start.{main_frame}
use Rattle.event_text.specs.declared.event.Event.TheVariants.{Turn}
use Rattle.msg_cost.specs.Moves.{PlannedShape}
use Rattle.split_rules.specs.TypedCode.{Table}
use Rattle.net_world.specs.World.{WorldShape, has_halted}
use Rattle.token_laws.specs.Holders.{HoldsAt, running_on, IsTokenSent}
use Rattle.token_laws.specs.TokenExamples.{host_id, small, start, first_token, given}
use Rattle.typed_steps.specs.Views.{Split, View}
use Rattle.integrity.specs.Holding.{runs, lost, halted, IsHoldersEvent, AreLinked, IsOutsideBut, IsStanding, IsTight}
use Rattle.integrity.specs.Outside.{Threat}
use Rattle.integrity.specs.Standing.{StandsBy}

pub not_lost : HoldsAt start first_token (running_on (host_id 0)) → (threat : Threat) (last : StackEntry)
    (below : List StackEntry) → last.token ≡ first_token → ¬ IsTight threat (last ∷ below) lost start
not_lost held threat last below same tight =
    tight.has_top first_token (ap (λ (token : Token). Some token) same) (running_on (host_id 0), held)

pub not_outside : (planned : PlannedShape) (table : Table) (exposure : Exposure) →
    ¬ IsOutsideBut (record { planned = planned; code = small; table = table; exposure = exposure }) [] lost start
not_outside planned table exposure outside =
    elim ((outside.states (host_id 0)).entries 0
    (record { token = first_token; entry = halt; frame = main_frame; kept = first_token }) (omega arith)) [
      | inl among ↦ absurd (let never = among.1 in cc)
      | inr may ↦ may.0 refl
    ]

pub sent_falls : IsTokenSent given first_token → (on_stack : StackEntry) → on_stack.token ≡ first_token →
    ¬ IsStanding given on_stack
sent_falls sent on_stack same standing = standing.unsent (subst (IsTokenSent given) (sym same) sent)

pub own_turn : (thread : ThreadShape) → IsHoldersEvent (runs (host_id 0) thread) start (Turn (host_id 0))
own_turn thread = refl

not_both : (n : ℕ) → n ≡ 1 → n ≡ 0 → ⊥
not_both n one none = omega arith

pub other_turn : (thread : ThreadShape) → ¬ IsHoldersEvent (runs (host_id 0) thread) start (Turn (host_id 1))
other_turn thread own = not_both (host_id 1).0 refl (ap (λ (h : HostId). h.0) own)

pub unlinked : (one next : StackEntry) → one.kept ≢ next.token → ¬ AreLinked (one ∷ next ∷ [])
unlinked one next apart linked = apart linked.0

pub halted_denied : (split : Split) (c : Configuration) (view : View) (host : HostId) (thread : ThreadShape)
    (world : WorldShape) → has_halted split.code.root world → ¬ StandsBy split c view (runs host thread) world
halted_denied split c view host thread world has stands =
    let never : runs host thread ≡ halted = stands.halts has in absurd (cc)
