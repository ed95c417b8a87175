-- Chains whose first token may be anywhere: what is below the first entry, and who has no token of it.
use Rattle.std.proofs.Common.{◌≡◌, ℕ, suc, List, [], ◌∷◌, refl, sym, subst}
use Rattle.std.specs.Prelude.{IsSome}
use Rattle.std.specs.List.{AllByRecursion}
use Rattle.js_base.specs.declared.ids.HostId.{HostId}
use Rattle.capability.specs.declared.token.Token.{Token}
use Rattle.ics_stack.specs.declared.stack.StackEntry.{StackEntry}
use Rattle.net_world.specs.World.{WorldShape, state_at}
use Rattle.token_laws.specs.Holders.{TokenPlace, kept_on, HoldsAt, IsTokenSent}
use Rattle.token_laws.proofs.HeldLaws.{held_once}
use Rattle.integrity.specs.Holding.{IsAmong, AreLinked, IsStanding}
use Rattle.integrity.specs.Loose.{AreUnsentBelow}
use Rattle.integrity.specs.Outside.{Threat}
use Rattle.integrity.proofs.Among.{all_among, each_among, one_of_some}
use Rattle.integrity.proofs.HeldTokens.{StandsThere, later_held}
use Rattle.integrity.proofs.OutsideEvents.{IsNone}
use Rattle.integrity.proofs.TightKept.{IsLawful, tokens_known}

abbrev pub below_first : List StackEntry → List StackEntry
below_first [] = []
below_first (first ∷ below) = below

pub among_below : (chain : List StackEntry) (e : StackEntry) → IsAmong (below_first chain) e → IsAmong chain e
among_below [] e among = among
among_below (first ∷ below) e among = (suc among.0, among.1)

-- a chain that stands was sent to nobody
pub unsent_below : (world : WorldShape) (chain : List StackEntry) → AllByRecursion (IsStanding world) chain →
    AreUnsentBelow world chain
unsent_below world [] standing = tt
unsent_below world (first ∷ below) standing =
    all_among (λ e. ¬ IsTokenSent world e.token) below
    (λ e among. (each_among (IsStanding world) below e standing.1 among).unsent)

pub unsent_each : (world : WorldShape) (chain : List StackEntry) → AreUnsentBelow world chain → (e : StackEntry) →
    IsAmong (below_first chain) e → ¬ IsTokenSent world e.token
unsent_each world [] unsent e among = absurd (cc)
unsent_each world (first ∷ below) unsent e among = each_among (λ x. ¬ IsTokenSent world x.token) below e unsent among

-- an entry below the first has its token kept with the one above it
pub kept_below : (world : WorldShape) (chain : List StackEntry) → AreLinked chain →
    ((e : StackEntry) → IsAmong chain e → StandsThere world e) → (e : StackEntry) → IsAmong (below_first chain) e →
    (host : HostId) × (at : ℕ) × HoldsAt world e.token (kept_on host at)
kept_below world [] linked there e among = absurd (cc)
kept_below world (first ∷ below) linked there e among =
    later_held world first below among.0 e linked (all_among (StandsThere world) (first ∷ below) there) among.1

-- so a token that is held elsewhere is that of none of these
pub none_below : (threat : Threat) (world : WorldShape) → IsLawful threat world → (chain : List StackEntry) →
    AreLinked chain → ((e : StackEntry) → IsAmong chain e → StandsThere world e) → AreUnsentBelow world chain →
    (token : Token) (place : TokenPlace) → ((host : HostId) (at : ℕ) → place ≡ kept_on host at → ⊥) →
    HoldsAt world token place → IsNone (below_first chain) token
none_below threat world is chain linked there unsent token place apart held e among same =
    let kept = kept_below world chain linked there e among in
    let at =
    one_of_some (state_at world e.token.host) (λ state. IsAmong state.entries e)
    (there e (among_below chain e among)) in
    let one =
    held_once threat.code world e.token (kept_on kept.0 kept.1) place (tokens_known threat world is)
    (subst (λ o. IsSome o) (sym at.is) refl) (unsent_each world chain unsent e among) kept.2
    (subst (λ k. HoldsAt world k place) (sym same) held) in
    apart kept.0 kept.1 (sym one)
