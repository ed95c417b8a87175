-- A loose chain after an event that does not take its first entry off: it is loose still, and the world stands for the
-- same configuration.
use Rattle.std.proofs.Common.{◌≡◌, ◌∙◌, zero, suc, List, [], ◌∷◌, Some, refl, sym, ap, subst}
use Rattle.std.specs.Prelude.{IsSome}
use Rattle.jif_tree.specs.SourceRun.{Configuration}
use Rattle.capability.specs.declared.token.Token.{Token}
use Rattle.ics_stack.specs.declared.stack.StackEntry.{StackEntry}
use Rattle.ics_stack.specs.Stack.{top_token}
use Rattle.net_world.specs.Fits.{ShapeFits}
use Rattle.net_world.specs.World.{WorldShape, state_at}
use Rattle.token_laws.specs.Holders.{IsTokenSent, kept_on}
use Rattle.token_laws.proofs.EachFlight.{states_after}
use Rattle.token_laws.proofs.HeldLaws.{own_before}
use Rattle.token_laws.proofs.WorldTokens.{Accounts}
use Rattle.typed_steps.specs.Views.{Split, View, entries_of}
use Rattle.typed_steps.proofs.HeldSteps.{holds_kept}
use Rattle.integrity.specs.Holding.{IsAmong, lost, StateIsOutside, IsStanding}
use Rattle.integrity.specs.Loose.{AreUnsentBelow, IsLoose, StandsLoosely}
use Rattle.integrity.specs.Outside.{Threat}
use Rattle.integrity.specs.Standing.{threat_in, StandsBy}
use Rattle.integrity.proofs.Among.{all_among, each_among, one_of_some}
use Rattle.integrity.proofs.HeldTokens.{StandsThere, with_entry, still_unsent}
use Rattle.integrity.proofs.HolderStays.{stands_after}
use Rattle.integrity.proofs.LooseChains.{below_first, among_below, unsent_below, unsent_each, kept_below}
use Rattle.integrity.proofs.OutsideEvents.{AreSafe, IsNone, Leaves}
use Rattle.integrity.proofs.StandsOn.{halted_before}
use Rattle.integrity.proofs.TightKept.{IsLawful, tokens_known}

-- ---- a token that is lost

pub lost_is_loose : (split : Split) (c : Configuration) (view : View) (world : WorldShape) →
    StandsBy split c view lost world → StandsLoosely split c view world
lost_is_loose split c view world stands = record {
  loose = record {
    linked = stands.tight.linked;
    there = all_among (StandsThere world) (entries_of view.chain) (λ e among.
        (each_among (IsStanding world) (entries_of view.chain) e stands.tight.standing among).there);
    unsent = unsent_below world (entries_of view.chain) stands.tight.standing;
    outside = stands.tight.outside;
  };
  chain = stands.does.0;
  holds = stands.holds;
  gives_up = stands.does.1;
  goes_on = λ has. let same = stands.halts has in absurd (cc);
}

-- ---- who has the tokens of a loose chain

pub there_each : (threat : Threat) (chain : List StackEntry) (world : WorldShape) → IsLoose threat chain world →
    (e : StackEntry) → IsAmong chain e → StandsThere world e
there_each threat chain world loose e among = each_among (StandsThere world) chain e loose.there among

-- that of an entry below the first is kept with the one above it
pub safe_below : (threat : Threat) (chain : List StackEntry) (world : WorldShape) → IsLoose threat chain world →
    AreSafe (below_first chain) lost world
safe_below threat chain world loose e among =
    let each = there_each threat chain world loose in
    let at =
    one_of_some (state_at world e.token.host) (λ state. IsAmong state.entries e) (each e (among_below chain e among)) in
    let kept = kept_below world chain loose.linked each e among in
    record {
      state = at.one;
      is = at.is;
      obeys = subst (λ o. IsSome o) (sym at.is) refl;
      unsent = unsent_each world chain loose.unsent e among;
      kept = with_entry kept.0 kept.1 kept.2;
    }

-- a token that is not the first entry's, nor that of one below
pub none_but : (chain : List StackEntry) (token : Token) → IsNone (below_first chain) token →
    (top_token chain ≡ Some token → ⊥) → IsNone chain token
none_but [] token none apart e among same = absurd (cc)
none_but (first ∷ below) token none apart e (zero, is) same =
    let one : first ≡ e = cc in
    apart (ap (λ (x : StackEntry). Some x.token) one ∙ ap (λ (t : Token). Some t) same)
none_but (first ∷ below) token none apart e (suc place, is) same = none e (place, is) same

-- ---- after an event

module _ (threat : Threat) (chain : List StackEntry) (world after : WorldShape) (is : IsLawful threat world)
    (fits : ShapeFits threat.code after) (step : Accounts world after) (loose : IsLoose threat chain world)
    (leaves : Leaves threat chain lost world after) where
  there_still : (e : StackEntry) → IsAmong chain e → StandsThere after e
  there_still e among =
      stands_after chain world after lost leaves.alone e among (there_each threat chain world loose e among)

  unsent_still : (e : StackEntry) → IsAmong (below_first chain) e → ¬ IsTokenSent after e.token
  unsent_still e among =
      let at =
      one_of_some (state_at world e.token.host) (λ state. IsAmong state.entries e)
      (there_each threat chain world loose e (among_below chain e among)) in
      let kept = kept_below after chain loose.linked there_still e among in
      still_unsent threat.code world after e.token at.one (tokens_known threat world is) fits step
      (own_before threat.code world e.token.host at.one at.has.0 e is.fits at.is at.has.1) at.is
      (unsent_each world chain loose.unsent e among) (kept_on kept.0 kept.1, kept.2)

  pub loose_after : IsLoose threat chain after
  loose_after = record {
    linked = loose.linked;
    there = all_among (StandsThere after) chain there_still;
    unsent = all_unsent chain unsent_still;
    outside = record {
      states = states_after (StateIsOutside threat chain lost) world after leaves.alone.me leaves.alone.old
          leaves.alone.new leaves.alone.obeys leaves.alone.puts loose.outside.states leaves.state;
      flying = leaves.flying;
    };
  }
    where
      all_unsent : (list : List StackEntry) →
          ((e : StackEntry) → IsAmong (below_first list) e → ¬ IsTokenSent after e.token) → AreUnsentBelow after list
      all_unsent [] each = tt
      all_unsent (first ∷ below) each = all_among (λ e. ¬ IsTokenSent after e.token) below each

pub loosely_after : (split : Split) (c : Configuration) (view : View) (world after : WorldShape) →
    StandsLoosely split c view world → Leaves (threat_in split) (entries_of view.chain) lost world after →
    IsLoose (threat_in split) (entries_of view.chain) after → StandsLoosely split c view after
loosely_after split c view world after stands leaves loose =
    let move = leaves.alone in
    record {
      loose = loose;
      chain = stands.chain;
      holds = holds_kept split c view world after move.me move.old move.new after.flying stands.holds move.obeys
          (record { hosts = move.puts; flying = refl }) (λ number. leaves.stays.rows (record { 0 = number }))
          leaves.stays.variables (λ site. leaves.frames site.0);
      gives_up = stands.gives_up;
      goes_on = λ has.
          stands.goes_on (halted_before world after split.code.root move.me move.old move.new move.obeys move.puts
          leaves.halts has);
    }
