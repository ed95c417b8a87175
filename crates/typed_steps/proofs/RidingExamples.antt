-- What rides with a thread, in small cases.
use Rattle.std.proofs.Common.{◌≡◌, ◌≢◌, ◌∙◌, ◌<◌, inl, inr, List, [], ◌∷◌, map, refl, ap, sym, subst}
use Rattle.std.specs.Prelude.{ℤ}
use Rattle.std.specs.List.{AllByRecursion}
use Rattle.js_base.specs.declared.ids.EntryId.{EntryId}
use Rattle.js_base.specs.declared.ids.HostId.{HostId}
use Rattle.js_base.specs.declared.ids.VarId.{VarId}
use Rattle.jif_tree.specs.Altered.{VariableIsAffected}
use Rattle.jif_tree.specs.SourceRun.{Configuration}
use Rattle.capability.specs.declared.token.Token.{Token}
use Rattle.host_code.specs.Riders.{Rider, names_of}
use Rattle.split_rules.specs.Handing.{Arrival}
use Rattle.split_rules.specs.Positions.{Forward}
use Rattle.split_rules.specs.Typing.{RidesAll}
use Rattle.typed_steps.specs.Requests.{RidesOut}
use Rattle.typed_steps.specs.Threads.{NoneKept}
use Rattle.typed_steps.specs.Values.{AreAlike}
use Rattle.typed_steps.specs.Views.{Split, View}

pub rides : (split : Split) (c : Configuration) (view : View) (to : HostId) (entry : EntryId) (token : Token)
    (forward : Forward) → view.out ≡ forward ∷ [] → forward.host ≡ to → NoneKept c →
    view.sender < view.naming.count →
    RidesOut split c view to (record {
      frame = view.naming.frame view.sender;
      entry = entry;
      token = token;
      riders = (forward.variable, view.values view.sender forward.variable.0) ∷ [];
    })
rides split c view to entry token forward out host plainly known = record {
  all = subst (RidesAll (forward.variable ∷ []) to) (sym out) (refl, (host, tt));
  alike = (inl refl, tt);
  settled = inr plainly;
  frame_is = refl;
  known = known;
}

module _ (split : Split) (c : Configuration) (view : View) (to : HostId) (arrival : Arrival)
    (riding : RidesOut split c view to arrival) where
  -- the variables that ride are those that are still to be sent
  names : (out : List Forward) (riders : List Rider) → view.out ≡ out → arrival.riders ≡ riders →
      map (λ forward. forward.variable) out ≡ names_of riders
  names out riders is are =
      ap (map (λ (forward : Forward). forward.variable)) (sym is) ∙ riding.all.0 ∙ ap names_of are

  pub left_out : (first second : Forward) (rider : Rider) → view.out ≡ first ∷ second ∷ [] →
      arrival.riders ≡ rider ∷ [] → ⊥
  left_out first second rider is are = (let same = names (first ∷ second ∷ []) (rider ∷ []) is are in cc)

  pub none_left : (rider : Rider) (others : List Rider) → view.out ≡ [] → arrival.riders ≡ rider ∷ others → ⊥
  none_left rider others is are = (let same = names [] (rider ∷ others) is are in cc)

  pub elsewhere : (forward : Forward) → view.out ≡ forward ∷ [] → forward.host ≢ to → ⊥
  elsewhere forward is apart =
      apart (subst (AllByRecursion (λ (one : Forward). one.host ≡ to)) is riding.all.1).0

  pub other_value : (x : VarId) (value : ℤ) → arrival.riders ≡ (x, value) ∷ [] →
      value ≢ view.values view.sender x.0 → ¬ VariableIsAffected split.exposure x → ⊥
  other_value x value are apart unaffected =
      elim (subst (AllByRecursion
      (λ (rider : Rider). AreAlike split.exposure rider.0 rider.1 (view.values view.sender rider.0.0))) are
      riding.alike).0 [
        | inl same ↦ apart same
        | inr far ↦ unaffected far
      ]

  pub other_frame : arrival.frame ≢ view.naming.frame view.sender → ⊥
  other_frame apart = apart riding.frame_is
