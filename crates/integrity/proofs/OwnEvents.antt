-- An event is the holder's, or it is not.
use Rattle.std.proofs.Common.{◌≡◌, ◌∙◌, ◌⊎◌, inl, inr, ℕ, true, Some, None, Option, refl, sym, ap, subst}
use Rattle.std.specs.Prelude.{slice_get, IsSomeAnd}
use Rattle.std.proofs.lemmas.Bool.Decides.{eqb_tells}
use Rattle.js_base.specs.declared.ids.HostId.{HostId}
use Rattle.js_base.specs.declared.ids.RequestId.{RequestId}
use Rattle.jif_tree.specs.SourceRun.{Configuration}
use Rattle.host_code.specs.declared.message.Message.{Message}
use Rattle.event_text.specs.declared.event.Event.TheVariants.{Take, Turn, Act}
use Rattle.event_text.specs.declared.event.BadMessage.{BadMessage}
use Rattle.net_world.specs.Flying.{Flight}
use Rattle.net_world.specs.Told.{message_made}
use Rattle.net_world.specs.World.{WorldShape, state_at, misbehaves, tokens_sent}
use Rattle.net_world.proofs.Fitting.{bad_differs}
use Rattle.net_world.proofs.Present.{same_id}
use Rattle.token_laws.specs.Requests.{number_asked, number_answered}
use Rattle.token_laws.proofs.AskedLaws.{ends_obey}
use Rattle.token_laws.proofs.Tests.{some_found}
use Rattle.typed_steps.specs.Views.{Split, View}
use Rattle.integrity.specs.Holding.{Holder, runs, asked, answered, stuck, passes, lost, halted, IsHoldersEvent}
use Rattle.integrity.specs.Holding.{OwnsMessage}
use Rattle.integrity.specs.Standing.{threat_in, IsFree, StandsBy}
use Rattle.integrity.proofs.Among.{nothing, one_of_some, some_of}
use Rattle.integrity.proofs.TakeLaws.{IsOnly, state_of, asked_only, answered_only, passes_only}
use Rattle.integrity.proofs.TightKept.{IsLawful}

-- a message is the holder's where it is at the place of the only one
decide_at : (holder : Holder) (world : WorldShape) (from to one other : HostId) (place k : ℕ) →
    IsHoldersEvent holder world (Take from to place) → IsOnly holder world from to place →
    IsHoldersEvent holder world (Take one other k) ⊎ (¬ IsHoldersEvent holder world (Take one other k))
decide_at holder world from to one other place k own only = elim (eqb_tells one.0 from.0) [
  | inr apart ↦ inr (λ has. apart.1 (ap (λ (h : HostId). h.0) (only_there has).0))
  | inl first ↦ elim (eqb_tells other.0 to.0) [
    | inr apart ↦ inr (λ has. apart.1 (ap (λ (h : HostId). h.0) (only_there has).1))
    | inl second ↦ elim (eqb_tells k place) [
      | inr apart ↦ inr (λ has. apart.1 (only_there has).2)
      | inl third ↦
          inl (subst (λ h. IsHoldersEvent holder world (Take h other k)) (sym (same_id one from first.1))
          (subst (λ h. IsHoldersEvent holder world (Take from h k)) (sym (same_id other to second.1))
          (subst (λ n. IsHoldersEvent holder world (Take from to n)) (sym third.1) own)))
    ]
  ]
]
  where
    only_there : IsHoldersEvent holder world (Take one other k) → (one ≡ from) × (other ≡ to) × (k ≡ place)
    only_there has =
        let at = one_of_some (slice_get (world.flying one other) k) (λ f. OwnsMessage holder one other f.message) has in
        only one other k at.one at.is at.has

own_there : (holder : Holder) (world : WorldShape) (from to : HostId) (flight : Flight) (place : ℕ) → slice_get
    (world.flying from to) place ≡ Some flight →
    OwnsMessage holder from to flight.message → IsHoldersEvent holder world (Take from to place)
own_there holder world from to flight place there own =
    some_of (slice_get (world.flying from to) place) (λ f. OwnsMessage holder from to f.message) flight there own

abbrev Decided : Type 0 → Type 0
Decided A = A ⊎ (¬ A)

decide_host : (one other : HostId) → Decided (one ≡ other)
decide_host one other = elim (eqb_tells one.0 other.0) [
  | inl same ↦ inl (same_id one other same.1)
  | inr apart ↦ inr (λ same. apart.1 (ap (λ (h : HostId). h.0) same))
]

decide_request : (one other : RequestId) → Decided (one ≡ other)
decide_request one other = elim (eqb_tells one.at other.at) [
  | inr apart ↦ inr (λ same. apart.1 (ap (λ (r : RequestId). r.at) same))
  | inl first ↦ elim (eqb_tells one.count other.count) [
    | inr apart ↦ inr (λ same. apart.1 (ap (λ (r : RequestId). r.count) same))
    | inl second ↦
        let by_at : ℕ → RequestId = λ n. record { at = n; count = one.count } in
        let by_count : ℕ → RequestId = λ n. record { at = other.at; count = n } in
        inl (ap by_at first.1 ∙ ap by_count second.1)
  ]
]

decide_answer : (number : Option RequestId) (request : RequestId) → Decided (number ≡ Some request)
decide_answer None request = inr (λ same. cc)
decide_answer (Some one) request = elim (decide_request one request) [
  | inl same ↦ inl (ap (λ (r : RequestId). Some r) same)
  | inr apart ↦ inr (λ same. apart (cc))
]

module _ (split : Split) (c : Configuration) (view : View) (world : WorldShape) (is : IsLawful (threat_in split) world)
  where
    pub decide_take : (holder : Holder) → StandsBy split c view holder world → (from to : HostId) (k : ℕ) →
        IsHoldersEvent holder world (Take from to k) ⊎ (¬ IsHoldersEvent holder world (Take from to k))
    decide_take (runs host thread) stands from to k = inr (nothing (slice_get (world.flying from to) k))
    decide_take (asked host w m) stands from to k =
        let flies = stands.tight.there.1 in
        let state = state_of world host w stands.tight.there.0 in
        let number = ap number_asked flies.is ∙ stands.tight.there.2 in
        decide_at (asked host w m) world host w.asked from to flies.among.0 k
        (own_there (asked host w m) world host w.asked flies.flight flies.among.0 flies.among.1 (refl, refl, number))
        (asked_only split world is host w m state.0 state.1 flies.among.0 flies.flight flies.among.1 number)
    decide_take (answered host w m) stands from to k =
        let flies = stands.tight.there.1 in
        let state = state_of world host w stands.tight.there.0 in
        let number = ap number_answered flies.is ∙ stands.tight.there.2 in
        decide_at (answered host w m) world w.asked host from to flies.among.0 k
        (own_there (answered host w m) world w.asked host flies.flight flies.among.0 flies.among.1 (refl, refl, number))
        (answered_only split world is host w m state.0 state.1 flies.among.0 flies.flight flies.among.1 number)
    decide_take (stuck host w) stands from to k = inr (λ own.
        let at =
        one_of_some (slice_get (world.flying from to) k) (λ f. OwnsMessage (stuck host w) from to f.message) own in
        let ends = ends_obey split.code world from to k at.one is.fits is.asked at.is in
        let state = some_found (state_at world from) ends.0 in
        bad_differs world w.asked from state.0 stands.tight.there.1 state.1 (sym at.has.0))
    decide_take (passes sender target m) stands from to k =
        let flies = stands.tight.there in
        decide_at (passes sender target m) world sender target from to flies.among.0 k
        (own_there (passes sender target m) world sender target flies.flight flies.among.0 flies.among.1
        (refl, refl, flies.is))
        (passes_only split c view world is sender target m stands flies.among.0 flies.flight flies.among.1 flies.is)
    decide_take lost stands from to k = inr (nothing (slice_get (world.flying from to) k))
    decide_take halted stands from to k = inr (nothing (slice_get (world.flying from to) k))

    pub decide_turn : (holder : Holder) (host : HostId) →
        IsHoldersEvent holder world (Turn host) ⊎ (¬ IsHoldersEvent holder world (Turn host))
    decide_turn (runs other thread) host = elim (eqb_tells host.0 other.0) [
      | inl same ↦ inl (same_id host other same.1)
      | inr apart ↦ inr (λ own. apart.1 (ap (λ (h : HostId). h.0) own))
    ]
    decide_turn (asked other w m) host = inr (λ own. own)
    decide_turn (answered other w m) host = inr (λ own. own)
    decide_turn (stuck other w) host = inr (λ own. own)
    decide_turn (passes from to m) host = inr (λ own. own)
    decide_turn lost host = inr (λ own. own)
    decide_turn halted host = inr (λ own. own)

    -- no act is the holder's where it waits for no misbehaving host
    pub no_act : (holder : Holder) → IsFree holder → StandsBy split c view holder world → (from to : HostId)
        (made : BadMessage) → misbehaves world from ≡ true → ¬ IsHoldersEvent holder world (Act from to made)
    no_act (runs host thread) free stands from to made bad own =
        (one_of_some (message_made (tokens_sent world) made) (OwnsMessage (runs host thread) from to) own).has
    no_act (asked host w m) free stands from to made bad own =
        let its = (one_of_some (message_made (tokens_sent world) made) (OwnsMessage
        (asked host w m) from to) own).has in
        let state = state_of world host w stands.tight.there.0 in
        bad_differs world from host state.0 bad state.1 its.0
    no_act (answered host w m) free stands from to made bad own =
        let its = (one_of_some (message_made (tokens_sent world) made) (OwnsMessage
        (answered host w m) from to) own).has in
        let flies = stands.tight.there.1 in
        let ends = ends_obey split.code world w.asked host flies.among.0 flies.flight is.fits is.asked flies.among.1 in
        let state = some_found (state_at world w.asked) ends.0 in
        bad_differs world from w.asked state.0 bad state.1 its.0
    no_act (stuck host w) free stands from to made bad own = free
    no_act (passes sender target m) free stands from to made bad own =
        let its = (one_of_some (message_made (tokens_sent world) made) (OwnsMessage
        (passes sender target m) from to) own).has
        in
        let flies = stands.tight.there in
        let ends = ends_obey split.code world sender target flies.among.0 flies.flight is.fits is.asked flies.among.1 in
        let state = some_found (state_at world sender) ends.0 in
        bad_differs world from sender state.0 bad state.1 its.0
    no_act lost free stands from to made bad own =
        (one_of_some (message_made (tokens_sent world) made) (OwnsMessage lost from to) own).has
    no_act halted free stands from to made bad own =
        (one_of_some (message_made (tokens_sent world) made) (OwnsMessage halted from to) own).has

    -- an act is that of a holder that waits for its host, where it answers the request
    pub decide_act : (holder : Holder) → StandsBy split c view holder world → (from to : HostId) (made : BadMessage) →
        misbehaves world from ≡ true → (m : Message) → message_made (tokens_sent world) made ≡ Some m →
        IsHoldersEvent holder world (Act from to made) ⊎ (¬ IsHoldersEvent holder world (Act from to made))
    decide_act (runs host thread) stands from to made bad m makes =
        inr (no_act (runs host thread) tt stands from to made bad)
    decide_act (asked host w asking) stands from to made bad m makes =
        inr (no_act (asked host w asking) tt stands from to made bad)
    decide_act (answered host w answer) stands from to made bad m makes =
        inr (no_act (answered host w answer) tt stands from to made bad)
    decide_act (stuck host w) stands from to made bad m makes =
        elim (decide_host from w.asked) [
          | inr apart ↦ inr (λ own. apart (its own).0)
          | inl first ↦ elim (decide_host to host) [
            | inr apart ↦ inr (λ own. apart (its own).1)
            | inl second ↦ elim (decide_answer (number_answered m) w.request) [
              | inr apart ↦ inr (λ own. apart (its own).2)
              | inl third ↦
                  inl (some_of (message_made (tokens_sent world) made) (OwnsMessage (stuck host w) from to) m makes
                  (first, second, third))
            ]
          ]
        ]
      where
        its : IsHoldersEvent (stuck host w) world (Act from to made) → OwnsMessage (stuck host w) from to m
        its own = subst (λ o. IsSomeAnd o (OwnsMessage (stuck host w) from to)) makes own
    decide_act (passes sender target passed) stands from to made bad m makes =
        inr (no_act (passes sender target passed) tt stands from to made bad)
    decide_act lost stands from to made bad m makes = inr (no_act lost tt stands from to made bad)
    decide_act halted stands from to made bad m makes = inr (no_act halted tt stands from to made bad)
