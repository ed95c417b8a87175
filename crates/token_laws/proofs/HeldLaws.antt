-- What is known of one token in a world that events lead to.
use Rattle.std.proofs.Common.{◌≡◌, ◌≢◌, ◌∙◌, ℕ, ◌+◌, ◌<◌, inl, inr, ℤ, List}
use Rattle.std.proofs.Common.{get_or, Option, Some, None, refl, ap, sym, subst, arith}
use Rattle.std.specs.Prelude.{slice_get, slice_index, IsSome, IsSomeAnd, All}
use Rattle.std.specs.Prelude.{AllPairs, ⊤}
use Rattle.std.proofs.lemmas.Bool.{cases_lt}
use Rattle.std.proofs.lemmas.Bool.Decides.{eqb_tells}
use Rattle.std.proofs.lemmas.List.{get_or_default}
use Rattle.std.proofs.lemmas.List.Sums.{sum_by-le, get_or-le-sum_by}
use Rattle.std.proofs.lemmas.Option.{slice_get_within, get_or_from_slice_get}
use Rattle.js_base.specs.declared.ids.HostId.{HostId}
use Rattle.js_base.specs.declared.ids.EntryId.{EntryId}
use Rattle.capability.specs.declared.token.Token.{Token}
use Rattle.ics_stack.specs.declared.stack.StackEntry.{StackEntry}
use Rattle.ics_stack.specs.Stack.{IsOwnEntry}
use Rattle.host_decl.specs.Hosts as declared_hosts
use Rattle.host_code.specs.Code.{CodeShape, halt}
use Rattle.host_core.specs.Host as host_state
use Rattle.event_text.specs.declared.event.Event.{Event}
use Rattle.net_world.specs.Fits.{ShapeFits}
use Rattle.net_world.specs.World.{WorldShape, state_at, tokens_sent}
use Rattle.token_laws.proofs.Worth.{worth_sent, one_of, worth_held, worth_world}
use Rattle.token_laws.proofs.Counting.{one_if}
use Rattle.token_laws.specs.Holders.{TokenPlace, HoldsAt, IsTokenHeld, IsTokenSent, IsOld}
use Rattle.token_laws.specs.Reached.{IsReached}
use Rattle.token_laws.proofs.HostTokens.{Counts}
use Rattle.token_laws.proofs.WorldTokens.{the_state, Accounts}
use Rattle.token_laws.proofs.Held.{AreHeld, held_step, held_start, fresh_is, none_worth, presented_none}
use Rattle.token_laws.proofs.OneToken.{only_one, only_serial, token_itself}
use Rattle.token_laws.proofs.Places.{one_place, held_once_or_more, some_place}
use Rattle.token_laws.proofs.Walks.{reached}
use Rattle.token_laws.proofs.Tests.{some_found}

-- ---- what was sent

pub unsent_none : (world : WorldShape) (token : Token) → ¬ IsTokenSent world token → worth_sent (one_of token) world ≡ 0
unsent_none world token unsent =
    let le =
    sum_by-le (one_of token) 0 (tokens_sent world) (λ k d lt.
    let none =
    none_worth (one_of token (get_or (tokens_sent world) k d)) (λ more.
    unsent (
      k,
      lt,
      get_or_default (tokens_sent world) k token d lt
          ∙ (only_one token (get_or (tokens_sent world) k d)).1 more,
    )) in
    omega arith) in
    omega arith

pub sent_some : (world : WorldShape) (token : Token) → IsTokenSent world token → 0 < worth_sent (one_of token) world
sent_some world token sent =
    let le = get_or-le-sum_by (one_of token) (tokens_sent world) sent.0 token sent.1 in
    let is : one_of token (get_or (tokens_sent world) sent.0 token) ≡ 1 =
    ap (one_of token) sent.2 ∙ ap one_if (token_itself token) in
    omega arith

-- ---- the laws

is_old : (world : WorldShape) (token : Token) (state : host_state.HostState) → state_at world token.host ≡ Some state →
    token.serial < slice_index state.serials token.entry.0 → IsOld world token
is_old world token state obeys passed =
    subst (λ (o : Option host_state.HostState).
    IsSomeAnd o (λ s. token.serial < slice_index s.serials token.entry.0)) (sym obeys) passed

-- what is known of a world that events lead to
pub record IsKnown (code : CodeShape) (world : WorldShape) : Type 0 where
  pub fits : ShapeFits code world
  pub held : AreHeld world

pub known : (code : CodeShape) (rows : List declared_hosts.HostShape) (bad : ℕ) (store : List (List ℤ))
    (events : List Event) (world : WorldShape) → IsReached code rows bad store events world → IsKnown code world
known code rows bad store events world reach =
    let is =
    reached code rows bad store events world (λ event. ⊤) AreHeld reach (λ k d lt. tt)
    (λ w after event fits own q step held. held_step code w after event reach.sound fits own step held)
    (held_start code rows bad store) in
    record { fits = is.0; held = is.1 }

pub held_once : (code : CodeShape) (world : WorldShape) (token : Token) (first second : TokenPlace) →
    IsKnown code world →
    IsSome (state_at world token.host) → ¬ IsTokenSent world token → HoldsAt world token first →
    HoldsAt world token second → first ≡ second
held_once code world token first second is obeys unsent holds also =
    let state = some_found (state_at world token.host) obeys in
    let most =
    is.held.one (one_of token) token state.0 (only_one token) state.1 (unsent_none world token unsent) in
    one_place code world token first second is.fits most holds also

-- held or sent, so made before
made_before : (world : WorldShape) (token : Token) → AreHeld world → IsSome (state_at world token.host) →
    token.entry ≢ halt → 0 < worth_world (one_of token) world + worth_sent (one_of token) world → IsOld world token
made_before world token held obeys named some =
    let state = some_found (state_at world token.host) obeys in
    elim (cases_lt token.serial (slice_index state.0.serials token.entry.0)) [
      | inl passed ↦ is_old world token state.0 state.1 passed
      | inr past ↦
          let none =
          held.old (one_of token) token.host token.entry token.serial state.0 (only_serial token) named state.1 past in
          absurd (omega arith)
    ]

pub held_before : (code : CodeShape) (world : WorldShape) (token : Token) → IsKnown code world →
    IsSome (state_at world token.host) → token.entry ≢ halt → IsTokenHeld world token → IsOld world token
held_before code world token is obeys named held =
    let some = held_once_or_more code world token is.fits held in
    made_before world token is.held obeys named (omega arith)

pub sent_before : (world : WorldShape) (token : Token) → AreHeld world → IsSome (state_at world token.host) →
    token.entry ≢ halt → IsTokenSent world token → IsOld world token
sent_before world token held obeys named sent =
    let some = sent_some world token sent in made_before world token held obeys named (omega arith)

pub all_at : {X : Type 0} (P : X → Type 0) (xs : List X) (i : ℕ) (x : X) → All P xs → slice_get xs i ≡ Some x → P x
all_at P xs i x all there =
    subst P (get_or_from_slice_get xs i x x there) (all i x (slice_get_within xs i x there))

pub own_before : (code : CodeShape) (world : WorldShape) (host : HostId) (state : host_state.HostState) (place : ℕ)
    (on_stack : StackEntry) → ShapeFits code world → state_at world host ≡ Some state →
    slice_get state.entries place ≡ Some on_stack → IsOld world on_stack.token
own_before code world host state place on_stack fits obeys there =
    let is = the_state code world host state fits obeys in
    let stack = is.fits.stack in
    let own = all_at (IsOwnEntry state.me) state.entries place on_stack stack.own there in
    let passed : on_stack.token.serial < slice_index state.serials on_stack.entry.0 =
    all_at (λ (e : StackEntry). e.token.serial < slice_index state.serials e.entry.0) state.entries place on_stack
    stack.counted there in
    let host_is : on_stack.token.host ≡ host = own.host_is ∙ is.me in
    is_old world on_stack.token state (ap (state_at world) host_is ∙ obeys)
    (subst (λ (e : EntryId). on_stack.token.serial < slice_index state.serials e.0) (sym own.entry_is) passed)

apart_at : (entries : List StackEntry) (first second : ℕ) (one other : StackEntry) →
    AllPairs (λ above below. above.token ≢ below.token) entries → slice_get entries first ≡ Some one →
    slice_get entries second ≡ Some other → first < second → one.token ≢ other.token
apart_at entries first second one other distinct there also lt same =
    let within = slice_get_within entries second other also in
    distinct first second one lt within
    (ap (λ (e : StackEntry). e.token) (get_or_from_slice_get entries first one one there) ∙ same
    ∙ sym (ap (λ (e : StackEntry). e.token) (get_or_from_slice_get entries second other one also)))

pub same_place : (code : CodeShape) (world : WorldShape) (host : HostId) (state : host_state.HostState)
    (first second : ℕ) (one other : StackEntry) → ShapeFits code world → state_at world host ≡ Some state →
    slice_get state.entries first ≡ Some one → slice_get state.entries second ≡ Some other →
    one.token ≡ other.token → first ≡ second
same_place code world host state first second one other fits obeys there also same =
    let distinct = (the_state code world host state fits obeys).fits.stack.distinct in
    elim (eqb_tells first second) [
      | inl is ↦ is.1
      | inr apart ↦ elim (cases_lt first second) [
        | inl less ↦ absurd (apart_at state.entries first second one other distinct there also less same)
        | inr more ↦
            let ne : first ≢ second = apart.1 in
            absurd (apart_at state.entries second first other one distinct also there (omega arith) (sym same))
      ]
    ]

-- a new token is none that was made before
pub fresh_none : (world : WorldShape) (token : Token) (old : host_state.HostState) (host : HostId) (serials : List ℕ)
    (fresh : Option Token) → old.me ≡ host → state_at world host ≡ Some old → Counts old serials fresh →
    IsOld world token → worth_held (one_of token) fresh ≡ 0
fresh_none world token old host serials None me obeys counts before = refl
fresh_none world token old host serials (Some fresh) me obeys counts before =
    let is = fresh_is old serials fresh counts in
    none_worth (one_of token fresh) (λ more.
    let same : fresh ≡ token = (only_one token fresh).1 more in
    let at : state_at world fresh.host ≡ Some old = ap (state_at world) (is.host ∙ me) ∙ obeys in
    let passed : fresh.serial < slice_index old.serials fresh.entry.0 =
    subst (λ (o : Option host_state.HostState).
    IsSomeAnd o (λ s. fresh.serial < slice_index s.serials fresh.entry.0)) at
    (subst (IsOld world) (sym same) before) in
    let serial = is.serial in
    let never : ⊥ = omega arith in
    never)

some_state : (o : Option host_state.HostState) (P : host_state.HostState → Type 0) → IsSomeAnd o P →
    (state : host_state.HostState) × (o ≡ Some state)
some_state None P is = absurd is
some_state (Some state) P is = (state, refl)

old_state : (world : WorldShape) (token : Token) → IsOld world token →
    (state : host_state.HostState) × (state_at world token.host ≡ Some state)
old_state world token before = some_state (state_at world token.host) _ before

pub stays_gone : (code : CodeShape) (world after : WorldShape) (token : Token) → ShapeFits code after →
    Accounts world after → IsOld world token → ¬ IsTokenHeld world token → ¬ IsTokenSent world token →
    (¬ IsTokenHeld after token) × ¬ IsTokenSent after token
stays_gone code world after token fits step before nobody unsent =
    let state = old_state world token before in
    let none = none_worth (worth_world (one_of token) world) (λ more. nobody (some_place world token more)) in
    let sent = unsent_none world token unsent in
    let presented =
    presented_none world (one_of token) token.host state.0 step.presented step.is_presented
    (λ t more. ap (λ (x : Token). x.host) ((only_one token t).1 more)) state.1 sent in
    let fresh =
    fresh_none world token step.old step.host step.state.serials step.fresh step.me step.obeys step.counts before in
    let all = step.worth (one_of token) in (
      λ held.
          let some = held_once_or_more code after token fits held in
          let never : ⊥ = omega arith in
          never,
      λ later.
          let some = sent_some after token later in
          let never : ⊥ = omega arith in
          never,
    )
