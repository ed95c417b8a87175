-- Chains of links and their entries, and what a stack that grows as the chain does leaves of it.
use Rattle.std.proofs.Common.{◌≡◌, ◌≢◌, ◌∙◌, ◌⊎◌, inl, inr, zero, suc, List, [], ◌∷◌, length}
use Rattle.std.proofs.Common.{Some, refl, sym, ap, subst, arith}
use Rattle.std.specs.Prelude.{slice_get, slice_set, slice_index, All}
use Rattle.std.proofs.lemmas.List.Elements.{All-cons}
use Rattle.js_base.specs.declared.ids.HostId.{HostId}
use Rattle.js_base.specs.declared.ids.EntryId.{EntryId}
use Rattle.capability.specs.declared.token.Token.{Token}
use Rattle.ics_stack.specs.declared.stack.StackEntry.{StackEntry}
use Rattle.ics_stack.specs.Stack.{IsOwnEntry}
use Rattle.host_code.specs.Code.{CodeShape, halt}
use Rattle.host_core.specs.Host.{HostState}
use Rattle.net_world.specs.Fits.{ShapeFits}
use Rattle.net_world.specs.Told.{tokens_in}
use Rattle.net_world.specs.World.{WorldShape, state_at}
use Rattle.net_world.proofs.Moved.{mover_state}
use Rattle.std.specs.Prelude.{Contains}
use Rattle.token_laws.specs.Holders.{IsTokenSent}
use Rattle.token_laws.proofs.Held.{AreHeld, IsOnly}
use Rattle.token_laws.proofs.HeldLaws.{all_at, sent_some}
use Rattle.token_laws.proofs.OneToken.{only_serial}
use Rattle.token_laws.proofs.WorldTokens.{the_state}
use Rattle.token_laws.proofs.Worth.{one_of}
use Rattle.typed_steps.specs.Chains.{IsChain}
use Rattle.typed_steps.specs.Turns.{Grows, stays, grows}
use Rattle.typed_steps.specs.Views.{Split, CallNaming, Link, entries_of}
use Rattle.integrity.specs.Holding.{IsAmong, AreLinked, IsStanding}
use Rattle.integrity.specs.Outside.{Threat, EntryIsOpen}
use Rattle.integrity.proofs.Among.{among_cons, some_of}
use Rattle.integrity.proofs.HeldTokens.{StandsThere}
use Rattle.integrity.proofs.HolderStays.{on_some}
use Rattle.integrity.proofs.StackMoves as stacks
use Rattle.integrity.proofs.StackMoves.{Restacks}

pub linked_of : (split : Split) (naming : CallNaming) (chain : List Link) → IsChain split naming chain →
    AreLinked (entries_of chain)
linked_of split naming [] is = tt
linked_of split naming (link ∷ []) is = tt
linked_of split naming (link ∷ next ∷ chain) is = (is.2, linked_of split naming (next ∷ chain) is.4)

pub linked_below : (one : StackEntry) (chain : List StackEntry) → AreLinked (one ∷ chain) → AreLinked chain
linked_below one [] linked = tt
linked_below one (next ∷ chain) linked = linked.1

-- ---- an entry more

-- what was in the chain is in it
pub grown_keeps : (host : HostId) (chain now : List Link) (old new : List StackEntry) → Grows host chain now old new →
    (e : StackEntry) → IsAmong (entries_of chain) e → IsAmong (entries_of now) e
grown_keeps host chain now old new (stays same is) e among =
    subst (λ list. IsAmong (entries_of list) e) (sym same) among
grown_keeps host chain now old new (grows link on same is) e among =
    subst (λ list. IsAmong (entries_of list) e) (sym same) (among_cons (entries_of chain) link.entry e among)

pub grown_entries : (threat : Threat) (host : HostId) (chain now : List Link) (old new : List StackEntry) →
    Grows host chain now old new → All (λ e. IsAmong (entries_of chain) e ⊎ EntryIsOpen threat e.entry) old →
    All (λ e. IsAmong (entries_of now) e ⊎ EntryIsOpen threat e.entry) new
grown_entries threat host chain now old new (stays same is) all =
    subst (All (λ e. IsAmong (entries_of now) e ⊎ EntryIsOpen threat e.entry)) (sym is)
    (subst (λ list. All (λ e. IsAmong (entries_of list) e ⊎ EntryIsOpen threat e.entry) old) (sym same) all)
grown_entries threat host chain now old new (grows link on same is) all =
    let Keeps : List StackEntry → StackEntry → Type 0 =
    λ list e. IsAmong list e ⊎ EntryIsOpen threat e.entry in
    let more : All (Keeps (link.entry ∷ entries_of chain)) (link.entry ∷ old) =
    All-cons (Keeps (link.entry ∷ entries_of chain)) link.entry old (inl (0, refl)) (λ k d lt. keeps_more (all k d lt))
    in
    subst (All (Keeps (entries_of now))) (sym is)
    (subst (λ list. All (Keeps (entries_of list)) (link.entry ∷ old)) (sym same) more)
  where
    keeps_more : {e : StackEntry} → IsAmong (entries_of chain) e ⊎ EntryIsOpen threat e.entry →
        IsAmong (link.entry ∷ entries_of chain) e ⊎ EntryIsOpen threat e.entry
    keeps_more {e} (inl among) = inl (among_cons (entries_of chain) link.entry e among)
    keeps_more (inr may) = inr may

-- the entries are on the stacks
grown_stand : (world after : WorldShape) (me : HostId) (old new : HostState) → state_at world me ≡ Some old →
    after.hosts ≡ slice_set world.hosts me.0 (Some new) → (link : Link) (chain : List StackEntry) →
    link.entry.token.host ≡ me → new.entries ≡ link.entry ∷ old.entries →
    ((e : StackEntry) → IsAmong chain e → StandsThere world e) → (e : StackEntry) →
    IsAmong (link.entry ∷ chain) e → StandsThere after e
grown_stand world after me old new obeys puts link chain on is standing e (zero, at) =
    let same : link.entry ≡ e = cc in
    let there : state_at after me ≡ Some new =
    mover_state world after me old new after.flying obeys (record { hosts = puts; flying = refl }) in
    subst (StandsThere after) same
    (some_of (state_at after link.entry.token.host) (λ state. IsAmong state.entries link.entry) new
    (ap (state_at after) on ∙ there) (0, ap (λ list. slice_get list 0) is))
grown_stand world after me old new obeys puts link chain on is standing e (suc place, at) =
    on_some world after me e.token.host old new obeys puts (λ state. IsAmong state.entries e) (standing e (place, at))
    (λ same has. subst (λ list. IsAmong list e) (sym is) (among_cons old.entries link.entry e has))

pub grown_stands : (world after : WorldShape) (me : HostId) (old new : HostState) → state_at world me ≡ Some old →
    after.hosts ≡ slice_set world.hosts me.0 (Some new) → (chain now : List Link) →
    Grows me chain now old.entries new.entries →
    ((e : StackEntry) → IsAmong (entries_of chain) e → StandsThere world e) → (e : StackEntry) →
    IsAmong (entries_of now) e → StandsThere after e
grown_stands world after me old new obeys puts chain now (stays same is) standing e among =
    on_some world after me e.token.host old new obeys puts (λ state. IsAmong state.entries e)
    (standing e (subst (λ list. IsAmong (entries_of list) e) same among))
    (λ here has. subst (λ list. IsAmong list e) (sym is) has)
grown_stands world after me old new obeys puts chain now (grows link on same is) standing e among =
    grown_stand world after me old new obeys puts link (entries_of chain) on is standing e
    (subst (λ list. IsAmong (entries_of list) e) same among)

-- ---- the token of a new entry

no_longer : {X : Type 0} (x : X) (xs ys : List X) → xs ≡ ys → xs ≡ x ∷ ys → ⊥
no_longer x xs ys same more =
    let first : length xs ≡ length ys = ap length same in
    let second : length xs ≡ length (x ∷ ys) = ap length more in
    omega arith

next_serial : (P : Token → Type 0) (old new : HostState) (e : StackEntry) → Restacks P old new →
    new.entries ≡ e ∷ old.entries → e.token.serial ≡ slice_index old.serials e.entry.0
next_serial P old new e (stacks.stays same halts) is = absurd (no_longer e new.entries old.entries same is)
next_serial P old new e (stacks.pushes on_stack same halts next) is =
    let both : on_stack ∷ old.entries ≡ e ∷ old.entries = sym same ∙ is in
    let one : on_stack ≡ e = cc in
    subst (λ (x : StackEntry). x.token.serial ≡ slice_index old.serials x.entry.0) one next
next_serial P old new e (stacks.pops top same given halts) is =
    let first : length old.entries ≡ length (top ∷ new.entries) = ap length same in
    let second : length new.entries ≡ length (e ∷ old.entries) = ap length is in
    absurd (omega arith)

-- misbehaving hosts were not sent it
pub new_unsent : (code : CodeShape) (world after : WorldShape) (me : HostId) (old new : HostState) (e : StackEntry)
    (P : Token → Type 0) → AreHeld world → ShapeFits code after → state_at world me ≡ Some old →
    state_at after me ≡ Some new → Restacks P old new → new.entries ≡ e ∷ old.entries → e.entry ≢ halt →
    after.sent ≡ world.sent → ¬ IsTokenSent after e.token
new_unsent code world after me old new e P held fits obeys now moved is named quiet sent =
    let serial = next_serial P old new e moved is in
    let state_is = the_state code after me new fits now in
    let own =
    all_at (IsOwnEntry new.me) new.entries 0 e state_is.fits.stack.own (ap (λ list. slice_get list 0) is) in
    let host_is : e.token.host ≡ me = own.host_is ∙ state_is.me in
    let only : IsOnly (one_of e.token) me e.token.entry e.token.serial =
    subst (λ h. IsOnly (one_of e.token) h e.token.entry e.token.serial) host_is (only_serial e.token) in
    let count : slice_index old.serials e.token.entry.0 ≡ e.token.serial =
    ap (λ (n : EntryId). slice_index old.serials n.0) own.entry_is ∙ sym serial in
    let none =
    held.old (one_of e.token) me e.token.entry e.token.serial old only (λ same. named (sym own.entry_is ∙ same)) obeys
    (omega arith) in
    let some = sent_some world e.token (subst (λ list. Contains (tokens_in list) e.token) quiet sent) in
    omega arith

-- the entry that ends the program has nothing below it
named_of : (split : Split) (naming before : CallNaming) (link : Link) (chain : List Link) →
    IsChain split naming (link ∷ chain) → IsChain split before chain → link.entry.entry ≢ halt
named_of split naming before link [] is below = absurd below
named_of split naming before link (next ∷ chain) is below = is.0.0

pushed_known : (split : Split) (world after : WorldShape) (chain : List StackEntry) (top e : StackEntry) →
    ¬ IsTokenSent after top.token → ((x : StackEntry) → IsAmong chain x → IsStanding world x) →
    IsAmong (top ∷ chain) e →
    IsStanding world e ⊎ (¬ IsTokenSent after e.token)
pushed_known split world after chain top e unsent standing (zero, at) =
    let same : top ≡ e = cc in
    inr (subst (λ (x : StackEntry). ¬ IsTokenSent after x.token) same unsent)
pushed_known split world after chain top e unsent standing (suc place, at) = inl (standing e (place, at))

-- each entry of the chain stood before, or was pushed, and its token was not sent
pub grown_known : (split : Split) (before naming : CallNaming) (world after : WorldShape) (me : HostId)
    (old new : HostState) (P : Token → Type 0) → AreHeld world → ShapeFits split.code after →
    state_at world me ≡ Some old → state_at after me ≡ Some new → Restacks P old new → after.sent ≡ world.sent →
    (chain now : List Link) → IsChain split before chain → IsChain split naming now →
    Grows me chain now old.entries new.entries →
    ((e : StackEntry) → IsAmong (entries_of chain) e → IsStanding world e) → (e : StackEntry) →
    IsAmong (entries_of now) e → IsStanding world e ⊎ (¬ IsTokenSent after e.token)
grown_known split before naming world after me old new P held fits obeys there moved quiet chain now is later
    (stays same is_same) standing e among =
    inl (standing e (subst (λ list. IsAmong (entries_of list) e) same among))
grown_known split before naming world after me old new P held fits obeys there moved quiet chain now is later
    (grows link on same more) standing e among =
    let named = named_of split naming before link chain (subst (IsChain split naming) same later) is in
    pushed_known split world after (entries_of chain) link.entry e
    (new_unsent split.code world after me old new link.entry P held fits obeys there moved more named quiet) standing
    (subst (λ list. IsAmong (entries_of list) e) same among)
