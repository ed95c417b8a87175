-- What a host answers to a message that it takes, and what a misbehaving host can make it take.
use Rattle.std.proofs.Common.{◌≡◌, ◌∙◌, ℕ, ◌+◌, Bool, true, false, List, Option, Some, None}
use Rattle.std.proofs.Common.{inl, inr, refl, ap, sym, subst}
use Rattle.std.specs.Prelude.{◌⊎◌, ◌==◌, ◌&&◌, IfSome, IsSomeAnd, IsTrue, slice_get}
use Rattle.std.proofs.lemmas.Bool.{false≢true}
use Rattle.js_base.specs.declared.ids.HostId.{HostId}
use Rattle.js_base.specs.declared.ids.EntryId.{EntryId}
use Rattle.js_base.specs.declared.ids.VarId.{VarId}
use Rattle.js_base.proofs.Lists.{first_passing}
use Rattle.host_code.specs.declared.code_expr.Node.{Node}
use Rattle.label_lattice.specs.declared.label.Label.{Label}
use Rattle.capability.specs.declared.token.Token.{Token}
use Rattle.host_code.specs.declared.code.Entry.{Entry}
use Rattle.host_code.specs.declared.instruction.Op.{Op}
use Rattle.host_code.specs.declared.instruction.Op.TheVariants as op
use Rattle.host_code.specs.declared.message.Message.{Message}
use Rattle.host_code.specs.declared.message.Message.TheVariants as message
use Rattle.host_code.specs.Code.{part_of, entry_at}
use Rattle.host_code.specs.Sound.{IsSoundCode, OperationFits, IsEntryOn, temporaries_at}
use Rattle.host_code.specs.Thread.{WaitingShape, Awaited}
use Rattle.host_code.specs.Thread.Awaited.{value_of_field, acknowledgement, token_of_entry}
use Rattle.entry_check.specs.Checks.{MayEnter, IsTrustedFor, MaySee, label_at, label_of_host}
use Rattle.host_core.specs.Awaiting.{awaits, is_same_answer}
use Rattle.host_core.specs.Fits.{StateFits}
use Rattle.host_core.specs.Host.{HostState, Outcome, new_token}
use Rattle.host_core.specs.Taking.{IsTaking, PassesCheck, after_passing, after_taking, place_of_awaiting}
use Rattle.net_world.proofs.Present.{same_id}
use Rattle.split_shades.specs.ShadedCode.{IsShadedOp}
use Rattle.split_shades.specs.Shades.{EntryShade, Ahead, MeetsShade}
use Rattle.split_shades.specs.Shading.{IsUnderBlock, PushesAt}
use Rattle.split_rules.specs.Positions.{under}
use Rattle.token_laws.proofs.Tests.{parts_same, number_same, some_found}
use Rattle.seen_world.specs.Eyes.{Eyes, AreEyes, is_hidden, sees_level}
use Rattle.seen_world.specs.Points.{IsTokenOf, IsHiddenToken, MayHoldToken, MayEnterWith, IsInstructionAt, AsksFor}
use Rattle.seen_world.specs.Points.{AsksAt, HostKeeps}
use Rattle.seen_world.specs.Points.{MessageCarriesWell, IsAskedBy, FliesWell, ShowsNoHidden}
use Rattle.seen_world.proofs.SeenPlaces.{entry_seen, own_entry}
use Rattle.seen_world.proofs.TakesKept.{on_me, waits_at, same_place}
use Rattle.seen_world.proofs.TurnsKept.{pushed_at, pushed_holds, meets_next}

-- ---- tokens of entries that are pushed on request

-- what is known of an instruction that asks for a push, and of the place behind it
pub record Asking (eyes : Eyes) (host : HostId) (place : ℕ) (number : ℕ) : Type 0 where
  pub next : Ahead
  pub below : IsUnderBlock None (eyes.shades.at host place).block (eyes.shades.at host place).pc
  pub calls : (eyes.shades.at host place).calls ≡ false
  pub pushes : PushesAt None eyes.shades.entries (eyes.shades.at host place) number next
  pub meets : MeetsShade next (eyes.shades.at host (place + 1))

pub asking_at : (eyes : Eyes) → AreEyes eyes → (host : HostId) (place : ℕ) (entry : EntryId) (on : HostId) →
    IsInstructionAt eyes host place (op.Ask entry on) → Asking eyes host place entry.0
asking_at eyes are host place entry on at =
    let here = eyes.shades.at host place in
    let shaded = are.shaded.instructions host place at.0 at.1 in
    let law : IsShadedOp eyes.scene eyes.shades host place (op.Ask entry on) =
    subst (IsShadedOp eyes.scene eyes.shades host place) at.2 shaded.law in
    record {
      next = law.0;
      below = subst (λ guard. IsUnderBlock guard here.block here.pc) law.1.2 shaded.is_shade.under_block;
      calls = law.1.1;
      pushes = law.1.3;
      meets = meets_next eyes host place law.0 law.2;
    }

-- the token of the entry that was pushed
given_well : (eyes : Eyes) → AreEyes eyes → (from : HostId) (place : ℕ) (on : HostId) (token : Token) →
    IsInstructionAt eyes from place (op.Ask token.entry on) → eyes.bad token.host ≡ false →
    IsSomeAnd (entry_at eyes.code token.entry) (λ there. there.host ≡ token.host) →
    MayHoldToken eyes (eyes.shades.at from (place + 1)) token
given_well eyes are from place on token at obeys stands =
    let asking = asking_at eyes are from place token.entry on at in
    let here = eyes.shades.at from place in
    pushed_holds eyes here (eyes.shades.at from (place + 1)) token asking.next
    (pushed_at eyes here token.entry.0 asking.next None asking.below asking.calls asking.pushes) asking.meets obeys
    stands

-- ---- answers

-- a variable that is sent is acknowledged
forward_asked : (eyes : Eyes) (from to : HostId) (place : ℕ) (x : VarId) →
    IsInstructionAt eyes from place (op.Send x to)
    ⊎ (IsInstructionAt eyes from place (op.Pass x to)
    ⊎ ((given : List Node) × IsInstructionAt eyes from place (op.Ret x given))) →
    AsksAt eyes from place acknowledgement to
forward_asked eyes from to place x (inl at) = (op.Send x to, at, (refl, refl))
forward_asked eyes from to place x (inr (inl at)) = (op.Pass x to, at, (refl, refl))
forward_asked eyes from to place x (inr (inr gives)) = (op.Ret x gives.0, gives.1, refl)

passing_carries : (eyes : Eyes) → AreEyes eyes → (host : HostState) (from : HostId) (said : Message) →
    eyes.bad host.me ≡ false → IsAskedBy eyes from host.me said → PassesCheck eyes.code host from said →
    IfSome (after_passing eyes.code host from said).sent (λ sent.
    (sent.0 ≡ from) × FliesWell eyes host.me sent.0 sent.1)
passing_carries eyes are host from (message.Get request field index) obeys asked passes =
    (refl, ((op.Read field asked.0, asked.1, (refl, asked.2)), tt))
passing_carries eyes are host from (message.Set request field index value) obeys asked passes =
    (refl, ((op.Put field asked.0 asked.1, asked.2, (refl, asked.3)), tt))
passing_carries eyes are host from (message.Forward request frame x value) obeys asked passes =
    (refl, (forward_asked eyes from host.me request.at x asked, tt))
passing_carries eyes are host from (message.Sync request frame entry token) obeys asked passes = (
  refl,
  (
    (op.Ask entry host.me, asked, (refl, refl)),
    given_well eyes are from request.at host.me (new_token host entry frame) asked obeys
        (on_me eyes host.me from entry passes),
  ),
)
passing_carries eyes are host from (message.Rgoto frame entry token) obeys asked passes = tt
passing_carries eyes are host from (message.RgotoWith frame entry token riders) obeys asked passes = tt
passing_carries eyes are host from (message.Lgoto token) obeys asked passes = tt
passing_carries eyes are host from (message.Value request value) obeys asked passes = tt
passing_carries eyes are host from (message.Ack request) obeys asked passes = tt
passing_carries eyes are host from (message.Token request token) obeys asked passes = tt

-- what is sent of a message that passes its check, and nothing is sent of another
pub taking_sends : (P : HostId × Message → Type 0) (eyes : Eyes) (state : HostState) (from : HostId) (said : Message)
    (passes : Bool) → (IsTrue passes → PassesCheck eyes.code state from said) →
    (PassesCheck eyes.code state from said → IfSome (after_passing eyes.code state from said).sent P) →
    IfSome (after_taking eyes.code state from said passes).sent P
taking_sends P eyes state from said true passes sends = sends (passes refl)
taking_sends P eyes state from said false passes sends = tt

pub answer_carries : (eyes : Eyes) (state : HostState) (from : HostId) (said : Message) (outcome : Outcome) →
    AreEyes eyes → eyes.bad state.me ≡ false → IsAskedBy eyes from state.me said →
    IsTaking eyes.code state from said outcome →
    IfSome outcome.sent (λ sent. (sent.0 ≡ from) × FliesWell eyes state.me sent.0 sent.1)
answer_carries eyes state from said outcome are obeys asked takes =
    let P : HostId × Message → Type 0 = λ sent. (sent.0 ≡ from) × FliesWell eyes state.me sent.0 sent.1 in
    subst (λ (it : Outcome). IfSome it.sent P) takes.2
    (taking_sends P eyes state from said takes.0 takes.1.0
    (λ passes. passing_carries eyes are state from said obeys asked passes))

-- ---- what misbehaving hosts may enter

-- an entry whose label may be seen
record Seen (eyes : Eyes) (entry : EntryId) : Type 0 where
  it : EntryShade
  is : slice_get eyes.shades.entries entry.0 ≡ Some it
  block : eyes.sees it.block ≡ true
  level : sees_level eyes it.level ≡ true
  shown : is_hidden eyes entry.0 ≡ false

entered_seen : (eyes : Eyes) → AreEyes eyes → (me from : HostId) (entry : EntryId) → eyes.bad from ≡ true →
    MayEnter eyes.code me entry (label_of_host eyes.code from) → Seen eyes entry
entered_seen eyes are me from entry bad may = of (entry_at eyes.code entry) refl may.1
  where
    asker : Option Label
    asker = label_of_host eyes.code from

    of : (found : Option Entry) → entry_at eyes.code entry ≡ found → IsSomeAnd found (λ there. (there.host ≡ me)
        × IsTrustedFor asker there.need × MaySee (label_at eyes.code there.label) asker) → Seen eyes entry
    of None is some = absurd some
    of (Some there) is some =
        let shaded = are.shaded.entries entry.0 there is in
        let sees : eyes.sees shaded.it.label ≡ true =
        are.host from shaded.it.label bad (subst (λ label. MaySee label asker) shaded.label_is some.2) in
        let all = entry_seen eyes entry.0 there shaded.it are is shaded.is sees in
        record { it = shaded.it; is = shaded.is; block = all.0; level = all.1; shown = all.2 }

enters_with : (eyes : Eyes) (entry : EntryId) (token : Token) → Seen eyes entry → ¬ IsHiddenToken eyes token →
    MayEnterWith eyes entry token
enters_with eyes entry token seen shows = record {
  shade = seen.it;
  is = seen.is;
  level = λ unseen. absurd (false≢true (sym unseen ∙ seen.level));
  shown = λ open_block. shows;
}

-- ---- what misbehaving hosts may answer

asked_at : (eyes : Eyes) (host : HostId) (place : ℕ) (it : Op) (awaited : Awaited) (on : HostId) →
    awaited ≡ token_of_entry → IsInstructionAt eyes host place it → AsksFor eyes.code it awaited on →
    (entry : EntryId) × IsInstructionAt eyes host place (op.Ask entry on)
asked_at eyes host place (op.Ask there to) awaited on is at asks =
    (there, subst (λ (h : HostId). IsInstructionAt eyes host place (op.Ask there h)) asks.1 at)
asked_at eyes host place (op.Read field index) awaited on is at asks =
    absurd (let other : value_of_field ≡ token_of_entry = sym asks.0 ∙ is in cc)
asked_at eyes host place (op.Put field index value) awaited on is at asks =
    absurd (let other : acknowledgement ≡ token_of_entry = sym asks.0 ∙ is in cc)
asked_at eyes host place (op.Send x to) awaited on is at asks =
    absurd (let other : acknowledgement ≡ token_of_entry = sym asks.0 ∙ is in cc)
asked_at eyes host place (op.Pass x to) awaited on is at asks =
    absurd (let other : acknowledgement ≡ token_of_entry = sym asks.0 ∙ is in cc)
asked_at eyes host place (op.Ret x value) awaited on is at asks =
    absurd (let other : acknowledgement ≡ token_of_entry = sym asks ∙ is in cc)
asked_at eyes host place (op.Let x value) awaited on is at asks = absurd asks
asked_at eyes host place (op.Frame site) awaited on is at asks = absurd asks
asked_at eyes host place (op.Arg x value) awaited on is at asks = absurd asks
asked_at eyes host place (op.Push entry) awaited on is at asks = absurd asks
asked_at eyes host place (op.Go entry to) awaited on is at asks = absurd asks
asked_at eyes host place (op.Call entry to) awaited on is at asks = absurd asks
asked_at eyes host place (op.GoWith entry to riders) awaited on is at asks = absurd asks
asked_at eyes host place (op.CallWith entry to riders) awaited on is at asks = absurd asks
asked_at eyes host place op.Back awaited on is at asks = absurd asks
asked_at eyes host place (op.Branch guard target) awaited on is at asks = absurd asks

-- a misbehaving host may see an entry of its own for whose token it is asked
bad_given : (eyes : Eyes) → AreEyes eyes → (host : HostId) (place : ℕ) (entry : EntryId) (from : HostId)
    (token : Token) → IsInstructionAt eyes host place (op.Ask entry from) → eyes.bad from ≡ true →
    IsEntryOn eyes.code from entry → ¬ IsHiddenToken eyes token →
    MayHoldToken eyes (eyes.shades.at host (place + 1)) token
bad_given eyes are host place entry from token at bad on shows = (
  subst (λ level. IsTokenOf eyes level token)
      (sym (asking.meets.level ∙ ap (λ (it : Ahead). it.level) asking.pushes.1))
      (λ unseen. absurd (false≢true (sym unseen ∙ of (entry_at eyes.code entry) refl on.1))),
  λ seen. shows,
)
  where
    asking : Asking eyes host place entry.0
    asking = asking_at eyes are host place entry from at

    of : (found : Option Entry) → entry_at eyes.code entry ≡ found → IsSomeAnd found (λ there. there.host ≡ from) →
        sees_level eyes (under entry.0) ≡ true
    of None is some = absurd some
    of (Some there) is some =
        let shaded = are.shaded.entries entry.0 there is in
        let its : sees_level eyes (under entry.0) ≡ eyes.sees shaded.it.label = rw shaded.is refl in
        its ∙ own_entry eyes entry.0 there shaded.it are is shaded.is (ap eyes.bad some ∙ bad)

same_awaited : (awaited : Awaited) (request from : Bool) →
    ((is_same_answer awaited token_of_entry && request) && from) ≡ true → awaited ≡ token_of_entry
same_awaited value_of_field request from same = absurd (false≢true same)
same_awaited acknowledgement request from same = absurd (false≢true same)
same_awaited token_of_entry request from same = refl

answers_well : (eyes : Eyes) → AreEyes eyes → IsSoundCode eyes.code → (host : HostState) (from : HostId)
    (waiting : WaitingShape) (place count : ℕ) (token : Token) → StateFits eyes.code host → eyes.bad from ≡ true →
    awaits token_of_entry (record { at = place; count = count }) from waiting ≡ true →
    (it : Op) → IsInstructionAt eyes host.me waiting.request.at it →
    AsksFor eyes.code it waiting.awaited waiting.asked →
    ¬ IsHiddenToken eyes token → MayHoldToken eyes (eyes.shades.at host.me (place + 1)) token
answers_well eyes are sound host from waiting place count token fits bad same it at asks shows =
    let there : waiting.request.at ≡ place =
    same_place (is_same_answer waiting.awaited token_of_entry) waiting.request.at place 0
    (waiting.request.count == count) (waiting.asked.0 == from.0) same in
    let on : waiting.asked ≡ from =
    same_id waiting.asked from (number_same waiting.asked.0 from.0 (parts_same _ _ same).1) in
    let asked =
    asked_at eyes host.me waiting.request.at it waiting.awaited waiting.asked
    (same_awaited waiting.awaited _ _ same) at asks in
    let its : IsInstructionAt eyes host.me place (op.Ask asked.0 from) =
    subst (λ n. IsInstructionAt eyes host.me n (op.Ask asked.0 from)) there
    (subst (λ (h : HostId). IsInstructionAt eyes host.me waiting.request.at (op.Ask asked.0 h)) on asked.1) in
    let count_at = temporaries_at eyes.code.entries host.me (part_of eyes.code host.me) place in
    let fitting : OperationFits eyes.code host.me count_at (op.Ask asked.0 from) =
    subst (OperationFits eyes.code host.me count_at) its.2
    ((sound.parts host.me fits.me).instructions place its.0 its.1).operation in
    bad_given eyes are host.me place asked.0 from token its bad fitting.0 shows

pub made_carries : (eyes : Eyes) (state : HostState) (from : HostId) (said : Message) → AreEyes eyes →
    IsSoundCode eyes.code → StateFits eyes.code state → eyes.bad from ≡ true → HostKeeps eyes state.me state →
    ShowsNoHidden eyes said → PassesCheck eyes.code state from said → MessageCarriesWell eyes state.me said
unfolding enters_with
made_carries eyes state from (message.Get request field index) are sound fits bad keeps shows passes = tt
made_carries eyes state from (message.Set request field index value) are sound fits bad keeps shows passes = tt
made_carries eyes state from (message.Forward request frame x value) are sound fits bad keeps shows passes = tt
made_carries eyes state from (message.Sync request frame entry token) are sound fits bad keeps shows passes =
    let seen = entered_seen eyes are state.me from entry bad passes in
    (enters_with eyes entry token seen shows, λ shown. seen.block)
made_carries eyes state from (message.Rgoto frame entry token) are sound fits bad keeps shows passes =
    enters_with eyes entry token (entered_seen eyes are state.me from entry bad passes) shows
made_carries eyes state from (message.RgotoWith frame entry token riders) are sound fits bad keeps shows passes =
    enters_with eyes entry token (entered_seen eyes are state.me from entry bad passes.0) shows
made_carries eyes state from (message.Lgoto token) are sound fits bad keeps shows passes = tt
made_carries eyes state from (message.Value request value) are sound fits bad keeps shows passes = tt
made_carries eyes state from (message.Ack request) are sound fits bad keeps shows passes = tt
made_carries eyes state from (message.Token request token) are sound fits bad keeps shows passes =
    let place = some_found (place_of_awaiting state token_of_entry request from) passes in
    let found = first_passing (awaits token_of_entry request from) state.waiting place.0 place.1 in
    let well = waits_at eyes state place.0 found.0 keeps found.1 in
    answers_well eyes are sound state from found.0 request.at request.count token fits bad found.2 well.2.0 well.2.1
    well.2.2
    shows

-- ---- what misbehaving hosts are answered

passing_shows : (eyes : Eyes) → AreEyes eyes → (host : HostState) (from : HostId) (said : Message) →
    eyes.bad from ≡ true → PassesCheck eyes.code host from said →
    IfSome (after_passing eyes.code host from said).sent (λ sent. ShowsNoHidden eyes sent.1)
passing_shows eyes are host from (message.Get request field index) bad passes = tt
passing_shows eyes are host from (message.Set request field index value) bad passes = tt
passing_shows eyes are host from (message.Forward request frame x value) bad passes = tt
passing_shows eyes are host from (message.Sync request frame entry token) bad passes =
    λ one. false≢true (sym (entered_seen eyes are host.me from entry bad passes).shown ∙ one.1)
passing_shows eyes are host from (message.Rgoto frame entry token) bad passes = tt
passing_shows eyes are host from (message.RgotoWith frame entry token riders) bad passes = tt
passing_shows eyes are host from (message.Lgoto token) bad passes = tt
passing_shows eyes are host from (message.Value request value) bad passes = tt
passing_shows eyes are host from (message.Ack request) bad passes = tt
passing_shows eyes are host from (message.Token request token) bad passes = tt

pub answer_shows : (eyes : Eyes) (state : HostState) (from : HostId) (said : Message) (outcome : Outcome) →
    AreEyes eyes → eyes.bad from ≡ true → IsTaking eyes.code state from said outcome →
    IfSome outcome.sent (λ sent. ShowsNoHidden eyes sent.1)
answer_shows eyes state from said outcome are bad takes =
    let P : HostId × Message → Type 0 = λ sent. ShowsNoHidden eyes sent.1 in
    subst (λ (it : Outcome). IfSome it.sent P) takes.2
    (taking_sends P eyes state from said takes.0 takes.1.0
    (λ passes. passing_shows eyes are state from said bad passes))
