-- What is behind an instruction that asks another host, and the thread that waits for an answer.
use Rattle.std.proofs.Common.{◌≡◌, ◌≢◌, ◌∙◌, ℕ, suc, ◌+◌, Bool, true, [], ◌∷◌, ◌++◌, Some, refl, ap, sym}
use Rattle.std.proofs.Common.{subst}
use Rattle.std.specs.Prelude.{◌==◌, ◌&&◌, IsSome, position, slice_get}
use Rattle.std.proofs.lemmas.Bool.{false≢true}
use Rattle.js_base.specs.declared.ids.HostId.{HostId}
use Rattle.js_base.specs.declared.ids.RequestId.{RequestId}
use Rattle.js_base.proofs.Lists.{first_passing}
use Rattle.label_lattice.specs.declared.label.Label.{Label}
use Rattle.host_code.specs.declared.instruction.Op.{Op}
use Rattle.host_code.specs.declared.instruction.Op.TheVariants as op
use Rattle.host_code.specs.Thread.{Awaited, WaitingShape}
use Rattle.host_code.specs.Thread.Awaited.{value_of_field, acknowledgement, token_of_entry}
use Rattle.host_core.specs.Awaiting.{is_same_answer, awaits}
use Rattle.host_core.specs.Host.{HostState}
use Rattle.host_core.specs.Taking.{place_of_awaiting}
use Rattle.split_shades.specs.Basis.{read_label}
use Rattle.split_shades.specs.ShadedCode.{IsShadedOp}
use Rattle.split_shades.specs.Shades.{Ahead, MeetsShade}
use Rattle.seen_world.specs.Eyes.{Eyes, AreEyes, is_open}
use Rattle.seen_world.specs.Points.{AsksFor, AsksAt, WaitsWell, HostKeeps}
use Rattle.seen_world.proofs.TakesKept.{waits_at, same_place}
use Rattle.seen_world.proofs.TurnsKept.{meets_next}
use Rattle.agreement.specs.Leads.{hidden_waiting}
use Rattle.agreement.specs.Taken.{host_checked}
use Rattle.agreement.specs.Views.{HostView, ShowsHost, waits_open, waiter_view}
use Rattle.token_laws.proofs.Tests.{some_found}
use Rattle.agreement.proofs.Queues.{seen_map, seen_at, seen_there, position_mapped}

-- ---- behind an instruction that asks

-- It goes on in the same block. What was read is dropped, and a value that is asked for is one more temporary.
pub record BehindAsking (eyes : Eyes) (me : HostId) (place : ℕ) (awaited : Awaited) : Type 0 where
  pub block : (eyes.shades.at me (place + 1)).block ≡ (eyes.shades.at me place).block
  pub plain : awaited ≢ value_of_field → (eyes.shades.at me (place + 1)).temps ≡ []
  pub reads : awaited ≡ value_of_field → (label : Label)
      × ((eyes.shades.at me (place + 1)).temps ≡ (eyes.shades.at me place).temps ++ label ∷ [])

pub no_value : (awaited other : Awaited) → awaited ≡ other → other ≢ value_of_field → awaited ≢ value_of_field
no_value awaited other same apart is = apart (sym same ∙ is)

pub acknowledged : acknowledgement ≢ value_of_field
acknowledged same = absurd (cc)

pub given_token : token_of_entry ≢ value_of_field
given_token same = absurd (cc)

clears_behind : (eyes : Eyes) (me : HostId) (place : ℕ) (awaited : Awaited) (next : Ahead) →
    MeetsShade next (eyes.shades.at me (suc place)) → next.block ≡ (eyes.shades.at me place).block → next.temps ≡ [] →
    awaited ≢ value_of_field → BehindAsking eyes me place awaited
clears_behind eyes me place awaited next meets block temps apart =
    let meet = meets_next eyes me place next meets in
    record {
      block = meet.block ∙ block;
      plain = λ other. meet.temps ∙ temps;
      reads = λ is. absurd (apart is);
    }

behind_op : (eyes : Eyes) (me : HostId) (place : ℕ) (it : Op) (awaited : Awaited) (on : HostId) →
    IsShadedOp eyes.scene eyes.shades me place it → AsksFor eyes.code it awaited on →
    BehindAsking eyes me place awaited
behind_op eyes me place (op.Read field index) awaited on law asks =
    let meet = meets_next eyes me place law.0 law.2 in
    record {
      block = meet.block ∙ ap (λ (it : Ahead). it.block) law.1.goes;
      plain = λ other. absurd (other asks.0);
      reads = λ is. (
        read_label eyes.scene.basis (eyes.shades.at me place).pc (record { field = field; index = law.1.index }),
        meet.temps ∙ ap (λ (it : Ahead). it.temps) law.1.goes,
      );
    }
behind_op eyes me place (op.Put field index value) awaited on law asks =
    clears_behind eyes me place awaited law.0 law.2 (ap (λ (it : Ahead). it.block) law.1.3)
    (ap (λ (it : Ahead). it.temps) law.1.3) (no_value awaited acknowledgement asks.0 acknowledged)
behind_op eyes me place (op.Send x to) awaited on law asks =
    clears_behind eyes me place awaited law.0 law.2 (ap (λ (it : Ahead). it.block) law.1.2)
    (ap (λ (it : Ahead). it.temps) law.1.2) (no_value awaited acknowledgement asks.0 acknowledged)
behind_op eyes me place (op.Pass x to) awaited on law asks =
    clears_behind eyes me place awaited law.0 law.2 (ap (λ (it : Ahead). it.block) law.1.2)
    (ap (λ (it : Ahead). it.temps) law.1.2) (no_value awaited acknowledgement asks.0 acknowledged)
behind_op eyes me place (op.Ask entry to) awaited on law asks =
    clears_behind eyes me place awaited law.0 law.2 (ap (λ (it : Ahead). it.block) law.1.3.1)
    (ap (λ (it : Ahead). it.temps) law.1.3.1) (no_value awaited token_of_entry asks.0 given_token)
behind_op eyes me place (op.Ret x value) awaited on law asks =
    clears_behind eyes me place awaited law.0 law.2 (ap (λ (it : Ahead). it.block) law.1.3)
    (ap (λ (it : Ahead). it.temps) law.1.3) (no_value awaited acknowledgement asks acknowledged)
behind_op eyes me place (op.Let x value) awaited on law asks = absurd asks
behind_op eyes me place (op.Frame site) awaited on law asks = absurd asks
behind_op eyes me place (op.Arg x value) awaited on law asks = absurd asks
behind_op eyes me place (op.Push entry) awaited on law asks = absurd asks
behind_op eyes me place (op.Go entry to) awaited on law asks = absurd asks
behind_op eyes me place (op.Call entry to) awaited on law asks = absurd asks
behind_op eyes me place (op.GoWith entry to riders) awaited on law asks = absurd asks
behind_op eyes me place (op.CallWith entry to riders) awaited on law asks = absurd asks
behind_op eyes me place op.Back awaited on law asks = absurd asks
behind_op eyes me place (op.Branch guard target) awaited on law asks = absurd asks

pub asked_behind : (eyes : Eyes) (me : HostId) (place : ℕ) (awaited : Awaited) (on : HostId) → AreEyes eyes →
    AsksAt eyes me place awaited on → BehindAsking eyes me place awaited
asked_behind eyes me place awaited on are asks =
    let law : IsShadedOp eyes.scene eyes.shades me place asks.0 =
    subst (IsShadedOp eyes.scene eyes.shades me place) asks.1.2
    (are.shaded.instructions me place asks.1.0 asks.1.1).law in
    behind_op eyes me place asks.0 awaited on law asks.2

-- ---- the thread that waits

same_kind : (one other : Awaited) (request from : Bool) →
    ((is_same_answer one other && request) && from) ≡ true → one ≡ other
same_kind value_of_field value_of_field request from same = refl
same_kind acknowledgement acknowledgement request from same = refl
same_kind token_of_entry token_of_entry request from same = refl
same_kind value_of_field acknowledgement request from same = absurd (false≢true same)
same_kind value_of_field token_of_entry request from same = absurd (false≢true same)
same_kind acknowledgement value_of_field request from same = absurd (false≢true same)
same_kind acknowledgement token_of_entry request from same = absurd (false≢true same)
same_kind token_of_entry value_of_field request from same = absurd (false≢true same)
same_kind token_of_entry acknowledgement request from same = absurd (false≢true same)

-- where nothing waits unseen, a test of who is awaited finds the same in what is seen
pub awaiting_seen : (eyes : Eyes) (state : HostState) (shown : HostView) (awaited : Awaited) (request : RequestId)
    (from : HostId) → hidden_waiting eyes state.me state.waiting ≡ [] → ShowsHost eyes state.me state shown →
    place_of_awaiting (host_checked state.me shown) awaited request from
    ≡ place_of_awaiting state awaited request from
awaiting_seen eyes state shown awaited request from none shows =
    sym (ap (position (awaits awaited request from))
    (seen_map (waits_open eyes state.me) (waiter_view eyes state.me) state.waiting shown.waiting none shows.waiting))
    ∙ position_mapped (awaits awaited request from) (waiter_view eyes state.me) state.waiting

-- The thread that an answer comes to waits at a place that may be seen, and is seen waiting there.
pub record Woken (eyes : Eyes) (state : HostState) (shown : HostView) (awaited : Awaited) (request : RequestId)
    (from : HostId) : Type 0 where
  pub place : ℕ
  pub is : place_of_awaiting state awaited request from ≡ Some place
  pub waiting : WaitingShape
  pub there : slice_get state.waiting place ≡ Some waiting
  pub opens : is_open eyes state.me waiting.request.at ≡ true
  pub well : WaitsWell eyes state.me waiting
  pub kind : waiting.awaited ≡ awaited
  pub asked_at : waiting.request.at ≡ request.at
  pub seen_is : place_of_awaiting (host_checked state.me shown) awaited request from ≡ Some place
  pub seen_there : slice_get shown.waiting place ≡ Some (waiter_view eyes state.me waiting)
  pub behind : BehindAsking eyes state.me waiting.request.at awaited

pub woken_at : (eyes : Eyes) (state : HostState) (shown : HostView) (awaited : Awaited) (request : RequestId)
    (from : HostId) → AreEyes eyes → HostKeeps eyes state.me state → hidden_waiting eyes state.me state.waiting ≡ [] →
    ShowsHost eyes state.me state shown → IsSome (place_of_awaiting state awaited request from) →
    Woken eyes state shown awaited request from
woken_at eyes state shown awaited request from are keeps none shows some =
    let me = state.me in
    let found = some_found (place_of_awaiting state awaited request from) some in
    let there = first_passing (awaits awaited request from) state.waiting found.0 found.1 in
    let waiting = there.0 in
    let well = waits_at eyes state found.0 waiting keeps there.1 in
    let kind : waiting.awaited ≡ awaited = same_kind waiting.awaited awaited _ _ there.2 in
    record {
      place = found.0;
      is = found.1;
      waiting = waiting;
      there = there.1;
      opens = seen_there (waits_open eyes me) state.waiting found.0 waiting there.1 none;
      well = well;
      kind = kind;
      asked_at = same_place (is_same_answer waiting.awaited awaited) waiting.request.at request.at 0
          (waiting.request.count == request.count) (waiting.asked.0 == from.0) there.2;
      seen_is = awaiting_seen eyes state shown awaited request from none shows ∙ found.1;
      seen_there = seen_at (waits_open eyes me) (waiter_view eyes me) state.waiting shown.waiting found.0 waiting none
          shows.waiting there.1;
      behind = subst (BehindAsking eyes me waiting.request.at) kind
          (asked_behind eyes me waiting.request.at waiting.awaited waiting.asked are well.2);
    }
