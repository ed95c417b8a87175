-- A secret answer passes its check, and what its taking leaves of what goes on unseen.
use Rattle.std.proofs.Common.{◌≡◌, ◌∙◌, ℕ, suc, ◌+◌, ◌<◌, Bool, true, false, cond, List, [], ◌∷◌, length, arith}
use Rattle.std.proofs.Common.{Some, None, inl, inr, refl, ap, sym, subst}
use Rattle.std.specs.Prelude.{◌==◌, ◌&&◌, not, get_or, slice_get, remove, position}
use Rattle.std.specs.Option.{option_map}
use Rattle.std.specs.List.{position_or_len}
use Rattle.std.proofs.lemmas.Bool.{false≢true, cases_lt}
use Rattle.std.proofs.lemmas.List.Sums.{fails_before_first}
use Rattle.std.proofs.lemmas.List.Quantifiers.{position-Some}
use Rattle.std.proofs.lemmas.Option.{slice_get_within, get_or_from_slice_get, slice_get-get_or}
use Rattle.js_base.specs.declared.ids.HostId.{HostId}
use Rattle.js_base.specs.declared.ids.FrameId.{FrameId}
use Rattle.js_base.specs.declared.ids.RequestId.{RequestId}
use Rattle.capability.specs.declared.token.Token.{Token}
use Rattle.host_code.specs.declared.instruction.Instr.{Instr}
use Rattle.host_code.specs.declared.instruction.Op.{Op}
use Rattle.host_code.specs.declared.instruction.Op.TheVariants as op
use Rattle.host_code.specs.Code.{CodeShape, part_of, instruction_at}
use Rattle.host_code.specs.Thread.{ThreadShape, Awaited, WaitingShape}
use Rattle.host_code.specs.Thread.Awaited.{value_of_field, acknowledgement, token_of_entry}
use Rattle.host_core.specs.Awaiting.{is_same_answer, awaits}
use Rattle.host_core.specs.Host.{HostState}
use Rattle.host_core.specs.Taking.{place_of_awaiting, after_answer}
use Rattle.net_world.specs.Flying.{Flight}
use Rattle.split_shades.specs.ShadedCode.{IsShadedOp}
use Rattle.split_shades.specs.Shades.{Ahead, MeetsShade}
use Rattle.token_laws.proofs.Tests.{itself}
use Rattle.seen_world.specs.Eyes.{Eyes, AreEyes, is_open}
use Rattle.seen_world.specs.Points.{IsInstructionAt, AsksFor, AsksAt, WaitsWell}
use Rattle.seen_world.proofs.SeenPlaces.{some_is}
use Rattle.seen_world.proofs.TakesKept.{same_place, awaits_at}
use Rattle.seen_world.proofs.TurnsKept.{meets_next}
use Rattle.agreement.specs.Leads.{runs, waits, HiddenEntry, hidden_waiting, Owes}
use Rattle.agreement.specs.Views.{LowView, at, OwedInView, running_view, waits_open}
use Rattle.agreement.proofs.Ends.{Ends, nothing_seen, unseen_runs}
use Rattle.agreement.proofs.Exits.{within_of}
use Rattle.agreement.proofs.Lists.{not_left, left_removed, only_taken, only_there}
use Rattle.agreement.proofs.Places.{instruction_within, deep_of, deep_hidden, begun_same, deep_moved, begun_moved}
use Rattle.agreement.proofs.Steps.{runs_apart, waits_apart}
use Rattle.agreement.proofs.Takes.{Taken}
use Rattle.agreement.proofs.Turns.{next_deep}
use Rattle.agreement.proofs.ViewLaws.{still_shows}

-- ---- the first that passes

pub position_there : {X : Type 0} (p : X → Bool) (xs : List X) (place : ℕ) (x : X) → slice_get xs place ≡ Some x →
    p x ≡ true → (first : ℕ) × (position p xs ≡ Some first)
position_there p xs place x there passes =
    let within = slice_get_within xs place x there in
    let at : p (get_or xs place x) ≡ true = ap p (get_or_from_slice_get xs place x x there) ∙ passes in
    let before : position_or_len p xs < length xs = elim (cases_lt place (position_or_len p xs)) [
      | inl less ↦ absurd (false≢true (sym (fails_before_first p xs place x less) ∙ at))
      | inr more ↦ omega (arith, more, within)
    ] in (
      position_or_len p xs,
      ap (λ (b : Bool). cond b (Some (position_or_len p xs)) None)
          (within_of (position_or_len p xs) (length xs) before),
    )

-- ---- what an instruction asks for

asks_one : (code : CodeShape) (it : Op) (one other : Awaited) (on from : HostId) → AsksFor code it one on →
    AsksFor code it other from → one ≡ other
asks_one code (op.Read field index) one other on from first second = first.0 ∙ sym second.0
asks_one code (op.Put field index value) one other on from first second = first.0 ∙ sym second.0
asks_one code (op.Send x to) one other on from first second = first.0 ∙ sym second.0
asks_one code (op.Pass x to) one other on from first second = first.0 ∙ sym second.0
asks_one code (op.Ask there to) one other on from first second = first.0 ∙ sym second.0
asks_one code (op.Ret x value) one other on from first second = first ∙ sym second
asks_one code (op.Let x value) one other on from first second = absurd first
asks_one code (op.Frame site) one other on from first second = absurd first
asks_one code (op.Arg x value) one other on from first second = absurd first
asks_one code (op.Push there) one other on from first second = absurd first
asks_one code (op.Go there to) one other on from first second = absurd first
asks_one code (op.Call there to) one other on from first second = absurd first
asks_one code (op.GoWith there to riders) one other on from first second = absurd first
asks_one code (op.CallWith there to riders) one other on from first second = absurd first
asks_one code op.Back one other on from first second = absurd first
asks_one code (op.Branch guard target) one other on from first second = absurd first

same_awaited : (eyes : Eyes) (host : HostId) (place : ℕ) (one other : Awaited) (on from : HostId) →
    AsksAt eyes host place one on → AsksAt eyes host place other from → one ≡ other
same_awaited eyes host place one other on from first second =
    let there : first.1.0 ≡ second.1.0 = some_is (sym first.1.1 ∙ second.1.1) in
    let same : second.0 ≡ first.0 = sym second.1.2 ∙ ap (λ (i : Instr). i.op) (sym there) ∙ first.1.2 in
    asks_one eyes.code first.0 one other on from first.2
    (subst (λ (it : Op). AsksFor eyes.code it other from) same second.2)

-- ---- behind an instruction that asks

-- it goes on unseen, and what is owed stays
record Behind (eyes : Eyes) (me : HostId) (place : ℕ) : Type 0 where
  hidden : is_open eyes me (place + 1) ≡ false
  owes : (links : List HiddenEntry) (owed : OwedInView) (frame : FrameId) (token : Token) →
      Owes eyes (at me place frame token) links owed → Owes eyes (at me (place + 1) frame token) links owed

deep_behind : (eyes : Eyes) (me : HostId) (place : ℕ) (there : Instr) (next : Ahead) → AreEyes eyes →
    instruction_at eyes.code me place ≡ Some there → is_open eyes me place ≡ false →
    place + 1 < length (part_of eyes.code me) → (eyes.shades.at me place).guard ≡ None →
    MeetsShade next (eyes.shades.at me (suc place)) → next.block ≡ (eyes.shades.at me place).block →
    Behind eyes me place
deep_behind eyes me place there next are is hidden within unguarded meets block =
    let deep = deep_of eyes are me place there is unguarded hidden in
    let deep_next = next_deep eyes me place next deep meets block in
    record {
      hidden = deep_hidden eyes are me (place + 1) within deep_next;
      owes = λ links owed frame token owes.
          deep_moved eyes links owed me me place (place + 1) frame frame token deep deep_next owes;
    }

behind_asking : (eyes : Eyes) (me : HostId) (place : ℕ) (there : Instr) (it : Op) (awaited : Awaited) (on : HostId) →
    AreEyes eyes → instruction_at eyes.code me place ≡ Some there → is_open eyes me place ≡ false →
    place + 1 < length (part_of eyes.code me) → IsShadedOp eyes.scene eyes.shades me place it →
    AsksFor eyes.code it awaited on → Behind eyes me place
behind_asking eyes me place there (op.Read field index) awaited on are is hidden within law asks =
    let here = eyes.shades.at me place in
    let meet = meets_next eyes me place law.0 law.2 in
    let goes = begun_same law.0 (eyes.shades.at me (place + 1)) here.pc here.guard meet
    (ap (λ (it : Ahead). it.begun) law.1.goes) in
    let other = instruction_within eyes me (place + 1) within in
    record {
      hidden = ap eyes.sees goes.0 ∙ hidden;
      owes = λ links owed frame token owes.
          begun_moved eyes are links owed me place (place + 1) frame token there other.0 is other.1 hidden
          (meet.block ∙ ap (λ (it : Ahead). it.block) law.1.goes) goes.0 goes.1 owes;
    }
behind_asking eyes me place there (op.Put field index value) awaited on are is hidden within law asks =
    deep_behind eyes me place there law.0 are is hidden within law.1.1 law.2 (ap (λ (it : Ahead). it.block) law.1.3)
behind_asking eyes me place there (op.Send x to) awaited on are is hidden within law asks =
    deep_behind eyes me place there law.0 are is hidden within law.1.1.1 law.2 (ap (λ (it : Ahead). it.block) law.1.2)
behind_asking eyes me place there (op.Pass x to) awaited on are is hidden within law asks =
    deep_behind eyes me place there law.0 are is hidden within law.1.1.1 law.2 (ap (λ (it : Ahead). it.block) law.1.2)
behind_asking eyes me place there (op.Ask entry to) awaited on are is hidden within law asks =
    deep_behind eyes me place there law.0 are is hidden within law.1.2 law.2 (ap (λ (it : Ahead). it.block) law.1.3.1)
behind_asking eyes me place there (op.Ret x value) awaited on are is hidden within law asks =
    deep_behind eyes me place there law.0 are is hidden within law.1.1 law.2 (ap (λ (it : Ahead). it.block) law.1.3)
behind_asking eyes me place there (op.Let x value) awaited on are is hidden within law asks = absurd asks
behind_asking eyes me place there (op.Frame site) awaited on are is hidden within law asks = absurd asks
behind_asking eyes me place there (op.Arg x value) awaited on are is hidden within law asks = absurd asks
behind_asking eyes me place there (op.Push entry) awaited on are is hidden within law asks = absurd asks
behind_asking eyes me place there (op.Go entry to) awaited on are is hidden within law asks = absurd asks
behind_asking eyes me place there (op.Call entry to) awaited on are is hidden within law asks = absurd asks
behind_asking eyes me place there (op.GoWith entry to riders) awaited on are is hidden within law asks = absurd asks
behind_asking eyes me place there (op.CallWith entry to riders) awaited on are is hidden within law asks = absurd asks
behind_asking eyes me place there op.Back awaited on are is hidden within law asks = absurd asks
behind_asking eyes me place there (op.Branch guard target) awaited on are is hidden within law asks = absurd asks

-- ---- the thread that waits

-- The thread for which an answer is on its way, which is the only one that waits unseen, is the one that is found.
pub record Found (eyes : Eyes) (state : HostState) (waiting : WaitingShape) (awaited : Awaited) (request : RequestId)
    (from : HostId) : Type 0 where
  pub place : ℕ
  pub is : place_of_awaiting state awaited request from ≡ Some place
  pub there : slice_get state.waiting place ≡ Some waiting
  pub hidden : is_open eyes state.me waiting.request.at ≡ false
  pub well : WaitsWell eyes state.me waiting
  pub none : hidden_waiting eyes state.me (remove state.waiting place) ≡ []

answer_awaited : (waiting : WaitingShape) (awaited : Awaited) (request : RequestId) (from : HostId) →
    waiting.awaited ≡ awaited → request ≡ waiting.request → from ≡ waiting.asked →
    awaits awaited request from waiting ≡ true
answer_awaited waiting awaited request from kind number asked =
    subst (λ (a : Awaited). awaits a request from waiting ≡ true) kind
    (subst (λ (r : RequestId). awaits waiting.awaited r from waiting ≡ true) (sym number)
    (subst (λ (h : HostId). awaits waiting.awaited waiting.request h waiting ≡ true) (sym asked)
    (all_true (is_same_answer waiting.awaited waiting.awaited) (waiting.request.at == waiting.request.at)
    (waiting.request.count == waiting.request.count) (waiting.asked.0 == waiting.asked.0) (same waiting.awaited)
    (itself waiting.request.at) (itself waiting.request.count) (itself waiting.asked.0))))
  where
    same : (a : Awaited) → is_same_answer a a ≡ true
    same value_of_field = refl
    same acknowledgement = refl
    same token_of_entry = refl

    all_true : (a b c d : Bool) → a ≡ true → b ≡ true → c ≡ true → d ≡ true → ((a && (b && c)) && d) ≡ true
    all_true true true true true one two three four = refl
    all_true true true true false one two three four = absurd (false≢true four)
    all_true true true false d one two three four = absurd (false≢true three)
    all_true true false c d one two three four = absurd (false≢true two)
    all_true false b c d one two three four = absurd (false≢true one)

pub found_waiting : (eyes : Eyes) (state : HostState) (from : HostId) (waiting : WaitingShape) (awaited : Awaited)
    (request : RequestId) → hidden_waiting eyes state.me state.waiting ≡ waiting ∷ [] →
    ((place : ℕ) (one : WaitingShape) → slice_get state.waiting place ≡ Some one → WaitsWell eyes state.me one) →
    AsksAt eyes state.me request.at awaited from → request ≡ waiting.request → from ≡ waiting.asked →
    Found eyes state waiting awaited request from
found_waiting eyes state from waiting awaited request only each asks number asked =
    let unseen : WaitingShape → Bool = λ one. not (waits_open eyes state.me one) in
    let there = only_there unseen state.waiting waiting only in
    let hidden : is_open eyes state.me waiting.request.at ≡ false =
    not_left (is_open eyes state.me waiting.request.at) there.2 in
    let well = each there.0 waiting there.1 in
    let kind : waiting.awaited ≡ awaited =
    same_awaited eyes state.me waiting.request.at waiting.awaited awaited waiting.asked from well.2
    (subst (λ (r : RequestId). AsksAt eyes state.me r.at awaited from) number asks) in
    let passes = answer_awaited waiting awaited request from kind number asked in
    let first = position_there (awaits awaited request from) state.waiting there.0 waiting there.1 passes in
    let within = (position-Some (awaits awaited request from) state.waiting first.0 waiting first.1).0 in
    let one = get_or state.waiting first.0 waiting in
    let at_first : slice_get state.waiting first.0 ≡ Some one = slice_get-get_or state.waiting first.0 waiting within in
    let same = awaits_at state awaited request from first.0 one first.1 at_first in
    let place : one.request.at ≡ request.at =
    same_place (is_same_answer one.awaited awaited) one.request.at request.at 0
    (one.request.count == request.count) (one.asked.0 == from.0) same in
    let one_hidden : is_open eyes state.me one.request.at ≡ false =
    ap (is_open eyes state.me) (place ∙ ap (λ (r : RequestId). r.at) number) ∙ hidden in
    let taken = only_taken unseen state.waiting first.0 one waiting at_first (ap not one_hidden) only in
    record {
      place = first.0;
      is = first.1;
      there = at_first ∙ ap Some taken.0;
      hidden = hidden;
      well = well;
      none = taken.1;
    }

-- ---- the thread goes on

pub answer_ends : (eyes : Eyes) (state : HostState) (from : HostId) (waiting : WaitingShape) (flight : Flight)
    (links : List HiddenEntry) (before token : Token) (owed : OwedInView) (now shown : LowView) (awaited : Awaited)
    (request : RequestId) (answered : ThreadShape → ThreadShape) →
    Taken eyes state (waits state.me waiting from state.me flight) links
    (at state.me waiting.request.at waiting.thread.frame before) owed now shown from flight → before ≡ token →
    Found eyes state waiting awaited request from → (answered waiting.thread).at ≡ waiting.thread.at →
    (answered waiting.thread).frame ≡ waiting.thread.frame → (answered waiting.thread).held ≡ Some token →
    waiting.request.at + 1 < length (part_of eyes.code state.me) →
    Ends eyes state.me (waits state.me waiting from state.me flight) links now shown flight.label
    (record {
      state = after_answer state (place_of_awaiting state awaited request from) answered;
      sent = None;
    })
answer_ends eyes state from waiting flight links before token owed now shown awaited request answered take same found
    place frame held within =
    let me = state.me in
    let thread = answered waiting.thread in
    let new : HostState = record state {
      running = option_map (λ (one : WaitingShape). answered one.thread) (slice_get state.waiting found.place);
      waiting = remove state.waiting found.place;
    } in
    let runs_it : new.running ≡ Some thread =
    ap (option_map (λ (one : WaitingShape). answered one.thread)) found.there in
    let at_next : thread.at ≡ waiting.request.at + 1 = place ∙ found.well.0 in
    let asks = found.well.2 in
    let shaded = are_shaded asks.0 asks.1 in
    let behind = behind_asking eyes me waiting.request.at asks.1.0 asks.0 waiting.awaited waiting.asked take.are
    asks.1.1
    found.hidden within shaded asks.2 in
    let hidden : is_open eyes me thread.at ≡ false = ap (is_open eyes me) at_next ∙ behind.hidden in
    let owes : Owes eyes (at me thread.at thread.frame token) links owed =
    subst (λ (n : ℕ). Owes eyes (at me n thread.frame token) links owed) (sym at_next)
    (subst (λ (f : FrameId). Owes eyes (at me (waiting.request.at + 1) f token) links owed) (sym frame)
    (behind.owes links owed waiting.thread.frame token
    (subst (λ (t : Token). Owes eyes (at me waiting.request.at waiting.thread.frame t) links owed) same take.owes))) in
    subst (λ found_at. Ends eyes me (waits me waiting from me flight) links now shown flight.label (record {
      state = after_answer state found_at answered;
      sent = None;
    })) (sym found.is)
    (record {
      later = runs me thread;
      sends = λ i j. refl;
      leaves = record {
        own = refl;
        chain = links;
        hides = record {
          running = unseen_runs eyes me new.running thread runs_it hidden;
          waiting = found.none;
          entries = take.hides.entries;
        };
        runs_apart = λ other apart. runs_apart me other thread apart;
        waits_apart = λ other apart. sym (waits_apart me other from me waiting flight apart);
        links_apart = λ other apart. refl;
        spot = at me thread.at thread.frame token;
        held = (token, held, refl);
        owed = owed;
        owes = owes;
        well = take.owed_well;
        view = now;
        shows = still_shows eyes me state new (now.hosts me) take.shows (record {
          key = refl;
          rows = λ field seen. refl;
          variables = λ other x seen. refl;
          waiting = left_removed (waits_open eyes me) state.waiting found.place waiting found.there found.hidden;
          serials = λ number shows. refl;
          frames = λ site label is seen. refl;
          requests = λ one seen. refl;
        }) (nothing_seen eyes me new.running thread runs_it hidden ∙ ap (running_view eyes me) (sym take.rests)) refl;
        others = λ other apart. refl;
        flying = refl;
        sent = refl;
        completed = take.completed;
      };
    })
  where
    are_shaded : (it : Op) (at_it : IsInstructionAt eyes state.me waiting.request.at it) →
        IsShadedOp eyes.scene eyes.shades state.me waiting.request.at it
    are_shaded it at_it =
        subst (IsShadedOp eyes.scene eyes.shades state.me waiting.request.at) at_it.2
        (take.are.shaded.instructions state.me waiting.request.at at_it.0 at_it.1).law
