-- An event has one row, so a run has one list of rows.
use Rattle.std.proofs.Common.{◌≡◌, ◌⊎◌, ◌∙◌, ℕ, ◌+◌, Bool, true, false, List, [], ◌∷◌, ◌++◌, length, Option, Some, None}
use Rattle.std.proofs.Common.{ap, sym, refl, subst, inl, inr, arith, length-append}
use Rattle.std.specs.Prelude.{◌↔◌, IsTrue, IsSomeAnd, slice_get}
use Rattle.std.proofs.lemmas.Bool.Decides.{eqb_tells}
use Rattle.js_base.specs.declared.ids.HostId.{HostId}
use Rattle.ics_stack.specs.declared.stack.StackEntry.{StackEntry}
use Rattle.js_base.specs.declared.ids.EntryId.{EntryId}
use Rattle.host_code.specs.declared.message.Message.{Message}
use Rattle.host_code.specs.Code.{CodeShape}
use Rattle.host_core.specs.Host.{HostState}
use Rattle.event_text.specs.declared.event.Event.{Event}
use Rattle.event_text.specs.declared.event.Event.TheVariants.{Take, Turn, Act}
use Rattle.net_world.specs.Flying.{Flight, Flying, with_flights}
use Rattle.net_world.specs.Told.{SentMessage, message_made}
use Rattle.net_world.specs.World.{WorldShape, state_at, tokens_sent, mover}
use Rattle.net_world.proofs.Present.{same_id}
use Rattle.net_world.proofs.StepLaws.{one_step}
use Rattle.ignored_reasons.specs.declared.why.Why.{Why}
use Rattle.ignored_reasons.specs.Reasons.{IsWhy}
use Rattle.run_rows.specs.declared.row.Change.{Change}
use Rattle.run_rows.specs.declared.row.Change.TheVariants as change
use Rattle.run_rows.specs.declared.row.Row.{Row}
use Rattle.run_rows.specs.declared.row.What.{What}
use Rattle.run_rows.specs.Rows.{Moment, IsWhat, IsIgnoring, IsTelling, IsRunRow, IsSending, IsPictured, moment_after}
use Rattle.run_rows.specs.Senders.{IsPosting, flying_left}
use Rattle.run_rows.specs.Stacks.{HasChanged}
use Rattle.run_rows.proofs.Postings.{cell_same, cell_other}
use Rattle.run_rows.proofs.RowLaws.{pushed, taken_off, same}

-- what two facts say of the one thing that is there
both_there : {X : Type 0} (found : Option X) (P Q : X → Type 0) (R : Type 0) → ((x : X) → P x → Q x → R) →
    IsSomeAnd found P → IsSomeAnd found Q → R
both_there None P Q R each one other = absurd one
both_there (Some x) P Q R each one other = each x one other

one_what : (world : WorldShape) (event : Event) (first second : What) → IsWhat world event first →
    IsWhat world event second → first ≡ second
one_what world (Turn host) first second one other =
    both_there (state_at world host) _ _ _
    (λ state. both_there state.running _ _ _ (λ thread is too. is ∙ sym too)) one other
one_what world (Take from to place) first second one other =
    both_there (slice_get (world.flying from to) place) _ _ _ (λ flight is too. is ∙ sym too) one other
one_what world (Act from to made) first second one other = one ∙ sym other

abbrev pub OneWhy : CodeShape → Type 0
OneWhy code = (host : HostState) (from : HostId) (taken : Message) (one other : Option Why) →
    IsWhy code host from taken one → IsWhy code host from taken other → one ≡ other

either_way : {P : Type 0} (first second wrong right : Option Why) → (P × (first ≡ wrong)) ⊎ (¬ P × (first ≡ right)) →
    (P × (second ≡ wrong)) ⊎ (¬ P × (second ≡ right)) → first ≡ second
either_way first second wrong right (inl one) (inl other) = one.1 ∙ sym other.1
either_way first second wrong right (inl one) (inr other) = absurd (other.0 one.0)
either_way first second wrong right (inr one) (inl other) = absurd (one.0 other.0)
either_way first second wrong right (inr one) (inr other) = one.1 ∙ sym other.1

one_ignoring : (code : CodeShape) (world : WorldShape) (event : Event) (first second : Option Why) → OneWhy code →
    IsIgnoring code world event first → IsIgnoring code world event second → first ≡ second
one_ignoring code world (Turn host) first second why one other =
    both_there (state_at world host) _ _ _ (λ state is too. either_way first second _ _ is too) one other
one_ignoring code world (Take from to place) first second why one other =
    both_there (slice_get (world.flying from to) place) _ _ _
    (λ flight. both_there (state_at world to) _ _ _
    (λ state is too. why state from flight.message first second is too)) one other
one_ignoring code world (Act from to made) first second why one other =
    both_there (message_made (tokens_sent world) made) _ _ _
    (λ taken. both_there (state_at world to) _ _ _ (λ state is too. why state from taken first second is too)) one other

no_more : {X : Type 0} (xs ys : List X) (x : X) → ys ≡ xs → ys ≡ xs ++ x ∷ [] → ⊥
no_more xs ys x stays more =
    let long : length ys ≡ length xs = ap length stays in
    let longer : length ys ≡ length xs + 1 = ap length more ∙ length-append xs (x ∷ []) in
    omega (arith, long, longer)

one_telling : (before after : List SentMessage) (first second : Option ℕ) → IsTelling before after first →
    IsTelling before after second → first ≡ second
one_telling before after None None one other = refl
one_telling before after None (Some n) one (letter, more, is) = absurd (no_more before after letter one more)
one_telling before after (Some n) None (letter, more, is) other = absurd (no_more before after letter other more)
one_telling before after (Some m) (Some n) (letter, more, is) (other, too, at) =
    ap (λ (k : ℕ). Some k) (is ∙ sym at)

one_change : (before after : List StackEntry) (first second : Change) → HasChanged before after first →
    HasChanged before after second → first ≡ second
one_change before after change.Same second one other = sym (same before after second other one)
one_change before after (change.Pushed entry) second (top, is, it) other =
    sym (pushed before after top second other is ∙ ap (λ (e : EntryId). change.Pushed e) it)
one_change before after (change.TakenOff entry) second (top, is, it) other =
    sym (taken_off before after top second other is ∙ ap (λ (e : EntryId). change.TakenOff e) it)

one_truth : {P : Type 0} (first second : Bool) → (IsTrue first ↔ P) → (IsTrue second ↔ P) → first ≡ second
one_truth true true one other = refl
one_truth true false one other = sym (other.1 (one.0 refl))
one_truth false true one other = one.1 (other.0 refl)
one_truth false false one other = refl

-- ---- to whom an event sent

nothing_or_one : (left next : Flying) (from to : HostId) (flight : Flight) → next ≡ left →
    next ≡ with_flights left from to (left from to ++ flight ∷ []) → ⊥
nothing_or_one left next from to flight stays more =
    no_more (left from to) (next from to) flight (ap (λ (flying : Flying). flying from to) stays)
    (ap (λ (flying : Flying). flying from to) more ∙ cell_same left from to (left from to ++ flight ∷ []))

one_target : (left next : Flying) (from to other : HostId) (flight letter : Flight) →
    next ≡ with_flights left from to (left from to ++ flight ∷ []) →
    next ≡ with_flights left from other (left from other ++ letter ∷ []) → to ≡ other
one_target left next from to other flight letter first second = elim (eqb_tells to.0 other.0) [
  | inl at ↦ same_id to other at.1
  | inr apart ↦ absurd (no_more (left from to) (next from to) flight
      (ap (λ (flying : Flying). flying from to) second
      ∙ cell_other left from other to (left from other ++ letter ∷ []) apart.1)
      (ap (λ (flying : Flying). flying from to) first ∙ cell_same left from to (left from to ++ flight ∷ [])))
]

one_posting : (world : WorldShape) (event : Event) (next : WorldShape) (first second : Option HostId) →
    IsPosting world event next first → IsPosting world event next second → first ≡ second
one_posting world event next None None one other = refl
one_posting world event next None (Some to) one (flight, more) =
    absurd (nothing_or_one (flying_left world event) next.flying (mover event) to flight one more)
one_posting world event next (Some to) None (flight, more) other =
    absurd (nothing_or_one (flying_left world event) next.flying (mover event) to flight other more)
one_posting world event next (Some to) (Some other) (flight, more) (letter, too) =
    ap (λ (host : HostId). Some host)
    (one_target (flying_left world event) next.flying (mover event) to other flight letter more too)

-- ---- rows

one_row : (code : CodeShape) (at : Moment) (one : ℕ × Event) (next : WorldShape) (first second : Row) → OneWhy code →
    IsRunRow code at.world one next first → IsSending at one.1 next first → IsRunRow code at.world one next second →
    IsSending at one.1 next second → first ≡ second
one_row code at one next first second why is sends too sends_too =
    let line = is.line ∙ sym too.line in
    let what = one_what at.world one.1 first.what second.what is.what too.what in
    let sent_by = sends.sent_by ∙ sym sends_too.sent_by in
    let posts = one_posting at.world one.1 next first.posts second.posts sends.posts sends_too.posts in
    let ignored = one_ignoring code at.world one.1 first.ignored second.ignored why is.ignored too.ignored in
    let told = one_telling at.world.sent next.sent first.told second.told is.told too.told in
    let did = one_change _ _ first.change second.change is.change too.change in
    let halts = one_truth first.halts second.halts is.halts too.halts in
    let runs = is.runs ∙ sym too.runs in
    let waits = is.waits ∙ sym too.waits in
    λ i. record {
      line = line i;
      what = what i;
      sent_by = sent_by i;
      posts = posts i;
      ignored = ignored i;
      told = told i;
      change = did i;
      halts = halts i;
      runs = runs i;
      waits = waits i;
    }

pub one_list : (code : CodeShape) (at last ends : Moment) (said : List (ℕ × Event)) (rows others : List Row) →
    OneWhy code → IsPictured code at said rows last → IsPictured code at said others ends →
    (rows ≡ others) × (last ≡ ends)
one_list code at last ends [] rows others why one other = (one.0 ∙ sym other.0, sym one.1 ∙ other.1)
one_list code at last ends (event ∷ said) rows others why
    (next, row, rest, step, is, sends, same_rows, behind) (after, second, more, leads, has, posts, same_others, later) =
    let world : after ≡ next = one_step code at.world after next event.1 leads step in
    let has_too = subst (λ (w : WorldShape). IsRunRow code at.world event w second) world has in
    let posts_too = subst (λ (w : WorldShape). IsSending at event.1 w second) world posts in
    let first : row ≡ second = one_row code at event next row second why is sends has_too posts_too in
    let moment : moment_after at event.1 after second.posts ≡ moment_after at event.1 next row.posts =
    ap (λ (w : WorldShape). moment_after at event.1 w second.posts) world
    ∙ ap (λ (r : Row). moment_after at event.1 next r.posts) (sym first) in
    let rest_too = subst (λ (m : Moment). IsPictured code m said more ends) moment later in
    let tails = one_list code (moment_after at event.1 next row.posts) last ends said rest more why behind rest_too in (
      same_rows ∙ ap (λ (r : Row). r ∷ rest) first ∙ ap (λ (rs : List Row). second ∷ rs) tails.0 ∙ sym same_others,
      tails.1,
    )
