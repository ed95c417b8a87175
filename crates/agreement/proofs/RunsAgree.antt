-- Two runs of which the same is seen, and which release the same as far as both go, tell misbehaving hosts the same.
use Rattle.std.proofs.Common.{◌≡◌, ◌∙◌, ℕ, suc, List, [], ◌∷◌, ◌++◌, inl, inr, refl, ap, sym, subst, arith}
use Rattle.std.proofs.Common.{append_assoc, append-nil}
use Rattle.std.specs.Prelude.{ℤ, ◌⊎◌, All}
use Rattle.capability.specs.declared.token.Token.{Token}
use Rattle.ics_stack.specs.declared.stack.StackEntry.{StackEntry}
use Rattle.host_decl.specs.Hosts as declared_hosts
use Rattle.host_code.specs.Code.{CodeShape}
use Rattle.host_code.specs.Sound.{IsSoundCode}
use Rattle.event_text.specs.declared.event.Event.{Event}
use Rattle.event_text.specs.declared.event.Event.TheVariants.{Take, Turn, Act}
use Rattle.net_world.specs.Fits.{HasOwnToken}
use Rattle.net_world.specs.Released.{OneIsFront, Releases, AreReleased}
use Rattle.net_world.specs.Secret.{IsSecret, IsQuiet, IsSeenRun, IsPrompt}
use Rattle.net_world.specs.Told.{SentMessage}
use Rattle.net_world.specs.World.{WorldShape, AreHostsOf, IsStep, world_at_start}
use Rattle.net_world.proofs.Shapes.{own_kept}
use Rattle.net_world.proofs.StepLaws.{told_more}
use Rattle.split_rules.specs.Releases.{ReleasesShape}
use Rattle.split_shades.specs.ShadedCode.{IsTabled}
use Rattle.token_laws.specs.Reached.{IsReached}
use Rattle.token_laws.proofs.Walks.{one_more}
use Rattle.seen_world.specs.Eyes.{Eyes, AreEyes, Watches}
use Rattle.agreement.specs.Alike.{AreStartsAlike}
use Rattle.agreement.specs.Leads.{Leads, Agree}
use Rattle.agreement.specs.Views.{LowView, OwedInView, nothing, goes_on, gives, GivenBack, Completed}
use Rattle.agreement.proofs.AnyTurns.{any_agrees}
use Rattle.agreement.proofs.HiddenEvents.{secret_own, no_event, run_agrees}
use Rattle.agreement.proofs.Lists.{same_chunk}
use Rattle.agreement.proofs.ReleasedRuns.{secret_none, quiet_releases, as_many}
use Rattle.agreement.proofs.SeenActs.{acts_agree}
use Rattle.agreement.proofs.Starts.{starts_agree}
use Rattle.agreement.proofs.TakesAgree.{takes_agree}

-- ---- what misbehaving hosts were sent

given_sent : (eyes : Eyes) (now shown : LowView) (token : Token) (entries : List StackEntry) →
    GivenBack eyes now token entries shown → shown.sent ≡ now.sent
given_sent eyes now shown token [] is = ap (λ (v : LowView). v.sent) is
given_sent eyes now shown token (top ∷ below) (inl same) = ap (λ (v : LowView). v.sent) same.1
given_sent eyes now shown token (top ∷ below) (inr apart) = ap (λ (v : LowView). v.sent) apart.1

completed_sent : (eyes : Eyes) (owed : OwedInView) (now shown : LowView) → Completed eyes owed now shown →
    shown.sent ≡ now.sent
completed_sent eyes nothing now shown is = ap (λ (v : LowView). v.sent) is
completed_sent eyes (goes_on host place frame token) now shown is = ap (λ (v : LowView). v.sent) is
completed_sent eyes (gives token) now shown is =
    given_sent eyes now shown token (now.hosts token.host).entries is

leads_sent : (eyes : Eyes) (world : WorldShape) (shown : LowView) → Leads eyes world shown → world.sent ≡ shown.sent
leads_sent eyes world shown leads =
    leads.shows.sent ∙ sym (completed_sent eyes leads.owed leads.now shown leads.completed)

-- in worlds that agree misbehaving hosts were sent the same
pub agree_sent : (eyes : Eyes) (one other : WorldShape) → Agree eyes one other → one.sent ≡ other.sent
agree_sent eyes one other agree =
    leads_sent eyes one agree.shown agree.first ∙ sym (leads_sent eyes other agree.shown agree.second)

turned_round : (eyes : Eyes) (one other : WorldShape) → Agree eyes one other → Agree eyes other one
turned_round eyes one other agree = record { shown = agree.shown; first = agree.second; second = agree.first }

-- a run only adds to what they were sent
told_along : (code : CodeShape) (world : WorldShape) (events seen : List Event) (after : WorldShape) →
    IsSeenRun code world events seen after → (more : List SentMessage) × (after.sent ≡ world.sent ++ more)
told_along code world [] seen after ran =
    ([], ap (λ (w : WorldShape). w.sent) (sym ran.1) ∙ sym (append-nil world.sent))
told_along code world (event ∷ events) seen after (next, step, inl secret) =
    let first = told_more code world next event step in
    let rest = told_along code next events seen after secret.1 in
    (first.0 ++ rest.0, rest.1 ∙ ap (λ all. all ++ rest.0) first.1 ∙ append_assoc world.sent first.0 rest.0)
told_along code world (event ∷ events) seen after (next, step, inr visible) =
    let first = told_more code world next event step in
    let rest = told_along code next events visible.1.0 after visible.1.2 in
    (first.0 ++ rest.0, rest.1 ∙ ap (λ all. all ++ rest.0) first.1 ∙ append_assoc world.sent first.0 rest.0)

-- ---- one event

-- two quiet worlds that agree do after the same event, where it releases the same in both
pub event_agrees : (eyes : Eyes) (rows : List declared_hosts.HostShape) (bad : ℕ) (store start : List (List ℤ))
    (events others : List Event) (one other one_after other_after : WorldShape) (event : Event) (table : ReleasesShape)
    (own : List ℤ) → AreEyes eyes → IsTabled eyes.code eyes.shades table → Releases eyes.code table one event own →
    Releases eyes.code table other event own → Watches eyes (world_at_start eyes.code rows bad store) →
    Watches eyes (world_at_start eyes.code rows bad start) → IsReached eyes.code rows bad store events one →
    IsReached eyes.code rows bad start others other → HasOwnToken (world_at_start eyes.code rows bad store) event →
    IsStep eyes.code one event one_after → IsStep eyes.code other event other_after → IsQuiet eyes.code one →
    IsQuiet eyes.code other → Agree eyes one other → Agree eyes one_after other_after
event_agrees eyes rows bad store start events others one other one_after other_after (Take from to place) table own are
    tabled releases releases_other watch watch_other reach reach_other has step twin quiet quiet_other agree =
    takes_agree eyes rows bad store start events others one other one_after other_after from to place are watch
    watch_other reach reach_other step twin quiet quiet_other agree
event_agrees eyes rows bad store start events others one other one_after other_after (Turn host) table own are tabled
    releases releases_other watch watch_other reach reach_other has step twin quiet quiet_other agree =
    any_agrees eyes rows bad store start events others one other one_after other_after host table are tabled
    (sym (quiet_releases eyes.code table one host own quiet releases)
    ∙ quiet_releases eyes.code table other host own quiet_other releases_other) watch watch_other reach reach_other step
    twin quiet quiet_other agree
event_agrees eyes rows bad store start events others one other one_after other_after (Act from to made) table own are
    tabled releases releases_other watch watch_other reach reach_other has step twin quiet quiet_other agree =
    acts_agree eyes rows bad store start events others one other one_after other_after from to made are watch
    watch_other reach reach_other has step twin quiet quiet_other agree

-- ---- the first event that is seen

-- A run up to its first event that may be seen, before which the world is quiet, and what comes after it. What it
-- releases is what that event does, and what is released after it.
record Cut (code : CodeShape) (table : ReleasesShape) (world : WorldShape) (event : Event) (rest : List Event)
    (after : WorldShape) (values : List ℤ) : Type 0 where
  hidden : List Event
  middle : WorldShape
  ran : IsSeenRun code world hidden [] middle
  quiet : IsQuiet code middle
  next : WorldShape
  step : IsStep code middle event next
  later : List Event
  seen : IsSeenRun code next later rest after
  prompt : IsPrompt code next later
  own : List ℤ
  more : List ℤ
  releases : Releases code table middle event own
  is : values ≡ own ++ more
  released : AreReleased code table next later more

quiet_there : (code : CodeShape) (world : WorldShape) (event : Event) → ¬ (IsSecret code world event) →
    (IsSecret code world event ⊎ IsQuiet code world) → IsQuiet code world
quiet_there code world event open_one (inl secret) = absurd (open_one secret)
quiet_there code world event open_one (inr quiet) = quiet

cut : (code : CodeShape) (table : ReleasesShape) (world : WorldShape) (events : List Event) (event : Event)
    (rest : List Event) (after : WorldShape) (values : List ℤ) → IsSeenRun code world events (event ∷ rest) after →
    IsPrompt code world events → AreReleased code table world events values →
    Cut code table world event rest after values
cut code table world [] event rest after values ran prompt released = no_event event rest (sym ran.0)
cut code table world (first ∷ events) event rest after values (next, step, inl secret) prompt released =
    let more = cut code table next events event rest after released.1 secret.1 (prompt.1 next step)
    (released.4 next step) in
    record {
      hidden = first ∷ more.hidden;
      middle = more.middle;
      ran = (next, step, inl (secret.0, more.ran));
      quiet = more.quiet;
      next = more.next;
      step = more.step;
      later = more.later;
      seen = more.seen;
      prompt = more.prompt;
      own = more.own;
      more = more.more;
      releases = more.releases;
      is = released.3
          ∙ ap (λ own. own ++ released.1) (secret_none code table world first released.0 secret.0 released.2)
          ∙ more.is;
      released = more.released;
    }
cut code table world (first ∷ events) event rest after values (next, step, inr visible) prompt released =
    let others = visible.1.0 in
    let is : event ∷ rest ≡ first ∷ others = visible.1.1 in
    let same : first ≡ event = cc in
    let left : others ≡ rest = cc in
    record {
      hidden = [];
      middle = world;
      ran = (refl, refl);
      quiet = quiet_there code world first visible.0 prompt.0;
      next = next;
      step = subst (λ (e : Event). IsStep code world e next) same step;
      later = events;
      seen = subst (λ all. IsSeenRun code next events all after) left visible.1.2;
      prompt = prompt.1 next step;
      own = released.0;
      more = released.1;
      releases = subst (λ (e : Event). Releases code table world e released.0) same released.2;
      is = released.3;
      released = released.4 next step;
    }

-- events lead to the world after some that may not be seen
reached_unseen : (eyes : Eyes) (rows : List declared_hosts.HostShape) (bad : ℕ) (store : List (List ℤ))
    (before : List Event) (world : WorldShape) (later : List Event) (after : WorldShape) →
    IsReached eyes.code rows bad store before world → IsSeenRun eyes.code world later [] after →
    (all : List Event) × IsReached eyes.code rows bad store all after
reached_unseen eyes rows bad store before world [] after reach ran =
    (before, subst (IsReached eyes.code rows bad store before) ran.1 reach)
reached_unseen eyes rows bad store before world (event ∷ later) after reach (next, step, inl secret) =
    reached_unseen eyes rows bad store (before ++ event ∷ []) next later after
    (one_more eyes.code rows bad store before world next event reach
    (secret_own eyes world (world_at_start eyes.code rows bad store) event secret.0) step) secret.1
reached_unseen eyes rows bad store before world (event ∷ later) after reach (next, step, inr visible) =
    no_event event visible.1.0 visible.1.1

-- ---- two runs

-- Two worlds that events lead to and that agree, with what is known of the code and of the starts.
record Pair (eyes : Eyes) (table : ReleasesShape) (rows : List declared_hosts.HostShape) (bad : ℕ)
    (store start : List (List ℤ)) (one other : WorldShape) : Type 0 where
  are : AreEyes eyes
  tabled : IsTabled eyes.code eyes.shades table
  watch : Watches eyes (world_at_start eyes.code rows bad store)
  watch_other : Watches eyes (world_at_start eyes.code rows bad start)
  before : List Event
  reach : IsReached eyes.code rows bad store before one
  earlier : List Event
  reach_other : IsReached eyes.code rows bad start earlier other
  agree : Agree eyes one other

-- what goes on unseen in both leaves two worlds that agree
pair_unseen : (eyes : Eyes) (table : ReleasesShape) (rows : List declared_hosts.HostShape) (bad : ℕ)
    (store start : List (List ℤ)) (one other : WorldShape) (events others : List Event)
    (one_after other_after : WorldShape) → Pair eyes table rows bad store start one other →
    IsSeenRun eyes.code one events [] one_after → IsSeenRun eyes.code other others [] other_after →
    Pair eyes table rows bad store start one_after other_after
pair_unseen eyes table rows bad store start one other events others one_after other_after pair ran ran_other =
    let first = run_agrees eyes rows bad store pair.before one events one_after other pair.are pair.watch pair.reach ran
    pair.agree in
    let second = run_agrees eyes rows bad start pair.earlier other others other_after one_after pair.are
    pair.watch_other pair.reach_other ran_other (turned_round eyes one_after other first) in
    let reach = reached_unseen eyes rows bad store pair.before one events one_after pair.reach ran in
    let reach_other =
    reached_unseen eyes rows bad start pair.earlier other others other_after pair.reach_other ran_other in
    record {
      are = pair.are;
      tabled = pair.tabled;
      watch = pair.watch;
      watch_other = pair.watch_other;
      before = reach.0;
      reach = reach.1;
      earlier = reach_other.0;
      reach_other = reach_other.1;
      agree = turned_round eyes other_after one_after second;
    }

-- and so does the same event in both, where it releases the same
pair_event : (eyes : Eyes) (table : ReleasesShape) (rows : List declared_hosts.HostShape) (bad : ℕ)
    (store start : List (List ℤ)) (one other one_after other_after : WorldShape) (event : Event) (own : List ℤ) →
    Pair eyes table rows bad store start one other → Releases eyes.code table one event own →
    Releases eyes.code table other event own → HasOwnToken (world_at_start eyes.code rows bad store) event →
    IsStep eyes.code one event one_after → IsStep eyes.code other event other_after → IsQuiet eyes.code one →
    IsQuiet eyes.code other → Pair eyes table rows bad store start one_after other_after
pair_event eyes table rows bad store start one other one_after other_after event own pair releases releases_other has
    step twin quiet quiet_other =
    let has_other : HasOwnToken (world_at_start eyes.code rows bad start) event =
    own_kept (world_at_start eyes.code rows bad store) (world_at_start eyes.code rows bad start) event
    (λ host. pair.watch_other host ∙ sym (pair.watch host)) has in
    record {
      are = pair.are;
      tabled = pair.tabled;
      watch = pair.watch;
      watch_other = pair.watch_other;
      before = pair.before ++ event ∷ [];
      reach = one_more eyes.code rows bad store pair.before one one_after event pair.reach has step;
      earlier = pair.earlier ++ event ∷ [];
      reach_other = one_more eyes.code rows bad start pair.earlier other other_after event pair.reach_other has_other
          twin;
      agree = event_agrees eyes rows bad store start pair.before pair.earlier one other one_after other_after event
          table own pair.are pair.tabled releases releases_other pair.watch pair.watch_other pair.reach
          pair.reach_other has step twin quiet quiet_other pair.agree;
    }

-- Two runs up to behind the first event that is seen of both. It releases as many values in both, which are the same as
-- what the runs release is, as far as both go.
pair_cut : (eyes : Eyes) (table : ReleasesShape) (rows : List declared_hosts.HostShape) (bad : ℕ)
    (store start : List (List ℤ)) (one other : WorldShape) (event : Event) (rest more : List Event)
    (one_after other_after : WorldShape) (values others_values : List ℤ) →
    Pair eyes table rows bad store start one other → OneIsFront values others_values →
    HasOwnToken (world_at_start eyes.code rows bad store) event →
    (first : Cut eyes.code table one event rest one_after values)
    (second : Cut eyes.code table other event more other_after others_values) →
    Pair eyes table rows bad store start first.next second.next × OneIsFront first.more second.more
pair_cut eyes table rows bad store start one other event rest more one_after other_after values others_values pair alike
    has first second =
    let middle = pair_unseen eyes table rows bad store start one other first.hidden second.hidden first.middle
    second.middle pair first.ran second.ran in
    let many = as_many eyes rows bad store start middle.before middle.earlier first.middle second.middle first.next
    second.next event table first.own second.own middle.are middle.watch middle.watch_other middle.reach
    middle.reach_other first.step second.step first.quiet second.quiet middle.agree first.releases second.releases in
    let both : OneIsFront (first.own ++ first.more) (second.own ++ second.more) =
    subst (OneIsFront (first.own ++ first.more)) second.is
    (subst (λ (all : List ℤ). OneIsFront all others_values) first.is alike) in
    let parts = same_chunk first.own second.own first.more second.more many both in (
      pair_event eyes table rows bad store start first.middle second.middle first.next second.next event first.own
          middle first.releases
          (subst (Releases eyes.code table second.middle event) (sym parts.0) second.releases) has first.step
          second.step first.quiet second.quiet,
      parts.1,
    )

runs_pair : (eyes : Eyes) (table : ReleasesShape) (rows : List declared_hosts.HostShape) (bad : ℕ)
    (store start : List (List ℤ)) (one other : WorldShape) (events others : List Event) (seen : List Event)
    (one_after other_after : WorldShape) (values others_values : List ℤ) →
    Pair eyes table rows bad store start one other → AreReleased eyes.code table one events values →
    AreReleased eyes.code table other others others_values → OneIsFront values others_values →
    All (HasOwnToken (world_at_start eyes.code rows bad store)) seen → IsSeenRun eyes.code one events seen one_after →
    IsSeenRun eyes.code other others seen other_after → IsPrompt eyes.code one events →
    IsPrompt eyes.code other others → Pair eyes table rows bad store start one_after other_after
runs_pair eyes table rows bad store start one other events others [] one_after other_after values others_values pair
    released released_other alike own ran ran_other prompt prompt_other =
    pair_unseen eyes table rows bad store start one other events others one_after other_after pair ran ran_other
runs_pair eyes table rows bad store start one other events others (event ∷ seen) one_after other_after values
    others_values pair released released_other alike own ran ran_other prompt prompt_other =
    let first = cut eyes.code table one events event seen one_after values ran prompt released in
    let second =
    cut eyes.code table other others event seen other_after others_values ran_other prompt_other released_other in
    let behind = pair_cut eyes table rows bad store start one other event seen seen one_after other_after values
    others_values pair alike (own 0 event (omega arith)) first second in
    runs_pair eyes table rows bad store start first.next second.next first.later second.later seen one_after other_after
    first.more second.more behind.0 first.released second.released behind.1 (λ k d lt. own (suc k) d (omega arith))
    first.seen second.seen first.prompt second.prompt

-- what is sent in a run of which no less is seen goes on where the other ends
runs_tell : (eyes : Eyes) (table : ReleasesShape) (rows : List declared_hosts.HostShape) (bad : ℕ)
    (store start : List (List ℤ)) (one other : WorldShape) (events others : List Event) (seen more : List Event)
    (one_after other_after : WorldShape) (values others_values : List ℤ) →
    Pair eyes table rows bad store start one other → AreReleased eyes.code table one events values →
    AreReleased eyes.code table other others others_values → OneIsFront values others_values →
    All (HasOwnToken (world_at_start eyes.code rows bad store)) seen →
    IsSeenRun eyes.code one events (seen ++ more) one_after → IsSeenRun eyes.code other others seen other_after →
    IsPrompt eyes.code one events → IsPrompt eyes.code other others →
    (rest : List SentMessage) × (one_after.sent ≡ other_after.sent ++ rest)
runs_tell eyes table rows bad store start one other events others [] more one_after other_after values others_values
    pair released released_other alike own ran ran_other prompt prompt_other =
    let ended = pair_unseen eyes table rows bad store start one other [] others one other_after pair (refl, refl)
    ran_other in
    let told = told_along eyes.code one events more one_after ran in
    (told.0, told.1 ∙ ap (λ all. all ++ told.0) (agree_sent eyes one other_after ended.agree))
runs_tell eyes table rows bad store start one other events others (event ∷ seen) more one_after other_after values
    others_values pair released released_other alike own ran ran_other prompt prompt_other =
    let first = cut eyes.code table one events event (seen ++ more) one_after values ran prompt released in
    let second =
    cut eyes.code table other others event seen other_after others_values ran_other prompt_other released_other in
    let behind = pair_cut eyes table rows bad store start one other event (seen ++ more) seen one_after other_after
    values others_values pair alike (own 0 event (omega arith)) first second in
    runs_tell eyes table rows bad store start first.next second.next first.later second.later seen more one_after
    other_after first.more second.more behind.0 first.released second.released behind.1
    (λ k d lt. own (suc k) d (omega arith)) first.seen second.seen first.prompt second.prompt

-- ---- from the starts

reached_start : (eyes : Eyes) (rows : List declared_hosts.HostShape) (bad : ℕ) (store : List (List ℤ)) →
    IsSoundCode eyes.code → AreHostsOf eyes.code rows →
    IsReached eyes.code rows bad store [] (world_at_start eyes.code rows bad store)
reached_start eyes rows bad store sound hosts = record {
  sound = sound;
  hosts = hosts;
  own = λ k d lt. absurd (omega (arith, lt));
  ran = refl;
}

pair_start : (eyes : Eyes) (table : ReleasesShape) (rows : List declared_hosts.HostShape) (bad : ℕ)
    (store start : List (List ℤ)) → AreEyes eyes → IsSoundCode eyes.code → AreHostsOf eyes.code rows →
    IsTabled eyes.code eyes.shades table → Watches eyes (world_at_start eyes.code rows bad store) →
    Watches eyes (world_at_start eyes.code rows bad start) → AreStartsAlike eyes store start →
    Pair eyes table rows bad store start (world_at_start eyes.code rows bad store)
    (world_at_start eyes.code rows bad start)
pair_start eyes table rows bad store start are sound hosts tabled watch watch_other alike = record {
  are = are;
  tabled = tabled;
  watch = watch;
  watch_other = watch_other;
  before = [];
  reach = reached_start eyes rows bad store sound hosts;
  earlier = [];
  reach_other = reached_start eyes rows bad start sound hosts;
  agree = starts_agree eyes rows bad store start are sound watch watch_other alike;
}

pub runs_agree : (eyes : Eyes) (rows : List declared_hosts.HostShape) (bad : ℕ) (store start : List (List ℤ))
    (events others seen : List Event) (one other : WorldShape) (table : ReleasesShape)
    (values others_values : List ℤ) → AreEyes eyes → IsSoundCode eyes.code → AreHostsOf eyes.code rows →
    IsTabled eyes.code eyes.shades table → Watches eyes (world_at_start eyes.code rows bad store) →
    Watches eyes (world_at_start eyes.code rows bad start) → AreStartsAlike eyes store start →
    AreReleased eyes.code table (world_at_start eyes.code rows bad store) events values →
    AreReleased eyes.code table (world_at_start eyes.code rows bad start) others others_values →
    OneIsFront values others_values → All (HasOwnToken (world_at_start eyes.code rows bad store)) seen →
    IsSeenRun eyes.code (world_at_start eyes.code rows bad store) events seen one →
    IsSeenRun eyes.code (world_at_start eyes.code rows bad start) others seen other →
    IsPrompt eyes.code (world_at_start eyes.code rows bad store) events →
    IsPrompt eyes.code (world_at_start eyes.code rows bad start) others → Agree eyes one other
runs_agree eyes rows bad store start events others seen one other table values others_values are sound hosts tabled
    watch watch_other alike released released_other values_alike own ran ran_other prompt prompt_other =
    (runs_pair eyes table rows bad store start (world_at_start eyes.code rows bad store)
    (world_at_start eyes.code rows bad start) events others seen one other values others_values
    (pair_start eyes table rows bad store start are sound hosts tabled watch watch_other alike) released released_other
    values_alike own ran ran_other prompt prompt_other).agree

pub told_alike : (eyes : Eyes) (rows : List declared_hosts.HostShape) (bad : ℕ) (store start : List (List ℤ))
    (events others seen more : List Event) (one other : WorldShape) (table : ReleasesShape)
    (values others_values : List ℤ) → AreEyes eyes → IsSoundCode eyes.code → AreHostsOf eyes.code rows →
    IsTabled eyes.code eyes.shades table → Watches eyes (world_at_start eyes.code rows bad store) →
    Watches eyes (world_at_start eyes.code rows bad start) → AreStartsAlike eyes store start →
    AreReleased eyes.code table (world_at_start eyes.code rows bad store) events values →
    AreReleased eyes.code table (world_at_start eyes.code rows bad start) others others_values →
    OneIsFront values others_values → All (HasOwnToken (world_at_start eyes.code rows bad store)) seen →
    IsSeenRun eyes.code (world_at_start eyes.code rows bad store) events (seen ++ more) one →
    IsSeenRun eyes.code (world_at_start eyes.code rows bad start) others seen other →
    IsPrompt eyes.code (world_at_start eyes.code rows bad store) events →
    IsPrompt eyes.code (world_at_start eyes.code rows bad start) others →
    (rest : List SentMessage) × (one.sent ≡ other.sent ++ rest)
told_alike eyes rows bad store start events others seen more one other table values others_values are sound hosts tabled
    watch watch_other alike released released_other values_alike own ran ran_other prompt prompt_other =
    runs_tell eyes table rows bad store start (world_at_start eyes.code rows bad store)
    (world_at_start eyes.code rows bad start) events others seen more one other values others_values
    (pair_start eyes table rows bad store start are sound hosts tabled watch watch_other alike) released released_other
    values_alike own ran ran_other prompt prompt_other
