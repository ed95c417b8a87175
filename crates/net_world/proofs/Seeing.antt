-- What may be seen of a world, host by host and message by message.
use Rattle.std.proofs.Common.{◌≡◌, ℕ, zero, suc, ◌+◌, ◌<◌, ◌≤◌, Bool, true, false, not, List}
use Rattle.std.proofs.Common.{[], ◌∷◌, ◌++◌, length, refl, arith}
use Rattle.std.proofs.Common.{Option, Some, None, inl, inr, subst, sym, ◌∙◌}
use Rattle.std.specs.Prelude.{All, IfSome, IsSomeAnd, IsTrue, slice_get, nat_lt, ◌&&◌, if◌then◌else◌, ◌↔◌}
use Rattle.std.proofs.lemmas.Bool.{cases_lt, false≢true}
use Rattle.std.proofs.lemmas.Bool.Decides.{nat_tests}
use Rattle.std.proofs.lemmas.List.Elements.{All-nil, All-weaker}
use Rattle.js_base.specs.declared.ids.HostId.{HostId}
use Rattle.label_lattice.specs.declared.label.Label.{Label}
use Rattle.host_code.specs.Code.{CodeShape}
use Rattle.entry_check.specs.Checks.{MaySee, label_of_host}
use Rattle.host_core.specs.Host.{HostState, HostModel}
use Rattle.net_world.specs.Flying.{Flight, flights_of, flights_at, flying_of, pair_place, may_be_seen, hidden_in}
use Rattle.net_world.specs.World.{WorldShape, given, state_at}
use Rattle.net_world.specs.Fits.{WorldModel, WorldFits, world_of, states_of}
use Rattle.net_world.specs.Secret.{IsMisbehavingReader, IsReadBy, IsReadable, FlyOpenly, RunsOpenly, AllRunOpenly}
use Rattle.net_world.specs.Secret.{IsQuiet}
use Rattle.net_world.proofs.Choosing.{below_more}
use Rattle.net_world.proofs.Fitting.{is_bad_host}
use Rattle.net_world.proofs.Counted.{each_seen, none_hidden}
use Rattle.net_world.proofs.Letters.{flying_at}
use Rattle.net_world.proofs.Present.{length_states}

-- ---- answers

pub yes : {P : Type 0} → P → IsTrue true ↔ P
yes p = (λ is. p, λ holds. refl)

pub no : {P : Type 0} → ¬ P → IsTrue false ↔ P
no fails = (λ is. absurd (cc), λ holds. absurd (fails holds))

pub untrue : {P : Type 0} (b : Bool) → b ≡ false → (IsTrue b ↔ P) → ¬ P
untrue b is exact holds = false≢true (sym is ∙ exact.1 holds)

pub denied : {P Q : Type 0} (b : Bool) → (IsTrue b ↔ P) → ((¬ P) ↔ Q) → IsTrue (not b) ↔ Q
denied true exact other = (λ is. absurd (cc), λ holds. absurd (other.1 holds (exact.0 refl)))
denied false exact other = (λ is. other.0 (λ holds. false≢true (exact.1 holds)), λ holds. refl)

-- ---- labels

pub none_reads_more : (code : CodeShape) (hosts : List (Option HostState)) (label n : ℕ) →
    ((earlier : HostId) → earlier.0 < n → ¬ IsMisbehavingReader code hosts label earlier) →
    ¬ IsMisbehavingReader code hosts label (record { 0 = n }) → (earlier : HostId) → earlier.0 < n + 1 →
    ¬ IsMisbehavingReader code hosts label earlier
none_reads_more code hosts label n before last = below_more (λ host. ¬ IsMisbehavingReader code hosts label host) n
    before last

pub none_reads : (code : CodeShape) (hosts : List (Option HostModel)) (label n : ℕ) → length hosts ≤ n →
    ((earlier : HostId) → earlier.0 < n → ¬ IsMisbehavingReader code (states_of hosts) label earlier) →
    ¬ IsReadBy code (states_of hosts) label
none_reads code hosts label n all before read =
    let within : read.0.0 < length (states_of hosts) = is_bad_host (states_of hosts) read.0.0 read.1.0 in
    let long : length (states_of hosts) ≡ length hosts = length_states hosts in
    before read.0 (omega arith) read.1

seen_before : (readable : List Bool) (last : Bool) (k : ℕ) → k < length readable →
    may_be_seen (readable ++ last ∷ []) k ≡ may_be_seen readable k
seen_before [] last k lt = absurd (omega arith)
seen_before (first ∷ readable) last zero lt = refl
seen_before (first ∷ readable) last (suc k) lt = seen_before readable last k (omega arith)

seen_last : (readable : List Bool) (last : Bool) → may_be_seen (readable ++ last ∷ []) (length readable) ≡ last
seen_last [] last = refl
seen_last (first ∷ readable) last = seen_last readable last

unseen_past : (readable : List Bool) (k : ℕ) → length readable ≤ k → may_be_seen readable k ≡ false
unseen_past [] k all = refl
unseen_past (first ∷ readable) zero all = absurd (omega arith)
unseen_past (first ∷ readable) (suc k) all = unseen_past readable k (omega arith)

no_label : (labels : List Label) (k : ℕ) → length labels ≤ k → slice_get labels k ≡ None
no_label [] k all = refl
no_label (first ∷ labels) zero all = absurd (omega arith)
no_label (first ∷ labels) (suc k) all = no_label labels k (omega arith)

-- the list so far tells for each label
abbrev pub Tells : CodeShape → List (Option HostState) → List Bool → ℕ → Type 0
Tells code hosts readable label = IsTrue (may_be_seen readable label) ↔ IsReadBy code hosts label

pub tells_more : (code : CodeShape) (hosts : List (Option HostState)) (readable : List Bool) (last : Bool) (n : ℕ) →
    length readable ≡ n → ((k : ℕ) → k < n → Tells code hosts readable k) →
    (IsTrue last ↔ IsReadBy code hosts n) → (k : ℕ) → k < n + 1 → Tells code hosts (readable ++ last ∷ []) k
tells_more code hosts readable last n long before is k lt =
    elim (cases_lt k n) [
      | inl less ↦
          subst (λ (b : Bool). IsTrue b ↔ IsReadBy code hosts k) (sym (seen_before readable last k (omega arith)))
          (before k less)
      | inr more ↦ (
          let same : n ≡ k = omega arith in
          subst (λ (i : ℕ). Tells code hosts (readable ++ last ∷ []) i) same
          (subst (λ (i : ℕ). Tells code hosts (readable ++ last ∷ []) i) long
          (subst (λ (b : Bool). IsTrue b ↔ IsReadBy code hosts (length readable)) (sym (seen_last readable last))
          (subst (λ (i : ℕ). IsTrue last ↔ IsReadBy code hosts i) (sym long) is))))
    ]

pub tells_all : (code : CodeShape) (hosts : List (Option HostState)) (readable : List Bool) (n : ℕ) →
    length readable ≡ n → length code.labels ≤ n → ((k : ℕ) → k < n → Tells code hosts readable k) → (label : ℕ) →
    Tells code hosts readable label
tells_all code hosts readable n long all before label =
    elim (cases_lt label n) [
      | inl less ↦ before label less
      | inr more ↦ (
          let unseen : may_be_seen readable label ≡ false = unseen_past readable label (omega arith) in
          let none : slice_get code.labels label ≡ None = no_label code.labels label (omega arith) in (
            λ seen. absurd (false≢true (sym unseen ∙ seen)),
            λ read. absurd (subst (λ (o : Option Label). MaySee o (label_of_host code read.0)) none read.1.1),
          ))
    ]

-- ---- where there is something, or nothing

pub not_shown : {X : Type 0} (P : X → Type 0) (o : Option X) → ¬ IfSome o P → IsSomeAnd o (λ x. ¬ P x)
not_shown P None hidden = absurd (hidden tt)
not_shown P (Some x) hidden = hidden

pub shown : {X : Type 0} (P : X → Type 0) (o : Option X) → IsSomeAnd o (λ x. ¬ P x) → ¬ IfSome o P
shown P None hidden = absurd hidden
shown P (Some x) hidden = hidden

if_some_at : {X : Type 0} (P : X → Type 0) (o : Option X) (x : X) → IfSome o P → o ≡ Some x → P x
if_some_at P None x holds is = absurd (cc)
if_some_at P (Some y) x holds is = let same : y ≡ x = cc in subst P same holds

some_if : {X : Type 0} (P : X → Type 0) (o : Option X) → ((x : X) → o ≡ Some x → P x) → IfSome o P
some_if P None at = tt
some_if P (Some x) at = at x refl

past : {X : Type 0} (hosts : List (Option X)) (i : ℕ) (P : X → Type 0) → length hosts ≤ i →
    IfSome (given (slice_get hosts i)) P
past [] i P all = tt
past (host ∷ hosts) zero P all = absurd (omega arith)
past (host ∷ hosts) (suc i) P all = past hosts i P (omega arith)

-- ---- what runs

pub run_more : (code : CodeShape) (world : WorldShape) (n : ℕ) →
    ((earlier : HostId) → earlier.0 < n → IfSome (state_at world earlier) (RunsOpenly code world)) →
    IfSome (state_at world (record { 0 = n })) (RunsOpenly code world) → (earlier : HostId) → earlier.0 < n + 1 →
    IfSome (state_at world earlier) (RunsOpenly code world)
run_more code world n before last =
    below_more (λ host. IfSome (state_at world host) (RunsOpenly code world)) n before last

pub run_all : (code : CodeShape) (world : WorldModel) (n : ℕ) → length world.hosts ≤ n →
    ((earlier : HostId) → earlier.0 < n →
    IfSome (state_at (world_of world) earlier) (RunsOpenly code (world_of world))) →
    AllRunOpenly code (world_of world)
run_all code world n all before host =
    elim (cases_lt host.0 n) [
      | inl less ↦ before host less
      | inr more ↦ (
          let long : length (states_of world.hosts) ≡ length world.hosts = length_states world.hosts in
          past (states_of world.hosts) host.0 (RunsOpenly code (world_of world)) (omega arith))
    ]

-- ---- what is in flight

cell_past : (P : Flight → Type 0) (count : ℕ) (i j : HostId) (flights : List Flight) (there : Bool) →
    (nat_lt i.0 count && nat_lt j.0 count) ≡ there → ((i.0 < count) → (j.0 < count) → ⊥) →
    All P (if there then flights else [])
cell_past P count i j flights true is past =
    absurd (past (grind (arith, nat_tests)) (grind (arith, nat_tests)))
cell_past P count i j flights false is past = All-nil P

flies_past : (code : CodeShape) (world : WorldModel) (from to : HostId) →
    ((from.0 < length world.hosts) → (to.0 < length world.hosts) → ⊥) → FlyOpenly code (world_of world) from to
flies_past code world from to past =
    cell_past (λ flight. IsReadable code (world_of world) flight.label) (length world.hosts) from to
    (flights_at (flights_of world.queues) (pair_place from to))
    (nat_lt from.0 (length world.hosts) && nat_lt to.0 (length world.hosts)) refl past

pub fly_to_more : (code : CodeShape) (world : WorldShape) (from : HostId) (n : ℕ) →
    ((earlier : HostId) → earlier.0 < n → FlyOpenly code world from earlier) →
    FlyOpenly code world from (record { 0 = n }) → (earlier : HostId) → earlier.0 < n + 1 →
    FlyOpenly code world from earlier
fly_to_more code world from n before last = below_more (λ to. FlyOpenly code world from to) n before last

pub fly_to_all : (code : CodeShape) (world : WorldModel) (from : HostId) (n : ℕ) → length world.hosts ≤ n →
    ((earlier : HostId) → earlier.0 < n → FlyOpenly code (world_of world) from earlier) →
    (to : HostId) → FlyOpenly code (world_of world) from to
fly_to_all code world from n all before to =
    elim (cases_lt to.0 n) [
      | inl less ↦ before to less
      | inr more ↦ flies_past code world from to (λ first second. absurd (omega arith))
    ]

pub fly_more : (code : CodeShape) (world : WorldShape) (n : ℕ) →
    ((earlier : HostId) → earlier.0 < n → (to : HostId) → FlyOpenly code world earlier to) →
    ((to : HostId) → FlyOpenly code world (record { 0 = n }) to) → (earlier : HostId) → earlier.0 < n + 1 →
    (to : HostId) → FlyOpenly code world earlier to
fly_more code world n before last = below_more (λ from. (to : HostId) → FlyOpenly code world from to) n before last

pub fly_all : (code : CodeShape) (world : WorldModel) (n : ℕ) → length world.hosts ≤ n →
    ((earlier : HostId) → earlier.0 < n → (to : HostId) → FlyOpenly code (world_of world) earlier to) →
    (from to : HostId) → FlyOpenly code (world_of world) from to
fly_all code world n all before from to =
    elim (cases_lt from.0 n) [
      | inl less ↦ before from less to
      | inr more ↦ flies_past code world from to (λ first second. absurd (omega arith))
    ]

-- nothing in the queue of two hosts is hidden where each message may be seen
pub flies_openly : (code : CodeShape) (world : WorldModel) (from to : HostId) → WorldFits code world →
    from.0 < length world.hosts → to.0 < length world.hosts →
    (¬ (0 < hidden_in world.readable (flights_at (flights_of world.queues) (pair_place from to))))
    ↔ FlyOpenly code (world_of world) from to
flies_openly code world from to fits first second =
    let queues : List (List Flight) = flights_of world.queues in
    let flights : List Flight = flights_at queues (pair_place from to) in
    let same : flying_of (length world.hosts) queues from to ≡ flights =
    flying_at (length world.hosts) queues from to first second in
    let P : Flight → Type 0 = λ flight. IsReadable code (world_of world) flight.label in
    let Q : Flight → Type 0 = λ flight. IsTrue (may_be_seen world.readable flight.label) in (
      λ none.
          let nothing : hidden_in world.readable flights ≡ 0 = omega arith in
          subst (All P) (sym same)
          (All-weaker Q P (λ flight. (fits.readable.each flight.label).0) flights
          (each_seen world.readable flights nothing)),
      λ all some.
          let nothing : hidden_in world.readable flights ≡ 0 =
          none_hidden world.readable flights
          (All-weaker P Q (λ flight. (fits.readable.each flight.label).1) flights (subst (All P) same all)) in
          absurd (omega arith),
    )

-- ---- both

pub quiet_from : (code : CodeShape) (world : WorldShape) → AllRunOpenly code world →
    ((from to : HostId) → FlyOpenly code world from to) → IsQuiet code world
quiet_from code world run fly = record {
  flying = fly;
  running = λ host state is. if_some_at (RunsOpenly code world) (state_at world host) state (run host) is;
}

pub quiet_runs : (code : CodeShape) (world : WorldShape) → IsQuiet code world → AllRunOpenly code world
quiet_runs code world quiet host =
    some_if (RunsOpenly code world) (state_at world host) (λ state is. quiet.running host state is)

pub ruleset reading = (none_reads_more, none_reads)

pub ruleset runs = (run_more, run_all)

pub ruleset flights_seen_to = (fly_to_more, fly_to_all)

pub ruleset flights_seen_from = (fly_more, fly_all)

pub ruleset seen = (not_shown, shown)

pub ruleset quiet = (quiet_from, quiet_runs)
