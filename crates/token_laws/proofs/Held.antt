-- A token that misbehaving hosts were not sent is held once at most, since each token is made once: it has a serial
-- that its host has not given before.
use Rattle.std.proofs.Common.{◌≡◌, ◌≢◌, ◌∙◌, ◌⊎◌, ℕ, zero, suc, ◌+◌, ◌<◌, ◌≤◌, inl, inr, ℤ, Bool, true, false}
use Rattle.std.proofs.Common.{List, [], ◌∷◌, length, Option, Some, None, refl, ap, sym, subst, arith}
use Rattle.std.specs.Prelude.{slice_index, sum_by, IfSome, if◌then◌else◌, ◌==◌, replicate}
use Rattle.std.specs.Int.{bit_at}
use Rattle.std.proofs.lemmas.Bool.{cases_lt}
use Rattle.std.proofs.lemmas.Bool.Decides.{eqb_tells}
use Rattle.std.proofs.lemmas.List.{get_or-set_same}
use Rattle.std.proofs.lemmas.List.Sums.{sum_by-cons}
use Rattle.js_base.specs.declared.ids.HostId.{HostId}
use Rattle.js_base.specs.declared.ids.EntryId.{EntryId}
use Rattle.js_base.specs.Counts.{last_count}
use Rattle.capability.specs.declared.token.Token.{Token}
use Rattle.host_decl.specs.Hosts as declared_hosts
use Rattle.host_code.specs.Code.{CodeShape, halt, entry_at}
use Rattle.host_code.specs.Sound.{IsSoundCode}
use Rattle.host_core.specs.Host.{HostState, after_push, new_token}
use Rattle.host_core.specs.Start.{idle_host, root_host, main_frame, last_token}
use Rattle.event_text.specs.declared.event.Event.{Event}
use Rattle.net_world.specs.Fits.{ShapeFits, HasOwnToken}
use Rattle.net_world.specs.World.{WorldShape, IsStep, state_at, hosts_before, host_before, world_at_start}
use Rattle.net_world.proofs.Fitting.{bad_differs}
use Rattle.net_world.proofs.Moved.{either, Mover, Other}
use Rattle.token_laws.proofs.Worth.{worth_sent, worth_held, worth_state, worth_host, worth_world, worth_flying}
use Rattle.token_laws.proofs.Worth.{worth_between}
use Rattle.token_laws.proofs.Counting.{sum_below}
use Rattle.token_laws.proofs.HostTokens.{Counts, entering_worth}
use Rattle.token_laws.proofs.Sums.{below_none, grows}
use Rattle.token_laws.proofs.Tests.{different}
use Rattle.token_laws.proofs.WorldTokens.{Accounts, IsPresented, account, sent_more}

-- one token alone is worth something
abbrev pub IsOf : (Token → ℕ) → Token → Type 0
IsOf worth token = (other : Token) → (worth other ≤ 1) × (0 < worth other → other ≡ token)

-- so are those with one serial alone, of an entry of a host
abbrev pub IsOnly : (Token → ℕ) → HostId → EntryId → ℕ → Type 0
IsOnly worth host entry serial =
    (other : Token) → 0 < worth other → (other.host ≡ host) × (other.entry ≡ entry) × (other.serial ≡ serial)

-- Nobody has a token with a serial that its host has not given, and what was not sent is held once.
pub record AreHeld (world : WorldShape) : Type 0 where
  pub old : (worth : Token → ℕ) (host : HostId) (entry : EntryId) (serial : ℕ) (state : HostState) →
      IsOnly worth host entry serial → entry ≢ halt → state_at world host ≡ Some state →
      slice_index state.serials entry.0 ≤ serial → worth_world worth world + worth_sent worth world ≡ 0
  pub one : (worth : Token → ℕ) (token : Token) (state : HostState) → IsOf worth token →
      state_at world token.host ≡ Some state → worth_sent worth world ≡ 0 → worth_world worth world ≤ 1

-- ---- the count of a host

pub none_worth : (n : ℕ) → (0 < n → ⊥) → n ≡ 0
none_worth zero never = refl
none_worth (suc n) never = absurd (never (omega arith))

-- a token that was just made
pub record IsFresh (old : HostState) (serials : List ℕ) (token : Token) : Type 0 where
  pub host : token.host ≡ old.me
  pub entry : token.entry ≢ halt
  pub serial : token.serial ≡ slice_index old.serials token.entry.0
  pub passed : token.serial < slice_index serials token.entry.0

pub fresh_is : (old : HostState) (serials : List ℕ) (token : Token) → Counts old serials (Some token) →
    IsFresh old serials token
fresh_is old serials token counts =
    let entry : token.entry ≡ counts.0 = ap (λ (t : Token). t.entry) counts.4 in
    let serial : token.serial ≡ slice_index old.serials counts.0.0 = ap (λ (t : Token). t.serial) counts.4 in
    let after : slice_index serials counts.0.0 ≡ slice_index old.serials counts.0.0 + 1 =
    ap (λ (s : List ℕ). slice_index s counts.0.0) counts.5
    ∙ get_or-set_same old.serials counts.0.0 (slice_index old.serials counts.0.0 + 1) 0 counts.3 in
    record {
      host = ap (λ (t : Token). t.host) counts.4;
      entry = λ is. counts.2 (sym entry ∙ is);
      serial = serial ∙ ap (λ (e : EntryId). slice_index old.serials e.0) (sym entry);
      passed = subst (λ (e : EntryId). token.serial < slice_index serials e.0) (sym entry) (omega arith);
    }

counts_grow : (old : HostState) (serials : List ℕ) (fresh : Option Token) (place : ℕ) → Counts old serials fresh →
    slice_index old.serials place ≤ slice_index serials place
counts_grow old serials None place counts =
    let same : slice_index serials place ≡ slice_index old.serials place =
    ap (λ (s : List ℕ). slice_index s place) counts in
    omega arith
counts_grow old serials (Some token) place counts =
    subst (λ (s : List ℕ). slice_index old.serials place ≤ slice_index s place) (sym counts.5)
    (grows old.serials counts.0.0 place counts.3)

-- ---- what is presented

-- it is worth nothing, where only tokens of an obeying host are, and none of these was sent
pub presented_none : (world : WorldShape) (worth : Token → ℕ) (host : HostId) (state : HostState) (o : Option Token) →
    IfSome o (IsPresented world) → ((token : Token) → 0 < worth token → token.host ≡ host) →
    state_at world host ≡ Some state → worth_sent worth world ≡ 0 → worth_held worth o ≡ 0
presented_none world worth host state None is_presented of obeys none = refl
presented_none world worth host state (Some token) (inl bad) of obeys none =
    none_worth (worth token) (λ more. bad_differs world token.host host state bad obeys (of token more))
presented_none world worth host state (Some token) (inr sent) of obeys none =
    let le = sent worth in omega arith

-- ---- a step

-- an obeying host obeyed before
before : (world after : WorldShape) (step : Accounts world after) (host : HostId) (now : HostState) →
    state_at after host ≡ Some now →
    Mover step.host host step.state now ⊎ Other world step.host host now
before world after step host now is =
    either world after step.host step.old step.state after.flying step.obeys
    (record { hosts = step.puts; flying = refl }) host now is

-- a new token of the host that made the step
fresh_old : (world after : WorldShape) (step : Accounts world after) (worth : Token → ℕ) (entry : EntryId) (serial : ℕ)
    (fresh : Option Token) → Counts step.old step.state.serials fresh → IsOnly worth step.host entry serial →
    slice_index step.state.serials entry.0 ≤ serial → worth_held worth fresh ≡ 0
fresh_old world after step worth entry serial None counts only past = refl
fresh_old world after step worth entry serial (Some token) counts only past =
    let is = fresh_is step.old step.state.serials token counts in
    none_worth (worth token) (λ more.
    let its = only token more in
    let passed : token.serial < slice_index step.state.serials entry.0 =
    subst (λ (e : EntryId). token.serial < slice_index step.state.serials e.0) its.1 is.passed in
    let serial_is : token.serial ≡ serial = its.2 in
    let never : ⊥ = omega arith in
    never)

-- a new token of another host
fresh_other : (world after : WorldShape) (step : Accounts world after) (worth : Token → ℕ) (host : HostId)
    (entry : EntryId) (serial : ℕ) (fresh : Option Token) → Counts step.old step.state.serials fresh →
    IsOnly worth host entry serial → host.0 ≢ step.host.0 → worth_held worth fresh ≡ 0
fresh_other world after step worth host entry serial None counts only apart = refl
fresh_other world after step worth host entry serial (Some token) counts only apart =
    let is = fresh_is step.old step.state.serials token counts in
    none_worth (worth token) (λ more.
    apart (ap (λ (h : HostId). h.0) (sym (only token more).0 ∙ is.host ∙ step.me)))

old_step : (world after : WorldShape) (step : Accounts world after) → AreHeld world → (worth : Token → ℕ)
    (host : HostId) (entry : EntryId) (serial : ℕ) (now : HostState) → IsOnly worth host entry serial → entry ≢ halt →
    state_at after host ≡ Some now → slice_index now.serials entry.0 ≤ serial →
    worth_world worth after + worth_sent worth after ≡ 0
old_step world after step held worth host entry serial now only named is past =
    elim (before world after step host now is) [
      | inl mover ↦
          let le : slice_index step.state.serials entry.0 ≤ serial =
          subst (λ (s : HostState). slice_index s.serials entry.0 ≤ serial) mover.is past in
          let grow = counts_grow step.old step.state.serials step.fresh entry.0 step.counts in
          let own : IsOnly worth step.host entry serial =
          subst (λ (h : HostId). IsOnly worth h entry serial) mover.same only in
          let was = held.old worth step.host entry serial step.old own named step.obeys (omega arith) in
          let none =
          presented_none world worth step.host step.old step.presented step.is_presented (λ t more. (own t more).0)
          step.obeys (omega arith) in
          let fresh = fresh_old world after step worth entry serial step.fresh step.counts own le in
          let all = step.worth worth in
          omega arith
      | inr other ↦
          let was = held.old worth host entry serial now only named other.obeys past in
          let none =
          presented_none world worth host now step.presented step.is_presented (λ t more. (only t more).0) other.obeys
          (omega arith) in
          let fresh =
          fresh_other world after step worth host entry serial step.fresh step.counts only other.apart in
          let all = step.worth worth in
          omega arith
    ]

-- what is held of one token, and what is made of it, is one at most
fresh_one : (world after : WorldShape) (step : Accounts world after) → AreHeld world → (worth : Token → ℕ)
    (token : Token) (state : HostState) → IsOf worth token → state_at world token.host ≡ Some state →
    worth_sent worth world ≡ 0 → (fresh : Option Token) → Counts step.old step.state.serials fresh →
    worth_world worth world + worth_held worth fresh ≤ 1
fresh_one world after step held worth token state of obeys none None counts =
    let was = held.one worth token state of obeys none in omega arith
fresh_one world after step held worth token state of obeys none (Some made) counts =
    elim (cases_lt 0 (worth made)) [
      | inl more ↦
          let is = fresh_is step.old step.state.serials made counts in
          let same : made ≡ token = (of made).1 more in
          let only : IsOnly worth step.host made.entry made.serial =
          λ other some.
          let equal : other ≡ made = (of other).1 some ∙ sym same in (
            ap (λ (t : Token). t.host) equal ∙ is.host ∙ step.me,
            ap (λ (t : Token). t.entry) equal,
            ap (λ (t : Token). t.serial) equal,
          ) in
          let serial = is.serial in
          let was =
          held.old worth step.host made.entry made.serial step.old only is.entry step.obeys (omega arith) in
          let most = (of made).0 in
          omega arith
      | inr nothing ↦ (let was = held.one worth token state of obeys none in omega arith)
    ]

one_step : (world after : WorldShape) (step : Accounts world after) → AreHeld world → (worth : Token → ℕ)
    (token : Token) (state : HostState) → IsOf worth token → state_at world token.host ≡ Some state →
    worth_sent worth world ≡ 0 → worth_world worth after ≤ 1
one_step world after step held worth token state of obeys none =
    let presented =
    presented_none world worth token.host state step.presented step.is_presented
    (λ t more. ap (λ (x : Token). x.host) ((of t).1 more)) obeys none in
    let fresh = fresh_one world after step held worth token state of obeys none step.fresh step.counts in
    let all = step.worth worth in
    omega arith

pub held_step : (code : CodeShape) (world after : WorldShape) (event : Event) → IsSoundCode code →
    ShapeFits code world → HasOwnToken world event → IsStep code world event after → AreHeld world → AreHeld after
held_step code world after event sound fits own step held =
    let made = account code world after event sound fits own step in
    record {
      old = old_step world after made held;
      one = λ worth token now of is none.
          let more = sent_more code world after event worth step in
          elim (before world after made token.host now is) [
            | inl mover ↦ one_step world after made held worth token made.old of
                (ap (state_at world) mover.same ∙ made.obeys) (omega arith)
            | inr other ↦ one_step world after made held worth token now of other.obeys (omega arith)
          ];
    }

-- ---- the start

root_worth : (code : CodeShape) (store : List (List ℤ)) (key : List ℕ) (me : HostId) (worth : Token → ℕ) →
    let idle : HostState = idle_host code store key me in
    worth_state worth (root_host code idle) ≤ worth (new_token idle halt main_frame) + worth (last_token me)
root_worth code store key me worth =
    let idle : HostState = idle_host code store key me in
    let le =
    entering_worth (after_push idle halt main_frame (last_token me)) (entry_at code code.main) main_frame
    (new_token idle halt main_frame) worth in
    omega arith

-- no more than the root host has at the start
abbrev StartsWithin : CodeShape → (Token → ℕ) → ℕ → Type 0
StartsWithin code worth most = (store : List (List ℤ)) (key : List ℕ) (me : HostId) →
    worth_state worth (root_host code (idle_host code store key me)) ≤ most

host_worth : (code : CodeShape) (worth : Token → ℕ) (most : ℕ) → StartsWithin code worth most →
    (store : List (List ℤ)) (key : List ℕ) (me : HostId) (misbehaves root : Bool) →
    worth_host worth (if misbehaves then None else Some (if root
    then root_host code (idle_host code store key me)
    else idle_host code store key me)) ≤ most
host_worth code worth most within store key me true root = omega arith
host_worth code worth most within store key me false true = within store key me
host_worth code worth most within store key me false false = omega arith

other_worth : (code : CodeShape) (worth : Token → ℕ) (store : List (List ℤ)) (key : List ℕ) (me : HostId)
    (misbehaves root : Bool) → root ≡ false → worth_host worth (if misbehaves then None else Some (if root
    then root_host code (idle_host code store key me)
    else idle_host code store key me)) ≡ 0
other_worth code worth store key me true root is = refl
other_worth code worth store key me false true is = absurd (cc)
other_worth code worth store key me false false is = omega arith

past_root : (code : CodeShape) (worth : Token → ℕ) (store : List (List ℤ)) (bad number : ℕ)
    (rows : List declared_hosts.HostShape) → code.root.0 < number →
    sum_by (worth_host worth) (hosts_before code store bad number rows) ≡ 0
past_root code worth store bad number [] past = refl
past_root code worth store bad number (row ∷ rows) past =
    let all =
    sum_by-cons (worth_host worth) (host_before code store bad number row)
    (hosts_before code store bad (number + 1) rows) in
    let here =
    other_worth code worth store row.key (record { 0 = number }) (bit_at bad number == 1) (number == code.root.0)
    (different number code.root.0 (λ is. omega arith)) in
    let rest = past_root code worth store bad (number + 1) rows (omega arith) in
    omega arith

hosts_worth : (code : CodeShape) (worth : Token → ℕ) (most : ℕ) → StartsWithin code worth most →
    (store : List (List ℤ)) (bad number : ℕ) (rows : List declared_hosts.HostShape) →
    sum_by (worth_host worth) (hosts_before code store bad number rows) ≤ most
hosts_worth code worth most within store bad number [] = omega arith
hosts_worth code worth most within store bad number (row ∷ rows) =
    let all =
    sum_by-cons (worth_host worth) (host_before code store bad number row)
    (hosts_before code store bad (number + 1) rows) in
    elim (eqb_tells number code.root.0) [
      | inl same ↦
          let is : number ≡ code.root.0 = same.1 in
          let here =
          host_worth code worth most within store row.key (record { 0 = number }) (bit_at bad number == 1)
          (number == code.root.0) in
          let rest = past_root code worth store bad (number + 1) rows (omega arith) in
          omega arith
      | inr apart ↦
          let here =
          other_worth code worth store row.key (record { 0 = number }) (bit_at bad number == 1)
          (number == code.root.0) (different number code.root.0 apart.1) in
          let rest = hosts_worth code worth most within store bad (number + 1) rows in
          omega arith
    ]

world_worth : (code : CodeShape) (rows : List declared_hosts.HostShape) (bad : ℕ) (store : List (List ℤ))
    (worth : Token → ℕ) (most : ℕ) → StartsWithin code worth most →
    worth_world worth (world_at_start code rows bad store) ≤ most
world_worth code rows bad store worth most within =
    let world = world_at_start code rows bad store in
    let hosts = hosts_worth code worth most within store bad 0 rows in
    let flying : worth_flying worth (length world.hosts) world.flying ≡ 0 =
    below_none (length world.hosts) (λ from. sum_below (length world.hosts) (worth_between worth world.flying from))
    (λ from. below_none (length world.hosts) (worth_between worth world.flying from) (λ to. refl)) in
    omega arith

-- all tokens at the start are of the entry that ends the program
none_at_start : (code : CodeShape) (worth : Token → ℕ) (host : HostId) (entry : EntryId) (serial : ℕ) →
    IsOnly worth host entry serial → entry ≢ halt → StartsWithin code worth 0
none_at_start code worth host entry serial only named store key me =
    let idle : HostState = idle_host code store key me in
    let le = root_worth code store key me worth in
    let new =
    none_worth (worth (new_token idle halt main_frame))
    (λ more. named (sym (only (new_token idle halt main_frame) more).1)) in
    let last = none_worth (worth (last_token me)) (λ more. named (sym (only (last_token me) more).1)) in
    omega arith

-- and no two of them are the same
one_of_two : (worth : Token → ℕ) (token first second : Token) → IsOf worth token → first ≢ second →
    worth first + worth second ≤ 1
one_of_two worth token first second of apart = elim (cases_lt 0 (worth first)) [
  | inl more ↦
      let none =
      none_worth (worth second) (λ some. apart ((of first).1 more ∙ sym ((of second).1 some))) in
      let most = (of first).0 in
      omega arith
  | inr nothing ↦ (let most = (of second).0 in omega arith)
]

serials_differ : (count : ℕ) → slice_index (replicate count 0) 0 ≡ last_count → ⊥
serials_differ zero same = absurd (omega arith)
serials_differ (suc count) same = absurd (omega arith)

one_at_start : (code : CodeShape) (worth : Token → ℕ) (token : Token) → IsOf worth token → StartsWithin code worth 1
one_at_start code worth token of store key me =
    let idle : HostState = idle_host code store key me in
    let le = root_worth code store key me worth in
    let both =
    one_of_two worth token (new_token idle halt main_frame) (last_token me) of (λ same.
    serials_differ (length code.entries)
    (ap (λ (t : Token). t.serial) same)) in
    omega arith

pub held_start : (code : CodeShape) (rows : List declared_hosts.HostShape) (bad : ℕ) (store : List (List ℤ)) →
    AreHeld (world_at_start code rows bad store)
held_start code rows bad store = record {
  old = λ worth host entry serial state only named is past.
      let le =
      world_worth code rows bad store worth 0 (none_at_start code worth host entry serial only named) in
      omega arith;
  one = λ worth token state of is none. world_worth code rows bad store worth 1 (one_at_start code worth token of);
}
