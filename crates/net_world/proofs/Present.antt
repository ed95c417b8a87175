-- Lists that have something or nothing for each host.
use Rattle.std.proofs.Common.{◌≡◌, ◌≢◌, ℕ, zero, suc, ◌+◌, ◌<◌, List, [], ◌∷◌, ◌++◌, length, refl, ap, sym, subst}
use Rattle.std.proofs.Common.{◌∙◌, inl, inr, arith, Option, Some, None, get_or, length-set, take, add-one}
use Rattle.std.specs.Prelude.{slice_set, slice_get, IfSome, IsSomeAnd, ℤ}
use Rattle.std.specs.Option.{option_map}
use Rattle.std.proofs.lemmas.Bool.Decides.{eqb_tells}
use Rattle.std.proofs.lemmas.List.{map_push, map-set}
use Rattle.std.proofs.lemmas.Option.{slice_get-map}
use Rattle.js_base.specs.declared.ids.HostId.{HostId}
use Rattle.host_decl.specs.Hosts as declared_hosts
use Rattle.host_code.specs.Code.{CodeShape}
use Rattle.host_core.specs.Calls.{CountsCall}
use Rattle.host_core.specs.Host.{HostModel, HostState, state_of}
use Rattle.net_world.specs.World.{given, present, host_before, hosts_before}
use Rattle.net_world.specs.Fits.{states_of}
use Rattle.net_world.specs.Steps.{HaveMade, HasMade, HasCountedCall, ChangesOnlyHost}

-- ---- hosts and what there is of them

pub same_id : (one other : HostId) → one.0 ≡ other.0 → one ≡ other
same_id one other same = let make : ℕ → HostId = λ n. record { 0 = n } in ap make same

-- ---- one more host

given_push : {X : Type 0} (hosts : List (Option X)) (host : Option X) (i : ℕ) (P : X → Type 0) →
    IfSome (given (slice_get hosts i)) P → (i ≡ length hosts → IfSome host P) →
    IfSome (given (slice_get (hosts ++ host ∷ []) i)) P
given_push [] host zero P before last = last refl
given_push [] host (suc i) P before last = tt
given_push (first ∷ hosts) host zero P before last = before
given_push (first ∷ hosts) host (suc i) P before last =
    given_push hosts host i P before (λ same. last (ap suc same))

pub present_push : {X : Type 0} (P : HostId → X → Type 0) (hosts : List (Option X)) (host : Option X) (n : ℕ) →
    length hosts ≡ n → ((number : HostId) → IfSome (present hosts number) (P number)) →
    IfSome host (P (record { 0 = n })) → (number : HostId) → IfSome (present (hosts ++ host ∷ []) number) (P number)
present_push P hosts host n count before last number =
    given_push hosts host number.0 (P number) (before number)
    (λ at. let make : ℕ → HostId = λ k. record { 0 = k } in
    let same : make n ≡ number = ap make (omega arith) in
    subst (λ number. IfSome host (P number)) same last)

hosts_before_suc : (code : CodeShape) (store : List (List ℤ)) (bad number : ℕ) (rows : List declared_hosts.HostShape)
    (i place : ℕ) (d : declared_hosts.HostShape) → i < length rows → place ≡ number + i →
    hosts_before code store bad number (take (suc i) rows)
    ≡ hosts_before code store bad number (take i rows) ++ host_before code store bad place (get_or rows i d) ∷ []
hosts_before_suc code store bad number [] i place d lt at = absurd (omega arith)
hosts_before_suc code store bad number (row ∷ rows) zero place d lt at =
    let same : number ≡ place = omega arith in
    ap (λ n. host_before code store bad n row ∷ []) same
hosts_before_suc code store bad number (row ∷ rows) (suc i) place d lt at =
    ap (λ rest. host_before code store bad number row ∷ rest)
    (hosts_before_suc code store bad (number + 1) rows i place d (omega arith) (omega arith))

pub hosts_before_more : (code : CodeShape) (store : List (List ℤ)) (bad : ℕ) (rows : List declared_hosts.HostShape)
    (i : ℕ) (d : declared_hosts.HostShape) → i < length rows →
    hosts_before code store bad 0 (take (i + 1) rows)
    ≡ hosts_before code store bad 0 (take i rows) ++ host_before code store bad i (get_or rows i d) ∷ []
hosts_before_more code store bad rows i d lt =
    rw add-one (hosts_before_suc code store bad 0 rows i i d lt (omega arith))

pub states_push : (hosts : List (Option HostModel)) (host : Option HostModel) →
    states_of (hosts ++ host ∷ []) ≡ states_of hosts ++ option_map state_of host ∷ []
states_push hosts host = map_push (λ (o : Option HostModel). option_map state_of o) hosts host

-- ---- one changed host

given_set : {X : Type 0} (hosts : List (Option X)) (i : ℕ) (x : X) (j : ℕ) (P : X → Type 0) →
    (j ≢ i → IfSome (given (slice_get hosts j)) P) → (j ≡ i → P x) →
    IfSome (given (slice_get (slice_set hosts i (Some x)) j)) P
given_set [] i x j P other this = tt
given_set (host ∷ hosts) zero x zero P other this = this refl
given_set (host ∷ hosts) zero x (suc j) P other this = other (omega arith)
given_set (host ∷ hosts) (suc i) x zero P other this = other (omega arith)
given_set (host ∷ hosts) (suc i) x (suc j) P other this =
    given_set hosts i x j P (λ ne. other (λ same. ne (omega arith))) (λ same. this (ap suc same))

-- what holds of each host holds after one was changed
pub present_set : {X : Type 0} (P : HostId → X → Type 0) (hosts : List (Option X)) (host : HostId) (x : X) →
    ((number : HostId) → IfSome (present hosts number) (P number)) → P host x →
    (number : HostId) → IfSome (present (slice_set hosts host.0 (Some x)) number) (P number)
present_set P hosts host x before this number =
    given_set hosts host.0 x number.0 (P number) (λ ne. before number)
    (λ at. let make : ℕ → HostId = λ k. record { 0 = k } in
    let same : host ≡ number = ap make (omega arith) in
    subst (λ number. P number x) same this)

pub has_set : {X : Type 0} (hosts : List (Option X)) (i : ℕ) (x y : X) (P : X → Type 0) →
    slice_get hosts i ≡ Some (Some y) → P x → IsSomeAnd (given (slice_get (slice_set hosts i (Some x)) i)) P
has_set [] i x y P there holds = absurd (cc)
has_set (host ∷ hosts) zero x y P there holds = holds
has_set (host ∷ hosts) (suc i) x y P there holds = has_set hosts i x y P there holds

pub get_other : {X : Type 0} (xs : List X) (i j : ℕ) (y : X) → j ≢ i → slice_get (slice_set xs i y) j ≡ slice_get xs j
get_other [] i j y other = refl
get_other (x ∷ xs) zero zero y other = absurd (other refl)
get_other (x ∷ xs) zero (suc j) y other = refl
get_other (x ∷ xs) (suc i) zero y other = refl
get_other (x ∷ xs) (suc i) (suc j) y other = get_other xs i j y (λ same. other (ap suc same))

pub changes_only : (hosts : List (Option HostModel)) (host : HostId) (x : Option HostModel) →
    ChangesOnlyHost host hosts (slice_set hosts host.0 x)
changes_only hosts host x = record {
  count = length-set hosts host.0 x;
  others = λ other ne. get_other hosts host.0 other.0 x ne;
}

pub get_lt : {X : Type 0} (hosts : List (Option X)) (i : ℕ) (P : X → Type 0) →
    IsSomeAnd (given (slice_get hosts i)) P → i < length hosts
get_lt [] i P has = absurd has
get_lt (host ∷ hosts) zero P has = omega arith
get_lt (host ∷ hosts) (suc i) P has = let lt = get_lt hosts i P has in omega arith

-- and the other way, where something holds of it
pub at_get_or : {X : Type 0} (hosts : List (Option X)) (i : ℕ) (d : Option X) (x : X) (P : X → Type 0) →
    IsSomeAnd (given (slice_get hosts i)) P → get_or hosts i d ≡ Some x → slice_get hosts i ≡ Some (Some x)
at_get_or [] i d x P has there = absurd has
at_get_or (host ∷ hosts) zero d x P has there = ap Some there
at_get_or (host ∷ hosts) (suc i) d x P has there = at_get_or hosts i d x P has there

-- ---- states

pub states_set : (hosts : List (Option HostModel)) (i : ℕ) (host : Option HostModel) →
    states_of (slice_set hosts i host) ≡ slice_set (states_of hosts) i (option_map state_of host)
states_set hosts i host = map-set (λ (o : Option HostModel). option_map state_of o) hosts i host

given_states : (o : Option (Option HostModel)) →
    given (option_map (λ (h : Option HostModel). option_map state_of h) o) ≡ option_map state_of (given o)
given_states None = refl
given_states (Some host) = refl

pub present_states : (hosts : List (Option HostModel)) (host : HostId) →
    present (states_of hosts) host ≡ option_map state_of (present hosts host)
present_states hosts host =
    ap given (slice_get-map (λ (o : Option HostModel). option_map state_of o) hosts host.0)
    ∙ given_states (slice_get hosts host.0)

pub length_states : (hosts : List (Option HostModel)) → length (states_of hosts) ≡ length hosts
length_states [] = refl
length_states (host ∷ hosts) = ap suc (length_states hosts)

-- ---- counted steps

more_made : (n : ℕ) (o : Option HostModel) → IfSome o (HasMade n) → IfSome o (HasMade (n + 1))
more_made n None made = tt
more_made n (Some host) made = let few = made.steps in record { answers = made.answers; steps = omega arith }

pub at_set : {X : Type 0} (xs : List X) (i : ℕ) (x y : X) → slice_get xs i ≡ Some y →
    slice_get (slice_set xs i x) i ≡ Some x
at_set [] i x y there = absurd (cc)
at_set (first ∷ xs) zero x y there = refl
at_set (first ∷ xs) (suc i) x y there = at_set xs i x y there

pub counted_set : (hosts : List (Option HostModel)) (host : HostId) (before after : HostModel) →
    slice_get hosts host.0 ≡ Some (Some before) → CountsCall before after →
    HasCountedCall host hosts (slice_set hosts host.0 (Some after))
counted_set hosts host before after there counted = record {
  before = before;
  after = after;
  was = ap given there;
  is = ap given (at_set hosts host.0 (Some after) (Some before) there);
  calls = counted.calls;
  stopped = counted.stopped;
}

-- where one host has answered one more call, and no other has changed, each has made at most one more step
pub made_counted : (number : HostId) (old new : List (Option HostModel)) → HasCountedCall number old new →
    ChangesOnlyHost number old new → (n : ℕ) → HaveMade n old → HaveMade (n + 1) new
made_counted number old new counted changes n made host = elim (eqb_tells host.0 number.0) [
  | inl same ↦
      let was = subst (λ o. IfSome o (HasMade n)) counted.was (made number) in
      let few = was.steps in
      let calls = counted.calls in
      let is : HasMade (n + 1) counted.after =
      record { answers = counted.stopped ∙ was.answers; steps = omega arith } in
      subst (λ (h : HostId). IfSome (present new h) (HasMade (n + 1))) (sym (same_id host number same.1))
      (subst (λ o. IfSome o (HasMade (n + 1))) (sym counted.is) is)
  | inr apart ↦
      subst (λ o. IfSome (given o) (HasMade (n + 1))) (sym (changes.others host apart.1))
      (more_made n (present old host) (made host))
]

-- a host whose state is the same leaves all states the same
pub states_same : (hosts : List (Option HostModel)) (i : ℕ) (before after : HostModel) →
    slice_get hosts i ≡ Some (Some before) → state_of after ≡ state_of before →
    states_of (slice_set hosts i (Some after)) ≡ states_of hosts
states_same [] i before after there same = refl
states_same (host ∷ hosts) zero before after there same =
    let is : host ≡ Some before = cc in
    ap (λ (state : HostState). Some state ∷ states_of hosts) same
    ∙ ap (λ (o : Option HostModel). option_map state_of o ∷ states_of hosts) (sym is)
states_same (host ∷ hosts) (suc i) before after there same =
    ap (λ rest. option_map state_of host ∷ rest) (states_same hosts i before after there same)

-- the states of one more host before the first event
pub states_more : (code : CodeShape) (store : List (List ℤ)) (bad : ℕ) (rows : List declared_hosts.HostShape)
    (hosts : List (Option HostModel)) (host : Option HostModel) (i : ℕ) (d : declared_hosts.HostShape) →
    i < length rows → states_of hosts ≡ hosts_before code store bad 0 (take i rows) →
    option_map state_of host ≡ host_before code store bad i (get_or rows i d) →
    states_of (hosts ++ host ∷ []) ≡ hosts_before code store bad 0 (take (i + 1) rows)
states_more code store bad rows hosts host i d lt states state =
    states_push hosts host
    ∙ ap (λ (all : List (Option HostState)). all ++ option_map state_of host ∷ []) states
    ∙ ap (λ (last : Option HostState). hosts_before code store bad 0 (take i rows) ++ last ∷ []) state
    ∙ sym (hosts_before_more code store bad rows i d lt)
