-- The hosts that get a value, and what each of them gives a trace.
use Rattle.std.proofs.Common.{◌≡◌, ◌≢◌, ◌∙◌, ℕ, ◌+◌, ◌<◌, Bool, true, false, List, [], ◌∷◌, ◌++◌, length}
use Rattle.std.proofs.Common.{map, filter, take, get_or, cond, refl, sym, ap, ne_eqb, append-nil, zero-add}
use Rattle.std.proofs.lemmas.List.{map-append, take_more}
use Rattle.std.proofs.lemmas.List.FromFn.{filter_of_map_range_with_len_more}
use Rattle.std.specs.List.{range_with_len}
use Rattle.std.specs.Prelude.{Option}
use Rattle.js_base.specs.declared.ids.HostId.{HostId}
use Rattle.js_base.specs.declared.ids.VarId.{VarId}
use Rattle.msg_cost.specs.Moves.{PlannedShape, is_to}
use Rattle.msg_cost.specs.Terms.{reads_on, is_told}
use Rattle.split_rules.specs.Emissions.{Emission}
use Rattle.control_split.specs.Trace.{TraceShape, traced, traced_one}
use Rattle.control_split.proofs.Traces.{traced_append}

-- those among the first so many hosts
abbrev pub receivers_below : PlannedShape → HostId → VarId → Option HostId → ℕ → List HostId
receivers_below planned host x carried count =
    map (λ other. record { 0 = other }) (filter (is_told planned host x carried) (range_with_len 0 count))

same_numbers : (numbers : List ℕ) → map (λ number. number) numbers ≡ numbers
same_numbers [] = refl
same_numbers (first ∷ others) = ap (λ (rest : List ℕ). first ∷ rest) (same_numbers others)

to_next : (planned : PlannedShape) (host : HostId) (x : VarId) (carried : Option HostId) (n : ℕ) →
    receivers_below planned host x carried (n + 1)
    ≡ receivers_below planned host x carried n
    ++ map (λ other. record { 0 = other }) (cond (is_told planned host x carried n) (n ∷ []) [])
to_next planned host x carried n =
    let name : ℕ → HostId = λ other. record { 0 = other } in
    let same : ℕ → ℕ = λ number. number in
    let gets : ℕ → Bool = is_told planned host x carried in
    ap (λ others. map name (filter gets others)) (sym (same_numbers (range_with_len 0 (n + 1))))
    ∙ ap (map name) (filter_of_map_range_with_len_more gets same 0 n n (zero-add n))
    ∙ ap (λ others. map name (filter gets others ++ cond (gets n) (n ∷ []) [])) (same_numbers (range_with_len 0 n))
    ∙ map-append name (filter gets (range_with_len 0 n)) (cond (gets n) (n ∷ []) [])

-- a host that reads the variable, and is neither the one that sends nor the one to which the value rides
pub one_gets : (planned : PlannedShape) (host : HostId) (x : VarId) (carried : Option HostId) (n : ℕ)
    (before after : List HostId) →
    n ≢ host.0 → reads_on planned x n ≡ true → is_to carried n ≡ false → after ≡ before ++ record { 0 = n } ∷ [] →
    before ≡ receivers_below planned host x carried n → after ≡ receivers_below planned host x carried (n + 1)
one_gets planned host x carried n before after apart reads rides is so =
    let name : ℕ → HostId = λ other. record { 0 = other } in
    let does : is_told planned host x carried n ≡ true = rw (ne_eqb n host.0 apart, reads, rides) refl in
    is ∙ ap (λ (hosts : List HostId). hosts ++ record { 0 = n } ∷ []) so
    ∙ sym (to_next planned host x carried n
    ∙ ap (λ some. receivers_below planned host x carried n ++ map name (cond some (n ∷ []) [])) does)

-- another host
pub one_gets_not : (planned : PlannedShape) (host : HostId) (x : VarId) (carried : Option HostId) (n : ℕ)
    (before after : List HostId) →
    is_told planned host x carried n ≡ false → after ≡ before →
    before ≡ receivers_below planned host x carried n → after ≡ receivers_below planned host x carried (n + 1)
one_gets_not planned host x carried n before after not_so is so =
    let name : ℕ → HostId = λ other. record { 0 = other } in
    is ∙ so
    ∙ sym (to_next planned host x carried n
    ∙ ap (λ some. receivers_below planned host x carried n ++ map name (cond some (n ∷ []) [])) not_so
    ∙ append-nil (receivers_below planned host x carried n))

-- each of some hosts gives one emission, and one more of them is done
pub one_more_given : (start before after : TraceShape) (give : HostId → Emission) (hosts : List HostId) (index : ℕ)
    (other : HostId) → index < length hosts → before ≡ traced start (map give (take index hosts)) →
    after ≡ traced_one before (give (get_or hosts index other)) →
    after ≡ traced start (map give (take (index + 1) hosts))
one_more_given start before after give hosts index other within so is =
    let one = get_or hosts index other in
    is ∙ ap (λ (trace : TraceShape). traced_one trace (give one)) so
    ∙ sym (traced_append start (map give (take index hosts)) (give one ∷ []))
    ∙ sym (ap (traced start) (ap (map give) (take_more hosts index other within)
    ∙ map-append give (take index hosts) (one ∷ [])))
