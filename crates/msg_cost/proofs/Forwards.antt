-- What it costs to send a value to the first of the hosts that read it, and to one more.
use Rattle.std.proofs.Common.{◌≡◌, ◌≢◌, ◌∙◌, ℕ, ◌+◌, ◌-◌, ◌^◌, min, Bool, true, false, ◌&&◌, not, nat_eq, List, [], ◌∷◌}
use Rattle.std.proofs.Common.{◌++◌}
use Rattle.std.proofs.Common.{map, filter, cond, refl, ap, sym, subst, ne_eqb, eq-eqb, add-one, zero-add, append-nil}
use Rattle.std.proofs.Common.{suc, zero, arith}
use Rattle.std.proofs.Math.Bool.{and-false}
use Rattle.std.proofs.lemmas.List.{map-append}
use Rattle.std.proofs.lemmas.List.Elements.{filter-append}
use Rattle.std.specs.List.{range_with_len}
use Rattle.js_base.specs.declared.ids.HostId.{HostId}
use Rattle.js_base.specs.declared.ids.VarId.{VarId}
use Rattle.std.specs.Prelude.{Option}
use Rattle.msg_cost.specs.Cost.{cost_of}
use Rattle.msg_cost.specs.Moves.{PlannedShape, is_to}
use Rattle.msg_cost.specs.Terms.{Term, exchange, reads_on, is_other_reader, is_told}
use Rattle.msg_cost.specs.Views.{capped}
use Rattle.msg_cost.proofs.Sums.{Costs, costs_both}

-- those to the first so many hosts
abbrev pub forwards_below : PlannedShape → ℕ → HostId → VarId → Option HostId → ℕ → List Term
forwards_below planned weight host x carried count =
    map (λ other. exchange weight host (record { 0 = other }))
    (filter (is_told planned host x carried) (range_with_len 0 count))

range_more : (first n : ℕ) → range_with_len first (suc n) ≡ range_with_len first n ++ (first + n) ∷ []
range_more first zero = let same : first ≡ first + 0 = omega arith in ap (λ one. one ∷ []) same
range_more first (suc n) =
    let same : first + 1 + n ≡ first + suc n = omega arith in
    ap (λ (others : List ℕ). first ∷ others) (range_more (first + 1) n
    ∙ ap (λ one. range_with_len (first + 1) n ++ one ∷ []) same)

pub to_next : (planned : PlannedShape) (weight : ℕ) (host : HostId) (x : VarId) (carried : Option HostId) (n : ℕ) →
    forwards_below planned weight host x carried (n + 1)
    ≡ forwards_below planned weight host x carried n
    ++ map (λ other. exchange weight host (record { 0 = other })) (filter (is_told planned host x carried) (n ∷ []))
to_next planned weight host x carried n =
    let send : ℕ → Term = λ other. exchange weight host (record { 0 = other }) in
    let gets : ℕ → Bool = is_told planned host x carried in
    ap (λ count. forwards_below planned weight host x carried count) (add-one n)
    ∙ ap (λ others. map send (filter gets others))
    (range_more 0 n ∙ ap (λ one. range_with_len 0 n ++ one ∷ []) (zero-add n))
    ∙ ap (map send) (filter-append gets (range_with_len 0 n) (n ∷ []))
    ∙ map-append send (filter gets (range_with_len 0 n)) (filter gets (n ∷ []))

chosen : (planned : PlannedShape) (host : HostId) (x : VarId) (carried : Option HostId) (n : ℕ) →
    is_told planned host x carried n ≡ true → filter (is_told planned host x carried) (n ∷ []) ≡ n ∷ []
chosen planned host x carried n does = ap (λ b. cond b (n ∷ []) []) does

not_chosen : (planned : PlannedShape) (host : HostId) (x : VarId) (carried : Option HostId) (n : ℕ) →
    is_told planned host x carried n ≡ false → filter (is_told planned host x carried) (n ∷ []) ≡ []
not_chosen planned host x carried n not_so = ap (λ b. cond b (n ∷ []) []) not_so

-- a host that reads the variable, is not the one that sends, and to which the value does not ride
pub one_gets : (planned : PlannedShape) (weight : ℕ) (host : HostId) (x : VarId) (carried : Option HostId)
    (n total other : ℕ) → n ≢ host.0 → reads_on planned x n ≡ true → is_to carried n ≡ false →
    other ≡ capped (cost_of planned.hosts (exchange weight host (record { 0 = n }) ∷ [])) →
    Costs planned.hosts (forwards_below planned weight host x carried n) total →
    Costs planned.hosts (forwards_below planned weight host x carried (n + 1)) (min (total + other) (2 ^ 64 - 1))
one_gets planned weight host x carried n total other apart reads rides cost so =
    let send : ℕ → Term = λ one. exchange weight host (record { 0 = one }) in
    let P : List Term → Type 0 = λ terms. Costs planned.hosts terms (min (total + other) (2 ^ 64 - 1)) in
    let does : is_told planned host x carried n ≡ true =
    rw (ne_eqb n host.0 apart, reads, rides) refl in
    subst P (sym (to_next planned weight host x carried n
    ∙ ap (λ more. forwards_below planned weight host x carried n ++ map send more)
    (chosen planned host x carried n does)))
    (costs_both planned.hosts (forwards_below planned weight host x carried n) (send n ∷ []) total other so cost)

-- a host that is not told the value
pub one_gets_not : (planned : PlannedShape) (weight : ℕ) (host : HostId) (x : VarId) (carried : Option HostId)
    (n total : ℕ) → is_told planned host x carried n ≡ false →
    Costs planned.hosts (forwards_below planned weight host x carried n) total →
    Costs planned.hosts (forwards_below planned weight host x carried (n + 1)) total
one_gets_not planned weight host x carried n total not_so so =
    let send : ℕ → Term = λ one. exchange weight host (record { 0 = one }) in
    let P : List Term → Type 0 = λ terms. Costs planned.hosts terms total in
    subst P (sym (to_next planned weight host x carried n
    ∙ ap (λ more. forwards_below planned weight host x carried n ++ map send more)
    (not_chosen planned host x carried n not_so)
    ∙ append-nil (forwards_below planned weight host x carried n))) so

pub true_not_false : true ≡ false → ⊥
true_not_false is = cc

no_reader : (reads : Bool) → (reads ≡ true → ⊥) → (test : Bool) → (test && reads) ≡ false
no_reader true none test = absurd (none refl)
no_reader false none test = and-false test

pub not_reading : (planned : PlannedShape) (host : HostId) (x : VarId) (n : ℕ) →
    (reads_on planned x n ≡ true → ⊥) → is_other_reader planned host x n ≡ false
not_reading planned host x n none = no_reader (reads_on planned x n) none (not (nat_eq n host.0))

pub the_sender : (planned : PlannedShape) (host : HostId) (x : VarId) (n : ℕ) → n ≡ host.0 →
    is_other_reader planned host x n ≡ false
the_sender planned host x n is = rw (eq-eqb n host.0 is) refl

-- who reads nothing is told nothing
pub none_told : (planned : PlannedShape) (host : HostId) (x : VarId) (carried : Option HostId) (n : ℕ) →
    is_other_reader planned host x n ≡ false → is_told planned host x carried n ≡ false
none_told planned host x carried n none = ap (λ reads. reads && not (is_to carried n)) none

-- the host to which the value rides
pub it_rides : (planned : PlannedShape) (host : HostId) (x : VarId) (carried : Option HostId) (n : ℕ) →
    is_to carried n ≡ true → is_told planned host x carried n ≡ false
it_rides planned host x carried n rides =
    ap (λ is. is_other_reader planned host x n && not is) rides ∙ and-false (is_other_reader planned host x n)
