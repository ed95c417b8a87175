-- Each entry at which a way begins or ends has one relay.
use Rattle.std.proofs.Common.{◌≡◌, ◌≢◌, ℕ, zero, suc, ◌+◌, ◌<◌, ◌≤◌, List, [], ◌∷◌, Option, Some, Bool, refl}
use Rattle.std.proofs.Common.{sym, ◌∙◌, ap, arith, get_or, length, replicate}
use Rattle.std.specs.Prelude.{◌==◌, ◌||◌, ◌&&◌, false, if◌then◌else◌, nat_lt, slice_set, true}
use Rattle.std.specs.List.{count_by}
use Rattle.std.proofs.lemmas.Bool.{eqb-false, eqb-true, ltb-true}
use Rattle.std.proofs.lemmas.Bool.Decides.{nat_tests}
use Rattle.std.proofs.lemmas.List.{get_or-replicate, get_or-set_other, get_or-set_same, length-replicate, length-set}
use Rattle.std.proofs.lemmas.List.Sums.{sum_by-append}
use Rattle.std.proofs.lemmas.Option.{slice_get-get_or}
use Rattle.std.proofs.Math.Path.{ap₂}
use Rattle.js_base.specs.declared.ids.EntryId.{EntryId}
use Rattle.host_code.specs.Code.{entry_at}
use Rattle.host_code.specs.declared.code.Entry.{Entry}
use Rattle.plan_ways.specs.Marked.{is_at, is_of, is_touched}
use Rattle.plan_ways.specs.Relays.{RowShape, handed_down, is_marked, marks_of, relay_at, relay_there}
use Rattle.plan_ways.specs.Relays.{relays_below, with_end, with_ends}
use Rattle.plan_ways.specs.declared.ends.Way.{Way}
use Rattle.plan_ways.specs.declared.ends.WayEnd.{WayEnd}
use Rattle.plan_ways.specs.declared.ends.WayEnd.TheVariants as end
use Rattle.plan_ways.specs.declared.relays.Relay.{Relay}

-- ---- marks

end_count : (marks : List Bool) (one : WayEnd) → length (with_end marks one) ≡ length marks
end_count marks (end.Relay entry) = length-set marks entry.0 true
end_count marks other = refl

or_false : (b : Bool) → b ≡ (b || false)
or_false true = refl
or_false false = refl

or_true : (b : Bool) → true ≡ (b || true)
or_true true = refl
or_true false = refl

set_mark : (marks : List Bool) (k e : ℕ) (test : Bool) → k < length marks → (e == k) ≡ test →
    get_or (slice_set marks e true) k false ≡ (get_or marks k false || test)
set_mark marks k e true lt is =
    let same : e ≡ k = eqb-true e k is in
    ap (λ (n : ℕ). get_or (slice_set marks n true) k false) same ∙ get_or-set_same marks k true false lt
    ∙ or_true (get_or marks k false)
set_mark marks k e false lt is =
    let other : k ≢ e = λ same. eqb-false e k is (sym same) in
    get_or-set_other marks e k true false other ∙ or_false (get_or marks k false)

end_mark : (marks : List Bool) (k : ℕ) (one : WayEnd) → k < length marks →
    get_or (with_end marks one) k false ≡ (get_or marks k false || is_at k one)
end_mark marks k (end.Relay entry) lt = set_mark marks k entry.0 (entry.0 == k) lt refl
end_mark marks k (end.Host host) lt = or_false (get_or marks k false)
end_mark marks k (end.Field field) lt = or_false (get_or marks k false)
end_mark marks k (end.Statement statement) lt = or_false (get_or marks k false)

regrouped : (a b c d : Bool) → (((a || b) || c) || d) ≡ (a || ((b || c) || d))
regrouped true b c d = refl
regrouped false true c d = refl
regrouped false false c d = refl

all_marks : (marks : List Bool) (k : ℕ) (ways : List Way) → k < length marks →
    get_or (with_ends marks ways) k false ≡ (get_or marks k false || is_touched k ways)
all_marks marks k [] lt = or_false (get_or marks k false)
all_marks marks k (way ∷ ways) lt =
    let one = with_end marks way.begin in
    let in_one : k < length one = omega (arith, lt, end_count marks way.begin) in
    let in_two : k < length (with_end one way.end) = omega (arith, in_one, end_count one way.end) in
    all_marks (with_end one way.end) k ways in_two
    ∙ ap (λ (b : Bool). b || is_touched k ways) (end_mark one k way.end in_one
    ∙ ap (λ (b : Bool). b || is_at k way.end) (end_mark marks k way.begin lt))
    ∙ regrouped (get_or marks k false) (is_at k way.begin) (is_at k way.end) (is_touched k ways)

mark_is : (count k : ℕ) (ways : List Way) → k < count → get_or (marks_of count ways) k false ≡ is_touched k ways
mark_is count k ways lt =
    let within : k < length (replicate count false) = omega (arith, lt, length-replicate count false) in
    all_marks (replicate count false) k ways within
    ∙ ap (λ (b : Bool). b || is_touched k ways) (get_or-replicate count k false false lt)

-- ---- counts

abbrev one_if : Bool → ℕ
one_if test = if test then 1 else 0

both_same : (mark : Bool) → one_if (mark && true) + one_if (false && mark) ≡ one_if (true && mark)
both_same true = refl
both_same false = refl

none_first : (mark : Bool) (n : ℕ) → one_if (mark && false) + n ≡ n
none_first true n = omega arith
none_first false n = omega arith

first_entry : Entry
first_entry = record { host = record { 0 = 0 }; at = 0; label = 0; need = 0 }

there_count : (sheet : RowShape) (spots : List ℕ) (number k : ℕ) (found : Option Entry) (there : Entry) →
    found ≡ Some there →
    count_by (is_of k) (relay_there sheet spots (record { 0 = number }) found) ≡ one_if (number == k)
there_count sheet spots number k found there is =
    ap (λ (f : Option Entry). count_by (is_of k) (relay_there sheet spots (record { 0 = number }) f)) is
    ∙ omega arith

at_count : (sheet : RowShape) (spots : List ℕ) (number k : ℕ) (mark : Bool) (found : Option Entry) (there : Entry) →
    found ≡ Some there →
    count_by (is_of k) (if mark then relay_there sheet spots (record { 0 = number }) found else [])
    ≡ one_if (mark && (number == k))
at_count sheet spots number k true found there is = there_count sheet spots number k found there is
at_count sheet spots number k false found there is = refl

-- one more number n, of which the mark counts where it is k
last_added : (n k : ℕ) (same : Bool) (mark_n mark_k : Bool) → (n == k) ≡ same → (n ≡ k → mark_n ≡ mark_k) →
    one_if (mark_n && same) + one_if (nat_lt k n && mark_k) ≡ one_if (nat_lt k (suc n) && mark_k)
last_added n k true mark_n mark_k is marks =
    let here : n ≡ k = eqb-true n k is in
    let not_below : nat_lt k n ≡ false = grind (arith, nat_tests, here) in
    let in_next : nat_lt k (suc n) ≡ true = grind (arith, nat_tests, here) in
    rw (not_below, in_next, marks here) (both_same mark_k)
last_added n k false mark_n mark_k is marks =
    let other : n ≢ k = eqb-false n k is in
    let like : nat_lt k n ≡ nat_lt k (suc n) = grind (arith, nat_tests, other) in
    rw (like) (none_first mark_n (one_if (nat_lt k (suc n) && mark_k)))

counted : (sheet : RowShape) (n k : ℕ) (spots : List ℕ) → n ≤ length sheet.code.entries →
    count_by (is_of k) (relays_below sheet n spots) ≡ one_if (nat_lt k n && get_or sheet.marks k false)
counted sheet zero k spots fits =
    let none : nat_lt k zero ≡ false = grind (arith, nat_tests) in
    rw none refl
counted sheet (suc n) k spots fits =
    let entry : EntryId = record { 0 = n } in
    let lower = handed_down sheet.handed spots entry in
    let within : n < length sheet.code.entries = omega (arith, fits) in
    let there : Entry = get_or sheet.code.entries n first_entry in
    sum_by-append (λ (relay : Relay). one_if (is_of k relay)) (relay_at sheet spots entry)
    (relays_below sheet n lower)
    ∙ ap₂ (λ (a b : ℕ). a + b)
    (at_count sheet spots n k (is_marked sheet.marks entry) (entry_at sheet.code entry) there
    (slice_get-get_or sheet.code.entries n first_entry within))
    (counted sheet n k lower (omega (arith, fits)))
    ∙ last_added n k (n == k) (get_or sheet.marks n false) (get_or sheet.marks k false) refl
    (λ same. ap (λ (m : ℕ). get_or sheet.marks m false) same)

below_count : (count k : ℕ) (ways : List Way) (below : Bool) → nat_lt k count ≡ below →
    one_if (below && get_or (marks_of count ways) k false) ≡ one_if (below && is_touched k ways)
below_count count k ways true is = ap one_if (mark_is count k ways (ltb-true k count is))
below_count count k ways false is = refl

pub relays_counted : (sheet : RowShape) (k : ℕ) (spots : List ℕ) (ways : List Way) →
    sheet.marks ≡ marks_of (length sheet.code.entries) ways →
    count_by (is_of k) (relays_below sheet (length sheet.code.entries) spots)
    ≡ one_if (nat_lt k (length sheet.code.entries) && is_touched k ways)
relays_counted sheet k spots ways is =
    let count = length sheet.code.entries in
    counted sheet count k spots (omega arith)
    ∙ ap (λ (marks : List Bool). one_if (nat_lt k count && get_or marks k false)) is
    ∙ below_count count k ways (nat_lt k count) refl
