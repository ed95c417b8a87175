-- Laws of joins, meets and orders of labels.
use Rattle.std.proofs.Common.{ℕ, ◌≡◌, ◌<◌, ◌≤◌, ◌+◌, ◌↔◌, ◌⊎◌, ◌∙◌, sym, ap, refl, subst, inl, inr, min, max, bit_and}
use Rattle.std.proofs.Common.{bit_or, List, length, get_or, set, arith}
use Rattle.std.specs.Int.{bit_at}
use Rattle.std.proofs.lemmas.Bool.{cases_lt}
use Rattle.std.proofs.lemmas.List.{get_or-set_same, get_or-set_other, length-set}
use Rattle.std.proofs.lemmas.Nat.Bits.{same_from_bits, same_from_bits_below, bit_at_and, bit_at_or}
use Rattle.std.proofs.lemmas.Grind.{same_number_lists}
use Rattle.principals.specs.ActsFor.{Declared}
use Rattle.label_lattice.specs.declared.label.Label.{Label}
use Rattle.label_lattice.specs.Label.{Trusts, IsLabel, IntegFlows, Flows, IsBottom}
use Rattle.label_lattice.specs.Lattice.{IsJoin, IsIntegrityMeet}

-- ---- two labels that may flow to each other

-- two bits are the same where each is 0 wherever the other is
same_bit : (a b : ℕ) → a < 2 → b < 2 → (a ≡ 0 → b ≡ 0) → (b ≡ 0 → a ≡ 0) → a ≡ b
same_bit a b a_in b_in there back = elim (cases_lt a 1) [
  | inl less ↦ omega (arith, there (omega arith))
  | inr more ↦ elim (cases_lt b 1) [
    | inl less ↦ absurd (omega (arith, back (omega arith)))
    | inr also ↦ omega arith
  ]
]

-- or 1 wherever the other is
pub same_set_bit : (a b : ℕ) → a < 2 → b < 2 → (a ≡ 1 → b ≡ 1) → (b ≡ 1 → a ≡ 1) → a ≡ b
same_set_bit a b a_in b_in there back = elim (cases_lt a 1) [
  | inl less ↦ elim (cases_lt b 1) [
    | inl also ↦ omega arith
    | inr set ↦ absurd (omega (arith, back (omega arith)))
  ]
  | inr more ↦ omega (arith, there (omega arith))
]

same_row : (first second : Label) → IsLabel first → IsLabel second → Flows first second → Flows second first →
    (q : ℕ) → q < 63 → get_or first.rows q 0 ≡ get_or second.rows q 0
same_row first second first_is second_is there back q within =
    same_from_bits_below 64 (get_or first.rows q 0) (get_or second.rows q 0)
    (first_is.words q 0 (omega (arith, first_is.long))) (second_is.words q 0 (omega (arith, second_is.long)))
    (λ k below. same_bit (bit_at (get_or first.rows q 0) k) (bit_at (get_or second.rows q 0) k) (omega arith)
    (omega arith) (there.0 q k within below) (back.0 q k within below))

pub one_label : (first second : Label) → IsLabel first → IsLabel second → Flows first second → Flows second first →
    first ≡ second
one_label first second first_is second_is there back =
    let trust : first.trust ≡ second.trust =
    same_from_bits_below 64 first.trust second.trust first_is.trust second_is.trust
    (λ k below. same_set_bit (bit_at first.trust k) (bit_at second.trust k) (omega arith) (omega arith)
    (back.1 k below) (there.1 k below)) in
    let rows : first.rows ≡ second.rows = same_number_lists first.rows second.rows (first_is.long ∙ sym second_is.long)
    (λ q within. same_row first second first_is second_is there back q (omega (arith, within, first_is.long))) in
    let label : List ℕ → ℕ → Label = λ r t. record { rows = r; trust = t } in
    ap (λ r. label r first.trust) rows ∙ ap (λ t. label second.rows t) trust

-- ---- joins and meets

pub join_is_above : (first second join : Label) → IsJoin first second join → Flows first join × Flows second join
join_is_above first second join is = (
  (
    λ owner reader owner_in reader_in forbids. (is.forbids owner reader owner_in reader_in).1 (inl forbids),
    λ p within trusts. ((is.trusts p within).0 trusts).0,
  ),
  (
    λ owner reader owner_in reader_in forbids. (is.forbids owner reader owner_in reader_in).1 (inr forbids),
    λ p within trusts. ((is.trusts p within).0 trusts).1,
  ),
)

pub join_is_least : (first second join above : Label) → IsJoin first second join → Flows first above →
    Flows second above → Flows join above
join_is_least first second join above is one two = (
  λ owner reader owner_in reader_in forbids. elim ((is.forbids owner reader owner_in reader_in).0 forbids) [
    | inl of_first ↦ one.0 owner reader owner_in reader_in of_first
    | inr of_second ↦ two.0 owner reader owner_in reader_in of_second
  ],
  λ p within trusts. (is.trusts p within).1 (one.1 p within trusts, two.1 p within trusts),
)

pub meet_is_below : (first second meet : Label) → IsIntegrityMeet first second meet →
    IntegFlows meet first × IntegFlows meet second
meet_is_below first second meet is =
    (λ p within trusts. (is.trusts p within).1 (inl trusts), λ p within trusts. (is.trusts p within).1 (inr trusts))

pub meet_is_greatest : (first second meet below : Label) → IsIntegrityMeet first second meet →
    IntegFlows below first → IntegFlows below second → IntegFlows below meet
meet_is_greatest first second meet below is one two p within trusts =
    elim ((is.trusts p within).0 trusts) [
      | inl of_first ↦ one p within of_first
      | inr of_second ↦ two p within of_second
    ]

pub bottom_flows : (principals : Declared) (bottom label : Label) → IsBottom principals bottom →
    ((principal : ℕ) → principal < 64 → Trusts label principal → principal < length principals.names) →
    Flows bottom label
bottom_flows principals bottom label is declared = (
  λ owner reader owner_in reader_in forbids. absurd (is.forbids owner reader owner_in reader_in forbids),
  λ p within trusts. (is.trusts p within).1 (declared p within trusts),
)

-- ---- the rows of a join

-- the rows below a place have the bits that are set in both, and those from there on are the old ones
pub record JoinedBelow (old other rows : List ℕ) (place : ℕ) : Type 0 where
  pub long : length rows ≡ length old
  pub before : (q : ℕ) → q < place → get_or rows q 0 ≡ bit_and (get_or old q 0) (get_or other q 0)
  pub after : (q : ℕ) → place ≤ q → get_or rows q 0 ≡ get_or old q 0

pub joined_none : (old other : List ℕ) → JoinedBelow old other old 0
joined_none old other = record { long = refl; before = λ q below. absurd (omega arith); after = λ q _. refl }

pub common_word : (first second common : ℕ) → ((k : ℕ) → bit_at common k ≡ min (bit_at first k) (bit_at second k)) →
    common ≡ bit_and first second
common_word first second common bits =
    same_from_bits common (bit_and first second) (λ k. bits k ∙ sym (bit_at_and first second k))

pub either_word : (first second either : ℕ) → ((k : ℕ) → bit_at either k ≡ max (bit_at first k) (bit_at second k)) →
    either ≡ bit_or first second
either_word first second either bits =
    same_from_bits either (bit_or first second) (λ k. bits k ∙ sym (bit_at_or first second k))

pub joined_more : (old other rows : List ℕ) (place next : ℕ) → place < length old →
    ((k : ℕ) → bit_at next k ≡ min (bit_at (get_or rows place 0) k) (bit_at (get_or other place 0) k)) →
    JoinedBelow old other rows place → JoinedBelow old other (set rows place next) (place + 1)
joined_more old other rows place next within bits so_far = record {
  long = length-set rows place next ∙ so_far.long;
  before = before;
  after = λ q above. get_or-set_other rows place q next 0 (λ same. omega (arith, above, same))
      ∙ so_far.after q (omega arith);
}
  where
    here : get_or (set rows place next) place 0 ≡ bit_and (get_or old place 0) (get_or other place 0)
    here =
        get_or-set_same rows place next 0 (omega (arith, within, so_far.long))
        ∙ common_word (get_or rows place 0) (get_or other place 0) next bits
        ∙ ap (λ row. bit_and row (get_or other place 0)) (so_far.after place (omega arith))

    before : (q : ℕ) → q < place + 1 → get_or (set rows place next) q 0 ≡ bit_and (get_or old q 0) (get_or other q 0)
    before q below = elim (cases_lt q place) [
      | inl less ↦ get_or-set_other rows place q next 0 (λ same. omega (arith, less, same)) ∙ so_far.before q less
      | inr more ↦
          let at : place ≡ q = omega arith in
          let P : ℕ → Type 0 = λ n. get_or (set rows place next) n 0 ≡ bit_and (get_or old n 0) (get_or other n 0) in
          subst P at here
    ]

-- ---- bits of words

pub least_bit : (a b m : ℕ) → a < 2 → b < 2 → m ≡ min a b → (m ≡ 0) ↔ ((a ≡ 0) ⊎ (b ≡ 0))
least_bit a b m a_in b_in is = (there, back)
  where
    there : m ≡ 0 → (a ≡ 0) ⊎ (b ≡ 0)
    there clear = elim (cases_lt a 1) [
      | inl less ↦ inl (omega arith)
      | inr more ↦ inr (omega (arith, is, clear))
    ]

    back : (a ≡ 0) ⊎ (b ≡ 0) → m ≡ 0
    back (inl clear) = omega (arith, is, clear)
    back (inr clear) = omega (arith, is, clear)

pub both_bits : (a b m : ℕ) → a < 2 → b < 2 → m ≡ min a b → (m ≡ 1) ↔ ((a ≡ 1) × (b ≡ 1))
both_bits a b m a_in b_in is =
    (λ set. (omega (arith, is, set), omega (arith, is, set)), λ both. omega (arith, is, both.0, both.1))

pub either_bit : (a b m : ℕ) → a < 2 → b < 2 → m ≡ max a b → (m ≡ 1) ↔ ((a ≡ 1) ⊎ (b ≡ 1))
either_bit a b m a_in b_in is = (there, back)
  where
    there : m ≡ 1 → (a ≡ 1) ⊎ (b ≡ 1)
    there set = elim (cases_lt a 1) [
      | inl less ↦ inr (omega (arith, is, set))
      | inr more ↦ inl (omega arith)
    ]

    back : (a ≡ 1) ⊎ (b ≡ 1) → m ≡ 1
    back (inl set) = omega (arith, is, set)
    back (inr set) = omega (arith, is, set)
