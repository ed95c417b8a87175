-- The rows of bits of who acts for whom.
use Rattle.std.proofs.Common.{ℕ, ◌≡◌, ◌≢◌, ◌<◌, ◌≤◌, ◌+◌, ◌⊎◌, ◌↔◌, ◌∙◌, sym, subst, inl, inr, List, [], ◌∷◌, ◌++◌}
use Rattle.std.proofs.Common.{length, get_or, set, map, take, arith}
use Rattle.std.specs.Int.{bit_at}
use Rattle.std.proofs.lemmas.Bool.{cases_lt}
use Rattle.std.proofs.lemmas.List.{get_or-set_same, get_or-set_other, length-set, map_more, take_all}
use Rattle.std.proofs.lemmas.Nat.Bits.{bit_at-zero}
use Rattle.principals.specs.Closure.{AreRowsOf}
use Rattle.principals.proofs.Chains.{OldOrOver, one_more_pair, without_pairs}

-- the row has the bits that the old one had, and where that has the bit of the first, also those that are reached
abbrev pub RowGains : ℕ → ℕ → ℕ → ℕ → Type 0
RowGains old first reached new =
    (q : ℕ) → (bit_at new q ≡ 1) ↔ ((bit_at old q ≡ 1) ⊎ ((bit_at old first ≡ 1) × (bit_at reached q ≡ 1)))

-- the rows below a place have gained, and those from there on are the old ones
pub record GainedBelow (old rows : List ℕ) (first reached place : ℕ) : Type 0 where
  pub before : (p : ℕ) → p < place → RowGains (get_or old p 0) first reached (get_or rows p 0)
  pub after : (p : ℕ) → place ≤ p → get_or rows p 0 ≡ get_or old p 0

pub row_stays : (old first reached : ℕ) → ¬ (bit_at old first ≡ 1) → RowGains old first reached old
row_stays old first reached lacks q =
    (λ set. inl set, λ either. elim either [ inl set ↦ set | inr both ↦ absurd (lacks both.0) ])

pub rows_with_pair : (pairs : List (ℕ × ℕ)) (old rows : List ℕ) (first second place : ℕ) → first < 63 →
    second < 63 → 63 ≤ place → GainedBelow old rows first (get_or old second 0) place → AreRowsOf pairs old →
    AreRowsOf (pairs ++ (first, second) ∷ []) rows
rows_with_pair pairs old rows first second place first_in second_in all gained are p q p_in q_in = (
  λ set. (one_more_pair pairs first second p q).1 (there ((gained.before p (omega arith) q).0 set)),
  λ leads. (gained.before p (omega arith) q).1 (back ((one_more_pair pairs first second p q).0 leads)),
)
  where
    there : (bit_at (get_or old p 0) q ≡ 1)
        ⊎ ((bit_at (get_or old p 0) first ≡ 1) × (bit_at (get_or old second 0) q ≡ 1)) →
        OldOrOver pairs first second p q
    there (inl set) = inl ((are p q p_in q_in).0 set)
    there (inr both) = inr ((are p first p_in first_in).0 both.0, (are second q second_in q_in).0 both.1)

    back : OldOrOver pairs first second p q →
        (bit_at (get_or old p 0) q ≡ 1) ⊎ ((bit_at (get_or old p 0) first ≡ 1) × (bit_at (get_or old second 0) q ≡ 1))
    back (inl old_leads) = inl ((are p q p_in q_in).1 old_leads)
    back (inr over) = inr ((are p first p_in first_in).1 over.0, (are second q second_in q_in).1 over.1)

-- the row has its own bit alone
abbrev pub IsOwnRow : ℕ → ℕ → Type 0
IsOwnRow p row = (q : ℕ) → (bit_at row q ≡ 1) ↔ (p ≡ q)

pub record OwnBelow (rows : List ℕ) (place : ℕ) : Type 0 where
  pub long : length rows ≡ 63
  pub own : (p : ℕ) → p < place → IsOwnRow p (get_or rows p 0)

pub own_row : (p row : ℕ) → bit_at row p ≡ 1 → ((k : ℕ) → k ≢ p → bit_at row k ≡ bit_at 0 k) → IsOwnRow p row
own_row p row set others q = (
  λ has. elim (cases_lt p q) [
    | inl less ↦ absurd (omega (arith, others q (omega arith), bit_at-zero q))
    | inr more ↦ elim (cases_lt q p) [
      | inl less ↦ absurd (omega (arith, others q (omega arith), bit_at-zero q))
      | inr same ↦ omega arith
    ]
  ],
  λ same. let P : ℕ → Type 0 = λ n. bit_at row n ≡ 1 in subst P same set,
)

own_there : (rows : List ℕ) (place row : ℕ) → place < length rows → IsOwnRow place row → OwnBelow rows place →
    (p : ℕ) → p < place + 1 → IsOwnRow p (get_or (set rows place row) p 0)
own_there rows place row within own so_far p below =
    elim (cases_lt p place) [
      | inl less ↦
          let P : ℕ → Type 0 = λ r. IsOwnRow p r in
          subst P (sym (get_or-set_other rows place p row 0 (λ same. omega arith))) (so_far.own p less)
      | inr more ↦
          let is : place ≡ p = omega arith in
          let P : ℕ → Type 0 = λ n. IsOwnRow n (get_or (set rows place row) n 0) in
          let Q : ℕ → Type 0 = λ r. IsOwnRow place r in
          subst P is (subst Q (sym (get_or-set_same rows place row 0 within)) own)
    ]

pub own_more : (rows : List ℕ) (place row : ℕ) → place < 63 → IsOwnRow place row → OwnBelow rows place →
    OwnBelow (set rows place row) (place + 1)
own_more rows place row within own so_far = record {
  long = length-set rows place row ∙ so_far.long;
  own = own_there rows place row (omega (arith, so_far.long)) own so_far;
}

pub own_rows_are : (rows : List ℕ) (place : ℕ) → 63 ≤ place → OwnBelow rows place → AreRowsOf [] rows
own_rows_are rows place all below p q p_in q_in =
    let own : IsOwnRow p (get_or rows p 0) = below.own p (omega arith) in
    (λ set. ([], (own q).0 set), λ leads. (own q).1 (without_pairs p q leads))

-- ---- the rows along a list of pairs

pub rows_more : {X : Type 0} (f : X → ℕ × ℕ) (items : List X) (place : ℕ) (d : X) (rows : List ℕ) →
    place < length items → AreRowsOf (map f (take place items) ++ f (get_or items place d) ∷ []) rows →
    AreRowsOf (map f (take (place + 1) items)) rows
rows_more f items place d rows within are =
    let P : List (ℕ × ℕ) → Type 0 = λ pairs. AreRowsOf pairs rows in
    subst P (sym (map_more f items place d within)) are

pub rows_of_all : {X : Type 0} (f : X → ℕ × ℕ) (items : List X) (place : ℕ) (rows : List ℕ) → length items ≤ place →
    AreRowsOf (map f (take place items)) rows → AreRowsOf (map f items) rows
rows_of_all f items place rows all are =
    let P : List _ → Type 0 = λ xs. AreRowsOf (map f xs) rows in
    subst P (take_all place items all) are
