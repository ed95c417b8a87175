-- Joins and meets as operations.
use Rattle.std.proofs.Common.{ℕ, ◌≡◌, ◌∙◌, sym, ap, refl, inl, inr, lit<, bit_and, bit_or, List, [], ◌∷◌, arith}
use Rattle.std.specs.Int.Bits.{and_self, or_self, or_zero_r}
use Rattle.std.proofs.lemmas.Nat.{and_comm, and_assoc}
use Rattle.std.proofs.lemmas.Nat.Bits.{same_from_bits, bit_at_or}
use Rattle.principals.specs.ActsFor.{Declared, IsDeclared}
use Rattle.label_lattice.specs.declared.label.Label.{Label}
use Rattle.label_lattice.specs.Label.{IsLabel, IsBottom}
use Rattle.label_lattice.specs.Lattice.{IsJoin, common_rows, empty_label, bottom_of, join_of, meet_of}
use Rattle.label_lattice.specs.Over.{IsLabelOver}
use Rattle.label_lattice.proofs.Values.{join_once, bottom_is, bottom_is_label, empty_forbids, empty_untrusted}
use Rattle.label_lattice.proofs.Values.{empty_is_label}

-- ---- words

or_assoc : (a b c : ℕ) → bit_or (bit_or a b) c ≡ bit_or a (bit_or b c)
or_assoc a b c =
    same_from_bits (bit_or (bit_or a b) c) (bit_or a (bit_or b c))
    (λ k. omega (arith, bit_at_or (bit_or a b) c k, bit_at_or a b k, bit_at_or a (bit_or b c) k, bit_at_or b c k))

-- ---- rows

rows_commutative : (first second : List ℕ) → common_rows first second ≡ common_rows second first
rows_commutative [] [] = refl
rows_commutative [] (y ∷ ys) = refl
rows_commutative (x ∷ xs) [] = refl
rows_commutative (x ∷ xs) (y ∷ ys) = ap (λ row. row ∷ common_rows xs ys) (and_comm x y)
    ∙ ap (λ rows. bit_and y x ∷ rows) (rows_commutative xs ys)

rows_associative : (first second third : List ℕ) →
    common_rows (common_rows first second) third ≡ common_rows first (common_rows second third)
rows_associative [] second third = refl
rows_associative (x ∷ xs) [] third = refl
rows_associative (x ∷ xs) (y ∷ ys) [] = refl
rows_associative (x ∷ xs) (y ∷ ys) (z ∷ zs) =
    ap (λ row. row ∷ common_rows (common_rows xs ys) zs) (and_assoc z x y)
    ∙ ap (λ rows. bit_and x (bit_and y z) ∷ rows) (rows_associative xs ys zs)

rows_idempotent : (rows : List ℕ) → common_rows rows rows ≡ rows
rows_idempotent [] = refl
rows_idempotent (x ∷ xs) = ap (λ row. row ∷ common_rows xs xs) (and_self x) ∙ ap (λ rows. x ∷ rows) (rows_idempotent xs)

-- ---- labels

abbrev a_label : List ℕ → ℕ → Label
a_label rows trust = record { rows = rows; trust = trust }

same_label : (rows others : List ℕ) (trust other : ℕ) → rows ≡ others → trust ≡ other →
    a_label rows trust ≡ a_label others other
same_label rows others trust other same also =
    ap (λ r. a_label r trust) same ∙ ap (λ t. a_label others t) also

pub join_commutative : (first second : Label) → join_of first second ≡ join_of second first
unfolding join_of
join_commutative first second =
    same_label (common_rows first.rows second.rows) (common_rows second.rows first.rows)
    (bit_and first.trust second.trust) (bit_and second.trust first.trust)
    (rows_commutative first.rows second.rows) (and_comm first.trust second.trust)

pub join_associative : (first second third : Label) →
    join_of (join_of first second) third ≡ join_of first (join_of second third)
unfolding join_of
join_associative first second third =
    same_label (common_rows (common_rows first.rows second.rows) third.rows)
    (common_rows first.rows (common_rows second.rows third.rows))
    (bit_and (bit_and first.trust second.trust) third.trust) (bit_and first.trust (bit_and second.trust third.trust))
    (rows_associative first.rows second.rows third.rows) (and_assoc third.trust first.trust second.trust)

pub join_idempotent : (label : Label) → join_of label label ≡ label
unfolding join_of
join_idempotent label =
    same_label (common_rows label.rows label.rows) label.rows (bit_and label.trust label.trust) label.trust
    (rows_idempotent label.rows) (and_self label.trust)

pub meet_associative : (first second third : Label) →
    meet_of (meet_of first second) third ≡ meet_of first (meet_of second third)
unfolding meet_of
meet_associative first second third =
    same_label first.rows first.rows (bit_or (bit_or first.trust second.trust) third.trust)
    (bit_or first.trust (bit_or second.trust third.trust))
    refl (or_assoc first.trust second.trust third.trust)

pub meet_idempotent : (label : Label) → meet_of label label ≡ label
unfolding meet_of
meet_idempotent label = same_label label.rows label.rows (bit_or label.trust label.trust) label.trust refl
    (or_self label.trust)

-- ---- the bottom and the empty label

pub join_bottom : (principals : Declared) (label : Label) → IsDeclared principals → IsLabelOver principals label →
    join_of (bottom_of principals) label ≡ label
join_bottom principals label declared over =
    sym (join_once (bottom_of principals) label label (bottom_is_label principals declared.names.few) over.is_label
    over.is_label joins)
  where
    bottom : IsBottom principals (bottom_of principals)
    bottom = bottom_is principals

    joins : IsJoin (bottom_of principals) label label
    joins = record {
      forbids = λ q r q_in r_in. (
        λ forbids. inr forbids,
        λ either. elim either [ inl never ↦ absurd (bottom.forbids q r q_in r_in never) | inr forbids ↦ forbids ],
      );
      trusts = λ p p_in. (
        λ trusts. ((bottom.trusts p p_in).1 (over.trusts.declared p p_in trusts), trusts),
        λ both. both.1,
      );
    }

pub meet_empty : (label : Label) → meet_of label empty_label ≡ label
unfolding meet_of empty_label
meet_empty label =
    same_label label.rows label.rows (bit_or label.trust 0) label.trust refl (or_zero_r label.trust)

joins_empty : (label : Label) → IsJoin label empty_label (record label { trust = 0 })
unfolding empty_label
joins_empty label = record {
  forbids = λ q r q_in r_in. (
    λ forbids. inl forbids,
    λ either. elim either [ inl forbids ↦ forbids | inr never ↦ absurd (empty_forbids q r q_in r_in never) ],
  );
  trusts = λ p p_in. (λ never. absurd (empty_untrusted p p_in never), λ both. absurd (empty_untrusted p p_in both.1));
}

pub join_empty : (label : Label) → IsLabel label → join_of label empty_label ≡ record label { trust = 0 }
join_empty label is =
    sym (join_once label empty_label (record label { trust = 0 }) is empty_is_label
    (record { long = is.long; words = is.words; trust = lit< tt }) (joins_empty label))
