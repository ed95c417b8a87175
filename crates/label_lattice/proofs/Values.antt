-- Joins, meets, the empty label and the bottom as values.
use Rattle.std.proofs.Common.{ℕ, ◌≡◌, ◌<◌, ◌≤◌, ◌-◌, ◌^◌, ◌↔◌, ◌∙◌, sym, ap, refl, inl, inr, min, max, lit<, rules}
use Rattle.std.proofs.Common.{bit_and, bit_or, List, length, get_or, arith}
use Rattle.std.specs.Int.{bit_at}
use Rattle.std.specs.List.{zip}
use Rattle.std.proofs.Math.Pow.{pow_mono}
use Rattle.std.proofs.lemmas.Bool.{cases_lt}
use Rattle.std.proofs.lemmas.List.{get_or-map, length-map}
use Rattle.std.proofs.lemmas.List.Elements.{All-replicate}
use Rattle.std.proofs.lemmas.Nat.{and_le_l, or_lt}
use Rattle.std.proofs.lemmas.Nat.Bits.{bit_at_and, bit_at_or, bit_at_ones, bit_at_ones_above, same_from_bits}
use Rattle.std.proofs.lemmas.Slice.Zip.{length-zip, get_or-zip}
use Rattle.std.proofs.lemmas.Grind.{same_number_lists}
use Rattle.js_base.proofs.BitLemmas.{set_in_ones}
use Rattle.principals.specs.ActsFor.{Declared, IsDeclared}
use Rattle.label_lattice.specs.declared.label.Label.{Label}
use Rattle.label_lattice.specs.Label.{IsLabel, Flows, ForbidsNothing, IsUntrusted, IsBottom}
use Rattle.label_lattice.specs.Lattice.{IsJoin, IsIntegrityMeet, first_bits, free_rows, common_rows, empty_label}
use Rattle.label_lattice.specs.Lattice.{bottom_of, join_of, meet_of}
use Rattle.label_lattice.specs.Over.{IsLabelOver}
use Rattle.label_lattice.proofs.OverLemmas.{over_empty, over_bottom, over_join, over_meet}
use Rattle.label_lattice.proofs.PolicyLemmas.{LeadsToDeclared}
use Rattle.label_lattice.proofs.LatticeLemmas.{JoinedBelow, same_set_bit, least_bit, both_bits, either_bit, one_label}
use Rattle.label_lattice.proofs.LatticeLemmas.{common_word, either_word, join_is_above, join_is_least}

-- ---- the rows of a join

common_row : (first second : List ℕ) (q d : ℕ) → q < length first → q < length second →
    get_or (common_rows first second) q d ≡ bit_and (get_or first q 0) (get_or second q 0)
common_row first second q d in_first in_second =
    let within : q < length (zip first second) = omega (arith, length-zip first second) in
    get_or-map (λ (rows : ℕ × ℕ). bit_and rows.0 rows.1) (zip first second) q (0, 0) d within
    ∙ ap (λ (rows : ℕ × ℕ). bit_and rows.0 rows.1) (get_or-zip first second q (0, 0) in_first in_second)

length-common : (first second : List ℕ) → length (common_rows first second) ≡ min (length first) (length second)
length-common first second = length-map (zip first second) (λ (rows : ℕ × ℕ). bit_and rows.0 rows.1)
    ∙ length-zip first second

pub rows_joined : (old other rows : List ℕ) (place : ℕ) → length old ≡ 63 → length other ≡ 63 → 63 ≤ place →
    JoinedBelow old other rows place → rows ≡ common_rows old other
rows_joined old other rows place old_long other_long all joined =
    same_number_lists rows (common_rows old other) (omega (arith, joined.long, length-common old other))
    (λ q within. joined.before q (omega (arith, joined.long))
    ∙ sym (common_row old other q 0 (omega (arith, joined.long)) (omega (arith, joined.long))))

pub join_is : (first second : Label) → length first.rows ≡ 63 → length second.rows ≡ 63 →
    IsJoin first second (join_of first second)
unfolding join_of
join_is first second first_long second_long = record {
  forbids = λ q r q_in r_in.
      least_bit (bit_at (get_or first.rows q 0) r) (bit_at (get_or second.rows q 0) r)
      (bit_at (get_or (common_rows first.rows second.rows) q 0) r) (omega arith) (omega arith)
      (ap (λ row. bit_at row r) (common_row first.rows second.rows q 0 (omega arith) (omega arith))
      ∙ bit_at_and (get_or first.rows q 0) (get_or second.rows q 0) r);
  trusts = λ p p_in. both_bits (bit_at first.trust p) (bit_at second.trust p)
      (bit_at (bit_and first.trust second.trust) p) (omega arith) (omega arith)
      (bit_at_and first.trust second.trust p);
}

pub join_is_label : (first second : Label) → IsLabel first → IsLabel second → IsLabel (join_of first second)
unfolding join_of
join_is_label first second one two = record {
  long = omega (arith, length-common first.rows second.rows, one.long, two.long);
  words = λ q d within.
      let in_first : q < length first.rows = omega (arith, length-common first.rows second.rows, one.long, two.long) in
      let in_second : q < length second.rows =
      omega (arith, length-common first.rows second.rows, one.long, two.long) in
      omega (
        arith,
        common_row first.rows second.rows q d in_first in_second,
        and_le_l (get_or first.rows q 0) (get_or second.rows q 0),
        one.words q 0 in_first,
      );
  trust = omega (arith, and_le_l first.trust second.trust, one.trust);
}

pub join_once : (first second join : Label) → IsLabel first → IsLabel second → IsLabel join →
    IsJoin first second join → join ≡ join_of first second
join_once first second join one two is joins =
    let other : IsJoin first second (join_of first second) = join_is first second one.long two.long in
    let above = join_is_above first second join joins in
    let other_above = join_is_above first second (join_of first second) other in
    one_label join (join_of first second) is (join_is_label first second one two)
    (join_is_least first second join (join_of first second) joins other_above.0 other_above.1)
    (join_is_least first second (join_of first second) join other above.0 above.1)

pub joined_label : (first second : Label) (rows : List ℕ) (trust place : ℕ) → length first.rows ≡ 63 →
    length second.rows ≡ 63 → 63 ≤ place → JoinedBelow first.rows second.rows rows place →
    ((k : ℕ) → bit_at trust k ≡ min (bit_at first.trust k) (bit_at second.trust k)) →
    record { rows = rows; trust = trust } ≡ join_of first second
unfolding join_of
joined_label first second rows trust place first_long second_long all joined bits =
    let label : List ℕ → ℕ → Label = λ r t. record { rows = r; trust = t } in
    ap (λ r. label r trust) (rows_joined first.rows second.rows rows place first_long second_long all joined)
    ∙ ap (λ t. label (common_rows first.rows second.rows) t) (common_word first.trust second.trust trust bits)

pub join_over : (principals : Declared) (first second : Label) → IsLabelOver principals first →
    IsLabelOver principals second → IsLabelOver principals (join_of first second)
join_over principals first second one two =
    over_join principals first second (join_of first second) (join_is_label first second one.is_label two.is_label)
    (join_is first second one.is_label.long two.is_label.long) one two

-- ---- meets

pub meet_is : (first second : Label) → IsIntegrityMeet first second (meet_of first second)
unfolding meet_of
meet_is first second = record {
  forbids = λ q r q_in r_in. (λ forbids. forbids, λ forbids. forbids);
  trusts = λ p p_in. either_bit (bit_at first.trust p) (bit_at second.trust p)
      (bit_at (bit_or first.trust second.trust) p) (omega arith) (omega arith) (bit_at_or first.trust second.trust p);
}

pub meet_is_label : (first second : Label) → IsLabel first → IsLabel second → IsLabel (meet_of first second)
unfolding meet_of
meet_is_label first second one two = record {
  long = one.long;
  words = one.words;
  trust = or_lt 64 first.trust second.trust one.trust two.trust;
}

pub met_label : (first second : Label) (trust : ℕ) →
    ((k : ℕ) → bit_at trust k ≡ max (bit_at first.trust k) (bit_at second.trust k)) →
    record { rows = first.rows; trust = trust } ≡ meet_of first second
unfolding meet_of
met_label first second trust bits =
    let label : ℕ → Label = λ t. record { rows = first.rows; trust = t } in
    ap label (either_word first.trust second.trust trust bits)

pub meet_over : (principals : Declared) (first second : Label) → IsLabelOver principals first →
    IsLabelOver principals second → IsLabelOver principals (meet_of first second)
meet_over principals first second one two =
    over_meet principals first second (meet_of first second) (meet_is_label first second one.is_label two.is_label)
    (meet_is first second) one two

pub meet_once : (first second meet : Label) → IsLabel first → IsLabel second → IsLabel meet →
    IsIntegrityMeet first second meet → meet ≡ meet_of first second
meet_once first second meet one two is meets =
    one_label meet (meet_of first second) is (meet_is_label first second one two)
    (same first second meet (meet_of first second) meets (meet_is first second))
    (same first second (meet_of first second) meet (meet_is first second) meets)
  where
    same : (first second from to : Label) → IsIntegrityMeet first second from → IsIntegrityMeet first second to →
        Flows from to
    same first second from to one two = (
      λ q r q_in r_in forbids. (two.forbids q r q_in r_in).1 ((one.forbids q r q_in r_in).0 forbids),
      λ p p_in trusts. (one.trusts p p_in).1 ((two.trusts p p_in).0 trusts),
    )

-- ---- the empty label and the bottom

bits_of_first : (count k : ℕ) → (bit_at (first_bits count) k ≡ 1) ↔ (k < count)
bits_of_first count k = elim (cases_lt k count) [
  | inl less ↦ (λ _. less, λ _. bit_at_ones count k less)
  | inr more ↦ (λ set. absurd (omega (arith, set, bit_at_ones_above count k more)), λ less. absurd (omega arith))
]

-- a word whose bits are those below a place
pub first_word : (word count : ℕ) → ((k : ℕ) → (bit_at word k ≡ 1) ↔ (k < count)) → word ≡ first_bits count
first_word word count bits = same_from_bits word (first_bits count) (λ k.
    same_set_bit (bit_at word k) (bit_at (first_bits count) k) (omega arith) (omega arith)
    (λ set. (bits_of_first count k).1 ((bits k).0 set)) (λ set. (bits k).1 ((bits_of_first count k).0 set)))

pub empty_is_label : IsLabel empty_label
unfolding empty_label
empty_is_label = record {
  long = refl;
  words = All-replicate (λ row. row < 2 ^ 64) 63 (2 ^ 64 - 1) (lit< tt);
  trust = lit< tt;
}

free_forbids_nothing : (owner reader : ℕ) → owner < 63 → reader < 64 → bit_at (get_or free_rows owner 0) reader ≡ 0 → ⊥
free_forbids_nothing owner reader owner_in reader_in forbidden =
    omega (arith, set_in_ones (2 ^ 64 - 1) owner reader refl owner_in reader_in)

pub empty_forbids : ForbidsNothing empty_label
unfolding empty_label
empty_forbids = free_forbids_nothing

pub empty_untrusted : IsUntrusted empty_label
unfolding empty_label
empty_untrusted p p_in trusts = search (rules, trusts)

pub bottom_is : (principals : Declared) → IsBottom principals (bottom_of principals)
unfolding bottom_of
bottom_is principals = record {
  forbids = free_forbids_nothing;
  trusts = λ p p_in. bits_of_first (length principals.names) p;
}

pub bottom_is_label : (principals : Declared) → length principals.names ≤ 63 → IsLabel (bottom_of principals)
unfolding bottom_of
bottom_is_label principals few = record {
  long = refl;
  words = All-replicate (λ row. row < 2 ^ 64) 63 (2 ^ 64 - 1) (lit< tt);
  trust = omega (arith, pow_mono few);
}

pub empty_over : (principals : Declared) → IsLabelOver principals empty_label
empty_over principals = over_empty principals empty_label empty_is_label empty_forbids empty_untrusted

pub bottom_over : LeadsToDeclared → (principals : Declared) → IsDeclared principals →
    IsLabelOver principals (bottom_of principals)
bottom_over declared_too principals declared =
    over_bottom declared_too principals (bottom_of principals) declared
    (bottom_is_label principals declared.names.few) (bottom_is principals)

pub bottom_label : (principals : Declared) (trust : ℕ) →
    ((k : ℕ) → (bit_at trust k ≡ 1) ↔ (k < length principals.names)) →
    record { rows = free_rows; trust = trust } ≡ bottom_of principals
unfolding bottom_of
bottom_label principals trust bits =
    let label : ℕ → Label = λ t. record { rows = free_rows; trust = t } in
    ap label (first_word trust (length principals.names) bits)
