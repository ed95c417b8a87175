-- Parts of labels with declared names make labels.
use Rattle.std.proofs.Common.{ℕ, zero, suc, ◌≡◌, ◌≢◌, ◌+◌, ◌<◌, ◌≤◌, ◌^◌, ◌↔◌, ◌⊎◌, ◌∙◌, sym, ap, subst, inl, inr}
use Rattle.std.proofs.Common.{lit<, bit_or, List, [], ◌∷◌, ◌++◌, append-nil, append_assoc, All, get_or, length, map}
use Rattle.std.proofs.Common.{Some}
use Rattle.std.proofs.Common.{slice_get, arith}
use Rattle.std.specs.Prelude.{Any, Contains}
use Rattle.std.specs.Int.{bit_at}
use Rattle.std.specs.List.{AllByRecursion, AllZip, range_with_len}
use Rattle.std.proofs.Math.Pow.{pow_mono}
use Rattle.std.proofs.Math.Nat.{pow-suc}
use Rattle.std.proofs.lemmas.Bool.{cases_eq}
use Rattle.std.proofs.lemmas.List.FromFn.{length-map-range_with_len, get_or-map-range_with_len}
use Rattle.std.proofs.lemmas.Nat.{or_lt}
use Rattle.std.proofs.lemmas.Nat.Bits.{bit_at-zero, bit_at-pow_same, bit_at-pow_other, bit_at_or}
use Rattle.std.proofs.lemmas.Option.{slice_get_within}
use Rattle.js_base.specs.declared.ids.PrincipalId.{PrincipalId}
use Rattle.principals.specs.ActsFor.{Declared, IsDeclared, ActsFor}
use Rattle.label_lattice.specs.declared.label.Label.{Label}
use Rattle.label_lattice.specs.Label.{Forbids, Trusts, IsLabel, KeepsOut, PolicyForbids}
use Rattle.label_lattice.specs.Lattice.{empty_label}
use Rattle.label_lattice.specs.Over.{IsLabelOver}
use Rattle.label_lattice.specs.Written.{Part, policy, trust, HasDeclaredNames, KnownPart, policy_of, trust_of, IsKnown}
use Rattle.label_lattice.specs.Written.{AreKnown, IsKnownPart, IsMadeOf}
use Rattle.js_base.proofs.Decisions.{Decided, never, both, either, any_of}
use Rattle.principals.proofs.Decisions.{acts_for}
use Rattle.label_lattice.proofs.Decisions.{keeps_out}
use Rattle.label_lattice.proofs.OverLemmas.{over_policy, over_trust}
use Rattle.label_lattice.proofs.PartLemmas.{adds_policy, adds_trust}
use Rattle.label_lattice.proofs.PartsLoop.{made_of_none, made_of_more}
use Rattle.label_lattice.proofs.PolicyLemmas.{OutsiderIsAlone, LeadsToDeclared, GoesOn}
use Rattle.label_lattice.proofs.TrustLemmas.{BitsBelow, bits_more, bits_stay}
use Rattle.label_lattice.proofs.Values.{empty_forbids, empty_untrusted, empty_over}

-- ---- words and rows with the bits that are wanted

small_power : (k : ℕ) → k < 64 → 2 ^ k < 2 ^ 64
small_power k within =
    let more : suc k ≤ 64 = omega arith in
    let some : 1 ≤ 2 ^ k = pow_mono {i = 0} {j = k} (omega arith) in
    omega (arith, pow_mono {i = suc k} {j = 64} more, pow-suc 2 k)

-- one more bit of a word
set_bit : (word place : ℕ) → bit_at (bit_or word (2 ^ place)) place ≡ 1
set_bit word place = omega (arith, bit_at_or word (2 ^ place) place, bit_at-pow_same place)

other_bit : (word place k : ℕ) → k ≢ place → bit_at (bit_or word (2 ^ place)) k ≡ bit_at word k
other_bit word place k other = omega (arith, bit_at_or word (2 ^ place) k, bit_at-pow_other place k other)

pub record Word (P : ℕ → Type 0) (count : ℕ) : Type 0 where
  pub word : ℕ
  pub small : word < 2 ^ 64
  pub bits : BitsBelow P word count

pub some_word : (P : ℕ → Type 0) → ((k : ℕ) → Decided (P k)) → (count : ℕ) → count ≤ 64 → Word P count
some_word P decide zero few = record {
  word = 0;
  small = lit< tt;
  bits = record { before = λ k less. absurd (omega arith); after = λ k _. bit_at-zero k };
}
some_word P decide (suc count) few = next (decide count) (some_word P decide count (omega arith))
  where
    at_suc : (word : ℕ) → BitsBelow P word (count + 1) → BitsBelow P word (suc count)
    at_suc word bits =
        let is : count + 1 ≡ suc count = omega arith in
        subst (λ n. BitsBelow P word n) is bits

    next : Decided (P count) → Word P count → Word P (suc count)
    next (inl holds) rest =
        let word = bit_or rest.word (2 ^ count) in
        record {
          word = word;
          small = or_lt 64 rest.word (2 ^ count) rest.small (small_power count (omega arith));
          bits = at_suc word (bits_more P rest.word word count (λ set. holds, λ also. set_bit rest.word count)
              (λ k other. other_bit rest.word count k other) rest.bits);
        }
    next (inr fails) rest = record {
      word = rest.word;
      small = rest.small;
      bits = at_suc rest.word (bits_stay P rest.word count fails rest.bits);
    }

-- ---- a label with the sets that are wanted

pub record LabelWith (F : ℕ → ℕ → Type 0) (T : ℕ → Type 0) : Type 0 where
  pub label : Label
  pub is_label : IsLabel label
  pub forbids : (owner reader : ℕ) → owner < 63 → reader < 64 → (Forbids label owner reader ↔ F owner reader)
  pub trusts : (p : ℕ) → p < 64 → (Trusts label p ↔ T p)

some_label : (F : ℕ → ℕ → Type 0) (T : ℕ → Type 0) → ((owner reader : ℕ) → Decided (F owner reader)) →
    ((p : ℕ) → Decided (T p)) → LabelWith F T
some_label F T forbidden trusted = record {
  label = label;
  is_label = record { long = length-map-range_with_len row 0 63; words = words; trust = trusting.small };
  forbids = λ q r q_in r_in. (clear q r q_in r_in, keep q r q_in r_in);
  trusts = λ p p_in. trusting.bits.before p p_in;
}
  where
    Allows : ℕ → ℕ → Type 0
    Allows q r = ¬ F q r

    made : (q : ℕ) → Word (Allows q) 64
    made q = some_word (Allows q) (λ r. never (F q r) (forbidden q r)) 64 (omega arith)

    row : ℕ → ℕ
    row q = (made q).word

    trusting : Word T 64
    trusting = some_word T trusted 64 (omega arith)

    rows : List ℕ
    rows = map row (range_with_len 0 63)

    label : Label
    label = record { rows = rows; trust = trusting.word }

    row_at : (q d : ℕ) → q < 63 → get_or rows q d ≡ row q
    row_at q d within = get_or-map-range_with_len row 0 63 q q d within (omega arith)

    words : All (λ w. w < 2 ^ 64) rows
    words q d within =
        let inside : q < 63 = omega (arith, within, length-map-range_with_len row 0 63) in
        subst (λ w. w < 2 ^ 64) (sym (row_at q d inside)) (made q).small

    clear : (q r : ℕ) → q < 63 → r < 64 → bit_at (get_or rows q 0) r ≡ 0 → F q r
    clear q r q_in r_in none = by (forbidden q r)
      where
        by : Decided (F q r) → F q r
        by (inl holds) = holds
        by (inr fails) =
            let set : bit_at (row q) r ≡ 1 = ((made q).bits.before r r_in).1 fails in
            let same : bit_at (get_or rows q 0) r ≡ bit_at (row q) r = ap (λ w. bit_at w r) (row_at q 0 q_in) in
            absurd (omega arith)

    keep : (q r : ℕ) → q < 63 → r < 64 → F q r → bit_at (get_or rows q 0) r ≡ 0
    keep q r q_in r_in holds = ap (λ w. bit_at w r) (row_at q 0 q_in) ∙ by (cases_eq (bit_at (row q) r) 1)
      where
        by : Decided (bit_at (row q) r ≡ 1) → bit_at (row q) r ≡ 0
        by (inl set) = absurd (((made q).bits.before r r_in).0 set holds)
        by (inr other) = omega (arith, other)

-- ---- parts of declared principals

-- each principal of the part is declared
abbrev pub IsDeclaredPart : Declared → KnownPart → Type 0
IsDeclaredPart principals (policy_of owner readers) =
    (owner.0 < length principals.names) × All (λ named. named.0 < length principals.names) readers
IsDeclaredPart principals (trust_of members) = All (λ member. member.0 < length principals.names) members

module _ (alone : OutsiderIsAlone) (declared_too : LeadsToDeclared) (goes_on : GoesOn) (principals : Declared)
    (declared : IsDeclared principals) where
  pub record Made (known : List KnownPart) : Type 0 where
    pub label : Label
    pub means : IsMadeOf principals known label
    pub over : IsLabelOver principals label

  with_policy : (before : List KnownPart) (owner : PrincipalId) (readers : List PrincipalId) →
      IsDeclaredPart principals (policy_of owner readers) → Made before → Made (before ++ policy_of owner readers ∷ [])
  with_policy before owner readers in_range old =
      let F : ℕ → ℕ → Type 0 = λ q r. Forbids old.label q r ⊎ PolicyForbids principals owner readers q r in
      let T : ℕ → Type 0 = λ p. Trusts old.label p in
      let new : LabelWith F T = some_label F T
      (λ q r. either (Forbids old.label q r) (PolicyForbids principals owner readers q r)
      (cases_eq (bit_at (get_or old.label.rows q 0) r) 0)
      (both (ActsFor principals owner.0 q) (KeepsOut principals owner readers r)
      (acts_for principals owner.0 q) (keeps_out principals owner readers r)))
      (λ p. cases_eq (bit_at old.label.trust p) 1) in
      record {
        label = new.label;
        means = made_of_more principals before (policy_of owner readers) old.label new.label old.means
            (adds_policy principals old.label new.label owner readers new.forbids new.trusts);
        over = over_policy alone declared_too goes_on principals owner readers old.label new.label declared in_range.0
            in_range.1 new.is_label new.forbids new.trusts old.over;
      }

  with_trust : (before : List KnownPart) (members : List PrincipalId) →
      IsDeclaredPart principals (trust_of members) → Made before → Made (before ++ trust_of members ∷ [])
  with_trust before members in_range old =
      let F : ℕ → ℕ → Type 0 = λ q r. Forbids old.label q r in
      let Some_acts : ℕ → Type 0 = λ p. Any (λ member. ActsFor principals member.0 p) members in
      let T : ℕ → Type 0 = λ p. Trusts old.label p ⊎ Some_acts p in
      let new : LabelWith F T = some_label F T
      (λ q r. cases_eq (bit_at (get_or old.label.rows q 0) r) 0)
      (λ p. either (Trusts old.label p) (Some_acts p) (cases_eq (bit_at old.label.trust p) 1)
      (any_of (λ member. ActsFor principals member.0 p)
      (λ member. acts_for principals member.0 p) members)) in
      record {
        label = new.label;
        means = made_of_more principals before (trust_of members) old.label new.label old.means
            (adds_trust principals old.label new.label members new.forbids new.trusts);
        over = over_trust goes_on principals members old.label new.label new.is_label new.forbids new.trusts
            (λ p p_in set. gains new p p_in set) old.over;
      }
    where
      gains : (new : LabelWith (λ q r. Forbids old.label q r)
          (λ p. Trusts old.label p ⊎ Any (λ member. ActsFor principals member.0 p) members)) (p : ℕ) → p < 64 →
          bit_at new.label.trust p ≡ 1 → (bit_at old.label.trust p ≡ 1) ⊎ (p < length principals.names)
      gains new p p_in set = by ((new.trusts p p_in).0 set)
        where
          by : Trusts old.label p ⊎ Any (λ member. ActsFor principals member.0 p) members →
              (bit_at old.label.trust p ≡ 1) ⊎ (p < length principals.names)
          by (inl before) = inl before
          by (inr (k, member, within, read, acts)) =
              let inside : member.0 < length principals.names =
              subst (λ m. m.0 < length principals.names) read (in_range k member within) in
              inr (declared_too principals member.0 p declared inside acts)

  one_more : (before : List KnownPart) (part : KnownPart) → IsDeclaredPart principals part → Made before →
      Made (before ++ part ∷ [])
  one_more before (policy_of owner readers) in_range old = with_policy before owner readers in_range old
  one_more before (trust_of members) in_range old = with_trust before members in_range old

  all_more : (before known : List KnownPart) → AllByRecursion (IsDeclaredPart principals) known → Made before →
      Made (before ++ known)
  all_more before [] in_range old = rw append-nil old
  all_more before (part ∷ known) in_range old =
      let rest : Made ((before ++ part ∷ []) ++ known) =
      all_more (before ++ part ∷ []) known in_range.1 (one_more before part in_range.0 old) in
      rw append_assoc at rest

  pub made_of_known : (known : List KnownPart) → AllByRecursion (IsDeclaredPart principals) known → Made known
  made_of_known known in_range = all_more [] known in_range (record {
    label = empty_label;
    means = made_of_none principals empty_label empty_forbids empty_untrusted;
    over = empty_over principals;
  })

-- ---- names

pub place_held : (names : List (List ℕ)) (name : List ℕ) → Contains names name →
    (n : ℕ) × (slice_get names n ≡ Some name)
place_held [] name (k, within, is) = absurd (omega (arith, within))
place_held (next ∷ names) name (zero, within, is) = (zero, ap Some is)
place_held (next ∷ names) name (suc k, within, is) =
    let rest = place_held names name (k, omega (arith, within), is) in (suc rest.0, rest.1)

name_known : (principals : Declared) (name : List ℕ) → Contains principals.names name →
    (p : PrincipalId) × IsKnown principals name p
name_known principals name held =
    let place = place_held principals.names name held in (record { 0 = place.0 }, place.1)

names_known : (principals : Declared) (names : List (List ℕ)) → AllByRecursion (Contains principals.names) names →
    (known : List PrincipalId) × AreKnown principals names known
names_known principals [] held = ([], tt)
names_known principals (name ∷ names) held =
    let head = name_known principals name held.0 in
    let rest = names_known principals names held.1 in
    (head.0 ∷ rest.0, (head.1, rest.1))

part_known : (principals : Declared) (part : Part) → HasDeclaredNames principals part →
    (known : KnownPart) × IsKnownPart principals part known
part_known principals (policy owner readers) held =
    let head = name_known principals owner held.0 in
    let rest = names_known principals readers held.1 in
    (policy_of head.0 rest.0, (head.1, rest.1))
part_known principals (trust members) held =
    let all = names_known principals members held in (trust_of all.0, all.1)

parts_known : (principals : Declared) (parts : List Part) → AllByRecursion (HasDeclaredNames principals) parts →
    (known : List KnownPart) × AllZip (IsKnownPart principals) parts known
parts_known principals [] held = ([], tt)
parts_known principals (part ∷ parts) held =
    let head = part_known principals part held.0 in
    let rest = parts_known principals parts held.1 in
    (head.0 ∷ rest.0, (head.1, rest.1))

known_inside : (principals : Declared) (names : List (List ℕ)) (known : List PrincipalId) →
    AreKnown principals names known → All (λ p. p.0 < length principals.names) known
known_inside principals [] [] are k d within = absurd (omega arith)
known_inside principals [] (p ∷ known) are k d within = absurd are
known_inside principals (name ∷ names) [] are k d within = absurd are
known_inside principals (name ∷ names) (p ∷ known) are zero d within =
    slice_get_within principals.names p.0 name are.0
known_inside principals (name ∷ names) (p ∷ known) are (suc k) d within =
    known_inside principals names known are.1 k d (omega arith)

part_inside : (principals : Declared) (part : Part) (known : KnownPart) → IsKnownPart principals part known →
    IsDeclaredPart principals known
part_inside principals (policy owner readers) (policy_of p ps) are =
    (slice_get_within principals.names p.0 owner are.0, known_inside principals readers ps are.1)
part_inside principals (policy owner readers) (trust_of ps) are = absurd are
part_inside principals (trust members) (policy_of p ps) are = absurd are
part_inside principals (trust members) (trust_of ps) are = known_inside principals members ps are

pub parts_inside : (principals : Declared) (parts : List Part) (known : List KnownPart) →
    AllZip (IsKnownPart principals) parts known → AllByRecursion (IsDeclaredPart principals) known
parts_inside principals [] [] are = tt
parts_inside principals [] (part ∷ known) are = absurd are
parts_inside principals (part ∷ parts) [] are = absurd are
parts_inside principals (part ∷ parts) (first ∷ known) are =
    (part_inside principals part first are.0, parts_inside principals parts known are.1)

pub parts_make : OutsiderIsAlone → LeadsToDeclared → GoesOn → (principals : Declared) (parts : List Part) →
    IsDeclared principals → AllByRecursion (HasDeclaredNames principals) parts →
    (known : List KnownPart) × (label : Label) × AllZip (IsKnownPart principals) parts known
    × IsMadeOf principals known label × IsLabelOver principals label
parts_make alone declared_too goes_on principals parts declared held =
    let all = parts_known principals parts held in
    let made = made_of_known alone declared_too goes_on principals declared all.0
    (parts_inside principals parts all.0 all.1) in
    (all.0, made.label, all.1, made.means, made.over)
