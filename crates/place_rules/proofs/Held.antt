-- Which words have a host, and the first of a row that has none.
use Rattle.std.proofs.Common.{◌≡◌, ◌≢◌, ℕ, zero, suc, ◌<◌, ◌≤◌, ◌∙◌, Bool, false, cond, eqb, ltb, Some, None}
use Rattle.std.proofs.Common.{List, [], ◌∷◌, length, get_or, position, refl, sym, ap, subst, arith, inl, inr, w16}
use Rattle.std.specs.Prelude.{All, min}
use Rattle.std.specs.List.{AllZip, position_or_len}
use Rattle.std.specs.Int.{bit_at}
use Rattle.std.proofs.lemmas.Bool.{cases_Bool, ltb-false, eqb-true, eqb-false}
use Rattle.std.proofs.lemmas.Option.{slice_get-get_or}
use Rattle.std.proofs.lemmas.List.{get_or-take, length-take}
use Rattle.std.proofs.lemmas.List.Sums.{fails_before_first}
use Rattle.std.proofs.lemmas.List.Quantifiers.{position-Some}
use Rattle.std.proofs.lemmas.Nat.Bits.{bit_at-zero, bit_at-trailing_zeros}
use Rattle.host_decl.specs.Hosts.{HostShape}
use Rattle.place_rules.specs.PlaceRules.{HasHolder, IsWordOf}
use Rattle.place_rules.specs.Refusal.{IsFirstUnheld}

-- ---- one word

pub held : (may : HostShape → Type 0) (hosts : List HostShape) (word : ℕ) → IsWordOf may hosts word → word ≢ 0 →
    HasHolder may hosts
held may hosts word is some =
    let lowest = bit_at-trailing_zeros w16 word (omega arith) is.fits in
    (_, (is.members _).0 lowest.1)

pub unheld : (may : HostShape → Type 0) (hosts : List HostShape) (word : ℕ) → IsWordOf may hosts word → word ≡ 0 →
    ¬ HasHolder may hosts
unheld may hosts word is none holds =
    let set : bit_at word holds.0 ≡ 1 = (is.members holds.0).1 holds.1 in
    let clear : bit_at word holds.0 ≡ 0 = ap (λ one. bit_at one holds.0) none ∙ bit_at-zero holds.0 in
    absurd (omega arith)

-- ---- a row of words

abbrev pub is_empty : ℕ → Bool
is_empty word = eqb word 0

none_empty : (words : List ℕ) → position is_empty words ≡ None → (k d : ℕ) → k < length words →
    is_empty (get_or words k d) ≡ false
none_empty words none k d within =
    elim (cases_Bool (ltb (position_or_len is_empty words) (length words))) [
      | inl found ↦
          let P : Bool → Type 0 = λ test. cond test (Some (position_or_len is_empty words)) None ≡ None in
          let other : Some (position_or_len is_empty words) ≡ None = subst P found none in
          absurd (cc)
      | inr past ↦
          let behind : length words ≤ position_or_len is_empty words = ltb-false _ _ past in
          fails_before_first is_empty words k d (omega arith)
    ]

-- the word of each
zip_at : {A : Type 0} (R : A → ℕ → Type 0) (all : List A) (words : List ℕ) (k : ℕ) (d : A) (e : ℕ) →
    AllZip R all words → k < length all → R (get_or all k d) (get_or words k e)
zip_at R [] words k d e zipped within = absurd (omega arith)
zip_at R (one ∷ all) [] k d e zipped within = absurd zipped
zip_at R (one ∷ all) (word ∷ words) zero d e zipped within = zipped.0
zip_at R (one ∷ all) (word ∷ words) (suc k) d e zipped within = zip_at R all words k d e zipped.1 (omega arith)

zip_long : {A : Type 0} (R : A → ℕ → Type 0) (all : List A) (words : List ℕ) → AllZip R all words →
    length words ≡ length all
zip_long R [] [] zipped = refl
zip_long R [] (word ∷ words) zipped = absurd zipped
zip_long R (one ∷ all) [] zipped = absurd zipped
zip_long R (one ∷ all) (word ∷ words) zipped = let rest = zip_long R all words zipped.1 in omega arith

abbrev pub AreWordsOf : {A : Type 0} → (A → HostShape → Type 0) → List HostShape → List A → List ℕ → Type 0
AreWordsOf may hosts all words = AllZip (λ one word. IsWordOf (may one) hosts word) all words

held_at : {A : Type 0} (may : A → HostShape → Type 0) (hosts : List HostShape) (all : List A) (words : List ℕ)
    (k : ℕ) (d : A) → AreWordsOf may hosts all words → k < length all → is_empty (get_or words k 0) ≡ false →
    HasHolder (may (get_or all k d)) hosts
held_at may hosts all words k d zipped within some =
    held (may (get_or all k d)) hosts (get_or words k 0)
    (zip_at (λ one word. IsWordOf (may one) hosts word) all words k d 0 zipped within)
    (eqb-false _ _ some)

pub all_held : {A : Type 0} (may : A → HostShape → Type 0) (hosts : List HostShape) (all : List A) (words : List ℕ) →
    AreWordsOf may hosts all words → position is_empty words ≡ None → All (λ one. HasHolder (may one) hosts) all
all_held may hosts all words zipped none k d within =
    let long = zip_long (λ one word. IsWordOf (may one) hosts word) all words zipped in
    held_at may hosts all words k d zipped within (none_empty words none k 0 (omega arith))

pub first_unheld : {A : Type 0} (may : A → HostShape → Type 0) (hosts : List HostShape) (all : List A)
    (words : List ℕ) (number : ℕ) → AreWordsOf may hosts all words → position is_empty words ≡ Some number →
    IsFirstUnheld may hosts all number
first_unheld may hosts [] [] number zipped found =
    let at = position-Some is_empty [] number 0 found in
    absurd (omega arith)
first_unheld may hosts [] (word ∷ words) number zipped found = absurd zipped
first_unheld {A = A} may hosts (one ∷ all) words number zipped found =
    let R : A → ℕ → Type 0 = λ other word. IsWordOf (may other) hosts word in
    let long = zip_long R (one ∷ all) words zipped in
    let at = position-Some is_empty words number 0 found in
    let within : number < length (one ∷ all) = omega arith in
    record {
      one = get_or (one ∷ all) number one;
      place = slice_get-get_or (one ∷ all) number one within;
      unheld = unheld (may (get_or (one ∷ all) number one)) hosts (get_or words number 0)
          (zip_at R (one ∷ all) words number one 0 zipped within) (eqb-true _ _ at.1);
      before = λ k d lt.
          let Held : A → Type 0 = λ earlier. HasHolder (may earlier) hosts in
          let early : k < min number (length (one ∷ all)) = let Below : ℕ → Type 0 = λ n. k < n in
          subst Below (length-take number (one ∷ all)) lt in
          let sooner : k < number = omega arith in
          subst Held (sym (get_or-take number (one ∷ all) k d sooner))
          (held_at may hosts (one ∷ all) words k d zipped (omega arith) (at.2 k sooner));
    }

pub same_words : {A : Type 0} (may : A → HostShape → Type 0) (hosts rows : List HostShape) (all others : List A)
    (words : List ℕ) → rows ≡ hosts → others ≡ all → AreWordsOf may rows others words → AreWordsOf may hosts all words
same_words {A = A} may hosts rows all others words same also zipped =
    let Rows : List HostShape → Type 0 = λ row. AreWordsOf may row others words in
    let Pairs : List A → Type 0 = λ pairs. AreWordsOf may hosts pairs words in
    subst Pairs also (subst Rows same zipped)
