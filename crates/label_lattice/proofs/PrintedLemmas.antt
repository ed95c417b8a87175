-- What loops over principals make of their names, and whom an owner forbids.
use Rattle.std.proofs.Common.{◌≡◌, ℕ, zero, suc, ◌+◌, ◌<◌, ◌≤◌, ◌-◌, ◌^◌, Bool, true, false, not, List, [], ◌∷◌, ◌++◌}
use Rattle.std.proofs.Common.{length, get_or, take, map, refl, ap, sym, ◌∙◌, arith, ◌↔◌, inl, inr}
use Rattle.std.specs.Prelude.{Some, slice_get, IsTrue, ◌==◌, if◌then◌else◌}
use Rattle.std.specs.Int.{bit_at}
use Rattle.std.specs.List.{list_any, range_with_len, join_by}
use Rattle.std.proofs.lemmas.Bool.{both_ways, cases_lt}
use Rattle.std.proofs.lemmas.Bool.Decides.{nat_tests}
use Rattle.std.proofs.lemmas.List.{append-nil, append_assoc, length-take-le, take_more, take_all, map-append}
use Rattle.std.proofs.lemmas.List.Folds.{list_any_at, Any-from_list_any, flat_map-map}
use Rattle.std.proofs.lemmas.List.FromFn.{length-range_with_len, get_or-range_with_len}
use Rattle.std.proofs.lemmas.Nat.Bits.{bit_at_ones}
use Rattle.std.proofs.lemmas.Option.{get_or_from_slice_get, slice_get_within}
use Rattle.js_base.specs.Bits.{BitsWithin}
use Rattle.principals.specs.ActsFor.{Declared}
use Rattle.label_lattice.specs.declared.label.Label.{Label}
use Rattle.label_lattice.specs.Printed.{each_where, joined, printed_part, printed_parts, printed_policies, trust_parts}
use Rattle.label_lattice.specs.Printed.{names_where, is_trusted_by}

-- ---- loops

each_push : {X : Type 0} (test : ℕ → Bool) (make : ℕ → List ℕ → X) (first : ℕ) (names : List (List ℕ)) (name : List ℕ)
    (place : ℕ) → place ≡ first + length names → each_where test make first (names ++ name ∷ [])
    ≡ each_where test make first names ++ (if test place then make place name ∷ [] else [])
each_push test make first [] name place is =
    let at : first ≡ place = omega (arith, is) in
    rw at (append-nil (if test place then make place name ∷ [] else []))
each_push test make first (x ∷ names) name place is =
    ap (λ rest. (if test first then make first x ∷ [] else []) ++ rest)
    (each_push test make (first + 1) names name place (omega (arith, is)))
    ∙ sym (append_assoc (if test first then make first x ∷ [] else []) (each_where test make (first + 1) names)
    (if test place then make place name ∷ [] else []))

each_more : {X : Type 0} (test : ℕ → Bool) (make : ℕ → List ℕ → X) (names : List (List ℕ)) (place : ℕ)
    (name : List ℕ) → slice_get names place ≡ Some name → each_where test make 0 (take (place + 1) names)
    ≡ each_where test make 0 (take place names) ++ (if test place then make place name ∷ [] else [])
each_more test make names place name is =
    let within = slice_get_within names place name is in
    let count = length-take-le place names (omega (arith, within)) in
    ap (λ front. each_where test make 0 front) (take_more names place name within)
    ∙ ap (λ n. each_where test make 0 (take place names ++ n ∷ [])) (get_or_from_slice_get names place name name is)
    ∙ each_push test make 0 (take place names) name place (omega (arith, count))

-- a principal that passes is added
pub each_with : {X : Type 0} (test : ℕ → Bool) (make : ℕ → List ℕ → X) (names : List (List ℕ)) (place : ℕ)
    (name : List ℕ) → slice_get names place ≡ Some name → test place ≡ true →
    each_where test make 0 (take (place + 1) names) ≡ each_where test make 0 (take place names) ++ make place name ∷ []
each_with test make names place name is passes =
    each_more test make names place name is
    ∙ ap (λ b. each_where test make 0 (take place names) ++ (if b then make place name ∷ [] else [])) passes

pub some_name : (names : List (List ℕ)) (place : ℕ) → place < length names →
    (name : List ℕ) × (slice_get names place ≡ Some name)
some_name [] place within = absurd (omega (arith, within))
some_name (name ∷ names) zero within = (name, refl)
some_name (name ∷ names) (suc place) within = some_name names place (omega (arith, within))

-- and one that fails is not
pub each_without : {X : Type 0} (test : ℕ → Bool) (make : ℕ → List ℕ → X) (names : List (List ℕ)) (place : ℕ) →
    place < length names → test place ≡ false →
    each_where test make 0 (take (place + 1) names) ≡ each_where test make 0 (take place names)
each_without test make names place within fails =
    let some = some_name names place within in
    each_more test make names place some.0 some.1
    ∙ ap (λ b. each_where test make 0 (take place names) ++ (if b then make place some.0 ∷ [] else [])) fails
    ∙ append-nil (each_where test make 0 (take place names))

pub each_all : {X : Type 0} (test : ℕ → Bool) (make : ℕ → List ℕ → X) (names : List (List ℕ)) (place : ℕ) →
    length names ≤ place → each_where test make 0 (take place names) ≡ each_where test make 0 names
each_all test make names place all = ap (λ front. each_where test make 0 front) (take_all place names all)

-- one more item, and what it is as a text
pub made_more : {X : Type 0} (text : X → List ℕ) (old : List X) (item : X) {new : List X} {texts : List (List ℕ)}
    {is : List ℕ} → new ≡ old ++ item ∷ [] → map text old ≡ texts → text item ≡ is → map text new ≡ texts ++ is ∷ []
made_more text old item {texts = texts} pushed so_far same =
    ap (map text) pushed ∙ map-append text old (item ∷ []) ∙ ap (λ front. front ++ text item ∷ []) so_far
    ∙ ap (λ last. texts ++ last ∷ []) same

-- ---- joined texts

pub joined_texts : {X : Type 0} (text : X → List ℕ) (separator : List ℕ) (items : List X) →
    join_by text separator items ≡ joined separator (map text items)
joined_texts text separator [] = refl
joined_texts text separator (item ∷ items) =
    ap (λ rest. text item ++ rest) (sym (flat_map-map (λ t. separator ++ t) text items))

-- ---- whom an owner forbids

-- some bit of the word is clear
abbrev pub lacks_some : ℕ → Bool
lacks_some word = list_any (λ reader. bit_at word reader == 0) (range_with_len 0 64)

reader_at : (k d : ℕ) → k < 64 → get_or (range_with_len 0 64) k d ≡ k
reader_at k d within = omega (arith, get_or-range_with_len 0 64 k d within)

pub lacks_at : (word k : ℕ) → k < 64 → bit_at word k ≡ 0 → lacks_some word ≡ true
lacks_at word k within clear =
    let at : get_or (range_with_len 0 64) k 0 ≡ k = reader_at k 0 within in
    list_any_at (λ reader. bit_at word reader == 0) (range_with_len 0 64) k 0
    (omega (arith, within, length-range_with_len 0 64))
    (ap (λ n. bit_at word n == 0) at ∙ ap (λ n. n == 0) clear)

is_zero : (n : ℕ) → (n == 0) ≡ true → n ≡ 0
is_zero n is = grind (arith, nat_tests)

pub lacks_found : (word : ℕ) → lacks_some word ≡ true → (k : ℕ) × (k < 64) × (bit_at word k ≡ 0)
lacks_found word lacks =
    let found = Any-from_list_any (λ reader. bit_at word reader == 0) (range_with_len 0 64) lacks in
    let within : found.0 < 64 = omega (arith, found.2, length-range_with_len 0 64) in
    let is : found.1 ≡ found.0 = sym found.3 ∙ reader_at found.0 found.1 within in
    (found.0, within, is_zero (bit_at word found.0) (ap (λ n. bit_at word n == 0) (sym is) ∙ found.4))

-- not every bit is set just where one is clear
pub lacks_by : (word : ℕ) (all : Bool) → (IsTrue all ↔ BitsWithin (2 ^ 64 - 1) word) → not all ≡ lacks_some word
lacks_by word all is = by (lacks_some word) all refl refl
  where
    by : (lacks full : Bool) → lacks_some word ≡ lacks → all ≡ full → not all ≡ lacks_some word
    by true true lacks full =
        let found = lacks_found word lacks in
        absurd (omega (arith, is.0 full found.0 found.1, found.2, bit_at_ones 64 found.0 found.1))
    by true false lacks full = ap not full ∙ sym lacks
    by false true lacks full = ap not full ∙ sym lacks
    by false false lacks full = absurd (both_ways all full (is.1 within))
      where
        within : BitsWithin (2 ^ 64 - 1) word
        within k below = elim (cases_lt (bit_at word k) 1) [
          | inl less ↦ absurd (both_ways (lacks_some word) lacks (lacks_at word k below (omega (arith, less))))
          | inr more ↦ omega (arith, more, bit_at_ones 64 k below)
        ]

-- ---- bits as tests

pub bit_test : (bit : ℕ) (answer : Bool) → (IsTrue answer ↔ (bit ≡ 1)) → (bit == 1) ≡ answer
bit_test bit true is = ap (λ n. n == 1) (is.0 refl)
bit_test bit false is = grind (arith, nat_tests)

-- ---- the text of a label

pub texts_of_parts : (principals : Declared) (label : Label) {front all : List (List ℕ)} →
    front ≡ map printed_part (printed_policies principals label) →
    all ≡ front ++ map printed_part (trust_parts (names_where (is_trusted_by label) principals)) →
    all ≡ map printed_part (printed_parts principals label)
texts_of_parts principals label policies whole =
    let who = trust_parts (names_where (is_trusted_by label) principals) in
    whole ∙ ap (λ texts. texts ++ map printed_part who) policies
    ∙ sym (map-append printed_part (printed_policies principals label) who)

-- texts that are those of some items are joined as these
pub joined_same : {X Y : Type 0} (text : X → List ℕ) (other : Y → List ℕ) (separator : List ℕ) (xs : List X)
    (ys : List Y) → map text xs ≡ map other ys → join_by text separator xs ≡ join_by other separator ys
joined_same text other separator xs ys same =
    joined_texts text separator xs ∙ ap (joined separator) same ∙ sym (joined_texts other separator ys)
