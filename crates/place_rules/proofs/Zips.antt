-- The words of the pairs of two lists, pair by pair.
use Rattle.std.proofs.Common.{◌≡◌, ℕ, ◌+◌, ◌<◌, List, [], ◌∷◌, ◌++◌, length, get_or, take, min, sym, ap, ◌∙◌, subst}
use Rattle.std.proofs.Common.{arith}
use Rattle.std.specs.List.{AllZip, zip}
use Rattle.std.proofs.lemmas.List.{take_more, take_all}
use Rattle.std.proofs.lemmas.Slice.Zip.{get_or-zip, length-zip, all_zipped_more}

at_pair : {A B : Type 0} (ks : List A) (vs : List B) (n : ℕ) (k : A) (v : B) → n < length ks → n < length vs →
    k ≡ get_or ks n k → v ≡ get_or vs n v → get_or (zip ks vs) n (k, v) ≡ (k, v)
at_pair ks vs n k v within also is other =
    get_or-zip ks vs n (k, v) within also ∙ ap (λ one. (one, get_or vs n v)) (sym is) ∙ ap (λ one. (k, one)) (sym other)

-- one more pair, and its word
pub pairs_more : {A B : Type 0} (R : A × B → ℕ → Type 0) (ks : List A) (vs : List B) (n : ℕ) (k : A) (v : B)
    (words : List ℕ) (word : ℕ) → n < length ks → n < length vs → k ≡ get_or ks n k → v ≡ get_or vs n v →
    AllZip R (take n (zip ks vs)) words → R (k, v) word → AllZip R (take (n + 1) (zip ks vs)) (words ++ word ∷ [])
pairs_more {A = A} {B = B} R ks vs n k v words word within also is other all last =
    let Q : List (A × B) → Type 0 = λ pairs. AllZip R pairs (words ++ word ∷ []) in
    let inside : n < length (zip ks vs) = rw length-zip (omega arith) in
    let longer : take (n + 1) (zip ks vs) ≡ take n (zip ks vs) ++ (k, v) ∷ [] =
    take_more (zip ks vs) n (k, v) inside
    ∙ ap (λ pair. take n (zip ks vs) ++ pair ∷ []) (at_pair ks vs n k v within also is other) in
    subst Q (sym longer) (all_zipped_more R (take n (zip ks vs)) words (k, v) word all last)

pub pairs_all : {A B : Type 0} (R : A × B → ℕ → Type 0) (ks : List A) (vs : List B) (n : ℕ) (words : List ℕ) →
    n ≡ min (length ks) (length vs) → AllZip R (take n (zip ks vs)) words → AllZip R (zip ks vs) words
pairs_all {A = A} {B = B} R ks vs n words same all =
    let Q : List (A × B) → Type 0 = λ pairs. AllZip R pairs words in
    subst Q (take_all n (zip ks vs) (rw length-zip (omega arith))) all
