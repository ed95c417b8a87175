-- A longest run of bytes that pass a test.
use Rattle.std.proofs.Common.{◌≡◌, ℕ, suc, ◌+◌, inl, inr, Bool, true, false, cond, List, [], ◌∷◌, ◌++◌, length, take}
use Rattle.std.proofs.Common.{drop, get_or, refl, sym, ap, ◌∙◌, subst, arith}
use Rattle.std.specs.List.{list_all, prefix_len}
use Rattle.std.proofs.lemmas.Bool.{and_parts, and_from, both_ways, cases_lt}
use Rattle.std.proofs.lemmas.List.{drop_more, drop_all}
use Rattle.std.proofs.lemmas.List.Sums.{prefix_len_stops}
use Rattle.std.proofs.lemmas.List.Folds.{list_all-append}

-- all bytes of the front pass, and the first of what follows does not
pub record IsRun (p : ℕ → Bool) (front after : List ℕ) : Type 0 where
  pub passes : list_all p front ≡ true
  pub stops : (more rest : List ℕ) → after ≡ more ++ rest → list_all p more ≡ true → more ≡ []

passes_by : (p : ℕ → Bool) (x : ℕ) (xs : List ℕ) (b : Bool) → p x ≡ b → list_all p (take (prefix_len p xs) xs) ≡ true
    → list_all p (take (cond b (1 + prefix_len p xs) 0) (x ∷ xs)) ≡ true
passes_by p x xs false is rest = refl
passes_by p x xs true is rest =
    let e : 1 + prefix_len p xs ≡ suc (prefix_len p xs) = omega arith in
    rw e (and_from (p x) (list_all p (take (prefix_len p xs) xs)) is rest)

run_passes : (p : ℕ → Bool) (xs : List ℕ) → list_all p (take (prefix_len p xs) xs) ≡ true
run_passes p [] = refl
run_passes p (x ∷ xs) = passes_by p x xs (p x) refl (run_passes p xs)

first_fails : (p : ℕ → Bool) (xs more rest : List ℕ) (c : ℕ) → drop (prefix_len p xs) xs ≡ c ∷ (more ++ rest) →
    p c ≡ false
first_fails p xs more rest c is = elim (cases_lt (prefix_len p xs) (length xs)) [
  | inl within ↦ (
      let n = prefix_len p xs in
      let next : get_or xs n 0 ∷ drop (n + 1) xs ≡ c ∷ (more ++ rest) = sym (drop_more xs n 0 within) ∙ is in
      let same : get_or xs n 0 ≡ c = cc in
      sym (ap p same) ∙ prefix_len_stops p xs 0 within)
  | inr past ↦ absurd (let none : [] ≡ c ∷ (more ++ rest) = sym (drop_all (prefix_len p xs) xs past) ∙ is in cc)
]

run_stops : (p : ℕ → Bool) (xs more rest : List ℕ) → drop (prefix_len p xs) xs ≡ more ++ rest →
    list_all p more ≡ true → more ≡ []
run_stops p xs [] rest is all = refl
run_stops p xs (c ∷ more) rest is all =
    absurd (both_ways (p c) (first_fails p xs more rest c is) (and_parts (p c) (list_all p more) all).0)

pub run_of : (p : ℕ → Bool) (xs : List ℕ) (n : ℕ) → n ≡ prefix_len p xs → IsRun p (take n xs) (drop n xs)
run_of p xs n is =
    let P : ℕ → Type 0 = λ k. IsRun p (take k xs) (drop k xs) in
    subst P (sym is) (record { passes = run_passes p xs; stops = run_stops p xs })

-- a run at the front of which a byte passes has some bytes
pub run_some : (p : ℕ → Bool) (front after : List ℕ) (c : ℕ) (more : List ℕ) → IsRun p front after →
    front ++ after ≡ c ∷ more → p c ≡ true → front ≡ [] → ⊥
run_some p front after c more run is passes none =
    let there : after ≡ (c ∷ []) ++ more = sym (ap (λ (t : List ℕ). t ++ after) none) ∙ is in
    let never : c ∷ [] ≡ [] = run.stops (c ∷ []) more there (and_from (p c) true passes refl) in
    cc

-- a longer front all of which passes is the same
pub run_longest : (p : ℕ → Bool) (front after more rest : List ℕ) → IsRun p front after → after ≡ more ++ rest →
    list_all p (front ++ more) ≡ true → more ≡ []
run_longest p front after more rest run is all =
    run.stops more rest is (and_parts (list_all p front) (list_all p more) (sym (list_all-append p front more) ∙ all)).1
