-- Which of the traits are listed that fail.
--
-- A label forbids on behalf of all for whom its owner acts, and keeps from the outsider what it keeps from somebody. So
-- one policy makes several pairs fail, of which one says all: a pair whose reader acts for the owner is not listed
-- unless no other fails, nor is the outsider where a declared reader of the same owner is.
use Rattle.std.specs.Prelude.{ℕ, ◌<◌, ◌==◌, ◌&&◌, ◌||◌, Bool, true, false, not, List, [], ◌∷◌, ◌++◌, map, length}
use Rattle.std.specs.List.{filter, flat_map, list_any, range_with_len}
use Rattle.principals.specs.ActsFor.{Declared, IsReader, outsider}
use Rattle.label_reasons.specs.declared.reason.Trait.{Trait}
use Rattle.label_reasons.specs.declared.reason.Trait.TheVariants.{Keeps, Distrusts}

-- ---- who acts for whom, as a test

-- With one more pair, a chain is one without it, or leads to its first and on from its second.
abbrev pub leads : List (ℕ × ℕ) → ℕ → ℕ → Bool
leads [] first last = first == last
leads (pair ∷ pairs) first last = leads pairs first last || (leads pairs first pair.0 && leads pairs pair.1 last)

abbrev pub acts_for : Declared → ℕ → ℕ → Bool
acts_for principals first second = leads principals.pairs first second

-- ---- what fails

abbrev pub declared_numbers : Declared → List ℕ
declared_numbers principals = range_with_len 0 (length principals.names)

-- the declared principals in order, and the outsider last
abbrev pub readers : Declared → List ℕ
readers principals = declared_numbers principals ++ outsider ∷ []

abbrev pub pairs_of : Declared → ℕ → List Trait
pairs_of principals owner = map (λ reader. Keeps owner reader) (readers principals)

abbrev pub all_pairs : Declared → List Trait
all_pairs principals = flat_map (pairs_of principals) (declared_numbers principals)

abbrev pub all_distrusts : Declared → List Trait
all_distrusts principals = map (λ principal. Distrusts principal) (declared_numbers principals)

-- what may be listed: a pair of a declared owner and a reader, or a declared principal
abbrev pub IsListable : Declared → Trait → Type 0
IsListable principals (Keeps owner reader) = (owner < length principals.names) × IsReader principals reader
IsListable principals (Distrusts principal) = principal < length principals.names

-- what fails by a test: pairs by owners and readers, and then principals
abbrev pub failing : Declared → (Trait → Bool) → List Trait
failing principals test = filter test (all_pairs principals) ++ filter test (all_distrusts principals)

-- ---- what is listed

-- a pair whose reader does not act for the owner
abbrev pub is_of_another : Declared → Trait → Bool
is_of_another principals (Keeps owner reader) = not (acts_for principals reader owner)
is_of_another principals (Distrusts principal) = true

-- the first list, and the second where it is empty
abbrev pub unless_none : List Trait → List Trait → List Trait
unless_none [] all = all
unless_none (one ∷ others) all = one ∷ others

-- a pair of this owner with a declared reader
abbrev pub is_declared_pair_of : ℕ → Trait → Bool
is_declared_pair_of owner (Keeps other reader) = (other == owner) && not (reader == outsider)
is_declared_pair_of owner (Distrusts principal) = false

-- a pair with the outsider, whose owner has another one among these
abbrev pub goes_without_saying : List Trait → Trait → Bool
goes_without_saying pairs (Keeps owner reader) =
    (reader == outsider) && list_any (is_declared_pair_of owner) pairs
goes_without_saying pairs (Distrusts principal) = false

-- the pairs that say something, of those of others
abbrev pub said_pairs : List Trait → List Trait
said_pairs pairs = filter (λ pair. not (goes_without_saying pairs pair)) pairs

abbrev pub listed_pairs : Declared → List Trait → List Trait
listed_pairs principals pairs = said_pairs (unless_none (filter (is_of_another principals) pairs) pairs)

abbrev pub listed : Declared → (Trait → Bool) → List Trait
listed principals test = listed_pairs principals (filter test (all_pairs principals))
    ++ filter test (all_distrusts principals)
