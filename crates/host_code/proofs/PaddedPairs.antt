-- An array of 8 pairs that has the riders in front and blank pairs behind them.
use Rattle.std.proofs.Common.{◌≡◌, refl, sym, ◌∙◌, ap, ℕ, suc, zero, ◌+◌, ◌-◌, ◌<◌, ◌≤◌, arith}
use Rattle.std.proofs.Common.{List, [], ◌∷◌, ◌++◌, length, take, drop, replicate, append_assoc}
use Rattle.std.proofs.Math.Path.{subst, subst₂}
use Rattle.std.proofs.Math.ListN.{set}
use Rattle.std.proofs.Math.Seq.{take-append_seam, set-append_seam}
use Rattle.std.proofs.lemmas.List.{length-append, drop-replicate}
use Rattle.host_code.specs.declared.riders.TheConstants.{MOST_RIDERS}
use Rattle.host_code.specs.Riders.{Rider, AreFew, padded, blank}

-- what the array has in front are riders, and all behind them is blank
abbrev pub IsPadded : ℕ → List Rider → Type 0
IsPadded count pairs = AreFew (take count pairs) × (length (take count pairs) ≡ count)
    × (padded (take count pairs) ≡ pairs)

is_padded : (riders : List Rider) → AreFew riders → IsPadded (length riders) (padded riders)
is_padded riders few = by_front (padded riders) refl
    (take-append_seam riders (replicate (MOST_RIDERS - length riders) blank))
  where
    by_front : (pairs : List Rider) → padded riders ≡ pairs → take (length riders) pairs ≡ riders →
        IsPadded (length riders) pairs
    by_front pairs is front = (subst AreFew (sym front) few, ap length front, ap padded front ∙ is)

-- riders that were laid over the front of blank pairs
pub laid : (riders front : List Rider) → AreFew riders → front ≡ riders →
    IsPadded (length riders) (front ++ drop (length riders) (replicate MOST_RIDERS blank))
laid riders front few is = subst (IsPadded (length riders))
    (sym (ap (λ left. left ++ drop (length riders) (replicate MOST_RIDERS blank)) is
    ∙ ap (λ right. riders ++ right) (drop-replicate (length riders) MOST_RIDERS blank)))
    (is_padded riders few)

-- one more pair in the first blank place
grown : (riders : List Rider) (pair : Rider) → length riders < MOST_RIDERS →
    IsPadded (length riders + 1) (set (padded riders) (length riders) pair)
grown riders pair below = subst₂ IsPadded longer
    (ap (λ count. (riders ++ pair ∷ []) ++ replicate (MOST_RIDERS - count) blank) longer ∙ sym set_there)
    (is_padded (riders ++ pair ∷ []) (omega (arith, longer), omega (arith, longer, below)))
  where
    longer : length (riders ++ pair ∷ []) ≡ length riders + 1
    longer = length-append riders (pair ∷ [])

    left : List Rider
    left = replicate (MOST_RIDERS - (length riders + 1)) blank

    one_blank : MOST_RIDERS - length riders ≡ suc (MOST_RIDERS - (length riders + 1))
    one_blank = omega (arith, below)

    set_there : set (padded riders) (length riders) pair ≡ (riders ++ pair ∷ []) ++ left
    set_there = ap (λ count. set (riders ++ replicate count blank) (length riders) pair) one_blank
        ∙ set-append_seam riders blank left pair ∙ sym (append_assoc riders (pair ∷ []) left)

pub one_more : (count : ℕ) (pairs : List Rider) (pair : Rider) → IsPadded count pairs → count < MOST_RIDERS →
    IsPadded (count + 1) (set pairs count pair)
one_more count pairs pair are below = subst₂ (λ many all. IsPadded (many + 1) (set all many pair)) are.1 are.2
    (grown (take count pairs) pair (subst (λ many. many < MOST_RIDERS) (sym are.1) below))
