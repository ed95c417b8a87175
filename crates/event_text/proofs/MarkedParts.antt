-- The parts of a word between marks.
use Rattle.std.proofs.Common.{◌≡◌, ℕ, ◌+◌, ◌<◌, ◌==◌, Bool, [], ◌∷◌, length, take, drop, None, refl}
use Rattle.std.proofs.Common.{arith}
use Rattle.std.specs.List.{position_or_len}
use Rattle.std.proofs.lemmas.List.Splits.{slice_split_first, slice_split_none}
use Rattle.std.proofs.lemmas.List.Sums.{fails_before_first}
use Rattle.event_text.specs.Parts.{parts}
use Rattle.event_text.specs.Words.{Word, one_word}
use Rattle.event_text.proofs.Fronts.{split-first}

abbrev is_mark : ℕ → ℕ → Bool
is_mark mark byte = byte == mark

-- no mark
pub parts-whole : (mark : ℕ) (word : Word) (end : ℕ) → end ≡ position_or_len (λ byte. byte == mark) word →
    end ≡ length word → parts mark word ≡ word ∷ []
parts-whole mark word end at whole =
    slice_split_none (is_mark mark) word (λ k d lt. fails_before_first (is_mark mark) word k d (omega arith))

-- the first part, and what follows its mark
pub parts-first : (mark : ℕ) (word : Word) (end : ℕ) → end ≡ position_or_len (λ byte. byte == mark) word →
    end < length word → parts mark word ≡ take end word ∷ parts mark (drop (end + 1) word)
parts-first mark word end at more = rw at (slice_split_first (is_mark mark) word 0 (omega arith))

-- behind a first part there is another
pub no_one : (mark : ℕ) (first back : Word) → one_word (first ∷ parts mark back) ≡ None
no_one mark first back = rw (split-first (is_mark mark) back) refl
