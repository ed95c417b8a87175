-- Lines and words from the front of what is left.
use Rattle.std.proofs.Common.{◌≡◌, ℕ, suc, ◌+◌, ◌<◌, Bool, true, false, not, ◌==◌, List, []}
use Rattle.std.proofs.Common.{◌∷◌}
use Rattle.std.proofs.Common.{length, take, drop, refl, ap, sym, ◌∙◌, inl, inr, arith}
use Rattle.std.specs.Prelude.{filter}
use Rattle.std.specs.List.{slice_split, prefix_len, position_or_len}
use Rattle.std.specs.Str.Lines.{lines, lines_of_parts, strip_carriage_return}
use Rattle.std.proofs.lemmas.Bool.{cases_Bool}
use Rattle.std.proofs.lemmas.Bool.Decides.{nat_tests}
use Rattle.std.proofs.lemmas.List.Splits.{slice_split_first, slice_split_none, length-slice_split}
use Rattle.std.proofs.lemmas.List.Sums.{fails_before_first}
use Rattle.event_text.specs.Lines.{is_blank, words}

-- a list with an element is not empty by the test either
filled : (n : ℕ) → (suc n == 0) ≡ false
filled n = grind (arith, nat_tests)

-- WORDS, by any test of what parts them

abbrev is_word : List ℕ → Bool
is_word part = not (length part == 0)

abbrev words_by : (ℕ → Bool) → List ℕ → List (List ℕ)
words_by p xs = filter is_word (slice_split p xs)

-- the parts that follow the first, empty ones too
abbrev others : (ℕ → Bool) → List ℕ → List (List ℕ)
others p xs = drop 1 (slice_split p xs)

len-parts : (p : ℕ → Bool) (x : ℕ) (xs : List ℕ) → p x ≡ true →
    prefix_len p (x ∷ xs) ≡ suc (prefix_len p xs)
len-parts p x xs e = rw e (omega arith)

len-ends : (p : ℕ → Bool) (x : ℕ) (xs : List ℕ) → p x ≡ false → prefix_len p (x ∷ xs) ≡ 0
len-ends p x xs e = rw e refl

place-more : (p : ℕ → Bool) (x : ℕ) (xs : List ℕ) → p x ≡ false →
    position_or_len p (x ∷ xs) ≡ suc (position_or_len p xs)
place-more p x xs e = rw e (omega arith)

place-here : (p : ℕ → Bool) (x : ℕ) (xs : List ℕ) → p x ≡ true → position_or_len p (x ∷ xs) ≡ 0
place-here p x xs e = rw e refl

words_by-past_one : (p : ℕ → Bool) (x : ℕ) (xs : List ℕ) → p x ≡ true →
    words_by p (x ∷ xs) ≡ words_by p xs
words_by-past_one p x xs e = rw e refl

words_by-past : (p : ℕ → Bool) (xs : List ℕ) → words_by p (drop (prefix_len p xs) xs) ≡ words_by p xs
words_by-past p [] = refl
words_by-past p (x ∷ xs) =
    elim (cases_Bool (p x)) [
      | inl e ↦ ap (λ n. words_by p (drop n (x ∷ xs))) (len-parts p x xs e) ∙ words_by-past p xs
          ∙ sym (words_by-past_one p x xs e)
      | inr e ↦ ap (λ n. words_by p (drop n (x ∷ xs))) (len-ends p x xs e)
    ]

begins_with_word : (p : ℕ → Bool) (xs : List ℕ) → 0 < length (drop (prefix_len p xs) xs) →
    0 < position_or_len p (drop (prefix_len p xs) xs)
begins_with_word p [] = λ some. some
begins_with_word p (x ∷ xs) =
    elim (cases_Bool (p x)) [
      | inl e ↦ rw (len-parts p x xs e) (begins_with_word p xs)
      | inr e ↦ rw (len-ends p x xs e) (λ some. rw (place-more p x xs e) (omega arith))
    ]

pub split-first : (p : ℕ → Bool) (xs : List ℕ) → slice_split p xs ≡ take (position_or_len p xs) xs ∷ others p xs
split-first p [] = refl
split-first p (x ∷ xs) =
    elim (cases_Bool (p x)) [
      | inl e ↦ rw (place-here p x xs e) (rw e refl)
      | inr e ↦ rw (place-more p x xs e) (rw (e, split-first p xs) refl)
    ]

split-more : (p : ℕ → Bool) (x : ℕ) (xs : List ℕ) → p x ≡ false →
    slice_split p (x ∷ xs) ≡ (x ∷ take (position_or_len p xs) xs) ∷ others p xs
split-more p x xs e = rw e (rw (split-first p xs) refl)

words_by-others : (p : ℕ → Bool) (xs : List ℕ) →
    words_by p (drop (position_or_len p xs) xs) ≡ filter is_word (others p xs)
words_by-others p [] = refl
words_by-others p (x ∷ xs) =
    elim (cases_Bool (p x)) [
      | inl e ↦ ap (λ n. words_by p (drop n (x ∷ xs))) (place-here p x xs e) ∙ rw e refl
      | inr e ↦
          ap (λ n. words_by p (drop n (x ∷ xs))) (place-more p x xs e) ∙ words_by-others p xs
          ∙ ap (λ parts. filter is_word (drop 1 parts)) (sym (split-more p x xs e))
    ]

word-kept : (x : ℕ) (word : List ℕ) (parts : List (List ℕ)) →
    filter is_word ((x ∷ word) ∷ parts) ≡ (x ∷ word) ∷ filter is_word parts
word-kept x word parts = rw (filled (length word)) refl

words_by-first : (p : ℕ → Bool) (xs : List ℕ) (end : ℕ) → end ≡ position_or_len p xs → 0 < end →
    words_by p xs ≡ take end xs ∷ words_by p (drop end xs)
words_by-first p [] end at some = absurd (omega arith)
words_by-first p (x ∷ xs) end at some =
    elim (cases_Bool (p x)) [
      | inl e ↦ absurd (omega (arith, place-here p x xs e))
      | inr e ↦
          let n : end ≡ suc (position_or_len p xs) = at ∙ place-more p x xs e in
          let kept : words_by p (x ∷ xs) ≡ (x ∷ take (position_or_len p xs) xs) ∷ filter is_word (others p xs) =
          ap (filter is_word) (split-more p x xs e) ∙ word-kept x _ (others p xs) in
          rw (n, kept) (ap (λ rest. (x ∷ take (position_or_len p xs) xs) ∷ rest) (sym (words_by-others p xs)))
    ]

nil_from_length : (xs : List ℕ) → length xs ≡ 0 → xs ≡ []
nil_from_length [] none = refl
nil_from_length (x ∷ xs) none = absurd (omega arith)

-- a line of blanks alone has no words
pub words-none : (line rest : List ℕ) (start : ℕ) → start ≡ prefix_len is_blank line →
    rest ≡ drop start line →
    length rest ≡ 0 → words line ≡ []
words-none line rest start at e none =
    sym (words_by-past is_blank line)
    ∙ ap (words_by is_blank) (ap (λ n. drop n line) (sym at) ∙ sym e ∙ nil_from_length rest none)

-- the first word, and what follows it, where rest is the line after its first blanks
pub words-first : (line rest : List ℕ) (start end : ℕ) → start ≡ prefix_len is_blank line →
    rest ≡ drop start line →
    end ≡ position_or_len is_blank rest → 0 < length rest →
    words line ≡ take end rest ∷ words (drop end rest)
words-first line rest start end at e ends some =
    let same : rest ≡ drop (prefix_len is_blank line) line = e ∙ ap (λ n. drop n line) at in
    let begins : 0 < position_or_len is_blank rest = rw same (begins_with_word is_blank line (rw (← same) some)) in
    sym (words_by-past is_blank line) ∙ ap (words_by is_blank) (sym same)
    ∙ words_by-first is_blank rest end ends (omega arith)

-- LINES

pub lines_of_parts-cons : (part : List ℕ) (parts : List (List ℕ)) → 0 < length parts →
    lines_of_parts (part ∷ parts) ≡ strip_carriage_return part ∷ lines_of_parts parts
lines_of_parts-cons part [] some = absurd (omega arith)
lines_of_parts-cons part (next ∷ others) some = refl

lines_of_parts-only : (part : List ℕ) → 0 < length part → lines_of_parts (part ∷ []) ≡ part ∷ []
lines_of_parts-only [] some = absurd (omega arith)
lines_of_parts-only (byte ∷ bytes) some = rw (filled (length bytes)) refl

abbrev is_line_feed : ℕ → Bool
is_line_feed byte = byte == 10

-- the only line, which no line feed ends
pub lines-last : (bytes : List ℕ) (end : ℕ) → end ≡ position_or_len (λ byte. byte == 10) bytes →
    end ≡ length bytes → 0 < length bytes → lines bytes ≡ bytes ∷ []
lines-last bytes end at whole some =
    let parts : slice_split is_line_feed bytes ≡ bytes ∷ [] =
    slice_split_none is_line_feed bytes (λ k d lt. fails_before_first is_line_feed bytes k d (omega arith)) in
    ap lines_of_parts parts ∙ lines_of_parts-only bytes some

-- the first of several lines, or one that a line feed ends
pub lines-first : (bytes : List ℕ) (end : ℕ) → end ≡ position_or_len (λ byte. byte == 10) bytes →
    end < length bytes →
    lines bytes ≡ strip_carriage_return (take end bytes) ∷ lines (drop (end + 1) bytes)
lines-first bytes end at more =
    let count = length-slice_split is_line_feed (drop (end + 1) bytes) in
    let parts : slice_split is_line_feed bytes ≡ take end bytes ∷ slice_split is_line_feed (drop (end + 1) bytes) =
    rw at (slice_split_first is_line_feed bytes 0 (omega arith)) in
    let some : 0 < length (slice_split is_line_feed (drop (end + 1) bytes)) = omega arith in
    ap lines_of_parts parts ∙ lines_of_parts-cons (take end bytes) (slice_split is_line_feed (drop (end + 1) bytes))
    some
