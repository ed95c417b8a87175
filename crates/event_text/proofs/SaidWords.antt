-- Words with a mark between each two: the parts of a text between marks, and the words of a line with single spaces.
use Rattle.std.proofs.Common.{◌≡◌, ◌<◌, ◌==◌, ℕ, Bool, true, false, not, List, [], ◌∷◌, ◌++◌, length, refl, ap, ◌∙◌}
use Rattle.std.proofs.Common.{inl, inr, arith}
use Rattle.std.specs.Prelude.{All, filter}
use Rattle.std.specs.List.{AllByRecursion, slice_split, onto_first}
use Rattle.std.proofs.lemmas.Bool.{cases_Bool}
use Rattle.std.proofs.lemmas.Bool.Decides.{nat_tests}
use Rattle.std.proofs.lemmas.List.Elements.{All-nil, All-cons}
use Rattle.std.proofs.lemmas.List.Splits.{slice_split-cons_yes, slice_split-cons_no, slice_split_none, slice_split_at}
use Rattle.std.proofs.lemmas.List.Splits.{length-slice_split}
use Rattle.event_text.specs.Lines.{is_blank, words}
use Rattle.event_text.specs.Words.{Word}

-- ---- joined by a mark

abbrev pub joined : ℕ → List Word → List ℕ
joined mark [] = []
joined mark (word ∷ []) = word
joined mark (word ∷ next ∷ others) = word ++ mark ∷ joined mark (next ∷ others)

joined_behind : (mark : ℕ) (parts : List Word) → 0 < length parts → joined mark ([] ∷ parts) ≡ mark ∷ joined mark parts
joined_behind mark [] some = absurd (omega arith)
joined_behind mark (part ∷ parts) some = refl

joined_onto : (mark byte : ℕ) (parts : List Word) → 0 < length parts →
    joined mark (onto_first byte parts) ≡ byte ∷ joined mark parts
joined_onto mark byte [] some = absurd (omega arith)
joined_onto mark byte (part ∷ []) some = refl
joined_onto mark byte (part ∷ next ∷ parts) some = refl

-- the parts of a text, joined by the mark that parts them, are the text
pub joined_parts : (mark : ℕ) (text : List ℕ) → joined mark (slice_split (λ byte. byte == mark) text) ≡ text
joined_parts mark [] = refl
joined_parts mark (byte ∷ text) =
    let is_mark : ℕ → Bool = λ one. one == mark in
    let count = length-slice_split is_mark text in
    let some : 0 < length (slice_split is_mark text) = omega (arith, count) in
    elim (cases_Bool (byte == mark)) [
      | inl here ↦
          let same : mark ≡ byte = grind (arith, nat_tests) in
          ap (joined mark) (slice_split-cons_yes is_mark byte text here)
          ∙ joined_behind mark (slice_split is_mark text) some
          ∙ ap (λ (rest : List ℕ). mark ∷ rest) (joined_parts mark text) ∙ ap (λ (b : ℕ). b ∷ text) same
      | inr other ↦
          ap (joined mark) (slice_split-cons_no is_mark byte text other)
          ∙ joined_onto mark byte (slice_split is_mark text) some
          ∙ ap (λ (rest : List ℕ). byte ∷ rest) (joined_parts mark text)
    ]

-- ---- words

abbrev is_filled : Word → Bool
is_filled part = not (length part == 0)

abbrev pub IsPlain : ℕ → Type 0
IsPlain byte = is_blank byte ≡ false

-- some bytes, and no blank among them
pub record IsWord (word : Word) : Type 0 where
  pub some : 0 < length word
  pub plain : All IsPlain word

filled : (word : Word) → 0 < length word → is_filled word ≡ true
filled word some = grind (arith, nat_tests)

kept : (word : Word) (others : List Word) → 0 < length word →
    filter is_filled (word ∷ others) ≡ word ∷ filter is_filled others
kept word others some = rw (filled word some) refl

-- ---- words of a line are words

onto_plain : (byte : ℕ) (parts : List Word) → IsPlain byte → AllByRecursion (All IsPlain) parts →
    AllByRecursion (All IsPlain) (onto_first byte parts)
onto_plain byte [] plain all = (All-cons IsPlain byte [] plain (All-nil IsPlain), tt)
onto_plain byte (part ∷ parts) plain all = (All-cons IsPlain byte part plain all.0, all.1)

parts_plain : (line : List ℕ) → AllByRecursion (All IsPlain) (slice_split is_blank line)
parts_plain [] = (All-nil IsPlain, tt)
parts_plain (byte ∷ line) = elim (cases_Bool (is_blank byte)) [
  | inl blank ↦ rw (slice_split-cons_yes is_blank byte line blank) (All-nil IsPlain, parts_plain line)
  | inr plain ↦ rw (slice_split-cons_no is_blank byte line plain)
      (onto_plain byte (slice_split is_blank line) plain (parts_plain line))
]

filled_words : (parts : List Word) → AllByRecursion (All IsPlain) parts →
    AllByRecursion IsWord (filter is_filled parts)
filled_words [] all = tt
filled_words (part ∷ parts) all = elim (cases_Bool (is_filled part)) [
  | inl some ↦ rw some (record { some = grind (arith, nat_tests); plain = all.0 }, filled_words parts all.1)
  | inr none ↦ rw none (filled_words parts all.1)
]

words_are : (line : List ℕ) → AllByRecursion IsWord (words line)
words_are line = filled_words (slice_split is_blank line) (parts_plain line)

-- a word before a space is the first of the line
pub word_then : (word : Word) (line : List ℕ) → IsWord word → words (word ++ 32 ∷ line) ≡ word ∷ words line
word_then word line is =
    ap (filter is_filled) (slice_split_at is_blank word 32 line is.plain refl)
    ∙ kept word (slice_split is_blank line) is.some

-- ---- and joined by spaces they are those words

pub joined_words : (said : List Word) → AllByRecursion IsWord said → words (joined 32 said) ≡ said
joined_words [] all = refl
joined_words (word ∷ []) all =
    ap (filter is_filled) (slice_split_none is_blank word all.0.plain) ∙ kept word [] all.0.some
joined_words (word ∷ next ∷ others) all =
    word_then word (joined 32 (next ∷ others)) all.0
    ∙ ap (λ (ws : List Word). word ∷ ws) (joined_words (next ∷ others) all.1)

pub words_again : (line : List ℕ) → words (joined 32 (words line)) ≡ words line
words_again line = joined_words (words line) (words_are line)
