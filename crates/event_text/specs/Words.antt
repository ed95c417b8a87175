-- So many words and no more.
use Rattle.std.specs.Prelude.{ℕ, List, [], ◌∷◌, Option, Some, None}
use Rattle.std.specs.Option.{option_map}

-- A word is a list of bytes.
abbrev pub Word : Type 0
Word = List ℕ

abbrev pub one_word : List Word → Option Word
one_word [] = None
one_word (word ∷ []) = Some word
one_word (word ∷ next ∷ others) = None

abbrev pub two_words : List Word → Option (Word × Word)
two_words [] = None
two_words (first ∷ others) = option_map (λ second. (first, second)) (one_word others)

abbrev pub three_words : List Word → Option (Word × Word × Word)
three_words [] = None
three_words (first ∷ others) = option_map (λ rest. (first, rest.0, rest.1)) (two_words others)

abbrev pub four_words : List Word → Option (Word × Word × Word × Word)
four_words [] = None
four_words (first ∷ others) = option_map (λ rest. (first, rest.0, rest.1, rest.2)) (three_words others)

-- ---- what is made of parts, where all of them are there

abbrev pub of_two : {X Y Z : Type 0} → (X → Y → Z) → Option X → Option Y → Option Z
of_two make None second = None
of_two make (Some first) None = None
of_two make (Some first) (Some second) = Some (make first second)

abbrev pub of_three : {X Y Z W : Type 0} → (X → Y → Z → W) → Option X → Option Y → Option Z → Option W
of_three make None second third = None
of_three make (Some first) second third = of_two (make first) second third

abbrev pub of_four : {X Y Z W V : Type 0} → (X → Y → Z → W → V) → Option X → Option Y → Option Z → Option W → Option V
of_four make None second third fourth = None
of_four make (Some first) second third fourth = of_three (make first) second third fourth

-- the first where it is there, and else the second
abbrev pub or_else : {X : Type 0} → Option X → Option X → Option X
or_else (Some first) second = Some first
or_else None second = second
