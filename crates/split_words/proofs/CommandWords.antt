-- Lists of two, three, four and five texts, as commands have them.
use Rattle.std.proofs.Common.{◌≡◌, ◌≢◌, ℕ, List, [], ◌∷◌, length, get_or, arith, map, sym, ◌∙◌, String, Global}
use Rattle.std.specs.Prelude.{string_bytes, codes}
use Rattle.std.specs.Fmt.{decimal}
use Rattle.split_words.specs.Commands.{CommandShape, Check, Run, Replay, Drive, Compare, Split, Make}
use Rattle.split_words.specs.Commands.{IsCommand, IsMadeCount, words_of}
use Rattle.front_end.specs.StepCounts.{IsStepCount}

-- texts, by their places
pub two : (xs : List (String Global)) (a b : String Global) → length xs ≡ 2 → a ≡ get_or xs 0 a → b ≡ get_or xs 1 b →
    map string_bytes xs ≡ string_bytes a ∷ string_bytes b ∷ []
two [] a b n pa pb = absurd (omega arith)
two (w ∷ []) a b n pa pb = absurd (omega arith)
two (w ∷ x ∷ []) a b n pa pb = cc
two (w ∷ x ∷ y ∷ xs) a b n pa pb = absurd (omega arith)

pub three : (xs : List (String Global)) (a b c : String Global) → length xs ≡ 3 → a ≡ get_or xs 0 a →
    b ≡ get_or xs 1 b → c ≡ get_or xs 2 c →
    map string_bytes xs ≡ string_bytes a ∷ string_bytes b ∷ string_bytes c ∷ []
three [] a b c n pa pb pc = absurd (omega arith)
three (w ∷ []) a b c n pa pb pc = absurd (omega arith)
three (w ∷ x ∷ []) a b c n pa pb pc = absurd (omega arith)
three (w ∷ x ∷ y ∷ []) a b c n pa pb pc = cc
three (w ∷ x ∷ y ∷ z ∷ xs) a b c n pa pb pc = absurd (omega arith)

pub four : (xs : List (String Global)) (a b c d : String Global) → length xs ≡ 4 → a ≡ get_or xs 0 a →
    b ≡ get_or xs 1 b → c ≡ get_or xs 2 c → d ≡ get_or xs 3 d →
    map string_bytes xs ≡ string_bytes a ∷ string_bytes b ∷ string_bytes c ∷ string_bytes d ∷ []
four [] a b c d n pa pb pc pd = absurd (omega arith)
four (w ∷ []) a b c d n pa pb pc pd = absurd (omega arith)
four (w ∷ x ∷ []) a b c d n pa pb pc pd = absurd (omega arith)
four (w ∷ x ∷ y ∷ []) a b c d n pa pb pc pd = absurd (omega arith)
four (w ∷ x ∷ y ∷ z ∷ []) a b c d n pa pb pc pd = cc
four (w ∷ x ∷ y ∷ z ∷ v ∷ xs) a b c d n pa pb pc pd = absurd (omega arith)

pub five : (xs : List (String Global)) (a b c d e : String Global) → length xs ≡ 5 → a ≡ get_or xs 0 a →
    b ≡ get_or xs 1 b → c ≡ get_or xs 2 c → d ≡ get_or xs 3 d → e ≡ get_or xs 4 e → map string_bytes xs
    ≡ string_bytes a ∷ string_bytes b ∷ string_bytes c ∷ string_bytes d ∷ string_bytes e ∷ []
five [] a b c d e n pa pb pc pd pe = absurd (omega arith)
five (w ∷ []) a b c d e n pa pb pc pd pe = absurd (omega arith)
five (w ∷ x ∷ []) a b c d e n pa pb pc pd pe = absurd (omega arith)
five (w ∷ x ∷ y ∷ []) a b c d e n pa pb pc pd pe = absurd (omega arith)
five (w ∷ x ∷ y ∷ z ∷ []) a b c d e n pa pb pc pd pe = absurd (omega arith)
five (w ∷ x ∷ y ∷ z ∷ v ∷ []) a b c d e n pa pb pc pd pe = cc
five (w ∷ x ∷ y ∷ z ∷ v ∷ u ∷ xs) a b c d e n pa pb pc pd pe = absurd (omega arith)

-- and what they are equal to
pub two_same : (words : List (List ℕ)) (a b v n : List ℕ) → words ≡ a ∷ b ∷ [] → v ≡ a → n ≡ b → words ≡ v ∷ n ∷ []
two_same words a b v n is pa pb = cc

pub three_same : (words : List (List ℕ)) (a b c v p h : List ℕ) → words ≡ a ∷ b ∷ c ∷ [] → a ≡ v → p ≡ b → h ≡ c →
    words ≡ v ∷ p ∷ h ∷ []
three_same words a b c v p h is pa pb pc = cc

pub four_same : (words : List (List ℕ)) (a b c d v p h e : List ℕ) → words ≡ a ∷ b ∷ c ∷ d ∷ [] → a ≡ v → p ≡ b →
    h ≡ c → e ≡ d → words ≡ v ∷ p ∷ h ∷ e ∷ []
four_same words a b c d v p h e is pa pb pc pd = cc

pub five_same : (words : List (List ℕ)) (a b c d e v p h s n : List ℕ) → words ≡ a ∷ b ∷ c ∷ d ∷ e ∷ [] → a ≡ v →
    p ≡ b → h ≡ c → s ≡ d → n ≡ e → words ≡ v ∷ p ∷ h ∷ s ∷ n ∷ []
five_same words a b c d e v p h s n is pa pb pc pd pe = cc

-- two words of which the last is no number of statements ask for nothing
second_word : (a b v n : List ℕ) → ◌≡◌ {A = List (List ℕ)} (a ∷ b ∷ []) (v ∷ n ∷ []) → b ≡ n
second_word a b v n is = cc

pub no_count : (a b : List ℕ) → ((statements : ℕ) → IsMadeCount statements → b ≢ decimal statements) →
    (command : CommandShape) → IsCommand command → ◌≢◌ {A = List (List ℕ)} (a ∷ b ∷ []) (words_of command)
no_count a b none (Check program hosts) command same = let never : ⊥ = cc in never
no_count a b none (Run program hosts start steps) command same = let never : ⊥ = cc in never
no_count a b none (Replay program hosts events) command same = let never : ⊥ = cc in never
no_count a b none (Drive program hosts start events) command same = let never : ⊥ = cc in never
no_count a b none (Compare program hosts one other) command same = let never : ⊥ = cc in never
no_count a b none (Split program hosts out) command same = let never : ⊥ = cc in never
no_count a b none (Make statements) command same =
    none statements command (second_word a b (codes "make") (decimal statements) same)

-- nor do two words of which the first is not `make`
pub no_make : (a b : List ℕ) → a ≢ codes "make" → (command : CommandShape) → IsCommand command →
    ◌≢◌ {A = List (List ℕ)} (a ∷ b ∷ []) (words_of command)
no_make a b not (Check program hosts) command same = let never : ⊥ = cc in never
no_make a b not (Run program hosts start steps) command same = let never : ⊥ = cc in never
no_make a b not (Replay program hosts events) command same = let never : ⊥ = cc in never
no_make a b not (Drive program hosts start events) command same = let never : ⊥ = cc in never
no_make a b not (Compare program hosts one other) command same = let never : ⊥ = cc in never
no_make a b not (Split program hosts out) command same = let never : ⊥ = cc in never
no_make a b not (Make statements) command same = not (let first : a ≡ codes "make" = cc in first)

-- five words of which the last is no number of steps ask for nothing, where the first is not `compare`
last_word : (a b c d e v p h s n : List ℕ) →
    ◌≡◌ {A = List (List ℕ)} (a ∷ b ∷ c ∷ d ∷ e ∷ []) (v ∷ p ∷ h ∷ s ∷ n ∷ []) → e ≡ n
last_word a b c d e v p h s n is = cc

first_word : (a b c d e v p h s t : List ℕ) →
    ◌≡◌ {A = List (List ℕ)} (a ∷ b ∷ c ∷ d ∷ e ∷ []) (v ∷ p ∷ h ∷ s ∷ t ∷ []) → a ≡ v
first_word a b c d e v p h s t is = cc

pub no_steps : (words : List (List ℕ)) (a b c d e last : List ℕ) → words ≡ a ∷ b ∷ c ∷ d ∷ e ∷ [] →
    a ≢ codes "compare" → last ≡ e →
    ((steps : ℕ) → IsStepCount steps → last ≢ decimal steps) → (command : CommandShape) → IsCommand command →
    words ≢ words_of command
no_steps words a b c d e last is not_compare last_is none (Check program hosts) command same = let never : ⊥ = cc in
    never
no_steps words a b c d e last is not_compare last_is none (Run program hosts start steps) command same =
    none steps command (last_is
    ∙ last_word a b c d e (codes "run") program hosts start (decimal steps) (sym is ∙ same))
no_steps words a b c d e last is not_compare last_is none (Replay program hosts events) command same =
    let never : ⊥ = cc in never
no_steps words a b c d e last is not_compare last_is none (Drive program hosts start events) command same =
    none events command (last_is
    ∙ last_word a b c d e (codes "drive") program hosts start (decimal events) (sym is ∙ same))
no_steps words a b c d e last is not_compare last_is none (Split program hosts out) command same =
    let never : ⊥ = cc in never
no_steps words a b c d e last is not_compare last_is none (Compare program hosts one other) command same =
    not_compare (first_word a b c d e (codes "compare") program hosts one other (sym is ∙ same))
no_steps words a b c d e last is not_compare last_is none (Make statements) command same =
    let never : ⊥ = cc in never

-- nor do five words that begin with no command that has five
pub no_verb : (a b c d e : List ℕ) → a ≢ codes "compare" → a ≢ codes "run" → a ≢ codes "drive" →
    (command : CommandShape) → IsCommand command → ◌≢◌ {A = List (List ℕ)} (a ∷ b ∷ c ∷ d ∷ e ∷ []) (words_of command)
no_verb a b c d e not_compare not_run not_drive (Check program hosts) command same = let never : ⊥ = cc in never
no_verb a b c d e not_compare not_run not_drive (Run program hosts start steps) command same =
    not_run (let first : a ≡ codes "run" = cc in first)
no_verb a b c d e not_compare not_run not_drive (Replay program hosts events) command same = let never : ⊥ = cc in never
no_verb a b c d e not_compare not_run not_drive (Drive program hosts start events) command same =
    not_drive (let first : a ≡ codes "drive" = cc in first)
no_verb a b c d e not_compare not_run not_drive (Compare program hosts one other) command same =
    not_compare (let first : a ≡ codes "compare" = cc in first)
no_verb a b c d e not_compare not_run not_drive (Split program hosts out) command same = let never : ⊥ = cc in never
no_verb a b c d e not_compare not_run not_drive (Make statements) command same = let never : ⊥ = cc in never
