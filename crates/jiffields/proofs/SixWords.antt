-- Lists of five and of six texts, as the words have them.
use Rattle.std.proofs.Common.{◌≡◌, ◌≢◌, ◌+◌, ℕ, List, [], ◌∷◌, length, get_or, map, sym, ◌∙◌, ap, String, Global, refl}
use Rattle.std.proofs.Common.{arith}
use Rattle.std.specs.Prelude.{string_bytes, codes}
use Rattle.node_starts.specs.SourceNames.{SourceName, Program, Code}
use Rattle.jiffields.specs.Words.{FieldsAsked, words_of, words_with}

-- texts, by their places
pub five : (xs : List (String Global)) (a b c d e : String Global) → length xs ≡ 5 → a ≡ get_or xs 0 a →
    b ≡ get_or xs 1 b → c ≡ get_or xs 2 c → d ≡ get_or xs 3 d → e ≡ get_or xs 4 e →
    map string_bytes xs
    ≡ string_bytes a ∷ string_bytes b ∷ string_bytes c ∷ string_bytes d ∷ string_bytes e ∷ []
five [] a b c d e n pa pb pc pd pe = absurd (omega arith)
five (w ∷ []) a b c d e n pa pb pc pd pe = absurd (omega arith)
five (w ∷ x ∷ []) a b c d e n pa pb pc pd pe = absurd (omega arith)
five (w ∷ x ∷ y ∷ []) a b c d e n pa pb pc pd pe = absurd (omega arith)
five (w ∷ x ∷ y ∷ z ∷ []) a b c d e n pa pb pc pd pe = absurd (omega arith)
five (w ∷ x ∷ y ∷ z ∷ v ∷ []) a b c d e n pa pb pc pd pe = cc
five (w ∷ x ∷ y ∷ z ∷ v ∷ u ∷ xs) a b c d e n pa pb pc pd pe = absurd (omega arith)

pub six : (xs : List (String Global)) (a b c d e f : String Global) → length xs ≡ 6 → a ≡ get_or xs 0 a →
    b ≡ get_or xs 1 b → c ≡ get_or xs 2 c → d ≡ get_or xs 3 d → e ≡ get_or xs 4 e → f ≡ get_or xs 5 f →
    map string_bytes xs
    ≡ string_bytes a ∷ string_bytes b ∷ string_bytes c ∷ string_bytes d ∷ string_bytes e ∷ string_bytes f ∷ []
six [] a b c d e f n pa pb pc pd pe pf = absurd (omega arith)
six (x ∷ xs) a b c d e f n pa pb pc pd pe pf =
    let others = five xs b c d e f (omega arith) pb pc pd pe pf in
    let first : x ≡ a = sym pa in
    ap (λ (one : String Global). string_bytes one ∷ map string_bytes xs) first
    ∙ ap (λ (rest : List (List ℕ)). string_bytes a ∷ rest) others

-- and what they are equal to
pub five_same : (words : List (List ℕ)) (a b c d e v p h s n : List ℕ) → words ≡ a ∷ b ∷ c ∷ d ∷ e ∷ [] → v ≡ a →
    p ≡ b → h ≡ c → s ≡ d → n ≡ e → words ≡ v ∷ p ∷ h ∷ s ∷ n ∷ []
five_same words a b c d e v p h s n is pa pb pc pd pe = cc

pub six_same : (words : List (List ℕ)) (a b c d e f t v p h s n : List ℕ) → words ≡ a ∷ b ∷ c ∷ d ∷ e ∷ f ∷ [] →
    a ≡ t → v ≡ b → p ≡ c → h ≡ d → s ≡ e → n ≡ f → words ≡ t ∷ v ∷ p ∷ h ∷ s ∷ n ∷ []
six_same words a b c d e f t v p h s n is pa pb pc pd pe pf = cc

-- words that ask for something are five, or six of which the first is that of a program
by_source : (words : List (List ℕ)) (source : SourceName) (a b c d : List ℕ) →
    words ≡ words_with source (a ∷ b ∷ c ∷ d ∷ []) → length words ≢ 5 →
    (name : List ℕ) × (words ≡ codes "--program" ∷ name ∷ a ∷ b ∷ c ∷ d ∷ [])
by_source words (Code name) a b c d is not = absurd (not (ap length is))
by_source words (Program name) a b c d is not = (name, is)

pub no_count : (words : List (List ℕ)) → length words ≢ 5 → length words ≢ 6 → (asked : FieldsAsked) →
    words ≢ words_of asked
no_count words not nor asked is =
    let six = by_source words asked.source asked.hosts asked.host asked.start asked.journal is not in
    nor (ap length six.1)

pub no_flag : (words : List (List ℕ)) (a b c d e f : List ℕ) → words ≡ a ∷ b ∷ c ∷ d ∷ e ∷ f ∷ [] →
    a ≢ codes "--program" → (asked : FieldsAsked) → words ≢ words_of asked
no_flag words a b c d e f are other asked is =
    let not : length words ≢ 5 = λ five. let count = ap length are in omega (arith, five, count) in
    let six = by_source words asked.source asked.hosts asked.host asked.start asked.journal is not in
    other (let both = sym are ∙ six.1 in cc)
