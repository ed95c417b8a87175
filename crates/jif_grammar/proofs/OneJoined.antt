-- Phrases joined by a separator are read in one way, where each of them is; and so are names and labels.
use Rattle.std.proofs.Common.{◌≡◌, ◌≢◌, ℕ, List, [], ◌∷◌, refl, ap, sym}
use Rattle.std.specs.Prelude.{⊤}
use Rattle.jif_lex.specs.declared.token.TokenKind.{TokenKind}
use Rattle.jif_lex.specs.declared.token.Symbol.TheVariants.{RightBrace, Semicolon, Comma}
use Rattle.label_lattice.specs.Written.{Part, policy, trust, symbol}
use Rattle.jif_grammar.specs.Phrases.{LabelPhrase}
use Rattle.jif_grammar.specs.Unmarked.{joined_then, name_then, names_then, part_then, label_then}

abbrev pub Each : {X : Type 0} → (X → Type 0) → List X → Type 0
Each P [] = ⊤
Each P (x ∷ xs) = P x × Each P xs

pub each_of : {X : Type 0} (P : X → Type 0) → ((x : X) → P x) → (xs : List X) → Each P xs
each_of P all [] = tt
each_of P all (x ∷ xs) = (all x, each_of P all xs)

-- Before a rest that may stand after it, a phrase is told from each sound one.
abbrev pub IsOne : {X : Type 0} → (X → List TokenKind → List TokenKind) → (X → Type 0) →
    (List TokenKind → Type 0) → X → Type 0
IsOne {X} item_then IsSound MayFollow x =
    (y : X) → IsSound y → (r s : List TokenKind) → MayFollow r → MayFollow s → item_then x r ≡ item_then y s →
    (x ≡ y) × (r ≡ s)

-- it begins neither with the separator nor with an item
abbrev pub EndsJoined : {X : Type 0} → TokenKind → (X → List TokenKind → List TokenKind) → List TokenKind → Type 0
EndsJoined {X} separator item_then r =
    ((t : List TokenKind) → r ≢ separator ∷ t) × ((y : X) (t : List TokenKind) → r ≢ item_then y t)

pub one_joined : {X : Type 0} (separator : TokenKind) (item_then : X → List TokenKind → List TokenKind)
    (IsSound : X → Type 0) (MayFollow : List TokenKind → Type 0) → ((t : List TokenKind) → MayFollow (separator ∷ t)) →
    (r s : List TokenKind) → MayFollow r → MayFollow s →
    EndsJoined separator item_then r → EndsJoined separator item_then s →
    (xs ys : List X) → Each (IsOne item_then IsSound MayFollow) xs → Each IsSound ys →
    joined_then separator item_then xs r ≡ joined_then separator item_then ys s → (xs ≡ ys) × (r ≡ s)
one_joined separator item_then IsSound MayFollow after r s fr fs er es [] [] ones sound same = (refl, same)
one_joined separator item_then IsSound MayFollow after r s fr fs er es [] (y ∷ []) ones sound same =
    absurd (er.1 y s same)
one_joined separator item_then IsSound MayFollow after r s fr fs er es [] (y ∷ z ∷ ys) ones sound same =
    absurd (er.1 y (separator ∷ joined_then separator item_then (z ∷ ys) s) same)
one_joined separator item_then IsSound MayFollow after r s fr fs er es (x ∷ []) [] ones sound same =
    absurd (es.1 x r (sym same))
one_joined separator item_then IsSound MayFollow after r s fr fs er es (x ∷ w ∷ xs) [] ones sound same =
    absurd (es.1 x (separator ∷ joined_then separator item_then (w ∷ xs) r) (sym same))
one_joined separator item_then IsSound MayFollow after r s fr fs er es (x ∷ []) (y ∷ []) ones sound same =
    let one = ones.0 y sound.0 r s fr fs same in
    (ap (λ z. z ∷ []) one.0, one.1)
one_joined separator item_then IsSound MayFollow after r s fr fs er es (x ∷ []) (y ∷ z ∷ ys) ones sound same =
    absurd (er.0 (joined_then separator item_then (z ∷ ys) s)
    (ones.0 y sound.0 r (separator ∷ joined_then separator item_then (z ∷ ys) s) fr (after _) same).1)
one_joined separator item_then IsSound MayFollow after r s fr fs er es (x ∷ w ∷ xs) (y ∷ []) ones sound same =
    absurd (es.0 (joined_then separator item_then (w ∷ xs) r) (sym
    (ones.0 y sound.0 (separator ∷ joined_then separator item_then (w ∷ xs) r) s (after _) fs same).1))
one_joined separator item_then IsSound MayFollow after r s fr fs er es (x ∷ w ∷ xs) (y ∷ z ∷ ys) ones sound same =
    let one = ones.0 y sound.0 (separator ∷ joined_then separator item_then (w ∷ xs) r)
    (separator ∷ joined_then separator item_then (z ∷ ys) s) (after _) (after _) same in
    let heads : x ≡ y = one.0 in
    let behind : joined_then separator item_then (w ∷ xs) r ≡ joined_then separator item_then (z ∷ ys) s =
    let both = one.1 in cc in
    let others = one_joined separator item_then IsSound MayFollow after r s fr fs er es (w ∷ xs) (z ∷ ys) ones.1
    sound.1 behind in
    let tails : (w ∷ xs) ≡ (z ∷ ys) = others.0 in
    (cc, others.1)

-- ---- names

abbrev pub Anything : {X : Type 0} → X → Type 0
Anything x = ⊤

one_name : (name : List ℕ) → IsOne name_then Anything Anything name
one_name name other sound r s fr fs same = (cc, cc)

-- it begins with no name and no comma
abbrev pub EndsNames : List TokenKind → Type 0
EndsNames r = EndsJoined (symbol Comma) name_then r

pub one_names : (names others : List (List ℕ)) (r s : List TokenKind) → EndsNames r → EndsNames s →
    names_then names r ≡ names_then others s → (names ≡ others) × (r ≡ s)
one_names names others r s er es same =
    one_joined (symbol Comma) name_then Anything Anything (λ t. tt) r s tt tt er es names others
    (each_of (IsOne name_then Anything Anything) one_name names) (each_of Anything (λ x. tt) others) same

-- ---- labels

one_part : (part : Part) → IsOne part_then Anything EndsNames part
one_part (policy owner readers) (policy other others) sound r s fr fs same =
    let behind : names_then readers r ≡ names_then others s = cc in
    let one = one_names readers others r s fr fs behind in
    let names = one.0 in
    (cc, one.1)
one_part (policy owner readers) (trust members) sound r s fr fs same = absurd (cc)
one_part (trust members) (policy owner readers) sound r s fr fs same = absurd (cc)
one_part (trust members) (trust others) sound r s fr fs same =
    let behind : names_then members r ≡ names_then others s = cc in
    let one = one_names members others r s fr fs behind in
    (ap trust one.0, one.1)

semicolon_ends_names : (t : List TokenKind) → EndsNames (symbol Semicolon ∷ t)
semicolon_ends_names t = (λ u same. cc, λ y u same. cc)

brace_ends_names : (t : List TokenKind) → EndsNames (symbol RightBrace ∷ t)
brace_ends_names t = (λ u same. cc, λ y u same. cc)

brace_no_part : (t : List TokenKind) (part : Part) (u : List TokenKind) → (symbol RightBrace ∷ t) ≢ part_then part u
brace_no_part t (policy owner readers) u same = cc
brace_no_part t (trust members) u same = cc

brace_ends_parts : (t : List TokenKind) → EndsJoined (symbol Semicolon) part_then (symbol RightBrace ∷ t)
brace_ends_parts t = (λ u same. cc, brace_no_part t)

pub one_label : (label other : LabelPhrase) (r s : List TokenKind) → label_then label r ≡ label_then other s →
    (label ≡ other) × (r ≡ s)
one_label label other r s same =
    let behind : joined_then (symbol Semicolon) part_then label (symbol RightBrace ∷ r)
    ≡ joined_then (symbol Semicolon) part_then other (symbol RightBrace ∷ s) = cc in
    let one = one_joined (symbol Semicolon) part_then Anything EndsNames semicolon_ends_names (symbol RightBrace ∷ r)
    (symbol RightBrace ∷ s) (brace_ends_names r) (brace_ends_names s) (brace_ends_parts r) (brace_ends_parts s) label
    other (each_of (IsOne part_then Anything EndsNames) one_part label) (each_of Anything (λ x. tt) other) behind in
    let rests = one.1 in
    (one.0, cc)
