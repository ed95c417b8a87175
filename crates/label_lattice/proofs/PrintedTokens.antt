-- The tokens of a printed label.
use Rattle.std.proofs.Common.{◌≡◌, ℕ, ◌+◌, Bool, true, false, List, [], ◌∷◌, ◌++◌, refl, ap, sym, ◌∙◌, codes, subst}
use Rattle.std.proofs.Common.{arith, suc}
use Rattle.std.specs.Prelude.{IsTrue, All, if◌then◌else◌}
use Rattle.std.specs.List.{AllByRecursion, flat_map, join_by}
use Rattle.std.proofs.lemmas.List.{append-nil, append_assoc}
use Rattle.js_base.specs.Name.{IsName}
use Rattle.jif_lex.specs.declared.token.TokenKind.{TokenKind}
use Rattle.jif_lex.specs.declared.token.TokenKind.TheVariants.{Name}
use Rattle.jif_lex.specs.declared.token.Symbol.TheVariants.{LeftBrace, RightBrace, Colon, Comma, Semicolon, Question}
use Rattle.jif_lex.specs.Spelled.{Spelled, token_part, space_part, spelled_text, spelled_kinds, AreApart}
use Rattle.jif_lex.specs.Spelled.{ends_before}
use Rattle.jif_lex.proofs.Spelling.{text_append, kinds_append}
use Rattle.principals.specs.ActsFor.{Declared}
use Rattle.label_lattice.specs.declared.label.Label.{Label}
use Rattle.label_lattice.specs.Written.{Part, policy, trust, symbol, part_tokens, parts_tokens, names_tokens}
use Rattle.label_lattice.specs.Printed.{each_where, joined, printed_part, printed_parts, printed_policies, trust_parts}
use Rattle.label_lattice.specs.Printed.{names_where, is_trusted_by, printed_policy, printed_label, forbids_some, allows}

-- ---- the parts of the text

abbrev name_mark : List ℕ → Spelled
name_mark name = token_part (Name name)

abbrev next_name : List ℕ → List Spelled
next_name name = token_part (symbol Comma) ∷ space_part ∷ name_mark name ∷ []

abbrev names_marks : List (List ℕ) → List Spelled
names_marks [] = []
names_marks (name ∷ names) = name_mark name ∷ flat_map next_name names

abbrev part_marks : Part → List Spelled
part_marks (policy owner readers) =
    name_mark owner ∷ token_part (symbol Colon) ∷ space_part ∷ names_marks readers
part_marks (trust members) =
    token_part (symbol Question) ∷ token_part (symbol Colon) ∷ space_part ∷ names_marks members

abbrev next_part : Part → List Spelled
next_part part = token_part (symbol Semicolon) ∷ space_part ∷ part_marks part

abbrev parts_marks : List Part → List Spelled
parts_marks [] = []
parts_marks (part ∷ parts) = part_marks part ++ flat_map next_part parts

abbrev pub label_marks : List Part → List Spelled
label_marks parts = token_part (symbol LeftBrace) ∷ (parts_marks parts ++ token_part (symbol RightBrace) ∷ [])

-- ---- they are the text

next_names_text : (names : List (List ℕ)) →
    spelled_text (flat_map next_name names) ≡ flat_map (λ name. codes ", " ++ name) names
next_names_text [] = refl
next_names_text (name ∷ names) = ap (λ (t : List ℕ). codes ", " ++ (name ++ t)) (next_names_text names)

names_text : (names : List (List ℕ)) → spelled_text (names_marks names) ≡ joined (codes ", ") names
names_text [] = refl
names_text (name ∷ names) = ap (λ (t : List ℕ). name ++ t) (next_names_text names)

part_is : (part : Part) → spelled_text (part_marks part) ≡ printed_part part
part_is (policy owner readers) =
    ap (λ (t : List ℕ). owner ++ (codes ": " ++ t)) (names_text readers)
    ∙ sym (append_assoc owner (codes ": ") (joined (codes ", ") readers))
part_is (trust members) = ap (λ (t : List ℕ). codes "?" ++ (codes ": " ++ t)) (names_text members)

next_parts_text : (parts : List Part) →
    spelled_text (flat_map next_part parts) ≡ flat_map (λ part. codes "; " ++ printed_part part) parts
next_parts_text [] = refl
next_parts_text (part ∷ parts) =
    ap (λ (t : List ℕ). codes "; " ++ t) (text_append (part_marks part) (flat_map next_part parts)
    ∙ ap (λ (t : List ℕ). t ++ spelled_text (flat_map next_part parts)) (part_is part)
    ∙ ap (λ (t : List ℕ). printed_part part ++ t) (next_parts_text parts))

parts_text : (parts : List Part) → spelled_text (parts_marks parts) ≡ join_by printed_part (codes "; ") parts
parts_text [] = refl
parts_text (part ∷ parts) =
    text_append (part_marks part) (flat_map next_part parts)
    ∙ ap (λ (t : List ℕ). t ++ spelled_text (flat_map next_part parts)) (part_is part)
    ∙ ap (λ (t : List ℕ). printed_part part ++ t) (next_parts_text parts)

pub label_is : (principals : Declared) (label : Label) →
    spelled_text (label_marks (printed_parts principals label)) ≡ printed_label principals label
label_is principals label =
    let parts : List Part = printed_parts principals label in
    ap (λ (t : List ℕ). codes "{" ++ t) (text_append (parts_marks parts) (token_part (symbol RightBrace) ∷ [])
    ∙ ap (λ (t : List ℕ). t ++ codes "}") (parts_text parts))

-- ---- they have the tokens of the parts

names_kinds : (names : List (List ℕ)) → spelled_kinds (names_marks names) ≡ names_tokens names
names_kinds [] = refl
names_kinds (name ∷ []) = refl
names_kinds (name ∷ next ∷ names) =
    ap (λ (ks : List TokenKind). Name name ∷ symbol Comma ∷ ks) (names_kinds (next ∷ names))

part_kinds : (part : Part) → spelled_kinds (part_marks part) ≡ part_tokens part
part_kinds (policy owner readers) =
    ap (λ (ks : List TokenKind). Name owner ∷ symbol Colon ∷ ks) (names_kinds readers)
part_kinds (trust members) = ap (λ (ks : List TokenKind). symbol Question ∷ symbol Colon ∷ ks) (names_kinds members)

parts_kinds : (parts : List Part) → spelled_kinds (parts_marks parts) ≡ parts_tokens parts
parts_kinds [] = refl
parts_kinds (part ∷ []) = ap spelled_kinds (append-nil (part_marks part)) ∙ part_kinds part
parts_kinds (part ∷ next ∷ parts) =
    kinds_append (part_marks part) (flat_map next_part (next ∷ parts))
    ∙ ap (λ (ks : List TokenKind). ks ++ spelled_kinds (flat_map next_part (next ∷ parts))) (part_kinds part)
    ∙ ap (λ (ks : List TokenKind). part_tokens part ++ symbol Semicolon ∷ ks) (parts_kinds (next ∷ parts))

pub label_kinds : (parts : List Part) →
    spelled_kinds (label_marks parts) ≡ symbol LeftBrace ∷ parts_tokens parts ++ symbol RightBrace ∷ []
label_kinds parts =
    ap (λ (ks : List TokenKind). symbol LeftBrace ∷ ks)
    (kinds_append (parts_marks parts) (token_part (symbol RightBrace) ∷ [])
    ∙ ap (λ (ks : List TokenKind). ks ++ symbol RightBrace ∷ []) (parts_kinds parts))

-- ---- they are apart

abbrev AreNames : List (List ℕ) → Type 0
AreNames names = AllByRecursion IsName names

-- the names of a part are names
abbrev pub HasNames : Part → Type 0
HasNames (policy owner readers) = IsName owner × AreNames readers
HasNames (trust members) = AreNames members

-- the parts are apart, and a name may stand before them
abbrev EndsNames : List Spelled → Type 0
EndsNames rest = AreApart rest × ((name : List ℕ) → IsTrue (ends_before (spelled_text rest) (Name name)))

next_names_apart : (names : List (List ℕ)) (rest : List Spelled) → AreNames names → EndsNames rest →
    EndsNames (flat_map next_name names ++ rest)
next_names_apart [] rest are ends = ends
next_names_apart (name ∷ names) rest are ends =
    let tail = next_names_apart names rest are.1 ends in
    ((tt, refl, (are.0, tail.1 name, tail.0)), λ other. refl)

names_apart : (names : List (List ℕ)) (rest : List Spelled) → AreNames names → EndsNames rest →
    AreApart (names_marks names ++ rest)
names_apart [] rest are ends = ends.0
names_apart (name ∷ names) rest are ends =
    let tail = next_names_apart names rest are.1 ends in
    (are.0, tail.1 name, tail.0)

part_apart : (part : Part) (rest : List Spelled) → HasNames part → EndsNames rest → AreApart (part_marks part ++ rest)
part_apart (policy owner readers) rest has ends =
    (has.0, refl, (tt, refl, names_apart readers rest has.1 ends))
part_apart (trust members) rest has ends = (tt, refl, (tt, refl, names_apart members rest has ends))

next_parts_apart : (parts : List Part) (rest : List Spelled) → AllByRecursion HasNames parts → EndsNames rest →
    EndsNames (flat_map next_part parts ++ rest)
next_parts_apart [] rest have ends = ends
next_parts_apart (part ∷ parts) rest have ends =
    let tail = next_parts_apart parts rest have.1 ends in
    let here = part_apart part (flat_map next_part parts ++ rest) have.0 tail in
    let P : List Spelled → Type 0 = λ marks. AreApart marks in
    ((tt, refl, subst P (sym (append_assoc (part_marks part) (flat_map next_part parts) rest)) here), λ other. refl)

parts_apart : (parts : List Part) (rest : List Spelled) → AllByRecursion HasNames parts → EndsNames rest →
    AreApart (parts_marks parts ++ rest)
parts_apart [] rest have ends = ends.0
parts_apart (part ∷ parts) rest have ends =
    let here = part_apart part (flat_map next_part parts ++ rest) have.0
    (next_parts_apart parts rest have.1 ends) in
    let P : List Spelled → Type 0 = λ marks. AreApart marks in
    subst P (sym (append_assoc (part_marks part) (flat_map next_part parts) rest)) here

brace_ends : (text : List ℕ) → IsTrue (ends_before text (symbol LeftBrace))
brace_ends [] = refl
brace_ends (byte ∷ bytes) = refl

pub label_apart : (parts : List Part) → AllByRecursion HasNames parts → AreApart (label_marks parts)
label_apart parts have =
    (tt, brace_ends _, parts_apart parts (token_part (symbol RightBrace) ∷ []) have ((tt, refl, tt), λ other. refl))

-- ---- the names that are printed

each_keeps : {X : Type 0} (P : X → Type 0) (test : ℕ → Bool) (make : ℕ → List ℕ → X) (first : ℕ)
    (names : List (List ℕ)) → ((principal : ℕ) (name : List ℕ) → IsName name → P (make principal name)) →
    AreNames names → AllByRecursion P (each_where test make first names)
each_keeps P test make first [] holds are = tt
each_keeps P test make first (name ∷ names) holds are =
    by (test first) (holds first name are.0) (each_keeps P test make (first + 1) names holds are.1)
  where
    by : (b : Bool) → P (make first name) → AllByRecursion P (each_where test make (first + 1) names) →
        AllByRecursion P ((if b then make first name ∷ [] else []) ++ each_where test make (first + 1) names)
    by true here others = (here, others)
    by false here others = others

names_keep : (test : ℕ → Bool) (principals : Declared) → AreNames principals.names →
    AreNames (names_where test principals)
names_keep test principals are =
    each_keeps IsName test (λ principal name. name) 0 principals.names (λ principal name is. is) are

both_have : (front after : List Part) → AllByRecursion HasNames front → AllByRecursion HasNames after →
    AllByRecursion HasNames (front ++ after)
both_have [] after one two = two
both_have (part ∷ front) after one two = (one.0, both_have front after one.1 two)

trust_has : (members : List (List ℕ)) → AreNames members → AllByRecursion HasNames (trust_parts members)
trust_has [] are = tt
trust_has (member ∷ members) are = (are, tt)

by_recursion : (names : List (List ℕ)) → All IsName names → AreNames names
by_recursion [] are = tt
by_recursion (name ∷ names) are =
    (are 0 [] (omega arith), by_recursion names (λ k d within. are (suc k) d (omega (arith, within))))

pub parts_have : (principals : Declared) (label : Label) → All IsName principals.names →
    AllByRecursion HasNames (printed_parts principals label)
parts_have principals label all =
    let are = by_recursion principals.names all in
    both_have (printed_policies principals label) (trust_parts (names_where (is_trusted_by label) principals))
    (each_keeps HasNames (forbids_some label) (printed_policy principals label) 0 principals.names
    (λ owner name is. (is, names_keep (allows label owner) principals are)) are)
    (trust_has (names_where (is_trusted_by label) principals) (names_keep (is_trusted_by label) principals are))
