-- Tokens are one label at most.
use Rattle.std.proofs.Common.{ℕ, ◌≡◌, ◌≢◌, ◌<◌, ◌∙◌, sym, ap, refl, subst, inl, inr, List, [], ◌∷◌, ◌++◌, length, map}
use Rattle.std.proofs.Common.{get_or, slice_get, Some, arith}
use Rattle.std.specs.Prelude.{Contains}
use Rattle.std.specs.List.{AllZip, IsDistinct}
use Rattle.std.specs.Str.{bytes_eq}
use Rattle.std.proofs.lemmas.Bool.{cases_lt, false≢true}
use Rattle.std.proofs.lemmas.List.{append_cancel_right}
use Rattle.std.proofs.lemmas.Map.Keys.{apart_from_distinct}
use Rattle.std.proofs.lemmas.Option.{slice_get_within, get_or_from_slice_get}
use Rattle.std.proofs.lemmas.Slice.Eq.{bytes_eq-Decides}
use Rattle.js_base.specs.declared.ids.PrincipalId.{PrincipalId}
use Rattle.js_base.proofs.Cuts.{no_cut, same_cut}
use Rattle.jif_lex.specs.declared.token.Token.{Token}
use Rattle.jif_lex.specs.declared.token.TokenKind.{TokenKind}
use Rattle.jif_lex.specs.declared.token.TokenKind.TheVariants.{Name}
use Rattle.jif_lex.specs.declared.token.Symbol.TheVariants.{LeftBrace, RightBrace, Comma, Semicolon}
use Rattle.principals.specs.ActsFor.{Declared, IsDeclared}
use Rattle.label_lattice.specs.declared.label.Label.{Label}
use Rattle.label_lattice.specs.Label.{IsLabel, Flows}
use Rattle.label_lattice.specs.Written.{symbol, with_separator, name_tokens, names_tokens, Part, policy, trust}
use Rattle.label_lattice.specs.Written.{part_tokens, parts_tokens, KnownPart, policy_of, trust_of, IsKnown, AreKnown}
use Rattle.label_lattice.specs.Written.{IsKnownPart, IsMadeOf, IsPartsOf, IsLabelOf}
use Rattle.label_lattice.proofs.Joins.{joined_some}
use Rattle.label_lattice.proofs.LatticeLemmas.{one_label}
use Rattle.label_lattice.proofs.NamesLoop.{no_comma, a_name}
use Rattle.label_lattice.proofs.PartLemmas.{no_semicolon, a_part}

-- ---- joined items

same_items : {X : Type 0} (separator : TokenKind) (f : X → List TokenKind) (xs ys : List X) →
    ((x : X) → ¬ Contains (f x) separator) → ((x : X) → f x ≢ []) →
    with_separator separator (map f xs) ≡ with_separator separator (map f ys) → map f xs ≡ map f ys
same_items separator f [] [] lacks some is = refl
same_items separator f [] (y ∷ ys) lacks some is = absurd (joined_some separator f y ys some (sym is))
same_items separator f (x ∷ xs) [] lacks some is = absurd (joined_some separator f x xs some is)
same_items separator f (x ∷ []) (y ∷ []) lacks some is = ap (λ t. t ∷ []) is
same_items separator f (x ∷ []) (y ∷ z ∷ ys) lacks some is =
    absurd (no_cut separator (f x) (f y) (with_separator separator (map f (z ∷ ys))) (lacks x) is)
same_items separator f (x ∷ w ∷ xs) (y ∷ []) lacks some is =
    absurd (no_cut separator (f y) (f x) (with_separator separator (map f (w ∷ xs))) (lacks y) (sym is))
same_items separator f (x ∷ w ∷ xs) (y ∷ z ∷ ys) lacks some is =
    let both = same_cut separator (f x) (f y) (with_separator separator (map f (w ∷ xs)))
    (with_separator separator (map f (z ∷ ys))) (lacks x) (lacks y) is in
    ap (λ t. t ∷ map f (w ∷ xs)) both.0
    ∙ ap (λ ts. f y ∷ ts) (same_items separator f (w ∷ xs) (z ∷ ys) lacks some both.1)

same_mapped : {X Y : Type 0} (f : X → Y) → ((x y : X) → f x ≡ f y → x ≡ y) → (xs ys : List X) → map f xs ≡ map f ys →
    xs ≡ ys
same_mapped f one [] [] is = refl
same_mapped f one [] (y ∷ ys) is = absurd cc
same_mapped f one (x ∷ xs) [] is = absurd cc
same_mapped f one (x ∷ xs) (y ∷ ys) is =
    let heads : f x ≡ f y = cc in
    let tails : map f xs ≡ map f ys = cc in
    ap (λ z. z ∷ xs) (one x y heads) ∙ ap (λ zs. y ∷ zs) (same_mapped f one xs ys tails)

one_name : (m n : List ℕ) → name_tokens m ≡ name_tokens n → m ≡ n
one_name m n is =
    let names : Name m ≡ Name n = cc in
    cc

same_names : (ms ns : List (List ℕ)) → names_tokens ms ≡ names_tokens ns → ms ≡ ns
same_names ms ns is = same_mapped name_tokens one_name ms ns
    (same_items (symbol Comma) name_tokens ms ns no_comma a_name is)

one_part : (p q : Part) → part_tokens p ≡ part_tokens q → p ≡ q
one_part (policy owner readers) (policy other others) is =
    let owners : Name owner ≡ Name other = cc in
    let same : owner ≡ other = cc in
    let rest : names_tokens readers ≡ names_tokens others = cc in
    ap (λ o. policy o readers) same ∙ ap (λ rs. policy other rs) (same_names readers others rest)
one_part (policy owner readers) (trust members) is = absurd cc
one_part (trust members) (policy owner readers) is = absurd cc
one_part (trust members) (trust others) is =
    let rest : names_tokens members ≡ names_tokens others = cc in
    ap (λ ms. trust ms) (same_names members others rest)

same_parts : (ps qs : List Part) → parts_tokens ps ≡ parts_tokens qs → ps ≡ qs
same_parts ps qs is = same_mapped part_tokens one_part ps qs
    (same_items (symbol Semicolon) part_tokens ps qs no_semicolon a_part is)

-- ---- names of declared principals

not_twice : (names : List (List ℕ)) (name : List ℕ) (i j : ℕ) → IsDistinct bytes_eq names → i < j →
    slice_get names i ≡ Some name → slice_get names j ≡ Some name → ⊥
not_twice names name i j distinct before first second =
    let within : j < length names = slice_get_within names j name second in
    let same : get_or names i name ≡ get_or names j name = get_or_from_slice_get names i name name first
    ∙ sym (get_or_from_slice_get names j name name second) in
    false≢true (sym (apart_from_distinct bytes_eq names i j name distinct before within)
    ∙ (bytes_eq-Decides _ _).1 same)

one_principal : (principals : Declared) (name : List ℕ) (p q : PrincipalId) → IsDeclared principals →
    IsKnown principals name p → IsKnown principals name q → p ≡ q
one_principal principals name p q is first second =
    let id : ℕ → PrincipalId = λ n. record { 0 = n } in
    elim (cases_lt p.0 q.0) [
      | inl less ↦ absurd (not_twice principals.names name p.0 q.0 is.names.distinct less first second)
      | inr more ↦ elim (cases_lt q.0 p.0) [
        | inl less ↦ absurd (not_twice principals.names name q.0 p.0 is.names.distinct less second first)
        | inr also ↦ let same : p.0 ≡ q.0 = omega arith in ap id same
      ]
    ]

-- what each name of a list stands for is determined, where it is for each name
same_zipped : {X Y : Type 0} (R : X → Y → Type 0) → ((x : X) (y z : Y) → R x y → R x z → y ≡ z) →
    (xs : List X) (ys zs : List Y) → AllZip R xs ys → AllZip R xs zs → ys ≡ zs
same_zipped R one [] [] [] first second = refl
same_zipped R one [] [] (z ∷ zs) first second = absurd second
same_zipped R one [] (y ∷ ys) zs first second = absurd first
same_zipped R one (x ∷ xs) [] zs first second = absurd first
same_zipped R one (x ∷ xs) (y ∷ ys) [] first second = absurd second
same_zipped R one (x ∷ xs) (y ∷ ys) (z ∷ zs) first second =
    ap (λ w. w ∷ ys) (one x y z first.0 second.0) ∙ ap (λ ws. z ∷ ws) (same_zipped R one xs ys zs first.1 second.1)

same_known : (principals : Declared) → IsDeclared principals → (names : List (List ℕ)) (ps qs : List PrincipalId) →
    AreKnown principals names ps → AreKnown principals names qs → ps ≡ qs
same_known principals is names ps qs first second =
    same_zipped (IsKnown principals) (λ name p q. one_principal principals name p q is) names ps qs first second

one_known_part : (principals : Declared) → IsDeclared principals → (part : Part) (first second : KnownPart) →
    IsKnownPart principals part first → IsKnownPart principals part second → first ≡ second
one_known_part principals is (policy owner readers) (policy_of p ps) (policy_of q qs) first second =
    ap (λ o. policy_of o ps) (one_principal principals owner p q is first.0 second.0)
    ∙ ap (λ rs. policy_of q rs) (same_known principals is readers ps qs first.1 second.1)
one_known_part principals is (policy owner readers) (policy_of p ps) (trust_of qs) first second = absurd second
one_known_part principals is (policy owner readers) (trust_of ps) second_part first second = absurd first
one_known_part principals is (trust members) (policy_of p ps) second_part first second = absurd first
one_known_part principals is (trust members) (trust_of ps) (policy_of q qs) first second = absurd second
one_known_part principals is (trust members) (trust_of ps) (trust_of qs) first second =
    ap (λ ms. trust_of ms) (same_known principals is members ps qs first second)

-- ---- labels

made_flows : (principals : Declared) (known : List KnownPart) (first second : Label) →
    IsMadeOf principals known first → IsMadeOf principals known second → Flows first second
made_flows principals known first second one two = (
  λ owner reader owner_in reader_in forbids. (two.forbids owner reader owner_in reader_in).1
      ((one.forbids owner reader owner_in reader_in).0 forbids),
  λ p within trusts. (one.trusts p within).1 ((two.trusts p within).0 trusts),
)

same_made : (principals : Declared) (first_known second_known : List KnownPart) (first second : Label) →
    IsLabel first → IsLabel second → first_known ≡ second_known → IsMadeOf principals first_known first →
    IsMadeOf principals second_known second → first ≡ second
same_made principals first_known second_known first second first_is second_is same one two =
    let P : List KnownPart → Type 0 = λ known. IsMadeOf principals known first in
    let also : IsMadeOf principals second_known first = subst P same one in
    one_label first second first_is second_is (made_flows principals second_known first second also two)
    (made_flows principals second_known second first two also)

of_parts : (principals : Declared) (inside : List TokenKind) (first second : Label) → IsDeclared principals →
    IsLabel first → IsLabel second → IsPartsOf principals inside first → IsPartsOf principals inside second →
    first ≡ second
of_parts principals inside first second is first_is second_is one two =
    let parts : one.parts ≡ two.parts = same_parts one.parts two.parts (sym one.written ∙ two.written) in
    let P : List Part → Type 0 = λ ps. AllZip (IsKnownPart principals) ps one.known in
    let known : one.known ≡ two.known =
    same_zipped (IsKnownPart principals) (one_known_part principals is) two.parts one.known two.known
    (subst P parts one.are_known) two.are_known in
    same_made principals one.known two.known first second first_is second_is known one.means two.means

pub written_once : (principals : Declared) (tokens : List Token) (first second : Label) → IsDeclared principals →
    IsLabel first → IsLabel second → IsLabelOf principals tokens first → IsLabelOf principals tokens second →
    first ≡ second
written_once principals tokens first second is first_is second_is one two =
    let both : symbol LeftBrace ∷ one.inside ++ symbol RightBrace ∷ [] ≡ symbol LeftBrace ∷ two.inside ++ symbol
    RightBrace ∷ [] = sym one.braces ∙ two.braces in
    let bodies : one.inside ++ symbol RightBrace ∷ [] ≡ two.inside ++ symbol RightBrace ∷ [] = cc in
    let same : one.inside ≡ two.inside = append_cancel_right one.inside two.inside (symbol RightBrace ∷ []) bodies in
    let P : List TokenKind → Type 0 = λ ts. IsPartsOf principals ts first in
    of_parts principals two.inside first second is first_is second_is (subst P same one.parts) two.parts
