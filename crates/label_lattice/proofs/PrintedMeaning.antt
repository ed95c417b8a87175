-- The parts of a printed label mean this label.
use Rattle.std.proofs.Common.{◌≡◌, ℕ, zero, suc, ◌+◌, ◌<◌, ◌≤◌, ◌↔◌, ◌⊎◌, inl, inr, Bool, true, false, List, [], ◌∷◌}
use Rattle.std.proofs.Common.{◌++◌, refl, ap, sym, ◌∙◌, subst, length, get_or, arith}
use Rattle.std.specs.Prelude.{Some, slice_get, All, Any, if◌then◌else◌, ◌==◌}
use Rattle.std.specs.Int.{bit_at}
use Rattle.std.specs.List.{AllZip}
use Rattle.std.proofs.lemmas.Bool.{cases_lt}
use Rattle.std.proofs.lemmas.Nat.Bits.{bit_at-lt}
use Rattle.std.proofs.lemmas.Bool.Decides.{nat_tests}
use Rattle.std.proofs.lemmas.List.{get_or_default}
use Rattle.js_base.specs.declared.ids.PrincipalId.{PrincipalId}
use Rattle.jif_lex.specs.declared.token.Token.{Token}
use Rattle.jif_lex.specs.Tokens.{ReadsAs, Reading, tokens, bad_byte, bad_number}
use Rattle.jif_lex.specs.Spelled.{Spelled, spelled_text, spelled_kinds, AreApart, HasKinds}
use Rattle.principals.specs.ActsFor.{Declared, IsDeclared, ActsFor, IsReader}
use Rattle.label_lattice.specs.declared.label.Label.{Label}
use Rattle.label_lattice.specs.Label.{Forbids, Trusts, KeepsOut}
use Rattle.label_lattice.specs.Over.{IsLabelOver, IsForbiddenBy}
use Rattle.label_lattice.specs.Written.{Part, policy, KnownPart, policy_of, trust_of, IsKnown, AreKnown, IsKnownPart}
use Rattle.label_lattice.specs.Written.{PartForbids, PartTrusts, IsPartsOf, IsLabelOf, TrustIsLast, parts_tokens}
use Rattle.label_lattice.specs.Printed.{each_where, printed_parts, printed_policies, trust_parts, names_where, allows}
use Rattle.label_lattice.specs.Printed.{is_trusted_by, printed_policy, forbids_some, ReadsBack, printed_label}
use Rattle.label_lattice.proofs.PrintedLemmas.{lacks_at, lacks_found}
use Rattle.label_lattice.proofs.PrintedTokens.{label_marks, label_is, label_kinds, label_apart, parts_have}

-- ---- the principals that pass a test

-- the principal has this name, where the first of the names is that of this principal
abbrev IsAt : ℕ → List (List ℕ) → ℕ → List ℕ → Type 0
IsAt first [] principal name = ⊥
IsAt first (next ∷ names) principal name =
    ((principal ≡ first) × (name ≡ next)) ⊎ IsAt (first + 1) names principal name

at_low : (first : ℕ) (names : List (List ℕ)) (principal : ℕ) (name : List ℕ) → IsAt first names principal name →
    first ≤ principal
at_low first [] principal name at = absurd at
at_low first (next ∷ names) principal name at = elim at [
  | inl here ↦ omega (arith, here.0)
  | inr there ↦ omega (arith, at_low (first + 1) names principal name there)
]

at_get : (first : ℕ) (names : List (List ℕ)) (principal : ℕ) (name : List ℕ) (place : ℕ) → principal ≡ first + place →
    IsAt first names principal name → slice_get names place ≡ Some name
at_get first [] principal name place is at = absurd at
at_get first (next ∷ names) principal name zero is at = elim at [
  | inl here ↦ ap Some (sym here.1)
  | inr there ↦ absurd (omega (arith, is, at_low (first + 1) names principal name there))
]
at_get first (next ∷ names) principal name (suc place) is at = elim at [
  | inl here ↦ absurd (omega (arith, is, here.0))
  | inr there ↦ at_get (first + 1) names principal name place (omega (arith, is)) there
]

at_below : (first : ℕ) (names : List (List ℕ)) (principal : ℕ) (name : List ℕ) → IsAt first names principal name →
    principal < first + length names
at_below first [] principal name at = absurd at
at_below first (next ∷ names) principal name at = elim at [
  | inl here ↦ omega (arith, here.0)
  | inr there ↦ omega (arith, at_below (first + 1) names principal name there)
]

at_some : (first : ℕ) (names : List (List ℕ)) (place : ℕ) → place < length names →
    (name : List ℕ) × IsAt first names (first + place) name
at_some first [] place within = absurd (omega (arith, within))
at_some first (next ∷ names) zero within = (next, inl (omega arith, refl))
at_some first (next ∷ names) (suc place) within =
    let some = at_some (first + 1) names place (omega (arith, within)) in
    let P : ℕ → Type 0 = λ n. IsAt (first + 1) names n some.0 in
    let same : first + 1 + place ≡ first + suc place = omega arith in
    (some.0, inr (subst P same some.1))

named : (names : List (List ℕ)) (principal : ℕ) → principal < length names →
    (name : List ℕ) × IsAt 0 names principal name
named names principal within =
    let some = at_some 0 names principal within in
    let P : ℕ → Type 0 = λ n. IsAt 0 names n some.0 in
    let same : 0 + principal ≡ principal = omega arith in
    (some.0, subst P same some.1)

-- ---- some of a list

any_here : {X : Type 0} (P : X → Type 0) (x : X) (xs : List X) → P x → Any P (x ∷ xs)
any_here P x xs holds = (0, x, omega arith, refl, holds)

any_there : {X : Type 0} (P : X → Type 0) (x : X) (xs : List X) → Any P xs → Any P (x ∷ xs)
any_there P x xs (k, y, within, read, holds) = (suc k, y, omega (arith, within), read, holds)

any_split : {X : Type 0} (P : X → Type 0) (x : X) (xs : List X) → Any P (x ∷ xs) → P x ⊎ Any P xs
any_split P x xs (zero, y, within, read, holds) = inl (subst P (sym read) holds)
any_split P x xs (suc k, y, within, read, holds) = inr (k, y, omega (arith, within), read, holds)

any_none : {X : Type 0} (P : X → Type 0) → ¬ Any P []
any_none P (k, y, within, read, holds) = omega (arith, within)

any_left : {X : Type 0} (P : X → Type 0) (xs ys : List X) → Any P xs → Any P (xs ++ ys)
any_left P [] ys any = absurd (any_none P any)
any_left P (x ∷ xs) ys any = elim (any_split P x xs any) [
  | inl here ↦ any_here P x (xs ++ ys) here
  | inr there ↦ any_there P x (xs ++ ys) (any_left P xs ys there)
]

any_right : {X : Type 0} (P : X → Type 0) (xs ys : List X) → Any P ys → Any P (xs ++ ys)
any_right P [] ys any = any
any_right P (x ∷ xs) ys any = any_there P x (xs ++ ys) (any_right P xs ys any)

any_of_both : {X : Type 0} (P : X → Type 0) (xs ys : List X) → Any P (xs ++ ys) → Any P xs ⊎ Any P ys
any_of_both P [] ys any = inr any
any_of_both P (x ∷ xs) ys any = elim (any_split P x (xs ++ ys) any) [
  | inl here ↦ inl (any_here P x xs here)
  | inr there ↦ elim (any_of_both P xs ys there) [
    | inl left ↦ inl (any_there P x xs left)
    | inr right ↦ inr right
  ]
]

any_all : {X : Type 0} (P : X → Type 0) (xs : List X) → All (λ x. ¬ P x) xs → ¬ Any P xs
any_all P xs none (k, y, within, read, holds) = none k y within (subst P (sym read) holds)

all_from : {X : Type 0} (P : X → Type 0) (xs : List X) → ¬ Any P xs → All (λ x. ¬ P x) xs
all_from P xs none k d within holds = none (
  k,
  get_or xs k d,
  within,
  get_or_default xs k
      (get_or xs k d) d within,
  holds,
)

-- ---- what is made of each principal that passes

any_added : {X : Type 0} (P : X → Type 0) (b : Bool) (x : X) (rest : List X) → b ≡ true → P x →
    Any P ((if b then x ∷ [] else []) ++ rest)
any_added P true x rest passes holds = any_here P x rest holds
any_added P false x rest passes holds = cc

each_any : {X : Type 0} (P : X → Type 0) (test : ℕ → Bool) (make : ℕ → List ℕ → X) (first : ℕ)
    (names : List (List ℕ)) (principal : ℕ) (name : List ℕ) → IsAt first names principal name →
    test principal ≡ true → P (make principal name) → Any P (each_where test make first names)
each_any P test make first [] principal name at passes holds = absurd at
each_any P test make first (next ∷ names) principal name at passes holds = elim at [
  | inl here ↦
      let Q : ℕ → Type 0 = λ n. P (make n name) in
      let S : List ℕ → Type 0 = λ text. P (make first text) in
      any_added P (test first) (make first next) (each_where test make (first + 1) names)
      (ap test (sym here.0) ∙ passes) (subst S here.1 (subst Q here.0 holds))
  | inr there ↦ any_right P (if test first then make first next ∷ [] else [])
      (each_where test make (first + 1) names)
      (each_any P test make (first + 1) names principal name there passes holds)
]

-- one of the principals that pass, of whose item this holds
abbrev Passing : {X : Type 0} → (X → Type 0) → (ℕ → Bool) → (ℕ → List ℕ → X) → ℕ → List (List ℕ) → Type 0
Passing P test make first names =
    (principal : ℕ) × (name : List ℕ) × IsAt first names principal name × (test principal ≡ true)
    × P (make principal name)

each_found : {X : Type 0} (P : X → Type 0) (test : ℕ → Bool) (make : ℕ → List ℕ → X) (first : ℕ)
    (names : List (List ℕ)) → Any P (each_where test make first names) → Passing P test make first names
each_found P test make first [] any = absurd (any_none P any)
each_found P test make first (next ∷ names) any =
    by (λ found. let there = each_found P test make (first + 1) names found in
    (there.0, there.1, inr there.2, there.3, there.4)) (test first) refl any
  where
    by : (Any P (each_where test make (first + 1) names) → Passing P test make first (next ∷ names)) → (b : Bool) →
        test first ≡ b → Any P ((if b then make first next ∷ [] else []) ++ each_where test make (first + 1) names) →
        Passing P test make first (next ∷ names)
    by later true passes found = elim (any_split P (make first next) (each_where test make (first + 1) names) found) [
      | inl here ↦ (first, next, inl (refl, refl), passes, here)
      | inr there ↦ later there
    ]
    by later false fails found = later found

each_zip : {X Y : Type 0} (R : X → Y → Type 0) (test : ℕ → Bool) (make : ℕ → List ℕ → X) (other : ℕ → List ℕ → Y)
    (first : ℕ) (names : List (List ℕ)) →
    ((principal : ℕ) (name : List ℕ) → IsAt first names principal name →
    R (make principal name) (other principal name)) →
    AllZip R (each_where test make first names) (each_where test other first names)
each_zip R test make other first [] alike = tt
each_zip R test make other first (next ∷ names) alike =
    by (test first) (each_zip R test make other (first + 1) names (λ principal name at. alike principal name (inr at)))
  where
    by : (b : Bool) → AllZip R (each_where test make (first + 1) names) (each_where test other (first + 1) names) →
        AllZip R ((if b then make first next ∷ [] else []) ++ each_where test make (first + 1) names)
        ((if b then other first next ∷ [] else []) ++ each_where test other (first + 1) names)
    by true others = (alike first next (inl (refl, refl)), others)
    by false others = others

zip_both : {X Y : Type 0} (R : X → Y → Type 0) (xs xs' : List X) (ys ys' : List Y) → AllZip R xs ys →
    AllZip R xs' ys' → AllZip R (xs ++ xs') (ys ++ ys')
zip_both R [] xs' [] ys' one two = two
zip_both R [] xs' (y ∷ ys) ys' one two = absurd one
zip_both R (x ∷ xs) xs' [] ys' one two = absurd one
zip_both R (x ∷ xs) xs' (y ∷ ys) ys' one two = (one.0, zip_both R xs xs' ys ys' one.1 two)

-- ---- the parts with the principals in place of their names

abbrev id_of : ℕ → List ℕ → PrincipalId
id_of principal name = record { 0 = principal }

abbrev ids_where : (ℕ → Bool) → Declared → List PrincipalId
ids_where test principals = each_where test id_of 0 principals.names

abbrev known_policy : Declared → Label → ℕ → List ℕ → KnownPart
known_policy principals label owner name = policy_of (id_of owner name) (ids_where (allows label owner) principals)

abbrev known_policies : Declared → Label → List KnownPart
known_policies principals label = each_where (forbids_some label) (known_policy principals label) 0 principals.names

abbrev known_trust : List PrincipalId → List KnownPart
known_trust [] = []
known_trust (member ∷ members) = trust_of (member ∷ members) ∷ []

abbrev known_parts : Declared → Label → List KnownPart
known_parts principals label =
    known_policies principals label ++ known_trust (ids_where (is_trusted_by label) principals)

place_of : (principals : Declared) (principal : ℕ) (name : List ℕ) → IsAt 0 principals.names principal name →
    slice_get principals.names principal ≡ Some name
place_of principals principal name at = at_get 0 principals.names principal name principal (omega arith) at

names_known : (test : ℕ → Bool) (principals : Declared) →
    AreKnown principals (names_where test principals) (ids_where test principals)
names_known test principals =
    each_zip (IsKnown principals) test (λ principal name. name) id_of 0 principals.names
    (λ principal name at. place_of principals principal name at)

policies_known : (principals : Declared) (label : Label) →
    AllZip (IsKnownPart principals) (printed_policies principals label) (known_policies principals label)
policies_known principals label =
    each_zip (IsKnownPart principals) (forbids_some label) (printed_policy principals label)
    (known_policy principals label) 0 principals.names
    (λ owner name at. (place_of principals owner name at, names_known (allows label owner) principals))

trust_known : (principals : Declared) (names : List (List ℕ)) (ids : List PrincipalId) → AreKnown principals names ids →
    AllZip (IsKnownPart principals) (trust_parts names) (known_trust ids)
trust_known principals [] [] known = tt
trust_known principals [] (id ∷ ids) known = absurd known
trust_known principals (name ∷ names) [] known = absurd known
trust_known principals (name ∷ names) (id ∷ ids) known = (known, tt)

parts_known : (principals : Declared) (label : Label) →
    AllZip (IsKnownPart principals) (printed_parts principals label) (known_parts principals label)
parts_known principals label =
    zip_both (IsKnownPart principals) (printed_policies principals label)
    (trust_parts (names_where (is_trusted_by label) principals)) (known_policies principals label)
    (known_trust (ids_where (is_trusted_by label) principals)) (policies_known principals label)
    (trust_known principals (names_where (is_trusted_by label) principals)
    (ids_where (is_trusted_by label) principals) (names_known (is_trusted_by label) principals))

trust_alone : (names : List (List ℕ)) → TrustIsLast (trust_parts names)
trust_alone [] = tt
trust_alone (name ∷ names) = refl

last_after : (test : ℕ → Bool) (readers : ℕ → List (List ℕ)) (first : ℕ) (names : List (List ℕ)) (after : List Part) →
    TrustIsLast after →
    TrustIsLast (each_where test (λ owner name. policy name (readers owner)) first names ++ after)
last_after test readers first [] after is = is
last_after test readers first (next ∷ names) after is =
    by (test first) (last_after test readers (first + 1) names after is)
  where
    make : ℕ → List ℕ → Part
    make owner name = policy name (readers owner)

    by : (b : Bool) → TrustIsLast (each_where test make (first + 1) names ++ after) →
        TrustIsLast (((if b then make first next ∷ [] else []) ++ each_where test make (first + 1) names) ++ after)
    by true rest = rest
    by false rest = rest

-- ---- what the parts mean

-- what the laws of who acts for whom say
abbrev pub ActsForItself : Type 0
ActsForItself = (principals : Declared) (p : ℕ) → ActsFor principals p p

is_one : (n : ℕ) → (n == 1) ≡ true → n ≡ 1
is_one n is = grind (arith, nat_tests)

one_is : (n : ℕ) → n ≡ 1 → (n == 1) ≡ true
one_is n is = ap (λ m. m == 1) is

-- a principal whom the owner allows is not forbidden
not_both : (label : Label) (owner reader : ℕ) → allows label owner reader ≡ true → ¬ Forbids label owner reader
not_both label owner reader allowed forbids =
    omega (arith, is_one (bit_at (get_or label.rows owner 0) reader) allowed, forbids)

-- each bit is clear or set
allowed_or_not : (label : Label) (owner reader : ℕ) →
    Forbids label owner reader ⊎ (allows label owner reader ≡ true)
allowed_or_not label owner reader = elim (cases_lt (bit_at (get_or label.rows owner 0) reader) 1) [
  | inl less ↦ inl (omega (arith, less))
  | inr more ↦ inr (one_is _ (omega (arith, more, bit_at-lt (get_or label.rows owner 0) reader)))
]

forbids_there : (principals : Declared) (label : Label) → IsDeclared principals → IsLabelOver principals label →
    (owner reader : ℕ) → owner < 63 → reader < 64 → Forbids label owner reader →
    Any (PartForbids principals owner reader) (known_parts principals label)
forbids_there principals label declared over owner reader owner_in reader_in forbids =
    any_left (PartForbids principals owner reader) (known_policies principals label)
    (known_trust (ids_where (is_trusted_by label) principals))
    (each_any (PartForbids principals owner reader) (forbids_some label) (known_policy principals label) 0
    principals.names from.by name.0 name.1 (lacks_at (get_or label.rows from.by 0) reader reader_in from.forbids)
    (from.acts, keeps))
  where
    from : IsForbiddenBy principals label owner reader
    from = over.forbids.by_policy owner reader owner_in reader_in forbids

    name : (name : List ℕ) × IsAt 0 principals.names from.by name
    name = named principals.names from.by
        (over.forbids.owners from.by reader from.within reader_in from.forbids)

    not_allowed : ¬ Any (λ (id : PrincipalId). ActsFor principals reader id.0)
        (ids_where (allows label from.by) principals)
    not_allowed some =
        let found = each_found (λ (id : PrincipalId). ActsFor principals reader id.0) (allows label from.by) id_of 0
        principals.names some in
        let within : found.0 < 64 =
        omega (arith, at_below 0 principals.names found.0 found.1 found.2, declared.names.few) in
        not_both label from.by found.0 found.3
        (over.forbids.kept_out from.by reader found.0 from.within reader_in within from.forbids found.4)

    keeps : KeepsOut principals (id_of from.by name.0) (ids_where (allows label from.by) principals) reader
    keeps = record {
      is_reader = over.forbids.readers owner reader owner_in reader_in forbids;
      not_owner = from.not_acted_for;
      not_named = all_from (λ (id : PrincipalId). ActsFor principals reader id.0)
          (ids_where (allows label from.by) principals) not_allowed;
    }

-- a policy that is printed forbids no more than the label
policy_back : ActsForItself →
    (principals : Declared) (label : Label) → IsDeclared principals → IsLabelOver principals label →
    (owner reader : ℕ) → owner < 63 → reader < 64 →
    Passing (PartForbids principals owner reader) (forbids_some label) (known_policy principals label) 0
    principals.names → Forbids label owner reader
policy_back itself principals label declared over owner reader owner_in reader_in (by, name, at, some, forbids) =
    over.forbids.on_behalf by owner reader by_in owner_in reader_in own forbids.0
  where
    by_in : by < 63
    by_in = omega (arith, at_below 0 principals.names by name at, declared.names.few)

    at_reader : IsReader principals reader → Forbids label by reader
    at_reader (inl within) = elim (allowed_or_not label by reader) [
      | inl clear ↦ clear
      | inr allowed ↦
          let there = named principals.names reader within in
          absurd (any_all (λ (id : PrincipalId). ActsFor principals reader id.0)
          (ids_where (allows label by) principals) forbids.1.not_named
          (each_any (λ (id : PrincipalId). ActsFor principals reader id.0) (allows label by) id_of 0
          principals.names reader there.0 there.1 allowed (itself principals reader)))
    ]
    at_reader (inr last) =
        let found = lacks_found (get_or label.rows by 0) some in
        let P : ℕ → Type 0 = λ n. Forbids label by n in
        subst P (sym last) (over.forbids.outsider by found.0 by_in found.1 found.2)

    own : Forbids label by reader
    own = at_reader forbids.1.is_reader

no_policy_trusts : (principals : Declared) (label : Label) (principal : ℕ) →
    ¬ Any (PartTrusts principals principal) (known_policies principals label)
no_policy_trusts principals label principal any =
    (each_found (PartTrusts principals principal) (forbids_some label) (known_policy principals label) 0
    principals.names any).4

no_trust_forbids : (principals : Declared) (owner reader : ℕ) (ids : List PrincipalId) →
    ¬ Any (PartForbids principals owner reader) (known_trust ids)
no_trust_forbids principals owner reader [] any = any_none (PartForbids principals owner reader) any
no_trust_forbids principals owner reader (id ∷ ids) any =
    elim (any_split (PartForbids principals owner reader) (trust_of (id ∷ ids)) [] any) [
      | inl here ↦ here
      | inr there ↦ any_none (PartForbids principals owner reader) there
    ]

forbids_back : ActsForItself →
    (principals : Declared) (label : Label) → IsDeclared principals → IsLabelOver principals label →
    (owner reader : ℕ) → owner < 63 → reader < 64 →
    Any (PartForbids principals owner reader) (known_parts principals label) → Forbids label owner reader
forbids_back itself principals label declared over owner reader owner_in reader_in any =
    elim (any_of_both (PartForbids principals owner reader) (known_policies principals label)
    (known_trust (ids_where (is_trusted_by label) principals)) any) [
      | inl policies ↦ policy_back itself principals label declared over owner reader owner_in reader_in
          (each_found (PartForbids principals owner reader) (forbids_some label) (known_policy principals label) 0
          principals.names policies)
      | inr trusting ↦ absurd (no_trust_forbids principals owner reader
          (ids_where (is_trusted_by label) principals) trusting)
    ]

trust_there : (principals : Declared) (principal : ℕ) (ids : List PrincipalId) →
    Any (λ id. ActsFor principals id.0 principal) ids → Any (PartTrusts principals principal) (known_trust ids)
trust_there principals principal [] any = absurd
    (any_none (λ (id : PrincipalId). ActsFor principals id.0 principal) any)
trust_there principals principal (id ∷ ids) any =
    any_here (PartTrusts principals principal) (trust_of (id ∷ ids)) [] any

trust_back : (principals : Declared) (principal : ℕ) (ids : List PrincipalId) →
    Any (PartTrusts principals principal) (known_trust ids) → Any (λ id. ActsFor principals id.0 principal) ids
trust_back principals principal [] any = absurd (any_none (PartTrusts principals principal) any)
trust_back principals principal (id ∷ ids) any =
    elim (any_split (PartTrusts principals principal) (trust_of (id ∷ ids)) [] any) [
      | inl here ↦ here
      | inr there ↦ absurd (any_none (PartTrusts principals principal) there)
    ]

trusts_there : ActsForItself → (principals : Declared) (label : Label) → IsLabelOver principals label →
    (principal : ℕ) → principal < 64 → Trusts label principal →
    Any (PartTrusts principals principal) (known_parts principals label)
trusts_there itself principals label over principal within trusts =
    let name = named principals.names principal (over.trusts.declared principal within trusts) in
    let ids : List PrincipalId = ids_where (is_trusted_by label) principals in
    any_right (PartTrusts principals principal) (known_policies principals label) (known_trust ids)
    (trust_there principals principal ids
    (each_any (λ (id : PrincipalId). ActsFor principals id.0 principal) (is_trusted_by label) id_of 0
    principals.names principal name.0 name.1 (one_is (bit_at label.trust principal) trusts)
    (itself principals principal)))

trusts_back : (principals : Declared) (label : Label) → IsDeclared principals → IsLabelOver principals label →
    (principal : ℕ) → principal < 64 → Any (PartTrusts principals principal) (known_parts principals label) →
    Trusts label principal
trusts_back principals label declared over principal within any =
    let ids : List PrincipalId = ids_where (is_trusted_by label) principals in
    elim (any_of_both (PartTrusts principals principal) (known_policies principals label) (known_trust ids) any) [
      | inl policies ↦ absurd (no_policy_trusts principals label principal policies)
      | inr trusting ↦
          let found = each_found (λ (id : PrincipalId). ActsFor principals id.0 principal) (is_trusted_by label) id_of
          0 principals.names (trust_back principals principal ids trusting) in
          over.trusts.on_behalf found.0 principal
          (omega (arith, at_below 0 principals.names found.0 found.1 found.2, declared.names.few)) within
          (is_one (bit_at label.trust found.0) found.3) found.4
    ]

are_parts : ActsForItself → (principals : Declared) (label : Label) → IsDeclared principals →
    IsLabelOver principals label → IsPartsOf principals (parts_tokens (printed_parts principals label)) label
are_parts itself principals label declared over = record {
  parts = printed_parts principals label;
  known = known_parts principals label;
  written = refl;
  trust_is_last = last_after (forbids_some label) (λ owner. names_where (allows label owner) principals) 0
      principals.names (trust_parts (names_where (is_trusted_by label) principals))
      (trust_alone (names_where (is_trusted_by label) principals));
  are_known = parts_known principals label;
  means = record {
    forbids = λ owner reader owner_in reader_in. (
      forbids_there principals label declared over owner reader owner_in reader_in,
      forbids_back itself principals label declared over owner reader owner_in reader_in,
    );
    trusts = λ principal within. (
      trusts_there itself principals label over principal within,
      trusts_back principals label declared over principal within,
    );
  };
}

-- what the law of spelled texts says
abbrev pub ReadsSpelled : Type 0
ReadsSpelled = (parts : List Spelled) → AreApart parts → HasKinds (spelled_text parts) (spelled_kinds parts)

pub reads_back : ActsForItself → ReadsSpelled → (principals : Declared) (label : Label) → IsDeclared principals →
    IsLabelOver principals label → ReadsBack principals label
reads_back itself spelled principals label declared over =
    let parts : List Part = printed_parts principals label in
    let marks : List Spelled = label_marks parts in
    let has = spelled marks (label_apart parts (parts_have principals label declared.spelled)) in
    let P : List ℕ → Type 0 = λ text. ReadsAs text (tokens has.0) in (
      has.0,
      subst P (label_is principals label) has.1,
      record {
        inside = parts_tokens parts;
        braces = has.2 ∙ label_kinds parts;
        parts = are_parts itself principals label declared over;
      },
    )

-- ---- the tests and the sets

pub allows_is : (label : Label) (owner reader : ℕ) → (allows label owner reader ≡ true) ↔ ¬ Forbids label owner reader
allows_is label owner reader = (
  λ allowed. not_both label owner reader allowed,
  λ free. elim (allowed_or_not label owner reader) [ inl clear ↦ absurd (free clear) | inr allowed ↦ allowed ],
)

pub forbids_some_is : (label : Label) (owner : ℕ) →
    (forbids_some label owner ≡ true) ↔ ((reader : ℕ) × (reader < 64) × Forbids label owner reader)
forbids_some_is label owner = (
  λ some. lacks_found (get_or label.rows owner 0) some,
  λ found. lacks_at
      (get_or label.rows owner 0) found.0 found.1 found.2,
)

pub trusted_is : (label : Label) (principal : ℕ) → (is_trusted_by label principal ≡ true) ↔ Trusts label principal
trusted_is label principal = (is_one (bit_at label.trust principal), one_is (bit_at label.trust principal))

-- ---- one label for one text

abbrev pub OneReading : Type 0
OneReading = (text : List ℕ) (first second : Reading) → ReadsAs text first → ReadsAs text second → first ≡ second

abbrev pub WrittenOnce : Type 0
WrittenOnce = (principals : Declared) (list : List Token) (first second : Label) → IsDeclared principals →
    IsLabelOver principals first → IsLabelOver principals second → IsLabelOf principals list first →
    IsLabelOf principals list second → first ≡ second

abbrev list_of : Reading → List Token
list_of (tokens list) = list
list_of (bad_byte at) = []
list_of (bad_number at) = []

pub printed_once : OneReading → WrittenOnce → (principals : Declared) (first second : Label) → IsDeclared principals →
    IsLabelOver principals first → IsLabelOver principals second → ReadsBack principals first →
    ReadsBack principals second → printed_label principals first ≡ printed_label principals second → first ≡ second
printed_once reading written principals first second declared one two read_one read_two same =
    let P : List ℕ → Type 0 = λ text. ReadsAs text (tokens read_one.0) in
    let Q : List Token → Type 0 = λ list. IsLabelOf principals list first in
    let lists : read_one.0 ≡ read_two.0 =
    ap list_of (reading (printed_label principals second) (tokens read_one.0) (tokens read_two.0)
    (subst P same read_one.1) read_two.1) in
    written principals read_two.0 first second declared one two (subst Q lists read_one.2) read_two.2
