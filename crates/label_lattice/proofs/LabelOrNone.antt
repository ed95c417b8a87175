-- Tokens are a label or are none: their parts can be found.
use Rattle.std.proofs.Common.{ℕ, zero, suc, ◌≡◌, ◌≢◌, ◌<◌, ◌⊎◌, ◌∙◌, sym, ap, subst, refl, inl, inr}
use Rattle.std.proofs.Common.{List, [], ◌∷◌, ◌++◌, length, Option, Some, None, arith}
use Rattle.std.specs.Prelude.{Contains}
use Rattle.std.specs.List.{AllByRecursion, AllZip}
use Rattle.js_base.specs.declared.ids.PrincipalId.{PrincipalId}
use Rattle.jif_lex.specs.declared.token.Token.{Token}
use Rattle.jif_lex.specs.declared.token.TokenKind.{TokenKind}
use Rattle.jif_lex.specs.declared.token.TokenKind.TheVariants.{Name, Number, Word, Symbol}
use Rattle.jif_lex.specs.declared.token.Symbol.TheVariants.{LeftBrace, RightBrace, Colon, Comma, Semicolon, Question}
use Rattle.principals.specs.ActsFor.{Declared, IsDeclared}
use Rattle.label_lattice.specs.declared.label.Label.{Label}
use Rattle.label_lattice.specs.Over.{IsLabelOver}
use Rattle.label_lattice.specs.Reading.{CutsAt}
use Rattle.label_lattice.specs.Written.{kinds, symbol, names_tokens, Part, policy, trust, part_tokens, TrustIsLast}
use Rattle.label_lattice.specs.Written.{HasDeclaredNames, parts_tokens, KnownPart, policy_of, trust_of, AreKnown}
use Rattle.label_lattice.specs.Written.{IsKnownPart, IsPartsOf, IsLabelOf}
use Rattle.js_base.proofs.Decisions.{Decided, same_text}
use Rattle.label_lattice.proofs.Joins.{IsLeft, first_of_left, left_of_first, fewer_left}
use Rattle.label_lattice.proofs.KnownNames.{known_is_held}
use Rattle.label_lattice.proofs.MadeLabels.{parts_make}
use Rattle.label_lattice.proofs.PartLemmas.{no_semicolon}
use Rattle.label_lattice.proofs.PolicyLemmas.{OutsiderIsAlone, LeadsToDeclared, GoesOn}

-- ---- single tokens

is_semicolon : (kind : TokenKind) → Decided (kind ≡ symbol Semicolon)
is_semicolon (Name name) = inr (λ is. cc)
is_semicolon (Number value) = inr (λ is. cc)
is_semicolon (Word word) = inr (λ is. cc)
is_semicolon (Symbol written) =
    elim written as (λ w. Decided (Symbol w ≡ symbol Semicolon)) [ Semicolon ↦ inl refl | _ ↦ inr (λ is. cc) ]

is_comma : (kind : TokenKind) → Decided (kind ≡ symbol Comma)
is_comma (Name name) = inr (λ is. cc)
is_comma (Number value) = inr (λ is. cc)
is_comma (Word word) = inr (λ is. cc)
is_comma (Symbol written) =
    elim written as (λ w. Decided (Symbol w ≡ symbol Comma)) [ Comma ↦ inl refl | _ ↦ inr (λ is. cc) ]

is_colon : (kind : TokenKind) → Decided (kind ≡ symbol Colon)
is_colon (Name name) = inr (λ is. cc)
is_colon (Number value) = inr (λ is. cc)
is_colon (Word word) = inr (λ is. cc)
is_colon (Symbol written) =
    elim written as (λ w. Decided (Symbol w ≡ symbol Colon)) [ Colon ↦ inl refl | _ ↦ inr (λ is. cc) ]

is_question : (kind : TokenKind) → Decided (kind ≡ symbol Question)
is_question (Name name) = inr (λ is. cc)
is_question (Number value) = inr (λ is. cc)
is_question (Word word) = inr (λ is. cc)
is_question (Symbol written) =
    elim written as (λ w. Decided (Symbol w ≡ symbol Question)) [ Question ↦ inl refl | _ ↦ inr (λ is. cc) ]

is_left_brace : (kind : TokenKind) → Decided (kind ≡ symbol LeftBrace)
is_left_brace (Name name) = inr (λ is. cc)
is_left_brace (Number value) = inr (λ is. cc)
is_left_brace (Word word) = inr (λ is. cc)
is_left_brace (Symbol written) =
    elim written as (λ w. Decided (Symbol w ≡ symbol LeftBrace)) [ LeftBrace ↦ inl refl | _ ↦ inr (λ is. cc) ]

is_right_brace : (kind : TokenKind) → Decided (kind ≡ symbol RightBrace)
is_right_brace (Name name) = inr (λ is. cc)
is_right_brace (Number value) = inr (λ is. cc)
is_right_brace (Word word) = inr (λ is. cc)
is_right_brace (Symbol written) =
    elim written as (λ w. Decided (Symbol w ≡ symbol RightBrace)) [ RightBrace ↦ inl refl | _ ↦ inr (λ is. cc) ]

pub name_held : (names : List (List ℕ)) (name : List ℕ) → Decided (Contains names name)
name_held [] name = inr (λ found. omega (arith, found.1))
name_held (next ∷ names) name = by (same_text next name) (name_held names name)
  where
    by : Decided (next ≡ name) → Decided (Contains names name) → Decided (Contains (next ∷ names) name)
    by (inl same) rest = inl (0, omega arith, same)
    by (inr other) (inl (k, within, is)) = inl (suc k, omega (arith, within), is)
    by (inr other) (inr none) = inr not_there
      where
        not_there : ¬ Contains (next ∷ names) name
        not_there (zero, within, is) = other is
        not_there (suc k, within, is) = none (k, omega (arith, within), is)

-- the token is one of these names
abbrev IsNameOf : List (List ℕ) → TokenKind → Type 0
IsNameOf declared kind = (name : List ℕ) × (kind ≡ Name name) × Contains declared name

is_name : (declared : List (List ℕ)) (kind : TokenKind) → Decided (IsNameOf declared kind)
is_name declared (Name name) = by (name_held declared name)
  where
    by : Decided (Contains declared name) → Decided (IsNameOf declared (Name name))
    by (inl held) = inl (name, refl, held)
    by (inr none) = inr not_there
      where
        not_there : ¬ IsNameOf declared (Name name)
        not_there (other, is, held) =
            let same : other ≡ name = cc in
            none (subst (λ text. Contains declared text) same held)
is_name declared (Number value) = inr (λ is. let same = is.1 in cc)
is_name declared (Word word) = inr (λ is. let same = is.1 in cc)
is_name declared (Symbol written) = inr (λ is. let same = is.1 in cc)

-- ---- names

-- the tokens are some of these names, and at least one
record AreNames (declared : List (List ℕ)) (tokens : List TokenKind) : Type 0 where
  first : List ℕ
  more : List (List ℕ)
  written : tokens ≡ names_tokens (first ∷ more)
  held : AllByRecursion (Contains declared) (first ∷ more)

no_names : (declared : List (List ℕ)) → ¬ AreNames declared []
no_names declared are = by are.more are.written
  where
    by : (more : List (List ℕ)) → [] ≡ names_tokens (are.first ∷ more) → ⊥
    by [] is = cc
    by (next ∷ more) is = cc

one_name : (declared : List (List ℕ)) (kind : TokenKind) → AreNames declared (kind ∷ []) → IsNameOf declared kind
one_name declared kind are = at are.more are.written
  where
    at : (more : List (List ℕ)) → kind ∷ [] ≡ names_tokens (are.first ∷ more) → IsNameOf declared kind
    at [] is = let same : kind ≡ Name are.first = cc in (are.first, same, are.held.0)
    at (next ∷ more) is = absurd cc

more_names : (declared : List (List ℕ)) (kind separator : TokenKind) (tokens : List TokenKind) →
    AreNames declared (kind ∷ separator ∷ tokens) →
    IsNameOf declared kind × (separator ≡ symbol Comma) × AreNames declared tokens
more_names declared kind separator tokens are = at are.more are.written are.held
  where
    at : (more : List (List ℕ)) → kind ∷ separator ∷ tokens ≡ names_tokens (are.first ∷ more) →
        AllByRecursion (Contains declared) (are.first ∷ more) →
        IsNameOf declared kind × (separator ≡ symbol Comma) × AreNames declared tokens
    at [] is held = absurd cc
    at (next ∷ more) is held =
        let head : kind ≡ Name are.first = cc in
        let comma : separator ≡ symbol Comma = cc in
        let rest : tokens ≡ names_tokens (next ∷ more) = cc in (
          (are.first, head, held.0),
          comma,
          record { first = next; more = more; written = rest; held = held.1 },
        )

some_names : (declared : List (List ℕ)) (tokens : List TokenKind) → Decided (AreNames declared tokens)
some_names declared [] = inr (no_names declared)
some_names declared (kind ∷ []) = by (is_name declared kind)
  where
    by : Decided (IsNameOf declared kind) → Decided (AreNames declared (kind ∷ []))
    by (inl name) = inl (record {
      first = name.0;
      more = [];
      written = ap (λ k. k ∷ []) name.1;
      held = (name.2, tt);
    })
    by (inr other) = inr (λ are. other (one_name declared kind are))
some_names declared (kind ∷ separator ∷ tokens) =
    by (is_name declared kind) (is_comma separator) (some_names declared tokens)
  where
    by : Decided (IsNameOf declared kind) → Decided (separator ≡ symbol Comma) → Decided (AreNames declared tokens) →
        Decided (AreNames declared (kind ∷ separator ∷ tokens))
    by (inr other) comma rest = inr (λ are. other (more_names declared kind separator tokens are).0)
    by (inl name) (inr other) rest = inr (λ are. other (more_names declared kind separator tokens are).1)
    by (inl name) (inl comma) (inr none) = inr (λ are. none (more_names declared kind separator tokens are).2)
    by (inl name) (inl comma) (inl rest) =
        let head : kind ≡ Name name.0 = name.1 in
        let tail : tokens ≡ names_tokens (rest.first ∷ rest.more) = rest.written in
        inl (record { first = name.0; more = rest.first ∷ rest.more; written = cc; held = (name.2, rest.held) })

abbrev AreAllNames : List (List ℕ) → List TokenKind → Type 0
AreAllNames declared tokens =
    (names : List (List ℕ)) × (tokens ≡ names_tokens names) × AllByRecursion (Contains declared) names

all_names : (declared : List (List ℕ)) (tokens : List TokenKind) → Decided (AreAllNames declared tokens)
all_names declared [] = inl ([], refl, tt)
all_names declared (kind ∷ tokens) = by (some_names declared (kind ∷ tokens))
  where
    by : Decided (AreNames declared (kind ∷ tokens)) → Decided (AreAllNames declared (kind ∷ tokens))
    by (inl are) = inl (are.first ∷ are.more, are.written, are.held)
    by (inr none) = inr not_there
      where
        not_there : ¬ AreAllNames declared (kind ∷ tokens)
        not_there ([], is, held) = cc
        not_there (first ∷ more, is, held) =
            none (record { first = first; more = more; written = is; held = held })

-- ---- one part

abbrev IsPartOf : Declared → List TokenKind → Part → Type 0
IsPartOf principals tokens part = (tokens ≡ part_tokens part) × HasDeclaredNames principals part

is_part : (principals : Declared) (tokens : List TokenKind) → Decided ((part : Part) × IsPartOf principals tokens part)
is_part principals [] = inr none
  where
    none : (part : Part) × IsPartOf principals [] part → ⊥
    none (policy owner readers, is) = let same = is.0 in cc
    none (trust members, is) = let same = is.0 in cc
is_part principals (kind ∷ []) = inr none
  where
    none : (part : Part) × IsPartOf principals (kind ∷ []) part → ⊥
    none (policy owner readers, is) = let same = is.0 in cc
    none (trust members, is) = let same = is.0 in cc
is_part principals (kind ∷ colon ∷ tokens) =
    by (is_name principals.names kind) (is_question kind) (is_colon colon) (all_names principals.names tokens)
  where
    Wanted : Type 0
    Wanted = (part : Part) × IsPartOf principals (kind ∷ colon ∷ tokens) part

    no_colon : ¬ (colon ≡ symbol Colon) → ¬ Wanted
    no_colon other (policy owner readers, is) = let same = is.0 in other cc
    no_colon other (trust members, is) = let same = is.0 in other cc

    not_names : ¬ AreAllNames principals.names tokens → ¬ Wanted
    not_names none (policy owner readers, is) =
        let whole = is.0 in
        let same : tokens ≡ names_tokens readers = cc in none (readers, same, is.1.1)
    not_names none (trust members, is) =
        let whole = is.0 in
        let same : tokens ≡ names_tokens members = cc in none (members, same, is.1)

    no_head : ¬ IsNameOf principals.names kind → ¬ (kind ≡ symbol Question) → ¬ Wanted
    no_head no_name no_question (policy owner readers, is) =
        let whole = is.0 in
        let same : kind ≡ Name owner = cc in no_name (owner, same, is.1.0)
    no_head no_name no_question (trust members, is) = let whole = is.0 in no_question cc

    by : Decided (IsNameOf principals.names kind) → Decided (kind ≡ symbol Question) →
        Decided (colon ≡ symbol Colon) → Decided (AreAllNames principals.names tokens) → Decided Wanted
    by name question (inr other) names = inr (no_colon other)
    by name question (inl is) (inr none) = inr (not_names none)
    by (inl name) question (inl is) (inl names) =
        let head : kind ≡ Name name.0 = name.1 in
        let tail : tokens ≡ names_tokens names.0 = names.1 in
        inl (policy name.0 names.0, (cc, (name.2, names.2)))
    by (inr no_name) (inl head) (inl is) (inl names) =
        let tail : tokens ≡ names_tokens names.0 = names.1 in
        inl (trust names.0, (cc, names.2))
    by (inr no_name) (inr no_question) (inl is) (inl names) = inr (no_head no_name no_question)

-- ---- what semicolons part

lacks_behind : (kind : TokenKind) (tokens : List TokenKind) → kind ≢ symbol Semicolon →
    ¬ Contains tokens (symbol Semicolon) → ¬ Contains (kind ∷ tokens) (symbol Semicolon)
lacks_behind kind tokens other lacks (zero, within, is) = other is
lacks_behind kind tokens other lacks (suc k, within, is) = lacks (k, omega (arith, within), is)

lacks_none : ¬ Contains {X = TokenKind} [] (symbol Semicolon)
lacks_none found = omega (arith, found.1)

abbrev Cut : List TokenKind → Type 0
Cut tokens = (front : List TokenKind) × (after : Option (List TokenKind)) × CutsAt (symbol Semicolon) tokens front after

first_cut : (tokens : List TokenKind) → Cut tokens
first_cut [] = ([], None, (refl, lacks_none))
first_cut (kind ∷ tokens) = by (is_semicolon kind) (first_cut tokens)
  where
    by : Decided (kind ≡ symbol Semicolon) → Cut tokens → Cut (kind ∷ tokens)
    by (inl is) rest = ([], Some tokens, (ap (λ k. k ∷ tokens) is, lacks_none))
    by (inr other) (front, None, cut) =
        (kind ∷ front, None, (ap (λ ts. kind ∷ ts) cut.0, lacks_behind kind front other cut.1))
    by (inr other) (front, Some after, cut) =
        (kind ∷ front, Some after, (ap (λ ts. kind ∷ ts) cut.0, lacks_behind kind front other cut.1))

-- ---- some parts

-- the tokens are these parts, and at least one
record AreParts (principals : Declared) (tokens : List TokenKind) : Type 0 where
  parts : List Part
  left : IsLeft (symbol Semicolon) part_tokens (Some tokens) parts
  last : TrustIsLast parts
  held : AllByRecursion (HasDeclaredNames principals) parts

module _ (principals : Declared) (tokens front : List TokenKind) where
  last_part : CutsAt (symbol Semicolon) tokens front None → Decided ((part : Part) × IsPartOf principals front part) →
      Decided (AreParts principals tokens)
  last_part cut (inl (part, is)) = inl (record {
    parts = part ∷ [];
    left = left_of_first (symbol Semicolon) part_tokens tokens front None part [] cut is.0 refl;
    last = may_be_last part;
    held = (is.1, tt);
  })
    where
      may_be_last : (part : Part) → TrustIsLast (part ∷ [])
      may_be_last (policy owner readers) = tt
      may_be_last (trust members) = refl
  last_part cut (inr none) = inr not_there
    where
      not_there : ¬ AreParts principals tokens
      not_there are =
          let first = first_of_left (symbol Semicolon) part_tokens tokens front None are.parts no_semicolon
          cut are.left in
          none (
            first.item,
            (
              first.front_is,
              (subst (AllByRecursion (HasDeclaredNames principals)) first.is are.held).0,
            ),
          )

  next_part : (after : List TokenKind) → CutsAt (symbol Semicolon) tokens front (Some after) →
      Decided ((part : Part) × IsPartOf principals front part) → Decided (AreParts principals after) →
      Decided (AreParts principals tokens)
  next_part after cut part rest = by part rest
    where
      -- the first part is a policy, and others follow
      first_of : (are : AreParts principals tokens) →
          (part : Part) × IsPartOf principals front part × AreParts principals after
      first_of are =
          let first = first_of_left (symbol Semicolon) part_tokens tokens front (Some after) are.parts no_semicolon cut
          are.left in
          let held = subst (AllByRecursion (HasDeclaredNames principals)) first.is are.held in
          let last = subst TrustIsLast first.is are.last in (
            first.item,
            (first.front_is, held.0),
            record {
              parts = first.rest;
              left = first.left;
              last = others first.item first.rest last first.left.0;
              held = held.1;
            },
          )
        where
          others : (part : Part) (rest : List Part) → TrustIsLast (part ∷ rest) → rest ≢ [] → TrustIsLast rest
          others (policy owner readers) rest last some = last
          others (trust members) rest last some = absurd (some last)

      no_trust_first : (members : List (List ℕ)) → front ≡ part_tokens (trust members) → ¬ AreParts principals tokens
      no_trust_first members is are =
          let first = first_of_left (symbol Semicolon) part_tokens tokens front (Some after) are.parts no_semicolon cut
          are.left in
          at first.item first.rest (sym is ∙ first.front_is) (subst TrustIsLast first.is are.last) first.left.0
        where
          at : (part : Part) (rest : List Part) → part_tokens (trust members) ≡ part_tokens part →
              TrustIsLast (part ∷ rest) → rest ≢ [] → ⊥
          at (policy owner readers) rest same last some = cc
          at (trust others) rest same last some = some last

      by : Decided ((part : Part) × IsPartOf principals front part) → Decided (AreParts principals after) →
          Decided (AreParts principals tokens)
      by (inr none) more = inr (λ are. let first = first_of are in none (first.0, first.1))
      by (inl (trust members, is)) more = inr (no_trust_first members is.0)
      by (inl (policy owner readers, is)) (inr none) = inr (λ are. none (first_of are).2)
      by (inl (policy owner readers, is)) (inl more) = inl (record {
        parts = policy owner readers ∷ more.parts;
        left = left_of_first (symbol Semicolon) part_tokens tokens front (Some after) (policy owner readers) more.parts
            cut is.0 more.left;
        last = more.last;
        held = (is.1, more.held);
      })

some_parts : (principals : Declared) (room : ℕ) (tokens : List TokenKind) → length tokens < room →
    Decided (AreParts principals tokens)
some_parts principals zero tokens within = absurd (omega arith)
some_parts principals (suc room) tokens within =
    at (first_cut tokens) (λ after less. some_parts principals room after (omega arith))
  where
    at : Cut tokens → ((after : List TokenKind) → length after < length tokens → Decided (AreParts principals after)) →
        Decided (AreParts principals tokens)
    at (front, None, cut) more = last_part principals tokens front cut (is_part principals front)
    at (front, Some after, cut) more =
        next_part principals tokens front after cut (is_part principals front)
        (more after (omega (arith, fewer_left (symbol Semicolon) tokens front (Some after) cut)))

-- ---- the label

names_are_held : (principals : Declared) (names : List (List ℕ)) (known : List PrincipalId) →
    AreKnown principals names known → AllByRecursion (Contains principals.names) names
names_are_held principals [] known are = tt
names_are_held principals (name ∷ names) [] are = absurd are
names_are_held principals (name ∷ names) (p ∷ known) are =
    (known_is_held principals name p are.0, names_are_held principals names known are.1)

part_is_held : (principals : Declared) (part : Part) (known : KnownPart) → IsKnownPart principals part known →
    HasDeclaredNames principals part
part_is_held principals (policy owner readers) (policy_of p ps) are =
    (known_is_held principals owner p are.0, names_are_held principals readers ps are.1)
part_is_held principals (policy owner readers) (trust_of ps) are = absurd are
part_is_held principals (trust members) (policy_of p ps) are = absurd are
part_is_held principals (trust members) (trust_of ps) are = names_are_held principals members ps are

parts_are_held : (principals : Declared) (parts : List Part) (known : List KnownPart) →
    AllZip (IsKnownPart principals) parts known → AllByRecursion (HasDeclaredNames principals) parts
parts_are_held principals [] known are = tt
parts_are_held principals (part ∷ parts) [] are = absurd are
parts_are_held principals (part ∷ parts) (first ∷ known) are =
    (part_is_held principals part first are.0, parts_are_held principals parts known are.1)

abbrev HasParts : Declared → List TokenKind → Type 0
HasParts principals inside =
    (parts : List Part) × (inside ≡ parts_tokens parts) × TrustIsLast parts
    × AllByRecursion (HasDeclaredNames principals) parts

parts_inside_braces : (principals : Declared) (inside : List TokenKind) → Decided (HasParts principals inside)
parts_inside_braces principals [] = inl ([], refl, tt, tt)
parts_inside_braces principals (kind ∷ tokens) =
    by (some_parts principals (suc (length (kind ∷ tokens))) (kind ∷ tokens) (omega arith))
  where
    by : Decided (AreParts principals (kind ∷ tokens)) → Decided (HasParts principals (kind ∷ tokens))
    by (inl are) = inl (are.parts, are.left.1, are.last, are.held)
    by (inr none) = inr not_there
      where
        some : (part : Part) (parts : List Part) → part ∷ parts ≢ []
        some part parts is = cc

        not_there : ¬ HasParts principals (kind ∷ tokens)
        not_there ([], is, last, held) = cc
        not_there (part ∷ parts, is, last, held) =
            none (record { parts = part ∷ parts; left = (some part parts, is); last = last; held = held })

-- the tokens are something and a last one
abbrev HasLast : List TokenKind → Type 0
HasLast tokens = (front : List TokenKind) × (last : TokenKind) × (tokens ≡ front ++ last ∷ [])

last_one : (kind : TokenKind) (tokens : List TokenKind) → HasLast (kind ∷ tokens)
last_one kind [] = ([], kind, refl)
last_one kind (next ∷ tokens) =
    let rest = last_one next tokens in (kind ∷ rest.0, rest.1, ap (λ ts. kind ∷ ts) rest.2)

same_last : (front other : List TokenKind) (first second : TokenKind) → front ++ first ∷ [] ≡ other ++ second ∷ [] →
    (front ≡ other) × (first ≡ second)
same_last [] [] first second is = (refl, cc)
same_last [] (kind ∷ []) first second is = absurd cc
same_last [] (kind ∷ next ∷ other) first second is = absurd cc
same_last (kind ∷ []) [] first second is = absurd cc
same_last (kind ∷ next ∷ front) [] first second is = absurd cc
same_last (kind ∷ front) (next ∷ other) first second is =
    let heads : kind ≡ next = cc in
    let tails : front ++ first ∷ [] ≡ other ++ second ∷ [] = cc in
    let rest = same_last front other first second tails in
    let fronts : front ≡ other = rest.0 in
    (cc, rest.1)

-- the tokens between braces
abbrev IsBraced : List TokenKind → List TokenKind → Type 0
IsBraced tokens inside = tokens ≡ symbol LeftBrace ∷ inside ++ symbol RightBrace ∷ []

braced : (tokens : List TokenKind) → Decided ((inside : List TokenKind) × IsBraced tokens inside)
braced [] = inr (λ is. let same = is.1 in cc)
braced (kind ∷ []) = inr none
  where
    none : (inside : List TokenKind) × IsBraced (kind ∷ []) inside → ⊥
    none ([], is) = cc
    none (next ∷ inside, is) = cc
braced (kind ∷ next ∷ tokens) = by (is_left_brace kind) (last_one next tokens)
  where
    Wanted : Type 0
    Wanted = (inside : List TokenKind) × IsBraced (kind ∷ next ∷ tokens) inside

    at_end : kind ≡ symbol LeftBrace → (front : List TokenKind) (last : TokenKind) →
        next ∷ tokens ≡ front ++ last ∷ [] → Decided (last ≡ symbol RightBrace) → Decided Wanted
    at_end left front last is (inl right) =
        inl (
          front,
          ap (λ k. k ∷ next ∷ tokens) left ∙ ap (λ ts. symbol LeftBrace ∷ ts) is
              ∙ ap (λ k. symbol LeftBrace ∷ (front ++ k ∷ [])) right,
        )
    at_end left front last is (inr other) = inr (λ wanted. other (ends wanted))
      where
        ends : Wanted → last ≡ symbol RightBrace
        ends (inside, whole) =
            let tails : next ∷ tokens ≡ inside ++ symbol RightBrace ∷ [] = cc in
            (same_last front inside last (symbol RightBrace) (sym is ∙ tails)).1

    by : Decided (kind ≡ symbol LeftBrace) → HasLast (next ∷ tokens) → Decided Wanted
    by (inr other) end = inr (λ wanted. let same = wanted.1 in other cc)
    by (inl left) (front, last, is) = at_end left front last is (is_right_brace last)

same_inside : (tokens inside other : List TokenKind) → IsBraced tokens inside → IsBraced tokens other → inside ≡ other
same_inside tokens inside other one two =
    let both : symbol LeftBrace ∷ inside ++ symbol RightBrace ∷ [] ≡ symbol LeftBrace ∷ other ++ symbol RightBrace ∷ []
    = sym one ∙ two in
    let tails : inside ++ symbol RightBrace ∷ [] ≡ other ++ symbol RightBrace ∷ [] = cc in
    (same_last inside other (symbol RightBrace) (symbol RightBrace) tails).0

-- what becomes of tokens
abbrev pub IsLabelOrNone : Declared → List Token → Type 0
IsLabelOrNone principals list =
    ((label : Label) × IsLabelOver principals label × IsLabelOf principals list label)
    ⊎ ((label : Label) → ¬ IsLabelOf principals list label)

pub label_or_none : OutsiderIsAlone → LeadsToDeclared → GoesOn → (principals : Declared) (list : List Token) →
    IsDeclared principals → IsLabelOrNone principals list
label_or_none alone declared_too goes_on principals list declared = by (braced (kinds list))
  where
    made : (inside : List TokenKind) → IsBraced (kinds list) inside → HasParts principals inside →
        (label : Label) × IsLabelOver principals label × IsLabelOf principals list label
    made inside is (parts, written, last, held) =
        let all = parts_make alone declared_too goes_on principals parts declared held in (
          all.1,
          all.4,
          record {
            inside = inside;
            braces = is;
            parts = record {
              parts = parts;
              known = all.0;
              written = written;
              trust_is_last = last;
              are_known = all.2;
              means = all.3;
            };
          },
        )

    parts_of : (inside : List TokenKind) (label : Label) → IsPartsOf principals inside label →
        HasParts principals inside
    parts_of inside label is = (
      is.parts,
      is.written,
      is.trust_is_last,
      parts_are_held principals is.parts is.known
          is.are_known,
    )

    within : (inside : List TokenKind) → IsBraced (kinds list) inside → Decided (HasParts principals inside) →
        IsLabelOrNone principals list
    within inside is (inl parts) = inl (made inside is parts)
    within inside is (inr none) = inr not_there
      where
        not_there : (label : Label) → ¬ IsLabelOf principals list label
        not_there label of =
            let same : of.inside ≡ inside = same_inside (kinds list) of.inside inside of.braces is in
            none (parts_of inside label (subst (λ ts. IsPartsOf principals ts label) same of.parts))

    by : Decided ((inside : List TokenKind) × IsBraced (kinds list) inside) → IsLabelOrNone principals list
    by (inl (inside, is)) = within inside is (parts_inside_braces principals inside)
    by (inr none) = inr (λ label of. none (of.inside, of.braces))
