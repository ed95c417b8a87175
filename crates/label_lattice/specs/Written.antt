-- How a label is written: `{`, parts joined by `;`, and `}`. A part is a policy, `owner: readers`, or says who trusts,
-- `?: members`, where names are joined by `,`. Only the last part may say who trusts.
use Rattle.std.specs.Prelude.{◌≡◌, ℕ, ◌<◌, ◌↔◌, List, [], ◌∷◌, ◌++◌, map, Any, Some}
use Rattle.std.specs.Prelude.{slice_get, Contains, ⊤}
use Rattle.std.specs.List.{AllByRecursion, AllZip}
use Rattle.js_base.specs.declared.ids.PrincipalId.{PrincipalId}
use Rattle.jif_lex.specs.declared.token.Token.{Token}
use Rattle.jif_lex.specs.declared.token.TokenKind.{TokenKind}
use Rattle.jif_lex.specs.declared.token.TokenKind.TheVariants.{Name, Symbol}
use Rattle.jif_lex.specs.declared.token.Symbol as symbols
use Rattle.jif_lex.specs.declared.token.Symbol.TheVariants.{LeftBrace, RightBrace, Colon, Comma, Semicolon, Question}
use Rattle.principals.specs.ActsFor.{Declared, ActsFor}
use Rattle.js_base.specs.declared.limits.TheConstants.{PRINCIPALS}
use Rattle.label_lattice.specs.declared.label.Label.{Label}
use Rattle.label_lattice.specs.declared.label.TheConstants.{READERS}
use Rattle.label_lattice.specs.Label.{Forbids, Trusts, PolicyForbids}

-- ---- tokens

abbrev pub kinds : List Token → List TokenKind
kinds tokens = map (λ token. token.kind) tokens

-- a symbol as a token
abbrev pub symbol : symbols.Symbol → TokenKind
symbol written = Symbol written

-- the items with the separator between each two
abbrev pub with_separator : TokenKind → List (List TokenKind) → List TokenKind
with_separator separator [] = []
with_separator separator (item ∷ []) = item
with_separator separator (item ∷ next ∷ items) = item ++ separator ∷ with_separator separator (next ∷ items)

abbrev pub name_tokens : List ℕ → List TokenKind
name_tokens name = Name name ∷ []

abbrev pub names_tokens : List (List ℕ) → List TokenKind
names_tokens names = with_separator (symbol Comma) (map name_tokens names)

-- ---- parts

-- an owner with the readers that it names, or the names of those who trust
pub data Part : Type 0 where
  policy : List ℕ → List (List ℕ) → Part
  trust : List (List ℕ) → Part

abbrev pub part_tokens : Part → List TokenKind
part_tokens (policy owner readers) = Name owner ∷ symbol Colon ∷ names_tokens readers
part_tokens (trust members) = symbol Question ∷ symbol Colon ∷ names_tokens members

-- only the last part says who trusts
abbrev pub TrustIsLast : List Part → Type 0
TrustIsLast [] = ⊤
TrustIsLast (policy owner readers ∷ parts) = TrustIsLast parts
TrustIsLast (trust members ∷ parts) = parts ≡ []

-- each name in the part is one of the declared
abbrev pub HasDeclaredNames : Declared → Part → Type 0
HasDeclaredNames principals (policy owner readers) =
    Contains principals.names owner × AllByRecursion (Contains principals.names) readers
HasDeclaredNames principals (trust members) = AllByRecursion (Contains principals.names) members

abbrev pub parts_tokens : List Part → List TokenKind
parts_tokens parts = with_separator (symbol Semicolon) (map part_tokens parts)

-- ---- what the parts mean

-- a part with the numbers of its principals in place of their names
pub data KnownPart : Type 0 where
  policy_of : PrincipalId → List PrincipalId → KnownPart
  trust_of : List PrincipalId → KnownPart

abbrev pub IsKnown : Declared → List ℕ → PrincipalId → Type 0
IsKnown principals name principal = slice_get principals.names principal.0 ≡ Some name

abbrev pub AreKnown : Declared → List (List ℕ) → List PrincipalId → Type 0
AreKnown principals names known = AllZip (IsKnown principals) names known

-- each name in the part is that of a declared principal
abbrev pub IsKnownPart : Declared → Part → KnownPart → Type 0
IsKnownPart principals (policy owner readers) (policy_of known_owner known_readers) =
    IsKnown principals owner known_owner × AreKnown principals readers known_readers
IsKnownPart principals (trust members) (trust_of known_members) = AreKnown principals members known_members
IsKnownPart principals (policy owner readers) (trust_of known_members) = ⊥
IsKnownPart principals (trust members) (policy_of known_owner known_readers) = ⊥

abbrev pub PartForbids : Declared → ℕ → ℕ → KnownPart → Type 0
PartForbids principals owner reader (policy_of known_owner known_readers) =
    PolicyForbids principals known_owner known_readers owner reader
PartForbids principals owner reader (trust_of known_members) = ⊥

abbrev pub PartTrusts : Declared → ℕ → KnownPart → Type 0
PartTrusts principals principal (policy_of known_owner known_readers) = ⊥
PartTrusts principals principal (trust_of known_members) =
    Any (λ member. ActsFor principals member.0 principal) known_members

-- the label forbids what some part forbids, and is trusted by whom some part has as trusting
pub record IsMadeOf (principals : Declared) (parts : List KnownPart) (label : Label) : Type 0 where
  pub forbids : (owner reader : ℕ) → owner < PRINCIPALS → reader < READERS →
      (Forbids label owner reader ↔ Any (PartForbids principals owner reader) parts)
  pub trusts : (principal : ℕ) → principal < READERS →
      (Trusts label principal ↔ Any (PartTrusts principals principal) parts)

-- the tokens are the parts of this label, written with names of these principals
pub record IsPartsOf (principals : Declared) (inside : List TokenKind) (label : Label) : Type 0 where
  pub parts : List Part
  pub known : List KnownPart
  pub written : inside ≡ parts_tokens parts
  pub trust_is_last : TrustIsLast parts
  pub are_known : AllZip (IsKnownPart principals) parts known
  pub means : IsMadeOf principals known label

-- the tokens are this label: its parts between braces
pub record IsLabelOf (principals : Declared) (tokens : List Token) (label : Label) : Type 0 where
  pub inside : List TokenKind
  pub braces : kinds tokens ≡ symbol LeftBrace ∷ inside ++ symbol RightBrace ∷ []
  pub parts : IsPartsOf principals inside label
