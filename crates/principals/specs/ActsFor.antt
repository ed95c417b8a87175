-- Principals, and who acts for whom, after the decentralized label model of Myers and Liskov. A declared principal is
-- known by its place in the list of the names, and a name is the list of its bytes. At most `PRINCIPALS` are declared,
-- so the numbers below it stand for principals, and it for the outsider, whom nobody declares.
use Rattle.std.specs.Prelude.{◌≡◌, ℕ, ◌<◌, ◌≤◌, ◌⊎◌, List, [], ◌∷◌, All, Contains, length}
use Rattle.std.specs.Prelude.{Bool, IsTrue}
use Rattle.std.specs.List.{IsDistinct}
use Rattle.std.specs.Str.{bytes_eq}
use Rattle.js_base.specs.Name.{IsName}
use Rattle.js_base.specs.declared.ids.PrincipalId.{PrincipalId}
use Rattle.js_base.specs.declared.limits.TheConstants.{PRINCIPALS}

-- the reader who stands for everyone that is no declared principal
abbrev pub outsider : ℕ
outsider = PRINCIPALS

-- the names in order, and the declared pairs: the first of a pair acts for the second
pub record Declared : Type 0 where
  pub names : List (List ℕ)
  pub pairs : List (ℕ × ℕ)

-- names that may be declared together: few enough, and no two the same
pub record AreDeclarable (names : List (List ℕ)) : Type 0 where
  pub few : length names ≤ PRINCIPALS
  pub distinct : IsDistinct bytes_eq names

-- the names are names of the language and may be declared together, and every pair is of declared principals
pub record IsDeclared (principals : Declared) : Type 0 where
  pub spelled : All IsName principals.names
  pub names : AreDeclarable principals.names
  pub pairs : All (λ pair. (pair.0 < length principals.names) × (pair.1 < length principals.names)) principals.pairs

-- each of these principals is declared
abbrev pub AreDeclared : Declared → List PrincipalId → Type 0
AreDeclared principals members = All (λ member. member.0 < length principals.names) members

-- the declared pairs lead from the first to the last over those between
abbrev pub LeadsTo : List (ℕ × ℕ) → ℕ → List ℕ → ℕ → Type 0
LeadsTo pairs first [] last = first ≡ last
LeadsTo pairs first (next ∷ between) last = Contains pairs (first, next) × LeadsTo pairs next between last

-- some chain of these pairs leads from the first to the second
abbrev pub LeadsFrom : List (ℕ × ℕ) → ℕ → ℕ → Type 0
LeadsFrom pairs first second = (between : List ℕ) × LeadsTo pairs first between second

-- The first acts for the second: a chain of declared pairs leads from the one to the other. The empty chain leads from
-- each to itself, and no pair has the outsider.
abbrev pub ActsFor : Declared → ℕ → ℕ → Type 0
ActsFor principals first second = LeadsFrom principals.pairs first second

-- who may read: the declared principals and the outsider
abbrev pub IsReader : Declared → ℕ → Type 0
IsReader principals reader = (reader < length principals.names) ⊎ (reader ≡ outsider)

-- a relation that leads from each to itself, and goes on over another
pub record IsPreorder (relation : ℕ → ℕ → Bool) : Type 0 where
  pub reflexive : (p : ℕ) → IsTrue (relation p p)
  pub transitive : (p q r : ℕ) → IsTrue (relation p q) → IsTrue (relation q r) → IsTrue (relation p r)
