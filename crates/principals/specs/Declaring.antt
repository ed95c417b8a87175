-- What becomes of the names and the pairs that are to be declared.
use Rattle.std.specs.Prelude.{◌≡◌, ◌≤◌, ◌<◌, ◌⊎◌, ℕ, List, [], ◌∷◌, Contains, length, map}
use Rattle.std.specs.Prelude.{Some, slice_get}
use Rattle.std.specs.Prelude.{String, string_bytes, ⊤}
use Rattle.std.specs.List.{AllZip}
use Rattle.std.specs.declared.alloc.Global.{Global}
use Rattle.js_base.specs.declared.limits.TheConstants.{PRINCIPALS}
use Rattle.js_base.specs.Named.{IsFirstRepeated}
use Rattle.principals.specs.ActsFor.{Declared, AreDeclarable}
use Rattle.principals.specs.declared.principals.PrincipalError.{PrincipalError}
use Rattle.principals.specs.declared.principals.PrincipalError.TheVariants.{OutOfMemory, TooMany, Twice, Unknown}

-- pairs of names as they are written
abbrev pub written_pair : String Global × String Global → List ℕ × List ℕ
written_pair pair = (string_bytes pair.0, string_bytes pair.1)

abbrev pub written_pairs : List (String Global × String Global) → List (List ℕ × List ℕ)
written_pairs pairs = map written_pair pairs

-- the principal's name
abbrev pub IsNamed : List (List ℕ) → List ℕ → ℕ → Type 0
IsNamed names name principal = slice_get names principal ≡ Some name

-- the principals with these two names
abbrev pub IsPairOf : List (List ℕ) → List ℕ × List ℕ → ℕ × ℕ → Type 0
IsPairOf names written pair = IsNamed names written.0 pair.0 × IsNamed names written.1 pair.1

-- These names and pairs of names are declared as these principals. So the names may be declared together, and each pair
-- is of two of them.
pub record AreDeclaredAs (names : List (List ℕ)) (pairs : List (List ℕ × List ℕ)) (principals : Declared)
    : Type 0 where
  pub declarable : AreDeclarable names
  pub names_are : principals.names ≡ names
  pub pairs_are : AllZip (IsPairOf names) pairs principals.pairs

-- the names that pairs mention, in order
abbrev pub mentioned_names : List (List ℕ × List ℕ) → List (List ℕ)
mentioned_names [] = []
mentioned_names (pair ∷ pairs) = pair.0 ∷ pair.1 ∷ mentioned_names pairs

-- the first of the mentioned names that none of the names is
abbrev pub IsFirstUnknown : List (List ℕ) → List (List ℕ) → List ℕ → Type 0
IsFirstUnknown names [] name = ⊥
IsFirstUnknown names (next ∷ rest) name =
    ((¬ Contains names next) × (name ≡ next)) ⊎ (Contains names next × IsFirstUnknown names rest name)

-- memory ran out, or the first of these names that is none of the names is this one
abbrev pub IsUnknownIn : List (List ℕ) → List (List ℕ) → PrincipalError → Type 0
IsUnknownIn names used OutOfMemory = ⊤
IsUnknownIn names used TooMany = ⊥
IsUnknownIn names used (Twice name) = ⊥
IsUnknownIn names used (Unknown name) = IsFirstUnknown names used (string_bytes name)

-- Why names and pairs are not declared: too many names, otherwise a repeated name, otherwise a pair with an undeclared
-- name. Memory may run out at any time.
abbrev pub Refuses : List (List ℕ) → List (List ℕ × List ℕ) → PrincipalError → Type 0
Refuses names pairs OutOfMemory = ⊤
Refuses names pairs TooMany = PRINCIPALS < length names
Refuses names pairs (Twice name) = (length names ≤ PRINCIPALS) × IsFirstRepeated names (string_bytes name)
Refuses names pairs (Unknown name) =
    AreDeclarable names × IsFirstUnknown names (mentioned_names pairs) (string_bytes name)
