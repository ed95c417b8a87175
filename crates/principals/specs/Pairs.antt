-- Pairs of principals by their numbers.
use Rattle.std.specs.Prelude.{ℕ, List, map}
use Rattle.js_base.specs.declared.ids.PrincipalId.{PrincipalId}

abbrev pub pair_of : PrincipalId × PrincipalId → ℕ × ℕ
pair_of pair = (pair.0.0, pair.1.0)

abbrev pub pairs_of : List (PrincipalId × PrincipalId) → List (ℕ × ℕ)
pairs_of pairs = map pair_of pairs
