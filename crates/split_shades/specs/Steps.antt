-- A walk in steps, whatever a step is.
use Rattle.std.specs.Prelude.{◌≡◌, List, [], ◌∷◌}
use Rattle.split_rules.specs.Emissions.{Emission}

-- emissions lead from one state to another, each by a step
abbrev pub AreSteps : {K : Type 0} → (K → Emission → K → Type 0) → K → List Emission → K → Type 0
AreSteps {K} Step first [] last = first ≡ last
AreSteps {K} Step first (emission ∷ others) last =
    (middle : K) × Step first emission middle × AreSteps Step middle others last
