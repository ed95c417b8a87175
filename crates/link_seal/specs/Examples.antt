-- Parts of small sealed frames.
use Rattle.std.specs.Prelude.{ℕ, List, [], ◌∷◌, ◌++◌, replicate}
use Rattle.link_seal.specs.declared.sizes.TheConstants.{MOST_FRAMES}
use Rattle.link_seal.specs.Links.{LinkShape, new_link}

-- the link from host 1 to host 2, under any key
abbrev pub small_link : List ℕ → LinkShape
small_link key = new_link key (record { 0 = 1 }) (record { 0 = 2 })

-- the same, after the last of its frames
abbrev pub ended_link : List ℕ → LinkShape
ended_link key = record (small_link key) { next = MOST_FRAMES }

-- the text of a frame of one byte between hosts with these numbers, under a number below 256
abbrev pub small_text : ℕ → ℕ → ℕ → List ℕ
small_text from to number = from ∷ to ∷ (replicate 7 0 ++ (number ∷ 9 ∷ []))
