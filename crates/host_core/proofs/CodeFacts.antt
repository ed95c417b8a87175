-- What the soundness of a code gives a host that runs it.
use Rattle.std.proofs.Common.{ℕ, ◌<◌, zero, suc, List, [], ◌∷◌, length, arith}
use Rattle.std.specs.Prelude.{IsSomeAnd, slice_get}
use Rattle.host_code.specs.Code.{CodeShape}
use Rattle.host_code.specs.Sound.{IsSoundCode}

pub some_within : {X : Type 0} (P : X → Type 0) (items : List X) (place : ℕ) → IsSomeAnd (slice_get items place) P
    → place < length items
some_within P [] place there = absurd there
some_within P (item ∷ items) zero there = omega arith
some_within P (item ∷ items) (suc place) there =
    let below : place < length items = some_within P items place there in omega arith

pub halt_there : (code : CodeShape) → IsSoundCode code → 0 < length code.entries
halt_there code sound = some_within _ code.entries 0 sound.halt_first
