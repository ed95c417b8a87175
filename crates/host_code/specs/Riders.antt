-- Values that ride: variables whose values go to another host together with the thread, in the message that hands it
-- over.
use Rattle.std.specs.Prelude.{ℕ, ℤ, pos, ◌-◌, ◌≤◌, ◌&&◌, nat_le, if◌then◌else◌}
use Rattle.std.specs.Prelude.{List, ◌++◌, map, length, replicate, Option, Some, None}
use Rattle.js_base.specs.declared.ids.VarId.{VarId}
use Rattle.host_code.specs.declared.riders.TheConstants.{MOST_RIDERS}

-- a variable, and the value that rides for it
abbrev pub Rider : Type 0
Rider = VarId × ℤ

-- some ride, and not too many
abbrev pub AreFew : {A : Type 0} → List A → Type 0
AreFew riders = (1 ≤ length riders) × (length riders ≤ MOST_RIDERS)

-- the riders of these pairs, where they are few
abbrev pub riders_from : List Rider → Option (List Rider)
riders_from pairs = if nat_le 1 (length pairs) && nat_le (length pairs) MOST_RIDERS then Some pairs else None

abbrev pub names_of : List Rider → List VarId
names_of riders = map (λ rider. rider.0) riders

-- ---- as an array has them

abbrev pub blank : Rider
blank = (record { 0 = 0 }, pos 0)

-- with blank pairs behind them
abbrev pub padded : List Rider → List Rider
padded riders = riders ++ replicate (MOST_RIDERS - length riders) blank
