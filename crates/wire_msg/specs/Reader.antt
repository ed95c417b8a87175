-- Reading the bytes of a frame from the front, up to the first fault.
use Rattle.std.specs.Prelude.{◌≡◌, ℕ, ℤ, List, [], ◌∷◌, Result, Ok, Err, MatchResult}
use Rattle.std.specs.Int.{Width}
use Rattle.byte_format.specs.Reader as shared
use Rattle.wire_msg.specs.declared.error.WireError.{WireError}
use Rattle.wire_msg.specs.declared.error.WireError.TheVariants as refusal

-- what is read from the front of bytes, and what is left of them
abbrev pub WireReader : Type 0 → Type 0
WireReader A = shared.Reader WireError A

-- reads nothing: what was read of other bytes
unfoldable pub known : {A : Type 0} → Result A WireError → WireReader A
known (Ok x) bytes = Ok (x, bytes)
known (Err what) bytes = Err what

-- ---- numbers, which bytes that end too soon do not hold

abbrev pub byte_at : WireReader ℕ
byte_at = shared.byte_at refusal.Short

abbrev pub bytes_at : ℕ → WireReader (List ℕ)
bytes_at count = shared.bytes_at refusal.Short count

abbrev pub number_at : Width → WireReader ℕ
number_at width = shared.number_at refusal.Short width

abbrev pub integer_at : WireReader ℤ
integer_at = shared.integer_at refusal.Short

-- ---- to the end

abbrev pub ended : {A : Type 0} → A → List ℕ → Result A WireError
ended x [] = Ok x
ended x (byte ∷ bytes) = Err refusal.Trailing

abbrev pub to_the_end : {A : Type 0} → Result (A × List ℕ) WireError → Result A WireError
to_the_end (Ok x) = ended x.0 x.1
to_the_end (Err what) = Err what

-- what all of some bytes are read as
unfoldable pub whole : {A : Type 0} → WireReader A → List ℕ → Result A WireError
whole reader bytes = to_the_end (reader bytes)

-- ---- what a call answers

-- what the call returned, as contracts see it, is what there is to read
abbrev pub GivesWire : {X Y : Type 0} → (X → Y) → Result X WireError → Result Y WireError → Type 0
GivesWire view result reading = MatchResult result (λ x. reading ≡ Ok (view x)) (λ what. reading ≡ Err what)
