-- Reading the bytes of a split file from the front, up to the first fault.
use Rattle.std.specs.Prelude.{◌≡◌, ℕ, ℤ, Bool, List, length, Result, Ok, Err}
use Rattle.std.specs.Int.{Width, w32}
use Rattle.byte_format.specs.Reader as shared
use Rattle.byte_format.specs.Reader.{◌>>=◌, given, require}
use Rattle.split_file.specs.declared.fault.Fault.{Fault}
use Rattle.split_file.specs.declared.fault.Fault.TheVariants as fault
use Rattle.split_file.specs.declared.fault.ReadError.{ReadError}
use Rattle.split_file.specs.declared.fault.ReadError.TheVariants as error

-- what is read from the front of bytes, and what is left of them
abbrev pub SplitReader : Type 0 → Type 0
SplitReader A = shared.Reader Fault A

-- reads nothing: a place is known by how many bytes there are from it on
unfoldable pub place : SplitReader ℕ
place bytes = Ok (length bytes, bytes)

-- an item that has to pass a test, or is out of range at its first byte
unfoldable pub in_range : {A : Type 0} → (A → Bool) → SplitReader A → SplitReader A
in_range test item = do
  at ← place
  x ← item
  _ ← require (test x) (fault.BadField at)
  given x

-- ---- numbers and texts, which bytes that end too soon do not hold

abbrev pub byte_at : SplitReader ℕ
byte_at = shared.byte_at fault.Short

abbrev pub bytes_at : ℕ → SplitReader (List ℕ)
bytes_at count = shared.bytes_at fault.Short count

abbrev pub number_at : Width → SplitReader ℕ
number_at width = shared.number_at fault.Short width

abbrev pub integer_at : SplitReader ℤ
integer_at = shared.integer_at fault.Short

unfoldable pub text_at : SplitReader (List ℕ)
text_at = do
  count ← number_at w32
  bytes_at count

-- ---- lists

abbrev pub list_at : {A : Type 0} → (List A → SplitReader A) → SplitReader (List A)
list_at item = shared.list_at fault.Short item

-- ---- what a call answers

abbrev pub ReadFails : {Y : Type 0} → ReadError → Result Y Fault → Type 0
ReadFails error.OutOfMemory reading = Unit {0}
ReadFails (error.Fault what) reading = reading ≡ Err what

-- what the call returned, as contracts see it, is what there is to read, unless memory ran out
abbrev pub GivesRead : {X Y : Type 0} → (X → Y) → Result X ReadError → Result Y Fault → Type 0
GivesRead view (Ok x) reading = reading ≡ Ok (view x)
GivesRead view (Err e) reading = ReadFails e reading
