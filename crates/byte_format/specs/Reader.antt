-- Reading bytes from the front, up to the first fault. Each format has its own type of faults, and says which of them
-- is that of bytes that end too soon.
use Rattle.std.specs.Prelude.{ℕ, zero, suc, ℤ, Bool, true, false, if◌then◌else◌, List, [], ◌∷◌, ◌++◌, length, take}
use Rattle.std.specs.Prelude.{drop, nat_lt, Result, Ok, Err, ⊤}
use Rattle.std.specs.Int.{Width, w32, w64, byte_len, from_be_bytes, cast_signed}

-- what is read from the front of bytes, and what is left of them
abbrev pub Reader : Type 0 → Type 0 → Type 0
Reader E A = List ℕ → Result (A × List ℕ) E

-- ---- readers in a row

-- what was read is given to the next reader, with what is left
abbrev pub handed_on : {E A B : Type 0} → Result (A × List ℕ) E → (A → Reader E B) → Result (B × List ℕ) E
handed_on (Ok x) next = next x.0 x.1
handed_on (Err what) next = Err what

-- the second reads what the first leaves
unfoldable pub sequel : {E A B : Type 0} → Reader E A → (A → Reader E B) → Reader E B
sequel first next bytes = handed_on (first bytes) next

-- the same, as `do` blocks have it
infixl 10 ◌>>=◌
abbrev pub ◌>>=◌ : {E A B : Type 0} → Reader E A → (A → Reader E B) → Reader E B
first >>= next = sequel first next

-- reads nothing
unfoldable pub given : {E A : Type 0} → A → Reader E A
given x bytes = Ok (x, bytes)

-- reads nothing, and refuses
unfoldable pub refused : {E A : Type 0} → E → Reader E A
refused what bytes = Err what

-- reads nothing, and refuses where the test fails
unfoldable pub require : {E : Type 0} → Bool → E → Reader E ⊤
require true what bytes = Ok (tt, bytes)
require false what bytes = Err what

-- ---- numbers

-- the first byte
unfoldable pub byte_at : {E : Type 0} → E → Reader E ℕ
byte_at short [] = Err short
byte_at short (byte ∷ bytes) = Ok (byte, bytes)

-- so many bytes
unfoldable pub bytes_at : {E : Type 0} → E → ℕ → Reader E (List ℕ)
bytes_at short count bytes =
    if nat_lt (length bytes) count then Err short else Ok (take count bytes, drop count bytes)

-- with its highest byte first
unfoldable pub number_at : {E : Type 0} → E → Width → Reader E ℕ
number_at short width bytes =
    if nat_lt (length bytes) (byte_len width)
    then Err short
    else Ok (from_be_bytes width (take (byte_len width) bytes), drop (byte_len width) bytes)

-- a signed number of eight bytes
unfoldable pub integer_at : {E : Type 0} → E → Reader E ℤ
integer_at short = do
  word ← number_at short w64
  given (cast_signed w64 word)

-- ---- lists

-- so many more items, each read by what stands before it
unfoldable pub items_at : {E A : Type 0} → (List A → Reader E A) → List A → ℕ → Reader E (List A)
items_at item before zero = given before
items_at item before (suc count) = do
  next ← item before
  items_at item (before ++ next ∷ []) count

-- items, behind their count
unfoldable pub list_at : {E A : Type 0} → E → (List A → Reader E A) → Reader E (List A)
list_at short item = do
  count ← number_at short w32
  items_at item [] count
