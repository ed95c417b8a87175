-- The parts of a message as reports and scripts write them, each a word without blanks.
use Rattle.std.specs.Prelude.{ℕ, ◌==◌, ◌^◌, nat_lt, if◌then◌else◌, List, [], ◌∷◌, Option, Some, None, position}
use Rattle.std.specs.List.{slice_split}
use Rattle.std.specs.Option.{option_map}
use Rattle.std.specs.Str.{bytes_eq}
use Rattle.js_base.specs.declared.ids.HostId.{HostId}
use Rattle.js_base.specs.declared.ids.FieldId.{FieldId}
use Rattle.js_base.specs.declared.ids.VarId.{VarId}
use Rattle.js_base.specs.declared.ids.EntryId.{EntryId}
use Rattle.js_base.specs.declared.ids.FrameId.{FrameId}
use Rattle.js_base.specs.declared.ids.RequestId.{RequestId}
use Rattle.host_code.specs.Code.{CodeHostShape, CodeFieldShape, CodeVariableShape}
use Rattle.event_text.specs.Numbers.{number_of}
use Rattle.event_text.specs.Words.{Word, two_words, of_two}

-- ---- names

-- the first host of the name
abbrev pub host_named : List CodeHostShape → Word → Option HostId
host_named hosts word = option_map (λ n. record { 0 = n }) (position (λ host. bytes_eq word host.name) hosts)

-- the first field of the name
abbrev pub field_of : List CodeFieldShape → Word → Option FieldId
field_of fields word = option_map (λ n. record { 0 = n }) (position (λ field. bytes_eq word field.name) fields)

-- the first variable of the name, which is that of its method, a point and its own
abbrev pub variable_of : List CodeVariableShape → Word → Option VarId
variable_of variables word =
    option_map (λ n. record { 0 = n }) (position (λ variable. bytes_eq word variable.name) variables)

-- ---- numbers

-- a number of 32 bits
abbrev pub narrow : Option ℕ → Option ℕ
narrow None = None
narrow (Some number) = if nat_lt number (2 ^ 32) then Some number else None

-- what bytes of this kind part, which may be nothing
abbrev pub parts : ℕ → Word → List Word
parts mark word = slice_split (λ byte. byte == mark) word

abbrev pub point : ℕ
point = 46

abbrev pub colon : ℕ
colon = 58

-- two numbers with a point between them: one of 32 bits, and then one of 64
abbrev pub pair_in : Option (Word × Word) → Option (ℕ × ℕ)
pair_in None = None
pair_in (Some words) = of_two (λ first second. (first, second)) (narrow (number_of words.0)) (number_of words.1)

abbrev pub pair_of : Word → Option (ℕ × ℕ)
pair_of word = pair_in (two_words (parts point word))

-- the number of an instruction, and of how many requests it made before
abbrev pub request_of : Word → Option RequestId
request_of word = option_map (λ pair. record { at = pair.0; count = pair.1 }) (pair_of word)

-- the number of a call site, and of how many frames were made there before
abbrev pub frame_of : Word → Option FrameId
frame_of word = option_map (λ pair. record { site = record { 0 = pair.0 }; count = pair.1 }) (pair_of word)

-- `e` and the number of an entry
abbrev pub entry_of : Word → Option EntryId
entry_of [] = None
entry_of (byte ∷ digits) =
    if byte == 101 then option_map (λ n. record { 0 = n }) (narrow (number_of digits)) else None
