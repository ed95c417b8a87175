-- What the bytes of a journal say, or why they say nothing.
--
-- A journal has lines as scripts have them. Those that tell of a turn, a take or a send are merged. Besides these, a
-- host notes what it was sent that is no message, and who is done; such lines have to have a form too.
use Rattle.std.specs.Prelude.{ℕ, ◌+◌, Bool, true, false, not, ◌&&◌, ◌||◌, nat_lt, if◌then◌else◌, List, [], ◌∷◌, filter}
use Rattle.std.specs.Prelude.{Option, Some, None, is_some, length, codes}
use Rattle.std.specs.Option.{option_map}
use Rattle.std.specs.Str.{bytes_eq}
use Rattle.js_base.specs.declared.limits.TheConstants.{SCRIPT_BYTES}
use Rattle.host_code.specs.Code.{CodeShape}
use Rattle.event_text.specs.Acts.{printed_message}
use Rattle.event_text.specs.Lines.{LineShape, said_lines}
use Rattle.event_text.specs.Parts.{host_named}
use Rattle.event_text.specs.Words.{Word, one_word}

-- ---- lines

abbrev pub is_nothing : List Word → Bool
is_nothing [] = true
is_nothing (word ∷ words) = false

-- `HOST MESSAGE`, where tokens are written as they are printed
abbrev pub is_of_message : CodeShape → List Word → Bool
is_of_message code [] = false
is_of_message code (host ∷ words) = is_some (host_named code.hosts host) && is_some (printed_message code words)

-- why a frame is no message, or was not sealed as it has to be
abbrev pub is_reason : Word → Bool
is_reason word =
    ((((bytes_eq word (codes "short") || bytes_eq word (codes "kind")) || bytes_eq word (codes "field"))
    || bytes_eq word (codes "long")) || bytes_eq word (codes "trailing")) || bytes_eq word (codes "seal")

abbrev pub is_reason_said : Option Word → Bool
is_reason_said None = false
is_reason_said (Some word) = is_reason word

abbrev pub is_of_reason : List Word → Bool
is_of_reason words = is_reason_said (one_word words)

abbrev pub is_host_said : CodeShape → Option Word → Bool
is_host_said code None = false
is_host_said code (Some word) = is_some (host_named code.hosts word)

abbrev pub is_of_host : CodeShape → List Word → Bool
is_of_host code words = is_host_said code (one_word words)

-- `turn`, `take HOST MESSAGE`, `send HOST MESSAGE`, `bad REASON` or `done HOST`
abbrev pub has_form : CodeShape → List Word → Bool
has_form code [] = false
has_form code (verb ∷ words) =
    if bytes_eq verb (codes "turn") then is_nothing words
    else (if bytes_eq verb (codes "take") then is_of_message code words
    else (if bytes_eq verb (codes "send") then is_of_message code words
    else (if bytes_eq verb (codes "bad") then is_of_reason words
    else (if bytes_eq verb (codes "done") then is_of_host code words
    else false))))

-- it tells of what was dropped or of who is done, and neither of a step nor of what was sent
abbrev pub is_aside : List Word → Bool
is_aside [] = false
is_aside (verb ∷ words) = bytes_eq verb (codes "bad") || bytes_eq verb (codes "done")

-- ---- journals

-- the lines of steps and of what was sent
abbrev pub step_lines : List LineShape → List LineShape
step_lines lines = filter (λ line. not (is_aside line.words)) lines

-- the number of the first line without form
abbrev pub first_bad : CodeShape → List LineShape → Option ℕ
first_bad code [] = None
first_bad code (line ∷ others) = if has_form code line.words then first_bad code others else Some line.number

-- the lines of a journal that are merged, by its bytes
abbrev pub journal_lines : List ℕ → List LineShape
journal_lines bytes = step_lines (said_lines bytes)

-- why a journal is not read
pub data Fault : Type 0 where
  too_long : Fault
  bad_line : ℕ → Fault

abbrev pub fault_of : CodeShape → List ℕ → Option Fault
fault_of code bytes =
    if nat_lt SCRIPT_BYTES (length bytes) then Some too_long
    else option_map (λ number. bad_line number) (first_bad code (said_lines bytes))

-- the first journal that is not read, where the first of all has this number, and why
abbrev pub or_later : ℕ → Option Fault → Option (ℕ × Fault) → Option (ℕ × Fault)
or_later number None later = later
or_later number (Some fault) later = Some (number, fault)

abbrev pub first_fault : CodeShape → ℕ → List (List ℕ) → Option (ℕ × Fault)
first_fault code number [] = None
first_fault code number (journal ∷ journals) =
    or_later number (fault_of code journal) (first_fault code (number + 1) journals)
