-- What `jiftokens` answers and puts out, by its words and by what the files hold.
use Rattle.std.specs.Prelude.{◌≡◌, ℕ, ◌<◌, ◌≤◌, ◌⊎◌, List, [], ◌∷◌, ◌++◌, codes, length, Option, Some, None}
use Rattle.std.specs.Prelude.{IfSome, IsSomeAnd}
use Rattle.std.specs.Fmt.{decimal}
use Rattle.js_base.specs.Counts.{Rose}
use Rattle.js_base.specs.Sink.{Takes, TakesFront}
use Rattle.js_base.specs.declared.limits.TheConstants.{PROGRAM_BYTES}
use Rattle.js_base.specs.declared.text.TheConstants.{LINE_FEED}
use Rattle.js_base.specs.declared.status.Status.{Status}
use Rattle.js_base.specs.declared.status.Status.TheVariants as status
use Rattle.jif_lex.specs.declared.token.Token.{Token}
use Rattle.jif_lex.specs.Tokens.{ReadsAs, tokens, bad_byte, bad_number}
use Rattle.jiftokens.specs.Listing.{listing}
use Rattle.text_places.specs.Places.{place_text}

-- a listing on the output, or a line on the error output with the status of a refusal
pub data Shape : Type 0 where
  lists : List ℕ → Shape
  refuses : Status → List ℕ → Shape

-- ---- what is due

-- a line, after the program's name
abbrev pub error_line : List ℕ → List ℕ
error_line text = codes "jiftokens: " ++ (text ++ LINE_FEED ∷ [])

abbrev pub usage : Shape
usage = refuses status.Usage (error_line (codes "usage: P"))

abbrev pub no_such_file : List ℕ → Shape
no_such_file name = refuses status.InputRefused (error_line (name ++ codes ": no such file"))

abbrev pub file_fault : List ℕ → Shape
file_fault name = refuses status.FileFault (error_line (codes "file fault: " ++ name))

abbrev pub too_long : Shape
too_long = refuses status.SourceRefused (error_line (codes "too long"))

-- at this place of a text no token can be read: `WHAT at K, line L column C`
abbrev pub refused_at : List ℕ → List ℕ → ℕ → Shape
refused_at what text at =
    refuses status.SourceRefused (error_line (what ++ (codes " at " ++ (decimal at ++ (codes ", "
    ++ place_text text at)))))

-- what is due for a program of these bytes
pub data IsDueFor (text : List ℕ) (shape : Shape) : Type 0 where
  listed : (list : List Token) → length text ≤ PROGRAM_BYTES → ReadsAs text (tokens list) →
      shape ≡ lists (listing text list) → IsDueFor text shape
  byte : (at : ℕ) → length text ≤ PROGRAM_BYTES → ReadsAs text (bad_byte at) →
      shape ≡ refused_at (codes "bad byte") text at → IsDueFor text shape
  number : (at : ℕ) → length text ≤ PROGRAM_BYTES → ReadsAs text (bad_number at) →
      shape ≡ refused_at (codes "bad number") text at → IsDueFor text shape
  long : PROGRAM_BYTES < length text → shape ≡ too_long → IsDueFor text shape

-- where the files tell what they hold, this is held under the name
abbrev pub Told : Option (List ℕ → Option (List ℕ)) → List ℕ → Option (List ℕ) → Type 0
Told held name content = IfSome held (λ holds. holds name ≡ content)

-- what is due for a file of this name, by what the files hold, or where they counted a fault
pub data IsDueForFile (name : List ℕ) (held : Option (List ℕ → Option (List ℕ))) (before after : ℕ) (shape : Shape)
    : Type 0 where
  absent : Told held name None → shape ≡ no_such_file name → IsDueForFile name held before after shape
  failed : Rose before after → shape ≡ file_fault name → IsDueForFile name held before after shape
  oversized : IfSome held (λ holds. IsSomeAnd (holds name) (λ text. PROGRAM_BYTES < length text)) → shape ≡ too_long →
      IsDueForFile name held before after shape
  loaded : (text : List ℕ) → Told held name (Some text) → IsDueFor text shape →
      IsDueForFile name held before after shape

-- what is due for the words
abbrev pub IsDue : List (List ℕ) → Option (List ℕ → Option (List ℕ)) → (before after : ℕ) → Shape → Type 0
IsDue [] held before after shape = shape ≡ usage
IsDue (name ∷ []) held before after shape = IsDueForFile name held before after shape
IsDue (name ∷ other ∷ words) held before after shape = shape ≡ usage

-- ---- what is put

-- a refusal by this status, which is never due
abbrev pub IsOutFault : Shape → Type 0
IsOutFault (lists text) = ⊥
IsOutFault (refuses refused line) = refused ≡ status.OutFault

-- all that is due was put, with this status
abbrev pub IsPut : Shape → Status → (out out_after err err_after : Option (List ℕ)) → Type 0
IsPut (lists text) answer out out_after err err_after =
    (answer ≡ status.Done) × Takes text out out_after × (err_after ≡ err)
IsPut (refuses refused line) answer out out_after err err_after =
    (answer ≡ refused) × (out_after ≡ out) × Takes line err err_after

-- no more than a front of it
abbrev pub IsPutInPart : Shape → (out out_after err err_after : Option (List ℕ)) → Type 0
IsPutInPart (lists text) out out_after err err_after = TakesFront text out out_after × (err_after ≡ err)
IsPutInPart (refuses refused line) out out_after err err_after = (out_after ≡ out) × TakesFront line err err_after

-- What belongs to the words was put whole, or an output failed or memory ran out meanwhile. Or it ran out before.
abbrev pub Answers : List (List ℕ) → Option (List ℕ → Option (List ℕ)) → (before after : ℕ) → Status →
    (out out_after err err_after : Option (List ℕ)) → Type 0
Answers words held before after answer out out_after err err_after =
    ((shape : Shape) × IsDue words held before after shape
    × (IsPut shape answer out out_after err err_after
    ⊎ (((answer ≡ status.OutFault) ⊎ (answer ≡ status.NoMemory)) × IsPutInPart shape out out_after err err_after)))
    ⊎ ((answer ≡ status.NoMemory) × (out_after ≡ out) × (err_after ≡ err))
