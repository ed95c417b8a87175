-- What is due for the words, by what the files hold and did. A word, a line and a file are lists of bytes.
use Rattle.std.specs.Prelude.{◌≡◌, ◌≢◌, ◌<◌, ◌≤◌, ℕ, zero, suc, ◌+◌, ◌⊎◌, ⊤, List, [], ◌∷◌, codes, length, Option}
use Rattle.std.specs.Prelude.{Some}
use Rattle.std.specs.List.{AllZip}
use Rattle.js_base.specs.declared.limits.TheConstants.{HOSTS_BYTES, PROGRAM_BYTES, SCRIPT_BYTES}
use Rattle.host_decl.specs.Hosts.{HostsShape}
use Rattle.jif_grammar.specs.DraftShapes.{DraftShape}
use Rattle.front_end.specs.declared.load.Loaded.{Loaded}
use Rattle.front_end.specs.Loading.{IsLoaded}
use Rattle.front_end.specs.Loads.{FilesChange, Told, LoadsWell, IsFirstAbsent, IsFileFault}
use Rattle.front_end.specs.PlacedSources.{OnHosts}
use Rattle.front_end.specs.Sources.{DraftAccepted, Drafted, HostsRead}
use Rattle.front_end.specs.Stages.{DueThen}
use Rattle.front_end.specs.Verdicts.{VerdictShape, no_such_file, wrong_journals}
use Rattle.front_end.specs.Verdicts as verdicts
use Rattle.jifmerge.specs.Merged.{DueForPlaced}
use Rattle.jifmerge.specs.declared.due.TheConstants.{FEWEST}

-- `P H START J1 .. Jn`: a program, a host file, a file of starting values, and a journal for each host
abbrev pub usage : VerdictShape
usage = verdicts.usage (codes "P H START J1 .. Jn")

-- ---- what is due for bytes

-- a draft and hosts that were read
abbrev pub DueForAccepted : (name : List ℕ) (names : List (List ℕ)) (start : List ℕ) (journals : List (List ℕ)) →
    HostsShape → DraftShape → VerdictShape → Type 0
DueForAccepted name names start journals file draft =
    DueThen (DraftAccepted file draft) (λ source. DueThen (OnHosts source) (DueForPlaced name names start journals))

-- There has to be one journal for each host.
pub data DueForCount (name : List ℕ) (names : List (List ℕ)) (start : List ℕ) (journals : List (List ℕ))
    (draft : DraftShape) (file : HostsShape) : VerdictShape → Type 0 where
  wrong_count : length journals ≢ length file.hosts →
      DueForCount name names start journals draft file wrong_journals
  counted : (verdict : VerdictShape) → length journals ≡ length file.hosts →
      DueForAccepted name names start journals file draft verdict →
      DueForCount name names start journals draft file verdict

-- a program, a host file, a file of starting values, and journals
abbrev pub DueForContents : (name : List ℕ) (names : List (List ℕ)) (program hosts start : List ℕ)
    (journals : List (List ℕ)) → VerdictShape → Type 0
DueForContents name names program hosts start journals =
    DueThen (Drafted program) (λ draft. DueThen (HostsRead hosts) (DueForCount name names start journals draft))

-- the same for words that name files which hold these bytes
abbrev pub DueForBytes : (words bytes : List (List ℕ)) → VerdictShape → Type 0
DueForBytes (program ∷ hosts ∷ name ∷ names) (p ∷ h ∷ s ∷ js) verdict = DueForContents name names p h s js verdict
DueForBytes words bytes verdict = ⊥

-- ---- what is due for words

-- What is due for words where no load fails, and the number of loads that come before it: those up to the first file
-- that is absent, or those of all. Where files do not tell what they hold, they hold some bytes.
pub data Due (words : List (List ℕ)) (held : Option (List ℕ → Option (List ℕ))) : ℕ → VerdictShape → Type 0 where
  few_words : length words < FEWEST → Due words held 0 usage
  absent : (place : ℕ) (file : List ℕ) → FEWEST ≤ length words → IsFirstAbsent held words place file →
      Due words held (place + 1) (no_such_file file)
  loaded : (bytes : List (List ℕ)) (verdict : VerdictShape) → FEWEST ≤ length words →
      AllZip (λ file content. Told held file (Some content)) words bytes → DueForBytes words bytes verdict →
      Due words held (length words) verdict

-- what is due for the words and for what the files did: what is due by what they hold, or a file fault
abbrev pub IsDue : List (List ℕ) → FilesChange → VerdictShape → Type 0
IsDue words files verdict =
    ((number : ℕ) × Due words files.held number verdict × LoadsWell number files)
    ⊎ ((FEWEST ≤ length words) × IsFileFault words files verdict)

-- ---- in the program

-- how many bytes are read of the file at this place of the words
abbrev pub most_of : ℕ → ℕ
most_of zero = PROGRAM_BYTES
most_of (suc zero) = HOSTS_BYTES
most_of (suc (suc place)) = SCRIPT_BYTES

-- the files of words, of which the first has this place
abbrev pub names_with_most : ℕ → List (List ℕ) → List (List ℕ × ℕ)
names_with_most place [] = []
names_with_most place (word ∷ words) = (word, most_of place) ∷ names_with_most (place + 1) words

-- this was loaded of files that hold these bytes, of which the first has this place
abbrev pub AreLoaded : ℕ → List (List ℕ) → List Loaded → Type 0
AreLoaded place [] [] = ⊤
AreLoaded place (bytes ∷ others) (one ∷ more) =
    IsLoaded (most_of place) bytes one × AreLoaded (place + 1) others more
AreLoaded place bytes all = ⊥
