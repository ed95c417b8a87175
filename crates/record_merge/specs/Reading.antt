-- How reading journals may fail, in the program.
use Rattle.std.specs.Prelude.{◌≡◌, ⊤, ℕ, List, map, Some, Vec}
use Rattle.std.specs.Global.{Global}
use Rattle.js_base.specs.declared.ids.HostId.{HostId}
use Rattle.host_code.specs.Code.{CodeShape}
use Rattle.event_text.specs.Lines.{LineShape}
use Rattle.record_merge.specs.declared.journal.MergeError.{MergeError}
use Rattle.record_merge.specs.declared.journal.MergeError.TheVariants as error
use Rattle.record_merge.specs.declared.reading.JournalError.{JournalError}
use Rattle.record_merge.specs.declared.reading.JournalError.TheVariants as journal_error
use Rattle.record_merge.specs.Journals.{too_long, bad_line, fault_of, first_bad, first_fault}

-- the bytes of journals
abbrev pub bytes_of : List (Vec ℕ Global) → List (List ℕ)
bytes_of journals = map (λ journal. journal.items) journals

-- some line has no form
abbrev pub LinesFail : CodeShape → List LineShape → JournalError → Type 0
LinesFail code said journal_error.OutOfMemory = ⊤
LinesFail code said journal_error.TooLong = ⊥
LinesFail code said (journal_error.BadLine number) = first_bad code said ≡ Some number

-- a journal is not read
abbrev pub IsNotRead : CodeShape → List ℕ → JournalError → Type 0
IsNotRead code bytes journal_error.OutOfMemory = ⊤
IsNotRead code bytes journal_error.TooLong = fault_of code bytes ≡ Some too_long
IsNotRead code bytes (journal_error.BadLine number) = fault_of code bytes ≡ Some (bad_line number)

-- that of the host is not read
abbrev pub of_host : JournalError → HostId → MergeError
of_host journal_error.OutOfMemory host = error.OutOfMemory
of_host journal_error.TooLong host = error.TooLong host
of_host (journal_error.BadLine number) host = error.BadLine host number

-- one of the journals is not read
abbrev pub IsUnread : CodeShape → List (List ℕ) → MergeError → Type 0
IsUnread code journals error.OutOfMemory = ⊤
IsUnread code journals (error.TooLong host) = first_fault code 0 journals ≡ Some (host.0, too_long)
IsUnread code journals (error.BadLine host number) = first_fault code 0 journals ≡ Some (host.0, bad_line number)
IsUnread code journals (error.NoMatch host number) = ⊥
