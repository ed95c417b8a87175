-- The lines of a journal that count, or the first of its lines that is refused.
--
-- A journal of one host has the lines that are merged elsewhere, and its last line has to be ended: of a line that was
-- cut nobody knows what it said.
use Rattle.std.specs.Prelude.{◌≡◌, ◌<◌, ◌≤◌, ◌⊎◌, ℕ, Bool, true, false, not, ◌==◌, nat_lt, if◌then◌else◌}
use Rattle.std.specs.Prelude.{List, [], ◌∷◌, length, Option, Some, None}
use Rattle.std.specs.Str.Lines.{lines}
use Rattle.js_base.specs.declared.text.TheConstants.{LINE_FEED}
use Rattle.host_code.specs.Code.{CodeShape}
use Rattle.event_text.specs.Lines.{LineShape, said_lines}
use Rattle.record_merge.specs.Journals.{first_bad, journal_lines}
use Rattle.record_merge.specs.declared.lines.TheConstants.{JOURNAL_BYTES}
use Rattle.front_end.specs.declared.refusal.LineCause.{LineCause}
use Rattle.front_end.specs.declared.refusal.LineCause.TheVariants as cause
use Rattle.front_end.specs.Stages.{StageEnd, given, stopped}
use Rattle.front_end.specs.Verdicts.{VerdictShape, at_line, too_long}

-- there is text behind the last line feed
abbrev pub is_open : List ℕ → Bool
is_open [] = false
is_open (byte ∷ []) = not (byte == LINE_FEED)
is_open (byte ∷ next ∷ bytes) = is_open (next ∷ bytes)

-- the number of the last line, where no line feed ends it
abbrev pub open_line : List ℕ → Option ℕ
open_line bytes = if is_open bytes then Some (length (lines bytes)) else None

-- the first line that is refused, by the first that has no form, and the last where that is not ended
abbrev pub first_refused : (bad last : Option ℕ) → Option (ℕ × LineCause)
first_refused None None = None
first_refused (Some bad) None = Some (bad, cause.NoForm)
first_refused None (Some last) = Some (last, cause.NotEnded)
first_refused (Some bad) (Some last) =
    if nat_lt bad last then Some (bad, cause.NoForm) else Some (last, cause.NotEnded)

abbrev pub refused_line : CodeShape → List ℕ → Option (ℕ × LineCause)
refused_line code bytes = first_refused (first_bad code (said_lines bytes)) (open_line bytes)

-- what is due for the first line that is refused of a journal of this name, where there is one
abbrev pub IsAtRefused : (name : List ℕ) → Option (ℕ × LineCause) → VerdictShape → Type 0
IsAtRefused name None verdict = ⊥
IsAtRefused name (Some first) verdict = verdict ≡ at_line name first.0 first.1

-- the lines of a journal of this name that tell of steps and of what was sent
abbrev pub LinesRead : (name : List ℕ) → CodeShape → List ℕ → StageEnd (List LineShape) → Type 0
LinesRead name code bytes (given said) =
    (length bytes ≤ JOURNAL_BYTES) × (refused_line code bytes ≡ None) × (said ≡ journal_lines bytes)
LinesRead name code bytes (stopped verdict) =
    ((JOURNAL_BYTES < length bytes) × (verdict ≡ too_long name))
    ⊎ ((length bytes ≤ JOURNAL_BYTES) × IsAtRefused name (refused_line code bytes) verdict)
