-- What reading a journal gives, by what was loaded of it.
use Rattle.std.proofs.Common.{◌≡◌, ◌∙◌, ◌≤◌, ◌<◌, ℕ, List, length, refl, sym, ap, subst, inl, inr, Vec, Global}
use Rattle.std.proofs.Common.{Option, Some, None, Result}
use Rattle.event_text.specs.Lines.{LineShape, said_lines}
use Rattle.host_code.specs.Code.{CodeShape}
use Rattle.record_merge.specs.Journals.{first_bad, journal_lines}
use Rattle.record_merge.specs.declared.lines.TheConstants.{JOURNAL_BYTES}
use Rattle.front_end.specs.declared.load.Loaded.{Loaded}
use Rattle.front_end.specs.declared.load.Loaded.TheVariants.{Bytes, TooLong}
use Rattle.front_end.specs.declared.refusal.LineCause.{LineCause}
use Rattle.front_end.specs.declared.refusal.LineCause.TheVariants as cause
use Rattle.front_end.specs.declared.stop.Stop.{Stop}
use Rattle.front_end.specs.Loading.{EndsAs, IsLoaded, StopsWith}
use Rattle.front_end.specs.Stages.{given, stopped}
use Rattle.front_end.specs.Verdicts.{at_line, too_long}
use Rattle.front_end.proofs.Stages.{stops_weaker}
use Rattle.jiffields.specs.Lines.{IsAtRefused, LinesRead, first_refused, open_line, refused_line}

-- there are too many bytes
pub long_stops : (name bytes : List ℕ) (code : CodeShape) (why : Stop) → JOURNAL_BYTES < length bytes →
    StopsWith (λ verdict. verdict ≡ too_long name) why →
    StopsWith (λ verdict. LinesRead name code bytes (stopped verdict)) why
long_stops name bytes code why many stops =
    stops_weaker (λ verdict. verdict ≡ too_long name) (λ verdict. LinesRead name code bytes (stopped verdict)) why
    (λ verdict is. inl (many, is)) stops

-- a line is refused
pub line_stops : (name bytes : List ℕ) (code : CodeShape) (bad ending : Option ℕ) (why : Stop) →
    length bytes ≤ JOURNAL_BYTES → first_bad code (said_lines bytes) ≡ bad → ending ≡ open_line bytes →
    StopsWith (IsAtRefused name (first_refused bad ending)) why →
    StopsWith (λ verdict. LinesRead name code bytes (stopped verdict)) why
line_stops name bytes code bad ending why few is ends stops =
    let same : first_refused bad ending ≡ refused_line code bytes =
    sym (ap (λ (b : Option ℕ). first_refused b ending) is)
    ∙ ap (λ (o : Option ℕ). first_refused (first_bad code (said_lines bytes)) o) ends in
    stops_weaker (IsAtRefused name (first_refused bad ending))
    (λ verdict. LinesRead name code bytes (stopped verdict)) why
    (λ verdict told. inr (
      few,
      subst (λ (first : Option (ℕ × LineCause)). IsAtRefused name first verdict) same told,
    )) stops

-- the last line is not ended
pub open_stops : (name bytes : List ℕ) (code : CodeShape) (ending : Option ℕ) (last : ℕ) (why : Stop) →
    length bytes ≤ JOURNAL_BYTES → first_bad code (said_lines bytes) ≡ None → ending ≡ open_line bytes →
    ending ≡ Some last →
    StopsWith (λ verdict. verdict ≡ at_line name last cause.NotEnded) why →
    StopsWith (λ verdict. LinesRead name code bytes (stopped verdict)) why
open_stops name bytes code ending last why few is ends there stops =
    line_stops name bytes code None (Some last) why few is (sym there ∙ ends) stops

-- no line is refused
pub lines_given : (name bytes : List ℕ) (code : CodeShape) (ending : Option ℕ) (said : List LineShape) →
    length bytes ≤ JOURNAL_BYTES → first_bad code (said_lines bytes) ≡ None → ending ≡ open_line bytes → ending ≡ None →
    said ≡ journal_lines bytes → LinesRead name code bytes (given said)
lines_given name bytes code ending said few is ends none are = (
  few,
  ap (λ (b : Option ℕ). first_refused b (open_line bytes)) is
      ∙ ap (λ (o : Option ℕ). first_refused None o) (sym ends ∙ none),
  are,
)
