-- The bars on lifelines, which say whether a thread of the host runs, or one waits.
use Rattle.std.specs.Prelude.{ℕ, ◌+◌, ◌-◌, ◌==◌, Bool, true, false, ◌&&◌, if◌then◌else◌, List, [], ◌∷◌, ◌++◌, codes}
use Rattle.std.specs.Prelude.{filter, replicate, slice_get, slice_set, unwrap_or}
use Rattle.std.specs.Fmt.{decimal}
use Rattle.run_chart.specs.Columns.{column_at}
use Rattle.run_chart.specs.Rows.{own_host, place_at}
use Rattle.run_chart.specs.Sheets.{ChartHostShape, ChartRowShape}
use Rattle.run_chart.specs.declared.bars.ChartBar.{ChartBar}
use Rattle.run_chart.specs.declared.bars.ChartMoment.{ChartMoment}
use Rattle.run_chart.specs.declared.bars.ChartThreads.{ChartThreads}
use Rattle.run_chart.specs.declared.columns.ChartColumn.{ChartColumn}
use Rattle.run_chart.specs.declared.rows.ChartPlace.{ChartPlace}

-- ---- from when on threads run and wait

abbrev pub moment_of : (line : ℕ) → ChartRowShape → ChartMoment
moment_of line row = record {
  host = own_host row.event;
  line = line;
  threads = record { runs = row.runs; waits = row.waits };
}

-- those of these rows, of which the first has this number
abbrev pub moments_from : List ChartPlace → (number : ℕ) → List ChartRowShape → List ChartMoment
moments_from places number [] = []
moments_from places number (row ∷ rows) =
    moment_of (place_at places number).line row ∷ moments_from places (number + 1) rows

-- those of a host
abbrev pub moments_of : ℕ → List ChartMoment → List ChartMoment
moments_of number moments = filter (λ moment. moment.host.0 == number) moments

-- ---- as they are sorted into lists by hosts

abbrev pub moments_at : List (List ChartMoment) → ℕ → List ChartMoment
moments_at sorted number = unwrap_or (slice_get sorted number) []

-- with one more
abbrev pub with_moment : List (List ChartMoment) → ChartMoment → List (List ChartMoment)
with_moment sorted moment =
    slice_set sorted moment.host.0 (moments_at sorted moment.host.0 ++ moment ∷ [])

abbrev pub with_moments : List (List ChartMoment) → List ChartMoment → List (List ChartMoment)
with_moments sorted [] = sorted
with_moments sorted (moment ∷ moments) = with_moments (with_moment sorted moment) moments

-- those of each of so many hosts
abbrev pub all_moments : ℕ → List ChartMoment → List (List ChartMoment)
all_moments count moments = with_moments (replicate count []) moments

-- ---- bars

-- a bar is filled where a thread runs, and open where none runs and one waits
abbrev pub bar_of : (from to : ℕ) → ChartThreads → List ChartBar
bar_of from to threads =
    if threads.runs then record { from = from; to = to; filled = true } ∷ []
    else (if threads.waits then record { from = from; to = to; filled = false } ∷ [] else [])

abbrev pub is_same : Bool → Bool → Bool
is_same true other = other
is_same false true = false
is_same false false = true

abbrev pub are_same : ChartThreads → ChartThreads → Bool
are_same one other = is_same one.runs other.runs && is_same one.waits other.waits

-- the bars of a host from here to the end, where its threads were these and then change so
abbrev pub bars_from : (from end : ℕ) → ChartThreads → List ChartMoment → List ChartBar
bars_from from end threads [] = bar_of from end threads
bars_from from end threads (moment ∷ moments) =
    if are_same threads moment.threads then bars_from from end threads moments
    else bar_of from moment.line threads ++ bars_from moment.line end moment.threads moments

-- ---- their text

abbrev pub filled_text : (x from height : ℕ) → List ℕ
filled_text x from height =
    codes "<rect class='run' x='" ++ (decimal x ++ (codes "' y='" ++ (decimal from ++ (codes "' width='6' height='"
    ++ (decimal height ++ codes "'/>\n")))))

abbrev pub open_text : (x from height : ℕ) → List ℕ
open_text x from height =
    codes "<rect class='wait' x='" ++ (decimal x ++ (codes ".5' y='" ++ (decimal from
    ++ (codes "' width='5' height='" ++ (decimal height ++ codes "'/>\n")))))

abbrev pub bar_text : (x from height : ℕ) → (filled : Bool) → List ℕ
bar_text x from height true = filled_text x from height
bar_text x from height false = open_text x from height

-- beside a lifeline at x
abbrev pub bar_at : (x : ℕ) → ChartBar → List ℕ
bar_at x bar = bar_text (x - 3) bar.from (bar.to - bar.from) bar.filled

abbrev pub bars_text : (x : ℕ) → List ChartBar → List ℕ
bars_text x [] = []
bars_text x (bar ∷ bars) = bar_at x bar ++ bars_text x bars

-- a misbehaving host has none
abbrev pub host_bars : (from end x : ℕ) → List ChartMoment → (misbehaves runs : Bool) → List ℕ
host_bars from end x moments true runs = []
host_bars from end x moments false runs =
    bars_text x (bars_from from end (record { runs = runs; waits = false }) moments)

-- those of these hosts, of which the first has this number
abbrev pub all_bars :
    (from end : ℕ) → List ChartColumn → List ChartMoment → (number : ℕ) → List ChartHostShape → List ℕ
all_bars from end columns moments number [] = []
all_bars from end columns moments number (host ∷ hosts) =
    host_bars from end (column_at columns number).middle (moments_of number moments) host.misbehaves host.runs
    ++ all_bars from end columns moments (number + 1) hosts
