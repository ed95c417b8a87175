-- What the bars on a lifeline say at a height.
use Rattle.std.specs.Prelude.{ℕ, ◌≤◌, nat_le, nat_lt, Bool, true, false, ◌&&◌, if◌then◌else◌, List, [], ◌∷◌}
use Rattle.std.specs.Prelude.{Option, Some, None}
use Rattle.run_chart.specs.declared.bars.ChartBar.{ChartBar}
use Rattle.run_chart.specs.declared.bars.ChartMoment.{ChartMoment}
use Rattle.run_chart.specs.declared.bars.ChartThreads.{ChartThreads}

-- what the threads of a host do at a height: what they do after the last of its events whose line is not below it
abbrev pub threads_at : ChartThreads → (y : ℕ) → List ChartMoment → ChartThreads
threads_at threads y [] = threads
threads_at threads y (moment ∷ moments) =
    threads_at (if nat_le moment.line y then moment.threads else threads) y moments

-- whether a bar over a height is filled, where there is one
abbrev pub bar_over : (y : ℕ) → List ChartBar → Option Bool
bar_over y [] = None
bar_over y (bar ∷ bars) = if nat_le bar.from y && nat_lt y bar.to then Some bar.filled else bar_over y bars

-- what threads look like: a filled bar where one runs, an open bar where none runs and one waits, and otherwise none
abbrev pub looks : (runs waits : Bool) → Option Bool
looks true waits = Some true
looks false true = Some false
looks false false = None

-- events in the order of their lines, from a height on
abbrev pub AreOrdered : ℕ → List ChartMoment → Type 0
AreOrdered from [] = Unit {0}
AreOrdered from (moment ∷ moments) = (from ≤ moment.line) × (AreOrdered moment.line moments)
