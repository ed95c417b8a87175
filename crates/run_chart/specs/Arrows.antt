-- The arrows of a chart.
use Rattle.std.specs.Prelude.{ℕ, ◌+◌, ◌-◌, ◌*◌, nat_lt, Bool, true, false, not, List, [], ◌++◌, codes}
use Rattle.std.specs.Prelude.{min}
use Rattle.std.specs.Fmt.{decimal}
use Rattle.js_base.specs.declared.ids.HostId.{HostId}
use Rattle.run_chart.specs.Columns.{column_at, way_from}
use Rattle.run_chart.specs.Rows.{place_at}
use Rattle.run_chart.specs.Texts.{cut_text, room_of, whole_text}
use Rattle.run_chart.specs.declared.arrows.ChartArrow.{ChartArrow}
use Rattle.run_chart.specs.declared.columns.ChartColumn.{ChartColumn}
use Rattle.run_chart.specs.declared.rows.ChartPlace.{ChartPlace}
use Rattle.run_chart.specs.declared.sheet.Start.{Start}
use Rattle.run_chart.specs.declared.sheet.Stroke.{Stroke}
use Rattle.run_chart.specs.declared.sheet.Stroke.TheVariants as stroke

-- ---- where they go

-- so far from here to the right, or to the left
abbrev pub ahead : (right : Bool) → (x by : ℕ) → ℕ
ahead true x by = x + by
ahead false x by = x - by

-- whether a host stands to the right of another
abbrev pub is_right : (from to : HostId) → Bool
is_right from to = nat_lt from.0 to.0

-- From a lifeline at x, where it begins, so far beside it down to a line and along this to its end. Its text stands
-- above the line, 8 further.
abbrev pub arrow_of : (right tipped : Bool) → (x begin lane line end room : ℕ) → ChartArrow
arrow_of right tipped x begin lane line end room = record {
  right = right;
  tipped = tipped;
  dot = ahead right x 3;
  begin = begin;
  at = ahead right x lane;
  line = line;
  end = end;
  tip = ahead right end 6;
  beside = ahead right x (lane + 8);
  above = line - 4;
  room = room;
}

-- how far beside the lifeline a message goes down: further where others were in flight
abbrev pub lane_of : Start → ℕ
lane_of start = 10 + 4 * min start.lane 2

-- where a message that is taken ends, before the tip, and one that is ignored, before the cross
abbrev pub end_before : (ignored : Bool) → ℕ
end_before true = 27
end_before false = 11

-- how much of the way to the next lifeline has no text
abbrev pub way_less : (ignored : Bool) → ℕ
way_less true = 54
way_less false = 36

-- a message that is taken on a line
abbrev pub take_between : (right ignored : Bool) → (sender taker : ChartColumn) → (begin lane line : ℕ) → ChartArrow
take_between right ignored sender taker begin lane line =
    arrow_of right (not ignored) sender.middle begin lane line (ahead (not right) taker.middle (end_before ignored))
    (room_of (way_from sender right) (way_less ignored))

abbrev pub take_arrow :
    List ChartColumn → List ChartPlace → (from to : HostId) → Start → (ignored : Bool) → (line : ℕ) → ChartArrow
take_arrow columns places from to start ignored line =
    take_between (is_right from to) ignored (column_at columns from.0) (column_at columns to.0)
    (place_at places start.row).begin (lane_of start) line

-- an act of a misbehaving host goes straight along its line, and its text stands 12 beside the lifeline
abbrev pub act_between : (right ignored : Bool) → (sender taker : ChartColumn) → (line : ℕ) → ChartArrow
act_between right ignored sender taker line =
    arrow_of right (not ignored) sender.middle line 4 line (ahead (not right) taker.middle (end_before ignored))
    (room_of (way_from sender right) (way_less ignored))

abbrev pub act_arrow : List ChartColumn → (from to : HostId) → (ignored : Bool) → (line : ℕ) → ChartArrow
act_arrow columns from to ignored line =
    act_between (is_right from to) ignored (column_at columns from.0) (column_at columns to.0) line

-- what a misbehaving host is sent ends at a circle, on the second line of the row
abbrev pub told_between : (right : Bool) → (sender taker : ChartColumn) → (begin line : ℕ) → ChartArrow
told_between right sender taker begin line =
    arrow_of right true sender.middle begin 10 line (ahead (not right) taker.middle 15)
    (room_of (way_from sender right) 36)

abbrev pub told_arrow : List ChartColumn → (from to : HostId) → ChartPlace → ChartArrow
told_arrow columns from to place =
    told_between (is_right from to) (column_at columns from.0) (column_at columns to.0) place.begin (place.line + 24)

-- a message in flight ends 34 before the next lifeline
abbrev pub flight_between : (right : Bool) → ChartColumn → (begin lane line : ℕ) → ChartArrow
flight_between right sender begin lane line =
    arrow_of right false sender.middle begin lane line (ahead right sender.middle (way_from sender right - 34))
    (room_of (way_from sender right) 52)

abbrev pub flight_arrow :
    List ChartColumn → List ChartPlace → (from to : HostId) → Start → (line : ℕ) → ChartArrow
flight_arrow columns places from to start line =
    flight_between (is_right from to) (column_at columns from.0) (place_at places start.row).begin (lane_of start) line

-- ---- their texts

abbrev pub class_of_stroke : Stroke → List ℕ
class_of_stroke stroke.Go = codes "go"
class_of_stroke stroke.Back = codes "back"
class_of_stroke stroke.Get = codes "get"
class_of_stroke stroke.Set = codes "set"
class_of_stroke stroke.Forward = codes "forward"
class_of_stroke stroke.Sync = codes "sync"
class_of_stroke stroke.Ack = codes "ack"

abbrev pub class_text : List ℕ → List ℕ
class_text class = codes "<g class='" ++ (class ++ codes "'>")

-- from whom to whom a message goes, and which one it is
abbrev pub between_text : (from to message : List ℕ) → List ℕ
between_text from to message =
    whole_text from ++ (codes " to " ++ (whole_text to ++ (codes ": " ++ whole_text message)))

-- what is shown beside the pointer
abbrev pub arrow_title : (before from to message : List ℕ) → List ℕ
arrow_title before from to message =
    codes "<title>" ++ (before ++ (between_text from to message ++ codes "</title>"))

abbrev pub dot_text : ChartArrow → List ℕ
dot_text arrow =
    codes "<circle class='dot' cx='" ++ (decimal arrow.dot ++ (codes "' cy='" ++ (decimal arrow.begin
    ++ codes "' r='2.5'/>")))

abbrev pub bend_text : ChartArrow → List ℕ
bend_text arrow =
    codes "<path d='M" ++ (decimal arrow.dot ++ (codes " " ++ (decimal arrow.begin ++ (codes "H" ++ (decimal arrow.at
    ++ (codes "V" ++ (decimal arrow.line ++ (codes "H" ++ (decimal arrow.end ++ codes "'/>")))))))))

abbrev pub straight_text : (x line end : ℕ) → List ℕ
straight_text x line end =
    codes "<path d='M" ++ (decimal x ++ (codes " " ++ (decimal line ++ (codes "H" ++ (decimal end ++ codes "'/>")))))

-- eight pixels back from a tip that points to the right, or to the left
abbrev pub eight : (right : Bool) → List ℕ
eight true = codes "-8"
eight false = codes "8"

abbrev pub tip_text : (right : Bool) → (x y : ℕ) → List ℕ
tip_text right x y =
    codes "<path class='tip' d='M" ++ (decimal x ++ (codes " " ++ (decimal y ++ (codes "l" ++ (eight right
    ++ codes "-3.5v7z'/>")))))

abbrev pub tip_where : (tipped right : Bool) → (x y : ℕ) → List ℕ
tip_where false right x y = []
tip_where true right x y = tip_text right x y

-- a text on the left of a lifeline ends there
abbrev pub side_text : (right : Bool) → List ℕ
side_text true = []
side_text false = codes " text-anchor='end'"

abbrev pub label_open : (class : List ℕ) → (x y : ℕ) → (right : Bool) → List ℕ
label_open class x y right =
    codes "<text class='" ++ (class ++ (codes "' x='" ++ (decimal x ++ (codes "' y='" ++ (decimal y ++ (codes "'"
    ++ (side_text right ++ codes ">")))))))

-- a text of a class, of which so many letters have room
abbrev pub label_text : (class : List ℕ) → (x y : ℕ) → (right : Bool) → (text : List ℕ) → (room : ℕ) → List ℕ
label_text class x y right text room =
    label_open class x y right ++ (cut_text text room ++ codes "</text>")

-- the message of an arrow, beside where it leaves
abbrev pub message_text : (class : List ℕ) → (message : List ℕ) → ChartArrow → List ℕ
message_text class message arrow = label_text class arrow.beside arrow.above arrow.right message arrow.room

abbrev pub bent_text : ChartArrow → List ℕ
bent_text arrow =
    dot_text arrow ++ (bend_text arrow ++ tip_where arrow.tipped arrow.right arrow.tip arrow.line)

-- an arrow of a class
unfoldable pub arrow_text : (class before from to message : List ℕ) → ChartArrow → List ℕ
arrow_text class before from to message arrow =
    class_text class ++ (arrow_title before from to message ++ (bent_text arrow
    ++ (message_text (codes "s m") message arrow ++ codes "</g>")))

-- an act of a misbehaving host, from a lifeline at x
unfoldable pub act_text : (x : ℕ) → (from to message : List ℕ) → ChartArrow → List ℕ
act_text x from to message arrow =
    class_text (codes "act") ++ (arrow_title [] from to message ++ (straight_text x arrow.line arrow.end
    ++ (tip_where arrow.tipped arrow.right arrow.tip arrow.line
    ++ (message_text (codes "s") message arrow ++ codes "</g>"))))
