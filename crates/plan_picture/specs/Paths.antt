-- The strokes of ways.
use Rattle.std.specs.Prelude.{ℕ, ◌+◌, ◌-◌, ◌/◌, Bool, true, false, not, if◌then◌else◌, List, [], ◌∷◌, ◌++◌, codes}
use Rattle.std.specs.Fmt.{decimal}
use Rattle.plan_layout.specs.Columns.{ColumnsShape}
use Rattle.plan_layout.specs.Places.{PlacesShape}
use Rattle.plan_layout.specs.Routes.{route_of}
use Rattle.plan_layout.specs.declared.routes.Route.{Route}
use Rattle.plan_ways.specs.Tips.{tip_text}
use Rattle.plan_ways.specs.declared.ends.Way.{Way}
use Rattle.plan_picture.specs.Legend.{class_of_kind, class_text}
use Rattle.plan_picture.specs.Lines.{RowNumbers, line_of, parts}
use Rattle.plan_picture.specs.Sheets.{SheetShape}

-- seven pixels before where a way ends, which is where its tip begins
abbrev pub tip_x : Route → ℕ
tip_x route = if route.ends_right then route.to_x - 7 else route.to_x + 7

-- A stroke goes from where ways of its hub part, or else back from its tip, so that the dashes of those that run
-- together lie on each other.
abbrev pub stroke_of : (parting : Bool) → Route → Route
stroke_of true route = record route { to_x = tip_x route }
stroke_of false route = record {
  from_x = tip_x route;
  from_y = route.to_y;
  at_x = route.at_x;
  to_y = route.from_y;
  to_x = route.from_x;
  begins_right = not route.ends_right;
  down = not route.down;
  ends_right = not route.begins_right;
}

-- four pixels on, and where a corner of four pixels begins
abbrev pub four : Bool → List ℕ
four true = codes "4"
four false = codes "-4"

abbrev pub before : (onward : Bool) → ℕ → ℕ
before true place = place - 4
before false place = place + 4

-- to where it goes up or down, there, and on to its end, with rounded corners
abbrev pub first_text : Route → List ℕ
first_text route =
    codes "M" ++ (decimal route.from_x ++ (codes " " ++ (decimal route.from_y
    ++ (codes "H" ++ decimal (before route.begins_right route.at_x)))))

abbrev pub turn_text : Route → List ℕ
turn_text route =
    codes "q" ++ (four route.begins_right ++ (codes " 0 " ++ (four route.begins_right ++ (codes " "
    ++ (four route.down ++ (codes "V" ++ decimal (before route.down route.to_y)))))))

abbrev pub last_text : Route → List ℕ
last_text route =
    codes "q0 " ++ (four route.down ++ (codes " " ++ (four route.ends_right ++ (codes " " ++ (four route.down
    ++ (codes "H" ++ decimal route.to_x))))))

abbrev pub path_text : Route → List ℕ
path_text route =
    codes "<path d='" ++ (first_text route ++ (turn_text route ++ (last_text route ++ codes "'/>")))

-- a dot where variables ride along
abbrev pub dot_text : (x y : ℕ) → List ℕ
dot_text x y =
    codes "<circle class='ride' cx='" ++ (decimal x ++ (codes "' cy='" ++ (decimal y ++ codes "' r='4'/>")))

abbrev pub rider_text : (riding : Bool) → Route → List ℕ
rider_text false route = []
rider_text true route = dot_text route.at_x ((route.from_y + route.to_y) / 2)

abbrev pub eight : Bool → List ℕ
eight true = codes "-8"
eight false = codes "8"

abbrev pub end_text : Route → List ℕ
end_text route =
    codes "<path class='tip' d='M" ++ (decimal route.to_x ++ (codes " " ++ (decimal route.to_y ++ (codes "l"
    ++ (eight route.ends_right ++ codes "-3.5v7z'/></g>\n")))))

abbrev pub title_text : List ℕ → List ℕ
title_text tip = codes "<title>" ++ (tip ++ codes "</title>")

-- a way that goes so
abbrev pub way_text : SheetShape → Way → Route → List ℕ
way_text sheet way route =
    class_text (class_of_kind way.kind) ++ (title_text (tip_text sheet.code sheet.program way)
    ++ (path_text (stroke_of (parts way.kind) route) ++ (rider_text way.rides route ++ end_text route)))

-- where all things are: how rows are numbered, and where columns and rows begin
pub record Grid : Type 0 where
  pub numbers : RowNumbers
  pub columns : ColumnsShape
  pub places : PlacesShape

abbrev pub route_on : Grid → Way → Route
route_on grid way = route_of grid.columns grid.places (line_of grid.numbers way)

abbrev pub ways_text : SheetShape → Grid → List Way → List ℕ
ways_text sheet grid [] = []
ways_text sheet grid (way ∷ ways) = way_text sheet way (route_on grid way) ++ ways_text sheet grid ways

-- a way that goes to the right, up, and to the right
abbrev pub sample_route : Route
sample_route = record {
  from_x = 10;
  from_y = 90;
  at_x = 60;
  to_y = 50;
  to_x = 100;
  begins_right = true;
  down = false;
  ends_right = true;
}
