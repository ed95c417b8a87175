-- What a line covers, and boxes, as rectangles.
use Rattle.std.specs.Prelude.{ℕ, ◌+◌, ◌-◌, ◌<◌, ◌⊎◌, max, min, slice_index}
use Rattle.plan_layout.specs.Columns.{ColumnsShape}
use Rattle.plan_layout.specs.Places.{PlacesShape}
use Rattle.plan_layout.specs.declared.routes.Route.{Route}

pub record Rectangle : Type 0 where
  pub left : ℕ
  pub right : ℕ
  pub top : ℕ
  pub bottom : ℕ

-- they have no point in common
abbrev pub HaveNoCommonPoint : Rectangle → Rectangle → Type 0
HaveNoCommonPoint one other =
    (one.right < other.left) ⊎ (other.right < one.left) ⊎ (one.bottom < other.top) ⊎ (other.bottom < one.top)

-- a line from its begin to where it goes up or down
abbrev pub across : Route → Rectangle
across route = record {
  left = min route.from_x route.at_x;
  right = max route.from_x route.at_x;
  top = route.from_y;
  bottom = route.from_y;
}

-- where it goes up or down, with its rounded corners
abbrev pub along : Route → Rectangle
along route = record {
  left = route.at_x - 4;
  right = route.at_x + 4;
  top = min route.from_y route.to_y;
  bottom = max route.from_y route.to_y;
}

-- from there to its end, with its tip
abbrev pub into : Route → Rectangle
into route = record {
  left = min route.at_x route.to_x;
  right = max route.at_x route.to_x;
  top = route.to_y - 4;
  bottom = route.to_y + 4;
}

-- the box of a column in a row of this height
abbrev pub box_of : ColumnsShape → PlacesShape → (height column row : ℕ) → Rectangle
box_of columns rows height column row = record {
  left = slice_index columns.places.starts column;
  right = slice_index columns.places.starts column + slice_index columns.widths column;
  top = slice_index rows.starts row;
  bottom = slice_index rows.starts row + height;
}
