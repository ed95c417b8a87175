-- The lines between two columns. Each hub has a track of its own there, in the order of first lines; after twelve
-- tracks the first is taken again.
use Rattle.std.specs.Prelude.{ℕ, ◌+◌, ◌*◌, ◌==◌, Bool, true, false, if◌then◌else◌, List, [], ◌∷◌, ◌++◌, length, map}
use Rattle.std.specs.List.{list_any, position_or_len, range_with_len}
use Rattle.std.specs.Prelude.{max, min}
use Rattle.plan_layout.specs.Lines.{is_in, lane_of, same_hub}
use Rattle.plan_layout.specs.declared.lines.Hub.{Hub}
use Rattle.plan_layout.specs.declared.lines.Lane.{Lane}
use Rattle.plan_layout.specs.declared.lines.Line.{Line}
use Rattle.plan_layout.specs.declared.strips.Strip.{Strip}

abbrev pub with_hub : List Hub → Hub → List Hub
with_hub hubs hub = if list_any (same_hub hub) hubs then hubs else hubs ++ hub ∷ []

-- the hubs with those of the lines that go in a lane
abbrev pub hubs_from : Lane → List Hub → List Line → List Hub
hubs_from lane hubs [] = hubs
hubs_from lane hubs (line ∷ lines) =
    hubs_from lane (if is_in lane line then with_hub hubs line.hub else hubs) lines

-- the hubs of the lines in a lane, in the order of their first lines
abbrev pub hubs_of : Lane → List Line → List Hub
hubs_of lane lines = hubs_from lane [] lines

-- the hubs of the lines to the column on the right and to the one on the left
pub record StripShape : Type 0 where
  pub rightward : List Hub
  pub leftward : List Hub

abbrev pub strip_of : List Line → ℕ → StripShape
strip_of lines number = record {
  rightward = hubs_of (record { strip = number; rightward = true }) lines;
  leftward = hubs_of (record { strip = number; rightward = false }) lines;
}

-- the first so many strips
abbrev pub strips_of : List Line → ℕ → List StripShape
strips_of lines count = map (strip_of lines) (range_with_len 0 count)

-- how many tracks are beside each other
abbrev pub tracks_of : StripShape → ℕ
tracks_of strip = min (length strip.rightward) 12 + min (length strip.leftward) 12

-- how wide it is; an outer one is there only where lines go in it
abbrev pub width_of : StripShape → (outer : Bool) → ℕ
width_of strip true = if tracks_of strip == 0 then 0 else 20 + 9 * tracks_of strip
width_of strip false = max (20 + 9 * tracks_of strip) 28

abbrev pub lane_hubs : StripShape → (rightward : Bool) → List Hub
lane_hubs strip true = strip.rightward
lane_hubs strip false = strip.leftward

-- how many hubs have their first line before that of this one
abbrev pub track_in : List Hub → Hub → ℕ
track_in hubs hub = position_or_len (same_hub hub) hubs

abbrev pub track_of : List Line → Line → ℕ
track_of lines line = track_in (hubs_of (lane_of line) lines) line.hub

-- ---- in the program

abbrev pub strip_shape : Strip → StripShape
strip_shape strip = record { rightward = strip.rightward.keys; leftward = strip.leftward.keys }
