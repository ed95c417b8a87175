-- The legend: what the strokes and marks of a picture stand for, as far as they occur in it.
use Rattle.std.specs.Prelude.{ℕ, ◌+◌, ◌-◌, ◌*◌, ◌/◌, ◌%◌, ◌==◌, nat_lt, Bool}
use Rattle.std.specs.Prelude.{List, [], ◌∷◌, ◌++◌, codes, filter, length, max}
use Rattle.std.specs.Fmt.{decimal}
use Rattle.std.specs.List.{list_any}
use Rattle.plan_ways.specs.declared.ends.Way.{Way}
use Rattle.plan_ways.specs.declared.ends.WayKind.{WayKind}
use Rattle.plan_ways.specs.declared.ends.WayKind.TheVariants as kind
use Rattle.statement_texts.specs.Texts.{StatementTextShape}
use Rattle.plan_picture.specs.Lines.{number_of_kind}
use Rattle.plan_picture.specs.Sheets.{SheetShape}
use Rattle.plan_picture.specs.declared.legend.Sign.{Sign}
use Rattle.plan_picture.specs.declared.legend.Sign.TheVariants as sign

-- ---- what occurs

abbrev pub is_of : WayKind → Way → Bool
is_of one way = number_of_kind way.kind == number_of_kind one

-- whether values of variables ride along with control
abbrev pub has_riders : Way → Bool
has_riders way = way.rides

abbrev pub is_loop : StatementTextShape → Bool
is_loop text = text.begins_loop

abbrev pub is_true : Bool → Bool
is_true truth = truth

abbrev pub occurs : SheetShape → Sign → Bool
occurs sheet (sign.OfWay one) = list_any (is_of one) sheet.ways
occurs sheet sign.Rider = list_any has_riders sheet.ways
occurs sheet sign.Loop = list_any is_loop sheet.texts
occurs sheet sign.Release = list_any is_true sheet.released
occurs sheet sign.Passing = nat_lt 0 (length sheet.relays)

abbrev pub all_signs : List Sign
all_signs =
    sign.OfWay kind.Go ∷ sign.OfWay kind.Back ∷ sign.OfWay kind.Get ∷ sign.OfWay kind.Set ∷ sign.OfWay kind.Forward
    ∷ sign.OfWay kind.Sync ∷ sign.Rider ∷ sign.Loop ∷ sign.Release ∷ sign.Passing ∷ []

abbrev pub legend_of : SheetShape → List Sign
legend_of sheet = filter (occurs sheet) all_signs

-- ---- where it stands

-- how many cells of the legend have room beside each other in a picture of a width
abbrev pub cells : ℕ → ℕ
cells width = max ((width - 40) / 370) 1

-- how many lines the legend has
abbrev pub legend_lines : (width signs : ℕ) → ℕ
legend_lines width signs = (signs + cells width - 1) / cells width

-- ---- its text

abbrev pub class_of_kind : WayKind → List ℕ
class_of_kind kind.Get = codes "get"
class_of_kind kind.Set = codes "set"
class_of_kind kind.Forward = codes "forward"
class_of_kind kind.Sync = codes "sync"
class_of_kind kind.Go = codes "go"
class_of_kind kind.Back = codes "back"

abbrev pub class_of : Sign → List ℕ
class_of (sign.OfWay one) = class_of_kind one
class_of sign.Rider = codes "rider"
class_of sign.Loop = codes "loop"
class_of sign.Release = codes "rel"
class_of sign.Passing = codes "relay"

abbrev pub meaning_of_kind : WayKind → List ℕ
meaning_of_kind kind.Get = codes "a field is asked for, and its value comes"
meaning_of_kind kind.Set = codes "a field is set"
meaning_of_kind kind.Forward = codes "a variable is sent"
meaning_of_kind kind.Sync = codes "an entry is pushed on another host"
meaning_of_kind kind.Go = codes "control goes on at another host, or calls"
meaning_of_kind kind.Back = codes "control comes back, by a token that works once"

abbrev pub meaning_of : Sign → List ℕ
meaning_of (sign.OfWay one) = meaning_of_kind one
meaning_of sign.Rider = codes "a variable rides along"
meaning_of sign.Loop = codes "a loop: what is in it counts eight times"
meaning_of sign.Release = codes "releases a secret (declassify)"
meaning_of sign.Passing = codes "hands on, or ends: control only passes"

-- a stroke with its tip
abbrev pub stroke_sample : (x y : ℕ) → List ℕ
stroke_sample x y =
    codes "<path d='M" ++ (decimal x ++ (codes " " ++ (decimal y ++ (codes "H" ++ (decimal (x + 26)
    ++ (codes "'/><path class='tip' d='M" ++ (decimal (x + 34) ++ (codes " " ++ (decimal y
    ++ codes "l-8-4v8z'/>")))))))))

abbrev pub rider_sample : (x y : ℕ) → List ℕ
rider_sample x y =
    codes "<circle class='ride' cx='" ++ (decimal (x + 17) ++ (codes "' cy='" ++ (decimal y ++ codes "' r='4'/>")))

-- from a point to the left, up, and to the right
abbrev pub bracket_text : (right low left high end : ℕ) → List ℕ
bracket_text right low left high end =
    codes "<path d='M" ++ (decimal right ++ (codes " " ++ (decimal low ++ (codes "H" ++ (decimal left
    ++ (codes "V" ++ (decimal high ++ (codes "H" ++ (decimal end ++ codes "'/>")))))))))

abbrev pub bracket_tip : (x y : ℕ) → List ℕ
bracket_tip x y =
    codes "<path class='tip' d='M" ++ (decimal x ++ (codes " " ++ (decimal y ++ codes "l-7-3.5v7z'/>")))

abbrev pub loop_sample : (x y : ℕ) → List ℕ
loop_sample x y = bracket_text (x + 20) (y + 5) (x + 8) (y - 5) (x + 20) ++ bracket_tip (x + 26) (y - 5)

abbrev pub release_sample : (x y : ℕ) → List ℕ
release_sample x y =
    codes "<rect class='mark' x='" ++ (decimal (x + 14) ++ (codes "' y='" ++ (decimal (y - 7)
    ++ codes "' width='5' height='14'/>")))

abbrev pub passing_sample : (x y : ℕ) → List ℕ
passing_sample x y =
    codes "<rect x='" ++ (decimal x ++ (codes "' y='" ++ (decimal (y - 6)
    ++ codes "' width='32' height='12' rx='6'/>")))

abbrev pub sample_of : Sign → (x y : ℕ) → List ℕ
sample_of (sign.OfWay one) x y = stroke_sample x y
sample_of sign.Rider x y = rider_sample x y
sample_of sign.Loop x y = loop_sample x y
sample_of sign.Release x y = release_sample x y
sample_of sign.Passing x y = passing_sample x y

abbrev pub class_text : List ℕ → List ℕ
class_text class = codes "<g class='" ++ (class ++ codes "'>")

abbrev pub meaning_text : (x y : ℕ) → List ℕ → List ℕ
meaning_text x y meaning =
    codes "</g><text class='d p' x='" ++ (decimal x ++ (codes "' y='" ++ (decimal y ++ (codes "'>" ++ (meaning
    ++ codes "</text>\n")))))

-- a sign at a place, with what it stands for
abbrev pub cell_text : Sign → (x y : ℕ) → List ℕ
cell_text one x y =
    class_text (class_of one) ++ (sample_of one x y ++ meaning_text (x + 44) (y + 4) (meaning_of one))

-- the cell of a number in a picture of a width
abbrev pub numbered_cell : (width number : ℕ) → Sign → List ℕ
numbered_cell width number one =
    cell_text one (20 + 370 * (number % cells width)) (66 + 20 * (number / cells width))

-- the cells of these signs, of which the first has this number
abbrev pub cells_text : (width number : ℕ) → List Sign → List ℕ
cells_text width number [] = []
cells_text width number (one ∷ signs) = numbered_cell width number one ++ cells_text width (number + 1) signs
