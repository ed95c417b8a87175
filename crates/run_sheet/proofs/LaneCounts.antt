-- The counts of what is in flight, and the lanes of what was sent.
use Rattle.std.proofs.Common.{◌≡◌, ℕ, ◌+◌, ◌-◌, ◌<◌, ◌≤◌, List, ◌∷◌, length, drop, get_or, ap, sym}
use Rattle.std.proofs.Common.{◌∙◌, arith, inl, inr}
use Rattle.std.proofs.Common.{Option, Some, None}
use Rattle.std.specs.Prelude.{All, slice_index}
use Rattle.std.proofs.lemmas.Bool.{cases_lt}
use Rattle.std.proofs.lemmas.List.{get_or_past}
use Rattle.std.proofs.lemmas.List.Elements.{All-set}
use Rattle.js_base.specs.declared.ids.HostId.{HostId}
use Rattle.run_rows.specs.declared.row.Row.{Row}
use Rattle.run_rows.specs.declared.row.What.{What}
use Rattle.run_rows.specs.declared.row.What.TheVariants as what
use Rattle.run_sheet.specs.RunEvents.{host_moved}
use Rattle.run_sheet.specs.SendLanes.{counts_behind, counts_left, counts_with, lane_in, lanes_from}
use Rattle.run_sheet.proofs.ListWalks.{left_cut}

-- each count, with one more, is below a number
abbrev pub AreBelow : ℕ → List ℕ → Type 0
AreBelow most counts = All (λ count. count + 1 < most) counts

one_below : (most : ℕ) (counts : List ℕ) (i : ℕ) → 1 < most → AreBelow most counts → slice_index counts i + 1 < most
one_below most counts i some all = elim (cases_lt i (length counts)) [
  | inl lt ↦ all i 0 lt
  | inr past ↦ omega (arith, get_or_past counts i 0 past)
]

pub left_below : (most : ℕ) (counts : List ℕ) (event : What) → 1 < most → AreBelow most counts →
    AreBelow most (counts_left counts event)
left_below most counts (what.Turn host at) some all = all
left_below most counts (what.Take from to taken) some all =
    All-set (λ (count : ℕ). count + 1 < most) counts from.0 (slice_index counts from.0 - 1)
    (omega (arith, one_below most counts from.0 some all)) all
left_below most counts (what.Act from to made) some all = all

more_below : (most : ℕ) (counts : List ℕ) (host : HostId) (posts : Option HostId) → 1 < most →
    AreBelow most counts → AreBelow (most + 1) (counts_with counts host posts)
more_below most counts host None some all = λ k d less. omega (arith, all k d less)
more_below most counts host (Some to) some all =
    All-set (λ (count : ℕ). count + 1 < most + 1) counts host.0 (slice_index counts host.0 + 1)
    (omega (arith, one_below most counts host.0 some all)) (λ k d less. omega (arith, all k d less))

pub behind_few : (counts : List ℕ) (row : Row) (n : ℕ) → All (λ count. count ≤ n) counts →
    All (λ count. count ≤ n + 1) (counts_behind counts row)
behind_few counts row n few = λ k d less.
    let all : AreBelow (n + 2) counts = λ j e within. omega (arith, few j e within) in
    let some : 1 < n + 2 = omega arith in
    let more = more_below (n + 2) (counts_left counts row.what) (host_moved row.what) row.posts some
    (left_below (n + 2) counts row.what some all) in
    omega (arith, more k d less)

-- the lane of the next row, and those behind it
pub lane_next : (rows : List Row) (i : ℕ) (d row : Row) (counts next : List ℕ) (lane : ℕ) → i < length rows →
    row ≡ get_or rows i d → lane ≡ lane_in counts row → next ≡ counts_behind counts row →
    lanes_from counts (drop i rows) ≡ lane ∷ lanes_from next (drop (i + 1) rows)
lane_next rows i d row counts next lane lt is here behind =
    ap (lanes_from counts) (left_cut rows i d row lt is)
    ∙ ap (λ (n : ℕ). n ∷ lanes_from (counts_behind counts row) (drop (i + 1) rows)) (sym here)
    ∙ ap (λ (cs : List ℕ). lane ∷ lanes_from cs (drop (i + 1) rows)) (sym behind)
