-- A file fault is due for one place of the names.
use Rattle.std.proofs.Common.{◌≡◌, ℕ, zero, suc, ◌+◌, ◌<◌, List}
use Rattle.std.proofs.Common.{subst, arith}
use Rattle.js_base.specs.Counts.{last_count}
use Rattle.front_end.specs.Verdicts.{VerdictShape}
use Rattle.front_end.specs.Loads.{FilesChange, counted_by, IsFileFault}

-- a count below its end tells how often it rose
counted_exactly : (more count : ℕ) → counted_by more count < last_count → counted_by more count ≡ count + more
counted_exactly zero count below = omega arith
counted_exactly (suc more) count below =
    let before : counted_by more count < last_count = omega arith in
    let exact = counted_exactly more count before in omega arith

pub one_fault_place : (names : List (List ℕ)) (files : FilesChange) (first second : VerdictShape)
    (one : IsFileFault names files first) (two : IsFileFault names files second) →
    files.loads_after < last_count → one.place ≡ two.place
one_fault_place names files first second one two below =
    let left = counted_exactly (one.place + 1) files.loads_before (subst (λ (n : ℕ). n < last_count) one.loads below) in
    let right =
    counted_exactly (two.place + 1) files.loads_before (subst (λ (n : ℕ). n < last_count) two.loads below) in
    let a = one.loads in let b = two.loads in omega arith
