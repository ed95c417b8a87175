-- Items one after another, as a loop reads them.
use Rattle.std.proofs.Common.{◌≡◌, ℕ, suc, ◌-◌, ◌+◌, ◌≤◌, ◌<◌, List, [], ◌∷◌, ◌++◌, Result, Ok, Err, refl, sym, ◌∙◌}
use Rattle.std.proofs.Common.{arith}
use Rattle.byte_format.specs.Reader.{Reader, sequel, given, items_at}

-- one more item
pub items_more : {E A : Type 0} (item : List A → Reader E A) (before : List A) (count i : ℕ) (x : A)
    (bytes rest : List ℕ) (total : Result (List A × List ℕ) E) → i < count → item before bytes ≡ Ok (x, rest) →
    items_at item before (count - i) bytes ≡ total → items_at item (before ++ x ∷ []) (count - (i + 1)) rest ≡ total
unfolding items_at sequel
items_more item before count i x bytes rest total lt next so_far =
    let left : count - i ≡ suc (count - (i + 1)) = omega arith in
    let one : items_at item before (count - i) bytes ≡ items_at item (before ++ x ∷ []) (count - (i + 1)) rest =
    rw (left, next) refl in
    sym one ∙ so_far

-- an item that is not read
pub items_refused : {E A : Type 0} (item : List A → Reader E A) (before : List A) (count i : ℕ) (what : E)
    (bytes : List ℕ) (total : Result (List A × List ℕ) E) → i < count → item before bytes ≡ Err what →
    items_at item before (count - i) bytes ≡ total → total ≡ Err what
unfolding items_at sequel
items_refused item before count i what bytes total lt fails so_far =
    let left : count - i ≡ suc (count - (i + 1)) = omega arith in
    let one : items_at item before (count - i) bytes ≡ Err what = rw (left, fails) refl in
    sym so_far ∙ one

-- all are read
pub items_done : {E A : Type 0} (item : List A → Reader E A) (before : List A) (count i : ℕ) (bytes : List ℕ)
    (total : Result (List A × List ℕ) E) → count ≤ i → items_at item before (count - i) bytes ≡ total →
    total ≡ Ok (before, bytes)
unfolding items_at given
items_done item before count i bytes total le so_far =
    let left : count - i ≡ 0 = omega arith in
    let one : items_at item before (count - i) bytes ≡ Ok (before, bytes) = rw left refl in
    sym so_far ∙ one
