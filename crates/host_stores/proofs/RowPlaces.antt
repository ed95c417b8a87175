-- Rows in one vector: where each is, what a write and a row more leave of them, and that they are all elements.
use Rattle.std.proofs.Common.{◌≡◌, ◌<◌, ◌≤◌, ℕ, zero, suc, List, [], ◌∷◌, ◌++◌, length, take, drop, ◌+◌, ◌-◌, ℤ}
use Rattle.std.proofs.Common.{refl, sym, ap, ◌∙◌, subst, arith, Some, None, pos, negsuc, SFits, w64}
use Rattle.std.specs.Int.{FitsUnsignedBits}
use Rattle.std.specs.Prelude.{slice_get, slice_set, slice_index_or, flat_map}
use Rattle.std.proofs.Math.ListN.{drop_of_length-le}
use Rattle.std.proofs.Math.Seq.{drop-append_seam, take-set-lt, take-length, set_out}
use Rattle.std.proofs.lemmas.List.{drop-drop, drop-set-add, drop-set-lt, take-set-le, take-append-drop}
use Rattle.std.proofs.lemmas.List.{drop-append-le, take-append-le, length-append, length-drop, length-take-le}
use Rattle.jif_tree.specs.Store.{row_of, store_after_write}
use Rattle.host_stores.specs.Layout.{elements_between, rows_from, rows_at, RiseTo, AreOffsets, IsRow}

-- ---- where a row is

-- an offset of the table, and the next one
abbrev offset : ℕ → List ℕ → ℕ → ℕ → ℕ
offset start ends k d = slice_index_or (start ∷ ends) k d

not_past : (last start : ℕ) (ends : List ℕ) (k d : ℕ) → RiseTo last start ends → k < suc (length ends) →
    (start ≤ offset start ends k d) × (offset start ends k d ≤ last)
not_past last start [] zero d rise within = (omega arith, omega (arith, rise))
not_past last start [] (suc k) d rise within = absurd (omega arith)
not_past last start (end ∷ ends) zero d rise within =
    let next = not_past last end ends 0 d rise.1 (omega arith) in
    (omega arith, omega (arith, rise.0, next.1))
not_past last start (end ∷ ends) (suc k) d rise within =
    let next = not_past last end ends k d rise.1 (omega (arith, within)) in
    (omega (arith, rise.0, next.0), next.1)

next_not_before : (last start : ℕ) (ends : List ℕ) (k d e : ℕ) → RiseTo last start ends → k < length ends →
    offset start ends k d ≤ offset start ends (suc k) e
next_not_before last start [] k d e rise within = absurd (omega arith)
next_not_before last start (end ∷ ends) zero d e rise within = rise.0
next_not_before last start (end ∷ ends) (suc k) d e rise within =
    next_not_before last end ends k d e rise.1 (omega (arith, within))

row_between : (elements : List ℤ) (start : ℕ) (ends : List ℕ) (k d e : ℕ) → k < length ends →
    row_of (rows_from elements start ends) k
    ≡ elements_between elements (offset start ends k d) (offset start ends (suc k) e)
row_between elements start [] k d e within = absurd (omega arith)
row_between elements start (end ∷ ends) zero d e within = refl
row_between elements start (end ∷ ends) (suc k) d e within = row_between elements end ends k d e (omega (arith, within))

offset_at : (offsets : List ℕ) (k d : ℕ) → k < length offsets → slice_get offsets k ≡ Some (slice_index_or offsets k d)
offset_at [] k d within = absurd (omega arith)
offset_at (offset ∷ offsets) zero d within = refl
offset_at (offset ∷ offsets) (suc k) d within = offset_at offsets k d (omega (arith, within))

pub row_there : (elements : List ℤ) (offsets : List ℕ) (k d e : ℕ) → AreOffsets elements offsets →
    k + 1 < length offsets → IsRow elements offsets k (slice_index_or offsets k d) (slice_index_or offsets (k + 1) e)
row_there elements [] k d e are within = absurd are
row_there elements (start ∷ ends) k d e are within =
    let inside : k < length ends = omega (arith, within) in
    let next : k + 1 ≡ suc k = omega arith in
    subst (λ n. IsRow elements (start ∷ ends) k (offset start ends k d) (slice_index_or (start ∷ ends) n e)) (sym next)
    (record {
      begins = offset_at (start ∷ ends) k d (omega (arith, inside));
      ends = subst (λ n. slice_get (start ∷ ends) n ≡ Some (offset start ends (suc k) e)) (sym next)
          (offset_at (start ∷ ends) (suc k) e (omega (arith, inside)));
      rises = next_not_before (length elements) start ends k d e are.1 inside;
      within = (not_past (length elements) start ends (suc k) e are.1 (omega (arith, inside))).1;
      is = row_between elements start ends k d e inside;
    })

no_row_from : (elements : List ℤ) (start : ℕ) (ends : List ℕ) (k : ℕ) → length ends ≤ k →
    row_of (rows_from elements start ends) k ≡ []
no_row_from elements start [] k past = refl
no_row_from elements start (end ∷ ends) zero past = absurd (omega arith)
no_row_from elements start (end ∷ ends) (suc k) past = no_row_from elements end ends k (omega (arith, past))

pub no_row : (elements : List ℤ) (offsets : List ℕ) (k : ℕ) → length offsets ≤ k + 1 →
    row_of (rows_at elements offsets) k ≡ []
no_row elements [] k past = refl
no_row elements (start ∷ ends) k past = no_row_from elements start ends k (omega (arith, past))

-- ---- a write

kept_behind : (elements : List ℤ) (start : ℕ) (ends : List ℕ) (last place : ℕ) (value : ℤ) → RiseTo last start ends →
    place < start → rows_from (slice_set elements place value) start ends ≡ rows_from elements start ends
kept_behind elements start [] last place value rise less = refl
kept_behind elements start (end ∷ ends) last place value rise less =
    let row = drop-set-lt start elements place value less in
    let rest = kept_behind elements end ends last place value rise.1 (omega (arith, less, rise.0)) in
    λ i. take (end - start) (row i) ∷ rest i

kept_before : (elements : List ℤ) (start end place : ℕ) (value : ℤ) → start ≤ end → end ≤ place →
    elements_between (slice_set elements place value) start end ≡ elements_between elements start end
kept_before elements start end place value rises past =
    let at : place ≡ start + (place - start) = omega (arith, rises, past) in
    ap (λ p. take (end - start) (drop start (slice_set elements p value))) at
    ∙ ap (λ row. take (end - start) row) (drop-set-add start elements (place - start) value)
    ∙ take-set-le (end - start) (drop start elements) (place - start) value (omega (arith, past))

row_set : (elements : List ℤ) (start end index : ℕ) (value : ℤ) → index < end - start →
    elements_between (slice_set elements (start + index) value) start end
    ≡ slice_set (elements_between elements start end) index value
row_set elements start end index value less =
    ap (λ row. take (end - start) row) (drop-set-add start elements index value)
    ∙ take-set-lt (end - start) (drop start elements) index value less

set_from : (elements : List ℤ) (start : ℕ) (ends : List ℕ) (last k d e index : ℕ) (value : ℤ) →
    RiseTo last start ends → k < length ends → index < offset start ends (suc k) e - offset start ends k d →
    rows_from (slice_set elements (offset start ends k d + index) value) start ends
    ≡ slice_set (rows_from elements start ends) k (slice_set (row_of (rows_from elements start ends) k) index value)
set_from elements start [] last k d e index value rise within less = absurd (omega arith)
set_from elements start (end ∷ ends) last zero d e index value rise within less =
    let row = row_set elements start end index value less in
    let rest = kept_behind elements end ends last (start + index) value rise.1 (omega (arith, less)) in
    λ i. row i ∷ rest i
set_from elements start (end ∷ ends) last (suc k) d e index value rise within less =
    let inside : k < length ends = omega (arith, within) in
    let behind = not_past last end ends k d rise.1 (omega (arith, inside)) in
    let row = kept_before elements start end (offset end ends k d + index) value rise.0 (omega (arith, behind.0)) in
    let rest = set_from elements end ends last k d e index value rise.1 inside less in
    λ i. row i ∷ rest i

first_read : (offsets : List ℕ) (k d offset : ℕ) → slice_get offsets k ≡ Some offset →
    (k < length offsets) × (slice_index_or offsets k d ≡ offset)
first_read [] k d offset there = absurd (let e : None ≡ Some offset = there in cc)
first_read (first ∷ offsets) zero d offset there = (omega arith, (let e : Some first ≡ Some offset = there in cc))
first_read (first ∷ offsets) (suc k) d offset there =
    let rest = first_read offsets k d offset there in
    (omega (arith, rest.0), rest.1)

pub set_there : (elements : List ℤ) (offsets : List ℕ) (field start end index : ℕ) (value : ℤ) →
    AreOffsets elements offsets → IsRow elements offsets field start end → index < end - start →
    rows_at (slice_set elements (start + index) value) offsets
    ≡ slice_set (rows_at elements offsets) field (slice_set (row_of (rows_at elements offsets) field) index value)
set_there elements [] field start end index value are row less = absurd are
set_there elements (first ∷ ends) field start end index value are row less =
    let begins = first_read (first ∷ ends) field 0 start row.begins in
    let next : field + 1 ≡ suc field = omega arith in
    let stops = first_read (first ∷ ends) (suc field) 0 end
    (subst (λ n. slice_get (first ∷ ends) n ≡ Some end) next row.ends) in
    let begin = begins.1 in
    let stop = stops.1 in
    let inside = stops.0 in
    subst (λ at. rows_at (slice_set elements (at + index) value) (first ∷ ends)
    ≡ slice_set (rows_at elements (first ∷ ends)) field
    (slice_set (row_of (rows_at elements (first ∷ ends)) field) index value)) begin
    (set_from elements first ends (length elements) field 0 0 index value are.1 (omega (arith, inside))
    (omega (arith, begin, stop, less)))

-- a row that is put in its own place
same_row : (rows : List (List ℤ)) (k : ℕ) → slice_set rows k (row_of rows k) ≡ rows
same_row [] k = refl
same_row (row ∷ rows) zero = refl
same_row (row ∷ rows) (suc k) = ap (λ others. row ∷ others) (same_row rows k)

-- no element has a place below 0
pub set_below : (rows : List (List ℤ)) (field : ℕ) (index value : ℤ) → SFits w64 index →
    (FitsUnsignedBits 64 index → ⊥) → rows ≡ store_after_write rows field index value
set_below rows field (pos index) value fits below = absurd (below (grind (arith, fits)))
set_below rows field (negsuc index) value fits below = sym (same_row rows field)

length_from : (elements : List ℤ) (start : ℕ) (ends : List ℕ) → length (rows_from elements start ends) ≡ length ends
length_from elements start [] = refl
length_from elements start (end ∷ ends) = ap (λ n. suc n) (length_from elements end ends)

length_at : (elements : List ℤ) (offsets : List ℕ) (k : ℕ) → length offsets ≤ k + 1 →
    length (rows_at elements offsets) ≤ k
length_at elements [] k past = omega arith
length_at elements (start ∷ ends) k past = rw (length_from elements start ends) (omega (arith, past))

-- there is no such row
pub set_nowhere : (elements : List ℤ) (offsets : List ℕ) (field index : ℕ) (value : ℤ) →
    length offsets ≤ field + 1 →
    rows_at elements offsets
    ≡ slice_set (rows_at elements offsets) field (slice_set (row_of (rows_at elements offsets) field) index value)
set_nowhere elements offsets field index value past =
    sym (set_out (rows_at elements offsets) field _ (length_at elements offsets field past))

-- the row is shorter
pub set_past : (elements : List ℤ) (offsets : List ℕ) (field start end index : ℕ) (value : ℤ) →
    IsRow elements offsets field start end → end - start ≤ index →
    rows_at elements offsets
    ≡ slice_set (rows_at elements offsets) field (slice_set (row_of (rows_at elements offsets) field) index value)
set_past elements offsets field start end index value row past =
    let rises = row.rises in
    let inside = row.within in
    let rest = length-drop start elements in
    let size = length-take-le (end - start) (drop start elements) (omega (arith, rises, inside, rest)) in
    let own = row_of (rows_at elements offsets) field in
    let there : slice_set own index value ≡ own =
    subst (λ r. slice_set r index value ≡ r) (sym row.is)
    (set_out (elements_between elements start end) index value (omega (arith, size, past))) in
    sym (ap (λ r. slice_set (rows_at elements offsets) field r) there ∙ same_row (rows_at elements offsets) field)

-- ---- a row more

rises_more : (elements row : List ℤ) (start : ℕ) (ends : List ℕ) (last : ℕ) → RiseTo (length elements) start ends →
    last ≡ length (elements ++ row) → RiseTo (length (elements ++ row)) start (ends ++ last ∷ [])
rises_more elements row start [] last rise is =
    let long = length-append elements row in
    (omega (arith, rise, is, long), is)
rises_more elements row start (end ∷ ends) last rise is =
    (rise.0, rises_more elements row end ends last rise.1 is)

pub offsets_more : (elements row : List ℤ) (offsets : List ℕ) (last : ℕ) → AreOffsets elements offsets →
    last ≡ length (elements ++ row) → AreOffsets (elements ++ row) (offsets ++ last ∷ [])
offsets_more elements row [] last are is = absurd are
offsets_more elements row (start ∷ ends) last are is = (are.0, rises_more elements row start ends last are.1 is)

kept_row : (elements row : List ℤ) (start end : ℕ) → start ≤ end → end ≤ length elements →
    elements_between (elements ++ row) start end ≡ elements_between elements start end
kept_row elements row start end rises within =
    let rest = length-drop start elements in
    ap (λ behind. take (end - start) behind) (drop-append-le start elements row (omega (arith, rises, within)))
    ∙ take-append-le (end - start) (drop start elements) row (omega (arith, rises, within, rest))

new_row : (elements row : List ℤ) (start last : ℕ) → start ≡ length elements → last ≡ length (elements ++ row) →
    elements_between (elements ++ row) start last ≡ row
new_row elements row start last from is =
    let long = length-append elements row in
    let size : last - start ≡ length row = omega (arith, from, is, long) in
    ap (λ n. take n (drop start (elements ++ row))) size
    ∙ ap (λ n. take (length row) (drop n (elements ++ row))) from
    ∙ ap (λ behind. take (length row) behind) (drop-append_seam elements row) ∙ take-length row

more_from : (elements row : List ℤ) (start : ℕ) (ends : List ℕ) (last : ℕ) → RiseTo (length elements) start ends →
    last ≡ length (elements ++ row) →
    rows_from (elements ++ row) start (ends ++ last ∷ []) ≡ rows_from elements start ends ++ row ∷ []
more_from elements row start [] last rise is = ap (λ new. new ∷ []) (new_row elements row start last rise is)
more_from elements row start (end ∷ ends) last rise is =
    let behind = not_past (length elements) end ends 0 0 rise.1 (omega arith) in
    let first = kept_row elements row start end rise.0 behind.1 in
    let rest = more_from elements row end ends last rise.1 is in
    λ i. first i ∷ rest i

pub rows_more : (elements row : List ℤ) (offsets : List ℕ) (last : ℕ) → AreOffsets elements offsets →
    last ≡ length (elements ++ row) →
    rows_at (elements ++ row) (offsets ++ last ∷ []) ≡ rows_at elements offsets ++ row ∷ []
rows_more elements row [] last are is = absurd are
rows_more elements row (start ∷ ends) last are is = more_from elements row start ends last are.1 is

-- ---- all elements

joined_from : (elements : List ℤ) (start : ℕ) (ends : List ℕ) → RiseTo (length elements) start ends →
    flat_map (λ row. row) (rows_from elements start ends) ≡ drop start elements
joined_from elements start [] rise = sym (drop_of_length-le elements (omega (arith, rise)))
joined_from elements start (end ∷ ends) rise =
    let size : start + (end - start) ≡ end = omega (arith, rise.0) in
    ap (λ rest. elements_between elements start end ++ rest)
    (joined_from elements end ends rise.1 ∙ ap (λ n. drop n elements) (sym size)
    ∙ sym (drop-drop (end - start) start elements))
    ∙ take-append-drop (end - start) (drop start elements)

-- the elements of all rows are the elements
pub joined : (elements : List ℤ) (offsets : List ℕ) → AreOffsets elements offsets →
    elements ≡ flat_map (λ row. row) (rows_at elements offsets)
joined elements [] are = absurd are
joined elements (start ∷ ends) are =
    sym (joined_from elements start ends are.1 ∙ ap (λ n. drop n elements) are.0)
