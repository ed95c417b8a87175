-- The lists of an assembly.
use Rattle.std.proofs.Common.{◌≡◌, ◌∙◌, ℕ, zero, suc, ◌<◌, ◌≤◌, List, [], ◌∷◌, length, map, replicate, ap, sym, arith}
use Rattle.std.proofs.Common.{Vec, Global, vec_items, All, slice_index_or, slice_set, drop, take, subst}
use Rattle.std.proofs.Common.{append_assoc, ◌-◌, ◌++◌}
use Rattle.std.proofs.lemmas.List.{length-append, length-map, length-replicate, map-set, get_or-map}
use Rattle.host_code.specs.declared.code.TheConstants.{MOST_ITEMS}
use Rattle.host_code.specs.declared.instruction.Instr.{Instr}

empty_short : (lists : List (Vec Instr Global)) (count : ℕ) → map vec_items lists ≡ replicate count [] →
    (place : ℕ) (other : Vec Instr Global) → place < length lists →
    length (slice_index_or lists place other).items ≤ MOST_ITEMS
empty_short [] count are place other within = absurd (omega (arith, within))
empty_short (list ∷ lists) zero are place other within =
    absurd (omega (arith, ap (λ (all : List (List Instr)). length all) are))
empty_short (list ∷ lists) (suc count) are zero other within =
    let none = ap (λ (all : List (List Instr)). length (slice_index_or all 0 [])) are in
    omega (arith, none)
empty_short (list ∷ lists) (suc count) are (suc place) other within =
    empty_short lists count (ap (λ (all : List (List Instr)). drop 1 all) are) place other (omega (arith, within))

-- lists that are empty are as many as they are, and not too long
pub empty_fit : (lists : List (Vec Instr Global)) (count : ℕ) → map vec_items lists ≡ replicate count [] →
    (length lists ≡ count) × All (λ list. length list.items ≤ MOST_ITEMS) lists
empty_fit lists count are = (
  sym (length-map lists vec_items) ∙ ap (λ (all : List (List Instr)). length all) are ∙ length-replicate count [],
  empty_short lists count are,
)

abbrev pub AreShort : List (Vec Instr Global) → Type 0
AreShort lists = All (λ list. length list.items ≤ MOST_ITEMS) lists

-- the next part is made
pub part_made : (settle : List Instr → List Instr) (hosts : ℕ) (made pushed all : List (List Instr))
    (part : List Instr) (list : Vec Instr Global) (before after : List (Vec Instr Global)) →
    before ≡ list ∷ after → length made < hosts →
    made ++ map settle (take (hosts - length made) (map vec_items before)) ≡ all →
    pushed ≡ made ++ part ∷ [] → part ≡ settle list.items →
    pushed ++ map settle (take (hosts - length pushed) (map vec_items after)) ≡ all
part_made settle hosts made pushed all part list before after is more so_far pushed_is part_is =
    let last = pushed_is ∙ ap (λ (one : List Instr). made ++ one ∷ []) part_is in
    let size = ap (λ (parts : List (List Instr)). length parts) last
    ∙ length-append made (settle list.items ∷ []) in
    let count : hosts - length made ≡ suc (hosts - length pushed) = omega (arith, size, more) in
    let rest = map settle (take (hosts - length pushed) (map vec_items after)) in
    ap (λ (parts : List (List Instr)). parts ++ rest) last
    ∙ append_assoc made (settle list.items ∷ []) rest
    ∙ sym (ap (λ (some : ℕ). made ++ map settle (take some (map vec_items (list ∷ after)))) count)
    ∙ sym (ap (λ (left : List (Vec Instr Global)).
    made ++ map settle (take (hosts - length made) (map vec_items left))) is)
    ∙ so_far

-- there are enough
pub part_left : (settle : List Instr → List Instr) (hosts : ℕ) (made all : List (List Instr))
    (before after : List (Vec Instr Global)) → hosts ≤ length made →
    made ++ map settle (take (hosts - length made) (map vec_items before)) ≡ all →
    made ++ map settle (take (hosts - length made) (map vec_items after)) ≡ all
part_left settle hosts made all before after enough so_far =
    let none : hosts - length made ≡ 0 = omega (arith, enough) in
    ap (λ (some : ℕ). made ++ map settle (take some (map vec_items after))) none
    ∙ sym (ap (λ (some : ℕ). made ++ map settle (take some (map vec_items before))) none)
    ∙ so_far

pub short_left : (list : Vec Instr Global) (before after : List (Vec Instr Global)) → before ≡ list ∷ after →
    AreShort before → AreShort after
short_left list before after is every = λ place other within.
    subst AreShort is every (suc place) other (omega (arith, within))

-- one list grows by an instruction
pub list_grown : (lists : List (Vec Instr Global)) (place : ℕ) (before after : Vec Instr Global)
    (instruction : Instr) → place < length lists → before ≡ slice_index_or lists place before →
    after.items ≡ before.items ++ instruction ∷ [] →
    map vec_items (slice_set lists place after)
    ≡ slice_set (map vec_items lists) place (slice_index_or (map vec_items lists) place [] ++ instruction ∷ [])
list_grown lists place before after instruction within is grown =
    let seen : slice_index_or (map vec_items lists) place [] ≡ before.items =
    get_or-map vec_items lists place before [] within
    ∙ sym (ap (λ (list : Vec Instr Global). list.items) is) in
    map-set vec_items lists place after
    ∙ ap (slice_set (map vec_items lists) place)
    (grown ∙ ap (λ (list : List Instr). list ++ instruction ∷ []) (sym seen))
