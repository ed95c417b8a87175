-- Pieces that are put behind each other.
use Rattle.std.proofs.Common.{◌≡◌, ℕ, ◌<◌, ◌≤◌, List, [], ◌∷◌, ◌++◌, length, map, drop, get_or, ap, sym, ◌∙◌}
use Rattle.std.proofs.Common.{Global, Vec, vec_items}
use Rattle.std.specs.List.{flat_map}
use Rattle.std.proofs.Math.ListN.{set}
use Rattle.std.proofs.lemmas.List.{append_assoc, append-nil, drop_all, get_or-map, map-set}
use Rattle.js_base.specs.declared.ids.EntryId.{EntryId}

-- a piece in front, and then one for each element
pub front_and_all : {X Y : Type 0} (f : X → List Y) (xs others : List X) (i : ℕ) (start front made between : List Y) →
    length xs ≤ i → xs ≡ others → between ≡ start ++ front →
    made ++ flat_map f (drop i xs) ≡ between ++ flat_map f xs → made ≡ start ++ (front ++ flat_map f others)
front_and_all {X} {Y} f xs others i start front made between all same one was =
    sym (append-nil made)
    ∙ ap (λ (left : List X). made ++ flat_map f left) (sym (drop_all i xs all))
    ∙ was
    ∙ ap (λ (before : List Y). before ++ flat_map f xs) one
    ∙ append_assoc start front (flat_map f xs)
    ∙ ap (λ (ys : List X). start ++ (front ++ flat_map f ys)) same

-- two pieces
pub two_pieces : {Y : Type 0} (start first second between made : List Y) → between ≡ start ++ first →
    made ≡ between ++ second → made ≡ start ++ (first ++ second)
two_pieces {Y} start first second between made one two =
    two ∙ ap (λ (front : List Y). front ++ second) one ∙ append_assoc start first second

-- an entry is put behind those of one list
pub entry_pushed : (lists : List (Vec EntryId Global)) (m : ℕ) (was now : Vec EntryId Global) (entry : EntryId) →
    m < length lists → was ≡ get_or lists m was → now.items ≡ was.items ++ entry ∷ [] →
    map vec_items (set lists m now)
    ≡ set (map vec_items lists) m (get_or (map vec_items lists) m [] ++ entry ∷ [])
entry_pushed lists m was now entry lt is pushed =
    map-set vec_items lists m now
    ∙ ap (set (map vec_items lists) m) (pushed
    ∙ ap (λ (list : Vec EntryId Global). list.items ++ entry ∷ []) is
    ∙ ap (λ (items : List EntryId). items ++ entry ∷ []) (sym (get_or-map vec_items lists m was [] lt)))
