-- What is made of the items of a list one by one, where none of them has a fault.
use Rattle.std.proofs.Common.{◌≡◌, ℕ, zero, suc, ◌+◌, ◌<◌, List, [], ◌∷◌, ◌++◌, map, length, take, get_or}
use Rattle.std.proofs.Common.{refl, sym, ap, ◌∙◌, subst, arith}
use Rattle.std.specs.List.{AllZip, flat_map}
use Rattle.std.proofs.lemmas.List.{take_more, map-append, append_assoc}
use Rattle.js_base.proofs.Lists.{zip_push}
use Rattle.js_base.specs.declared.ids.PrincipalId.{PrincipalId}
use Rattle.js_base.proofs.Lists.{none_in_two, none_in_four}
use Rattle.principals.specs.ActsFor.{Declared}
use Rattle.label_lattice.specs.Written.{IsKnown, AreKnown}
use Rattle.jif_tree.specs.declared.draft.NameDraft.{NameDraft}
use Rattle.jif_grammar.specs.DraftShapes.{NameShape, name_shape, LabelShape, ExprShape, end_shape}
use Rattle.jif_grammar.specs.DraftShapes.{element_assignment_shape}
use Rattle.jif_resolve.specs.declared.fault.Fault.{Fault}
use Rattle.jif_resolve.specs.Faults.{label_faults, array_faults, expr_faults, block_faults}
use Rattle.jif_resolve.specs.Labels.{texts}
use Rattle.jif_resolve.specs.Places.{Setting, Place, meaning_at}
use Rattle.jif_resolve.specs.Making.{no_start}

clean_place : {X Y : Type 0} (shape : X → Y) (faults : Y → List Fault) (xs : List X) (i : ℕ) (d : X) →
    i < length xs → flat_map faults (map shape xs) ≡ [] → faults (shape (get_or xs i d)) ≡ []
clean_place shape faults [] i d less none = absurd (omega (arith, less))
clean_place shape faults (x ∷ xs) zero d less none =
    (none_in_two (faults (shape x)) (flat_map faults (map shape xs)) none).0
clean_place shape faults (x ∷ xs) (suc i) d less none =
    clean_place shape faults xs i d (omega (arith, less))
    (none_in_two (faults (shape x)) (flat_map faults (map shape xs)) none).1

-- an item of items without faults
pub clean_at : {X Y : Type 0} (shape : X → Y) (faults : Y → List Fault) (xs : List X) (i : ℕ) (x : X) →
    i < length xs → x ≡ get_or xs i x → flat_map faults (map shape xs) ≡ [] → faults (shape x) ≡ []
clean_at shape faults xs i x less is none =
    ap (λ y. faults (shape y)) is ∙ clean_place shape faults xs i x less none

-- ---- items that are gone over by their places

pub one_taken : {X : Type 0} (xs : List X) (i : ℕ) (x : X) → i < length xs → x ≡ get_or xs i x →
    take (i + 1) xs ≡ take i xs ++ x ∷ []
one_taken xs i x less is = take_more xs i x less ∙ ap (λ y. take i xs ++ y ∷ []) (sym is)

pub shapes_more : {X Y : Type 0} (shape : X → Y) (xs : List X) (i : ℕ) (x : X) → i < length xs →
    x ≡ get_or xs i x → map shape (take (i + 1) xs) ≡ map shape (take i xs) ++ shape x ∷ []
shapes_more shape xs i x less is =
    ap (map shape) (one_taken xs i x less is) ∙ map-append shape (take i xs) (x ∷ [])

-- one more item, and what becomes of it
pub zip_map_push : {X Y V W : Type 0} (shape : X → Y) (tree : V → W) (R : Y → W → Type 0) (xs : List X) (vs : List V)
    (x : X) (v : V) → AllZip R (map shape xs) (map tree vs) → R (shape x) (tree v) →
    AllZip R (map shape (xs ++ x ∷ [])) (map tree (vs ++ v ∷ []))
zip_map_push shape tree R xs vs x v all last =
    subst (λ ws. AllZip R (map shape (xs ++ x ∷ [])) ws) (sym (map-append tree vs (v ∷ [])))
    (subst (λ ys. AllZip R ys (map tree vs ++ tree v ∷ [])) (sym (map-append shape xs (x ∷ [])))
    (zip_push R (map shape xs) (map tree vs) (shape x) (tree v) all last))

pub zip_map_more : {X Y V W : Type 0} (shape : X → Y) (tree : V → W) (R : Y → W → Type 0) (xs : List X) (vs : List V)
    (i : ℕ) (x : X) (v : V) → i < length xs → x ≡ get_or xs i x →
    AllZip R (map shape (take i xs)) (map tree vs) → R (shape x) (tree v) →
    AllZip R (map shape (take (i + 1) xs)) (map tree (vs ++ v ∷ []))
zip_map_more shape tree R xs vs i x v less is all last =
    subst (λ ys. AllZip R (map shape ys) (map tree (vs ++ v ∷ []))) (sym (one_taken xs i x less is))
    (zip_map_push shape tree R (take i xs) vs x v all last)

-- ---- items that are taken out one by one

pub goes_on : {X : Type 0} (all front back rest : List X) (x : X) → front ++ back ≡ all → back ≡ x ∷ rest →
    (front ++ x ∷ []) ++ rest ≡ all
goes_on all front back rest x whole next =
    append_assoc front (x ∷ []) rest ∙ ap (λ ys. front ++ ys) (sym next) ∙ whole

pub none_left : {X : Type 0} (xs : List X) → length xs ≡ 0 → xs ≡ []
none_left [] none = refl
none_left (x ∷ xs) none = absurd (omega (arith, none))

clean_middle : {X Y : Type 0} (shape : X → Y) (faults : Y → List Fault) (front : List X) (x : X) (back : List X) →
    flat_map faults (map shape (front ++ x ∷ back)) ≡ [] → faults (shape x) ≡ []
clean_middle shape faults [] x back none =
    (none_in_two (faults (shape x)) (flat_map faults (map shape back)) none).0
clean_middle shape faults (y ∷ front) x back none =
    clean_middle shape faults front x back
    (none_in_two (faults (shape y)) (flat_map faults (map shape (front ++ x ∷ back))) none).1

pub clean_next : {X Y : Type 0} (shape : X → Y) (faults : Y → List Fault) (all front back rest : List X) (x : X) →
    front ++ back ≡ all → back ≡ x ∷ rest → flat_map faults (map shape all) ≡ [] → faults (shape x) ≡ []
clean_next shape faults all front back rest x whole next none =
    clean_middle shape faults front x rest
    (ap (λ ys. flat_map faults (map shape ys)) (ap (λ ys. front ++ ys) (sym next) ∙ whole) ∙ none)

-- ---- names

-- one more name
pub known_more : (principals : Declared) (names : List NameDraft) (known : List PrincipalId) (i : ℕ) (name : NameDraft)
    (p : PrincipalId) → i < length names → name ≡ get_or names i name →
    AreKnown principals (texts (map name_shape (take i names))) known →
    IsKnown principals (name_shape name).text p →
    AreKnown principals (texts (map name_shape (take (i + 1) names))) (known ++ p ∷ [])
known_more principals names known i name p less same are is =
    let front = map name_shape (take i names) in
    let shape = name_shape name in
    let shapes = ap texts (shapes_more name_shape names i name less same)
    ∙ map-append (λ n. n.text) front (shape ∷ []) in
    subst (λ ys. AreKnown principals ys (known ++ p ∷ [])) (sym shapes)
    (zip_push (IsKnown principals) (texts front) known shape.text p are is)

pub clean_binary : (s : Setting) (p : Place) (left right : ExprShape) → expr_faults s p left ++ expr_faults s p right
    ≡ [] →
    (expr_faults s p left ≡ []) × (expr_faults s p right ≡ [])
clean_binary s p left right none = none_in_two (expr_faults s p left) (expr_faults s p right) none

pub clean_labelled : (s : Setting) (p : Place) (inner : ExprShape) (label : LabelShape) →
    expr_faults s p inner ++ label_faults s.principals label ≡ [] →
    (expr_faults s p inner ≡ []) × (label_faults s.principals label ≡ [])
clean_labelled s p inner label none = none_in_two (expr_faults s p inner) (label_faults s.principals label) none

pub clean_element : (s : Setting) (p : Place) (name : NameShape) (index : ExprShape) →
    array_faults name.at (meaning_at s p name.text) ++ expr_faults s p index ≡ [] →
    (array_faults name.at (meaning_at s p name.text) ≡ []) × (expr_faults s p index ≡ [])
clean_element s p name index none =
    none_in_two (array_faults name.at (meaning_at s p name.text)) (expr_faults s p index) none

pub clean_element_assignment : (s : Setting) (p : Place) (name : NameShape) (index value : ExprShape) →
    block_faults s p (element_assignment_shape no_start name index value end_shape) ≡ [] →
    (expr_faults s p index ≡ []) × (expr_faults s p value ≡ [])
clean_element_assignment s p name index value none =
    let parts = none_in_four (array_faults name.at (meaning_at s p name.text)) (expr_faults s p index)
    (expr_faults s p value) [] none in
    (parts.1, parts.2)
