-- A piece in the rows of the parts on which it depends.
use Rattle.std.proofs.Common.{◌≡◌, ◌≢◌, ◌∙◌, ℕ, ◌<◌, ◌≤◌, Bool, true, false, ◌||◌, nat_eq, List, [], ◌∷◌, ◌++◌}
use Rattle.std.proofs.Common.{map, length, get_or, set, replicate, refl, ap, sym, subst, arith, inl, inr}
use Rattle.std.proofs.Common.{append-nil, append_assoc, eq-eqb, ne_eqb}
use Rattle.std.proofs.Math.Bool.{or-true}
use Rattle.std.proofs.lemmas.Bool.{cases_eq, cases_Bool}
use Rattle.std.proofs.lemmas.List.{get_or-set_same, get_or-set_other, length-set, length-map, length-replicate}
use Rattle.std.proofs.lemmas.List.{get_or-replicate, map-append, map-set, get_or-map}
use Rattle.std.proofs.lemmas.List.Elements.{filter-append}
use Rattle.std.proofs.lemmas.Option.{slice_get-map}
use Rattle.std.specs.Prelude.{if◌then◌else◌, Option, Some, None, slice_get}
use Rattle.std.specs.Option.{option_map}
use Rattle.std.specs.Global.{Vec}
use Rattle.js_base.specs.declared.ids.StmtId.{StmtId}
use Rattle.jif_tree.specs.declared.program.Method.{Method}
use Rattle.jif_tree.specs.Trees.{MethodTree, method_tree}
use Rattle.msg_cost.specs.declared.piece.Piece.{Piece as Kept}
use Rattle.msg_cost.specs.Pieces.{CostPiece}
use Rattle.msg_cost.specs.PieceViews.{piece_shape, all_pieces}
use Rattle.msg_cost.specs.Rows.{has_number, AreRows, AreNoted, rows_of}
use Rattle.msg_cost.specs.Touches.{head_of_method, statements_of_method}
use Rattle.msg_cost.specs.Views.{ids_of}
use Rattle.msg_cost.proofs.Statements.{own_ids}

-- ---- numbers

has_last : (t : ℕ) (done : List ℕ) (number : ℕ) → number ≡ t → has_number t (done ++ number ∷ []) ≡ true
has_last t [] number same = ap (λ (test : Bool). test || false) (eq-eqb number t same)
has_last t (one ∷ done) number same =
    ap (λ (test : Bool). nat_eq one t || test) (has_last t done number same) ∙ or-true (nat_eq one t)

has_other : (t : ℕ) (done : List ℕ) (number : ℕ) → number ≢ t →
    has_number t (done ++ number ∷ []) ≡ has_number t done
has_other t [] number apart = ap (λ (test : Bool). test || false) (ne_eqb number t apart)
has_other t (one ∷ done) number apart = ap (λ (test : Bool). nat_eq one t || test) (has_other t done number apart)

true_not_false : (test : Bool) → test ≡ true → test ≡ false → ⊥
true_not_false test is not = absurd (differ (sym is ∙ not))
  where
    differ : true ≡ false → ⊥
    differ same = cc

not_true : (test : Bool) → (test ≡ true → ⊥) → test ≡ false
not_true test not = elim (cases_Bool test) [
  | inl is ↦ absurd (not is)
  | inr is ↦ is
]

-- ---- one piece

abbrev with_piece : CostPiece → Bool → List CostPiece
with_piece piece test = if test then piece ∷ [] else []

pub noted_first : (turn : ℕ) (piece : CostPiece) (before : List (List CostPiece)) (marks : List ℕ) →
    length marks ≡ length before → ((number : ℕ) → number < length marks → get_or marks number 0 < turn) →
    AreNoted turn piece [] before before marks
noted_first turn piece before marks long fresh = record {
  long = refl;
  marked = long;
  added = λ number within. sym (append-nil (get_or before number []));
  turns = λ number within. let less = fresh number (omega arith) in omega arith;
  noted = λ number within.
      let less = fresh number (omega arith) in
      ((λ same. absurd (omega (arith, same))), (λ has. absurd (true_not_false false has refl)));
}

-- the row of one more number gets it
pub noted_here : (turn : ℕ) (piece : CostPiece) (done : List ℕ) (number : ℕ) (before after : List (List CostPiece))
    (marks : List ℕ) → number < length marks → get_or marks number 0 ≢ turn →
    AreNoted turn piece done before after marks →
    AreNoted turn piece (done ++ number ∷ []) before (set after number (get_or after number [] ++ piece ∷ []))
    (set marks number turn)
noted_here turn piece done number before after marks within fresh so =
    let row : List CostPiece = get_or after number [] ++ piece ∷ [] in
    let long = so.long in
    let marked = so.marked in
    let inside : number < length before = omega arith in
    let inside_after : number < length after = omega arith in
    let not_yet : has_number number done ≡ false =
    not_true (has_number number done) (λ has. fresh ((so.noted number inside).1 has)) in
    let Added : ℕ → Type 0 = λ t. get_or (set after number row) t []
    ≡ get_or before t [] ++ with_piece piece (has_number t (done ++ number ∷ [])) in
    let here : Added number =
    get_or-set_same after number row [] inside_after
    ∙ ap (λ (old : List CostPiece). old ++ piece ∷ [])
    (so.added number inside ∙ ap (λ (test : Bool). get_or before number [] ++ with_piece piece test) not_yet
    ∙ append-nil (get_or before number []))
    ∙ ap (λ (test : Bool). get_or before number [] ++ with_piece piece test)
    (sym (has_last number done number refl)) in
    record {
      long = length-set after number row ∙ long;
      marked = length-set marks number turn ∙ marked;
      added = λ t below. elim (cases_eq t number) [
        | inl same ↦ subst Added (sym same) here
        | inr apart ↦ get_or-set_other after number t row [] apart ∙ so.added t below
            ∙ ap (λ (test : Bool). get_or before t [] ++ with_piece piece test)
            (sym (has_other t done number (λ same. apart (sym same))))
      ];
      turns = λ t below. elim (cases_eq t number) [
        | inl same ↦
            let now : get_or (set marks number turn) t 0 ≡ turn =
            ap (λ (n : ℕ). get_or (set marks number turn) n 0) same ∙ get_or-set_same marks number turn 0 within in
            omega arith
        | inr apart ↦
            let old = get_or-set_other marks number t turn 0 apart in
            let was = so.turns t below in
            omega arith
      ];
      noted = λ t below. elim (cases_eq t number) [
        | inl same ↦ (
          (λ is. has_last t done number (sym same)),
          (λ has. ap (λ (n : ℕ). get_or (set marks number turn) n 0) same
              ∙ get_or-set_same marks number turn 0 within),
        )
        | inr apart ↦
            let old = get_or-set_other marks number t turn 0 apart in
            let others = has_other t done number (λ same. apart (sym same)) in (
              (λ is. others ∙ (so.noted t below).0 (sym old ∙ is)),
              (λ has. old ∙ (so.noted t below).1 (sym others ∙ has)),
            )
      ];
    }

-- there is no such row, or it has the piece
pub noted_again : (turn : ℕ) (piece : CostPiece) (done : List ℕ) (number : ℕ) (before after : List (List CostPiece))
    (marks : List ℕ) → ((number < length marks) × (get_or marks number 0 ≢ turn) → ⊥) →
    AreNoted turn piece done before after marks → AreNoted turn piece (done ++ number ∷ []) before after marks
noted_again turn piece done number before after marks stale so =
    let same_test : (t : ℕ) → t < length before → has_number t (done ++ number ∷ []) ≡ has_number t done =
    λ t below. elim (cases_eq number t) [
      | inl same ↦
          let marked = so.marked in
          let there : number < length marks = omega arith in
          let turned : get_or marks number 0 ≡ turn = elim (cases_eq (get_or marks number 0) turn) [
            | inl is ↦ is
            | inr not ↦ absurd (stale (there, not))
          ] in
          let has = (so.noted t below).0 (ap (λ (n : ℕ). get_or marks n 0) (sym same) ∙ turned) in
          has_last t done number same ∙ sym has
      | inr apart ↦ has_other t done number apart
    ] in
    record {
      long = so.long;
      marked = so.marked;
      added = λ t below. so.added t below
          ∙ ap (λ (test : Bool). get_or before t [] ++ with_piece piece test) (sym (same_test t below));
      turns = so.turns;
      noted = λ t below. (
        (λ is. same_test t below ∙ (so.noted t below).0 is),
        (λ has. (so.noted t below).1 (sym (same_test t below) ∙ has)),
      );
    }

-- ---- all pieces

pub no_rows : (touched : CostPiece → List ℕ) (count : ℕ) (rows : List (List CostPiece)) → rows ≡ replicate count [] →
    AreRows touched [] rows
no_rows touched count rows is = record {
  rows_are = λ number below.
      let long : length rows ≡ count = ap length is ∙ length-replicate count [] in
      ap (λ (all : List (List CostPiece)). get_or all number []) is
      ∙ get_or-replicate count number [] [] (omega arith);
}

pub rows_more : (touched : CostPiece → List ℕ) (pieces : List CostPiece) (piece : CostPiece) (turn : ℕ)
    (rows after : List (List CostPiece)) (marks : List ℕ) → AreRows touched pieces rows →
    AreNoted turn piece (touched piece) rows after marks → AreRows touched (pieces ++ piece ∷ []) after
rows_more touched pieces piece turn rows after marks are noted = record {
  rows_are = λ number below.
      let long = noted.long in
      let inside : number < length rows = omega arith in
      noted.added number inside
      ∙ ap (λ (row : List CostPiece). row ++ with_piece piece (has_number number (touched piece)))
      (are.rows_are number inside)
      ∙ sym (filter-append (λ (one : CostPiece). has_number number (touched one)) pieces (piece ∷ []));
}

-- ---- methods

pub method_added : (methods : List Method) (number : ℕ) (called : Method) (old next : List ℕ) →
    slice_get methods number ≡ Some called →
    next ≡ (old ++ called.head.0 ∷ []) ++ map (λ statement. statement.0) (ids_of called.body.items) →
    next ≡ old ++ map (λ statement. statement.0) (statements_of_method (slice_get (map method_tree methods) number))
method_added methods number called old next found is =
    let P : Option MethodTree → Type 0 = λ one. next ≡ old ++ map (λ statement. statement.0)
    (statements_of_method one) in
    let there : slice_get (map method_tree methods) number ≡ Some (method_tree called) =
    slice_get-map method_tree methods number ∙ ap (option_map method_tree) found in
    let own = own_ids called.body.items in
    subst P (sym there)
    (is ∙ append_assoc old (called.head.0 ∷ []) (map (λ statement. statement.0) (ids_of called.body.items))
    ∙ ap (λ (ids : List StmtId). old ++ (called.head.0 ∷ map (λ statement. statement.0) ids)) (sym own))

pub method_absent : (methods : List Method) (number : ℕ) (old : List ℕ) → slice_get methods number ≡ None →
    old ≡ old ++ map (λ statement. statement.0) (statements_of_method (slice_get (map method_tree methods) number))
method_absent methods number old none =
    let P : Option MethodTree → Type 0 = λ one. old ≡ old ++ map (λ statement. statement.0)
    (statements_of_method one) in
    let there : slice_get (map method_tree methods) number ≡ None =
    slice_get-map method_tree methods number ∙ ap (option_map method_tree) none in
    subst P (sym there) (sym (append-nil old))

pub head_added : (methods : List Method) (number : ℕ) (called : Method) (old next : List ℕ) →
    slice_get methods number ≡ Some called → next ≡ old ++ called.head.0 ∷ [] →
    next ≡ old ++ map (λ statement. statement.0) (head_of_method (slice_get (map method_tree methods) number))
head_added methods number called old next found is =
    let P : Option MethodTree → Type 0 = λ one. next ≡ old ++ map (λ statement. statement.0) (head_of_method one) in
    let there : slice_get (map method_tree methods) number ≡ Some (method_tree called) =
    slice_get-map method_tree methods number ∙ ap (option_map method_tree) found in
    subst P (sym there) is

pub head_absent : (methods : List Method) (number : ℕ) (old : List ℕ) → slice_get methods number ≡ None →
    old ≡ old ++ map (λ statement. statement.0) (head_of_method (slice_get (map method_tree methods) number))
head_absent methods number old none =
    let P : Option MethodTree → Type 0 = λ one. old ≡ old ++ map (λ statement. statement.0) (head_of_method one) in
    let there : slice_get (map method_tree methods) number ≡ None =
    slice_get-map method_tree methods number ∙ ap (option_map method_tree) none in
    subst P (sym there) (sym (append-nil old))

-- ---- rows of the code

pub pushed_row : (rows : List (Vec Kept)) (place : ℕ) (row pushed : Vec Kept) (piece : Kept) →
    place < length (rows_of rows) → row ≡ get_or rows place row → pushed.items ≡ row.items ++ piece ∷ [] →
    rows_of (set rows place pushed)
    ≡ set (rows_of rows) place (get_or (rows_of rows) place [] ++ piece_shape piece ∷ [])
pushed_row rows place row pushed piece within is more =
    let shape : Vec Kept → List CostPiece = λ one. all_pieces one.items in
    let long = length-map rows shape in
    let old : get_or (rows_of rows) place [] ≡ all_pieces row.items =
    get_or-map shape rows place row [] (omega arith) ∙ ap shape (sym is) in
    map-set shape rows place pushed
    ∙ ap (λ (last : List CostPiece). set (rows_of rows) place last)
    (ap all_pieces more ∙ map-append piece_shape row.items (piece ∷ [])
    ∙ ap (λ (front : List CostPiece). front ++ piece_shape piece ∷ []) (sym old))

-- ---- turns

pub next_turn : (turn : ℕ) (piece : CostPiece) (numbers : List ℕ) (before after : List (List CostPiece))
    (marks : List ℕ) →
    AreNoted turn piece numbers before after marks → (number : ℕ) → number < length marks →
    get_or marks number 0 ≤ turn
next_turn turn piece numbers before after marks noted number below =
    let marked = noted.marked in
    noted.turns number (omega arith)
