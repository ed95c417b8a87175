-- The same is set in both calls of a pair, and the same call is made in both runs.
use Rattle.std.proofs.Common.{◌≡◌, ◌≢◌, ◌∙◌, ap, refl, sym, subst, inl, inr, ◌⊎◌, arith, ℕ, zero, suc, ◌==◌, ℤ, pos}
use Rattle.std.proofs.Common.{List, [], ◌∷◌, ◌++◌, length, map, Option, Some, None, slice_get, slice_set, true, false}
use Rattle.std.proofs.Common.{Bool, if◌then◌else◌}
use Rattle.std.specs.Prelude.{unwrap_or}
use Rattle.std.specs.List.{AllZip}
use Rattle.std.proofs.lemmas.Bool.Decides.{eqb_tells}
use Rattle.std.proofs.lemmas.Option.{slice_get_within}
use Rattle.js_base.specs.declared.ids.FieldId.{FieldId}
use Rattle.js_base.specs.declared.ids.VarId.{VarId}
use Rattle.jif_tree.specs.declared.program.Program.{Program}
use Rattle.jif_tree.specs.declared.program.Stmt.{Stmt}
use Rattle.jif_tree.specs.declared.program.StmtKind as kind
use Rattle.jif_tree.specs.declared.program.Expr.{Expr}
use Rattle.jif_tree.specs.Store.{row_of, store_after_write, with_element}
use Rattle.jif_tree.specs.SourceRun.{Call, Item, run, Configuration, calls_after, with_value, method_at, result_of}
use Rattle.jif_tree.specs.SourceRun.{statements_of, passed, kept, value_of}
use Rattle.jif_tree.specs.Altered.{Exposure, VariableIsAffected, MayGive}
use Rattle.source_law.specs.Steady.{AreSteady, AllSteady, ArePassedWell, IsKeptWell}
use Rattle.source_law.specs.Related.{Pairs, IsPair, AreMates, AreAligned, alike, FieldsAgree}
use Rattle.source_law.proofs.CleanValues.{clean_same, ValuesAgree}
use Rattle.source_law.proofs.Lists.{set_there, set_elsewhere, still_there, last_there}
use Rattle.source_law.proofs.AlignedItems.{AreKept, ArePairsKept}

-- ---- one variable of one call

pub after_here : (calls : List Call) (i x : ℕ) (value : ℤ) (made : Call) → slice_get calls i ≡ Some made →
    slice_get (calls_after calls i x value) i ≡ Some (record made { values = with_value made.values x value })
after_here calls i x value made is =
    rw is (set_there calls i made (record made { values = with_value made.values x value }) is)

pub after_other : (calls : List Call) (i k x : ℕ) (value : ℤ) → k ≢ i →
    slice_get (calls_after calls i x value) k ≡ slice_get calls k
after_other calls i k x value apart = by (slice_get calls i) refl
  where
    by : (found : Option Call) → slice_get calls i ≡ found →
        slice_get (calls_after calls i x value) k ≡ slice_get calls k
    by None is = rw is refl
    by (Some made) is = rw is (set_elsewhere calls i k _ apart)

pub kept_after : (calls : List Call) (i x : ℕ) (value : ℤ) → AreKept calls (calls_after calls i x value)
kept_after calls i x value k call is = elim (eqb_tells k i) [
  | inl same ↦
      let P : ℕ → Type 0 = λ n. slice_get calls n ≡ Some call in
      let own : slice_get calls i ≡ Some call = subst P same.1 is in
      let Q : ℕ → Type 0 = λ n. slice_get (calls_after calls i x value) n
      ≡ Some (record call { values = with_value call.values x value }) in (
        record call { values = with_value call.values x value },
        subst Q (sym same.1) (after_here calls i x value call own),
        refl,
      )
  | inr other ↦ (call, after_other calls i k x value other.1 ∙ is, refl)
]

both_set : (one other : ℕ → ℤ) (x : ℕ) (v w : ℤ) (y : ℕ) → v ≡ w → one y ≡ other y →
    with_value one x v y ≡ with_value other x w y
both_set one other x v w y same rest = by (y == x)
  where
    by : (b : Bool) → (if b then v else one y) ≡ (if b then w else other y)
    by true = same
    by false = rest

-- the same value is set in a pair
pub set_both : (exposure : Exposure) (pairs : Pairs) (calls others : List Call) →
    ((i j : ℕ) → IsPair pairs i j → AreMates exposure pairs calls others i j) →
    ((i j k : ℕ) → IsPair pairs i j → IsPair pairs i k → j ≡ k) →
    ((i j k : ℕ) → IsPair pairs i k → IsPair pairs j k → i ≡ j) → (i j x : ℕ) (v w : ℤ) → IsPair pairs i j → v ≡ w →
    (k l : ℕ) → IsPair pairs k l → AreMates exposure pairs (calls_after calls i x v) (calls_after others j x w) k l
set_both exposure pairs calls others mates there here i j x v w pair same k l other = elim (eqb_tells k i) [
  | inl own ↦
      let P : ℕ → Type 0 = λ n. IsPair pairs n l in
      let also : j ≡ l = there i j l pair (subst P own.1 other) in
      let Q : ℕ → Type 0 = λ n. AreMates exposure pairs (calls_after calls i x v) (calls_after others j x w) n l in
      let R : ℕ → Type 0 = λ n. AreMates exposure pairs (calls_after calls i x v) (calls_after others j x w) i n in
      subst Q (sym own.1) (subst R also at)
  | inr apart ↦
      let was = mates k l other in
      record {
        first = was.first;
        first_there = after_other calls i k x v apart.1 ∙ was.first_there;
        second = was.second;
        second_there = after_other others j l x w (λ (is : l ≡ j).
            let P : ℕ → Type 0 = λ n. IsPair pairs k n in
            apart.1 (here k i j (subst P is other) pair)) ∙ was.second_there;
        alike = was.alike;
      }
]
  where
    at : AreMates exposure pairs (calls_after calls i x v) (calls_after others j x w) i j
    at =
        let was = mates i j pair in
        record {
          first = record was.first { values = with_value was.first.values x v };
          first_there = after_here calls i x v was.first was.first_there;
          second = record was.second { values = with_value was.second.values x w };
          second_there = after_here others j x w was.second was.second_there;
          alike = record {
            method = was.alike.method;
            callers = was.alike.callers;
            values = λ y clean. both_set was.first.values was.second.values x v w y.0 same (was.alike.values y clean);
          };
        }

pub values_agree : (exposure : Exposure) (pairs : Pairs) (c d : Configuration) (i j : ℕ) →
    AreMates exposure pairs c.calls d.calls i j → ValuesAgree exposure c d i j
values_agree exposure pairs c d i j mates x clean = rw (mates.first_there, mates.second_there)
    (mates.alike.values x clean)

-- ---- one row of the store

empty_row : (index value : ℤ) → with_element [] index value ≡ []
empty_row (pos index) value = refl
empty_row (ℤ.negsuc below) value = refl

row_set : (store : List (List ℤ)) (f : ℕ) (row : List ℤ) → (slice_get store f ≡ None → row ≡ []) →
    row_of (slice_set store f row) f ≡ row
row_set [] f row none = sym (none refl)
row_set (one ∷ store) zero row none = refl
row_set (one ∷ store) (suc f) row none = row_set store f row none

row_written : (store : List (List ℤ)) (f : ℕ) (index value : ℤ) →
    row_of (store_after_write store f index value) f ≡ with_element (row_of store f) index value
row_written store f index value =
    row_set store f (with_element (row_of store f) index value) (λ none.
    ap (λ found. with_element (unwrap_or found []) index value) none ∙ empty_row index value)

row_elsewhere : (store : List (List ℤ)) (k i : ℕ) (row : List ℤ) → i ≢ k →
    row_of (slice_set store k row) i ≡ row_of store i
row_elsewhere store k i row apart = ap (λ found. unwrap_or found []) (set_elsewhere store k i row apart)

pub write_both : (exposure : Exposure) (store other : List (List ℤ)) (f : FieldId) (index value at number : ℤ) →
    FieldsAgree exposure store other → index ≡ at → value ≡ number →
    FieldsAgree exposure (store_after_write store f.0 index value) (store_after_write other f.0 at number)
write_both exposure store other f index value at number agree same_index same g clean = elim (eqb_tells g.0 f.0) [
  | inl own ↦
      let P : ℕ → Type 0 = λ n. row_of store n ≡ row_of other n in
      let rows : row_of store f.0 ≡ row_of other f.0 = subst P own.1 (agree g clean) in
      let Q : ℕ → Type 0 = λ n. row_of (store_after_write store f.0 index value) n
      ≡ row_of (store_after_write other f.0 at number) n in
      subst Q (sym own.1)
      (row_written store f.0 index value ∙ ap (λ row. with_element row index value) rows
      ∙ ap (λ i. with_element (row_of other f.0) i value) same_index
      ∙ ap (with_element (row_of other f.0) at) same ∙ sym (row_written other f.0 at number))
  | inr apart ↦
      row_elsewhere store f.0 g.0 _ apart.1 ∙ agree g clean ∙ sym (row_elsewhere other f.0 g.0 _ apart.1)
]

-- ---- items of a pair

pub rows_alike : (program : Program) (exposure : Exposure) (pairs : Pairs) (calls others : List Call) (i j : ℕ)
    (made : Call) → IsPair pairs i j → slice_get calls i ≡ Some made → {n : _} → (row : kind.Row_of-Stmt n) →
    AreSteady program exposure (result_of (method_at program made.method)) row → (items more : List Item) →
    AreAligned program exposure pairs calls others items more →
    AreAligned program exposure pairs calls others (map (run i) (statements_of row) ++ items)
    (map (run j) (statements_of row) ++ more)
rows_alike program exposure pairs calls others i j made pair is kind.end_of-Stmt steady items more rest = rest
rows_alike program exposure pairs calls others i j made pair is (kind.more_of-Stmt id line what row) steady items more
    rest =
    alike _ _ _ _ (pair, refl, rw is (steady.0, steady.1))
    (rows_alike program exposure pairs calls others i j made pair is row steady.2 items more rest)

pub body_alike : (program : Program) (exposure : Exposure) (pairs : Pairs) (calls others : List Call) (i j : ℕ)
    (made : Call) → IsPair pairs i j → slice_get calls i ≡ Some made → (body : List Stmt) →
    AllSteady program exposure (result_of (method_at program made.method)) body → (items more : List Item) →
    AreAligned program exposure pairs calls others items more →
    AreAligned program exposure pairs calls others (map (run i) body ++ items) (map (run j) body ++ more)
body_alike program exposure pairs calls others i j made pair is [] steady items more rest = rest
body_alike program exposure pairs calls others i j made pair is (one ∷ body) steady items more rest =
    alike _ _ _ _ (pair, refl, rw is steady.0)
    (body_alike program exposure pairs calls others i j made pair is body steady.1 items more rest)

pub kept_alike : (program : Program) (exposure : Exposure) (pairs : Pairs) (calls others : List Call) (i j : ℕ) →
    IsPair pairs i j → (into result : Option VarId) → IsKeptWell exposure into result → (items more : List Item) →
    AreAligned program exposure pairs calls others items more →
    AreAligned program exposure pairs calls others (kept i into result ++ items) (kept j into result ++ more)
kept_alike program exposure pairs calls others i j pair None result well items more rest = rest
kept_alike program exposure pairs calls others i j pair (Some x) None well items more rest = rest
kept_alike program exposure pairs calls others i j pair (Some x) (Some result) well items more rest =
    alike _ _ _ _ (pair, refl, refl, well) rest

-- ---- parameters

pub passed_alike : (exposure : Exposure) (c d : Configuration) (i j : ℕ) → FieldsAgree exposure c.store d.store →
    ValuesAgree exposure c d i j → (params : List VarId) (args : List Expr) (values : List ℤ) →
    ArePassedWell exposure params args → AllZip (MayGive exposure c i) args values → (x : VarId) →
    ¬ VariableIsAffected exposure x → passed params values x.0 ≡ passed params (map (value_of d j) args) x.0
passed_alike exposure c d i j fields agree [] args values well all x clean = refl
passed_alike exposure c d i j fields agree (param ∷ params) [] [] well all x clean = refl
passed_alike exposure c d i j fields agree (param ∷ params) [] (value ∷ values) well all x clean = absurd all
passed_alike exposure c d i j fields agree (param ∷ params) (arg ∷ args) [] well all x clean = absurd all
passed_alike exposure c d i j fields agree (param ∷ params) (arg ∷ args) (value ∷ values) well all x clean =
    elim (eqb_tells x.0 param.0) [
      | inl own ↦ rw own.0 (elim well.0 [
        | inl far ↦
            let P : ℕ → Type 0 = λ n. VariableIsAffected exposure (record { 0 = n }) in
            absurd (clean (subst P (sym own.1) far))
        | inr pure ↦ clean_same exposure c d i j fields agree arg value pure all.0
      ])
      | inr other ↦ rw other.0
          (passed_alike exposure c d i j fields agree params args values well.1 all.1 x clean)
    ]

-- ---- one more pair

pub pair_more : (pairs : Pairs) (m n : ℕ) → ArePairsKept pairs (pairs ++ (m, n) ∷ [])
pair_more pairs m n i j pair = (pair.0, still_there pairs (m, n) (i, j) pair.0 pair.1)

pub pair_last : (pairs : Pairs) (m n : ℕ) → IsPair (pairs ++ (m, n) ∷ []) m n
pair_last pairs m n = (length pairs, last_there pairs (m, n))

pub pair_cases : (pairs : Pairs) (m n i j : ℕ) → IsPair (pairs ++ (m, n) ∷ []) i j →
    IsPair pairs i j ⊎ ((i ≡ m) × (j ≡ n))
pair_cases [] m n i j (zero, is) =
    let first_of : Option (ℕ × ℕ) → ℕ = λ found. (unwrap_or found (m, n)).0 in
    let second_of : Option (ℕ × ℕ) → ℕ = λ found. (unwrap_or found (m, n)).1 in
    inr (sym (ap first_of is), sym (ap second_of is))
pair_cases [] m n i j (suc k, is) = absurd (cc)
pair_cases (one ∷ pairs) m n i j (zero, is) = inl (zero, is)
pair_cases (one ∷ pairs) m n i j (suc k, is) = elim (pair_cases pairs m n i j (k, is)) [
  | inl old ↦ inl (suc old.0, old.1)
  | inr new ↦ inr new
]

pub past_end : (calls : List Call) (i : ℕ) (made : Call) → slice_get calls i ≡ Some made → i ≢ length calls
past_end calls i made is same = absurd (omega (arith, same, slice_get_within calls i made is))
