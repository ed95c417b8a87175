-- Rows of fields, after one element of one row was written.
use Rattle.std.proofs.Common.{◌≡◌, ◌≢◌, ◌∙◌, ℕ, zero, suc, inl, inr, List, [], ◌∷◌, refl, ap, sym, subst}
use Rattle.std.specs.Prelude.{ℤ, pos, negsuc, slice_set, unwrap_or}
use Rattle.std.proofs.lemmas.Bool.Decides.{eqb_tells}
use Rattle.jif_tree.specs.Store.{row_of, with_element, store_after_write}
use Rattle.net_world.proofs.Present.{get_other}

no_element : (index value : ℤ) → with_element [] index value ≡ []
no_element (pos index) value = refl
no_element (negsuc below) value = refl

row_set : (store : List (List ℤ)) (field : ℕ) (make : List ℤ → List ℤ) → make [] ≡ [] →
    row_of (slice_set store field (make (row_of store field))) field ≡ make (row_of store field)
row_set [] field make none = sym none
row_set (row ∷ store) zero make none = refl
row_set (row ∷ store) (suc field) make none = row_set store field make none

pub row_written : (store : List (List ℤ)) (field : ℕ) (index value : ℤ) →
    row_of (store_after_write store field index value) field ≡ with_element (row_of store field) index value
row_written store field index value =
    row_set store field (λ row. with_element row index value) (no_element index value)

pub row_kept : (store : List (List ℤ)) (field : ℕ) (index value : ℤ) (other : ℕ) → other ≢ field →
    row_of (store_after_write store field index value) other ≡ row_of store other
row_kept store field index value other apart =
    ap (λ o. unwrap_or o []) (get_other store field other (with_element (row_of store field) index value) apart)

-- equal rows stay equal where the same is written in both
pub same_written : (one store : List (List ℤ)) (field : ℕ) (index value : ℤ) (number : ℕ) →
    row_of one number ≡ row_of store number →
    row_of (store_after_write one field index value) number ≡ row_of (store_after_write store field index value) number
same_written one store field index value number same = elim (eqb_tells number field) [
  | inl is ↦
      let at = is.1 in
      let here : row_of one field ≡ row_of store field =
      subst (λ n. row_of one n ≡ row_of store n) at same in
      subst (λ n. row_of (store_after_write one field index value) n
      ≡ row_of (store_after_write store field index value) n) (sym at)
      (row_written one field index value ∙ ap (λ row. with_element row index value) here
      ∙ sym (row_written store field index value))
  | inr apart ↦ row_kept one field index value number apart.1 ∙ same
      ∙ sym (row_kept store field index value number apart.1)
]
