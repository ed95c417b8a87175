-- Values and rows that are the same, or may be affected; and what may be read of them.
use Rattle.std.proofs.Common.{◌≡◌, ◌∙◌, ℕ, inl, inr, List, [], ◌∷◌, ◌++◌, ap}
use Rattle.std.specs.Prelude.{ℤ}
use Rattle.std.specs.List.{AllZip}
use Rattle.js_base.specs.declared.ids.FieldId.{FieldId}
use Rattle.js_base.specs.declared.ids.VarId.{VarId}
use Rattle.jif_tree.specs.Altered.{Exposure, FieldIsAffected, VariableIsAffected, MayRead}
use Rattle.jif_tree.specs.Numbers.{IsNumber}
use Rattle.jif_tree.specs.Store.{element_at}
use Rattle.typed_steps.specs.Values.{AreAlike, AreRowsAlike}

-- ---- variables

pub alike_by : (exposure : Exposure) (x : VarId) (one two three : ℤ) → one ≡ two → AreAlike exposure x two three →
    AreAlike exposure x one three
alike_by exposure x one two three same (inl is) = inl (same ∙ is)
alike_by exposure x one two three same (inr far) = inr far

pub alike_on : (exposure : Exposure) (x : VarId) (one two three : ℤ) → AreAlike exposure x one two → two ≡ three →
    AreAlike exposure x one three
alike_on exposure x one two three (inl is) same = inl (is ∙ same)
alike_on exposure x one two three (inr far) same = inr far

pub alike_both : (exposure : Exposure) (x : VarId) (one two three : ℤ) → AreAlike exposure x one two →
    AreAlike exposure x two three → AreAlike exposure x one three
alike_both exposure x one two three (inl is) alike = alike_by exposure x one two three is alike
alike_both exposure x one two three (inr far) alike = inr far

-- what a host has may be read where a configuration has the other
pub may_read : (exposure : Exposure) (x : VarId) (one two : ℤ) → AreAlike exposure x one two →
    (VariableIsAffected exposure x → IsNumber one) → MayRead (VariableIsAffected exposure x) two one
may_read exposure x one two (inl is) number = inl is
may_read exposure x one two (inr far) number = inr (far, number far)

-- ---- rows of fields

pub row_by : (exposure : Exposure) (number : ℕ) (one two three : List ℤ) → one ≡ two →
    AreRowsAlike exposure number two three → AreRowsAlike exposure number one three
row_by exposure number one two three same (inl is) = inl (same ∙ is)
row_by exposure number one two three same (inr far) = inr far

pub row_on : (exposure : Exposure) (number : ℕ) (one two three : List ℤ) → AreRowsAlike exposure number one two →
    two ≡ three → AreRowsAlike exposure number one three
row_on exposure number one two three (inl is) same = inl (is ∙ same)
row_on exposure number one two three (inr far) same = inr far

pub row_both : (exposure : Exposure) (number : ℕ) (one two three : List ℤ) → AreRowsAlike exposure number one two →
    AreRowsAlike exposure number two three → AreRowsAlike exposure number one three
row_both exposure number one two three (inl is) other = row_by exposure number one two three is other
row_both exposure number one two three (inr far) other = inr far

pub row_read : (exposure : Exposure) (field : FieldId) (one two : List ℤ) (place : ℤ) →
    AreRowsAlike exposure field.0 one two → (FieldIsAffected exposure field → IsNumber (element_at one place)) →
    MayRead (FieldIsAffected exposure field) (element_at two place) (element_at one place)
row_read exposure field one two place (inl is) number = inl (ap (λ (row : List ℤ). element_at row place) is)
row_read exposure field one two place (inr far) number = inr (far, number far)

-- ---- lists in step

pub zip_last : {X : Type 0} (P : X → ℤ → Type 0) (xs : List X) (values : List ℤ) (x : X) (value : ℤ) →
    AllZip P xs values → P x value → AllZip P (xs ++ x ∷ []) (values ++ value ∷ [])
zip_last P [] [] x value all last = (last, tt)
zip_last P [] (first ∷ values) x value all last = absurd all
zip_last P (first ∷ xs) [] x value all last = absurd all
zip_last P (first ∷ xs) (own ∷ values) x value all last = (all.0, zip_last P xs values x value all.1 last)
