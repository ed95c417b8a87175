-- Texts, and lists of texts of which no two are the same. A text is the list of its bytes.
use Rattle.std.proofs.Common.{ℕ, ◌≡◌, ◌<◌, Bool, true, ◌++◌, List, [], ◌∷◌, sym, ap, refl}
use Rattle.std.specs.Prelude.{Contains}
use Rattle.std.specs.Cmp.{IsEquivalence}
use Rattle.std.specs.List.{IsDistinct, list_all}
use Rattle.std.specs.Str.{bytes_eq, IsAscii}
use Rattle.std.proofs.lemmas.Bool.{false_from_ne_true, and_parts}
use Rattle.std.proofs.lemmas.Bool.Decides.{same_from_decides}
use Rattle.std.proofs.lemmas.Map.Keys.{IsDistinct-push}
use Rattle.std.proofs.lemmas.Map.Views.{Contains-from_any}
use Rattle.std.proofs.lemmas.Slice.Eq.{bytes_eq-Decides}
use Rattle.std.proofs.lemmas.Str.Ascii.{IsAscii-nil, IsAscii-cons}

pub bytes_eq_laws : IsEquivalence bytes_eq
bytes_eq_laws = record {
  refl = λ x. (bytes_eq-Decides x x).1 refl;
  symm =
      λ x y. same_from_decides (bytes_eq x y) (bytes_eq y x) (bytes_eq-Decides x y)
      (λ is. sym ((bytes_eq-Decides y x).0 is), λ same. (bytes_eq-Decides y x).1 (sym same));
  congr = λ x y z is. ap (λ w. bytes_eq w z) ((bytes_eq-Decides x y).0 is);
}

pub no_texts : IsDistinct bytes_eq []
unfolding IsDistinct
no_texts = tt

-- one more text, which none is the same as
pub distinct_more : (texts : List (List ℕ)) (text : List ℕ) → IsDistinct bytes_eq texts → ¬ Contains texts text →
    IsDistinct bytes_eq (texts ++ text ∷ [])
distinct_more texts text distinct lacks =
    IsDistinct-push bytes_eq_laws texts text distinct
    (false_from_ne_true _ (λ is. lacks (Contains-from_any (λ x y. (bytes_eq-Decides x y).0) text texts is)))

-- bytes of a kind that are all below 128
pub list_ascii : (p : ℕ → Bool) → ((byte : ℕ) → p byte ≡ true → byte < 128) → (text : List ℕ) →
    list_all p text ≡ true → IsAscii text
list_ascii p low [] all = IsAscii-nil
list_ascii p low (byte ∷ bytes) all =
    let parts = and_parts (p byte) (list_all p bytes) all in
    IsAscii-cons byte bytes (low byte parts.0) (list_ascii p low bytes parts.1)
