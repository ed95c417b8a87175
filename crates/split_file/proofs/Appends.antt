-- Bytes put behind others in turn.
use Rattle.std.proofs.Common.{◌≡◌, ℕ, ◌+◌, ◌<◌, List, [], ◌∷◌, ◌++◌, length, take, get_or, ap, ◌∙◌, sym, subst}
use Rattle.std.proofs.Common.{append_assoc}
use Rattle.std.specs.Prelude.{slice_get, unwrap_or}
use Rattle.std.specs.List.{flat_map}
use Rattle.split_file.specs.Put.{ArePut}
use Rattle.std.proofs.lemmas.List.{append-nil, take_more}
use Rattle.std.proofs.lemmas.List.Elements.{All-more}
use Rattle.std.proofs.lemmas.List.Concat.{flat_map-append}
use Rattle.std.proofs.lemmas.Option.{slice_get-get_or}

pub ruleset appends = (append_assoc, append-nil)

-- the bytes of one more item
bytes_more : {A : Type 0} (f : A → List ℕ) (xs : List A) (i : ℕ) (d : A) → i < length xs →
    flat_map f (take (i + 1) xs) ≡ flat_map f (take i xs) ++ f (get_or xs i d)
bytes_more f xs i d lt =
    ap (flat_map f) (take_more xs i d lt) ∙ flat_map-append f (take i xs) (get_or xs i d ∷ [])
    ∙ ap (λ t. flat_map f (take i xs) ++ t) (append-nil (f (get_or xs i d)))

-- one more list
pub lists_more : {A : Type 0} (f : List A → List ℕ) (lists : List (List A)) (i : ℕ) → i < length lists →
    flat_map f (take (i + 1) lists) ≡ flat_map f (take i lists) ++ f (unwrap_or (slice_get lists i) [])
lists_more f lists i lt =
    bytes_more f lists i [] lt
    ∙ ap (λ there. flat_map f (take i lists) ++ f (unwrap_or there [])) (sym (slice_get-get_or lists i [] lt))

-- one more item was put
pub put_more : {A : Type 0} (f : A → List ℕ) (P : A → Type 0) (xs : List A) (i : ℕ) (d : A) (first out new : List ℕ) →
    i < length xs → ArePut f P first (take i xs) out → new ≡ out ++ f (get_or xs i d) → P (get_or xs i d) →
    ArePut f P first (take (i + 1) xs) new
put_more f P xs i d first out new lt so is here = record {
  bytes =
      is ∙ ap (λ was. was ++ f (get_or xs i d)) so.bytes
      ∙ append_assoc first (flat_map f (take i xs)) (f (get_or xs i d))
      ∙ ap (λ more. first ++ more) (sym (bytes_more f xs i d lt));
  real = All-more P xs i d lt so.real here;
}

-- one more item was put, which was read from its place
pub item_more : {A : Type 0} (f : A → List ℕ) (P : A → Type 0) (xs : List A) (i : ℕ) (x : A) (first out new : List ℕ) →
    i < length xs → x ≡ get_or xs i x → ArePut f P first (take i xs) out → new ≡ out ++ f x → P x →
    ArePut f P first (take (i + 1) xs) new
item_more f P xs i x first out new lt there so is here =
    put_more f P xs i x first out new lt so (is ∙ ap (λ one. out ++ f one) there) (subst P there here)
