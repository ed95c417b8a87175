-- The pairs of names that are looked up, one after another.
use Rattle.std.proofs.Common.{ℕ, ◌≡◌, ◌<◌, ◌+◌, ◌∙◌, sym, ap, subst, inl, inr, suc, List, [], ◌∷◌, ◌++◌, length, get_or}
use Rattle.std.proofs.Common.{map, take, drop, Contains, zero, ◌≤◌, All, arith}
use Rattle.std.specs.Prelude.{String, string_bytes}
use Rattle.std.specs.declared.alloc.Global.{Global}
use Rattle.std.specs.List.{AllZip, IsDistinct}
use Rattle.std.proofs.lemmas.List.{map_more, map-append, length-map, get_or-map}
use Rattle.std.proofs.Math.Seq.{drop-cons}
use Rattle.std.proofs.lemmas.List.Elements.{All-map}
use Rattle.js_base.specs.Name.{IsName}
use Rattle.js_base.proofs.Lists.{zip_push}
use Rattle.js_base.specs.declared.ids.PrincipalId.{PrincipalId}
use Rattle.std.proofs.lemmas.Option.{slice_get_within, get_or_from_slice_get}
use Rattle.principals.specs.Declaring.{IsNamed, IsPairOf, IsFirstUnknown, mentioned_names, written_pair}
use Rattle.principals.specs.Pairs.{pair_of, pairs_of}
use Rattle.principals.specs.ActsFor.{IsDeclared}
use Rattle.std.specs.Str.{bytes_eq}

abbrev pub Written : Type 0
Written = String Global × String Global

-- the first pairs are known, and the first unknown name of the rest is the first of all
pub record PairedSoFar (names : List (String Global)) (pairs : List Written) (place : ℕ)
    (ids : List (PrincipalId × PrincipalId)) : Type 0 where
  pub known : AllZip (IsPairOf (map string_bytes names)) (map written_pair (take place pairs)) (map pair_of ids)
  pub first : (name : List ℕ) →
      IsFirstUnknown (map string_bytes names) (mentioned_names (map written_pair (drop place pairs))) name →
      IsFirstUnknown (map string_bytes names) (mentioned_names (map written_pair pairs)) name

pub named_is_held : (names : List (List ℕ)) (name : List ℕ) (place : ℕ) → IsNamed names name place → Contains names name
named_is_held names name place is =
    (place, slice_get_within names place name is, get_or_from_slice_get names place name name is)

-- the names of the rest begin with those of the next pair
rest_mentions : (pairs : List Written) (place : ℕ) (pair : Written) → place < length pairs →
    pair ≡ get_or pairs place pair → mentioned_names (map written_pair (drop place pairs)) ≡ string_bytes pair.0 ∷
    string_bytes pair.1 ∷ mentioned_names (map written_pair (drop (place + 1) pairs))
rest_mentions pairs place pair within read =
    let next : suc place ≡ place + 1 = omega arith in
    let cut : drop place pairs ≡ get_or pairs place pair ∷ drop (suc place) pairs = drop-cons pairs place pair within in
    let same : get_or pairs place pair ∷ drop (suc place) pairs ≡ pair ∷ drop (place + 1) pairs =
    ap (λ x. x ∷ drop (suc place) pairs) (sym read) ∙ ap (λ n. pair ∷ drop n pairs) next in
    ap (λ xs. mentioned_names (map written_pair xs)) (cut ∙ same)

known_more : (names : List (List ℕ)) (pairs : List Written) (place : ℕ) (ids : List (PrincipalId × PrincipalId))
    (pair : Written) (id : PrincipalId × PrincipalId) → place < length pairs → pair ≡ get_or pairs place pair →
    IsPairOf names (written_pair pair) (pair_of id) →
    AllZip (IsPairOf names) (map written_pair (take place pairs)) (map pair_of ids) →
    AllZip (IsPairOf names) (map written_pair (take (place + 1) pairs)) (map pair_of (ids ++ id ∷ []))
known_more names pairs place ids pair id within read is so_far =
    let P : List (List ℕ × List ℕ) → Type 0 = λ xs. AllZip (IsPairOf names) xs (map pair_of (ids ++ id ∷ [])) in
    let Q : List (ℕ × ℕ) → Type 0 =
    λ ys. AllZip (IsPairOf names) (map written_pair (take place pairs) ++ written_pair pair ∷ []) ys in
    let last : written_pair pair ≡ written_pair (get_or pairs place pair) = ap written_pair read in
    subst P (ap (λ y. map written_pair (take place pairs) ++ y ∷ []) last
    ∙ sym (map_more written_pair pairs place pair within))
    (subst Q (sym (map-append pair_of ids (id ∷ []))) (zip_push (IsPairOf names) _ _ _ _ so_far is))

-- the next pair is known
pub paired_more : (names : List (String Global)) (pairs : List Written) (place : ℕ)
    (ids : List (PrincipalId × PrincipalId)) (pair : Written) (id : PrincipalId × PrincipalId) →
    place < length pairs → pair ≡ get_or pairs place pair →
    IsPairOf (map string_bytes names) (written_pair pair) (pair_of id) → PairedSoFar names pairs place ids →
    PairedSoFar names pairs (place + 1) (ids ++ id ∷ [])
paired_more names pairs place ids pair id within read is so_far = record {
  known = known_more (map string_bytes names) pairs place ids pair id within read is so_far.known;
  first = λ name later. so_far.first name (earlier name later);
}
  where
    earlier : (name : List ℕ) →
        IsFirstUnknown (map string_bytes names) (mentioned_names (map written_pair (drop (place + 1) pairs))) name →
        IsFirstUnknown (map string_bytes names) (mentioned_names (map written_pair (drop place pairs))) name
    earlier name later =
        let Q : List (List ℕ) → Type 0 = λ rest. IsFirstUnknown (map string_bytes names) rest name in
        subst Q (sym (rest_mentions pairs place pair within read))
        (inr (named_is_held _ _ _ is.0, inr (named_is_held _ _ _ is.1, later)))

-- the first unknown name of the front is that of the whole
unknown_in_front : (names front rest : List (List ℕ)) (name : List ℕ) → IsFirstUnknown names front name →
    IsFirstUnknown names (front ++ rest) name
unknown_in_front names [] rest name none = absurd none
unknown_in_front names (next ∷ front) rest name (inl here) = inl here
unknown_in_front names (next ∷ front) rest name (inr later) =
    inr (later.0, unknown_in_front names front rest name later.1)

-- ---- pairs are of declared principals

named_within : (names : List (List ℕ)) (xs : List (List ℕ × List ℕ)) (ys : List (ℕ × ℕ)) →
    AllZip (IsPairOf names) xs ys → (k : ℕ) (d : ℕ × ℕ) → k < length ys →
    ((get_or ys k d).0 < length names) × ((get_or ys k d).1 < length names)
named_within names [] [] are k d below = absurd (omega arith)
named_within names [] (y ∷ ys) are k d below = absurd are
named_within names (x ∷ xs) [] are k d below = absurd (omega arith)
named_within names (x ∷ xs) (y ∷ ys) are zero d below =
    (slice_get_within names y.0 x.0 are.0.0, slice_get_within names y.1 x.1 are.0.1)
named_within names (x ∷ xs) (y ∷ ys) are (suc k) d below = named_within names xs ys are.1 k d (omega arith)

pub pairs_within : (names : List (List ℕ)) (xs : List (List ℕ × List ℕ)) (ys : List (ℕ × ℕ)) →
    AllZip (IsPairOf names) xs ys → All (λ pair. (pair.0 < length names) × (pair.1 < length names)) ys
pairs_within names xs ys are k d below = named_within names xs ys are k d below

pub ids_within : (names : List (List ℕ)) (xs : List (List ℕ × List ℕ)) (ids : List (PrincipalId × PrincipalId)) →
    length names ≤ 63 → AllZip (IsPairOf names) xs (pairs_of ids) → All (λ pair. (pair.0.0 < 63) × (pair.1.0 < 63)) ids
ids_within names xs ids few are k d below =
    let same : length (map pair_of ids) ≡ length ids = length-map ids pair_of in
    let long : k < length (map pair_of ids) = omega (arith, below, same) in
    let at : get_or (map pair_of ids) k (pair_of d) ≡ pair_of (get_or ids k d) =
    get_or-map pair_of ids k d (pair_of d) below in
    let P : ℕ × ℕ → Type 0 = λ pair. (pair.0 < length names) × (pair.1 < length names) in
    let both : (pair_of (get_or ids k d)).0 < length names × (pair_of (get_or ids k d)).1 < length names =
    subst P at (named_within names xs (pairs_of ids) are k (pair_of d) long) in
    (omega (arith, both.0, few), omega (arith, both.1, few))

pub declared_pairs : (names copied : List (String Global)) (xs : List (List ℕ × List ℕ)) (ys : List (ℕ × ℕ)) →
    All (λ name. IsName (string_bytes name)) names → length names ≤ 63 →
    map string_bytes copied ≡ map string_bytes names → IsDistinct bytes_eq (map string_bytes names) →
    AllZip (IsPairOf (map string_bytes names)) xs ys →
    IsDeclared (record { names = map string_bytes copied; pairs = ys })
declared_pairs names copied xs ys spelled few same distinct are =
    let P : List (List ℕ) → Type 0 = λ texts. IsDeclared (record { names = texts; pairs = ys }) in
    let long : length (map string_bytes names) ≡ length names = length-map names string_bytes in
    subst P (sym same) (record {
      spelled = All-map IsName string_bytes names spelled;
      names = record { few = omega (arith, few, long); distinct = distinct };
      pairs = pairs_within (map string_bytes names) xs ys are;
    })
