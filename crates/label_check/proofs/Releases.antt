-- What the policies of some principals let them release.
use Rattle.std.proofs.Common.{ℕ, ◌<◌, ◌≤◌, ◌+◌, ◌↔◌, ◌⊎◌, sym, subst, inl, inr, List, [], ◌∷◌, ◌++◌, length, get_or}
use Rattle.std.proofs.Common.{take, arith}
use Rattle.std.specs.Prelude.{Any}
use Rattle.std.proofs.lemmas.List.{take_all, take_more}
use Rattle.std.proofs.lemmas.List.Quantifiers.{Any-push}
use Rattle.js_base.specs.declared.ids.PrincipalId.{PrincipalId}
use Rattle.js_base.specs.declared.limits.TheConstants.{PRINCIPALS}
use Rattle.principals.specs.ActsFor.{Declared}
use Rattle.label_lattice.specs.declared.label.Label.{Label}
use Rattle.label_lattice.specs.declared.label.TheConstants.{READERS}
use Rattle.label_lattice.specs.Label.{Forbids, PolicyForbids, AddsPolicy}
use Rattle.label_lattice.proofs.AnyLemmas.{any_old, any_cases}

-- the new label forbids what the old one or the policy of one of these forbids
pub record Allows (principals : Declared) (authority : List PrincipalId) (old new : Label) : Type 0 where
  pub forbids : (owner reader : ℕ) → owner < PRINCIPALS → reader < READERS →
      (Forbids new owner reader ↔
      (Forbids old owner reader ⊎ Any (λ member. PolicyForbids principals member [] owner reader) authority))

pub allows_none : (principals : Declared) (label : Label) → Allows principals [] label label
allows_none principals label = record {
  forbids = λ owner reader owns reads.
      (λ set. inl set, λ either. elim either [ inl set ↦ set | inr some ↦ absurd (omega (arith, some.2)) ]);
}

allows_push : (principals : Declared) (before : List PrincipalId) (member : PrincipalId) (old now next : Label) →
    AddsPolicy now next principals member [] → Allows principals before old now →
    Allows principals (before ++ member ∷ []) old next
allows_push principals before member old now next adds so_far = record { forbids = both }
  where
    P : ℕ → ℕ → PrincipalId → Type 0
    P owner reader m = PolicyForbids principals m [] owner reader

    there : (owner reader : ℕ) → owner < PRINCIPALS → reader < READERS → Forbids next owner reader →
        Forbids old owner reader ⊎ Any (P owner reader) (before ++ member ∷ [])
    there owner reader owns reads set = elim ((adds owner reader owns reads).0 set) [
      | inl already ↦ elim ((so_far.forbids owner reader owns reads).0 already) [
        | inl first ↦ inl first
        | inr some ↦ inr (any_old (P owner reader) before member some)
      ]
      | inr new ↦ inr (Any-push (P owner reader) before member new)
    ]

    back : (owner reader : ℕ) → owner < PRINCIPALS → reader < READERS →
        Forbids old owner reader ⊎ Any (P owner reader) (before ++ member ∷ []) → Forbids next owner reader
    back owner reader owns reads (inl first) =
        (adds owner reader owns reads).1 (inl ((so_far.forbids owner reader owns reads).1 (inl first)))
    back owner reader owns reads (inr some) = elim (any_cases (P owner reader) before member some) [
      | inl already ↦
          (adds owner reader owns reads).1 (inl ((so_far.forbids owner reader owns reads).1 (inr already)))
      | inr here ↦ (adds owner reader owns reads).1 (inr here)
    ]

    both : (owner reader : ℕ) → owner < PRINCIPALS → reader < READERS →
        (Forbids next owner reader ↔ (Forbids old owner reader ⊎ Any (P owner reader) (before ++ member ∷ [])))
    both owner reader owns reads = (there owner reader owns reads, back owner reader owns reads)

pub allows_more : (principals : Declared) (authority : List PrincipalId) (place : ℕ) (e : PrincipalId)
    (old now next : Label) → place < length authority → AddsPolicy now next principals (get_or authority place e) [] →
    Allows principals (take place authority) old now → Allows principals (take (place + 1) authority) old next
allows_more principals authority place e old now next within adds so_far =
    let Q : List PrincipalId → Type 0 = λ members. Allows principals members old next in
    subst Q (sym (take_more authority place e within))
    (allows_push principals (take place authority) (get_or authority place e) old now next adds so_far)

pub allows_all : (principals : Declared) (authority : List PrincipalId) (place : ℕ) (old now : Label) →
    length authority ≤ place → Allows principals (take place authority) old now → Allows principals authority old now
allows_all principals authority place old now all so_far =
    let Q : List PrincipalId → Type 0 = λ members. Allows principals members old now in
    subst Q (take_all place authority all) so_far
