-- A program has one answer.
use Rattle.std.proofs.Common.{ℕ, ◌<◌, ◌≡◌, ◌∙◌, sym, ap, refl, List, [], ◌∷◌, length, arith, inl, inr}
use Rattle.std.proofs.lemmas.Bool.{cases_eq}
use Rattle.js_base.specs.declared.ids.StmtId.{StmtId}
use Rattle.std.specs.Int.{bit_at}
use Rattle.std.specs.List.{AllZip}
use Rattle.std.proofs.lemmas.List.FromFn.{length-map-range_with_len}
use Rattle.std.proofs.lemmas.List.{length-map}
use Rattle.std.proofs.lemmas.Nat.Bits.{same_from_bits_below}
use Rattle.principals.specs.ActsFor.{Declared}
use Rattle.jif_tree.specs.Numbering.{statement_numbers}
use Rattle.label_lattice.specs.declared.label.Label.{Label}
use Rattle.need_labels.specs.Labelled.{Labelled}
use Rattle.need_labels.specs.Needs.{Backing, StatementUse, IsNeed, NeedsShape, AreNeedsOf, statement_uses}
use Rattle.need_labels.proofs.FoundRows.{zip_length}
use Rattle.need_labels.proofs.Ordered.{uses_counted}

same_bit : (a b : ℕ) → a < 2 → b < 2 → (a ≡ 1 → b ≡ 1) → (b ≡ 1 → a ≡ 1) → a ≡ b
same_bit a b below under there back = elim (cases_eq a 1) [
  | inl set ↦ set ∙ sym (there set)
  | inr clear ↦ elim (cases_eq b 1) [
    | inl set ↦ absurd (clear (back set))
    | inr too ↦ omega (arith, clear, too)
  ]
]

one_word : (principals : Declared) (backing : List Backing) (first second : ℕ) → IsNeed principals backing first →
    IsNeed principals backing second → first ≡ second
one_word principals backing first second is also =
    same_from_bits_below 64 first second is.word also.word (λ p within.
    same_bit (bit_at first p) (bit_at second p) (omega arith) (omega arith)
    (λ set. (also.members p within).1 ((is.members p within).0 set))
    (λ set. (is.members p within).1 ((also.members p within).0 set)))

zip_once : {A B : Type 0} (R : A → B → Type 0) (xs : List A) (ys zs : List B) →
    ((x : A) (y z : B) → R x y → R x z → y ≡ z) → AllZip R xs ys → AllZip R xs zs → ys ≡ zs
zip_once R [] [] [] once all also = refl
zip_once R [] [] (z ∷ zs) once all also = absurd also
zip_once R [] (y ∷ ys) zs once all also = absurd all
zip_once R (x ∷ xs) [] zs once all also = absurd all
zip_once R (x ∷ xs) (y ∷ ys) [] once all also = absurd also
zip_once R (x ∷ xs) (y ∷ ys) (z ∷ zs) once all also =
    ap (λ first. first ∷ ys) (once x y z all.0 also.0) ∙ ap (λ more. z ∷ more) (zip_once R xs ys zs once all.1 also.1)

pub needs_once : (principals : Declared) (labelled : Labelled) (first second : NeedsShape) →
    AreNeedsOf principals labelled first → AreNeedsOf principals labelled second → first ≡ second
needs_once principals labelled first second are also =
    let uses : List StatementUse = statement_uses principals labelled in
    let used = are.used ∙ sym also.used in
    let need = zip_once (λ (one : StatementUse) (word : ℕ). IsNeed principals one.backing word) uses first.need
    second.need
    (λ one word other is too. one_word principals one.backing word other is too) are.need also.need in
    let loc = are.loc ∙ sym also.loc in
    let readers = are.readers ∙ sym also.readers in
    ap (λ (row : List Label). record first { used = row }) used
    ∙ ap (λ (row : List ℕ). record first { used = second.used; need = row }) need
    ∙ ap (λ (row : List Label). record first { used = second.used; need = second.need; loc = row }) loc
    ∙ ap (λ (rows : List (List StmtId)). record second { readers = rows }) readers

pub need_lengths : (principals : Declared) (labelled : Labelled) (needs : NeedsShape) →
    AreNeedsOf principals labelled needs →
    (length needs.used ≡ length (statement_numbers labelled.program))
    × (length needs.need ≡ length (statement_numbers labelled.program))
    × (length needs.loc ≡ length labelled.program.fields)
    × (length needs.readers ≡ length labelled.program.vars)
need_lengths principals labelled needs are =
    let uses : List StatementUse = statement_uses principals labelled in (
      ap length are.used ∙ length-map uses (λ one. one.used) ∙ uses_counted principals labelled,
      sym (zip_length (λ (one : StatementUse) (word : ℕ). IsNeed principals one.backing word) uses needs.need are.need)
          ∙ uses_counted principals labelled,
      ap length are.loc ∙ length-map-range_with_len _ 0 (length labelled.program.fields),
      ap length are.readers ∙ length-map-range_with_len _ 0 (length labelled.program.vars),
    )
